-- What is known of a rehearsal stays when its real files are asked for one more read.
use Rattle.std.proofs.Common.{◌≡◌, ℕ, List, [], ◌∷◌, ◌++◌, true, refl, sym, arith, Some, None}
use Rattle.std.specs.Prelude.{All, Contains}
use Rattle.std.proofs.Math.Logic.{∥∥₁_map}
use Rattle.std.proofs.lemmas.List.Elements.{All-append, Contains-append_left}
use Rattle.ed_syntax.specs.declared.request.Answer.{Answer}
use Rattle.ed_syntax.specs.declared.request.Request.{Request}
use Rattle.ed_syntax.specs.declared.request.Request.TheVariants as request
use Rattle.ed_session.specs.Drives.{Log}
use Rattle.ed_session.specs.KeptAnswers.{Files}
use Rattle.rehearsal.specs.Rehearsals.{AllRead, Answered, ReadsAtMost, Rehearses, Shown, files_after, is_read}
use Rattle.rehearsal.specs.Insides.{Holds}

longer-shown : (real more : Log) (made : Files) (path : List ℕ) (given : Answer) → Shown real made path given → Shown (real ++ more) made path given
longer-shown real more made path given s = record {
  as_written = s.as_written;
  as_real = λ none. ∥∥₁_map (s.as_real none) (Contains-append_left real more (request.Read path, given));
}

pub still-shown : (asked : List ℕ) (old new : Log) → ReadsAtMost asked old new →
    (made : Files) (path : List ℕ) (given : Answer) → Shown old made path given → Shown new made path given
still-shown asked old new (ReadsAtMost.none e) made path given s = rw e s
still-shown asked old new (ReadsAtMost.one a e) made path given s = rw e (longer-shown old ((request.Read asked, a) ∷ []) made path given s)

still-answered : (asked : List ℕ) (old new : Log) → ReadsAtMost asked old new →
    (made : Files) (entry : Request) (given : Answer) → Answered old made entry given → Answered new made entry given
still-answered asked old new more made (request.Read path) given s = still-shown asked old new more made path given s
still-answered asked old new more made (request.Write path bytes) given s = s

pub still-rehearses : (asked : List ℕ) (old new : Log) → ReadsAtMost asked old new →
    (made : Files) (log : Log) → Rehearses old made log → Rehearses new made log
still-rehearses asked old new more made [] r = tt
still-rehearses asked old new more made (entry ∷ log) r =
    (still-answered asked old new more made entry.0 entry.1 r.0, still-rehearses asked old new more (files_after made entry.0) log r.1)

pub still-holds : (asked : List ℕ) (old new : Log) → ReadsAtMost asked old new →
    (files made : Files) → Holds old files made → Holds new files made
still-holds asked old new more files made h = record {
  shown = λ path bytes e. still-shown asked old new more made path _ (h.shown path bytes e);
  kept = h.kept;
}

one-read : (path : List ℕ) (given : Answer) → AllRead ((request.Read path, given) ∷ [])
one-read path given k d below = let z : k ≡ 0 = omega arith in rw z refl

pub still-read : (asked : List ℕ) (old new : Log) → ReadsAtMost asked old new → AllRead old → AllRead new
still-read asked old new (ReadsAtMost.none e) all = rw e all
still-read asked old new (ReadsAtMost.one a e) all =
    rw e (All-append (λ (entry : Request × Answer). is_read entry.0 ≡ true) old ((request.Read asked, a) ∷ []) all (one-read asked a))
