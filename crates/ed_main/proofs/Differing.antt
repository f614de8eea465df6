-- Diffs that a sink took, one after the other.
use Rattle.std.proofs.Common.{◌≡◌, ℕ, ◌+◌, ◌<◌, ◌⊎◌, inl, inr, Bool, length, take, get_or, List, [], ◌∷◌, ◌++◌, Option, Some, None, refl, sym, ap, subst, ◌∙◌}
use Rattle.std.specs.Prelude.{Contains, Result, Ok, Err, OnOk}
use Rattle.std.specs.List.{AllZip, concat}
use Rattle.std.specs.Io.KnownBytes.{Appends}
use Rattle.std.proofs.lemmas.List.{append-nil, append_assoc, take_more}
use Rattle.std.proofs.lemmas.List.Elements.{AllZip-push, Contains-append_left, Contains-push}
use Rattle.std.proofs.lemmas.List.Folds.{concat-append}
use Rattle.ed_syntax.specs.declared.request.Answer.{Answer}
use Rattle.ed_syntax.specs.declared.request.Answer.TheVariants as answer
use Rattle.ed_syntax.specs.declared.request.Request.TheVariants as request
use Rattle.ed_session.specs.Drives.{Log}
use Rattle.ed_session.specs.KeptAnswers.{Files}
use Rattle.ed_session.specs.Sinks.{SinkState, Took, change}
use Rattle.rehearsal.specs.Rehearsals.{files_after, files_at_end, written}
use Rattle.ed_session.specs.MemFiles.{file_at}
use Rattle.ed_main.specs.Diffs.{GoesOn, IsChange, IsFound, ShowsFile, ShowsFiles}

found_longer : (path : List ℕ) (old new : Log) (found : Answer) → GoesOn old new → IsFound path old found → IsFound path new found
found_longer path old new found on (inl has) =
    inl (subst (λ log. Contains log (request.Read path, found)) (sym on.1) (Contains-append_left old on.0 (request.Read path, found) has))
found_longer path old new found on (inr none) = inr none

file_longer : (colours : Bool) (made : Files) (old new : Log) (path diff : List ℕ) → GoesOn old new → ShowsFile colours made old path diff
    → ShowsFile colours made new path diff
file_longer colours made old new path diff on shows =
    record { found = shows.found; is_found = found_longer path old new shows.found on shows.is_found; shown = shows.shown }

files_longer : (colours : Bool) (made : Files) (old new : Log) (paths diffs : List (List ℕ)) → GoesOn old new
    → AllZip (ShowsFile colours made old) paths diffs → AllZip (ShowsFile colours made new) paths diffs
files_longer colours made old new [] [] on each = each
files_longer colours made old new [] (diff ∷ diffs) on each = each
files_longer colours made old new (path ∷ paths) [] on each = each
files_longer colours made old new (path ∷ paths) (diff ∷ diffs) on each =
    (file_longer colours made old new path diff on each.0, files_longer colours made old new paths diffs on each.1)

appends_none : (taken : Option (List ℕ)) → Appends taken taken []
appends_none None = tt
appends_none (Some bytes) = sym (append-nil bytes)

appends_more : (a b c : Option (List ℕ)) (x y : List ℕ) → Appends a b x → Appends b c y → Appends a c (x ++ y)
appends_more None b c x y p q = tt
appends_more (Some a) None c x y p q = absurd p
appends_more (Some a) (Some b) None x y p q = absurd q
appends_more (Some a) (Some b) (Some c) x y p q = q ∙ ap (λ t. t ++ y) p ∙ append_assoc a x y

pub shows_none : (colours : Bool) (made : Files) (real : Log) (state : SinkState) → ShowsFiles colours made real [] (change state state)
shows_none colours made real state = record { diffs = []; each = tt; took = appends_none state.taken }

pub shows_more : (colours : Bool) (made : Files) (old new : Log) (paths : List (List ℕ)) (path diff : List ℕ) (first before after : SinkState)
    → ShowsFiles colours made old paths (change first before) → GoesOn old new → ShowsFile colours made new path diff → Took (change before after) diff
    → ShowsFiles colours made new (paths ++ path ∷ []) (change first after)
shows_more colours made old new paths path diff first before after shows on one took = record {
  diffs = shows.diffs ++ diff ∷ [];
  each = AllZip-push (ShowsFile colours made new) paths shows.diffs path diff (files_longer colours made old new paths shows.diffs on shows.each) one;
  took =
      subst (λ text. Appends first.taken after.taken text)
      (sym (concat-append shows.diffs (diff ∷ []) ∙ ap (λ more. concat shows.diffs ++ more) (append-nil diff)))
      (appends_more first.taken before.taken after.taken (concat shows.diffs) diff shows.took took);
}

-- a log of no entry more
pub goes_nowhere : (log : Log) → GoesOn log log
goes_nowhere log = ([], sym (append-nil log))

-- a read of a file changes none
read_last : (files : Files) (log : Log) (path : List ℕ) (given : Answer) → files_at_end files (log ++ (request.Read path, given) ∷ []) ≡ files_at_end files log
read_last files [] path given = refl
read_last files (entry ∷ log) path given = read_last (files_after files entry.0) log path given

pub written_read : (log new : Log) (path : List ℕ) (given : Answer) → new ≡ log ++ (request.Read path, given) ∷ [] → written new ≡ written log
written_read log new path given is = ap written is ∙ read_last [] log path given

-- the bytes of an answer, or these
bytes_or : List ℕ → Answer → List ℕ
bytes_or other (answer.Bytes bytes) = bytes
bytes_or other answer.Missing = other
bytes_or other answer.Refused = other
bytes_or other answer.Done = other

same_bytes : (one other : List ℕ) → answer.Bytes one ≡ answer.Bytes other → one ≡ other
unfolding bytes_or
same_bytes one other is = ap (bytes_or one) is

-- what a read shows in a rehearsal is what was written there last
pub shows_told : (colours : Bool) (made : Files) (real : Log) (path told diff : List ℕ) (found given : Answer) → IsFound path real found
    → given ≡ answer.Bytes told → ((bytes : List ℕ) → file_at path made ≡ Some bytes → given ≡ answer.Bytes bytes) → IsChange colours path found told diff
    → ShowsFile colours made real path diff
shows_told colours made real path told diff found given is_found is as_written change = record {
  found = found;
  is_found = is_found;
  shown = λ bytes at. subst (λ t. IsChange colours path found t diff) (same_bytes told bytes (sym is ∙ as_written bytes at)) change;
}

-- it has bytes
abbrev pub has_bytes : Answer → Type 0
has_bytes (answer.Bytes bytes) = Unit {0}
has_bytes answer.Missing = ⊥
has_bytes answer.Refused = ⊥
has_bytes answer.Done = ⊥

pub has_none : (given : Answer) → (given ≡ answer.Missing) ⊎ ((given ≡ answer.Refused) ⊎ (given ≡ answer.Done)) → has_bytes given → ⊥
has_none given (inl is) has = subst has_bytes is has
has_none given (inr (inl is)) has = subst has_bytes is has
has_none given (inr (inr is)) has = subst has_bytes is has

-- what has no bytes was never written
pub shows_untold : (colours : Bool) (made : Files) (real : Log) (path diff : List ℕ) (found given : Answer) → IsFound path real found
    → (has_bytes given → ⊥) → ((bytes : List ℕ) → file_at path made ≡ Some bytes → given ≡ answer.Bytes bytes) → ShowsFile colours made real path diff
shows_untold colours made real path diff found given is_found none as_written = record {
  found = found;
  is_found = is_found;
  shown = λ bytes at. absurd (none (subst has_bytes (sym (as_written bytes at)) tt));
}

-- what a read was answered, and the log after it
pub found_read : (path : List ℕ) (old new : Log) (given : Answer) → new ≡ old ++ (request.Read path, given) ∷ [] → IsFound path new given
found_read path old new given is =
    inl (subst (λ log. Contains log (request.Read path, given)) (sym is) (Contains-push old (request.Read path, given)))

pub on_read : (path : List ℕ) (old new : Log) (given : Answer) → new ≡ old ++ (request.Read path, given) ∷ [] → GoesOn old new
on_read path old new given is = ((request.Read path, given) ∷ [], is)

-- what holds anyhow holds of what was answered
pub on_ok : {T E : Type 0} {P : Type 0} (result : Result T E) → P → OnOk result P
on_ok (Ok value) holds = holds
on_ok (Err fault) holds = tt

-- the diffs of one path more, of which the code has the path and the diff as slices
pub one_more : (colours : Bool) (now made : Files) (old new : Log) (paths : List (List ℕ)) (i : ℕ) (path shown diff given : List ℕ) (first before after : SinkState)
    → i < length paths → path ≡ get_or paths i path → shown ≡ path → given ≡ diff → now ≡ made
    → ShowsFiles colours made old (take i paths) (change first before) → GoesOn old new → ShowsFile colours now new shown diff
    → Took (change before after) given → ShowsFiles colours made new (take (i + 1) paths) (change first after)
one_more colours now made old new paths i path shown diff given first before after within is at same kept shows on one took =
    let here : ShowsFile colours made new path diff = subst (λ p. ShowsFile colours made new p diff) at (subst (λ m. ShowsFile colours m new shown diff) kept one) in
    let all : ShowsFiles colours made new (take i paths ++ path ∷ []) (change first after) =
    shows_more colours made old new (take i paths) path diff first before after shows on here (subst (λ bytes. Took (change before after) bytes) same took) in
    subst (λ p. ShowsFiles colours made new p (change first after)) (sym (take_more paths i path within ∙ ap (λ p. take i paths ++ p ∷ []) (sym is))) all
