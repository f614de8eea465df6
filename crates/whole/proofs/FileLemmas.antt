-- The files after calls that hold back, and after those that end a run.
use Rattle.std.proofs.Common.{◌≡◌, ℕ, zero, suc, List, [], ◌∷◌, ◌++◌, Bool, true, false, nat_eq, map, take, length, refl, sym, ap, ◌∙◌, ◌⊎◌, inl, inr, Option, Some, None, subst, take_all, le_refl}
use Rattle.std.specs.Cmp.Lexicographic.{pointwise, bytes_decides}
use Rattle.std.proofs.lemmas.List.Elements.{All-head, All-tail}
use Rattle.ed_syntax.specs.declared.request.Request.{Request}
use Rattle.ed_syntax.specs.declared.request.Request.TheVariants as request
use Rattle.ed_session.specs.Drives.{Log}
use Rattle.ed_session.specs.KeptAnswers.{Files}
use Rattle.ed_session.specs.MemFiles.{file_at}
use Rattle.rehearsal.specs.Rehearsals.{files_after, files_at_end, written}
use Rattle.whole.specs.Deeds.{Deed, NothingPut, put_paths, run_log}
use Rattle.whole.specs.LeftFiles.{left_files, next_drafts, with_file}
use Rattle.whole.proofs.DeedLemmas.{Holding, not-so}

-- where no draft is put, all files stay
pub unput-same : (drafts files : Files) (deeds : List Deed) → put_paths deeds ≡ [] → left_files drafts files deeds ≡ files
unput-same drafts files [] e = refl
unput-same drafts files (Deed.Read p given ∷ deeds) e = unput-same drafts files deeds e
unput-same drafts files (Deed.ReadDraft p given ∷ deeds) e = unput-same drafts files deeds e
unput-same drafts files (Deed.Draft p bytes given ∷ deeds) e = unput-same ((p, bytes) ∷ drafts) files deeds e
unput-same drafts files (Deed.Ready p done ∷ deeds) e = unput-same drafts files deeds e
unput-same drafts files (Deed.Put p true ∷ deeds) e = absurd cc
unput-same drafts files (Deed.Put p false ∷ deeds) e = unput-same drafts files deeds e
unput-same drafts files (Deed.Discard p ∷ deeds) e = unput-same drafts files deeds e
unput-same drafts files (Deed.Settle p ∷ deeds) e = unput-same drafts files deeds e

-- the drafts after calls
abbrev pub drafts_left : Files → List Deed → Files
drafts_left drafts [] = drafts
drafts_left drafts (deed ∷ deeds) = drafts_left (next_drafts drafts deed) deeds

-- they are what the run has written
pub drafts-written : (drafts : Files) (deeds : List Deed) → drafts_left drafts deeds ≡ files_at_end drafts (run_log deeds)
drafts-written drafts [] = refl
drafts-written drafts (Deed.Read p given ∷ deeds) = drafts-written drafts deeds
drafts-written drafts (Deed.ReadDraft p given ∷ deeds) = drafts-written drafts deeds
drafts-written drafts (Deed.Draft p bytes given ∷ deeds) = drafts-written ((p, bytes) ∷ drafts) deeds
drafts-written drafts (Deed.Ready p done ∷ deeds) = drafts-written drafts deeds
drafts-written drafts (Deed.Put p done ∷ deeds) = drafts-written drafts deeds
drafts-written drafts (Deed.Discard p ∷ deeds) = drafts-written drafts deeds
drafts-written drafts (Deed.Settle p ∷ deeds) = drafts-written drafts deeds

-- the files after calls that hold back, and others
pub held-first : (drafts files : Files) (deeds rest : List Deed) → NothingPut deeds →
    left_files drafts files (deeds ++ rest) ≡ left_files (drafts_left drafts deeds) files rest
held-first drafts files [] rest all = refl
held-first drafts files (Deed.Read p given ∷ deeds) rest all =
    held-first drafts files deeds rest (All-tail Holding (Deed.Read p given) deeds all)
held-first drafts files (Deed.ReadDraft p given ∷ deeds) rest all =
    held-first drafts files deeds rest (All-tail Holding (Deed.ReadDraft p given) deeds all)
held-first drafts files (Deed.Draft p bytes given ∷ deeds) rest all =
    held-first ((p, bytes) ∷ drafts) files deeds rest (All-tail Holding (Deed.Draft p bytes given) deeds all)
held-first drafts files (Deed.Ready p done ∷ deeds) rest all = not-so (All-head Holding (Deed.Ready p done) deeds all)
held-first drafts files (Deed.Put p done ∷ deeds) rest all = not-so (All-head Holding (Deed.Put p done) deeds all)
held-first drafts files (Deed.Discard p ∷ deeds) rest all = not-so (All-head Holding (Deed.Discard p) deeds all)
held-first drafts files (Deed.Settle p ∷ deeds) rest all = not-so (All-head Holding (Deed.Settle p) deeds all)

-- at a path there is what was there before, or what its draft has
abbrev pub OldOrDraft : (drafts files now : Files) → List ℕ → Type 0
OldOrDraft drafts files now q =
    (file_at q now ≡ file_at q files) ⊎ ((bytes : List ℕ) × (file_at q drafts ≡ Some bytes) × (file_at q now ≡ Some bytes))

old-or-later : (drafts files mid now : Files) (q : List ℕ) → OldOrDraft drafts files mid q → OldOrDraft drafts mid now q →
    OldOrDraft drafts files now q
old-or-later drafts files mid now q first (inr later) = inr later
old-or-later drafts files mid now q (inl same) (inl e) = inl (e ∙ same)
old-or-later drafts files mid now q (inr w) (inl e) = inr (w.0, w.1, e ∙ w.2)

-- what is at a path where one file comes first, which has that path or not
abbrev at_first : Bool → List ℕ → Option (List ℕ) → Option (List ℕ)
at_first same bytes later = elim same [ true ↦ Some bytes | false ↦ later ]

put-first : (drafts files : Files) (p q bytes : List ℕ) (same : Bool) → (same ≡ true → p ≡ q) →
    file_at p drafts ≡ Some bytes →
    (at_first same bytes (file_at q files) ≡ file_at q files)
    ⊎ ((b : List ℕ) × (file_at q drafts ≡ Some b) × (at_first same bytes (file_at q files) ≡ Some b))
put-first drafts files p q bytes true equal e = inr (bytes, ap (λ x. file_at x drafts) (sym (equal refl)) ∙ e, refl)
put-first drafts files p q bytes false equal e = inl refl

put-one : (drafts files : Files) (p q : List ℕ) (o : Option (List ℕ)) → file_at p drafts ≡ o →
    OldOrDraft drafts files (with_file p o files) q
put-one drafts files p q None e = inl refl
put-one drafts files p q (Some bytes) e = put-first drafts files p q bytes (pointwise nat_eq p q) (bytes_decides p q).0 e

-- at each moment of the end of a run
pub end-moments : (drafts files : Files) (deeds : List Deed) → run_log deeds ≡ [] → (count : ℕ) (q : List ℕ) →
    OldOrDraft drafts files (left_files drafts files (take count deeds)) q
end-moments drafts files deeds e zero q = inl refl
end-moments drafts files [] e (suc n) q = inl refl
end-moments drafts files (Deed.Read p given ∷ deeds) e (suc n) q = absurd cc
end-moments drafts files (Deed.ReadDraft p given ∷ deeds) e (suc n) q = absurd cc
end-moments drafts files (Deed.Draft p bytes given ∷ deeds) e (suc n) q = absurd cc
end-moments drafts files (Deed.Ready p done ∷ deeds) e (suc n) q = end-moments drafts files deeds e n q
end-moments drafts files (Deed.Put p true ∷ deeds) e (suc n) q =
    let mid = with_file p (file_at p drafts) files in
    old-or-later drafts files mid _ q (put-one drafts files p q (file_at p drafts) refl) (end-moments drafts mid deeds e n q)
end-moments drafts files (Deed.Put p false ∷ deeds) e (suc n) q = end-moments drafts files deeds e n q
end-moments drafts files (Deed.Discard p ∷ deeds) e (suc n) q = end-moments drafts files deeds e n q
end-moments drafts files (Deed.Settle p ∷ deeds) e (suc n) q = end-moments drafts files deeds e n q

pub end-files : (drafts files : Files) (deeds : List Deed) → run_log deeds ≡ [] → (q : List ℕ) →
    OldOrDraft drafts files (left_files drafts files deeds) q
end-files drafts files deeds e q =
    subst (λ these. OldOrDraft drafts files (left_files drafts files these) q) (take_all (length deeds) deeds (le_refl (length deeds)))
    (end-moments drafts files deeds e (length deeds) q)

-- at each moment of a run and of its end
pub all-moments : (drafts files : Files) (deeds last : List Deed) → NothingPut deeds → run_log last ≡ [] →
    (count : ℕ) (q : List ℕ) →
    OldOrDraft (drafts_left drafts deeds) files (left_files drafts files (take count (deeds ++ last))) q
all-moments drafts files [] last all e count q = end-moments drafts files last e count q
all-moments drafts files (deed ∷ deeds) last all e zero q = inl refl
all-moments drafts files (Deed.Read p given ∷ deeds) last all e (suc n) q =
    all-moments drafts files deeds last (All-tail Holding (Deed.Read p given) deeds all) e n q
all-moments drafts files (Deed.ReadDraft p given ∷ deeds) last all e (suc n) q =
    all-moments drafts files deeds last (All-tail Holding (Deed.ReadDraft p given) deeds all) e n q
all-moments drafts files (Deed.Draft p bytes given ∷ deeds) last all e (suc n) q =
    all-moments ((p, bytes) ∷ drafts) files deeds last (All-tail Holding (Deed.Draft p bytes given) deeds all) e n q
all-moments drafts files (Deed.Ready p done ∷ deeds) last all e (suc n) q = not-so (All-head Holding (Deed.Ready p done) deeds all)
all-moments drafts files (Deed.Put p done ∷ deeds) last all e (suc n) q = not-so (All-head Holding (Deed.Put p done) deeds all)
all-moments drafts files (Deed.Discard p ∷ deeds) last all e (suc n) q = not-so (All-head Holding (Deed.Discard p) deeds all)
all-moments drafts files (Deed.Settle p ∷ deeds) last all e (suc n) q = not-so (All-head Holding (Deed.Settle p) deeds all)

after-append : (xs files : Files) (asked : Request) → files_after (xs ++ files) asked ≡ files_after xs asked ++ files
after-append xs files (request.Read p) = refl
after-append xs files (request.Write p bytes) = refl

-- what a run has written comes before what was there
written-first : (xs files : Files) (log : Log) → files_at_end (xs ++ files) log ≡ files_at_end xs log ++ files
written-first xs files [] = refl
written-first xs files (entry ∷ log) =
    ap (λ these. files_at_end these log) (after-append xs files entry.0) ∙ written-first (files_after xs entry.0) files log

some-later : (same : Bool) (first b : List ℕ) (short long : Option (List ℕ)) → (short ≡ Some b → long ≡ Some b) →
    at_first same first short ≡ Some b → at_first same first long ≡ Some b
some-later true first b short long more e = e
some-later false first b short long more e = more e

at-some : (q b : List ℕ) (xs files : Files) → file_at q xs ≡ Some b → file_at q (xs ++ files) ≡ Some b
at-some q b [] files e = absurd cc
at-some q b (x ∷ xs) files e =
    some-later (pointwise nat_eq x.0 q) x.1 b (file_at q xs) (file_at q (xs ++ files)) (at-some q b xs files) e

none-later : (same : Bool) (first : List ℕ) (short long others : Option (List ℕ)) → (short ≡ None → long ≡ others) →
    at_first same first short ≡ None → at_first same first long ≡ others
none-later true first short long others more e = absurd cc
none-later false first short long others more e = more e

at-none : (q : List ℕ) (xs files : Files) → file_at q xs ≡ None → file_at q (xs ++ files) ≡ file_at q files
at-none q [] files e = refl
at-none q (x ∷ xs) files e =
    none-later (pointwise nat_eq x.0 q) x.1 (file_at q xs) (file_at q (xs ++ files)) (file_at q files) (at-none q xs files) e

-- a run leaves what it has written, and else what was there
pub run-some : (q b : List ℕ) (files : Files) (log : Log) → file_at q (written log) ≡ Some b →
    file_at q (files_at_end files log) ≡ Some b
run-some q b files log e = ap (file_at q) (written-first [] files log) ∙ at-some q b (written log) files e

pub run-none : (q : List ℕ) (files : Files) (log : Log) → file_at q (written log) ≡ None →
    file_at q (files_at_end files log) ≡ file_at q files
run-none q files log e = ap (file_at q) (written-first [] files log) ∙ at-none q (written log) files e

-- calls that make ready leave all files
pub ready-first : (drafts files : Files) (ps : List (List ℕ)) (rest : List Deed) →
    left_files drafts files (map (λ p. Deed.Ready p true) ps ++ rest) ≡ left_files drafts files rest
ready-first drafts files [] rest = refl
ready-first drafts files (p ∷ ps) rest = ready-first drafts files ps rest
