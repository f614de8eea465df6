-- Paths that are written, each once, as one more is written.
use Rattle.std.proofs.Common.{◌≡◌, ℕ, List, [], ◌∷◌, ◌++◌, Bool, true, false, ◌||◌, ◌<◌, nat_eq, suc, length, drop, get_or, drop-cons, refl, sym, ap, ◌∙◌, subst, append-nil, ◌⊎◌, inl, inr, Some}
use Rattle.std.specs.Cmp.Lexicographic.{pointwise, bytes_decides}
use Rattle.ed_syntax.specs.declared.request.Request.{Request}
use Rattle.ed_syntax.specs.declared.request.Request.TheVariants as request
use Rattle.ed_session.specs.Drives.{Log}
use Rattle.ed_session.specs.KeptAnswers.{Files}
use Rattle.ed_session.specs.MemFiles.{file_at}
use Rattle.rehearsal.specs.Rehearsals.{files_after, files_at_end}
use Rattle.whole.specs.Paths.{each_once, is_in, more_paths, without, write_path, write_paths}

pub at-true : {A : Type 0} (test : Bool) (x y : A) → test ≡ true → (elim test [ true ↦ x | false ↦ y ]) ≡ x
at-true test x y e = subst (λ b. (elim b [ true ↦ x | false ↦ y ]) ≡ x) (sym e) refl

pub at-false : {A : Type 0} (test : Bool) (x y : A) → test ≡ false → (elim test [ true ↦ x | false ↦ y ]) ≡ y
at-false test x y e = subst (λ b. (elim b [ true ↦ x | false ↦ y ]) ≡ y) (sym e) refl

or-cong : (a b c : Bool) → (a ≡ false → b ≡ c) → (a || b) ≡ (a || c)
or-cong true b c e = refl
or-cong false b c e = e refl

-- these paths, with a first one before them unless it is the one that is left out
abbrev unless : Bool → List ℕ → List (List ℕ) → List (List ℕ)
unless same first rest = elim same [ true ↦ rest | false ↦ first ∷ rest ]

without-in : (q p w : List ℕ) (ws : List (List ℕ)) (same : Bool) → pointwise nat_eq p q ≡ false → (same ≡ true → p ≡ w) →
    is_in q (without p ws) ≡ is_in q ws → is_in q (unless same w (without p ws)) ≡ (pointwise nat_eq w q || is_in q ws)
without-in q p w ws true other equal rest =
    let e : pointwise nat_eq w q ≡ false = ap (λ x. pointwise nat_eq x q) (sym (equal refl)) ∙ other in
    rest ∙ sym (ap (λ b. b || is_in q ws) e)
without-in q p w ws false other equal rest = ap (λ b. pointwise nat_eq w q || b) rest

in-without : (q p : List ℕ) (ws : List (List ℕ)) → pointwise nat_eq p q ≡ false → is_in q (without p ws) ≡ is_in q ws
in-without q p [] other = refl
in-without q p (w ∷ ws) other = without-in q p w ws (pointwise nat_eq p w) other (bytes_decides p w).0 (in-without q p ws other)

-- a path that is written is one of those that were written once
pub in-each_once : (q : List ℕ) (ws : List (List ℕ)) → is_in q (each_once ws) ≡ is_in q ws
in-each_once q [] = refl
in-each_once q (w ∷ ws) = or-cong (pointwise nat_eq w q) _ _ (λ other. in-without q w (each_once ws) other ∙ in-each_once q ws)

without-first : (x : List ℕ) (same : Bool) (front rest all : List (List ℕ)) → all ≡ front ++ rest →
    unless same x all ≡ unless same x front ++ rest
without-first x true front rest all e = e
without-first x false front rest all e = ap (λ l. x ∷ l) e

without-append : (p : List ℕ) (xs ys : List (List ℕ)) → without p (xs ++ ys) ≡ without p xs ++ without p ys
without-append p [] ys = refl
without-append p (x ∷ xs) ys = without-first x (pointwise nat_eq p x) (without p xs) (without p ys) _ (without-append p xs ys)

more-first : (w p : List ℕ) (once : List (List ℕ)) (same known : Bool) → pointwise nat_eq w p ≡ same →
    w ∷ without w (more_paths known once p) ≡ more_paths (same || known) (w ∷ without w once) p
more-first w p once true true e = refl
more-first w p once false true e = refl
more-first w p once true false e =
    let gone : without w (p ∷ []) ≡ [] = at-true (pointwise nat_eq w p) [] (p ∷ []) e in
    ap (λ l. w ∷ l) (without-append w once (p ∷ []) ∙ ap (λ l. without w once ++ l) gone ∙ append-nil (without w once))
more-first w p once false false e =
    let kept : without w (p ∷ []) ≡ p ∷ [] = at-false (pointwise nat_eq w p) [] (p ∷ []) e in
    ap (λ l. w ∷ l) (without-append w once (p ∷ []) ∙ ap (λ l. without w once ++ l) kept)

-- one more path is written
pub each_once-more : (ws : List (List ℕ)) (p : List ℕ) → each_once (ws ++ p ∷ []) ≡ more_paths (is_in p ws) (each_once ws) p
each_once-more [] p = refl
each_once-more (w ∷ ws) p =
    ap (λ l. w ∷ without w l) (each_once-more ws p) ∙ more-first w p (each_once ws) (pointwise nat_eq w p) (is_in p ws) refl

write-found : (q b c : List ℕ) (ws : List (List ℕ)) (files : Files) (same : Bool) →
    (is_in q ws ≡ true) ⊎ ((elim same [ true ↦ Some c | false ↦ file_at q files ]) ≡ Some b) →
    ((same || is_in q ws) ≡ true) ⊎ (file_at q files ≡ Some b)
write-found q b c ws files true h = inl refl
write-found q b c ws files false h = h

request-found : (q b : List ℕ) (asked : Request) (log : Log) (files : Files) →
    ((these : Files) → file_at q (files_at_end these log) ≡ Some b →
    (is_in q (write_paths log) ≡ true) ⊎ (file_at q these ≡ Some b)) →
    file_at q (files_at_end (files_after files asked) log) ≡ Some b →
    (is_in q (write_path asked ++ write_paths log) ≡ true) ⊎ (file_at q files ≡ Some b)
request-found q b (request.Read p) log files found e = found files e
request-found q b (request.Write p c) log files found e =
    write-found q b c (write_paths log) files (pointwise nat_eq p q) (found ((p, c) ∷ files) e)

-- a file that is there after a log was written in it, or was there before
pub found-written : (q b : List ℕ) (log : Log) (files : Files) → file_at q (files_at_end files log) ≡ Some b →
    (is_in q (write_paths log) ≡ true) ⊎ (file_at q files ≡ Some b)
found-written q b [] files e = inr e
found-written q b (entry ∷ log) files e = request-found q b entry.0 log files (found-written q b log) e

-- the path that a search has come to is the one that it looks for
pub found-here : (path : List ℕ) (paths : List (List ℕ)) (i : ℕ) (known : List ℕ) → i < length paths →
    known ≡ get_or paths i known →
    pointwise nat_eq known path ≡ true → is_in path (drop i paths) ≡ true
found-here path paths i known within is equal =
    let after : drop i paths ≡ known ∷ drop (suc i) paths = drop-cons paths i known within
    ∙ ap (λ f. f ∷ drop (suc i) paths) (sym is) in
    ap (is_in path) after ∙ ap (λ b. b || is_in path (drop (suc i) paths)) equal
