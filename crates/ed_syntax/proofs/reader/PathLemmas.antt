-- Paths: what is read is spelled so, and what is spelled so is read.
use Rattle.std.proofs.Common.{◌≡◌, ℕ, true, nat_eq, List, [], ◌∷◌, Option, Some, None, refl, ap, ◌∙◌, subst}
use Rattle.std.proofs.lemmas.Bool.{eqb-false, ne_eqb}
use Rattle.std.proofs.lemmas.List.Elements.{All-nil, All-cons, All-head, All-tail}
use Rattle.ed_syntax.specs.spelling.Characters.{exclamation_mark, is_blank, after_blanks}
use Rattle.ed_syntax.specs.spelling.Parameters.{SpellsPath}
use Rattle.ed_syntax.specs.reading.ReadVerbs.{name_of, path_at}
use Rattle.ed_syntax.proofs.meaning.StepLemmas.{Some-same, none_some, chosen, either}
use Rattle.ed_syntax.proofs.reader.BlankLemmas.{IsBlank, only_blanks, no_others}

-- a path that is read of these bytes is spelled so
abbrev PathRead : List ℕ → Option (Option (List ℕ)) → Type 0
PathRead text read = (path : Option (List ℕ)) → read ≡ Some path → SpellsPath text path

-- a name that is read after a blank
name-sound : (blank : ℕ) (text rest : List ℕ) → is_blank blank ≡ true → after_blanks text ≡ rest → PathRead (blank ∷ text) (name_of rest)
name-sound blank text [] is none = λ path same.
    subst (SpellsPath (blank ∷ text)) (Some-same None path same) (SpellsPath.none (blank ∷ text) (All-cons IsBlank blank text is (only_blanks text none)))
name-sound blank text (b ∷ bs) is split =
    either (PathRead (blank ∷ text)) (nat_eq b exclamation_mark) None (Some (Some (b ∷ bs)))
    (λ shell path same. absurd (none_some same))
    (λ other path same. subst (SpellsPath (blank ∷ text)) (Some-same (Some (b ∷ bs)) path same) (SpellsPath.given blank b text bs is split (eqb-false b exclamation_mark other)))

-- a path that is read is spelled so
pub path-sound : (text : List ℕ) → PathRead text (path_at text)
path-sound [] = λ path same. subst (SpellsPath []) (Some-same None path same) (SpellsPath.none [] (All-nil IsBlank))
path-sound (b ∷ bs) =
    either (PathRead (b ∷ bs)) (is_blank b) (name_of (after_blanks bs)) None
    (λ blank. name-sound b bs (after_blanks bs) blank refl)
    (λ other path same. absurd (none_some same))

-- a path that is spelled so is read
pub path-complete : {text : List ℕ} {path : Option (List ℕ)} → SpellsPath text path → path_at text ≡ Some path
path-complete (SpellsPath.none [] are) = refl
path-complete (SpellsPath.none (b ∷ bs) are) =
    ap (λ t. chosen t (name_of (after_blanks bs)) None) (All-head IsBlank b bs are) ∙ ap name_of (no_others bs (All-tail IsBlank b bs are))
path-complete (SpellsPath.given blank byte text name is split other) =
    ap (λ t. chosen t (name_of (after_blanks text)) None) is
    ∙ ap name_of split
    ∙ ap (λ t. chosen t None (Some (Some (byte ∷ name)))) (ne_eqb byte exclamation_mark other)
