-- The end of a command's own line: what is read is spelled so, and what is spelled so is read.
use Rattle.std.proofs.Common.{◌≡◌, ℕ, true, false, ◌&&◌, nat_eq, List, [], ◌∷◌, Option, Some, None, refl, sym, ap, ◌∙◌, ⊎_elim, subst}
use Rattle.std.specs.List.{list_all}
use Rattle.std.proofs.lemmas.Bool.{eqb-true, and_parts, and_from, or_cases, false≢true}
use Rattle.std.proofs.lemmas.List.Elements.{All-nil, All-cons, All-head, All-tail}
use Rattle.ed_syntax.specs.spelling.Characters.{is_blank}
use Rattle.ed_syntax.specs.spelling.Letters.{letter_l, letter_n, letter_p}
use Rattle.ed_syntax.specs.Commands as ed
use Rattle.ed_syntax.specs.Commands.{Form, Verb}
use Rattle.ed_syntax.specs.meaning.Verbs.{takes}
use Rattle.ed_syntax.specs.spelling.Addressing.{Blanks}
use Rattle.ed_syntax.specs.spelling.Parameters.{SpellsForm}
use Rattle.ed_syntax.specs.spelling.Spellings.{SpellsSuffix}
use Rattle.ed_syntax.specs.reading.ReadParameters.{form_of}
use Rattle.ed_syntax.specs.reading.ReadCommands.{is_over, suffix_at}
use Rattle.ed_syntax.proofs.meaning.StepLemmas.{Some-same, none_some, chosen, either}
use Rattle.ed_syntax.proofs.reader.BlankLemmas.{IsBlank}

-- a line that is over has nothing but blanks
is_over-blanks : (bytes : List ℕ) → is_over bytes ≡ true → Blanks bytes
is_over-blanks [] over = All-nil IsBlank
is_over-blanks (b ∷ bytes) over =
    let parts = and_parts (is_blank b) (list_all is_blank bytes) over in
    All-cons IsBlank b bytes parts.0 (is_over-blanks bytes parts.1)

blanks-is_over : (bytes : List ℕ) → Blanks bytes → is_over bytes ≡ true
blanks-is_over [] are = refl
blanks-is_over (b ∷ bytes) are = and_from (is_blank b) (list_all is_blank bytes) (All-head IsBlank b bytes are) (blanks-is_over bytes (All-tail IsBlank b bytes are))

-- a form that is read at a byte is that letter's
abbrev FormRead : ℕ → Option Form → Type 0
FormRead b read = (form : Form) → read ≡ Some form → SpellsForm b form

known : (b code : ℕ) (form : Form) → SpellsForm code form → nat_eq b code ≡ true → FormRead b (Some form)
known b code form spells is other same = subst (λ b. SpellsForm b other) (sym (eqb-true b code is)) (subst (SpellsForm code) (Some-same form other same) spells)

pub form_of-sound : (b : ℕ) → FormRead b (form_of b)
form_of-sound b =
    either (FormRead b) (nat_eq b letter_l) _ _ (known b letter_l ed.Unambiguous SpellsForm.unambiguous)
    (λ no_l. either (FormRead b) (nat_eq b letter_n) _ _ (known b letter_n ed.Numbered SpellsForm.numbered)
    (λ no_n. either (FormRead b) (nat_eq b letter_p) _ _ (known b letter_p ed.Plain SpellsForm.plain)
    (λ no_p form is. absurd (none_some is))))

pub form_of-complete : {b : ℕ} {form : Form} → SpellsForm b form → form_of b ≡ Some form
form_of-complete SpellsForm.plain = refl
form_of-complete SpellsForm.numbered = refl
form_of-complete SpellsForm.unambiguous = refl

-- a blank is no letter of a form
pub form_of-blank : (b : ℕ) → is_blank b ≡ true → form_of b ≡ None
form_of-blank b is = ⊎_elim (λ space. ap form_of (eqb-true b 32 space)) (λ tab. ap form_of (eqb-true b 9 tab)) (or_cases (nat_eq b 32) (nat_eq b 9) is)

-- the end of a line that isn't over, from its first byte's form on
abbrev suffix_from : Verb → ℕ → List ℕ → Option Form → Option (Option Form)
suffix_from verb b bs (Some form) = chosen ((takes verb).suffix && is_over bs) (Some (Some form)) None
suffix_from verb b bs None = chosen (is_over (b ∷ bs)) (Some None) None

suffix_at-from : (verb : Verb) (b : ℕ) (bs : List ℕ) (o : Option Form) → form_of b ≡ o → suffix_at verb (b ∷ bs) ≡ suffix_from verb b bs o
suffix_at-from verb b bs None is = rw (is, suffix_at) refl
suffix_at-from verb b bs (Some form) is = rw (is, suffix_at) refl

-- the end of a line that is read is spelled so
abbrev SuffixRead : Verb → List ℕ → Option (Option Form) → Type 0
SuffixRead verb bytes read = (suffix : Option Form) → read ≡ Some suffix → SpellsSuffix verb bytes suffix

suffix_from-sound : (verb : Verb) (b : ℕ) (bs : List ℕ) (o : Option Form) → form_of b ≡ o → SuffixRead verb (b ∷ bs) (suffix_from verb b bs o)
suffix_from-sound verb b bs (Some form) is =
    either (SuffixRead verb (b ∷ bs)) ((takes verb).suffix && is_over bs) (Some (Some form)) None
    (λ both suffix same.
    let parts = and_parts (takes verb).suffix (is_over bs) both in
    subst (SpellsSuffix verb (b ∷ bs)) (Some-same (Some form) suffix same) (SpellsSuffix.given b bs form parts.0 (form_of-sound b form is) (is_over-blanks bs parts.1)))
    (λ not_both suffix same. absurd (none_some same))
suffix_from-sound verb b bs None is =
    either (SuffixRead verb (b ∷ bs)) (is_over (b ∷ bs)) (Some None) None
    (λ over suffix same. subst (SpellsSuffix verb (b ∷ bs)) (Some-same None suffix same) (SpellsSuffix.none (b ∷ bs) (is_over-blanks (b ∷ bs) over)))
    (λ not_over suffix same. absurd (none_some same))

pub suffix_at-sound : (verb : Verb) (bytes : List ℕ) (suffix : Option Form) → suffix_at verb bytes ≡ Some suffix → SpellsSuffix verb bytes suffix
suffix_at-sound verb [] suffix is = subst (SpellsSuffix verb []) (Some-same None suffix is) (SpellsSuffix.none [] (All-nil IsBlank))
suffix_at-sound verb (b ∷ bs) suffix is =
    suffix_from-sound verb b bs (form_of b) refl suffix (sym (suffix_at-from verb b bs (form_of b) refl) ∙ is)

-- the end of a line that is spelled so is read
pub suffix_at-complete : {verb : Verb} {bytes : List ℕ} {suffix : Option Form} → SpellsSuffix verb bytes suffix → suffix_at verb bytes ≡ Some suffix
suffix_at-complete (SpellsSuffix.none [] are) = refl
suffix_at-complete {verb} (SpellsSuffix.none (b ∷ bs) are) =
    suffix_at-from verb b bs None (form_of-blank b (All-head IsBlank b bs are)) ∙ ap (λ t. chosen t (Some None) None) (blanks-is_over (b ∷ bs) are)
suffix_at-complete {verb} (SpellsSuffix.given letter blanks form may is are) =
    suffix_at-from verb letter blanks (Some form) (form_of-complete is)
    ∙ ap (λ t. chosen t (Some (Some form)) None) (and_from (takes verb).suffix (is_over blanks) may (blanks-is_over blanks are))

-- two commands that both take a suffix, or both none, are followed by the same
pub suffix-same : {verb : Verb} {bytes : List ℕ} {suffix : Option Form} → SpellsSuffix verb bytes suffix → (other : Verb) → (takes other).suffix ≡ (takes verb).suffix → SpellsSuffix other bytes suffix
suffix-same (SpellsSuffix.none blanks are) other same = SpellsSuffix.none blanks are
suffix-same (SpellsSuffix.given letter blanks form may is are) other same = SpellsSuffix.given letter blanks form (same ∙ may) is are

-- after a command that takes no suffix stand blanks
pub suffix-blanks : {verb : Verb} {bytes : List ℕ} {suffix : Option Form} → SpellsSuffix verb bytes suffix → (takes verb).suffix ≡ false → Blanks bytes
suffix-blanks (SpellsSuffix.none blanks are) untaken = are
suffix-blanks (SpellsSuffix.given letter blanks form may is are) untaken = absurd (false≢true (sym untaken ∙ may))
