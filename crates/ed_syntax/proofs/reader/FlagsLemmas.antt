-- The flags of `s`: what is read is spelled so, and what is spelled so is read.
use Rattle.std.proofs.Common.{◌≡◌, ℕ, zero, suc, nat_eq, nat_le, true, List, [], ◌∷◌, Option, Some, None, refl, sym, ap, ◌∙◌, ⊎_elim, subst, arith}
use Rattle.std.specs.Prelude.{unwrap_or}
use Rattle.std.proofs.lemmas.Bool.{eqb-true, ne_eqb, or_cases, and_parts, leb-true, false≢true}
use Rattle.std.proofs.lemmas.List.Elements.{All-head}
use Rattle.ed_syntax.specs.declared.replacement.Which.{Which}
use Rattle.ed_syntax.specs.declared.replacement.Which.TheVariants as which
use Rattle.ed_syntax.specs.spelling.Characters.{is_blank, is_digit}
use Rattle.ed_syntax.specs.spelling.Letters.{letter_g}
use Rattle.ed_syntax.specs.Commands as ed
use Rattle.ed_syntax.specs.Commands.{Form}
use Rattle.ed_syntax.specs.spelling.Addressing.{Blanks, SpellsNumber}
use Rattle.ed_syntax.specs.spelling.Parameters.{SpellsForm, SpellsWhich, SpellsFlags, IsClosed, SpellsEnd}
use Rattle.ed_syntax.specs.reading.Tokens.{Parsed, ◌>>=◌, number}
use Rattle.ed_syntax.specs.reading.ReadParameters.{form_of, form_at, nth, count_at, which_at, later_which, flags, end_at}
use Rattle.ed_syntax.proofs.meaning.StepLemmas.{Some-same, none_some, bind-some, either}
use Rattle.ed_syntax.proofs.reader.BlankLemmas.{IsBlank}
use Rattle.ed_syntax.proofs.reader.NumberLemmas.{number-sound, number-complete, number-first}
use Rattle.ed_syntax.proofs.reader.SuffixLemmas.{form_of-sound, form_of-complete, form_of-blank}

-- a count or `g`, or nothing
data WhichRead (text : List ℕ) : Option Which × List ℕ → Type 0 where
  no_which : WhichRead text (None, text)
  one_which : (w : Which) (rest : List ℕ) → SpellsWhich text rest w → WhichRead text (Some w, rest)

abbrev ReadsWhich : List ℕ → Parsed (Option Which) → Type 0
ReadsWhich text read = (r : Option Which × List ℕ) → read ≡ Some r → WhichRead text r

nth-sound : (text rest : List ℕ) (n : ℕ) (w : Which) → SpellsNumber text rest n → nth n ≡ Some w → SpellsWhich text rest w
nth-sound text rest zero w spells is = absurd (none_some is)
nth-sound text rest (suc before) w spells is =
    subst (SpellsWhich text rest) (Some-same (which.Nth before) w is) (SpellsWhich.nth text rest before spells)

count_at-sound : (text : List ℕ) → ReadsWhich text (count_at text)
count_at-sound text r is =
    let n = bind-some (number text) (λ r. nth r.0 >>= λ w. Some (Some w, r.1)) r is in
    let w = bind-some (nth n.0.0) (λ w. Some (Some w, n.0.1)) r n.2 in
    let spells = nth-sound text n.0.1 n.0.0 w.0 (number-sound text n.0 n.1) w.1 in
    subst (WhichRead text) (Some-same (Some w.0, n.0.1) r w.2) (one_which w.0 n.0.1 spells)

which_at-sound : (text : List ℕ) → ReadsWhich text (which_at text)
which_at-sound [] = λ r is. subst (WhichRead []) (Some-same (None, []) r is) no_which
which_at-sound (b ∷ bs) =
    either (ReadsWhich (b ∷ bs)) (nat_eq b letter_g) _ _
    (λ yes r is.
    subst (WhichRead (b ∷ bs)) (Some-same (Some which.All, bs) r is)
    (one_which which.All bs (subst (λ b. SpellsWhich (b ∷ bs) bs which.All) (sym (eqb-true b letter_g yes)) (SpellsWhich.all bs))))
    (λ no. either (ReadsWhich (b ∷ bs)) (is_digit b) _ _ (λ digit. count_at-sound (b ∷ bs))
    (λ no_digit r is. subst (WhichRead (b ∷ bs)) (Some-same (None, b ∷ bs) r is) no_which))

-- the letter of a form, or nothing
data FormRead (text : List ℕ) : Option Form × List ℕ → Type 0 where
  no_form : FormRead text (None, text)
  one_form : (letter : ℕ) (rest : List ℕ) (form : Form) → text ≡ letter ∷ rest → SpellsForm letter form → FormRead text (Some form, rest)

-- the form that is at the front, from its letter's form on
abbrev form_from : ℕ → List ℕ → Option Form → Option Form × List ℕ
form_from b bs (Some form) = (Some form, bs)
form_from b bs None = (None, b ∷ bs)

form_at-from : (b : ℕ) (bs : List ℕ) (o : Option Form) → form_of b ≡ o → form_at (b ∷ bs) ≡ form_from b bs o
form_at-from b bs None is = rw (is, form_at) refl
form_at-from b bs (Some form) is = rw (is, form_at) refl

form_from-sound : (b : ℕ) (bs : List ℕ) (o : Option Form) → form_of b ≡ o → FormRead (b ∷ bs) (form_from b bs o)
form_from-sound b bs None is = no_form
form_from-sound b bs (Some form) is = one_form b bs form refl (form_of-sound b form is)

form_at-sound : (text : List ℕ) → FormRead text (form_at text)
form_at-sound [] = no_form
form_at-sound (b ∷ bs) = subst (FormRead (b ∷ bs)) (sym (form_at-from b bs (form_of b) refl)) (form_from-sound b bs (form_of b) refl)

-- flags that are read are spelled so
abbrev FlagsRead : List ℕ → (Which × Option Form) × List ℕ → Type 0
FlagsRead text r = SpellsFlags text r.1 r.0.0 r.0.1

-- with a count or `g` in front
flags-first : (text rest : List ℕ) (w : Which) (form : Option Form × List ℕ) → SpellsWhich text rest w → FormRead rest form → FlagsRead text ((w, form.0), form.1)
flags-first text rest w form is no_form = SpellsFlags.choice text rest w is
flags-first text rest w form is (one_form letter more f split spells) =
    SpellsFlags.choice_form letter text more w f (subst (λ rest. SpellsWhich text rest w) split is) spells

-- what was found, if anything was
found : Option (Option Which × List ℕ) → Option Which
found None = None
found (Some r) = r.0

-- with the letter of a form in front, or nothing
flags-second : (text : List ℕ) (form : Option Form × List ℕ) (second : Option Which × List ℕ) → which_at text ≡ Some (None, text) → FormRead text form → WhichRead form.1 second → which_at form.1 ≡ Some second →
    FlagsRead text ((unwrap_or second.0 which.First, form.0), second.1)
unfolding found
flags-second text form second no_first no_form no_which is = SpellsFlags.none text
flags-second text form second no_first no_form (one_which w rest spells) is = absurd (none_some (ap found (sym no_first ∙ is)))
flags-second text form second no_first (one_form letter more f split spells) no_which is =
    subst (λ text. SpellsFlags text more which.First (Some f)) (sym split) (SpellsFlags.form letter more f spells)
flags-second text form second no_first (one_form letter more f split spells) (one_which w rest choice) is =
    subst (λ text. SpellsFlags text rest w (Some f)) (sym split) (SpellsFlags.form_choice letter more rest w f spells choice)

flags-from : (text : List ℕ) (first : Option Which × List ℕ) → which_at text ≡ Some first → WhichRead text first → (r : (Which × Option Form) × List ℕ) →
    (later_which first.0 (form_at first.1).1 >>= λ r. Some ((r.0, (form_at first.1).0), r.1)) ≡ Some r → FlagsRead text r
flags-from text first read no_which r is =
    let form = form_at text in
    let last = bind-some (later_which None form.1) (λ r. Some ((r.0, form.0), r.1)) r is in
    let second = bind-some (which_at form.1) (λ r. Some (unwrap_or r.0 which.First, r.1)) last.0 last.1 in
    let same : (unwrap_or second.0.0 which.First, second.0.1) ≡ last.0 = Some-same (unwrap_or second.0.0 which.First, second.0.1) last.0 second.2 in
    subst (FlagsRead text) (ap (λ (w : Which × List ℕ). ((w.0, form.0), w.1)) same ∙ Some-same ((last.0.0, form.0), last.0.1) r last.2)
    (flags-second text form second.0 read (form_at-sound text) (which_at-sound form.1 second.0 second.1) second.1)
flags-from text first read (one_which w rest spells) r is =
    let form = form_at rest in
    subst (FlagsRead text) (Some-same ((w, form.0), form.1) r is) (flags-first text rest w form spells (form_at-sound rest))

pub flags-sound : (text : List ℕ) (r : (Which × Option Form) × List ℕ) → flags text ≡ Some r → FlagsRead text r
flags-sound text r is =
    let first = bind-some (which_at text) (λ w. later_which w.0 (form_at w.1).1 >>= λ r. Some ((r.0, (form_at w.1).0), r.1)) r is in
    flags-from text first.0 first.1 (which_at-sound text first.0 first.1) r first.2

-- what is spelled so is read

digit_first : (b : ℕ) (bs : List ℕ) → is_digit b ≡ true → which_at (b ∷ bs) ≡ count_at (b ∷ bs)
digit_first b bs digit =
    let high = leb-true b 57 (and_parts (nat_le 48 b) (nat_le b 57) digit).1 in
    rw (ne_eqb b letter_g (λ e. omega (arith, e, high)), digit, which_at) refl

nth_read : (text rest : List ℕ) (before : ℕ) → SpellsNumber text rest (suc before) → count_at text ≡ Some (Some (which.Nth before), rest)
nth_read text rest before is = ap (λ (o : Parsed ℕ). o >>= λ r. nth r.0 >>= λ w. Some (Some w, r.1)) (number-complete is)

which_at-complete : {text rest : List ℕ} {w : Which} → SpellsWhich text rest w → which_at text ≡ Some (Some w, rest)
which_at-complete (SpellsWhich.all rest) = refl
which_at-complete (SpellsWhich.nth [] rest before is) = absurd (false≢true (number-first is))
which_at-complete (SpellsWhich.nth (b ∷ bs) rest before is) = digit_first b bs (number-first is) ∙ nth_read (b ∷ bs) rest before is

-- neither stands in blanks
blank_first : (b : ℕ) (bs : List ℕ) → is_blank b ≡ true → which_at (b ∷ bs) ≡ Some (None, b ∷ bs)
blank_first b bs is =
    ⊎_elim
    (λ space. ap (λ b. which_at (b ∷ bs)) (eqb-true b 32 space) ∙ ap (λ b. Some (None, b ∷ bs)) (sym (eqb-true b 32 space)))
    (λ tab. ap (λ b. which_at (b ∷ bs)) (eqb-true b 9 tab) ∙ ap (λ b. Some (None, b ∷ bs)) (sym (eqb-true b 9 tab)))
    (or_cases (nat_eq b 32) (nat_eq b 9) is)

blank_which : (blanks : List ℕ) → Blanks blanks → which_at blanks ≡ Some (None, blanks)
blank_which [] are = refl
blank_which (b ∷ bs) are = blank_first b bs (All-head IsBlank b bs are)

blank_form : (blanks : List ℕ) → Blanks blanks → form_at blanks ≡ (None, blanks)
blank_form [] are = refl
blank_form (b ∷ bs) are = form_at-from b bs None (form_of-blank b (All-head IsBlank b bs are))

form_read : {letter : ℕ} {form : Form} → SpellsForm letter form → (rest : List ℕ) → form_at (letter ∷ rest) ≡ (Some form, rest)
form_read {letter} {form} is rest = form_at-from letter rest (Some form) (form_of-complete is)

form_no_which : {letter : ℕ} {form : Form} → SpellsForm letter form → (rest : List ℕ) → which_at (letter ∷ rest) ≡ Some (None, letter ∷ rest)
form_no_which SpellsForm.plain rest = refl
form_no_which SpellsForm.numbered rest = refl
form_no_which SpellsForm.unambiguous rest = refl

-- flags by their parts
flags_read : (text : List ℕ) (first : Option Which × List ℕ) (form : Option Form × List ℕ) (last : Which × List ℕ) → which_at text ≡ Some first → form_at first.1 ≡ form → later_which first.0 form.1 ≡ Some last →
    flags text ≡ Some ((last.0, form.0), last.1)
flags_read text first form last first_is form_is last_is =
    ap (λ (o : Parsed (Option Which)). o >>= λ w. later_which w.0 (form_at w.1).1 >>= λ r. Some ((r.0, (form_at w.1).0), r.1)) first_is
    ∙ ap (λ (form : Option Form × List ℕ). later_which first.0 form.1 >>= λ r. Some ((r.0, form.0), r.1)) form_is
    ∙ ap (λ (o : Parsed Which). o >>= λ r. Some ((r.0, form.0), r.1)) last_is

none_later : (bs : List ℕ) → which_at bs ≡ Some (None, bs) → later_which None bs ≡ Some (which.First, bs)
none_later bs is = ap (λ (o : Parsed (Option Which)). o >>= λ r. Some (unwrap_or r.0 which.First, r.1)) is

pub flags-complete : {text rest : List ℕ} {w : Which} {form : Option Form} → SpellsFlags text rest w form → Blanks rest → flags text ≡ Some ((w, form), rest)
flags-complete (SpellsFlags.none rest) blanks =
    flags_read rest (None, rest) (None, rest) (which.First, rest) (blank_which rest blanks) (blank_form rest blanks) (none_later rest (blank_which rest blanks))
flags-complete (SpellsFlags.choice text rest w is) blanks = flags_read text (Some w, rest) (None, rest) (w, rest) (which_at-complete is) (blank_form rest blanks) refl
flags-complete (SpellsFlags.form letter rest form is) blanks =
    flags_read (letter ∷ rest) (None, letter ∷ rest) (Some form, rest) (which.First, rest) (form_no_which is rest) (form_read is rest) (none_later rest (blank_which rest blanks))
flags-complete (SpellsFlags.choice_form letter text rest w form is spells) blanks =
    flags_read text (Some w, letter ∷ rest) (Some form, rest) (w, rest) (which_at-complete is) (form_read spells rest) refl
flags-complete (SpellsFlags.form_choice letter text rest w form spells is) blanks =
    flags_read (letter ∷ text) (None, letter ∷ text) (Some form, text) (w, rest) (form_no_which spells text) (form_read spells text)
    (ap (λ (o : Parsed (Option Which)). o >>= λ r. Some (unwrap_or r.0 which.First, r.1)) (which_at-complete is))

-- the end of `s`
pub end-sound : (delimiter : ℕ) (text : List ℕ) (r : (Which × Option Form) × List ℕ) → IsClosed delimiter text → end_at text ≡ Some r → SpellsEnd delimiter text r.1 r.0.0 r.0.1
end-sound delimiter text r IsClosed.left_open is =
    subst (λ (r : (Which × Option Form) × List ℕ). SpellsEnd delimiter [] r.1 r.0.0 r.0.1) (Some-same ((which.First, Some ed.Plain), []) r is) SpellsEnd.left_open
end-sound delimiter text r (IsClosed.closed more) is = SpellsEnd.closed more r.1 r.0.0 r.0.1 (flags-sound more r is)

pub end-complete : (delimiter : ℕ) {text rest : List ℕ} {w : Which} {form : Option Form} → SpellsEnd delimiter text rest w form → Blanks rest → end_at text ≡ Some ((w, form), rest)
end-complete delimiter SpellsEnd.left_open blanks = refl
end-complete delimiter (SpellsEnd.closed text rest w form is) blanks = flags-complete is blanks
