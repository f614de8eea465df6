-- What stands after the part that was read is the end of the text.
use Rattle.std.proofs.Common.{◌≡◌, ℕ, ◌+◌, ℤ, List, [], ◌∷◌, ◌++◌, Option, refl, sym, ap, ◌∙◌, subst, append_assoc}
use Rattle.std.specs.Prelude.{All}
use Rattle.std.proofs.lemmas.List.Elements.{All-tail}
use Rattle.ed_syntax.specs.spelling.Characters.{apostrophe, backslash, comma_byte, dollar_sign, full_stop, hyphen, left_square_bracket, plus_sign, question_mark, semicolon_byte, slash, is_blank, after_blanks}
use Rattle.ed_syntax.specs.spelling.Letters.{letter_a}
use Rattle.ed_syntax.specs.Commands.{Base, Address, Addresses}
use Rattle.ed_syntax.specs.spelling.Quoting.{SpellsQuoted, SpellsPattern, SpellsClosing}
use Rattle.ed_syntax.specs.spelling.Addressing.{SpellsNumber, SpellsBase, SpellsDistance, SpellsOffsets, SpellsAddress, SpellsAddresses}
use Rattle.ed_syntax.proofs.meaning.StepLemmas.{either}

-- the end of a list
abbrev pub End : {A : Type 0} → (whole end : List A) → Type 0
End {A} whole end = (front : List A) × (whole ≡ front ++ end)

pub end-all : {A : Type 0} (xs : List A) → End xs xs
end-all xs = ([], refl)

pub end-after : {A : Type 0} (x : A) {xs end : List A} → End xs end → End (x ∷ xs) end
end-after x e = (x ∷ e.0, ap (λ xs. x ∷ xs) e.1)

pub end-of : {A : Type 0} {whole middle end : List A} → End whole middle → End middle end → End whole end
end-of {A} {whole} {middle} {end} one other = (one.0 ++ other.0, one.1 ∙ ap (λ xs. one.0 ++ xs) other.1 ∙ sym (append_assoc one.0 other.0 end))

-- what holds of all holds of the end
all-append : {A : Type 0} (P : A → Type 0) (front end : List A) → All P (front ++ end) → All P end
all-append P [] end all = all
all-append P (x ∷ front) end all = all-append P front end (All-tail P x (front ++ end) all)

pub end-keeps : {A : Type 0} (P : A → Type 0) {whole end : List A} → End whole end → All P whole → All P end
end-keeps P {whole} {end} e all = all-append P e.0 end (subst (All P) e.1 all)

blanks-end : (bs : List ℕ) → End bs (after_blanks bs)
blanks-end [] = end-all []
blanks-end (b ∷ bs) = either (End (b ∷ bs)) (is_blank b) (after_blanks bs) (b ∷ bs) (λ yes. end-after b (blanks-end bs)) (λ no. end-all (b ∷ bs))

-- bytes that stand after blanks
after-end : (text after : List ℕ) → after_blanks text ≡ after → End text after
after-end text after same = subst (End text) same (blanks-end text)

number-end : {text rest : List ℕ} {n : ℕ} → SpellsNumber text rest n → End text rest
number-end (SpellsNumber.digits bytes rest digits some few over) = (bytes, refl)

pub quoted-end : (delimiter : ℕ) {text rest bytes : List ℕ} → SpellsQuoted delimiter text rest bytes → End text rest
quoted-end delimiter (SpellsQuoted.closed rest) = end-all (delimiter ∷ rest)
quoted-end delimiter SpellsQuoted.left_open = end-all []
quoted-end delimiter (SpellsQuoted.ordinary byte text rest bytes no_end no_escape no_bracket is) = end-after byte (quoted-end delimiter is)
quoted-end delimiter (SpellsQuoted.delimiter_itself text rest bytes is) = end-after backslash (end-after delimiter (quoted-end delimiter is))
quoted-end delimiter (SpellsQuoted.escaped byte text rest bytes other is) = end-after backslash (end-after byte (quoted-end delimiter is))
quoted-end delimiter (SpellsQuoted.bracket inside text rest bytes set other expression is) = end-of (left_square_bracket ∷ inside, refl) (quoted-end delimiter is)

pub pattern-end : (delimiter : ℕ) {text rest : List ℕ} {pattern : Option (List ℕ)} → SpellsPattern delimiter text rest pattern → End text rest
pattern-end delimiter (SpellsPattern.remembered text rest is) = quoted-end delimiter is
pattern-end delimiter (SpellsPattern.given text rest bytes tree some is spells) = quoted-end delimiter is

pub closing-end : (delimiter : ℕ) {text rest : List ℕ} → SpellsClosing delimiter text rest → End text rest
closing-end delimiter (SpellsClosing.closed rest) = end-after delimiter (end-all rest)
closing-end delimiter SpellsClosing.left_open = end-all []

base-end : {text rest : List ℕ} {base : Base} → SpellsBase text rest base → End text rest
base-end (SpellsBase.number text rest n is) = number-end is
base-end (SpellsBase.current rest) = end-after full_stop (end-all rest)
base-end (SpellsBase.last rest) = end-after dollar_sign (end-all rest)
base-end (SpellsBase.marked letter rest small) = (apostrophe ∷ (letter_a + letter) ∷ [], refl)
base-end (SpellsBase.forward text more rest pattern is closing) = end-after slash (end-of (pattern-end slash is) (closing-end slash closing))
base-end (SpellsBase.backward text more rest pattern is closing) = end-after question_mark (end-of (pattern-end question_mark is) (closing-end question_mark closing))

distance-end : {text rest : List ℕ} {n : ℕ} → SpellsDistance text rest n → End text rest
distance-end (SpellsDistance.one rest none) = end-all rest
distance-end (SpellsDistance.number text rest n is) = number-end is

offsets-end : {text rest : List ℕ} {sum : ℤ} → SpellsOffsets text rest sum → End text rest
offsets-end (SpellsOffsets.none rest none) = end-all rest
offsets-end (SpellsOffsets.plus text number more rest n sum same is others) =
    end-of (after-end text (plus_sign ∷ number) same) (end-after plus_sign (end-of (distance-end is) (offsets-end others)))
offsets-end (SpellsOffsets.minus text number more rest n sum same is others) =
    end-of (after-end text (hyphen ∷ number) same) (end-after hyphen (end-of (distance-end is) (offsets-end others)))

address-end : {text rest : List ℕ} {a : Option Address} → SpellsAddress text rest a → End text rest
address-end (SpellsAddress.none rest none) = end-all rest
address-end (SpellsAddress.based text more rest base offset is offsets) = end-of (base-end is) (offsets-end offsets)
address-end (SpellsAddress.relative text rest offset signed offsets) = offsets-end offsets

pub addresses-end : {text rest : List ℕ} {given : Addresses} → SpellsAddresses text rest given → End text rest
addresses-end (SpellsAddresses.single text rest a first none) = end-of (blanks-end text) (end-of (address-end first) (blanks-end rest))
addresses-end (SpellsAddresses.comma_pair text more others rest a b first same second) =
    end-of (blanks-end text) (end-of (address-end first) (end-of (after-end more (comma_byte ∷ others) same)
    (end-after comma_byte (end-of (blanks-end others) (end-of (address-end second) (blanks-end rest))))))
addresses-end (SpellsAddresses.semicolon_pair text more others rest a b first same second) =
    end-of (blanks-end text) (end-of (address-end first) (end-of (after-end more (semicolon_byte ∷ others) same)
    (end-after semicolon_byte (end-of (blanks-end others) (end-of (address-end second) (blanks-end rest))))))
