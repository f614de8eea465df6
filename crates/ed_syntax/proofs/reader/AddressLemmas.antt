-- Addresses: what is read is spelled so, and what is spelled so is read.
use Rattle.std.proofs.Common.{◌≡◌, ◌≢◌, ℕ, ◌+◌, ◌-◌, ◌<◌, ◌&&◌, ◌||◌, ℤ, true, nat_eq, nat_le, List, [], ◌∷◌, length, drop, Option, Some, None, refl, sym, ap, ◌∙◌, ⊎_elim, subst, arith}
use Rattle.std.specs.Prelude.{IsTrue, IsFalse}
use Rattle.std.proofs.lemmas.Bool.{eqb-true, leb-true, le-leb, and_parts, and_from, or_parts, or_cases, false≢true}
use Rattle.ed_base.specs.Buffer.{letter_of}
use Rattle.ed_syntax.specs.spelling.Characters.{dollar_sign, apostrophe, plus_sign, hyphen, full_stop, slash, question_mark, backslash, is_digit, is_sign, begins_address, begins}
use Rattle.ed_syntax.specs.spelling.Letters.{letter_a}
use Rattle.ed_syntax.specs.Commands.{Base, Number, Current, Last, Marked, Forward, Backward, Address}
use Rattle.ed_syntax.specs.spelling.Quoting.{SpellsPattern, SpellsClosing}
use Rattle.ed_syntax.specs.spelling.Addressing.{SpellsBase, SpellsOffsets, SpellsAddress}
use Rattle.ed_syntax.specs.spelling.Absence.{NoAddress}
use Rattle.ed_syntax.specs.reading.Tokens.{Parsed, ◌>>=◌, number, letter, pattern_at, offsets, base, with_offsets, address}
use Rattle.ed_syntax.proofs.meaning.StepLemmas.{Some-same, none_some, bind-some, chosen, either}
use Rattle.ed_syntax.proofs.reader.NumberLemmas.{number-sound, number-complete, number-first}
use Rattle.ed_syntax.proofs.reader.QuotingLemmas.{pattern_at-sound, pattern_at-complete, pattern-closing, closing-complete}
use Rattle.ed_syntax.proofs.reader.OffsetLemmas.{offsets-sound, offsets-complete}

-- a letter's byte
letter_of-sound : (b l : ℕ) → letter_of b ≡ Some l → (l < 26) × (b ≡ letter_a + l)
letter_of-sound b =
    either (λ (read : Option ℕ). (l : ℕ) → read ≡ Some l → (l < 26) × (b ≡ letter_a + l)) (nat_le 97 b && nat_le b 122) (Some (b - 97)) None
    (λ yes l is.
    let parts = and_parts (nat_le 97 b) (nat_le b 122) yes in
    let same = Some-same (b - 97) l is in
    (omega (arith, leb-true 97 b parts.0, leb-true b 122 parts.1, same), omega (arith, leb-true 97 b parts.0, leb-true b 122 parts.1, same)))
    (λ no l is. absurd (none_some is))

letter_of-complete : (l : ℕ) → l < 26 → letter_of (letter_a + l) ≡ Some l
letter_of-complete l short =
    let within = and_from (nat_le 97 (97 + l)) (nat_le (97 + l) 122) (le-leb 97 (97 + l) (omega arith)) (le-leb (97 + l) 122 (omega (arith, short))) in
    let same : 97 + l - 97 ≡ l = omega arith in
    ap (λ t. chosen t (Some (97 + l - 97)) None) within ∙ ap Some same

-- a letter at the head of a text
pub record ReadsLetter (text : List ℕ) (r : ℕ × List ℕ) : Type 0 where
  pub small : r.0 < 26
  pub split : text ≡ (letter_a + r.0) ∷ r.1

pub letter-sound : (text : List ℕ) (r : ℕ × List ℕ) → letter text ≡ Some r → ReadsLetter text r
letter-sound [] r is = absurd (none_some is)
letter-sound (b ∷ bs) r is =
    let l = bind-some (letter_of b) (λ l. Some (l, bs)) r is in
    let found = letter_of-sound b l.0 l.1 in
    subst (ReadsLetter (b ∷ bs)) (Some-same (l.0, bs) r l.2) (record { small = found.0; split = ap (λ b. b ∷ bs) found.1 })

pub letter-complete : (l : ℕ) (rest : List ℕ) → l < 26 → letter ((letter_a + l) ∷ rest) ≡ Some (l, rest)
letter-complete l rest short = ap (λ (o : Option ℕ). o >>= λ l. Some (l, rest)) (letter_of-complete l short)

-- what is read of a base: none, one that is spelled, or the current line before an offset
pub data ReadsBase (text : List ℕ) : (rest : List ℕ) → Option Base → Type 0 where
  nothing : IsFalse (begins begins_address text) → ReadsBase text text None
  given : (rest : List ℕ) (base : Base) → SpellsBase text rest base → ReadsBase text rest (Some base)
  signed : IsTrue (begins is_sign text) → ReadsBase text text (Some Current)

-- a base that is read is so
abbrev BaseRead : List ℕ → Parsed (Option Base) → Type 0
BaseRead text read = (r : Option Base × List ℕ) → read ≡ Some r → ReadsBase text r.1 r.0

-- one that is read so
known : (text rest : List ℕ) (base : Option Base) → ReadsBase text rest base → BaseRead text (Some (base, rest))
known text rest base spells r is = subst (λ (r : Option Base × List ℕ). ReadsBase text r.1 r.0) (Some-same (base, rest) r is) spells

-- one with a part
with_part : {A : Type 0} (text : List ℕ) (part : Parsed A) (of : A → Base) → ((found : A) (rest : List ℕ) → part ≡ Some (found, rest) → SpellsBase text rest (of found)) →
    BaseRead text (part >>= λ r. Some (Some (of r.0), r.1))
with_part text part of spells r is =
    let found = bind-some part (λ r. Some (Some (of r.0), r.1)) r is in
    known text found.0.1 (Some (of found.0.0)) (given found.0.1 (of found.0.0) (spells found.0.0 found.0.1 found.1)) r found.2

-- one with a pattern
with_pattern : (text : List ℕ) (delimiter : ℕ) (bs : List ℕ) (of : Option (List ℕ) → Base) →
    ((found : Option (List ℕ)) (more : List ℕ) → SpellsPattern delimiter bs more found → SpellsClosing delimiter more (drop 1 more) → SpellsBase text (drop 1 more) (of found)) →
    BaseRead text (pattern_at delimiter bs >>= λ r. Some (Some (of r.0), drop 1 r.1))
with_pattern text delimiter bs of spells r is =
    let found = bind-some (pattern_at delimiter bs) (λ r. Some (Some (of r.0), drop 1 r.1)) r is in
    let spelled = pattern_at-sound delimiter bs found.0 found.1 in
    known text (drop 1 found.0.1) (Some (of found.0.0)) (given (drop 1 found.0.1) (of found.0.0) (spells found.0.0 found.0.1 spelled (pattern-closing delimiter spelled))) r found.2

-- one at this byte
at_byte : (b code : ℕ) (bs : List ℕ) (read : Parsed (Option Base)) → nat_eq b code ≡ true → BaseRead (code ∷ bs) read → BaseRead (b ∷ bs) read
at_byte b code bs read same is = subst (λ b. BaseRead (b ∷ bs) read) (sym (eqb-true b code same)) is

marked-read : (bs : List ℕ) → BaseRead (apostrophe ∷ bs) (letter bs >>= λ r. Some (Some (Marked r.0), r.1))
marked-read bs = with_part (apostrophe ∷ bs) (letter bs) Marked (λ l rest is.
    let found = letter-sound bs (l, rest) is in
    subst (λ bs. SpellsBase (apostrophe ∷ bs) rest (Marked l)) (sym found.split) (SpellsBase.marked l rest found.small))

-- a base that is read is spelled so
base-sound : (text : List ℕ) → BaseRead text (base text)
base-sound [] = known [] [] None (nothing refl)
base-sound (b ∷ bs) =
    let P = BaseRead (b ∷ bs) in
    either P (is_digit b) _ _
    (λ digit. with_part (b ∷ bs) (number (b ∷ bs)) Number (λ n rest is. SpellsBase.number (b ∷ bs) rest n (number-sound (b ∷ bs) (n, rest) is)))
    (λ no_digit. either P (nat_eq b full_stop) _ _
    (λ stop. at_byte b full_stop bs _ stop (known (full_stop ∷ bs) bs (Some Current) (given bs Current (SpellsBase.current bs))))
    (λ no_stop. either P (nat_eq b dollar_sign) _ _
    (λ dollar. at_byte b dollar_sign bs _ dollar (known (dollar_sign ∷ bs) bs (Some Last) (given bs Last (SpellsBase.last bs))))
    (λ no_dollar. either P (nat_eq b apostrophe) _ _
    (λ mark. at_byte b apostrophe bs _ mark (marked-read bs))
    (λ no_mark. either P (nat_eq b slash) _ _
    (λ forward. at_byte b slash bs _ forward (with_pattern (slash ∷ bs) slash bs Forward (λ p more is closes. SpellsBase.forward bs more (drop 1 more) p is closes)))
    (λ no_forward. either P (nat_eq b question_mark) _ _
    (λ backward. at_byte b question_mark bs _ backward (with_pattern (question_mark ∷ bs) question_mark bs Backward (λ p more is closes. SpellsBase.backward bs more (drop 1 more) p is closes)))
    (λ no_backward. either P (is_sign b) _ _
    (λ sign. known (b ∷ bs) (b ∷ bs) (Some Current) (signed sign))
    (λ no_sign. known (b ∷ bs) (b ∷ bs) None (nothing (rw (no_digit, no_stop, no_dollar, no_mark, no_forward, no_backward, no_sign, begins_address) refl)))))))))

-- where no address begins, none is read
base-none : (text : List ℕ) → IsFalse (begins begins_address text) → base text ≡ Some (None, text)
base-none [] none = refl
base-none (b ∷ bs) none =
    let signs = or_parts (is_digit b || nat_eq b full_stop || nat_eq b dollar_sign || nat_eq b apostrophe || nat_eq b slash || nat_eq b question_mark) (is_sign b) none in
    let backwards = or_parts (is_digit b || nat_eq b full_stop || nat_eq b dollar_sign || nat_eq b apostrophe || nat_eq b slash) (nat_eq b question_mark) signs.0 in
    let forwards = or_parts (is_digit b || nat_eq b full_stop || nat_eq b dollar_sign || nat_eq b apostrophe) (nat_eq b slash) backwards.0 in
    let marks = or_parts (is_digit b || nat_eq b full_stop || nat_eq b dollar_sign) (nat_eq b apostrophe) forwards.0 in
    let dollars = or_parts (is_digit b || nat_eq b full_stop) (nat_eq b dollar_sign) marks.0 in
    let stops = or_parts (is_digit b) (nat_eq b full_stop) dollars.0 in
    rw (stops.0, stops.1, dollars.1, marks.1, forwards.1, backwards.1, signs.1, base) refl

-- before an offset the current line is read
base-signed : (text : List ℕ) → IsTrue (begins is_sign text) → base text ≡ Some (Some Current, text)
base-signed [] sign = absurd (false≢true sign)
base-signed (b ∷ bs) sign =
    ⊎_elim
    (λ plus. ap (λ b. base (b ∷ bs)) (eqb-true b plus_sign plus) ∙ ap (λ b. Some (Some Current, b ∷ bs)) (sym (eqb-true b plus_sign plus)))
    (λ minus. ap (λ b. base (b ∷ bs)) (eqb-true b hyphen minus) ∙ ap (λ b. Some (Some Current, b ∷ bs)) (sym (eqb-true b hyphen minus)))
    (or_cases (nat_eq b plus_sign) (nat_eq b hyphen) sign)

base-digit : (text : List ℕ) → IsTrue (begins is_digit text) → base text ≡ (number text >>= λ r. Some (Some (Number r.0), r.1))
base-digit [] digit = absurd (false≢true digit)
base-digit (b ∷ bs) digit = rw (digit, base) refl

base-current : (rest : List ℕ) → base (full_stop ∷ rest) ≡ Some (Some Current, rest)
base-current rest = refl

base-last : (rest : List ℕ) → base (dollar_sign ∷ rest) ≡ Some (Some Last, rest)
base-last rest = refl

base-marked : (text : List ℕ) → base (apostrophe ∷ text) ≡ (letter text >>= λ r. Some (Some (Marked r.0), r.1))
base-marked text = refl

base-forward : (text : List ℕ) → base (slash ∷ text) ≡ (pattern_at slash text >>= λ r. Some (Some (Forward r.0), drop 1 r.1))
base-forward text = refl

base-backward : (text : List ℕ) → base (question_mark ∷ text) ≡ (pattern_at question_mark text >>= λ r. Some (Some (Backward r.0), drop 1 r.1))
base-backward text = refl

-- what is read of a part makes a base
part-complete : {A : Type 0} (of : A → Base) (text rest : List ℕ) (part : Parsed A) (found : A) → base text ≡ (part >>= λ r. Some (Some (of r.0), r.1)) → part ≡ Some (found, rest) →
    base text ≡ Some (Some (of found), rest)
part-complete {A} of text rest part found is read = is ∙ ap (λ (o : Parsed A). o >>= λ r. Some (Some (of r.0), r.1)) read

-- what is read of a pattern makes a base
pattern-complete : (of : Option (List ℕ) → Base) (delimiter : ℕ) (text inside more rest : List ℕ) (found : Option (List ℕ)) →
    base text ≡ (pattern_at delimiter inside >>= λ r. Some (Some (of r.0), drop 1 r.1)) → pattern_at delimiter inside ≡ Some (found, more) → SpellsClosing delimiter more rest →
    base text ≡ Some (Some (of found), rest)
pattern-complete of delimiter text inside more rest found is read closes =
    is
    ∙ ap (λ (o : Parsed (Option (List ℕ))). o >>= λ r. Some (Some (of r.0), drop 1 r.1)) read
    ∙ ap (λ rest. Some (Some (of found), rest)) (closing-complete delimiter closes)

slash_plain : slash ≢ backslash
slash_plain same = cc

question_mark_plain : question_mark ≢ backslash
question_mark_plain same = cc

-- a base that is spelled so is read
base-complete : {text rest : List ℕ} {found : Base} → SpellsBase text rest found → base text ≡ Some (Some found, rest)
base-complete (SpellsBase.number text rest n is) = part-complete Number text rest (number text) n (base-digit text (number-first is)) (number-complete is)
base-complete (SpellsBase.current rest) = base-current rest
base-complete (SpellsBase.last rest) = base-last rest
base-complete (SpellsBase.marked l rest small) =
    part-complete Marked (apostrophe ∷ (letter_a + l) ∷ rest) rest (letter ((letter_a + l) ∷ rest)) l (base-marked ((letter_a + l) ∷ rest)) (letter-complete l rest small)
base-complete (SpellsBase.forward text more rest pattern is closes) =
    pattern-complete Forward slash (slash ∷ text) text more rest pattern (base-forward text) (pattern_at-complete slash is slash_plain) closes
base-complete (SpellsBase.backward text more rest pattern is closes) =
    pattern-complete Backward question_mark (question_mark ∷ text) text more rest pattern (base-backward text) (pattern_at-complete question_mark is question_mark_plain) closes

-- an address that is read is spelled so
abbrev AddressRead : List ℕ → Parsed (Option Address) → Type 0
AddressRead text read = (r : Option Address × List ℕ) → read ≡ Some r → SpellsAddress text r.1 r.0

-- offsets after a base
offset-sound : (text more : List ℕ) (base : Base) → ((rest : List ℕ) (offset : ℤ) → SpellsOffsets more rest offset → SpellsAddress text rest (Some (record { base = base; offset = offset }))) →
    AddressRead text (with_offsets (Some base) more)
offset-sound text more base spells r is =
    let sum = bind-some (offsets (length more) more) (λ r. Some (Some (record { base = base; offset = r.0 }), r.1)) r is in
    subst (λ (r : Option Address × List ℕ). SpellsAddress text r.1 r.0) (Some-same (Some (record { base = base; offset = sum.0.0 }), sum.0.1) r sum.2)
    (spells sum.0.1 sum.0.0 (offsets-sound (length more) more (omega arith) sum.0 sum.1))

with_offsets-sound : {text more : List ℕ} {found : Option Base} → ReadsBase text more found → AddressRead text (with_offsets found more)
with_offsets-sound {text} (nothing none) = λ r is. subst (λ (r : Option Address × List ℕ). SpellsAddress text r.1 r.0) (Some-same (None, text) r is) (SpellsAddress.none text none)
with_offsets-sound {text} (given more base is) = offset-sound text more base (λ rest offset. SpellsAddress.based text more rest base offset is)
with_offsets-sound {text} (signed sign) = offset-sound text text Current (λ rest offset. SpellsAddress.relative text rest offset sign)

pub address-sound : (text : List ℕ) (r : Option Address × List ℕ) → address text ≡ Some r → SpellsAddress text r.1 r.0
address-sound text r is =
    let found = bind-some (base text) (λ r. with_offsets r.0 r.1) r is in
    with_offsets-sound (base-sound text found.0 found.1) r found.2

offset-complete : (base : Base) {text rest : List ℕ} {offset : ℤ} → SpellsOffsets text rest offset → with_offsets (Some base) text ≡ Some (Some (record { base = base; offset = offset }), rest)
offset-complete base {text} is = ap (λ (o : Parsed ℤ). o >>= λ r. Some (Some (record { base = base; offset = r.0 }), r.1)) (offsets-complete is (length text) (omega arith))

-- an address that is spelled so is read
pub address-complete : {text rest : List ℕ} {a : Option Address} → SpellsAddress text rest a → address text ≡ Some (a, rest)
address-complete (SpellsAddress.none rest none) = ap (λ (o : Parsed (Option Base)). o >>= λ r. with_offsets r.0 r.1) (base-none rest none)
address-complete (SpellsAddress.based text more rest base offset is later) =
    ap (λ (o : Parsed (Option Base)). o >>= λ r. with_offsets r.0 r.1) (base-complete is) ∙ offset-complete base later
address-complete (SpellsAddress.relative text rest offset sign later) =
    ap (λ (o : Parsed (Option Base)). o >>= λ r. with_offsets r.0 r.1) (base-signed text sign) ∙ offset-complete Current later

-- where none is read, none is spelled
pub no-address : (text : List ℕ) → address text ≡ None → NoAddress text
no-address text is rest a spelled = none_some (sym is ∙ address-complete spelled)
