-- The parts of a replacement: what is read is spelled so, and what is spelled so is read.
use Rattle.std.proofs.Common.{◌≡◌, ◌≢◌, ℕ, zero, suc, ◌+◌, ◌-◌, ◌<◌, ◌≤◌, nat_eq, nat_le, true, false, List, [], ◌∷◌, ◌++◌, length, Option, Some, refl, sym, ap, ◌∙◌, subst, arith, append_assoc}
use Rattle.std.specs.Prelude.{◌||◌}
use Rattle.std.proofs.lemmas.Bool.{eq-eqb, eqb-true, eqb-false, ne_eqb, and_parts, leb-true, or_parts}
use Rattle.std.proofs.lemmas.List.{length-append}
use Rattle.std.proofs.lemmas.List.Elements.{All-nil, All-cons, All-head, All-tail, All-append}
use Rattle.ed_base.specs.Lines.{newline, IsLine, AreLines, bytes_of}
use Rattle.ed_syntax.specs.declared.replacement.Part.{Part}
use Rattle.ed_syntax.specs.declared.replacement.Part.TheVariants as part
use Rattle.ed_syntax.specs.spelling.Characters.{ampersand, backslash, is_digit, is_letter}
use Rattle.ed_syntax.specs.spelling.Parameters.{SpellsEscape, SpellsParts}
use Rattle.ed_syntax.specs.reading.Tokens.{◌>>=◌}
use Rattle.ed_syntax.specs.reading.ReadParameters.{Place, ParsedAt, place, part_escaped, unescaped_part, escaped_at, part_at, after_part, parts}
use Rattle.ed_syntax.proofs.meaning.StepLemmas.{Some-same, none_some, bind-some, either}
use Rattle.ed_syntax.proofs.reader.TextLemmas.{first_line, LeftLines}
use Rattle.ed_syntax.proofs.reader.LineParts.{ReadsOver}

-- one part, what stands after it on its line or on the next, and the line that was taken for it
data SpellsPart (delimiter : ℕ) : (own more : List ℕ) → List (List ℕ) → Part → Type 0 where
  literal : (byte : ℕ) (own : List ℕ) → byte ≢ delimiter → byte ≢ backslash → byte ≢ ampersand → SpellsPart delimiter (byte ∷ own) own [] (part.Literal byte)
  match : (own : List ℕ) → ampersand ≢ delimiter → SpellsPart delimiter (ampersand ∷ own) own [] part.Match
  escape : (byte : ℕ) (own : List ℕ) (p : Part) → SpellsEscape delimiter byte p → SpellsPart delimiter (backslash ∷ byte ∷ own) own [] p
  split : (own : List ℕ) → IsLine own → SpellsPart delimiter (backslash ∷ []) own (own ∷ []) part.Split

-- a part before others
part_before : {delimiter : ℕ} {own middle more : List ℕ} {taken : List (List ℕ)} {p : Part} {ps : List Part} → SpellsPart delimiter own middle taken p → (others : List (List ℕ)) →
    SpellsParts delimiter middle more (bytes_of others) ps → SpellsParts delimiter own more (bytes_of (taken ++ others)) (p ∷ ps)
part_before {more = more} {ps = ps} (literal byte own no_end no_escape no_match) others is = SpellsParts.literal byte own more (bytes_of others) ps no_end no_escape no_match is
part_before {more = more} {ps = ps} (match own no_end) others is = SpellsParts.match own more (bytes_of others) ps no_end is
part_before {more = more} {ps = ps} (escape byte own p escaped) others is = SpellsParts.escape byte own more (bytes_of others) p ps escaped is
part_before {more = more} {ps = ps} (split own line) others is = SpellsParts.split own more (bytes_of others) ps line is

-- what is read after a backslash is spelled so
abbrev EscapeRead : ℕ → ℕ → Option Part → Type 0
EscapeRead delimiter b read = (p : Part) → read ≡ Some p → SpellsEscape delimiter b p

group-sound : (delimiter b : ℕ) → nat_eq b delimiter ≡ false → nat_eq b 48 ≡ false → is_digit b ≡ true → SpellsEscape delimiter b (part.Group (b - 49))
group-sound delimiter b other no_zero digit =
    let bounds = and_parts (nat_le 48 b) (nat_le b 57) digit in
    let above : b ≢ 48 = eqb-false b 48 no_zero in
    let low : 48 ≤ b = leb-true 48 b bounds.0 in
    let high : b ≤ 57 = leb-true b 57 bounds.1 in
    let same : 49 + (b - 49) ≡ b = omega (arith, low, above) in
    let no_end : (49 + (b - 49)) ≢ delimiter = λ e. eqb-false b delimiter other (sym same ∙ e) in
    subst (λ byte. SpellsEscape delimiter byte (part.Group (b - 49))) same (SpellsEscape.group (b - 49) no_end (omega (arith, low, high, above)))

escaped-sound : (delimiter b : ℕ) → nat_eq b delimiter ≡ false → EscapeRead delimiter b (part_escaped b)
escaped-sound delimiter b other =
    either (EscapeRead delimiter b) (is_letter b || nat_eq b 48) _ _ (λ none p is. absurd (none_some is))
    (λ some.
    let neither = or_parts (is_letter b) (nat_eq b 48) some in
    either (EscapeRead delimiter b) (is_digit b) _ _
    (λ digit p is. subst (SpellsEscape delimiter b) (Some-same (part.Group (b - 49)) p is) (group-sound delimiter b other neither.1 digit))
    (λ no_digit p is. subst (SpellsEscape delimiter b) (Some-same (part.Literal b) p is) (SpellsEscape.byte b (eqb-false b delimiter other) no_digit neither.0)))

escape-sound : (delimiter b : ℕ) → EscapeRead delimiter b (unescaped_part delimiter b)
escape-sound delimiter b =
    either (EscapeRead delimiter b) (nat_eq b delimiter) _ _
    (λ end p is.
    let same : b ≡ delimiter = eqb-true b delimiter end in
    subst (SpellsEscape delimiter b) (Some-same (part.Literal b) p is) (subst (λ b. SpellsEscape delimiter b (part.Literal b)) (sym same) SpellsEscape.delimiter_itself))
    (escaped-sound delimiter b)

-- one part that is read is spelled so
record PartRead (delimiter : ℕ) (own : List ℕ) (lines : List (List ℕ)) (r : Part × Place) : Type 0 where
  taken : List (List ℕ)
  divided : lines ≡ taken ++ r.1.later
  taken_are : AreLines taken
  are : AreLines r.1.later
  spells : SpellsPart delimiter own r.1.line taken r.0

on_line : {delimiter : ℕ} {own : List ℕ} (lines : List (List ℕ)) (more : List ℕ) (p : Part) → AreLines lines → SpellsPart delimiter own more [] p → PartRead delimiter own lines (p, place more lines)
on_line lines more p are is = record { taken = []; divided = refl; taken_are = All-nil IsLine; are = are; spells = is }

abbrev ReadAs : ℕ → List ℕ → List (List ℕ) → ParsedAt Part → Type 0
ReadAs delimiter own lines read = (r : Part × Place) → read ≡ Some r → PartRead delimiter own lines r

escaped_at-sound : (delimiter : ℕ) (bs : List ℕ) (lines : List (List ℕ)) → AreLines lines → ReadAs delimiter (backslash ∷ bs) lines (escaped_at delimiter bs lines)
escaped_at-sound delimiter [] [] are r is = absurd (none_some is)
escaped_at-sound delimiter [] (line ∷ lines) are r is =
    subst (PartRead delimiter (backslash ∷ []) (line ∷ lines)) (Some-same (part.Split, place line lines) r is)
    (record {
      taken = line ∷ [];
      divided = refl;
      taken_are = All-cons IsLine line [] (All-head IsLine line lines are) (All-nil IsLine);
      are = All-tail IsLine line lines are;
      spells = split line (All-head IsLine line lines are);
    })
escaped_at-sound delimiter (b ∷ bs) lines are r is =
    let p = bind-some (unescaped_part delimiter b) (λ p. Some (p, place bs lines)) r is in
    subst (PartRead delimiter (backslash ∷ b ∷ bs) lines) (Some-same (p.0, place bs lines) r p.2) (on_line lines bs p.0 are (escape b bs p.0 (escape-sound delimiter b p.0 p.1)))

-- a byte that isn't after a backslash
plain-sound : (delimiter b : ℕ) (bs : List ℕ) → b ≢ delimiter → b ≢ backslash → SpellsPart delimiter (b ∷ bs) bs [] (elim (nat_eq b ampersand) [ true ↦ part.Match | false ↦ part.Literal b ])
plain-sound delimiter b bs no_end no_escape =
    either (SpellsPart delimiter (b ∷ bs) bs []) (nat_eq b ampersand) part.Match (part.Literal b)
    (λ yes.
    let same : b ≡ ampersand = eqb-true b ampersand yes in
    subst (λ b. SpellsPart delimiter (b ∷ bs) bs [] part.Match) (sym same) (match bs (λ e. no_end (same ∙ e))))
    (λ no. literal b bs no_end no_escape (eqb-false b ampersand no))

part_at-sound : (delimiter b : ℕ) (bs : List ℕ) (lines : List (List ℕ)) → b ≢ delimiter → AreLines lines → ReadAs delimiter (b ∷ bs) lines (part_at delimiter b bs lines)
part_at-sound delimiter b bs lines no_end are =
    either (ReadAs delimiter (b ∷ bs) lines) (nat_eq b backslash) _ _
    (λ yes. subst (λ b. ReadAs delimiter (b ∷ bs) lines (escaped_at delimiter bs lines)) (sym (eqb-true b backslash yes)) (escaped_at-sound delimiter bs lines are))
    (λ no r is.
    subst (PartRead delimiter (b ∷ bs) lines) (Some-same (elim (nat_eq b ampersand) [ true ↦ part.Match | false ↦ part.Literal b ], place bs lines) r is)
    (on_line lines bs _ are (plain-sound delimiter b bs no_end (eqb-false b backslash no))))

-- parts that are read are spelled so
abbrev PartsRead : ℕ → List ℕ → List (List ℕ) → ParsedAt (List Part) → Type 0
PartsRead delimiter own lines read = (r : List Part × Place) → read ≡ Some r → ReadsOver (SpellsParts delimiter) own lines r

closed_read : (delimiter : ℕ) (more : List ℕ) (lines : List (List ℕ)) → AreLines lines → PartsRead delimiter (delimiter ∷ more) lines (Some ([], place (delimiter ∷ more) lines))
closed_read delimiter more lines are r is =
    subst (ReadsOver (SpellsParts delimiter) (delimiter ∷ more) lines) (Some-same ([], place (delimiter ∷ more) lines) r is)
    (record { taken = []; split = refl; taken_are = All-nil IsLine; are = are; spells = SpellsParts.closed more })

more_read : (most delimiter : ℕ) (own : List ℕ) (lines : List (List ℕ)) (first : Part × Place) → PartRead delimiter own lines first →
    PartsRead delimiter first.1.line first.1.later (parts most delimiter first.1.line first.1.later) →
    PartsRead delimiter own lines (after_part first.0 (parts most delimiter first.1.line first.1.later))
more_read most delimiter own lines first one others r is =
    let found = bind-some (parts most delimiter first.1.line first.1.later) (λ r. Some (first.0 ∷ r.0, r.1)) r is in
    let rest = others found.0 found.1 in
    subst (ReadsOver (SpellsParts delimiter) own lines) (Some-same (first.0 ∷ found.0.0, found.0.1) r found.2)
    (record {
      taken = one.taken ++ rest.taken;
      split = one.divided ∙ ap (λ lines. one.taken ++ lines) rest.split ∙ sym (append_assoc one.taken rest.taken found.0.1.later);
      taken_are = All-append IsLine one.taken rest.taken one.taken_are rest.taken_are;
      are = rest.are;
      spells = part_before one.spells rest.taken rest.spells;
    })

pub parts-sound : (most delimiter : ℕ) (own : List ℕ) (lines : List (List ℕ)) → AreLines lines → PartsRead delimiter own lines (parts most delimiter own lines)
parts-sound most delimiter [] lines are = λ r is.
    subst (ReadsOver (SpellsParts delimiter) [] lines) (Some-same ([], place [] lines) r is)
    (record { taken = []; split = refl; taken_are = All-nil IsLine; are = are; spells = SpellsParts.left_open })
parts-sound zero delimiter (b ∷ bs) lines are = λ r is. absurd (none_some is)
parts-sound (suc most) delimiter (b ∷ bs) lines are =
    either (PartsRead delimiter (b ∷ bs) lines) (nat_eq b delimiter) _ _
    (λ end. subst (λ b. PartsRead delimiter (b ∷ bs) lines (Some ([], place (b ∷ bs) lines))) (sym (eqb-true b delimiter end)) (closed_read delimiter bs lines are))
    (λ other r is.
    let first = bind-some (part_at delimiter b bs lines) (λ p. after_part p.0 (parts most delimiter p.1.line p.1.later)) r is in
    let one = part_at-sound delimiter b bs lines (eqb-false b delimiter other) are first.0 first.1 in
    more_read most delimiter (b ∷ bs) lines first.0 one (parts-sound most delimiter first.0.1.line first.0.1.later one.are) r first.2)

group_read : (digit : ℕ) → digit < 9 → part_escaped (49 + digit) ≡ Some (part.Group digit)
group_read zero lt = refl
group_read (suc zero) lt = refl
group_read (suc (suc zero)) lt = refl
group_read (suc (suc (suc zero))) lt = refl
group_read (suc (suc (suc (suc zero)))) lt = refl
group_read (suc (suc (suc (suc (suc zero))))) lt = refl
group_read (suc (suc (suc (suc (suc (suc zero)))))) lt = refl
group_read (suc (suc (suc (suc (suc (suc (suc zero))))))) lt = refl
group_read (suc (suc (suc (suc (suc (suc (suc (suc zero)))))))) lt = refl
group_read (suc (suc (suc (suc (suc (suc (suc (suc (suc n))))))))) lt = absurd (omega (arith, lt))

byte_read : (byte : ℕ) → is_digit byte ≡ false → is_letter byte ≡ false → nat_eq byte 48 ≡ false → part_escaped byte ≡ Some (part.Literal byte)
byte_read byte no_digit no_letter no_zero = rw (no_letter, no_zero, no_digit, part_escaped) refl

no_zero : (byte : ℕ) → is_digit byte ≡ false → nat_eq byte 48 ≡ false
no_zero byte no_digit = ne_eqb byte 48 (λ same. let is : true ≡ false = sym (ap is_digit same) ∙ no_digit in cc)

escape-complete : (delimiter : ℕ) {byte : ℕ} {p : Part} → SpellsEscape delimiter byte p → unescaped_part delimiter byte ≡ Some p
escape-complete delimiter SpellsEscape.delimiter_itself = rw (eq-eqb delimiter delimiter refl, unescaped_part) refl
escape-complete delimiter (SpellsEscape.group digit other lt) = rw (ne_eqb (49 + digit) delimiter other, unescaped_part) (group_read digit lt)
escape-complete delimiter (SpellsEscape.byte byte other no_digit no_letter) = rw (ne_eqb byte delimiter other, unescaped_part) (byte_read byte no_digit no_letter (no_zero byte no_digit))

-- what follows a part
abbrev pub further : ℕ → ℕ → ParsedAt Part → ParsedAt (List Part)
further most delimiter read = read >>= λ p. after_part p.0 (parts most delimiter p.1.line p.1.later)

pub at_part : (most delimiter b : ℕ) (bs : List ℕ) (lines : List (List ℕ)) → nat_eq b delimiter ≡ false → parts (suc most) delimiter (b ∷ bs) lines ≡ further most delimiter (part_at delimiter b bs lines)
at_part most delimiter b bs lines other = rw (other, parts) refl

literal_read : (delimiter b : ℕ) (bs : List ℕ) (lines : List (List ℕ)) → b ≢ backslash → b ≢ ampersand → part_at delimiter b bs lines ≡ Some (part.Literal b, place bs lines)
literal_read delimiter b bs lines no_escape no_match = rw (ne_eqb b backslash no_escape, ne_eqb b ampersand no_match, part_at) refl

escape_read : (delimiter b : ℕ) (bs : List ℕ) (lines : List (List ℕ)) (p : Part) → SpellsEscape delimiter b p → part_at delimiter backslash (b ∷ bs) lines ≡ Some (p, place bs lines)
escape_read delimiter b bs lines p is = ap (λ (o : Option Part). o >>= λ p. Some (p, place bs lines)) (escape-complete delimiter is)

-- the parts that are read of these lines, with those that are left of them
abbrev PartsFound : (most delimiter : ℕ) (own : List ℕ) (lines : List (List ℕ)) (more rest : List ℕ) → List Part → Type 0
PartsFound most delimiter own lines more rest ps = (left : LeftLines rest) × (parts most delimiter own lines ≡ Some (ps, place more left.lines))

after_found : (most delimiter b : ℕ) (bs : List ℕ) (lines : List (List ℕ)) {middle more rest : List ℕ} {others : List (List ℕ)} {p : Part} {ps : List Part} → nat_eq b delimiter ≡ false →
    part_at delimiter b bs lines ≡ Some (p, place middle others) → PartsFound most delimiter middle others more rest ps → PartsFound (suc most) delimiter (b ∷ bs) lines more rest (p ∷ ps)
after_found most delimiter b bs lines {p = p} other is (left, found) =
    (left, at_part most delimiter b bs lines other ∙ ap (further most delimiter) is ∙ ap (after_part p) found)

-- the parts of a replacement that are spelled so are read
pub parts-complete : (delimiter : ℕ) {own more text : List ℕ} {ps : List Part} → SpellsParts delimiter own more text ps → delimiter ≢ backslash → (most : ℕ) (lines : List (List ℕ)) (rest : List ℕ) → AreLines lines →
    text ++ rest ≡ bytes_of lines → length own + length (bytes_of lines) ≤ most → PartsFound most delimiter own lines more rest ps
parts-complete delimiter SpellsParts.left_open plain most lines rest are same enough = (record { lines = lines; split = same; are = are }, refl)
parts-complete delimiter (SpellsParts.closed more) plain zero lines rest are same enough = absurd (omega (arith, enough))
parts-complete delimiter (SpellsParts.closed more) plain (suc most) lines rest are same enough =
    (record { lines = lines; split = same; are = are }, rw (eq-eqb delimiter delimiter refl, parts) refl)
parts-complete delimiter (SpellsParts.literal byte own more text ps no_end no_escape no_match is) plain zero lines rest are same enough = absurd (omega (arith, enough))
parts-complete delimiter (SpellsParts.literal byte own more text ps no_end no_escape no_match is) plain (suc most) lines rest are same enough =
    after_found most delimiter byte own lines (ne_eqb byte delimiter no_end) (literal_read delimiter byte own lines no_escape no_match) (parts-complete delimiter is plain most lines rest are same (omega (arith, enough)))
parts-complete delimiter (SpellsParts.match own more text ps no_end is) plain zero lines rest are same enough = absurd (omega (arith, enough))
parts-complete delimiter (SpellsParts.match own more text ps no_end is) plain (suc most) lines rest are same enough =
    after_found most delimiter ampersand own lines {p = part.Match} (ne_eqb ampersand delimiter no_end) refl (parts-complete delimiter is plain most lines rest are same (omega (arith, enough)))
parts-complete delimiter (SpellsParts.escape byte own more text p ps escaped is) plain zero lines rest are same enough = absurd (omega (arith, enough))
parts-complete delimiter (SpellsParts.escape byte own more text p ps escaped is) plain (suc most) lines rest are same enough =
    after_found most delimiter backslash (byte ∷ own) lines (ne_eqb backslash delimiter (λ e. plain (sym e))) (escape_read delimiter byte own lines p escaped) (parts-complete delimiter is plain most lines rest are same (omega (arith, enough)))
parts-complete delimiter (SpellsParts.split own more text ps line is) plain zero lines rest are same enough = absurd (omega (arith, enough))
parts-complete delimiter (SpellsParts.split own more text ps line is) plain (suc most) lines rest are same enough =
    let first = first_line own (text ++ rest) lines line are (sym (append_assoc own (newline ∷ text) rest) ∙ same) in
    let size : length (bytes_of lines) ≡ length own + suc (length (bytes_of first.later)) =
    ap (λ lines. length (bytes_of lines)) first.split ∙ length-append own (newline ∷ bytes_of first.later) in
    let read : part_at delimiter backslash [] lines ≡ Some (part.Split, place own first.later) = ap (λ lines. part_at delimiter backslash [] lines) first.split in
    after_found most delimiter backslash [] lines (ne_eqb backslash delimiter (λ e. plain (sym e))) read
    (parts-complete delimiter is plain most first.later rest first.are first.after (omega (arith, enough, size)))
