-- A replacement: what is read is spelled so, and what is spelled so is read.
use Rattle.std.proofs.Common.{◌≡◌, ◌≢◌, ℕ, nat_eq, not, true, false, ◌&&◌, List, [], ◌∷◌, ◌++◌, length, drop, Option, Some, None, refl, sym, ap, ◌∙◌, ⊎_elim, subst, arith}
use Rattle.std.proofs.lemmas.Bool.{cases_Bool, eq-eqb, eqb-true, eqb-false, ne_eqb, and_parts, and_from, not-true, false≢true}
use Rattle.std.proofs.lemmas.List.{length-append}
use Rattle.std.proofs.lemmas.List.Elements.{All-nil}
use Rattle.ed_base.specs.Lines.{newline, IsLine, AreLines, bytes_of}
use Rattle.ed_syntax.specs.declared.replacement.Part.{Part}
use Rattle.ed_syntax.specs.spelling.Characters.{percent_sign, backslash}
use Rattle.ed_syntax.specs.spelling.Parameters.{SpellsParts, IsClosed, SpellsReplacement}
use Rattle.ed_syntax.specs.reading.Tokens.{◌>>=◌}
use Rattle.ed_syntax.specs.reading.ReadParameters.{Place, ParsedAt, place, all_parts, is_closed, is_percent, replacement}
use Rattle.ed_syntax.proofs.meaning.StepLemmas.{Some-same, bind-some, chosen, either}
use Rattle.ed_syntax.proofs.reader.TextLemmas.{LeftLines}
use Rattle.ed_syntax.proofs.reader.LineParts.{ReadsOver}
use Rattle.ed_syntax.proofs.reader.PartsLemmas.{parts-sound, parts-complete}

-- after parts stands their delimiter, or the line's end
pub parts-closed : {delimiter : ℕ} {own more text : List ℕ} {ps : List Part} → SpellsParts delimiter own more text ps → IsClosed delimiter more
parts-closed (SpellsParts.closed more) = IsClosed.closed more
parts-closed SpellsParts.left_open = IsClosed.left_open
parts-closed (SpellsParts.literal byte own more text ps no_end no_escape no_match is) = parts-closed is
parts-closed (SpellsParts.match own more text ps no_end is) = parts-closed is
parts-closed (SpellsParts.escape byte own more text p ps escaped is) = parts-closed is
parts-closed (SpellsParts.split own more text ps line is) = parts-closed is

first_byte : {a b : ℕ} {xs ys : List ℕ} → a ∷ xs ≡ b ∷ ys → a ≡ b
first_byte same = cc

-- the parts of bytes that begin with the delimiter
at_delimiter : {delimiter : ℕ} {own more text : List ℕ} {ps : List Part} → SpellsParts delimiter own more text ps → delimiter ≢ backslash → (rest : List ℕ) → own ≡ delimiter ∷ rest → more ≡ own
at_delimiter (SpellsParts.closed more) plain rest same = refl
at_delimiter SpellsParts.left_open plain rest same = cc
at_delimiter (SpellsParts.literal byte own more text ps no_end no_escape no_match spells) plain rest same = absurd (no_end (first_byte same))
at_delimiter (SpellsParts.match own more text ps no_end spells) plain rest same = absurd (no_end (first_byte same))
at_delimiter (SpellsParts.escape byte own more text p ps escaped spells) plain rest same = absurd (plain (sym (first_byte same)))
at_delimiter (SpellsParts.split own more text ps line spells) plain rest same = absurd (plain (sym (first_byte same)))

-- those of none
at_end : {delimiter : ℕ} {own more text : List ℕ} {ps : List Part} → SpellsParts delimiter own more text ps → own ≡ [] → more ≡ own
at_end (SpellsParts.closed more) same = refl
at_end SpellsParts.left_open same = refl
at_end (SpellsParts.literal byte own more text ps no_end no_escape no_match spells) same = cc
at_end (SpellsParts.match own more text ps no_end spells) same = cc
at_end (SpellsParts.escape byte own more text p ps escaped spells) same = cc
at_end (SpellsParts.split own more text ps line spells) same = cc

-- the parts of bytes that are closed at once
closed-parts : {delimiter : ℕ} {own more text : List ℕ} {ps : List Part} → SpellsParts delimiter own more text ps → delimiter ≢ backslash → IsClosed delimiter own → more ≡ own
closed-parts spells plain (IsClosed.closed rest) = at_delimiter spells plain rest refl
closed-parts spells plain IsClosed.left_open = at_end spells refl

-- the parts of a `%` that is closed
percent-parts : {delimiter : ℕ} {own more text rest : List ℕ} {ps : List Part} → SpellsParts delimiter own more text ps → delimiter ≢ backslash → own ≡ percent_sign ∷ rest → percent_sign ≢ delimiter →
    IsClosed delimiter rest → more ≡ rest
percent-parts (SpellsParts.closed more) plain same no_end is = absurd (no_end (sym (first_byte same)))
percent-parts SpellsParts.left_open plain same no_end is = cc
percent-parts {delimiter} {rest = rest} (SpellsParts.literal byte own more text ps other no_escape no_match spells) plain same no_end is =
    let tail : own ≡ rest = cc in
    closed-parts spells plain (subst (IsClosed delimiter) (sym tail) is) ∙ tail
percent-parts (SpellsParts.match own more text ps other spells) plain same no_end is = absurd (omega (arith, first_byte same))
percent-parts (SpellsParts.escape byte own more text p ps escaped spells) plain same no_end is = absurd (omega (arith, first_byte same))
percent-parts (SpellsParts.split own more text ps line spells) plain same no_end is = absurd (omega (arith, first_byte same))

closed-sound : (delimiter : ℕ) (bytes : List ℕ) → is_closed delimiter bytes ≡ true → IsClosed delimiter bytes
closed-sound delimiter [] is = IsClosed.left_open
closed-sound delimiter (b ∷ bytes) is = subst (λ b. IsClosed delimiter (b ∷ bytes)) (sym (eqb-true b delimiter is)) (IsClosed.closed bytes)

closed-complete : {delimiter : ℕ} {bytes : List ℕ} → IsClosed delimiter bytes → is_closed delimiter bytes ≡ true
closed-complete {delimiter} (IsClosed.closed more) = eq-eqb delimiter delimiter refl
closed-complete IsClosed.left_open = refl

-- a `%` alone, and what stands after it
record Alone (delimiter : ℕ) (own : List ℕ) : Type 0 where
  more : List ℕ
  split : own ≡ percent_sign ∷ more
  other : percent_sign ≢ delimiter
  closed : IsClosed delimiter more

percent-sound : (delimiter : ℕ) (own : List ℕ) → is_percent delimiter own ≡ true → Alone delimiter own
percent-sound delimiter [] is = absurd (false≢true is)
percent-sound delimiter (b ∷ bs) is =
    let whole = and_parts (nat_eq b percent_sign && not (nat_eq b delimiter)) (is_closed delimiter bs) is in
    let front = and_parts (nat_eq b percent_sign) (not (nat_eq b delimiter)) whole.0 in
    let same : b ≡ percent_sign = eqb-true b percent_sign front.0 in
    let other : b ≢ delimiter = eqb-false b delimiter (not-true (nat_eq b delimiter) front.1) in
    record { more = bs; split = ap (λ b. b ∷ bs) same; other = λ e. other (same ∙ e); closed = closed-sound delimiter bs whole.1 }

percent-complete : (delimiter : ℕ) (more : List ℕ) → percent_sign ≢ delimiter → IsClosed delimiter more → is_percent delimiter (percent_sign ∷ more) ≡ true
percent-complete delimiter more other is =
    and_from (not (nat_eq percent_sign delimiter)) (is_closed delimiter more) (ap not (ne_eqb percent_sign delimiter other)) (closed-complete is)

-- a replacement that is read is spelled so
abbrev ReplacementRead : ℕ → List ℕ → List (List ℕ) → ParsedAt (Option (List Part)) → Type 0
ReplacementRead delimiter own lines read =
    (r : Option (List Part) × Place) → read ≡ Some r → ReadsOver (SpellsReplacement delimiter) own lines r × IsClosed delimiter r.1.line

alone-sound : (delimiter : ℕ) (own : List ℕ) (lines : List (List ℕ)) → AreLines lines → Alone delimiter own → ReplacementRead delimiter own lines (Some (None, place (drop 1 own) lines))
alone-sound delimiter own lines are is r same =
    let rest : drop 1 own ≡ is.more = ap (drop 1) is.split in
    subst (λ (r : Option (List Part) × Place). ReadsOver (SpellsReplacement delimiter) own lines r × IsClosed delimiter r.1.line) (Some-same (None, place (drop 1 own) lines) r same) (
      record {
        taken = [];
        split = refl;
        taken_are = All-nil IsLine;
        are = are;
        spells = subst (λ own. SpellsReplacement delimiter own (drop 1 own) [] None) (sym is.split) (SpellsReplacement.remembered is.more is.other is.closed);
      },
      subst (IsClosed delimiter) (sym rest) is.closed,
    )

-- a delimiter isn't passed
passed : (delimiter : ℕ) (own more : List ℕ) {text : List ℕ} {ps : List Part} → own ≡ percent_sign ∷ more → percent_sign ≡ delimiter → SpellsParts delimiter own more text ps → ⊥
passed delimiter own more same end spells =
    let here : own ≡ delimiter ∷ more = same ∙ ap (λ b. b ∷ more) end in
    let all : more ≡ own = closed-parts spells (λ e. omega (arith, end, e)) (subst (IsClosed delimiter) (sym here) (IsClosed.closed more)) in
    omega (arith, ap length (all ∙ here))

pub replacement-sound : (delimiter : ℕ) (own : List ℕ) (lines : List (List ℕ)) → AreLines lines → ReplacementRead delimiter own lines (replacement delimiter own lines)
replacement-sound delimiter own lines are =
    either (ReplacementRead delimiter own lines) (is_percent delimiter own) _ _
    (λ alone. alone-sound delimiter own lines are (percent-sound delimiter own alone))
    (λ given r is.
    let found = bind-some (all_parts delimiter own lines) (λ r. Some (Some r.0, r.1)) r is in
    let read = parts-sound (length (bytes_of (own ∷ lines))) delimiter own lines are found.0 found.1 in
    let closed = parts-closed read.spells in
    let other : own ≢ percent_sign ∷ found.0.1.line = λ same.
    ⊎_elim
    (λ end. passed delimiter own found.0.1.line same (eqb-true percent_sign delimiter end) read.spells)
    (λ no_end. false≢true (sym given ∙ ap (is_percent delimiter) same ∙ percent-complete delimiter found.0.1.line (eqb-false percent_sign delimiter no_end) closed))
    (cases_Bool (nat_eq percent_sign delimiter)) in
    subst (λ (r : Option (List Part) × Place). ReadsOver (SpellsReplacement delimiter) own lines r × IsClosed delimiter r.1.line) (Some-same (Some found.0.0, found.0.1) r found.2) (
      record {
        taken = read.taken;
        split = read.split;
        taken_are = read.taken_are;
        are = read.are;
        spells = SpellsReplacement.given own found.0.1.line (bytes_of read.taken) found.0.0 other read.spells;
      },
      closed,
    ))

-- a replacement that is spelled so is read
pub replacement-complete : (delimiter : ℕ) {own more text : List ℕ} {found : Option (List Part)} → SpellsReplacement delimiter own more text found → delimiter ≢ backslash → (lines : List (List ℕ)) (rest : List ℕ) →
    AreLines lines → text ++ rest ≡ bytes_of lines → (left : LeftLines rest) × (replacement delimiter own lines ≡ Some (found, place more left.lines))
replacement-complete delimiter (SpellsReplacement.remembered more other is) plain lines rest are same = (
  record { lines = lines; split = same; are = are },
  ap (λ t. chosen t (Some (None, place more lines)) (all_parts delimiter (percent_sign ∷ more) lines >>= λ r. Some (Some r.0, r.1))) (percent-complete delimiter more other is),
)
replacement-complete delimiter (SpellsReplacement.given own more text ps other is) plain lines rest are same =
    let read = parts-complete delimiter is plain (length (bytes_of (own ∷ lines))) lines rest are same (omega (arith, length-append own (newline ∷ bytes_of lines))) in
    let given : is_percent delimiter own ≡ false =
    ⊎_elim
    (λ alone.
    let found = percent-sound delimiter own alone in
    let here : more ≡ found.more = percent-parts is plain found.split found.other found.closed in
    absurd (other (found.split ∙ ap (λ more. percent_sign ∷ more) (sym here))))
    (λ no. no)
    (cases_Bool (is_percent delimiter own)) in (
      read.0,
      ap (λ t. chosen t (Some (None, place (drop 1 own) lines)) (all_parts delimiter own lines >>= λ r. Some (Some r.0, r.1))) given
          ∙ ap (λ (o : ParsedAt (List Part)). o >>= λ r. Some (Some r.0, r.1)) read.1,
    )
