-- Each line of a text begins with a word of its kind.
use Rattle.std.proofs.Common.{◌≡◌, ◌++◌, ◌∷◌, [], ℕ, Bool, true, false, List, map, Option, Some, inl, inr, refl, sym, subst}
use Rattle.std.specs.Prelude.{decimal, codes, All}
use Rattle.std.proofs.lemmas.List.Elements.{All-nil, All-cons}
use Rattle.zones.specs.Zone.{Bounds}
use Rattle.ed_rules.specs.declared.state.Changed.{Changed}
use Rattle.ed_rules.specs.declared.state.Replacements.{Replacements}
use Rattle.ed_rules.specs.Choices.{Choice}
use Rattle.cert_check.specs.declared.text.cursor.Head.{Head}
use Rattle.cert_check.specs.declared.text.cursor.Head.TheVariants.{AnotherNote, Loop, End}
use Rattle.cert_check.specs.declared.text.lines.Found.{Found}
use Rattle.cert_check.specs.declared.text.wanted.LineKind.{LineKind}
use Rattle.cert_check.specs.declared.text.wanted.LineKind.TheVariants as kind
use Rattle.cert_check.specs.text.Text as text
use Rattle.cert_check.specs.text.Text.{Word, line_text, bounds_words, letter_a, sure_letters, letters_words, choice_word, possible, limit_word, zone_line, marks_line, choices_line, replacements_line, changed_line, path_line, texts_line, fact_word, stretch_word, known_line, clear_line, chains_line}
use Rattle.ed_rules.specs.facts.Facts.{LineFact, Stretch}
use Rattle.landmarks.specs.ChainValues.{ChainValue}
use Rattle.cert_check.specs.text.Pieces.{IsOf, MayStand, alone, limits_line, found_line, either_line, head_line}
use Rattle.cert_check.specs.text.Wanted.{key, other_keys, HasKey, HasSomeKey, IsOfKind, SomeLine}
use Rattle.cert_check.proofs.texts.Pieces.{AreBegun, begun-by}

keyed : (word : Word) (words : List Word) → HasKey word (line_text (word ∷ words))
keyed word words = record { words = words; is = refl }

-- the first word of a kind
first : (kind : LineKind) (words : List Word) → IsOfKind kind (line_text (key kind ∷ words))
first kind words = inl (keyed (key kind) words)

pub path-keyed : (path : Choice) → IsOfKind kind.Path (line_text (path_line path))
path-keyed path = first kind.Path (choice_word path ∷ [])

pub start-keyed : (limits : ℕ × Option ℕ) → IsOfKind kind.Start (line_text (limits_line (codes "start") limits))
start-keyed limits = first kind.Start (decimal limits.0 ∷ limit_word limits.1 ∷ [])

pub final-keyed : (limits : ℕ × Option ℕ) → IsOfKind kind.Final (line_text (limits_line (codes "final") limits))
final-keyed limits = first kind.Final (decimal limits.0 ∷ limit_word limits.1 ∷ [])

pub zone-keyed : (kind : LineKind) (zone : Bounds) → IsOfKind kind (line_text (zone_line (key kind) zone))
zone-keyed kind zone = first kind (bounds_words 0 zone)

pub marks-keyed : (kind : LineKind) (marks : List Bool) → IsOfKind kind (line_text (marks_line (key kind) marks))
marks-keyed kind marks = first kind (letters_words (sure_letters letter_a marks))

pub choices-keyed : (kind : LineKind) (choices : List Choice) → IsOfKind kind (line_text (choices_line (key kind) choices))
choices-keyed kind choices = first kind (map choice_word choices)

pub texts-keyed : (kind : LineKind) (texts : List (List ℕ)) → IsOfKind kind (line_text (texts_line (key kind) texts))
texts-keyed kind texts = choices-keyed kind (map Some texts)

pub known-keyed : (kind : LineKind) (facts : List LineFact) → IsOfKind kind (line_text (known_line (key kind) facts))
known-keyed kind facts = first kind (map fact_word facts)

pub clear-keyed : (kind : LineKind) (stretches : List Stretch) → IsOfKind kind (line_text (clear_line (key kind) stretches))
clear-keyed kind stretches = first kind (map stretch_word stretches)

pub at-keyed : (chains : List ChainValue) → IsOfKind kind.At (line_text (chains_line chains))
at-keyed chains = texts-keyed kind.At (map (λ (c : ChainValue). c.text) chains)

pub replacements-keyed : (r : Replacements) → IsOfKind kind.Replacements (line_text (replacements_line r))
replacements-keyed r = first kind.Replacements (possible r.none (codes "none") ++ possible r.plain (codes "plain") ++ possible r.split (codes "split"))

pub changed-keyed : (c : Changed) → IsOfKind kind.Changed (line_text (changed_line c))
changed-keyed c = first kind.Changed (possible c.no (codes "no") ++ possible c.yes (codes "yes"))

pub found-keyed : (f : Found) → IsOfKind kind.Undo (line_text (found_line f))
found-keyed f = first kind.Undo (possible f.nothing (codes "nothing") ++ possible f.same (codes "same") ++ possible f.was (codes "was"))

-- the first word of a kind, or the only other one
pub either-keyed : (kind : LineKind) (other : Word) → other_keys kind ≡ other ∷ [] → (b : Bool) → IsOfKind kind (line_text (either_line (key kind) other b))
either-keyed kind other is true = first kind []
either-keyed kind other is false =
    inr (subst (λ (words : List Word). HasSomeKey words (line_text (other ∷ []))) (sym is) (inl (keyed other [])))

pub head-keyed : (h : Head) → IsOfKind kind.NoteLoopOrEnd (line_text (head_line h))
head-keyed AnotherNote = first kind.NoteLoopOrEnd []
head-keyed Loop = inr (inl (keyed (codes "loop") []))
head-keyed End = inr (inr (inl (keyed (codes "end") [])))

-- each word of a kind begins the line of a value
abbrev IsBegun : {A : Type 0} → (spell : A → text.Line) → Word → Type 0
IsBegun spell word = SomeLine (MayStand (IsOf (alone spell) (λ _. Unit {0})) []) word

pub either-begun : (kind : LineKind) (other : Word) → other_keys kind ≡ other ∷ [] → AreBegun (either_line (key kind) other) (λ _. Unit {0}) kind
either-begun kind other is =
    let spell : Bool → text.Line = either_line (key kind) other in
    subst (λ (words : List Word). All (IsBegun spell) (key kind ∷ words)) (sym is)
    (All-cons (IsBegun spell) (key kind) (other ∷ []) (begun-by spell (λ _. Unit {0}) true (key kind) tt (keyed (key kind) []))
    (All-cons (IsBegun spell) other [] (begun-by spell (λ _. Unit {0}) false other tt (keyed other [])) (All-nil (IsBegun spell))))

pub head-begun : AreBegun head_line (λ _. Unit {0}) kind.NoteLoopOrEnd
head-begun =
    All-cons (IsBegun head_line) (codes "note") (codes "loop" ∷ codes "end" ∷ []) (begun-by head_line (λ _. Unit {0}) AnotherNote (codes "note") tt (keyed (codes "note") []))
    (All-cons (IsBegun head_line) (codes "loop") (codes "end" ∷ []) (begun-by head_line (λ _. Unit {0}) Loop (codes "loop") tt (keyed (codes "loop") []))
    (All-cons (IsBegun head_line) (codes "end") [] (begun-by head_line (λ _. Unit {0}) End (codes "end") tt (keyed (codes "end") [])) (All-nil (IsBegun head_line))))
