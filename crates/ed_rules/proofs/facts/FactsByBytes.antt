-- What is said of single lines is told by their bytes: marks and flags make no difference.
use Rattle.std.proofs.Common.{◌≡◌, ◌≤◌, ℕ, zero, suc, ◌-◌, List, [], ◌∷◌, length, refl, ◌∙◌, sym, ap, subst}
use Rattle.std.specs.Prelude.{slice_index_or}
use Rattle.std.proofs.lemmas.List.{length-map}
use Rattle.std.proofs.lemmas.List.Elements.{All-weaker}
use Rattle.zones.specs.Zone.{Numbers}
use Rattle.ed_base.specs.Buffer.{Line, plain_line, texts}
use Rattle.ed_syntax.specs.meaning.Values.{matches, matches_line}
use Rattle.ed_rules.specs.facts.Facts.{LineFact, Stretch, Facts, FactsHold, LineFactHolds, StretchHolds}

bytes-at : (ls : List Line) (i : ℕ) → (slice_index_or ls i (plain_line [])).bytes ≡ slice_index_or (texts ls) i []
bytes-at [] i = refl
bytes-at (l ∷ ls) zero = refl
bytes-at (l ∷ ls) (suc i) = bytes-at ls i

matches-same : (ls ms : List Line) → texts ls ≡ texts ms → (text : List ℕ) (n : ℕ) → matches_line text ls n ≡ matches_line text ms n
matches-same ls ms h text n =
    ap (matches text)
    (bytes-at ls (n - 1) ∙ ap (λ (ts : List (List ℕ)). slice_index_or ts (n - 1) []) h ∙ sym (bytes-at ms (n - 1)))

length-same : (ls ms : List Line) → texts ls ≡ texts ms → length ls ≡ length ms
length-same ls ms h =
    sym (length-map ls (λ (line : Line). line.bytes)) ∙ ap length h ∙ length-map ms (λ (line : Line). line.bytes)

fact-same : (v : Numbers) (ls ms : List Line) → texts ls ≡ texts ms → (f : LineFact) → LineFactHolds v ls f → LineFactHolds v ms f
fact-same v ls ms h f k = record {
  named = k.named;
  holds = record {
    line = k.holds.line;
    is = k.holds.is;
    from = k.holds.from;
    inside = subst (λ (n : ℕ). k.holds.line ≤ n) (length-same ls ms h) k.holds.inside;
    told = sym (matches-same ls ms h f.pattern k.holds.line) ∙ k.holds.told;
  };
}

stretch-same : (v : Numbers) (ls ms : List Line) → texts ls ≡ texts ms → (s : Stretch) → StretchHolds v ls s → StretchHolds v ms s
stretch-same v ls ms h s k = record {
  after_named = k.after_named;
  before_named = k.before_named;
  holds = λ n from to low high.
      sym (matches-same ls ms h s.pattern n) ∙ k.holds n from (subst (λ (count : ℕ). n ≤ count) (sym (length-same ls ms h)) to) low high;
}

pub FactsHold-bytes : (facts : Facts) (v : Numbers) (ls ms : List Line) → texts ls ≡ texts ms → FactsHold facts v ls → FactsHold facts v ms
FactsHold-bytes facts v ls ms h k = record {
  of_lines = All-weaker (LineFactHolds v ls) (LineFactHolds v ms) (fact-same v ls ms h) facts.lines k.of_lines;
  of_clear = All-weaker (StretchHolds v ls) (StretchHolds v ms) (stretch-same v ls ms h) facts.clear k.of_clear;
}
