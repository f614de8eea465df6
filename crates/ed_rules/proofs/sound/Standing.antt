-- A state still stands for an editor's where a step changed one name that isn't a mark.
use Rattle.std.proofs.Common.{◌≡◌, ◌<◌, ◌≤◌, ◌+◌, ℕ, ℤ, pos, ◌+ℤ◌, ◌-ℤ◌, ◌≤ℤ◌, Bool, true, List, length, arith, refl, ◌∙◌}
use Rattle.std.proofs.lemmas.List.Elements.{All-nil}
use Rattle.ed_base.specs.Buffer.{Line}
use Rattle.zones.specs.Zone.{Numbers, updated}
use Rattle.zones.specs.Steps.{after_set, after_guard}
use Rattle.zones.proofs.Soundness.{Holds-after_set, Holds-after_guard}
use Rattle.ed_syntax.specs.meaning.States as editor
use Rattle.ed_rules.specs.declared.known_matches.Matches.{Matches}
use Rattle.ed_rules.specs.declared.state.State.{State}
use Rattle.ed_rules.specs.Choices.{Choice, has_choice}
use Rattle.ed_rules.specs.Matching.{saying}
use Rattle.ed_rules.specs.StandsFor.{Reads, StandsBy}
use Rattle.ed_rules.specs.Pieces.{with_zone}
use Rattle.ed_rules.specs.facts.Facts.{Facts, FactsHold, LineFactHolds, StretchHolds, no_facts}
use Rattle.zones.proofs.Known.{updated-same, updated-other}

-- for some numbers
abbrev pub Stands : State → editor.State → Type 0
Stands s e = (number : Numbers) × StandsBy s e number

-- and what is said of single lines is true, by the same numbers
abbrev pub Begins : State → editor.State → Type 0
Begins s e = (number : Numbers) × StandsBy s e number × FactsHold s.facts number e.lines

-- nothing is said, and that is always true
pub nothing-holds : (v : Numbers) (lines : List Line) → FactsHold no_facts v lines
nothing-holds v lines = record { of_lines = All-nil (LineFactHolds v lines); of_clear = All-nil (StretchHolds v lines) }

-- a temporary name tells nothing of the buffer
pub Reads-temporary : (sure : List Bool) (lines : List Line) (current : ℕ) (v : Numbers) (x : ℕ) (n : ℤ) → 3 ≤ x → x < 6 →
    Reads sure lines current v → Reads sure lines current (updated v x n)
Reads-temporary sure lines current v x n lo hi r = record {
  zero_is = updated-other v x n 0 (omega arith) ∙ r.zero_is;
  current_is = updated-other v x n 1 (omega arith) ∙ r.current_is;
  last_is = updated-other v x n 2 (omega arith) ∙ r.last_is;
  marks_are = λ letter h e. let o = r.marks_are letter h e in (o.0, o.1, updated-other v x n (6 + letter) (omega arith) ∙ o.2);
}

pub Reads-current : (sure : List Bool) (lines : List Line) (current : ℕ) (v : Numbers) (n : ℕ) →
    Reads sure lines current v → Reads sure lines n (updated v 1 (pos n))
Reads-current sure lines current v n r = record {
  zero_is = r.zero_is;
  current_is = refl;
  last_is = r.last_is;
  marks_are = λ letter h e. let o = r.marks_are letter h e in (o.0, o.1, updated-other v 1 (pos n) (6 + letter) (omega arith) ∙ o.2);
}

-- a temporary is set
pub StandsBy-temporary : (s : State) (e : editor.State) (v : Numbers) (x name : ℕ) (c n : ℤ) → 3 ≤ x → x < 6 → name < 32 →
    n ≡ v name +ℤ c → StandsBy s e v → StandsBy (with_zone (after_set s.zone x name c) s) e (updated v x n)
StandsBy-temporary s e v x name c n lo hi hn is st = record {
  buffer = record {
    holds = Holds-after_set s.zone x name c v (updated v x n) (omega arith) hn st.buffer.holds (updated-other v x n) (updated-same v x n ∙ is);
    reads = Reads-temporary s.marks e.lines e.current v x n lo hi st.buffer.reads;
    inside = st.buffer.inside;
  };
  remembered = st.remembered;
  changed = st.changed;
  past = st.past;
}

-- the current line is set
pub StandsBy-current : (s : State) (e : editor.State) (v : Numbers) (name : ℕ) (c : ℤ) (n : ℕ) → name < 32 →
    pos n ≡ v name +ℤ c → n ≤ length e.lines → StandsBy s e v →
    StandsBy (with_zone (after_set s.zone 1 name c) s) (record e { current = n }) (updated v 1 (pos n))
StandsBy-current s e v name c n hn is within st = record {
  buffer = record {
    holds = Holds-after_set s.zone 1 name c v (updated v 1 (pos n)) (omega arith) hn st.buffer.holds (updated-other v 1 (pos n)) is;
    reads = Reads-current s.marks e.lines e.current v n st.buffer.reads;
    inside = within;
  };
  remembered = st.remembered;
  changed = st.changed;
  past = st.past;
}

-- another pattern is remembered, and possible
pub StandsBy-patterns : (s : State) (e : editor.State) (v : Numbers) (possible : List Choice) (p : Choice) → has_choice possible p ≡ true → StandsBy s e v →
    StandsBy (record s { patterns = possible }) (record e { pattern = p }) v
StandsBy-patterns s e v possible p h st = record {
  buffer = record { holds = st.buffer.holds; reads = st.buffer.reads; inside = st.buffer.inside };
  remembered = (h, st.remembered.1, st.remembered.2);
  changed = st.changed;
  past = st.past;
}

-- what is true may be taken up
pub StandsBy-guarded : (s : State) (e : editor.State) (v : Numbers) (x y : ℕ) (c : ℤ) → x < 32 → y < 32 → (v x -ℤ v y) ≤ℤ c → StandsBy s e v →
    StandsBy (with_zone (after_guard s.zone x y c) s) e v
StandsBy-guarded s e v x y c hx hy h st = record {
  buffer = record { holds = Holds-after_guard s.zone x y c v hx hy st.buffer.holds h; reads = st.buffer.reads; inside = st.buffer.inside };
  remembered = st.remembered;
  changed = st.changed;
  past = st.past;
}

-- what is known of matches and of single lines is said beside
pub StandsBy-matching : (s : State) (e : editor.State) (v : Numbers) (m : Matches) (facts : Facts) → StandsBy s e v → StandsBy (saying m facts s) e v
StandsBy-matching s e v m facts st = record { buffer = st.buffer; remembered = st.remembered; changed = st.changed; past = st.past }

pub Stands-matching : (s : State) (e : editor.State) (m : Matches) (facts : Facts) → Stands s e → Stands (saying m facts s) e
Stands-matching s e m facts st = (st.0, StandsBy-matching s e st.0 m facts st.1)
