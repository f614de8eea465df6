-- The start with landmarks stands for each file in which they are, with their letters on its lines.
use Rattle.std.proofs.Common.{◌≡◌, ◌<◌, ℕ, pos, Bool, true, List, map, length, Option, All, sym, ap, ◌∙◌}
use Rattle.zones.specs.Name.{mark}
use Rattle.zones.specs.Zone.{Bounds, Numbers, Holds}
use Rattle.ed_base.specs.Buffer.{Line, plain_line, texts}
use Rattle.ed_base.specs.Lines.{lines_of}
use Rattle.std.proofs.lemmas.List.{length-map}
use Rattle.ed_syntax.specs.Commands.{Script}
use Rattle.ed_syntax.specs.meaning.Erasure.{Marks, AreApart}
use Rattle.ed_syntax.specs.meaning.States as editor
use Rattle.ed_rules.specs.Choices.{Choice}
use Rattle.ed_rules.specs.Marks.{no_marks}
use Rattle.ed_rules.specs.LineBounds.{IsWithin}
use Rattle.ed_rules.specs.States.{start}
use Rattle.ed_rules.specs.StandsFor.{StandsFor}
use Rattle.ed_rules.specs.declared.state.State.{State}
use Rattle.ed_rules.specs.facts.Facts.{ReadsEnds}
use Rattle.ed_rules.specs.facts.FoundHolds.{KnownHolds}
use Rattle.landmarks.specs.declared.landmark.Landmark.{Landmark}
use Rattle.landmarks.specs.Starting.{started}
use Rattle.landmarks.specs.Starts.{AreEachAt, AreNumbered, marks_at, numbers_at, AreMarked}
use Rattle.cert_check.specs.checker.Beginning.{count_of, letters_of_chains, has_letters, with_sure, with_landmarks}
use Rattle.cert_check.specs.checker.MarkedStart.{opened_with, NumberedBy, MarkedStartsStand}
use Rattle.cert_check.specs.checker.Opening.{Match, StartIsSound}
use Rattle.cert_check.proofs.verdicts.Lettering.{are-free, are-letters, are-apart, sure-is-one, count-places}
use Rattle.cert_check.proofs.verdicts.MarkedOpening.{texts-plain}
use Rattle.cert_check.proofs.verdicts.Opening.{start-holds}
use Rattle.std.proofs.lemmas.Bool.{eqb-true}

-- what is said of landmarks that are where they say
pub record LandmarkLaws : Type 0 where
  pub start : (number : Numbers) (file : List (List ℕ)) (lines : List Line) (names : List ℕ) (chains : List (List Landmark))
      (places : List ℕ) (zone : Bounds) → texts lines ≡ file → ReadsEnds number lines → AreEachAt file chains places →
      AreNumbered number names places → Holds zone number → KnownHolds (started names chains zone) number lines
  pub marked : (file : List (List ℕ)) (chains : List (List Landmark)) (letters places : List ℕ) → AreEachAt file chains places →
      length letters ≡ length places → All (λ letter. letter < 26) letters → AreApart (marks_at letters places) →
      AreMarked file letters places (marks_at letters places) (numbers_at letters places (length file))

-- a state that follows single lines stands for what it stood for
follows-stands : (s : State) (b : Bool) (e : editor.State) → StandsFor s e → StandsFor (record s { follows = b }) e
follows-stands s b e st = record {
  numbers = st.numbers;
  stands = record {
    buffer = st.stands.buffer;
    remembered = st.stands.remembered;
    changed = st.stands.changed;
    past = st.stands.past;
  };
  lines = st.lines;
  kept = st.kept;
  matches = st.matches;
  facts = st.facts;
}

pub landmarks-stand : LandmarkLaws → StartIsSound → MarkedStartsStand → (script : Script) (chains : List (List Landmark))
    (path : Choice) (min : ℕ) (max : Option ℕ) (has : List (List ℕ)) (bytes : List ℕ) (places : List ℕ) →
    has_letters script chains ≡ true → IsWithin min max (length (lines_of bytes)) → Match has (lines_of bytes) →
    AreEachAt (lines_of bytes) chains places →
    StandsFor (with_landmarks (letters_of_chains script chains) chains (start path min max has))
    (opened_with (marks_at (letters_of_chains script chains) places) path bytes)
unfolding start
landmarks-stand laws sound marked script chains path min max has bytes places enough within matched at =
    let text : List (List ℕ) = lines_of bytes in
    let plain : List Line = map plain_line text in
    let letters : List ℕ = letters_of_chains script chains in
    let marks : Marks = marks_at letters places in
    let number : Numbers = numbers_at letters places (length text) in
    let s : State = start path min max has in
    let free = are-free script 26 (count_of chains) in
    let apart : AreApart marks = are-apart script 26 (count_of chains) places in
    let known : AreMarked text letters places marks number =
    laws.marked text chains letters places at (eqb-true _ _ enough ∙ sym (count-places text chains places at))
    (are-letters script 26 letters free) apart in
    let holds : Holds s.zone number =
    start-holds path min max has (length text) number within known.zero_is known.current_is known.last_is in
    let size : length plain ≡ length text = length-map text plain_line in
    let ends : ReadsEnds number plain = record { zero_is = known.zero_is; last_is = known.last_is ∙ ap pos (sym size) } in
    let begun : KnownHolds (started (map mark letters) chains s.zone) number plain =
    laws.start number text plain (map mark letters) chains places s.zone (texts-plain text) ends at known.numbered holds in
    let numbered : NumberedBy marks bytes (with_sure letters no_marks) number = record {
      zero_is = known.zero_is;
      current_is = known.current_is;
      last_is = known.last_is;
      marks_are = λ letter low sure. known.marks_are letter (sure-is-one letters letter sure);
    } in
    let k = started (map mark letters) chains s.zone in
    follows-stands (record s { zone = k.zone; marks = with_sure letters no_marks; facts = k.facts }) true (opened_with marks path bytes)
    (marked s k.zone (with_sure letters no_marks) k.facts marks path bytes number (sound path min max has bytes within matched) apart
    known.inside numbered begun.zone begun.facts)
