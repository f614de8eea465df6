-- The start stands for lines with marks on them, once it knows of the marks.
use Rattle.std.proofs.Common.{◌≡◌, ◌<◌, ℕ, pos, All, ◌&&◌, ◌||◌, List, [], ◌∷◌, map, length, get_or, Some, refl, sym, ap, ◌∙◌, subst, arith}
use Rattle.std.specs.List.{list_all, list_any}
use Rattle.std.proofs.lemmas.List.{length-map}
use Rattle.std.proofs.lemmas.List.Elements.{All-get_or}
use Rattle.ed_base.specs.Buffer.{Line, plain_line, texts, marked_place}
use Rattle.ed_base.specs.Lines.{lines_of}
use Rattle.ed_syntax.specs.meaning.CommandLaws.{FilesAreWhole, FilesAreWellMarked}
use Rattle.ed_syntax.specs.meaning.Erasure.{marked}
use Rattle.ed_syntax.specs.meaning.ErasureLaws.{MarkedLinesAreWell, MarksStand}
use Rattle.ed_syntax.specs.meaning.Values.{matches}
use Rattle.zones.specs.Zone.{Numbers}
use Rattle.ed_rules.specs.Matched.{is_matched}
use Rattle.ed_rules.specs.facts.Facts.{Facts, FactsHold}
use Rattle.ed_rules.proofs.sound.Lettered.{lettered}
use Rattle.cert_check.specs.checker.MarkedStart.{MarkedStartsStand}

-- what lines match is told by their bytes
matched-texts : (lines : List Line) (pattern : List ℕ) → is_matched lines pattern ≡ list_any (matches pattern) (texts lines)
matched-texts [] pattern = refl
matched-texts (line ∷ lines) pattern = ap (λ b. matches pattern line.bytes || b) (matched-texts lines pattern)

matched-same : (lines others : List Line) (patterns : List (List ℕ)) → texts others ≡ texts lines → list_all (is_matched others) patterns ≡ list_all (is_matched lines) patterns
matched-same lines others [] same = refl
matched-same lines others (pattern ∷ patterns) same =
    ap (λ b. b && list_all (is_matched others) patterns)
    (matched-texts others pattern ∙ ap (λ (ts : List (List ℕ)). list_any (matches pattern) ts) same ∙ sym (matched-texts lines pattern))
    ∙ ap (λ b. is_matched lines pattern && b) (matched-same lines others patterns same)

pub texts-plain : (text : List (List ℕ)) → texts (map plain_line text) ≡ text
texts-plain [] = refl
texts-plain (t ∷ text) = ap (λ l. t ∷ l) (texts-plain text)

-- there are as many lines as texts
texts-length : (lines : List Line) (text : List (List ℕ)) → texts lines ≡ text → length lines ≡ length text
texts-length lines text same = sym (length-map lines (λ (line : Line). line.bytes)) ∙ ap length same

-- what is said of single lines is told by their bytes
abbrev pub FactsGoByBytes : Type 0
FactsGoByBytes = (facts : Facts) (number : Numbers) (lines others : List Line) → texts lines ≡ texts others →
    FactsHold facts number lines → FactsHold facts number others

pub marked-stands : FilesAreWellMarked → MarkedLinesAreWell → MarksStand → FilesAreWhole → FactsGoByBytes → MarkedStartsStand
marked-stands files well stand whole by_bytes s zone sure facts marks path bytes number st apart inside numbers holds said =
    let text : List (List ℕ) = lines_of bytes in
    let plain : List Line = map plain_line text in
    let lines : List Line = marked marks plain in
    let parts = well marks text in
    let count : length lines ≡ length text = texts-length lines text parts.0 in
    let plain_count : length plain ≡ length text = length-map text plain_line in
    let all : All (λ (one : ℕ × ℕ). (one.0 < 26) × (one.1 < length plain)) marks =
    subst (λ (n : ℕ). All (λ (one : ℕ × ℕ). (one.0 < 26) × (one.1 < n)) marks) (sym plain_count) inside in
    let places = stand marks plain (files bytes).known apart all in
    record {
      numbers = number;
      stands = record {
        buffer = record {
          holds = holds;
          reads = record {
            zero_is = numbers.zero_is;
            current_is = numbers.current_is ∙ ap pos (sym plain_count);
            last_is = numbers.last_is ∙ ap pos (sym count);
            marks_are = λ letter low is.
                let one = numbers.marks_are letter low is in
                let found = get_or marks one.0 (0, 0) in
                let there : marked_place found.0 lines ≡ Some found.1 = All-get_or (λ (m : ℕ × ℕ). marked_place m.0 lines ≡ Some m.1) marks one.0 (0, 0) one.1 places in
                (found.1, ap (λ (n : ℕ). marked_place n lines) (sym one.2) ∙ there, one.3);
          };
          inside = omega (arith, count, plain_count);
        };
        remembered = st.stands.remembered;
        changed = st.stands.changed;
        past = st.stands.past;
      };
      lines = lettered lines parts.1 (parts.3 (whole bytes));
      kept = st.kept;
      matches = (matched-same plain lines s.matches.has (parts.0 ∙ sym (texts-plain text)) ∙ st.matches.0, st.matches.1);
      facts = by_bytes facts number plain lines (texts-plain text ∙ sym parts.0) said;
    }
