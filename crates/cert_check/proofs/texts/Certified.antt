-- What follows what in the lines of a certificate.
use Rattle.std.proofs.Common.{◌≡◌, ◌++◌, ◌∷◌, [], ℕ, List, Option, None, refl, ◌∙◌, sym, ap, subst, append_assoc, append-nil}
use Rattle.std.specs.Prelude.{codes}
use Rattle.std.specs.List.{All}
use Rattle.std.proofs.lemmas.List.Elements.{All-nil}
use Rattle.ed_rules.specs.declared.state.State.{State}
use Rattle.ed_rules.specs.Choices.{Choice}
use Rattle.ed_rules.specs.Formed.{ChoiceIsBytes, TextsAreFormed}
use Rattle.cert_check.specs.declared.certificate.Version.{Version}
use Rattle.cert_check.specs.declared.certificate.Version.TheVariants.{One, Two, Three}
use Rattle.cert_check.specs.Certificates.{Note, Certificate}
use Rattle.cert_check.specs.text.HasText.{IsSaidIn, ChainHasText, ChainsHaveText, StateHasText, NoteHasText, HasText}
use Rattle.cert_check.specs.text.Text.{Line, texts_line, matched_lines, chains_lines, state_lines, path_line}
use Rattle.landmarks.specs.ChainValues.{ChainValue}
use Rattle.cert_check.specs.text.Pieces.{Left, Took, texts, IsOf, alone, limits_line, AreLimits, AreStartLimits, notes_lines, rest_lines, HasTextIn}
use Rattle.cert_check.proofs.texts.OneText.{certificate_made, IsSaid, said-in}
use Rattle.cert_check.proofs.texts.Pieces.{texts-append, took-more}
use Rattle.cert_check.proofs.texts.Sequence.{followed, AreFormed, Cuts, cuts-line, SoFar, begun, on}
use Rattle.cert_check.proofs.texts.Plainest.{plain-said, plain-chains, plain_state, plain-state}
use Rattle.cert_check.proofs.texts.Stated.{cuts-matched}
use Rattle.cert_check.proofs.texts.Noted.{front-state, front-notes, took-is}
use Rattle.cert_check.proofs.texts.Separated.{later-of}

abbrev pub Limits : Type 0
Limits = ℕ × Option ℕ

-- a certificate of its parts
abbrev pub certificate_of : Version → Choice → Limits → List (List ℕ) → List ChainValue → List Note → State → Limits →
    List (List ℕ) → Certificate
certificate_of version path start has chains notes last final writes =
    certificate_made version path start.0 start.1 has chains notes last final.0 final.1 writes

pub certificate-formed : (version : Version) (path : Choice) (start : Limits) (has : List (List ℕ)) (chains : List ChainValue) (notes : List Note) (last : State)
    (final : Limits) (writes : List (List ℕ)) → ChoiceIsBytes path → AreStartLimits start → IsSaidIn version has →
    ChainsHaveText version chains → All (NoteHasText version) notes → StateHasText version last → AreLimits final → TextsAreFormed writes →
    HasTextIn version (certificate_of version path start has chains notes last final writes)
certificate-formed version path start has chains notes last final writes p s t q n l f w = (
  refl,
  record {
    path = p;
    start = s;
    has = t;
    landmarks = q;
    notes = n;
    last = l;
    final = f;
    bytes = w.bytes;
    rising = w.rising;
  },
)

abbrev path_texts : Choice → List (List ℕ)
path_texts path = texts (alone path_line path)

abbrev start_texts : Limits → List (List ℕ)
start_texts limits = texts (alone (limits_line (codes "start")) limits)

abbrev final_texts : Limits → List (List ℕ)
final_texts limits = texts (alone (limits_line (codes "final")) limits)

abbrev writes_line : List (List ℕ) → Line
writes_line writes = texts_line (codes "writes") writes

abbrev writes_texts : List (List ℕ) → List (List ℕ)
writes_texts writes = texts (alone writes_line writes)

abbrev has_texts : Version → List (List ℕ) → List (List ℕ)
has_texts version has = texts (matched_lines version (codes "has") has)

abbrev chain_texts : Version → List ChainValue → List (List ℕ)
chain_texts version chains = texts (chains_lines version chains)

-- the lines of a certificate from its notes on, and their texts
abbrev noted_rest : Version → List Note → State → Limits → List (List ℕ) → List Line
noted_rest version notes last final writes =
    notes_lines version notes ++ (state_lines version last ++ limits_line (codes "final") final ∷ writes_line writes ∷ [])

abbrev rest_texts : Version → List Note → State → Limits → List (List ℕ) → (back : List (List ℕ)) → List (List ℕ)
rest_texts version notes last final writes back =
    texts (notes_lines version notes) ++ (texts (state_lines version last) ++ (final_texts final ++ writes_texts writes ++ back))

rest-right : (version : Version) (notes : List Note) (last : State) (final : Limits) (writes : List (List ℕ)) →
    texts (noted_rest version notes last final writes) ≡
    texts (notes_lines version notes) ++ (texts (state_lines version last) ++ (final_texts final ++ writes_texts writes))
rest-right version notes last final writes =
    texts-append (notes_lines version notes) (state_lines version last ++ limits_line (codes "final") final ∷ writes_line writes ∷ [])
    ∙ ap (λ (l : List (List ℕ)). texts (notes_lines version notes) ++ l)
    (texts-append (state_lines version last) (limits_line (codes "final") final ∷ writes_line writes ∷ []))

rest-before : (version : Version) (notes : List Note) (last : State) (final : Limits) (writes back : List (List ℕ)) →
    texts (noted_rest version notes last final writes) ++ back ≡ rest_texts version notes last final writes back
rest-before version notes last final writes back =
    ap (λ (l : List (List ℕ)). l ++ back) (rest-right version notes last final writes)
    ∙ append_assoc (texts (notes_lines version notes)) (texts (state_lines version last) ++ (final_texts final ++ writes_texts writes)) back
    ∙ ap (λ (l : List (List ℕ)). texts (notes_lines version notes) ++ l)
    (append_assoc (texts (state_lines version last)) (final_texts final ++ writes_texts writes) back)

-- the lines of a certificate, part by part
lines-right : (version : Version) (path : Choice) (start : Limits) (has : List (List ℕ)) (chains : List ChainValue) (notes : List Note)
    (last : State) (final : Limits) (writes : List (List ℕ)) →
    texts (rest_lines (certificate_of version path start has chains notes last final writes)) ≡ path_texts path ++ start_texts
    start ++ (has_texts version has ++ (chain_texts version chains ++ texts (noted_rest version notes last final writes)))
lines-right version path start has chains notes last final writes =
    ap (λ (l : List (List ℕ)). path_texts path ++ start_texts start ++ l) (
    texts-append (matched_lines version (codes "has") has) (chains_lines version chains ++ noted_rest version notes last final writes)
    ∙ ap (λ (l : List (List ℕ)). has_texts version has ++ l)
    (texts-append (chains_lines version chains) (noted_rest version notes last final writes)))

-- the lines of a certificate below the first, in a version
abbrev lines_at : Version → Certificate → List Line
lines_at version c =
    path_line c.path ∷ limits_line (codes "start") (c.min, c.max) ∷ matched_lines version (codes "has") c.has
    ++ (chains_lines version c.landmarks ++ noted_rest version c.notes c.last (c.low, c.high) c.writes)

-- what stands below the first two lines
abbrev after_start : Version → Certificate → (back : List (List ℕ)) → List (List ℕ)
after_start version c back =
    has_texts version c.has ++ (chain_texts version c.landmarks ++ rest_texts version c.notes c.last (c.low, c.high) c.writes back)

below-start : (c : Certificate) (back : List (List ℕ)) →
    texts (rest_lines c) ++ back ≡ path_texts c.path ++ start_texts (c.min, c.max) ++ after_start c.version c back
below-start c back =
    let rest : List Line = noted_rest c.version c.notes c.last (c.low, c.high) c.writes in
    ap (λ (l : List (List ℕ)). l ++ back)
    (lines-right c.version c.path (c.min, c.max) c.has c.landmarks c.notes c.last (c.low, c.high) c.writes)
    ∙ ap (λ (l : List (List ℕ)). path_texts c.path ++ start_texts (c.min, c.max) ++ l) (
    append_assoc (has_texts c.version c.has) (chain_texts c.version c.landmarks ++ texts rest) back
    ∙ ap (λ (l : List (List ℕ)). has_texts c.version c.has ++ l) (
    append_assoc (chain_texts c.version c.landmarks) (texts rest) back
    ∙ ap (λ (l : List (List ℕ)). chain_texts c.version c.landmarks ++ l)
    (rest-before c.version c.notes c.last (c.low, c.high) c.writes back)))

abbrev plain_limits : Limits
plain_limits = (0, None)

pub no-paths : TextsAreFormed []
no-paths = record { bytes = All-nil ChoiceIsBytes; rising = refl }

abbrev pub FinalValues : Type 0
FinalValues = Limits × List (List ℕ)

-- the plainest of what may stand from a piece of a certificate on
abbrev pub plain_from_final : FinalValues
plain_from_final = (plain_limits, [])

abbrev pub plain_from_last : Version → State × FinalValues
plain_from_last version = (plain_state version, plain_from_final)

abbrev pub plain_from_notes : Version → List Note × (State × FinalValues)
plain_from_notes version = ([], plain_from_last version)

abbrev pub plain_from_chains : Version → List ChainValue × (List Note × (State × FinalValues))
plain_from_chains version = ([], plain_from_notes version)

abbrev pub plain_from_has : Version → List (List ℕ) × (List ChainValue × (List Note × (State × FinalValues)))
plain_from_has version = ([], plain_from_chains version)

abbrev pub plain_from_start : Version → Limits × (List (List ℕ) × (List ChainValue × (List Note × (State × FinalValues))))
plain_from_start version = (plain_limits, plain_from_has version)

-- lines of chains before other lines
cuts-chains : (version : Version) → Cuts (chains_lines version) (ChainsHaveText version)
cuts-chains One a b x y h k e = e
cuts-chains Two a b x y h k e = e
cuts-chains Three a b x y h k e = later-of e

module _ (version : Version) where
  -- The lines of a certificate below the first, from a piece on: each piece is followed by those that are named above it.
  abbrev pub from_final : FinalValues → List Line
  from_final = followed (alone (limits_line (codes "final"))) (alone writes_line)

  abbrev pub from_last : State × FinalValues → List Line
  from_last = followed (state_lines version) from_final

  abbrev pub from_notes : List Note × (State × FinalValues) → List Line
  from_notes = followed (notes_lines version) from_last

  abbrev pub from_chains : List ChainValue × (List Note × (State × FinalValues)) → List Line
  from_chains = followed (chains_lines version) from_notes

  abbrev pub from_has : List (List ℕ) × (List ChainValue × (List Note × (State × FinalValues))) → List Line
  from_has = followed (matched_lines version (codes "has")) from_chains

  abbrev pub from_start : Limits × (List (List ℕ) × (List ChainValue × (List Note × (State × FinalValues)))) → List Line
  from_start = followed (alone (limits_line (codes "start"))) from_has

  abbrev pub from_path : Choice × (Limits × (List (List ℕ) × (List ChainValue × (List Note × (State × FinalValues))))) → List Line
  from_path = followed (alone path_line) from_start

  abbrev pub FromFinal : FinalValues → Type 0
  FromFinal = AreFormed AreLimits TextsAreFormed

  abbrev pub FromLast : State × FinalValues → Type 0
  FromLast = AreFormed (StateHasText version) FromFinal

  abbrev pub FromNotes : List Note × (State × FinalValues) → Type 0
  FromNotes = AreFormed (All (NoteHasText version)) FromLast

  abbrev pub FromChains : List ChainValue × (List Note × (State × FinalValues)) → Type 0
  FromChains = AreFormed (ChainsHaveText version) FromNotes

  abbrev pub FromHas : List (List ℕ) × (List ChainValue × (List Note × (State × FinalValues))) → Type 0
  FromHas = AreFormed (IsSaidIn version) FromChains

  abbrev pub FromStart : Limits × (List (List ℕ) × (List ChainValue × (List Note × (State × FinalValues)))) → Type 0
  FromStart = AreFormed AreStartLimits FromHas

  abbrev pub FromPath : Choice × (Limits × (List (List ℕ) × (List ChainValue × (List Note × (State × FinalValues))))) → Type 0
  FromPath = AreFormed ChoiceIsBytes FromStart

  pub plain-from_final : FromFinal plain_from_final
  unfolding AreFormed
  plain-from_final = (refl, no-paths)

  pub plain-from_last : FromLast (plain_from_last version)
  unfolding AreFormed
  plain-from_last = (plain-state version, plain-from_final)

  pub plain-from_notes : FromNotes (plain_from_notes version)
  unfolding AreFormed
  plain-from_notes = (All-nil (NoteHasText version), plain-from_last)

  pub plain-from_chains : FromChains (plain_from_chains version)
  unfolding AreFormed
  plain-from_chains = (plain-chains version, plain-from_notes)

  pub plain-from_has : FromHas (plain_from_has version)
  unfolding AreFormed
  plain-from_has = (plain-said version, plain-from_chains)

  pub plain-from_start : FromStart (plain_from_start version)
  unfolding AreFormed
  plain-from_start = (refl, plain-from_has)

  -- all of them are the lines of a certificate
  pieces-rest : (lines : List (List ℕ)) → IsOf from_path FromPath lines → IsOf rest_lines (HasTextIn version) lines
  unfolding followed AreFormed
  pieces-rest lines k =
      let v = k.value in
      let h = k.has in
      record {
        value = certificate_of version v.0 v.1.0 v.1.1.0 v.1.1.1.0 v.1.1.1.1.0 v.1.1.1.1.1.0 v.1.1.1.1.1.1.0 v.1.1.1.1.1.1.1;
        has =
            certificate-formed version v.0 v.1.0 v.1.1.0 v.1.1.1.0 v.1.1.1.1.0 v.1.1.1.1.1.0 v.1.1.1.1.1.1.0 v.1.1.1.1.1.1.1 h.0 h.1.0 h.1.1.0
            h.1.1.1.0 h.1.1.1.1.0 h.1.1.1.1.1.0 h.1.1.1.1.1.1.0 h.1.1.1.1.1.1.1;
        is = k.is;
      }

  rest-pieces : (lines : List (List ℕ)) → IsOf rest_lines (HasTextIn version) lines → IsOf from_path FromPath lines
  unfolding followed AreFormed
  rest-pieces lines k =
      let c = k.value in
      let h = k.has.1 in
      let said = said-in version c k.has.0 h in
      record {
        value = (c.path, ((c.min, c.max), (c.has, (c.landmarks, (c.notes, (c.last, ((c.low, c.high), c.writes)))))));
        has = (h.path, (h.start, (said.0.0, (said.0.1, (said.1.0, (said.1.1, (h.final, record { bytes = h.bytes; rising = h.rising })))))));
        is = subst (λ (v : Version). texts (lines_at v c) ≡ lines) k.has.0 k.is;
      }

  -- a certificate of which nothing was read below the first line
  pub rest-begun : (old : Left) → SoFar (IsOf rest_lines (HasTextIn version)) (IsOf from_path FromPath) old old
  rest-begun old = begun (IsOf rest_lines (HasTextIn version)) (IsOf from_path FromPath) old pieces-rest rest-pieces

  pub cuts-notes : Cuts (notes_lines version) (All (NoteHasText version))
  cuts-notes a b x y h k e = (front-notes version a b x y h k e).1

  pub cuts-state : Cuts (state_lines version) (StateHasText version)
  cuts-state a b x y h k e = (front-state version a b x y h k e).1

  -- what may stand after each of its pieces, once that was read
  pub path-read : {old mid : Left} (path : Choice) → ChoiceIsBytes path × Took (path_texts path) old mid →
      SoFar (IsOf rest_lines (HasTextIn version)) (IsOf from_start FromStart) old mid
  path-read {old} path read = on _ _ _ _ (rest-begun old) (cuts-line path_line ChoiceIsBytes) path read

  pub start-read : {old mid new : Left} → SoFar (IsOf rest_lines (HasTextIn version)) (IsOf from_start FromStart) old mid →
      (value : Limits) → AreStartLimits value × Took (start_texts value) mid new →
      SoFar (IsOf rest_lines (HasTextIn version)) (IsOf from_has FromHas) old new
  start-read so_far value read = on _ _ _ _ so_far (cuts-line (limits_line (codes "start")) AreStartLimits) value read

  pub has-read : {old mid new : Left} → SoFar (IsOf rest_lines (HasTextIn version)) (IsOf from_has FromHas) old mid →
      (value : List (List ℕ)) → IsSaidIn version value × Took (has_texts version value) mid new →
      SoFar (IsOf rest_lines (HasTextIn version)) (IsOf from_chains FromChains) old new
  has-read so_far value read = on _ _ _ _ so_far (cuts-matched version (codes "has")) value read

  pub chains-read : {old mid new : Left} → SoFar (IsOf rest_lines (HasTextIn version)) (IsOf from_chains FromChains) old mid →
      (value : List ChainValue) → ChainsHaveText version value × Took (chain_texts version value) mid new →
      SoFar (IsOf rest_lines (HasTextIn version)) (IsOf from_notes FromNotes) old new
  chains-read so_far value read = on _ _ _ _ so_far (cuts-chains version) value read

  pub notes-read : {old mid new : Left} → SoFar (IsOf rest_lines (HasTextIn version)) (IsOf from_notes FromNotes) old mid →
      (value : List Note) → All (NoteHasText version) value × Took (texts (notes_lines version value)) mid new →
      SoFar (IsOf rest_lines (HasTextIn version)) (IsOf from_last FromLast) old new
  notes-read so_far value read = on _ _ _ _ so_far cuts-notes value read

  pub last-read : {old mid new : Left} → SoFar (IsOf rest_lines (HasTextIn version)) (IsOf from_last FromLast) old mid →
      (value : State) → StateHasText version value × Took (texts (state_lines version value)) mid new →
      SoFar (IsOf rest_lines (HasTextIn version)) (IsOf from_final FromFinal) old new
  last-read so_far value read = on _ _ _ _ so_far cuts-state value read

  pub final-read : {old mid new : Left} → SoFar (IsOf rest_lines (HasTextIn version)) (IsOf from_final FromFinal) old mid →
      (value : Limits) → AreLimits value × Took (final_texts value) mid new →
      SoFar (IsOf rest_lines (HasTextIn version)) (IsOf (alone writes_line) TextsAreFormed) old new
  final-read so_far value read = on _ _ _ _ so_far (cuts-line (limits_line (codes "final")) AreLimits) value read

  -- what stands below the last state
  below-last : (c w : Certificate) (back more : List (List ℕ)) → IsSaid version c → IsSaid version w →
      after_start version c back ≡ after_start version w more →
      final_texts (c.low, c.high) ++ writes_texts c.writes ++ back ≡ final_texts (w.low, w.high) ++ writes_texts w.writes ++ more
  below-last c w back more h k e =
      cuts-state c.last w.last (final_texts (c.low, c.high) ++ writes_texts c.writes ++ back)
      (final_texts (w.low, w.high) ++ writes_texts w.writes ++ more) h.1.1 k.1.1
      (cuts-notes c.notes w.notes _ _ h.1.0 k.1.0
      (cuts-chains version c.landmarks w.landmarks _ _ h.0.1 k.0.1 (cuts-matched version (codes "has") c.has w.has _ _ h.0.0 k.0.0 e)))

  -- all of its lines
  pub rest-taken : {old a b c g d e f new : Left} (path : Choice) (start : Limits) (has : List (List ℕ)) (chains : List ChainValue)
      (notes : List Note) (last : State) (final : Limits) (writes : List (List ℕ)) → Took (path_texts path) old a →
      Took (start_texts start) a b → Took (has_texts version has) b c → Took (chain_texts version chains) c g →
      Took (texts (notes_lines version notes)) g d → Took (texts (state_lines version last)) d e →
      Took (final_texts final) e f → Took (writes_texts writes) f new →
      Took (texts (rest_lines (certificate_of version path start has chains notes last final writes))) old new
  rest-taken {old} {a} {b} {c} {g} {d} {e} {f} {new} path start has chains notes last final writes p s t h n l q w =
      took-is (
      ap (λ (x : List (List ℕ)). path_texts path ++ start_texts start ++ (has_texts version has ++ (chain_texts version chains ++ x)))
      (sym (rest-right version notes last final writes))
      ∙ sym (lines-right version path start has chains notes last final writes))
      (took-more (took-more p s) (took-more t (took-more h (took-more n (took-more l (took-more q w))))))

-- the lines of one certificate aren't the front of another's of the same version
pub rest-ends : (c w : Certificate) (more : List (List ℕ)) → c.version ≡ w.version → HasText c → HasText w →
    texts (rest_lines c) ≡ texts (rest_lines w) ++ more → more ≡ []
rest-ends c w more same h k e =
    let below : after_start c.version c [] ≡ after_start w.version w more =
    later-of (later-of (sym (below-start c []) ∙ append-nil (texts (rest_lines c)) ∙ e ∙ below-start w more)) in
    let ends =
    below-last w.version c w [] more (said-in w.version c same h) (said-in w.version w refl k)
    (subst (λ (v : Version). after_start v c [] ≡ after_start w.version w more) same below) in
    sym (later-of (later-of ends))
