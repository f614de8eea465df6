-- A script with a valid certificate can't fail.
use Rattle.std.proofs.Common.{◌≡◌, ℕ, true, List, [], ◌∷◌, map, length, Option, None, Some, IfSome, IsTrue, IsFalse, refl, sym, subst}
use Rattle.std.proofs.lemmas.List.Elements.{All-nil, All-cons}
use Rattle.ed_base.specs.Buffer.{plain_line}
use Rattle.ed_base.specs.Lines.{lines_of}
use Rattle.ed_syntax.specs.declared.request.Answer.{Answer}
use Rattle.ed_syntax.specs.declared.request.Answer.TheVariants as answer
use Rattle.ed_syntax.specs.declared.request.Request.TheVariants as request
use Rattle.ed_syntax.specs.Commands.{Script}
use Rattle.ed_syntax.specs.meaning.States as editor
use Rattle.ed_syntax.specs.meaning.States.{opening}
use Rattle.ed_syntax.specs.meaning.Files.{loaded}
use Rattle.ed_syntax.specs.meaning.Erasure.{Marks, letters_of, marked, steps_name}
use Rattle.ed_syntax.specs.meaning.ErasureLaws.{StartsMayBeMarked, MarkedLinesAreWell}
use Rattle.ed_syntax.specs.meaning.Progress.{Present, Progress}
use Rattle.ed_syntax.specs.meaning.Runs as runs
use Rattle.ed_syntax.specs.meaning.Runs.{Further, steps, present}
use Rattle.ed_rules.specs.StandsFor.{StandsFor}
use Rattle.ed_rules.specs.States.{start}
use Rattle.ed_rules.specs.LineBounds.{IsWithin}
use Rattle.landmarks.specs.ChainValues.{ChainValue}
use Rattle.landmarks.specs.Starts.{AreEachAt, marks_at}
use Rattle.cert_check.specs.checker.Beginning.{landmarks_of, stated_chains, chains_of, count_of, letters_of_chains, has_letters, with_landmarks, began, start_of}
use Rattle.cert_check.specs.checker.Opening.{opened, Match, StartIsSound}
use Rattle.cert_check.specs.declared.certificate.Version.{Version}
use Rattle.cert_check.specs.declared.certificate.Version.TheVariants as version
use Rattle.cert_check.specs.declared.checker.verdict.Verdict.TheVariants.{Accepted}
use Rattle.cert_check.specs.declared.sight.Sight.{Sight}
use Rattle.cert_check.specs.Certificates.{Certificate}
use Rattle.cert_check.specs.checker.Valid.{sight_of, seen_by, told_by, told, counted, has_quit, are_shaped, judged}
use Rattle.cert_check.specs.checker.Sound.{start_lines, IsAllowed, HaveLandmarks, MayAsk, RunsWell, CannotFail, CannotFailInBounds}
use Rattle.cert_check.proofs.verdicts.Beginning.{LandmarkLaws, landmarks-stand}
use Rattle.cert_check.proofs.verdicts.Checks.{first-holds}
use Rattle.cert_check.specs.checker.MarkedStart.{opened_with, MarkedStartsSuffice, MarkedStartsStand}
use Rattle.cert_check.proofs.verdicts.Flags.{lines-unflagged}
use Rattle.cert_check.proofs.verdicts.Lettering.{are-free, are-unnamed}
use Rattle.cert_check.proofs.verdicts.Running.{RunLaws, told-stands-by}
use Rattle.cert_check.proofs.verdicts.Stepping.{steps-well}
use Rattle.ed_syntax.specs.meaning.Verbs.{is_step}
use Rattle.std.specs.List.{list_all}

-- what is left runs well from each editor that was opened over lines that the certificate allows
abbrev OpensWell : Certificate → (path : Option (List ℕ)) → Further → Type 0
OpensWell c path go = (bytes : List ℕ) → IsAllowed c (lines_of bytes) → (m : Present) → m.state ≡ opened path bytes →
    (answers : List Answer) →
    RunsWell c (go m answers)

start-well : (c : Certificate) (path : Option (List ℕ)) (m : Present) (go : Further) (answers : List Answer) → m.state ≡ opening →
    IfSome (start_lines path answers) (IsAllowed c) → OpensWell c path go → RunsWell c (runs.start path m go answers)
start-well c None m go answers new within h = h [] within m new answers
start-well c (Some path) m go [] new within h = (All-nil (MayAsk c), tt)
start-well c (Some path) m go (answer.Bytes bytes ∷ later) new within h =
    let q : Present = runs.with_state (loaded bytes path m.state) m in
    let well = h bytes within q (subst (λ (e : editor.State). loaded bytes path e ≡ opened (Some path) bytes) (sym new) refl) later in
    (All-cons (MayAsk c) (request.Read path) _ tt well.0, well.1)
start-well c (Some path) m go (answer.Missing ∷ later) new within h =
    let q : Present = runs.with_state (loaded [] path m.state) m in
    let well = h [] within q (subst (λ (e : editor.State). loaded [] path e ≡ opened (Some path) []) (sym new) refl) later in
    (All-cons (MayAsk c) (request.Read path) _ tt well.0, well.1)
start-well c (Some path) m go (answer.Refused ∷ later) new within h =
    (All-cons (MayAsk c) (request.Read path) [] tt (All-nil (MayAsk c)), refl)
start-well c (Some path) m go (answer.Done ∷ later) new within h =
    (All-cons (MayAsk c) (request.Read path) [] tt (All-nil (MayAsk c)), refl)

-- MARKED STARTS

-- the run from lines with marks is the run from the lines
pub marked-safe : RunLaws → StartsMayBeMarked → MarkedLinesAreWell → MarkedStartsSuffice
marked-safe k erased lines w script c first stands shape h begun o answers same allowed =
    let goes : OpensWell c c.path (steps script.steps script.fault) = λ bytes within m new more.
    let text : List (List ℕ) = lines_of bytes in
    let known = begun bytes within in
    let marks : Marks = known.0 in
    let e : editor.State = opened_with marks c.path bytes in
    let well : RunsWell c (steps script.steps script.fault (runs.with_state e m) more) =
    steps-well k w c script.fault (has_quit script.steps) script.steps 1 first c.notes refl stands shape h (runs.with_state e m) known.2
    (lines-unflagged w.version c.path bytes (marked marks (map plain_line text)) (lines marks text).2) more in
    let real : Present = runs.with_state (opened c.path bytes) m in
    let run : steps script.steps script.fault (runs.with_state e m) more ≡ steps script.steps script.fault real more =
    erased marks script.steps script.fault text real more known.1 refl refl refl in
    subst (λ (u : editor.State). RunsWell c (steps script.steps script.fault (runs.with_state u m) more)) (sym new)
    (subst (λ (p : Progress). RunsWell c p) run well) in
    subst (λ (p : Option (List ℕ)). RunsWell c (runs.start p (present o) (steps script.steps script.fault) answers)) (sym same)
    (start-well c c.path (present o) (steps script.steps script.fault) answers refl allowed goes)

-- THE START OF A CERTIFICATE

seen-version : (script : Script) (v : Version) (has : List (List ℕ)) → (sight_of script v has).version ≡ v
seen-version script version.One has = refl
seen-version script version.Two has = refl
seen-version script version.Three has = refl

-- What is told of a start stands for a file that is allowed, with the letters of its landmarks on its lines. The script names none of them.
abbrev IsBegun : (script : Script) (v : Version) (has : List (List ℕ)) (chains : List ChainValue) (path : Option (List ℕ)) (min : ℕ)
    (max : Option ℕ) (bytes : List ℕ) (marks : Marks) → Type 0
IsBegun script v has chains path min max bytes marks =
    let landmarks = stated_chains v chains in
    IsFalse (steps_name (letters_of marks) script.steps)
    × StandsFor (told_by v (began v (letters_of_chains script landmarks) landmarks (start path min max has))) (opened_with marks path bytes)

-- the patterns that are stated
abbrev said : Version → (has : List (List ℕ)) → List (List ℕ)
said v has = elim v as (λ _. List (List ℕ)) [ version.One ↦ [] | version.Two ↦ has | version.Three ↦ has ]

-- the marks of a start: where its landmarks are, in version 3
abbrev marks_of : Script → Version → List ChainValue → (places : List ℕ) → Marks
marks_of script version.One chains places = []
marks_of script version.Two chains places = []
marks_of script version.Three chains places = marks_at (letters_of_chains script (landmarks_of chains)) places

begun : LandmarkLaws → StartIsSound → MarkedStartsStand → (script : Script) (v : Version) (has : List (List ℕ))
    (chains : List ChainValue) (path : Option (List ℕ)) (min : ℕ) (max : Option ℕ) (bytes : List ℕ) (places : List ℕ) →
    has_letters script (stated_chains v chains) ≡ true → IsWithin min max (length (lines_of bytes)) →
    Match (said v has) (lines_of bytes) → AreEachAt (lines_of bytes) (stated_chains v chains) places →
    IsBegun script v has chains path min max bytes (marks_of script v chains places)
unfolding start
begun laws sound stand script version.One has chains path min max bytes places enough within matched at =
    (refl, told-stands-by version.One (start path min max []) (opened path bytes) (sound path min max [] bytes within refl))
begun laws sound stand script version.Two has chains path min max bytes places enough within matched at =
    (refl, told-stands-by version.Two (start path min max has) (opened path bytes) (sound path min max has bytes within matched))
begun laws sound stand script version.Three has chains path min max bytes places enough within matched at =
    let landmarks = landmarks_of chains in (
      are-unnamed script 26 (letters_of_chains script landmarks) places (are-free script 26 (count_of landmarks)),
      told-stands-by version.Three (with_landmarks (letters_of_chains script landmarks) landmarks (start path min max has))
          (opened_with (marks_at (letters_of_chains script landmarks) places) path bytes)
          (landmarks-stand laws sound stand script landmarks path min max has bytes places enough within matched at),
    )

pub accepted-safe : LandmarkLaws → StartIsSound → MarkedStartsStand → MarkedStartsSuffice → (script : Script) (c : Certificate) →
    IsTrue (list_all is_step script.steps) → judged script c ≡ Accepted → CannotFail script c
accepted-safe laws sound stand suffice script c stands h =
    let w : Sight = seen_by script c in
    let shape = first-holds (are_shaped (counted script.steps) c.notes) _ _ h in
    let enough = first-holds (has_letters script (chains_of c)) _ _ shape.1 in
    suffice w script c (told w (start_of script c)) stands shape.0 enough.1 (λ bytes within.
    let places = within.2.0 in
    let marks = marks_of script c.version c.landmarks places in
    let begins = begun laws sound stand script c.version c.has c.landmarks c.path c.min c.max bytes places enough.0 within.0
    within.1 within.2.1 in (
      marks,
      begins.0,
      subst (λ (v : Version). StandsFor (told_by v (start_of script c)) (opened_with marks c.path bytes))
          (sym (seen-version script c.version c.has)) begins.1,
    ))

-- VERSION 1

matched-nothing : (v : Version) (has lines : List (List ℕ)) → v ≡ version.One →
    Match (said v has) lines
matched-nothing version.One has lines is = refl
matched-nothing _ has lines is = absurd cc

-- in version 1 no landmarks are stated
landmarks-nothing : (v : Version) (chains : List ChainValue) (lines : List (List ℕ)) → v ≡ version.One →
    HaveLandmarks lines (stated_chains v chains)
landmarks-nothing version.One chains lines is = ([], AreEachAt.over)
landmarks-nothing _ chains lines is = absurd cc

-- a start is allowed where its number of lines lies in the bounds
pub within-allowed : (c : Certificate) (lines : List (List ℕ)) → c.version ≡ version.One → IsWithin c.min c.max (length lines) →
    IsAllowed c lines
within-allowed c lines one within =
    (within, matched-nothing c.version c.has lines one, landmarks-nothing c.version c.landmarks lines one)

some-allowed : (c : Certificate) (lines : Option (List (List ℕ))) → c.version ≡ version.One →
    IfSome lines (λ found. IsWithin c.min c.max (length found)) → IfSome lines (IsAllowed c)
some-allowed c None one within = tt
some-allowed c (Some lines) one within = within-allowed c lines one within

pub safe-in-bounds : (script : Script) (c : Certificate) → c.version ≡ version.One → CannotFail script c →
    CannotFailInBounds script c
safe-in-bounds script c one safe o answers same within = safe o answers same (some-allowed c (start_lines c.path answers) one within)
