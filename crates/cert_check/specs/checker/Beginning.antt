-- What is known at the start of a run: what its certificate says of the file, and which letters its landmarks take.
use Rattle.std.specs.Prelude.{◌≡◌, ◌⊎◌, ◌<◌, ℕ, zero, suc, ◌+◌, ◌==◌, Bool, true, false, List, [], ◌∷◌, map, length, slice_set}
use Rattle.zones.specs.Name.{mark}
use Rattle.ed_syntax.specs.Commands.{Script}
use Rattle.ed_syntax.specs.meaning.Erasure.{script_names}
use Rattle.ed_rules.specs.declared.state.State.{State}
use Rattle.ed_rules.specs.States.{start}
use Rattle.landmarks.specs.declared.landmark.Landmark.{Landmark}
use Rattle.landmarks.specs.ChainValues.{ChainValue}
use Rattle.landmarks.specs.Starting.{started}
use Rattle.cert_check.specs.declared.certificate.Version.{Version}
use Rattle.cert_check.specs.declared.certificate.Version.TheVariants as version
use Rattle.cert_check.specs.Certificates.{Certificate}

-- the landmarks of each chain
abbrev pub landmarks_of : List ChainValue → List (List Landmark)
landmarks_of chains = map (λ (chain : ChainValue). chain.landmarks) chains

-- those that a certificate of a version states of its start; in versions 1 and 2 there are none
abbrev pub stated_chains : Version → List ChainValue → List (List Landmark)
stated_chains version.One chains = []
stated_chains version.Two chains = []
stated_chains version.Three chains = landmarks_of chains

abbrev pub chains_of : Certificate → List (List Landmark)
chains_of c = stated_chains c.version c.landmarks

-- how many landmarks some chains have
abbrev pub count_of : List (List Landmark) → ℕ
count_of [] = 0
count_of (chain ∷ chains) = length chain + count_of chains

-- a number counts so many, or it is the greatest of 64 bits, and they are more
abbrev pub IsCounted : (number count : ℕ) → Type 0
IsCounted number count = (number ≡ count) ⊎ ((number ≡ 18446744073709551615) × (number < count))

-- the letters below one that a script doesn't name, from the last one down: at most so many
abbrev pub unnamed_below : (letter : ℕ) → Script → (count : ℕ) → List ℕ
unnamed_below zero script count = []
unnamed_below (suc letter) script zero = []
unnamed_below (suc letter) script (suc count) =
    elim (script_names letter script) [
      | true ↦ unnamed_below letter script (suc count)
      | false ↦ letter ∷ unnamed_below letter script count
    ]

-- The letters of so many landmarks, from `z` down: none that the script names, whose marks would be others than the script sets. Where
-- the script leaves too few, they are fewer.
abbrev pub letters_for : Script → (count : ℕ) → List ℕ
letters_for script count = unnamed_below 26 script count

-- how many letters below one a script doesn't name
abbrev pub count_unnamed : (letter : ℕ) → Script → ℕ
count_unnamed zero script = 0
count_unnamed (suc letter) script =
    elim (script_names letter script) [ true ↦ count_unnamed letter script | false ↦ suc (count_unnamed letter script) ]

-- how many letters a script leaves for landmarks
abbrev pub letters_left : Script → ℕ
letters_left script = count_unnamed 26 script

abbrev pub letters_of_chains : Script → List (List Landmark) → List ℕ
letters_of_chains script chains = letters_for script (count_of chains)

-- the script leaves a letter for each landmark
abbrev pub has_letters : Script → List (List Landmark) → Bool
has_letters script chains = length (letters_of_chains script chains) == count_of chains

-- these letters are sure too
abbrev pub with_sure : (letters : List ℕ) → List Bool → List Bool
with_sure [] marks = marks
with_sure (letter ∷ letters) marks = with_sure letters (slice_set marks letter true)

-- A state that knows of landmarks too, whose lines these letters mark: how far they are from each other, and what they and the lines
-- around them match. From then on single lines are followed.
abbrev pub with_landmarks : (letters : List ℕ) → (chains : List (List Landmark)) → State → State
with_landmarks letters chains s =
    let known = started (map mark letters) chains s.zone in
    record s { zone = known.zone; marks = with_sure letters s.marks; follows = true; facts = known.facts }

-- what is known of the landmarks in this version: in versions 1 and 2 nothing, and single lines aren't followed
abbrev pub began : Version → (letters : List ℕ) → (chains : List (List Landmark)) → State → State
began version.One letters chains s = s
began version.Two letters chains s = s
began version.Three letters chains s = with_landmarks letters chains s

-- the start of a run over a file of which all is so that a certificate states
abbrev pub start_of : Script → Certificate → State
start_of script c =
    began c.version (letters_of_chains script (chains_of c)) (chains_of c) (start c.path c.min c.max c.has)
