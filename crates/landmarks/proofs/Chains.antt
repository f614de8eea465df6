-- A text spells one chain.
use Rattle.std.proofs.Common.{◌≡◌, ◌≢◌, ℕ, true, false, nat_eq, List, [], ◌∷◌, drop, sym, ap, ◌∙◌, subst}
use Rattle.std.specs.Prelude.{codes, IsFalse, All}
use Rattle.std.proofs.lemmas.Bool.{eqb-true}
use Rattle.std.proofs.lemmas.List.Elements.{All-contains, All-drop, All-head}
use Rattle.ed_base.specs.Lines.{newline}
use Rattle.ed_syntax.specs.spelling.Characters.{semicolon_byte, begins, after_blanks}
use Rattle.landmarks.specs.declared.which.Which.{Which}
use Rattle.landmarks.specs.declared.landmark.Landmark.{Landmark}
use Rattle.landmarks.specs.declared.chain_fault.Never.{Never}
use Rattle.landmarks.specs.declared.chain_fault.Never.TheVariants as never
use Rattle.landmarks.specs.Spelled.{SpellsNone, SpellsWhich, SpellsDistance, SpellsTests, SpellsParts, SpellsLandmark, SpellsLandmarks, SpellsChain, NoChain, MayDiffer, missing_between, CanLack, CanBe}
use Rattle.landmarks.specs.ChainFaults.{IsNever}
use Rattle.landmarks.specs.Stops.{NoNone, NoWhich, NoDistance, NoTests, NoParts, NoLandmark, NoLandmarks}
use Rattle.landmarks.proofs.Determined.{none-one, which-one, distance-one, tests-one}

pub no_parts_none : {text : List ℕ} → NoNone [] text → NoParts text
no_parts_none lacking rest landmark parts = lacking _ _ parts.none

module _ {text r1 : List ℕ} {n : List (List ℕ)} (none : SpellsNone [] text r1 n) where
  pub no_parts_which : NoWhich r1 → NoParts text
  no_parts_which lacking rest landmark parts =
      lacking parts.after_which landmark.which (subst (λ r. SpellsWhich r parts.after_which landmark.which) (none-one parts.none none).1 parts.which)

  module _ {r2 : List ℕ} {w : Which} (which : SpellsWhich r1 r2 w) where
    after_which : {rest : List ℕ} {landmark : Landmark} (parts : SpellsParts text rest landmark) → (landmark.which ≡ w) × (parts.after_which ≡ r2)
    after_which {rest} {landmark} parts = which-one (subst (λ r. SpellsWhich r parts.after_which landmark.which) (none-one parts.none none).1 parts.which) which

    pub no_parts_gap : NoDistance (codes "gap") 1 r2 → NoParts text
    no_parts_gap lacking rest landmark parts =
        lacking parts.after_gap landmark.gap (subst (λ r. SpellsDistance (codes "gap") 1 r parts.after_gap landmark.gap) (after_which parts).1 parts.gap)

    module _ {r3 : List ℕ} {g : ℕ} (gap : SpellsDistance (codes "gap") 1 r2 r3 g) where
      after_gap : {rest : List ℕ} {landmark : Landmark} (parts : SpellsParts text rest landmark) → (landmark.gap ≡ g) × (parts.after_gap ≡ r3)
      after_gap {rest} {landmark} parts =
          distance-one (subst (λ r. SpellsDistance (codes "gap") 1 r parts.after_gap landmark.gap) (after_which parts).1 parts.gap) gap

      pub no_parts_tail : NoDistance (codes "tail") 0 r3 → NoParts text
      no_parts_tail lacking rest landmark parts =
          lacking parts.after_tail landmark.tail (subst (λ r. SpellsDistance (codes "tail") 0 r parts.after_tail landmark.tail) (after_gap parts).1 parts.tail)

      module _ {r4 : List ℕ} {t : ℕ} (tail : SpellsDistance (codes "tail") 0 r3 r4 t) where
        after_tail : {rest : List ℕ} {landmark : Landmark} (parts : SpellsParts text rest landmark) → (landmark.tail ≡ t) × (parts.after_tail ≡ r4)
        after_tail {rest} {landmark} parts =
            distance-one (subst (λ r. SpellsDistance (codes "tail") 0 r parts.after_tail landmark.tail) (after_gap parts).1 parts.tail) tail

        pub no_parts_tests : NoTests [] [] r4 → NoParts text
        no_parts_tests lacking rest landmark parts =
            lacking rest landmark.also landmark.lacks
            (subst (λ r. SpellsTests [] [] r rest landmark.also landmark.lacks) (after_tail parts).1 parts.tests)

-- a landmark of these parts
abbrev landmark_of : List (List ℕ) → Which → ℕ → ℕ → List (List ℕ) → List (List ℕ) → Landmark
landmark_of none which gap tail also lacks = record { none = none; which = which; gap = gap; tail = tail; also = also; lacks = lacks }

pub landmark-same : (one other : Landmark) → one.none ≡ other.none → one.which ≡ other.which → one.gap ≡ other.gap → one.tail ≡ other.tail →
    one.also ≡ other.also → one.lacks ≡ other.lacks → one ≡ other
landmark-same one other none which gap tail also lacks =
    ap (λ n. landmark_of n one.which one.gap one.tail one.also one.lacks) none
    ∙ ap (λ w. landmark_of other.none w one.gap one.tail one.also one.lacks) which
    ∙ ap (λ g. landmark_of other.none other.which g one.tail one.also one.lacks) gap
    ∙ ap (λ t. landmark_of other.none other.which other.gap t one.also one.lacks) tail
    ∙ ap (λ a. landmark_of other.none other.which other.gap other.tail a one.lacks) also
    ∙ ap (λ l. landmark_of other.none other.which other.gap other.tail other.also l) lacks

pub parts-one : {text r1 r2 : List ℕ} {l1 l2 : Landmark} → SpellsParts text r1 l1 → SpellsParts text r2 l2 → (l1 ≡ l2) × (r1 ≡ r2)
parts-one {text} {r1} {r2} {l1} {l2} one other =
    let n = none-one one.none other.none in
    let w = which-one (subst (λ r. SpellsWhich r one.after_which l1.which) n.1 one.which) other.which in
    let g = distance-one (subst (λ r. SpellsDistance (codes "gap") 1 r one.after_gap l1.gap) w.1 one.gap) other.gap in
    let t = distance-one (subst (λ r. SpellsDistance (codes "tail") 0 r one.after_tail l1.tail) g.1 one.tail) other.tail in
    let s = tests-one (subst (λ r. SpellsTests [] [] r r1 l1.also l1.lacks) t.1 one.tests) other.tests in
    (landmark-same l1 l2 n.0 w.0 g.0 t.0 s.also s.lacks, s.rest)

pub landmark-one : {text r1 r2 : List ℕ} {l1 l2 : Landmark} → SpellsLandmark text r1 l1 → SpellsLandmark text r2 l2 → (l1 ≡ l2) × (r1 ≡ r2)
landmark-one one other = parts-one one.parts other.parts

-- a landmark that lacking line can be is none
pub never-clash : (landmark : Landmark) (why : Never) → IsNever landmark why → CanBe landmark → ⊥
never-clash landmark (never.Both p) h can =
    let e : false ≡ true = sym (All-contains (CanLack landmark) landmark.lacks p can.lacks h.0).0 ∙ h.1 in cc
never-clash landmark (never.Always p) h can =
    let e : false ≡ true = sym (All-contains (CanLack landmark) landmark.lacks p can.lacks h.0).1 ∙ h.1 in cc
never-clash landmark (never.RightBelow p) h can =
    let e : false ≡ true = sym (All-contains MayDiffer (missing_between landmark) p (can.below h.0) h.1.0) ∙ h.1.1 in cc

pub no_landmark_never : {text rest : List ℕ} {landmark : Landmark} (why : Never) → SpellsParts text rest landmark → IsNever landmark why → NoLandmark text
no_landmark_never {text} {rest} {landmark} why parts h after other is =
    never-clash landmark why h (subst CanBe (parts-one is.parts parts).0 is.can_be)

pub no_landmark : {text : List ℕ} → NoParts text → NoLandmark text
no_landmark lacking rest landmark is = lacking rest landmark is.parts

pub landmarks-next : {text rest more : List ℕ} {landmark : Landmark} {all : List Landmark} → SpellsLandmark text rest landmark →
    after_blanks rest ≡ semicolon_byte ∷ more → SpellsLandmarks text all → (chain : List Landmark) × (all ≡ landmark ∷ chain) × SpellsLandmarks more chain
landmarks-next {text} {rest} {more} {landmark} {all} is sign (SpellsLandmarks.last t r l is' over) =
    let same = (landmark-one is' is).1 in
    let e : [] ≡ semicolon_byte ∷ more = sym over ∙ ap after_blanks same ∙ sign in cc
landmarks-next {text} {rest} {more} {landmark} {all} is sign (SpellsLandmarks.next t r m l chain is' sign' later) =
    let same = landmark-one is' is in
    let e : semicolon_byte ∷ m ≡ semicolon_byte ∷ more = sym sign' ∙ ap after_blanks same.1 ∙ sign in
    let found : m ≡ more = cc e in
    (chain, ap (λ l. l ∷ chain) same.0, subst (λ m. SpellsLandmarks m chain) found later)

pub landmarks-one : {text : List ℕ} {c1 c2 : List Landmark} → SpellsLandmarks text c1 → SpellsLandmarks text c2 → c1 ≡ c2
landmarks-one (SpellsLandmarks.next t r m l chain is sign later) other =
    let found = landmarks-next is sign other in
    ap (λ c. l ∷ c) (landmarks-one later found.2) ∙ sym found.1
landmarks-one (SpellsLandmarks.last t r l is over) (SpellsLandmarks.last t' r' l' is' over') = ap (λ l. l ∷ []) (landmark-one is is').0
landmarks-one (SpellsLandmarks.last t r l is over) (SpellsLandmarks.next t' r' m l' chain is' sign later) =
    let e : [] ≡ semicolon_byte ∷ m = sym over ∙ ap after_blanks (landmark-one is is').1 ∙ sign in cc

pub chain-one : (text : List ℕ) (one other : List Landmark) → SpellsChain text one → SpellsChain text other → one ≡ other
chain-one text one other a b = landmarks-one a.landmarks b.landmarks

pub no_landmarks : {text : List ℕ} → NoLandmark text → NoLandmarks text
no_landmarks lacking chain (SpellsLandmarks.last t r l is over) = lacking r l is
no_landmarks lacking chain (SpellsLandmarks.next t r m l c is sign later) = lacking r l is

pub no_landmarks_end : {text rest : List ℕ} {landmark : Landmark} → SpellsLandmark text rest landmark → after_blanks rest ≢ [] →
    IsFalse (begins (nat_eq semicolon_byte) (after_blanks rest)) → NoLandmarks text
no_landmarks_end {text} {rest} {landmark} is some other chain (SpellsLandmarks.last t r l is' over) =
    some (ap after_blanks (sym (landmark-one is' is).1) ∙ over)
no_landmarks_end {text} {rest} {landmark} is some other chain (SpellsLandmarks.next t r m l c is' sign later) =
    let e : false ≡ true = sym other ∙ ap (λ r. begins (nat_eq semicolon_byte) (after_blanks r)) (sym (landmark-one is' is).1) ∙ ap (begins (nat_eq semicolon_byte)) sign in cc

-- a chain is one line
pub no_chain_newline : (text : List ℕ) (place : ℕ) → begins (nat_eq newline) (drop place text) ≡ true → NoChain text
no_chain_newline text place found = λ chain is. by (drop place text) (All-drop (λ b. b ≢ newline) place text is.line) found
  where
    by : (bytes : List ℕ) → All (λ b. b ≢ newline) bytes → begins (nat_eq newline) bytes ≡ true → ⊥
    by [] all found = cc
    by (b ∷ bytes) all found = All-head (λ b. b ≢ newline) b bytes all (sym (eqb-true newline b found))

pub no_chain : (text : List ℕ) → NoLandmarks text → NoChain text
no_chain text lacking = λ chain is. lacking chain is.landmarks
