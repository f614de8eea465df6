use Rattle.std.proofs.Common.{◌≡◌, ℕ, ◌+◌, List, ◌∷◌, drop, ap, ◌∙◌, sym, subst}
use Rattle.std.proofs.lemmas.List.{drop_more, drop_all}
use Rattle.ed_base.specs.Lines.{lines_of}
use Rattle.landmarks.specs.declared.landmark.Landmark.{Landmark}
use Rattle.landmarks.specs.declared.places.Placing.{Placing}
use Rattle.landmarks.specs.ChainValues.{ChainValue}
use Rattle.landmarks.specs.Placings.{IsPlacing}
use Rattle.landmarks.specs.Places.{AreAt}
use Rattle.landmarks.specs.Misplaced.{IsMisplaced}
use Rattle.cert_check.specs.checker.Beginning.{landmarks_of}
use Rattle.cert_check.specs.checker.Sound.{HaveLandmarks}
use Rattle.hints.proofs.Placed.{no_chains, own_places, first_placed}
use Rattle.hints.proofs.allowing.missed_chain.Goals as goal

pub loop-chain-init : goal.loop-chain-init
loop-chain-init c = (λ h. h, λ h. h)

pub returns-in-Wrong-clause-missed : goal.returns-in-Wrong-clause-missed
returns-in-Wrong-clause-missed c =
    let lines : List (List ℕ) = lines_of c.args.file.now in
    let chains : List ChainValue = c.args.chains.now in
    let i : ℕ = c.loop-chain.chain-index in
    let chain : ChainValue = c.chain-item.result in
    let here : drop i chains ≡ chain ∷ drop (i + 1) chains =
    drop_more chains i chain c.loop-chain-test.true ∙ ap (λ x. x ∷ drop (i + 1) chains) (sym c.chain-item.is) in
    let wrong : IsMisplaced lines chain.landmarks c.in-Wrong.wrong =
    subst (λ (l : List Landmark). IsMisplaced lines l c.in-Wrong.wrong) c.landmarks.ensures.value
    (subst (λ (p : Placing). IsPlacing lines c.landmarks.result.now p) c.in-Wrong.is c.in_ok-_places.ensures.value) in
    λ all.
    let left : HaveLandmarks lines (landmarks_of (chain ∷ drop (i + 1) chains)) =
    subst (λ (cs : List ChainValue). HaveLandmarks lines (landmarks_of cs)) here (c.loop-chain.invariant.0 all) in
    let own = own_places lines chain.landmarks (landmarks_of (drop (i + 1) chains)) left in
    c.landmarks_have_one_place.ensures.none lines chain.landmarks c.in-Wrong.wrong own.0 wrong own.1

pub loop-chain-preserved : goal.loop-chain-preserved
loop-chain-preserved c =
    let lines : List (List ℕ) = lines_of c.args.file.now in
    let chains : List ChainValue = c.args.chains.now in
    let i : ℕ = c.loop-chain.chain-index in
    let chain : ChainValue = c.chain-item.result in
    let here : drop i chains ≡ chain ∷ drop (i + 1) chains =
    drop_more chains i chain c.loop-chain-test.true ∙ ap (λ x. x ∷ drop (i + 1) chains) (sym c.chain-item.is) in
    let own : List ℕ = c.in-Placed._places.items in
    let at : AreAt lines 0 chain.landmarks own =
    subst (λ (l : List Landmark). AreAt lines 0 l own) c.landmarks.ensures.value
    (subst (λ (p : Placing). IsPlacing lines c.landmarks.result.now p) c.in-Placed.is c.in_ok-_places.ensures.value) in
    let both = first_placed lines chain.landmarks (landmarks_of (drop (i + 1) chains)) own at in (
      λ all. both.0 (subst (λ (cs : List ChainValue). HaveLandmarks lines (landmarks_of cs)) here (c.loop-chain.invariant.0 all)),
      λ later. c.loop-chain.invariant.1 (subst (λ (cs : List ChainValue). HaveLandmarks lines (landmarks_of cs)) (sym here) (both.1 later)),
    )

pub returns-clause-placed : goal.returns-clause-placed
returns-clause-placed c =
    let lines : List (List ℕ) = lines_of c.args.file.now in
    let chains : List ChainValue = c.args.chains.now in
    λ _. c.loop-chain.invariant.1
    (subst (λ (cs : List ChainValue). HaveLandmarks lines (landmarks_of cs)) (sym (drop_all c.loop-chain.chain-index chains c.loop-chain-test.false))
    (no_chains lines))
