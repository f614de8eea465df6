use Rattle.std.proofs.Common.{◌≡◌, ℕ, List, [], ◌∷◌, length, sym, ap, subst, ◌∙◌, arith}
use Rattle.std.proofs.lemmas.List.{length-append}
use Rattle.ed_base.specs.Lines.{lines_of}
use Rattle.landmarks.specs.Places.{AreAt, last_of}
use Rattle.landmarks.proofs.Firsts.{if-ok, if-err}
use Rattle.landmarks.proofs.OneAfterAnother.{placed-next, wrong-here, placed-all}
use Rattle.landmarks.proofs.places.find_places.Goals as goal

pub loop-landmark-init : goal.loop-landmark-init
loop-landmark-init c = record {
  placed = subst (λ (ps : List ℕ). AreAt (lines_of c.args.file.now) 0 [] ps) (sym c.new-places.ensures.items) (AreAt.over 0);
  last_place = ap (last_of 0) c.new-places.ensures.items;
  counted = ap length c.new-places.ensures.items;
}

pub loop-landmark-preserved : goal.loop-landmark-preserved
loop-landmark-preserved c =
    let at = if-ok _ c.in-Ok.place _ _ c.in-Ok.is c.in_ok-place.ensures.value in
    let more = placed-next (lines_of c.args.file.now) c.args.chain.now c.loop-landmark.landmark-index c.landmark-item.result c.loop-landmark.places.items c.push.new.self.items c.in-Ok.place c.loop-landmark.before
    (omega arith) c.landmark-item.is c.loop-landmark.invariant.placed c.loop-landmark.invariant.last_place at c.in_ok-push-in-Ok.ensures.items in
    record {
      placed = more.placed;
      last_place = more.last;
      counted = ap length c.in_ok-push-in-Ok.ensures.items ∙ omega (arith, length-append c.loop-landmark.places.items (c.in-Ok.place ∷ []), c.loop-landmark.invariant.counted);
    }

pub returns-in-Err : goal.returns-in-Err
returns-in-Err c =
    let wrong = if-err _ c.in-Err.why _ _ c.in-Err.is c.in_ok-place.ensures.value in
    let counted : c.len-index.result ≡ c.loop-landmark.landmark-index = omega (arith, c.len-index.ensures, c.loop-landmark.invariant.counted) in
    record {
      value = wrong-here (lines_of c.args.file.now) c.args.chain.now c.loop-landmark.landmark-index c.len-index.result c.landmark-item.result c.loop-landmark.places.items c.loop-landmark.before c.in-Err.why
          (omega arith) c.landmark-item.is c.loop-landmark.invariant.placed c.loop-landmark.invariant.last_place wrong counted;
    }

pub returns : goal.returns
returns c = record { value = placed-all (lines_of c.args.file.now) c.args.chain.now c.loop-landmark.landmark-index c.loop-landmark.places.items (omega arith) c.loop-landmark.invariant.placed }
