-- The letters that two states both have, one by one.
use Rattle.std.proofs.Common.{◌≡◌, ◌<◌, ℕ, Bool, false, ◌&&◌, List, length, get_or, arith, ◌∙◌, sym}
use Rattle.std.proofs.lemmas.List.{same_lists, get_or_default}
use Rattle.std.proofs.lemmas.List.FromFn.{length-map-range_with_len, get_or-map-range_with_len}
use Rattle.ed_rules.specs.Marks.{both_sure}

pub both_sure-each : (sure one other : List Bool) → length sure ≡ 26 →
    ((k : ℕ) → k < 26 → get_or sure k false ≡ (get_or one k false && get_or other k false)) → sure ≡ both_sure one other
unfolding both_sure
both_sure-each sure one other size each =
    let f = λ (k : ℕ). get_or one k false && get_or other k false in
    same_lists sure _ (size ∙ sym (length-map-range_with_len f 0 26))
    (λ k d b.
    let h : k < 26 = omega arith in
    sym (get_or_default sure k false d b) ∙ each k h ∙ sym (get_or-map-range_with_len f 0 26 k k d h (omega arith)))
