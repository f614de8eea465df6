-- The folds over sure letters, one letter more.
use Rattle.std.proofs.Common.{◌≡◌, ◌<◌, ◌≤◌, ℕ, zero, suc, ◌+◌, Bool, true, false, List, arith, refl, add-one, ◌∙◌, ap, sym, subst}
use Rattle.std.proofs.lemmas.Bool.{false_from_ne_true, both_ways}
use Rattle.std.proofs.lemmas.List.{get_or-replicate}
use Rattle.zones.specs.Name.{mark}
use Rattle.zones.specs.Zone.{Bounds}
use Rattle.zones.specs.Steps.{after_forget}
use Rattle.ed_rules.specs.Marks.{is_sure, no_marks, for_each_sure, AreAmong}
use Rattle.ed_rules.specs.Files.{without_letters}

pub for_each_sure-none : {A : Type 0} (step : ℕ → A → A) (sure : List Bool) (a : A) → for_each_sure step sure 0 a ≡ a
unfolding for_each_sure
for_each_sure-none step sure a = refl

pub for_each_sure-on : {A : Type 0} (step : ℕ → A → A) (sure : List Bool) (k : ℕ) (a : A) → is_sure sure k ≡ true →
    for_each_sure step sure (k + 1) a ≡ step k (for_each_sure step sure k a)
unfolding for_each_sure
for_each_sure-on step sure k a e = rw (add-one, e) refl

pub for_each_sure-off : {A : Type 0} (step : ℕ → A → A) (sure : List Bool) (k : ℕ) (a : A) → is_sure sure k ≡ false →
    for_each_sure step sure (k + 1) a ≡ for_each_sure step sure k a
unfolding for_each_sure
for_each_sure-off step sure k a e = rw (add-one, e) refl

-- where no letter is sure there is no step
pub for_each_sure-no_marks : {A : Type 0} (step : ℕ → A → A) (sure : List Bool) (k : ℕ) (a : A) → k ≤ 26 → AreAmong sure no_marks →
    for_each_sure step sure k a ≡ a
unfolding for_each_sure
for_each_sure-no_marks step sure zero a h few = refl
for_each_sure-no_marks step sure (suc k) a h few =
    let inside : k < 26 = omega arith in
    let unsure : is_sure no_marks k ≡ false = get_or-replicate 26 k false false inside in
    let off : is_sure sure k ≡ false = false_from_ne_true (is_sure sure k) (λ e. both_ways (is_sure no_marks k) unsure (few k inside e)) in
    rw off (for_each_sure-no_marks step sure k a (omega arith) few)

-- a loop over the places of the letters goes on by a step where the letter is sure, and by none where it isn't
pub sure-taken : {A : Type 0} (step : ℕ → A → A) (sure : List Bool) (k letter : ℕ) (start before after : A) → letter ≡ k →
    before ≡ for_each_sure step sure k start → is_sure sure letter ≡ true → after ≡ step letter before → after ≡ for_each_sure step sure (k + 1) start
sure-taken step sure k letter start before after same so_far e next =
    next ∙ ap (step letter) so_far ∙ rw same (sym (for_each_sure-on step sure k start (subst (λ (n : ℕ). is_sure sure n ≡ true) same e)))

pub sure-left_out : {A : Type 0} (step : ℕ → A → A) (sure : List Bool) (k letter : ℕ) (start before after : A) → letter ≡ k →
    before ≡ for_each_sure step sure k start → is_sure sure letter ≡ false → after ≡ before → after ≡ for_each_sure step sure (k + 1) start
sure-left_out step sure k letter start before after same so_far e next =
    next ∙ so_far ∙ sym (for_each_sure-off step sure k start (subst (λ (n : ℕ). is_sure sure n ≡ false) same e))

pub without_letters-none : (zone : Bounds) → without_letters 0 zone ≡ zone
unfolding without_letters
without_letters-none zone = refl

pub without_letters-next : (k : ℕ) (zone : Bounds) → without_letters (k + 1) zone ≡ after_forget (without_letters k zone) (mark k)
unfolding without_letters
without_letters-next k zone = rw add-one refl
