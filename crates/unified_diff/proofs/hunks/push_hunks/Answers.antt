use Rattle.std.proofs.Common.{◌≡◌, ℕ, ◌∷◌, List, [], length, refl, sym, subst, arith, eqb-true, Bor}
use Rattle.std.proofs.lemmas.List.{length-map}
use Rattle.unified_diff.specs.declared.change.Change.{Change}
use Rattle.unified_diff.specs.Edits.{seen, Edits, TellsUpTo}
use Rattle.unified_diff.proofs.Telling.{HasPlace, IsStep, first_of, last_of, group_place, group_step, tells_all}
use Rattle.unified_diff.proofs.hunks.push_hunks.Goals as goal

abbrev zeros : Change
zeros = record { old_start = 0; old_end = 0; new_start = 0; new_end = 0 }

shown-length : (slices : List (Bor (List ℕ))) → length slices ≡ length (seen slices)
shown-length slices = sym (length-map slices (λ slice. slice.now))

no_changes : (changes : List Change) → length changes ≡ 0 → changes ≡ []
no_changes [] none = refl
no_changes (change ∷ changes) none = absurd (omega (arith, none))

pub extent_of-extent-requires : goal.extent_of-extent-requires
extent_of-extent-requires c =
    let place : HasPlace c.hunks.old_at (first_of zeros c.split_at.result.0.now) (last_of zeros c.split_at.result.0.now) c.next_old_start-next_old.result c.next_new_start-next_new.result =
    group_place c.hunks.old_at c.hunks.new_at (length (seen c.args.old.now)) (length (seen c.args.new.now)) c.group_len.result
    (length c.args.old.now) (length c.args.new.now) c.next_old_start-next_old.result c.next_new_start-next_new.result
    c.hunks.left.now c.split_at.result.0.now c.split_at.result.1.now zeros (seen c.args.old.now) (seen c.args.new.now)
    c.split_at.ensures.front c.split_at.ensures.back c.next_old_start-next_old.ensures.value c.next_new_start-next_new.ensures.value
    (shown-length c.args.old.now) (shown-length c.args.new.now)
    c.group_len.ensures.some c.group_len.ensures.within c.hunks.invariant.edits in
    record { before = place.before; new_before = place.new_before; after = place.after; new_after = place.new_after }

pub push_hunk-requires : goal.push_hunk-requires
push_hunk-requires c =
    let step : IsStep c.args.colours c.hunks.old_at c.hunks.new_at c.extent_of-extent.result.old_start c.extent_of-extent.result.old_end
    c.extent_of-extent.result.new_start c.extent_of-extent.result.new_end c.split_at.result.0.now c.split_at.result.1.now
    (length (seen c.args.old.now)) (length (seen c.args.new.now)) (seen c.args.old.now) (seen c.args.new.now) =
    group_step c.args.colours c.hunks.old_at c.hunks.new_at c.extent_of-extent.result.old_start c.extent_of-extent.result.old_end
    c.extent_of-extent.result.new_start c.extent_of-extent.result.new_end (length (seen c.args.old.now)) (length (seen c.args.new.now)) c.group_len.result
    (length c.args.old.now) c.next_old_start-next_old.result c.hunks.left.now c.split_at.result.0.now c.split_at.result.1.now zeros
    (seen c.args.old.now) (seen c.args.new.now)
    c.split_at.ensures.front c.split_at.ensures.back c.next_old_start-next_old.ensures.value (shown-length c.args.old.now)
    c.group_len.ensures.some c.group_len.ensures.within c.hunks.invariant.edits
    (record {
      old_start = c.extent_of-extent.ensures.old_start;
      new_start = c.extent_of-extent.ensures.new_start;
      old_end = c.extent_of-extent.ensures.old_end;
      new_end = c.extent_of-extent.ensures.new_end;
    }) in
    record { edits = step.edits }

pub hunks-preserved : goal.hunks-preserved
hunks-preserved c =
    let step : IsStep c.args.colours c.hunks.old_at c.hunks.new_at c.extent_of-extent.result.old_start c.extent_of-extent.result.old_end
    c.extent_of-extent.result.new_start c.extent_of-extent.result.new_end c.split_at.result.0.now c.split_at.result.1.now
    (length (seen c.args.old.now)) (length (seen c.args.new.now)) (seen c.args.old.now) (seen c.args.new.now) =
    group_step c.args.colours c.hunks.old_at c.hunks.new_at c.extent_of-extent.result.old_start c.extent_of-extent.result.old_end
    c.extent_of-extent.result.new_start c.extent_of-extent.result.new_end (length (seen c.args.old.now)) (length (seen c.args.new.now)) c.group_len.result
    (length c.args.old.now) c.next_old_start-next_old.result c.hunks.left.now c.split_at.result.0.now c.split_at.result.1.now zeros
    (seen c.args.old.now) (seen c.args.new.now)
    c.split_at.ensures.front c.split_at.ensures.back c.next_old_start-next_old.ensures.value (shown-length c.args.old.now)
    c.group_len.ensures.some c.group_len.ensures.within c.hunks.invariant.edits
    (record {
      old_start = c.extent_of-extent.ensures.old_start;
      new_start = c.extent_of-extent.ensures.new_start;
      old_end = c.extent_of-extent.ensures.old_end;
      new_end = c.extent_of-extent.ensures.new_end;
    }) in
    let P : List ℕ → Type 0 = λ t. TellsUpTo c.args.colours c.args.text.now t c.extent_of-extent.result.old_end c.extent_of-extent.result.new_end
    (seen c.args.old.now) (seen c.args.new.now) in
    record {
      edits = step.later;
      told = subst P (sym c.in_ok-push_hunk.ensures.appended) (step.tells c.args.text.now c.hunks.text c.hunks.invariant.told);
    }

pub returns : goal.returns
returns c =
    let P : List Change → Type 0 = λ ls. Edits c.hunks.old_at c.hunks.new_at ls (length (seen c.args.old.now)) (length (seen c.args.new.now))
    (seen c.args.old.now) (seen c.args.new.now) in
    let left : c.hunks.left.now ≡ [] = no_changes c.hunks.left.now (eqb-true (length c.hunks.left.now) 0 (sym c.hunks-test.ensures)) in
    record {
      told = tells_all c.args.colours c.args.text.now c.hunks.text c.hunks.old_at c.hunks.new_at (seen c.args.old.now) (seen c.args.new.now)
          c.hunks.invariant.told (subst P left c.hunks.invariant.edits);
    }
