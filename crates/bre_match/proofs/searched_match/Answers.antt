use Rattle.std.proofs.Common.{◌≡◌, ◌+◌, ◌-◌, suc, length, ap, subst, sym, ◌∙◌, arith, ⊎_elim}
use Rattle.bre_parse.specs.Match.{match_among, or_later}
use Rattle.bre_parse.specs.Tree.{sequence_of}
use Rattle.bre_match.specs.Meeting.{LeadNowhere}
use Rattle.bre_match.proofs.Needs.{passed_to}
use Rattle.bre_match.proofs.Starts.{skip_starts, longest_within}
use Rattle.bre_match.proofs.SpreadSteps.{starts_passed}
use Rattle.bre_match.proofs.searched_match.Goals as goal

pub loop-start-init : goal.loop-start-init
loop-start-init c =
    record {
      passed = c.first_start-start.ensures.after;
      within = omega arith;
      left = passed_to (sequence_of c.args.items.now) c.args.text.now c.args.from c.first_start-start.result c.first_start-start.ensures.after c.first_start-start.ensures.within c.first_start-start.ensures.sound;
      nowhere = subst (λ l. LeadNowhere c.args.items.now c.args.text.now l) (sym c.new-seen.ensures.value) tt;
      nothing = c.new-outlook.ensures.seen c.args.text.now;
    }

pub returns-in-Some-clause-within : goal.returns-in-Some-clause-within
returns-in-Some-clause-within c =
    let w = longest_within (sequence_of c.args.items.now) c.args.text.now c.loop-start.start c.in-Some.way (omega arith) (sym c.in-Some.is ∙ c.in_ok-way.ensures.value) in
    (c.loop-start.invariant.passed, w.0, w.1)

pub loop-start-preserved : goal.loop-start-preserved
loop-start-preserved c =
    record {
      passed = omega (arith, c.in_ok-start-in-None.ensures.after);
      within = c.in_ok-start-in-None.ensures.within;
      left =
          c.loop-start.invariant.left
          ∙ skip_starts c.starts_without.result (length c.args.text.now + 1 - (c.loop-start.start + (1 + c.starts_without.result))) (length c.args.text.now + 1 - c.loop-start.start) (sequence_of c.args.items.now) c.args.text.now c.loop-start.start (c.loop-start.start + (1 + c.starts_without.result))
          (omega arith) (omega arith)
          (c.starts_without.ensures.sound (sym c.in_ok-way.ensures.value ∙ c.in-None.is))
          ∙ starts_passed (sequence_of c.args.items.now) c.args.text.now (c.loop-start.start + (1 + c.starts_without.result)) c.in_ok-start-in-None.start
          c.in_ok-start-in-None.ensures.after c.in_ok-start-in-None.ensures.within c.in_ok-start-in-None.ensures.sound;
      nowhere = c.in_ok-way.ensures.seen c.in-None.is;
      nothing = c.in_ok-way.ensures.nothing;
    }

pub longest_from-requires-clause-seen : goal.longest_from-requires-clause-seen
longest_from-requires-clause-seen c =
    ⊎_elim
    (λ none. subst (λ l. LeadNowhere c.args.items.now c.args.text.now l) (sym none) tt)
    (λ same. subst (λ l. LeadNowhere c.args.items.now c.args.text.now l) (sym same) c.loop-start.invariant.nowhere)
    c.keep_at_most.ensures.value

pub returns-in-Some-clause-value : goal.returns-in-Some-clause-value
returns-in-Some-clause-value c =
    let s = c.args.text.now in
    let t = sequence_of c.args.items.now in
    let p = c.loop-start.start in
    let more : length s + 1 - p ≡ suc (length s - p) = omega arith in
    sym (c.loop-start.invariant.left ∙ ap (λ n. match_among n t s p) more
    ∙ ap (λ found. or_later found p (match_among (length s - p) t s (p + 1))) (sym (sym c.in-Some.is ∙ c.in_ok-way.ensures.value)))
