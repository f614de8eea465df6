use Rattle.std.proofs.Common.{◌≡◌, ◌∙◌, ap, length, subst, sym}
use Rattle.whole.specs.Deeds.{run_log}
use Rattle.whole.specs.Paths.{written_paths}
use Rattle.whole.specs.LeftFiles.{OldOrNew}
use Rattle.whole.specs.Endings.{EndsSo, IsPlace}
use Rattle.whole.proofs.Keeping.{ends-why, fault-ends, refusal-ends}
use Rattle.whole.proofs.EndLemmas.{ended-moments, ends, same-written}
use Rattle.whole.proofs.DeedLemmas.{goes-after, same-asked}
use Rattle.whole.proofs.whole.Whole.finish.Goals as goal

pub returns : goal.returns
returns g c =
    let s = c.args.self in
    let w = s.sound in
    let deeds = g.D.Drafting.log s.drafts in
    let o = c.end-outcome.result in
    let ps = c.as_slice.result.now in
    let e = c.end-outcome.ensures in
    let well = c.is_well-well.ensures.value in
    let are : ps ≡ written_paths deeds = c.as_slice.ensures.value ∙ w.paths_are in
    record {
      ends = subst (EndsSo o) (sym e.log) (ends deeds o ps w.unput are e.within);
      paths = w.paths_are ∙ sym (ap written_paths e.log ∙ same-written deeds o ps);
      within = subst (λ these. IsPlace o (length these)) c.as_slice.ensures.value e.within;
      at_a_fault = λ f. e.discarded (fault-ends c.args.ended_well s.refused _ well f);
      at_a_refusal = λ f. e.discarded (refusal-ends c.args.ended_well s.refused _ _ w.refused_is well f);
      only_then = λ f. ends-why c.args.ended_well s.refused _ _ w.refused_is well (e.only_then f);
      each_moment = subst OldOrNew (sym e.log) (ended-moments deeds o ps w.unput);
      goes_on = goes-after deeds _ _ e.log;
      same_run = ap run_log e.log ∙ same-asked deeds o ps;
    }
