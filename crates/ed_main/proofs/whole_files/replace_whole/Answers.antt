use Rattle.std.proofs.Common.{◌∙◌, ap, sym}
use Rattle.whole.specs.Deeds.{run_log}
use Rattle.whole.specs.SeenDeeds.{deeds_seen}
use Rattle.ed_main.specs.declared.writing.Writing.TheVariants as writing
use Rattle.ed_main.proofs.Holding.{held_of}
use Rattle.ed_main.proofs.Made.{made}
use Rattle.ed_main.proofs.whole_files.replace_whole.Goals as goal

pub returns-clause-came : goal.returns-clause-came
returns-clause-came g c =
    let end = c.finish-end.ensures in
    made c.args.task _ _ _ (writing.AtTheEnd c.args.suffix) c.do_over-ran.ensures.came
    (held_of _ _ _ _ _ _ _ _ _ (c.new-files.ensures.log ∙ ap run_log c.new-whole.ensures.log)
    (ap (λ w. run_log (deeds_seen w.drafts.log.deeds.items)) (sym c.into_files-whole.ensures.value))
    c.nothing_is_put.ensures.unput c.reads_show_what_is_held.ensures.held end.goes_on end.ends end.paths end.within c.is_done-well.ensures.value
    end.at_a_fault end.at_a_refusal end.only_then end.each_moment c.status_after.ensures.value)
