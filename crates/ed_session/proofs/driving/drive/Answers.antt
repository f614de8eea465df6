use Rattle.std.proofs.Common.{◌∙◌, refl, ap, inl, inr, arith}
use Rattle.ed_syntax.specs.meaning.Progress.{Ends}
use Rattle.ed_session.proofs.Causes.{rest_by_file, rest_no_output}
use Rattle.ed_session.proofs.Rounds.{performs_read, performs_write, driven_output, driven_performs, performed_log, performed_raises, driven_ends, driven_cut_off}
use Rattle.ed_session.proofs.driving.drive.Goals as goal

pub rounds-preserved-else-not-give_pieces : goal.rounds-preserved-else-not-give_pieces
rounds-preserved-else-not-give_pieces g c =
    let i = c.rounds.invariant in
    let e = c.in-Output.ensures in
    let gave = c.if-not-give_pieces.ensures.all refl in
    record {
      log = i.log;
      driven = driven_output _ _ _ _ c.in-Output.bytes _ _ _ i.driven e.given gave.0;
      raises = i.raises;
      rises = i.rises;
      idle = e.given.idle;
      started = e.started;
      count = gave.1 ∙ i.count;
    }

pub rounds-preserved-else-not-give_pieces-2 : goal.rounds-preserved-else-not-give_pieces-2
rounds-preserved-else-not-give_pieces-2 g c =
    let i = c.rounds.invariant in
    let e = c.in-Output.ensures in
    let gave = c.if-not-give_pieces.ensures.all refl in
    record {
      log = i.log;
      driven = driven_output _ _ _ _ c.in-Output.bytes _ _ _ i.driven e.given gave.0;
      raises = i.raises;
      rises = i.rises;
      idle = e.given.idle;
      started = e.started;
      count = gave.1 ∙ i.count;
    }

pub rounds-preserved-in-Read : goal.rounds-preserved-in-Read
rounds-preserved-in-Read g c =
    let i = c.rounds.invariant in
    let e = c.read.ensures in
    let h = c.hear.ensures in
    let p = performs_read _ _ c.hear.new.session c.in-Read.path c.as_slice.result.now c.read.result _ _ _ _ c.in-Read.ensures.given c.as_slice.ensures.value e.logged e.unchanged e.rises
    e.refused e.not_done h.answered h.broke h.idle h.started in
    record {
      log = performed_log c.args.session.now c.rounds.session c.step.new.self _ _ _ _ _ _ i.log p;
      driven = driven_performs _ _ c.step.new.self _ _ _ _ _ _ i.log p _ i.driven c.in-Read.ensures.given.same;
      raises = performed_raises c.args.session.now c.rounds.session c.step.new.self _ _ _ _ _ _ i.log p _ i.rises i.raises;
      rises = omega (arith, i.rises, p.rises);
      idle = p.idle;
      started = p.started;
      count = i.count;
    }

pub rounds-preserved : goal.rounds-preserved
rounds-preserved g c =
    let i = c.rounds.invariant in
    let e = c.write.ensures in
    let h = c.hear-in-Write.ensures in
    let p = performs_write _ _ c.hear-in-Write.new.session c.in-Write.path c.as_slice-in-Write.result.now c.in-Write.bytes c.write.result _ _ _ _ c.in-Write.ensures.given c.as_slice-in-Write.ensures.value
    e.logged e.unchanged e.rises e.refused e.done_or_refused h.answered h.broke h.idle h.started in
    record {
      log = performed_log c.args.session.now c.rounds.session c.step.new.self _ _ _ _ _ _ i.log p;
      driven = driven_performs _ _ c.step.new.self _ _ _ _ _ _ i.log p _ i.driven c.in-Write.ensures.given.same;
      raises = performed_raises c.args.session.now c.rounds.session c.step.new.self _ _ _ _ _ _ i.log p _ i.rises i.raises;
      rises = omega (arith, i.rises, p.rises);
      idle = p.idle;
      started = p.started;
      count = i.count;
    }

pub returns-then-not-give_pieces-clause-run : goal.returns-then-not-give_pieces-clause-run
returns-then-not-give_pieces-clause-run g c =
    let i = c.rounds.invariant in
    let gave = c.if-not-give_pieces.ensures.part refl in
    inr (inr (refl, omega (arith, gave.1, i.count), driven_cut_off _ _ _ _ c.in-Output.bytes _ _ _ i.driven c.in-Output.ensures.given gave.0))

pub returns-in-Ended-clause-run : goal.returns-in-Ended-clause-run
returns-in-Ended-clause-run g c =
    let i = c.rounds.invariant in
    elim (driven_ends _ _ _ _ _ _ i.driven c.in-Ended.ensures.given) [
      | inl x ↦ inl (i.count, x)
      | inr x ↦ inr (inl (x.0, i.count, x.1))
    ]

pub returns-in-Ended-clause-file_refused : goal.returns-in-Ended-clause-file_refused
returns-in-Ended-clause-file_refused g c = λ is.
    let i = c.rounds.invariant in
    elim (driven_ends _ _ _ _ _ _ i.driven c.in-Ended.ensures.given) [
      | inl x ↦ elim i.raises [
        | inl fit ↦ inr (rest_by_file c.args.session.now _ x.asked fit (x.ended ∙ ap Ends is))
        | inr rise ↦ inl rise
      ]
      | inr x ↦ absurd (let h = x.0 in cc)
    ]

pub returns-in-Ended-clause-output_refused : goal.returns-in-Ended-clause-output_refused
returns-in-Ended-clause-output_refused g c = λ whole is.
    elim (driven_ends _ _ _ _ _ _ c.rounds.invariant.driven c.in-Ended.ensures.given) [
      | inl x ↦ absurd (whole (rest_no_output c.args.session.now _ (x.ended ∙ ap Ends is)))
      | inr x ↦ absurd (let h = x.0 in cc)
    ]
