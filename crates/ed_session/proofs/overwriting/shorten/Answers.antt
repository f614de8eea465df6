use Rattle.std.proofs.Common.{subst}
use Rattle.ed_session.specs.Overwrites.{FileState, Wrote, WroteFront, WasCut}
use Rattle.ed_session.proofs.Overwritten.{on_err, shorter-front, shorter-uncut, shorter-done, left-whole, whole-asked}
use Rattle.ed_session.proofs.overwriting.shorten.Goals as goal

pub returns-in_err-write_chunks-clause-refused : goal.returns-in_err-write_chunks-clause-refused
returns-in_err-write_chunks-clause-refused g c =
    let all = whole-asked _ _ _ c.len.ensures.value c.new-all.ensures.value in
    on_err _ (shorter-front _ _ _ c.requires.not_longer (subst (WroteFront _ _ 0) all c.in_err-write_chunks.ensures.front))

pub returns-in_err-cut-clause-refused : goal.returns-in_err-cut-clause-refused
returns-in_err-cut-clause-refused g c =
    let all = whole-asked _ _ _ c.len.ensures.value c.new-all.ensures.value in
    on_err _ (shorter-uncut _ _ _ _ c.requires.not_longer (subst (Wrote _ _ 0) all c.in_ok-write_chunks.ensures.written)
    c.in_err-cut.ensures.uncut)

pub returns-clause-refused : goal.returns-clause-refused
returns-clause-refused g c =
    let all = whole-asked _ _ _ c.len.ensures.value c.new-all.ensures.value in
    let cut = subst (WasCut _ _) c.len-2.ensures.value c.in_ok-cut.ensures.cut in
    let before : FileState = g.F.FilePlaces.state c.args.file.now in
    on_err _ (left-whole before _ _ _ c.sync.ensures.unchanged
    (shorter-done before _ _ _ c.requires.not_longer (subst (Wrote _ _ 0) all c.in_ok-write_chunks.ensures.written) cut))
