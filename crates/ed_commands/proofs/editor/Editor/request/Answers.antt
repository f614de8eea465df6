-- What the addresses changed is put back.
use Rattle.std.proofs.Common.{ap, ◌∙◌}
use Rattle.ed_syntax.specs.PublicTypes.{command_value}
use Rattle.ed_commands.proofs.Placing.{put_back, unplaced}
use Rattle.ed_commands.proofs.editor.Editor.request.Goals as goal

pub returns-clause-unchanged : goal.returns-clause-unchanged
returns-clause-unchanged g c =
    let current = c.self.inside.current in
    let pattern = c.in_ok-pattern.pattern in
    ap (put_back current pattern) (c.self-2.view_is ∙ c.in_ok-request.ensures.unchanged)
    ∙ unplaced (command_value c.args.command.now) c.args.self.now c.addressed.new.self c.in_ok-named.named current pattern
    c.in_ok-named.ensures.exact (ap (λ v. v.state.current) c.self.view_is) c.in_ok-pattern.ensures.value c.in_ok-named.ensures.failed
