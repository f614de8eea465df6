use Rattle.std.proofs.Common.{◌≡◌, length, arith}
use Rattle.ed_syntax.specs.PublicTypes.{step_value}
use Rattle.analyser.proofs.Rounding.{global-leaves, global-stops}
use Rattle.analyser.proofs.walk.end_of_list.Goals as goal

pub returns-in_ok-left-in-None : goal.returns-in_ok-left-in-None
returns-in_ok-left-in-None c = record {
  value =
      global-leaves c.args.sight.now (step_value c.args.command.now) c.args.state.now c.tell.new.state c.in_ok-left-in-None.field-0 c.args.left.now c.args.settled.now
      c.requires.global c.requires.needed c.requires.last c.in-None.is c.in_ok-left-in-None.ensures.exact c.tell.ensures.value;
}

pub returns-in-Some : goal.returns-in-Some
returns-in-Some c =
    let size : c.len.result ≡ length c.args.settled.now.round.inner.items = let counts = c.len.ensures in omega (arith, c.args.settled.now.round.inner.ok.0) in
    record {
      value =
          global-stops c.args.sight.now (step_value c.args.command.now) c.args.state.now c.args.left.now c.len.result c.in-Some.why c.args.settled.now
          c.requires.global c.requires.needed c.requires.last c.in-Some.is size;
    }
