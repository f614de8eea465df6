use Rattle.ed_syntax.specs.PublicTypes.{step_value}
use Rattle.analyser.proofs.Rounding.{last-begun}
use Rattle.analyser.proofs.walk.take_global.Goals as goal

pub end_of_list-requires : goal.end_of_list-requires
end_of_list-requires c = record {
  global = c.requires.global;
  needed = c.requires.needed;
  last = last-begun c.args.sight.now (step_value c.args.command.now) c.args.state.now c.args.left.now c.settle.new.known c.in_ok-settled.settled c.requires.start c.in_ok-settled.ensures.value;
}
