use Rattle.ed_syntax.specs.PublicScript.{script_value}
use Rattle.analyser.proofs.Knowing.{known-by, known-none}
use Rattle.analyser.proofs.analysing.know.Goals as goal

pub returns-in-Some : goal.returns-in-Some
returns-in-Some c = record {
  value = known-by (script_value c.args.script.now) c.args.start.now _ _ c.know_chains.result _ _ c.in-Some.is c.as_slice.ensures.value
      c.know_chains.ensures.value c.know_chains.ensures.knows c.know_chains.ensures.unchanged;
}

pub returns-in-None : goal.returns-in-None
returns-in-None c = record { value = known-none (script_value c.args.script.now) c.args.start.now _ c.in-None.is }
