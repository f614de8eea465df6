use Rattle.std.proofs.Common.{◌≡◌, true, IfOk, subst, sym}
use Rattle.ed_syntax.specs.PublicScript.{script_value}
use Rattle.cert_check.specs.declared.certificate.Version.{Version}
use Rattle.cert_check.specs.checker.Beginning.{stated_chains, letters_of_chains, began}
use Rattle.cert_check.proofs.checker.starting.begin.Goals as goal

pub returns-in-Three-clause-began : goal.returns-in-Three-clause-began
returns-in-Three-clause-began c =
    subst (λ (v : Version). IfOk c.know_chains.result (λ known. known ≡ true → c.know_chains.new.state ≡
    began v (letters_of_chains (script_value c.args.script.now) (stated_chains v c.args.chains.now)) (stated_chains v c.args.chains.now)
    c.args.state.now)) (sym c.in-Three.is) c.know_chains.ensures.knows
