-- What came of a run that was checked first is told.
use Rattle.std.proofs.Common.{◌≡◌, Ok, Err, refl}
use Rattle.ed_syntax.specs.PublicScript.{script_value}
use Rattle.cert_check.specs.Certificates.{certificate_value}
use Rattle.ed_calls.specs.declared.running.Ran.TheVariants as ran
use Rattle.ed_calls.specs.declared.told.Origin.TheVariants.{Given, Made}
use Rattle.ed_calls.proofs.Sayings.{runs_ended, runs_told}
use Rattle.ed_calls.proofs.running.run_by.Goals as goal

pub returns-in-Ok-Refused-clause-came : goal.returns-in-Ok-Refused-clause-came
returns-in-Ok-Refused-clause-came g c =
    let a = c.in-Ok-Refused.is in
    let b = c.in-Ok-Refused.field-0-is in
    let is : c.run_checked.result ≡ Ok (ran.Refused c.in-Ok-Refused.place) = cc in
    runs_told c.args.origin (script_value c.args.script) (certificate_value c.args.certificate.now) c.args.options _ _ _ c.run_checked.result
    c.run_checked.ensures.came _ _ (ran.Refused c.in-Ok-Refused.place) c.verdict_told.result _ _ is c.run_checked.ensures.headline (λ e. cc)
    c.verdict_told.ensures.value c.tell.ensures.says

pub returns-in-Given-clause-came : goal.returns-in-Given-clause-came
returns-in-Given-clause-came g c =
    let a = c.in-Ok-StartOutside.is in
    let b = c.in-Ok-StartOutside.field-0-is in
    let is : c.run_checked.result ≡ Ok ran.StartOutside = cc in
    let so = runs_told Given (script_value c.args.script) (certificate_value c.args.certificate.now) c.args.options _ _ _ c.run_checked.result
    c.run_checked.ensures.came _ _ ran.StartOutside c.outside_told.result _ _ is c.run_checked.ensures.headline (λ e. cc)
    c.outside_told.ensures.value c.tell-in-Given.ensures.says in
    rw c.in-Given.is so

pub returns-in-Made-clause-came : goal.returns-in-Made-clause-came
returns-in-Made-clause-came g c =
    let a = c.in-Ok-StartOutside.is in
    let b = c.in-Ok-StartOutside.field-0-is in
    let is : c.run_checked.result ≡ Ok ran.StartOutside = cc in
    let so = runs_ended Made (script_value c.args.script) (certificate_value c.args.certificate.now) c.args.options _ _ _ c.run_checked.result
    c.run_checked.ensures.came _ _ (Ok ran.StartOutside) is c.run_checked.ensures.headline refl refl in
    rw c.in-Made.is so

pub returns-in-Ok-Done-clause-came : goal.returns-in-Ok-Done-clause-came
returns-in-Ok-Done-clause-came g c =
    let a = c.in-Ok-Done.is in
    let b = c.in-Ok-Done.field-0-is in
    let is : c.run_checked.result ≡ Ok (ran.Done c.in-Ok-Done.field-0-0) = cc in
    runs_ended c.args.origin (script_value c.args.script) (certificate_value c.args.certificate.now) c.args.options _ _ _ c.run_checked.result
    c.run_checked.ensures.came _ _ (Ok (ran.Done c.in-Ok-Done.field-0-0)) is c.run_checked.ensures.headline refl refl

pub returns-in-Err-clause-came : goal.returns-in-Err-clause-came
returns-in-Err-clause-came g c =
    let is : c.run_checked.result ≡ Err c.in-Err.fault = c.in-Err.is in
    runs_ended c.args.origin (script_value c.args.script) (certificate_value c.args.certificate.now) c.args.options _ _ _ c.run_checked.result
    c.run_checked.ensures.came _ _ (Err c.in-Err.fault) is c.run_checked.ensures.headline refl c.status.ensures.value
