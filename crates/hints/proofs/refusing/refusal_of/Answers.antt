use Rattle.std.specs.Option.{option_copied}
use Rattle.ed_syntax.specs.PublicScript.{script_value}
use Rattle.ed_syntax.specs.reading.Reading.{script_of}
use Rattle.cert_check.specs.Certificates.{certificate_value}
use Rattle.hints.proofs.Places.{vouched-as}
use Rattle.hints.proofs.Chains.{refused-as}
use Rattle.hints.proofs.refusing.refusal_of.Goals as goal

pub returns-in-Vouched : goal.returns-in-Vouched
returns-in-Vouched c = record {
  exact =
      vouched-as (script_value c.in_ok-read.read) (script_of c.args.script.now) c.in_ok-copy_of.field-0 c.args.start.now (certificate_value c.in-Vouched.field-0)
      c.in_ok-read.ensures.value c.in_ok-copy_of.ensures.value (rw c.in-Vouched.is at c.in_ok-analyse.ensures.exact);
}

pub returns-in_ok-copy_of-in-Cannot : goal.returns-in_ok-copy_of-in-Cannot
returns-in_ok-copy_of-in-Cannot c = record {
  exact =
      refused-as (option_copied c.args.file) _ c.args.script.now c.args.start.now (script_value c.in_ok-read.read) c.in_ok-copy_of.field-0 c.in_ok-read.ensures.value c.in_ok-copy_of.ensures.value
      c.in_ok-from_slice-in-Cannot.ensures.value c.in_ok-copy_of-in-Cannot.ensures.value (rw c.in-Cannot.is at c.in_ok-analyse.ensures.exact) c.in_ok-hints-in-Cannot.ensures.tried
      c.in_ok-hints-in-Cannot.ensures.suited c.in_ok-hints-in-Cannot.ensures.asks (rw c.as_slice.ensures.value at c.in_ok-hints-in-Cannot.ensures.states);
}
