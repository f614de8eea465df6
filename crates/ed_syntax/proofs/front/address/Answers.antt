use Rattle.std.proofs.Common.{◌≡◌, Some, None}
use Rattle.std.specs.Option.{MatchOption}
use Rattle.std.proofs.lemmas.Result.{IfOk-weaker}
use Rattle.ed_syntax.specs.PublicTypes.{optional_address}
use Rattle.ed_syntax.specs.spelling.Absence.{NoAddress}
use Rattle.ed_syntax.specs.spelling.Addressing.{SpellsAddress}
use Rattle.ed_syntax.specs.reading.Tokens.{address}
use Rattle.ed_syntax.proofs.reader.AddressLemmas.{address-sound, no-address}
use Rattle.ed_syntax.proofs.front.address.Goals as goal

pub returns : goal.returns
returns c =
    let text = c.args.bytes.now in
    record {
      spelled = IfOk-weaker c.address.result _ _ (λ read. elim read as (λ read. MatchOption read (address text ≡ None) (λ x. address text ≡ Some (optional_address x.0, x.1.now)) →
          MatchOption read (NoAddress text) (λ x. SpellsAddress text x.1.now (optional_address x.0))) [
            | None ↦ no-address text
            | Some x ↦ address-sound text (optional_address x.0, x.1.now)
          ]) c.address.ensures.value;
    }
