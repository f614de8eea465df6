use Rattle.std.proofs.Common.{ℕ, List, refl, subst, sym}
use Rattle.zones.specs.Steps.{any_zone}
use Rattle.ed_rules.specs.Formed.{ZoneIsFormed}
use Rattle.cert_check.specs.text.Text.{zone_line}
use Rattle.cert_check.specs.text.Reading.{ReadsAs, all_marks}
use Rattle.cert_check.specs.text.Wanted.{key}
use Rattle.cert_check.proofs.texts.Plainest.{any-formed}
use Rattle.cert_check.specs.text.Pieces.{Left, IsNext, same}
use Rattle.cert_check.proofs.texts.Pieces.{line-none, line-itself, alone-begun}
use Rattle.cert_check.proofs.texts.Keyed.{zone-keyed}
use Rattle.cert_check.proofs.text.readers.read_zone.Goals as goal

pub returns-in_err-line : goal.returns-in_err-line
returns-in_err-line c = record {
  exact =
      line-none same (zone_line (key c.args.kind)) (ZoneIsFormed all_marks) any_zone c.args.cursor.now c.line.new.self c.from_residual.result c.in_err-line.field-0.0 (any-formed all_marks refl)
      c.from_residual.ensures.1 c.in_err-line.ensures.none;
}

pub returns : goal.returns
returns c =
    let line = c.in_ok-line.line.now in
    let next = subst (λ (left : Left). IsNext line c.args.cursor.now left) (sym c.zone_in.ensures.same) c.in_ok-line.ensures.next in
    record {
      exact =
          line-itself (zone_line (key c.args.kind)) (ZoneIsFormed all_marks) any_zone c.args.kind c.args.cursor.now c.zone_in.new.self line c.in_ok-zone.zone c.read_as.result (any-formed all_marks refl) (zone-keyed c.args.kind)
          (alone-begun (zone_line (key c.args.kind)) (ZoneIsFormed all_marks) any_zone c.args.kind (any-formed all_marks refl) c.requires.alone (zone-keyed c.args.kind))
          next (subst (λ (k : List ℕ). ReadsAs (zone_line k) (ZoneIsFormed all_marks) line c.in_ok-zone.zone) c.key.ensures.value c.in_ok-zone.ensures.exact) c.read_as.ensures.exact;
    }
