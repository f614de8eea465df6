use Rattle.std.proofs.Common.{◌<◌, length, arith, refl, ◌∙◌, subst}
use Rattle.std.proofs.lemmas.List.{get_or_default}
use Rattle.bre_match.specs.ByteKinds.{AreAlike}
use Rattle.bre_match.proofs.witnesses.ByteKinds.{stands_last}
use Rattle.bre_match.proofs.witness.byte_kinds.take_byte.Goals as goal

pub returns-then-are_alike-clause-stands : goal.returns-then-are_alike-clause-stands
returns-then-are_alike-clause-stands c =
    let lt : c.args.place < length c.args.bytes.now.items = omega arith in (
      c.args.place,
      lt,
      subst (λ z. AreAlike c.args.answers.now c.args.byte z)
          (c.index.ensures ∙ get_or_default c.args.bytes.now.items c.args.place c.index.result.now 0 lt) (c.if-are_alike.ensures.sound refl),
    )

pub returns-in_ok-push-in-None-clause-stands : goal.returns-in_ok-push-in-None-clause-stands
returns-in_ok-push-in-None-clause-stands c =
    stands_last c.args.answers.now c.args.bytes.now.items c.push.new.self.items c.args.byte c.in_ok-push-in-None.ensures.items
