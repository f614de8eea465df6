-- Where no line has the flag, none of these has it.
use Rattle.std.proofs.Common.{◌≡◌, sym, ap, arith}
use Rattle.line_store.specs.Kept.{flag_count}
use Rattle.line_store.proofs.Taken.{flags-block}
use Rattle.line_store.proofs.kept.Store.flags_among.Goals as goal

pub returns-then-self-eq0 : goal.returns-then-self-eq0
returns-then-self-eq0 g c =
    let none : flag_count c.args.self.now.items ≡ 0 = omega (arith, c.self.invariant.2, ap (λ v. flag_count v.items) c.self.view_is, c.if-self-eq0.true) in
    record { value = sym (flags-block c.args.from c.args.to c.args.self.now.items c.requires.order none) }
