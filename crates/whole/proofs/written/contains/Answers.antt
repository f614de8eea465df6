use Rattle.std.proofs.Common.{rules, ◌≡◌, ◌∙◌, ◌<◌, true, nat_eq, length, get_or, sym}
use Rattle.std.specs.Cmp.Lexicographic.{pointwise}
use Rattle.whole.proofs.PathLemmas.{found-here}
use Rattle.whole.proofs.written.contains.Goals as goal

pub returns-then-eq : goal.returns-then-eq
returns-then-eq c =
    let paths = c.args.paths.now in
    let equal : pointwise nat_eq c.known-item.result c.args.path.now ≡ true = search rules in
    let within : c.paths.known-index < length paths = search rules in
    let is : c.known-item.result ≡ get_or paths c.paths.known-index c.known-item.result = search rules in
    record { value = sym (c.paths.invariant ∙ found-here _ _ c.paths.known-index c.known-item.result within is equal) }
