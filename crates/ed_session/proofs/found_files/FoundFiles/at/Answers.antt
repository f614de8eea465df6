use Rattle.std.proofs.Common.{rules, ◌≡◌, ◌∙◌, ◌<◌, true, nat_eq, length, get_or, sym}
use Rattle.std.specs.Cmp.Lexicographic.{pointwise}
use Rattle.ed_session.proofs.FoundLemmas.{found_here}
use Rattle.ed_session.proofs.found_files.FoundFiles.at.Goals as goal

pub returns-then-eq : goal.returns-then-eq
returns-then-eq c =
    let equal : pointwise nat_eq c.known-item.result.path c.args.path.now ≡ true = search rules in
    let within : c.found.known-index < length c.args.self.now.found.items = search rules in
    let is : c.known-item.result ≡ get_or c.args.self.now.found.items c.found.known-index c.known-item.result = search rules in
    record { value = sym (c.found.invariant ∙ found_here _ _ c.found.known-index c.known-item.result within is equal) }
