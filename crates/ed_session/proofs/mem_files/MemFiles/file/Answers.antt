use Rattle.std.proofs.Common.{rules, ◌≡◌, ◌∙◌, ◌<◌, true, nat_eq, length, get_or, ap, sym, Some}
use Rattle.std.specs.Cmp.Lexicographic.{pointwise}
use Rattle.ed_session.proofs.KeptLemmas.{file_here}
use Rattle.ed_session.proofs.mem_files.MemFiles.file.Goals as goal

pub returns-then-eq : goal.returns-then-eq
returns-then-eq c =
    let equal : pointwise nat_eq c.files-item.result.0 c.args.path.now ≡ true = search rules in
    let within : c.files.name-index < length c.args.self.now.files.items = search rules in
    let is : c.files-item.result ≡ get_or c.args.self.now.files.items c.files.name-index c.files-item.result = search rules in
    record { value = ap Some c.as_slice-then-eq.ensures.value ∙ sym (c.files.invariant ∙ file_here _ _ c.files.name-index c.files-item.result within is equal) }
