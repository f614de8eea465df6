-- A chunk's group is one of the groups.
use Rattle.std.proofs.Common.{◌≡◌, ◌/◌, ◌<◌, ◌∙◌, ap, length, get_or, arith}
use Rattle.std.proofs.lemmas.List.{get_or_default}
use Rattle.line_store.specs.Starts.{group}
use Rattle.line_store.proofs.Grouped.{length-groups, get_or-groups}
use Rattle.line_store.proofs.chunk_starts.ChunkStarts.start.Goals as goal

pub index-requires : goal.index-requires
index-requires c =
    let e = c.self.inside in
    omega (arith, c.requires.chunk, ap (λ v. length v.starts) c.self.view_is, length-groups e.groups.items e.within.items, c.self.invariant.all)

pub index-requires-2 : goal.index-requires-2
index-requires-2 c =
    let e = c.self.inside in
    omega (arith, c.requires.chunk, ap (λ v. length v.starts) c.self.view_is, length-groups e.groups.items e.within.items)

pub overflow_add-result : goal.overflow_add-result
overflow_add-result c =
    let e = c.self.inside in
    let k = c.args.k in
    let inner : k < length e.within.items = omega (arith, c.requires.chunk, ap (λ v. length v.starts) c.self.view_is, length-groups e.groups.items e.within.items) in
    let outer : k / group < length e.groups.items = omega (arith, c.self.invariant.all) in
    let first : c.index.result.now ≡ get_or e.groups.items (k / group) 0 = c.index.ensures ∙ get_or_default e.groups.items (k / group) c.index.result.now 0 outer in
    let more : c.index-2.result.now ≡ get_or e.within.items k 0 = c.index-2.ensures ∙ get_or_default e.within.items k c.index-2.result.now 0 inner in
    omega (arith, first, more, c.self.invariant.fits k inner)

pub returns : goal.returns
returns c =
    let e = c.self.inside in
    let k = c.args.k in
    let inner : k < length e.within.items = omega (arith, c.requires.chunk, ap (λ v. length v.starts) c.self.view_is, length-groups e.groups.items e.within.items) in
    let outer : k / group < length e.groups.items = omega (arith, c.self.invariant.all) in
    let first : c.index.result.now ≡ get_or e.groups.items (k / group) 0 = c.index.ensures ∙ get_or_default e.groups.items (k / group) c.index.result.now 0 outer in
    let more : c.index-2.result.now ≡ get_or e.within.items k 0 = c.index-2.ensures ∙ get_or_default e.within.items k c.index-2.result.now 0 inner in
    record { value = omega (arith, first, more, get_or-groups e.groups.items e.within.items k inner, ap (λ v. get_or v.starts k 0) c.self.view_is) }
