-- The later chunks of the group begin one line further in it, and the later groups do.
use Rattle.std.proofs.Common.{◌≡◌, ◌+◌, ◌*◌, ◌<◌, ◌∙◌, ap, sym, subst, length, get_or, arith}
use Rattle.line_store.specs.Starts.{group, in_groups, OneMore}
use Rattle.line_store.proofs.Grouped.{Raised, length-groups, get_or-groups, get_or-first, raised-starts, grouped-raised}
use Rattle.line_store.proofs.chunk_starts.ChunkStarts.raise.Goals as goal

pub overflow_sub-len : goal.overflow_sub-len
overflow_sub-len c =
    let e = c.self.inside in
    omega (arith, c.requires.chunk, ap (λ v. length v.starts) c.self.view_is, length-groups e.groups.items e.within.items)

pub overflow_add-k : goal.overflow_add-k
overflow_add-k c =
    let e = c.self.inside in
    omega (arith, c.requires.chunk, c.ranges.k.fits, ap (λ v. length v.starts) c.self.view_is, length-groups e.groups.items e.within.items)

pub raise-requires-clause-order : goal.raise-requires-clause-order
raise-requires-clause-order c =
    let e = c.self.inside in
    omega (arith, c.requires.chunk, c.min.ensures, ap (λ v. length v.starts) c.self.view_is, length-groups e.groups.items e.within.items)

pub raise-requires-clause-within : goal.raise-requires-clause-within
raise-requires-clause-within c =
    let e = c.self.inside in
    omega (arith, c.requires.chunk, c.min.ensures, ap (λ v. length v.starts) c.self.view_is, length-groups e.groups.items e.within.items)

pub raise-requires-2-clause-order : goal.raise-requires-2-clause-order
raise-requires-2-clause-order c =
    let e = c.self.inside in
    omega (
      arith,
      c.requires.chunk,
      c.self.invariant.all,
      ap (λ v. length v.starts) c.self.view_is,
      length-groups e.groups.items e.within.items,
    )

pub raise-requires-clause-fits : goal.raise-requires-clause-fits
raise-requires-clause-fits c = λ m h l.
    let groups = c.self.inside.groups.items in
    let within = c.self.inside.within.items in
    let long : length within ≡ length c.args.self.now.starts = sym (length-groups groups within)
    ∙ ap (λ v. length v.starts) c.self.view_is in
    let inside : m < length within = omega (arith, c.min.ensures) in
    omega (
      arith,
      c.requires.fits m (omega arith) (omega arith),
      ap (λ v. get_or v.starts m 0) c.self.view_is,
      get_or-groups groups within m inside,
    )

pub raise-requires-2-clause-fits : goal.raise-requires-2-clause-fits
raise-requires-2-clause-fits c = λ g h l.
    let groups = c.self.inside.groups.items in
    let within = c.self.inside.within.items in
    let long : length within ≡ length c.args.self.now.starts = sym (length-groups groups within)
    ∙ ap (λ v. length v.starts) c.self.view_is in
    let inside : g < length groups = omega arith in
    let later : c.args.k < group * g = omega arith in
    let start : group * g < length within = omega (arith, c.self.invariant.used) in
    omega (
      arith,
      c.requires.fits (group * g) later (omega arith),
      ap (λ v. get_or v.starts (group * g) 0) c.self.view_is,
      get_or-first groups within g c.self.invariant inside,
    )

pub invariant_of-self : goal.invariant_of-self
invariant_of-self c =
    let groups = c.self.inside.groups.items in
    let within = c.self.inside.within.items in
    let more_groups = c.raise-2.new.numbers.items in
    let more_within = c.raise.new.numbers.items in
    let r : Raised c.args.k (c.args.k + c.min.result) c.len-last.result groups within more_groups more_within = record {
      chunk = omega (
        arith,
        c.requires.chunk,
        ap (λ v. length v.starts) c.self.view_is,
        length-groups groups within,
        c.raise.ensures.raised.long,
      );
      ends = omega (arith, c.min.ensures, c.raise.ensures.raised.long);
      last_is = omega (arith, c.len-last.ensures, c.raise-2.ensures.raised.long);
      all = omega (arith, c.self.invariant.all, c.len-last.ensures, c.raise.ensures.raised.long);
      of_chunks = c.raise.ensures.raised;
      of_groups = c.raise-2.ensures.raised;
    } in
    grouped-raised r c.self.invariant
    (λ m h l. omega (
      arith,
      c.requires.fits m h (omega (arith, length-groups groups within, ap (λ v. length v.starts) c.self.view_is)),
      ap (λ v. get_or v.starts m 0) c.self.view_is,
    ))

pub returns-clause-raised : goal.returns-clause-raised
returns-clause-raised c =
    let groups = c.self.inside.groups.items in
    let within = c.self.inside.within.items in
    let more_groups = c.raise-2.new.numbers.items in
    let more_within = c.raise.new.numbers.items in
    let r : Raised c.args.k (c.args.k + c.min.result) c.len-last.result groups within more_groups more_within = record {
      chunk = omega (
        arith,
        c.requires.chunk,
        ap (λ v. length v.starts) c.self.view_is,
        length-groups groups within,
        c.raise.ensures.raised.long,
      );
      ends = omega (arith, c.min.ensures, c.raise.ensures.raised.long);
      last_is = omega (arith, c.len-last.ensures, c.raise-2.ensures.raised.long);
      all = omega (arith, c.self.invariant.all, c.len-last.ensures, c.raise.ensures.raised.long);
      of_chunks = c.raise.ensures.raised;
      of_groups = c.raise-2.ensures.raised;
    } in
    subst (λ s. OneMore (c.args.k + 1) (length s) s (in_groups more_groups more_within)) (ap (λ v. v.starts) c.self.view_is)
    (raised-starts r (length (in_groups groups within)) (length-groups groups within))
