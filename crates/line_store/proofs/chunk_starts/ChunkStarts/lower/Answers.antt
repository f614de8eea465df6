-- The later chunks of the group begin one line earlier in it, and the later groups do.
use Rattle.std.proofs.Common.{◌≡◌, ◌+◌, ◌*◌, ◌<◌, ◌∙◌, ap, sym, subst, length, get_or, arith}
use Rattle.line_store.specs.Starts.{group, in_groups, OneMore}
use Rattle.line_store.proofs.Grouped.{Raised, length-groups, get_or-first, raised-starts, some-within, grouped-lowered}
use Rattle.line_store.proofs.chunk_starts.ChunkStarts.lower.Goals as goal

pub overflow_sub-len : goal.overflow_sub-len
overflow_sub-len c =
    let e = c.self.inside in
    omega (arith, c.requires.chunk, ap (λ v. length v.starts) c.self.view_is, length-groups e.groups.items e.within.items)

pub overflow_add-k : goal.overflow_add-k
overflow_add-k c =
    let e = c.self.inside in
    omega (arith, c.requires.chunk, c.ranges.k.fits, ap (λ v. length v.starts) c.self.view_is, length-groups e.groups.items e.within.items)

pub lower-requires-clause-order : goal.lower-requires-clause-order
lower-requires-clause-order c =
    let e = c.self.inside in
    omega (arith, c.requires.chunk, c.min.ensures, ap (λ v. length v.starts) c.self.view_is, length-groups e.groups.items e.within.items)

pub lower-requires-clause-within : goal.lower-requires-clause-within
lower-requires-clause-within c =
    let e = c.self.inside in
    omega (arith, c.requires.chunk, c.min.ensures, ap (λ v. length v.starts) c.self.view_is, length-groups e.groups.items e.within.items)

pub lower-requires-2-clause-order : goal.lower-requires-2-clause-order
lower-requires-2-clause-order c =
    let e = c.self.inside in
    omega (
      arith,
      c.requires.chunk,
      c.self.invariant.all,
      ap (λ v. length v.starts) c.self.view_is,
      length-groups e.groups.items e.within.items,
    )

pub lower-requires-clause-some : goal.lower-requires-clause-some
lower-requires-clause-some c = λ m h l.
    let groups = c.self.inside.groups.items in
    let within = c.self.inside.within.items in
    let k = c.args.k in
    let long : length within ≡ length c.args.self.now.starts = sym (length-groups groups within)
    ∙ ap (λ v. length v.starts) c.self.view_is in
    let inside : m < length within = omega (arith, c.min.ensures) in
    some-within k (k + c.min.result) m groups within (omega (arith, c.min.ensures)) h l
    (omega (
      arith,
      c.requires.more m (omega arith) (omega arith),
      ap (λ v. get_or v.starts m 0) c.self.view_is,
      ap (λ v. get_or v.starts k 0) c.self.view_is,
    ))

pub lower-requires-2-clause-some : goal.lower-requires-2-clause-some
lower-requires-2-clause-some c = λ g h l.
    let groups = c.self.inside.groups.items in
    let within = c.self.inside.within.items in
    let long : length within ≡ length c.args.self.now.starts = sym (length-groups groups within)
    ∙ ap (λ v. length v.starts) c.self.view_is in
    let inside : g < length groups = omega arith in
    let later : c.args.k < group * g = omega arith in
    let start : group * g < length within = omega (arith, c.self.invariant.used) in
    omega (
      arith,
      c.requires.more (group * g) later (omega arith),
      ap (λ v. get_or v.starts (group * g) 0) c.self.view_is,
      get_or-first groups within g c.self.invariant inside,
    )

pub invariant_of-self : goal.invariant_of-self
invariant_of-self c =
    let groups = c.self.inside.groups.items in
    let within = c.self.inside.within.items in
    let fewer_groups = c.lower-2.new.numbers.items in
    let fewer_within = c.lower.new.numbers.items in
    let r : Raised c.args.k (c.args.k + c.min.result) c.len-last.result fewer_groups fewer_within groups within = record {
      chunk = omega (
        arith,
        c.requires.chunk,
        ap (λ v. length v.starts) c.self.view_is,
        length-groups groups within,
        c.lower.ensures.lowered.long,
      );
      ends = omega (arith, c.min.ensures, c.lower.ensures.lowered.long);
      last_is = omega (arith, c.len-last.ensures, c.lower-2.ensures.lowered.long);
      all = omega (arith, c.self.invariant.all, c.len-last.ensures, c.lower.ensures.lowered.long);
      of_chunks = c.lower.ensures.lowered;
      of_groups = c.lower-2.ensures.lowered;
    } in
    grouped-lowered r c.self.invariant

pub returns-clause-lowered : goal.returns-clause-lowered
returns-clause-lowered c =
    let groups = c.self.inside.groups.items in
    let within = c.self.inside.within.items in
    let fewer_groups = c.lower-2.new.numbers.items in
    let fewer_within = c.lower.new.numbers.items in
    let r : Raised c.args.k (c.args.k + c.min.result) c.len-last.result fewer_groups fewer_within groups within = record {
      chunk = omega (
        arith,
        c.requires.chunk,
        ap (λ v. length v.starts) c.self.view_is,
        length-groups groups within,
        c.lower.ensures.lowered.long,
      );
      ends = omega (arith, c.min.ensures, c.lower.ensures.lowered.long);
      last_is = omega (arith, c.len-last.ensures, c.lower-2.ensures.lowered.long);
      all = omega (arith, c.self.invariant.all, c.len-last.ensures, c.lower.ensures.lowered.long);
      of_chunks = c.lower.ensures.lowered;
      of_groups = c.lower-2.ensures.lowered;
    } in
    subst (λ s. OneMore (c.args.k + 1) (length s) (in_groups fewer_groups fewer_within) s) (ap (λ v. v.starts) c.self.view_is)
    (raised-starts r (length (in_groups groups within)) (length-groups groups within ∙ c.lower.ensures.lowered.long))
