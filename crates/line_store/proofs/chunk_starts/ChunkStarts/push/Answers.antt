-- A chunk begins a group, or is a later one of the last group.
use Rattle.std.proofs.Common.{◌≡◌, ◌-◌, ◌/◌, ◌%◌, ◌<◌, ◌≤◌, ◌≢◌, ◌∙◌, [], ◌∷◌, ◌++◌, ap, sym, length, length-append, get_or, arith}
use Rattle.std.proofs.lemmas.List.{get_or_default}
use Rattle.line_store.specs.Starts.{group, in_groups}
use Rattle.line_store.proofs.Grouped.{Begun, Continued, length-groups, begun, continued, group-least}
use Rattle.line_store.proofs.chunk_starts.ChunkStarts.push.Goals as goal

pub push_reserved-requires : goal.push_reserved-requires
push_reserved-requires c =
    let e = c.self.inside in
    omega (
      arith,
      c.requires.room,
      c.self.invariant.used,
      c.if-k-eq0.true,
      length-groups e.groups.items e.within.items,
      ap (λ v. length v.starts) c.self.view_is,
      ap (λ v. v.room) c.self.view_is,
    )

pub push_reserved-requires-then-k-eq0 : goal.push_reserved-requires-then-k-eq0
push_reserved-requires-then-k-eq0 c =
    let e = c.self.inside in
    omega (arith, c.requires.room, length-groups e.groups.items e.within.items, ap (λ v. length v.starts) c.self.view_is, ap (λ v. v.room) c.self.view_is)

pub push_reserved-requires-2 : goal.push_reserved-requires-2
push_reserved-requires-2 c =
    let e = c.self.inside in
    omega (arith, c.requires.room, length-groups e.groups.items e.within.items, ap (λ v. length v.starts) c.self.view_is, ap (λ v. v.room) c.self.view_is)

pub overflow_sub-start : goal.overflow_sub-start
overflow_sub-start c =
    let groups = c.self.inside.groups.items in
    let within = c.self.inside.within.items in
    let long : length within ≡ length c.args.self.now.starts = sym (length-groups groups within) ∙ ap (λ v. length v.starts) c.self.view_is in
    let part : length within % group ≢ 0 = λ e. absurd (omega (arith, c.if-k-eq0.false)) in
    let inside : length within / group < length groups = omega (arith, c.self.invariant.all, c.if-k-eq0.false) in
    let count : c.len-k.result ≡ length within = omega arith in
    let first : c.index-first.result.now ≡ get_or groups (length within / group) 0 =
    c.index-first.ensures ∙ get_or_default groups (c.len-k.result / group) c.index-first.result.now 0 (omega (arith, c.self.invariant.all, c.if-k-eq0.false))
    ∙ ap (λ n. get_or groups (n / group) 0) count in
    omega (
      arith,
      first,
      group-least c.args.start groups within c.self.invariant part (λ k h. let l = c.requires.order k (omega arith) in omega (arith, ap (λ v. get_or v.starts k 0) c.self.view_is)),
    )

pub returns-then-k-eq0-clause-length : goal.returns-then-k-eq0-clause-length
returns-then-k-eq0-clause-length c =
    let groups = c.self.inside.groups.items in
    let within = c.self.inside.within.items in
    omega (
      arith,
      length-groups c.push_reserved.new.self.items c.push_reserved-then-k-eq0.new.self.items,
      ap length c.push_reserved-then-k-eq0.ensures.items,
      length-append within (0 ∷ []),
      length-groups groups within,
      ap (λ v. length v.starts) c.self.view_is,
    )

pub returns-then-k-eq0-clause-last : goal.returns-then-k-eq0-clause-last
returns-then-k-eq0-clause-last c =
    let groups = c.self.inside.groups.items in
    let within = c.self.inside.within.items in
    let start = c.args.start in
    let long : length within ≡ length c.args.self.now.starts = sym (length-groups groups within) ∙ ap (λ v. length v.starts) c.self.view_is in
    let b : Begun start groups within = begun start groups within c.self.invariant (omega (arith, c.if-k-eq0.true)) c.ranges.start.fits in
    ap (λ g. get_or (in_groups g c.push_reserved-then-k-eq0.new.self.items) (length c.args.self.now.starts) 0) c.push_reserved.ensures.items
    ∙ ap (λ w. get_or (in_groups (groups ++ start ∷ []) w) (length c.args.self.now.starts) 0) c.push_reserved-then-k-eq0.ensures.items
    ∙ ap (λ n. get_or (in_groups (groups ++ start ∷ []) (within ++ 0 ∷ [])) n 0) (sym long) ∙ b.last

pub returns-then-k-eq0-clause-earlier : goal.returns-then-k-eq0-clause-earlier
returns-then-k-eq0-clause-earlier c = λ k h.
    let groups = c.self.inside.groups.items in
    let within = c.self.inside.within.items in
    let start = c.args.start in
    let long : length within ≡ length c.args.self.now.starts = sym (length-groups groups within) ∙ ap (λ v. length v.starts) c.self.view_is in
    let b : Begun start groups within = begun start groups within c.self.invariant (omega (arith, c.if-k-eq0.true)) c.ranges.start.fits in
    ap (λ g. get_or (in_groups g c.push_reserved-then-k-eq0.new.self.items) k 0) c.push_reserved.ensures.items
    ∙ ap (λ w. get_or (in_groups (groups ++ start ∷ []) w) k 0) c.push_reserved-then-k-eq0.ensures.items
    ∙ b.earlier k (omega arith) ∙ ap (λ v. get_or v.starts k 0) c.self.view_is

pub returns-clause-length : goal.returns-clause-length
returns-clause-length c =
    let groups = c.self.inside.groups.items in
    let within = c.self.inside.within.items in
    omega (
      arith,
      length-groups groups c.push_reserved-2.new.self.items,
      ap length c.push_reserved-2.ensures.items,
      length-append within ((c.args.start - c.index-first.result.now) ∷ []),
      length-groups groups within,
      ap (λ v. length v.starts) c.self.view_is,
    )

pub returns-clause-last : goal.returns-clause-last
returns-clause-last c =
    let groups = c.self.inside.groups.items in
    let within = c.self.inside.within.items in
    let start = c.args.start in
    let long : length within ≡ length c.args.self.now.starts = sym (length-groups groups within) ∙ ap (λ v. length v.starts) c.self.view_is in
    let part : length within % group ≢ 0 = λ e. absurd (omega (arith, c.if-k-eq0.false)) in
    let count : c.len-k.result ≡ length within = omega arith in
    let first : c.index-first.result.now ≡ get_or groups (length within / group) 0 =
    c.index-first.ensures ∙ get_or_default groups (c.len-k.result / group) c.index-first.result.now 0 (omega (arith, c.self.invariant.all, c.if-k-eq0.false))
    ∙ ap (λ n. get_or groups (n / group) 0) count in
    let low : c.index-first.result.now ≤ start =
    omega (
      arith,
      first,
      group-least start groups within c.self.invariant part (λ k h. let l = c.requires.order k (omega arith) in omega (arith, ap (λ v. get_or v.starts k 0) c.self.view_is)),
    ) in
    let b : Continued start c.index-first.result.now groups within = continued start c.index-first.result.now groups within c.self.invariant part c.ranges.start.fits first low in
    ap (λ w. get_or (in_groups groups w) (length c.args.self.now.starts) 0) c.push_reserved-2.ensures.items
    ∙ ap (λ n. get_or (in_groups groups (within ++ (start - c.index-first.result.now) ∷ [])) n 0) (sym long) ∙ b.last

pub returns-clause-earlier : goal.returns-clause-earlier
returns-clause-earlier c = λ k h.
    let groups = c.self.inside.groups.items in
    let within = c.self.inside.within.items in
    let start = c.args.start in
    let long : length within ≡ length c.args.self.now.starts = sym (length-groups groups within) ∙ ap (λ v. length v.starts) c.self.view_is in
    let part : length within % group ≢ 0 = λ e. absurd (omega (arith, c.if-k-eq0.false)) in
    let count : c.len-k.result ≡ length within = omega arith in
    let first : c.index-first.result.now ≡ get_or groups (length within / group) 0 =
    c.index-first.ensures ∙ get_or_default groups (c.len-k.result / group) c.index-first.result.now 0 (omega (arith, c.self.invariant.all, c.if-k-eq0.false))
    ∙ ap (λ n. get_or groups (n / group) 0) count in
    let low : c.index-first.result.now ≤ start =
    omega (
      arith,
      first,
      group-least start groups within c.self.invariant part (λ k h. let l = c.requires.order k (omega arith) in omega (arith, ap (λ v. get_or v.starts k 0) c.self.view_is)),
    ) in
    let b : Continued start c.index-first.result.now groups within = continued start c.index-first.result.now groups within c.self.invariant part c.ranges.start.fits first low in
    ap (λ w. get_or (in_groups groups w) k 0) c.push_reserved-2.ensures.items
    ∙ b.earlier k (omega arith) ∙ ap (λ v. get_or v.starts k 0) c.self.view_is
