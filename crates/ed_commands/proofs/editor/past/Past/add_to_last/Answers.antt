-- The change that was the last one takes the other, or stays before it.
use Rattle.std.proofs.Common.{◌≡◌, ◌+◌, ◌-◌, ◌∙◌, ◌∷◌, ◌++◌, [], ap, arith, length, set, subst, sym}
use Rattle.std.proofs.lemmas.List.{set-get_or}
use Rattle.ed_commands.specs.Earlier.{GlobalWithin, OwnsLast, UndoneWithin, earlier_of, texts_before}
use Rattle.ed_commands.proofs.Kept.{earlier_by, earlier-joined, earlier-pushed}
use Rattle.ed_commands.proofs.editor.past.Past.add_to_last.Goals as goal

pub overflow_sub-last : goal.overflow_sub-last
overflow_sub-last c =
    omega (arith, c.len-last.ensures, c.self.inside.changes.ok.0, c.requires.last.some, ap (λ p. length p.changes) c.self.view_is)

pub index_mut-requires : goal.index_mut-requires
index_mut-requires c =
    omega (arith, c.len-last.ensures, c.self.inside.changes.ok.0, c.requires.last.some, ap (λ p. length p.changes) c.self.view_is)

pub returns-in-Ok : goal.returns-in-Ok
unfolding earlier_of
returns-in-Ok c =
    let e = c.self.inside in
    let changes = e.changes.items in
    let last = c.len-last.result - 1 in
    let own = subst (λ p. OwnsLast p) (sym c.self.view_is) c.requires.last in
    let some = own.some in
    let at : length changes - 1 ≡ last = omega (arith, c.len-last.ensures, e.changes.ok.0) in
    let counted : last + 1 ≡ length changes = omega (arith, c.len-last.ensures, e.changes.ok.0, some) in
    record {
      kept = λ now stands.
          earlier-joined e.undone e.global changes last c.index_mut.result.now c.join.new.self (texts_before c.args.change now) now counted c.index_mut.ensures.value
          (subst (λ n. UndoneWithin n e.undone) at own.undone) (subst (λ n. GlobalWithin n e.global) at own.global) (c.in-Ok.ensures.joined now stands)
          ∙ ap (λ p. earlier_of p (texts_before c.args.change now)) c.self.view_is;
    }

pub returns-in-Err : goal.returns-in-Err
unfolding earlier_of
returns-in-Err c =
    let e = c.self.inside in
    let changes = e.changes.items in
    let last = c.len-last.result - 1 in
    let same : set changes last c.join.new.self ≡ changes =
    ap (set changes last) (c.in-Err.ensures.kept ∙ c.index_mut.ensures.value) ∙ set-get_or changes last c.index_mut.result.now in
    record {
      kept = λ now stands.
          ap (λ t. earlier_by e.undone e.global t now)
          (c.push_reserved.ensures.items ∙ ap (λ t. t ++ c.in-Err.change ∷ []) same ∙ ap (λ k. changes ++ k ∷ []) c.in-Err.ensures.handed_back)
          ∙ earlier-pushed e.undone e.global changes c.args.change now c.self.invariant.0 c.self.invariant.1
          ∙ ap (λ p. earlier_of p (texts_before c.args.change now)) c.self.view_is;
    }
