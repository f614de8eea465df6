use Rattle.std.proofs.Common.{◌≡◌, ℕ, true, false, cond, List, [], ◌∷◌, ◌++◌, nat_eq, sym, ap, ◌∙◌}
use Rattle.std.specs.Cmp.Lexicographic.{pointwise}
use Rattle.std.specs.HashSet.{contains}
use Rattle.std.specs.List.{list_any}
use Rattle.std.specs.Str.{bytes_eq}
use Rattle.std.proofs.lemmas.Bool.{not-true}
use Rattle.ed_main.proofs.FirstPaths.{has, has-push, path_is_new, path_is_old, not-false}
use Rattle.ed_main.proofs.diffs.written_paths.Goals as goal
use Rattle.ed_main.proofs.diffs.written_paths.Goals.{then-branch+in_ok-try_copy+in_ok-push, else-branch}

pub loop-write-preserved : goal.loop-write-preserved
loop-write-preserved c =
    let paths : List (List ℕ) = c.loop-write.paths.items in
    let path : List ℕ = c.write-item.result.path in
    let has_one : contains (λ x y. pointwise nat_eq x.now y.now) c.loop-write.seen c.as_slice.result ≡ has paths path =
    c.loop-write.invariant.seen c.as_slice.result ∙ ap (λ one. has paths one) c.as_slice.ensures.value in
    elim c.if-branch.branch [
      | then-branch+in_ok-try_copy+in_ok-push w ↦
          let none : has paths path ≡ false = sym has_one ∙ not-true _ (sym c.in_ok-insert.ensures.added ∙ w.if-branch.true) in
          let more : c.if-branch.paths.items ≡ paths ++ path ∷ [] =
          ap (λ v. v.items) w.paths-is ∙ w.in_ok-push.ensures.items ∙ ap (λ one. paths ++ one ∷ []) w.in_ok-try_copy.ensures.value in
          record {
            paths =
                more
                ∙ path_is_new c.args.writes.now c.loop-write.write-index c.write-item.result paths c.loop-write-test.true c.write-item.is
                c.loop-write.invariant.paths none;
            seen = λ q.
                has-push paths path q.now _ _ (c.loop-write.invariant.seen q)
                (c.in_ok-insert.ensures.updates.0 q
                ∙ ap (λ one. cond (bytes_eq one q.now) true (contains (λ x y. pointwise nat_eq x.now y.now) c.loop-write.seen q)) c.as_slice.ensures.value)
                ∙ ap (λ all. has all q.now) (sym more);
          }
      | else-branch w ↦
          let one : has paths path ≡ true = sym has_one ∙ not-false _ (sym c.in_ok-insert.ensures.added ∙ w.if-branch.false) in
          let same : c.if-branch.paths.items ≡ paths = ap (λ v. v.items) w.paths-is in
          let kept = rw w.if-branch.false at c.in_ok-insert.ensures.unchanged in
          record {
            paths =
                same
                ∙ path_is_old c.args.writes.now c.loop-write.write-index c.write-item.result paths c.loop-write-test.true c.write-item.is
                c.loop-write.invariant.paths one;
            seen = λ q.
                ap (λ keys. list_any (λ k. pointwise nat_eq q.now k.now) keys) kept ∙ c.loop-write.invariant.seen q ∙ ap (λ all. has all q.now) (sym same);
          }
    ]
