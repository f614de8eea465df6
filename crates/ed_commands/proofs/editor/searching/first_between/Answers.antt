-- Lines that are passed over don't match, and the one that comes next is looked at.
use Rattle.std.proofs.Common.{◌≡◌, ◌+◌, ◌-◌, ◌∙◌, ℕ, List, [], Ok, ap, get_or, refl, subst, sym, arith}
use Rattle.std.specs.Prelude.{find, is_some}
use Rattle.bre_parse.specs.Match.{match_from}
use Rattle.bre_match.specs.Passing.{NeedsWord}
use Rattle.bre_match.specs.Searchers.{searched}
use Rattle.ed_base.specs.Buffer.{plain_line, texts}
use Rattle.ed_syntax.specs.meaning.Values.{count_from, matches_line}
use Rattle.ed_commands.specs.Courses.{NoneFrom, end_of}
use Rattle.ed_commands.proofs.Courses.{where-none}
use Rattle.ed_commands.proofs.Searching.{fails-line, find-here, find-none, find-past, handed, text-at, told-line}
use Rattle.ed_commands.proofs.editor.searching.first_between.Goals as goal

pub lines-init : goal.lines-init
lines-init g c =
    let lines = g.S.LineStore.lines c.args.store.now in
    record {
      left = λ text is. ap (λ a. find (matches_line text lines) (count_from (a + 1) (c.args.to - a))) (sym c.of-course.ensures.from);
      end = c.of-course.ensures.to;
      over = c.of-course.ensures.over;
      needs = subst (NeedsWord (searched c.args.searcher.now)) (sym c.of-course.ensures.word) c.needed_word-word.ensures.needed;
      searches = refl;
    }

pub returns-then-matched : goal.returns-then-matched
returns-then-matched g c =
    let lines = g.S.LineStore.lines c.args.store.now in
    let tree = searched c.args.searcher.now in
    let s = c.lines.course in
    let k = c.in-Some.line.place in
    let told = c.lines.invariant in
    let fails = c.in-Some.ensures.passed tree (texts lines) told.needs told.over in
    let same = handed (λ t. t.now) c.in-Some.line.text c.text_in.result.now (get_or lines k (plain_line [])).bytes (get_or (texts lines) k []) c.text_in.ensures.value
    (c.in-Some.ensures.text (texts lines) told.over) (text-at lines k) in
    record {
      value = λ text is.
          sym (told.left text is
          ∙ find-here (matches_line text lines) s.at k c.args.to (c.in-Some.ensures.order.0) (omega (arith, c.in-Some.ensures.order.1, told.end))
          (fails-line text tree lines s.at k is fails)
          (told-line text tree lines k c.text_in.result.now c.in_ok-matched.matched is same
          (c.in_ok-matched.ensures.value ∙ ap (λ t. is_some (match_from t c.text_in.result.now 0)) told.searches)
          ∙ c.if-matched.true));
      pattern = c.in_ok-matched.ensures.pattern ∙ told.searches;
    }

pub lines-preserved : goal.lines-preserved
lines-preserved g c =
    let lines = g.S.LineStore.lines c.args.store.now in
    let tree = searched c.args.searcher.now in
    let s = c.lines.course in
    let k = c.in-Some.line.place in
    let told = c.lines.invariant in
    let fails = c.in-Some.ensures.passed tree (texts lines) told.needs told.over in
    let same = handed (λ t. t.now) c.in-Some.line.text c.text_in.result.now (get_or lines k (plain_line [])).bytes (get_or (texts lines) k []) c.text_in.ensures.value
    (c.in-Some.ensures.text (texts lines) told.over) (text-at lines k) in
    record {
      left = λ text is.
          told.left text is
          ∙ find-past (matches_line text lines) s.at k c.args.to (c.in-Some.ensures.order.0) (omega (arith, c.in-Some.ensures.order.1, told.end))
          (fails-line text tree lines s.at k is fails)
          (told-line text tree lines k c.text_in.result.now c.in_ok-matched.matched is same
          (c.in_ok-matched.ensures.value ∙ ap (λ t. is_some (match_from t c.text_in.result.now 0)) told.searches)
          ∙ c.if-matched.false)
          ∙ ap (λ a. find (matches_line text lines) (count_from (a + 1) (c.args.to - a))) (sym c.in-Some.ensures.order.2);
      end = c.in-Some.ensures.end ∙ told.end;
      over = c.in-Some.ensures.over (texts lines) told.over;
      needs = subst (NeedsWord tree) (sym c.in-Some.ensures.word) told.needs;
      searches = c.in_ok-matched.ensures.pattern ∙ told.searches;
    }

pub returns : goal.returns
returns g c =
    let lines = g.S.LineStore.lines c.args.store.now in
    let tree = searched c.args.searcher.now in
    let s = c.lines.course in
    let told = c.lines.invariant in
    let none = where-none c.next_line.result (NoneFrom tree (texts lines) s.at (end_of s)) c.in_default.is (c.next_line.ensures.none tree (texts lines) told.needs told.over) in
    record {
      value = λ text is.
          sym (told.left text is
          ∙ find-none (matches_line text lines) s.at c.args.to (omega (arith, told.end, s.order))
          (fails-line text tree lines s.at c.args.to is (λ i low high. none i low (omega (arith, high, told.end)))));
      pattern = told.searches;
    }
