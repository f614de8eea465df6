-- Lines that are passed over don't match, and stay without the flag.
use Rattle.std.proofs.Common.{◌≡◌, ◌+◌, ◌<◌, ◌≤◌, ◌∙◌, ℕ, List, [], Ok, ap, length, get_or, map, refl, subst, sym, true, arith}
use Rattle.std.specs.Prelude.{is_some}
use Rattle.std.proofs.Math.ListN.{length-set}
use Rattle.bre_parse.specs.Match.{match_from}
use Rattle.bre_match.specs.Passing.{NeedsWord}
use Rattle.bre_match.specs.Searchers.{searched}
use Rattle.ed_base.specs.Buffer.{flagged_at, plain_line, texts, with_flag}
use Rattle.ed_base.specs.Parts.{block, exchanged}
use Rattle.ed_syntax.specs.declared.command.Sense.TheVariants.{Matching}
use Rattle.ed_syntax.specs.meaning.Globals.{flagged_line}
use Rattle.ed_commands.specs.Courses.{GoesOver, NoneFrom, end_of}
use Rattle.ed_commands.proofs.Courses.{where-none}
use Rattle.ed_commands.proofs.Globals.{flag-matched, none-flagged-yet, skip-unmatched, unmatched-passed}
use Rattle.ed_commands.proofs.Searching.{handed, text-at}
use Rattle.ed_commands.proofs.Texts.{texts-flagged_at}
use Rattle.ed_commands.proofs.editor.globals.flag_matching.Goals as goal

pub lines-init : goal.lines-init
lines-init g c =
    let lines = g.S.LineStore.lines in
    let old = lines c.args.store.now in
    let now = lines c.uncut_lines.new.store in
    let same : now ≡ old = c.in_ok-uncut.ensures.unchanged in
    let course = c.of-course.result in
    record {
      flagged = λ text is. same ∙ sym (none-flagged-yet Matching text c.args.from course.at old c.of-course.ensures.from);
      count = ap length same;
      same = ap texts same;
      begun = omega (arith, c.of-course.ensures.from);
      end = c.of-course.ensures.to;
      over = subst (λ t. GoesOver course (texts t)) same c.of-course.ensures.over;
      needs = subst (NeedsWord (searched c.args.searcher.now)) (sym c.of-course.ensures.word) c.needed_word-word.ensures.needed;
      searches = refl;
    }

pub lines-preserved : goal.lines-preserved
lines-preserved g c =
    let lines = g.S.LineStore.lines in
    let old = lines c.args.store.now in
    let now = lines c.lines.store in
    let from = c.args.from in
    let tree = searched c.args.searcher.now in
    let k = c.in-Some.line.place in
    let text = c.text_in.result.now in
    let told = c.lines.invariant in
    let inside : k < length old = omega (arith, c.in-Some.ensures.order, told.end, c.requires.last) in
    let same : text ≡ get_or (texts old) k [] =
    handed (λ t. t.now) c.in-Some.line.text text (get_or now k (plain_line [])).bytes (get_or (texts old) k []) c.text_in.ensures.value
    (c.in-Some.ensures.text (texts old) told.over) (text-at now k ∙ ap (λ t. get_or t k []) told.same) in
    let fails = sym c.if-matched.false ∙ c.in_ok-matched.ensures.value ∙ ap (λ t. is_some (match_from t text 0)) told.searches in
    record {
      flagged = λ pattern is.
          skip-unmatched pattern tree from c.lines.course.at k old now text is told.begun c.in-Some.ensures.order.0 inside c.requires.unflagged
          (c.in-Some.ensures.passed tree (texts old) told.needs told.over) same fails (told.flagged pattern is)
          ∙ ap (λ i. exchanged from i (map (flagged_line Matching pattern) (block from i old)) old) (sym c.in-Some.ensures.order.2);
      count = told.count;
      same = told.same;
      begun = omega (arith, told.begun, c.in-Some.ensures.order);
      end = c.in-Some.ensures.end ∙ told.end;
      over = c.in-Some.ensures.over (texts old) told.over;
      needs = subst (NeedsWord tree) (sym c.in-Some.ensures.word) told.needs;
      searches = c.in_ok-matched.ensures.pattern ∙ told.searches;
    }

-- one that matches has the flag then
pub lines-preserved-in-Continue-branch-3 : goal.lines-preserved-in-Continue-branch-3
lines-preserved-in-Continue-branch-3 g c =
    let lines = g.S.LineStore.lines in
    let old = lines c.args.store.now in
    let now = lines c.lines.store in
    let from = c.args.from in
    let tree = searched c.args.searcher.now in
    let k = c.in-Some.line.place in
    let text = c.text_in.result.now in
    let told = c.lines.invariant in
    let inside : k < length old = omega (arith, c.in-Some.ensures.order, told.end, c.requires.last) in
    let same : text ≡ get_or (texts old) k [] =
    handed (λ t. t.now) c.in-Some.line.text text (get_or now k (plain_line [])).bytes (get_or (texts old) k []) c.text_in.ensures.value
    (c.in-Some.ensures.text (texts old) told.over) (text-at now k ∙ ap (λ t. get_or t k []) told.same) in
    let passes = sym c.if-matched.true ∙ c.in_ok-matched.ensures.value ∙ ap (λ t. is_some (match_from t text 0)) told.searches in
    let after = c.in_ok-flag.ensures.flagged in
    record {
      flagged = λ pattern is.
          after
          ∙ flag-matched pattern tree from c.lines.course.at k old now text is told.begun c.in-Some.ensures.order.0 inside c.requires.unflagged
          (c.in-Some.ensures.passed tree (texts old) told.needs told.over) told.same same passes (told.flagged pattern is)
          ∙ ap (λ i. exchanged from i (map (flagged_line Matching pattern) (block from i old)) old) (sym c.in-Some.ensures.order.2);
      count = ap length after ∙ length-set now k (with_flag true (get_or now k (plain_line []))) ∙ told.count;
      same = ap texts after ∙ texts-flagged_at k true now ∙ told.same;
      begun = omega (arith, told.begun, c.in-Some.ensures.order);
      end = c.in-Some.ensures.end ∙ told.end;
      over = c.in-Some.ensures.over (texts old) told.over;
      needs = subst (NeedsWord tree) (sym c.in-Some.ensures.word) told.needs;
      searches = c.in_ok-matched.ensures.pattern ∙ told.searches;
    }

pub returns : goal.returns
returns g c =
    let lines = g.S.LineStore.lines in
    let old = lines c.args.store.now in
    let tree = searched c.args.searcher.now in
    let s = c.lines.course in
    let told = c.lines.invariant in
    let none = where-none c.next_line.result (NoneFrom tree (texts old) s.at (end_of s)) c.in_default.is (c.next_line.ensures.none tree (texts old) told.needs told.over) in
    record {
      flagged = λ text is.
          told.flagged text is
          ∙ unmatched-passed text tree c.args.from s.at c.args.to old is told.begun (omega (arith, told.end, s.order)) c.requires.last c.requires.unflagged
          (λ i low high. none i low (omega (arith, high, told.end)));
      count = told.count;
      pattern = told.searches;
    }
