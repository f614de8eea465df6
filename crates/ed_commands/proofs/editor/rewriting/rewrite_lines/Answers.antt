-- One more line stays, or gives way to those that come of it.
use Rattle.std.proofs.Common.{◌≡◌, ◌<◌, ◌≤◌, ◌+◌, ◌-◌, ◌∙◌, [], not, true, false, None, Some, option_map, map, length, get_or, sym, ap, subst, arith, rules}
use Rattle.std.specs.Prelude.{is_some, Ok}
use Rattle.std.proofs.lemmas.List.{length-append}
use Rattle.bre_parse.specs.Grammar.{pattern}
use Rattle.bre_match.specs.Passing.{NeedsWord}
use Rattle.bre_match.specs.Searchers.{searched}
use Rattle.ed_base.specs.Buffer.{plain_line, texts}
use Rattle.ed_base.specs.Parts.{block, exchanged}
use Rattle.ed_syntax.specs.meaning.SubstitutedLines.{each, made_of}
use Rattle.ed_commands.specs.Courses.{GoesOver, NoneFrom, end_of, word_of}
use Rattle.ed_commands.specs.Earlier.{earlier_of, kept_lines}
use Rattle.ed_commands.proofs.Courses.{where-none}
use Rattle.ed_commands.proofs.Rewritten.{Come, come-goes, come-none, come-over, come-stays, counted, first-change, new-made, next-line, none-kept, some-kept, some-made, stands-at, when-none}
use Rattle.ed_commands.proofs.Searching.{handed, text-at}
use Rattle.ed_commands.proofs.editor.rewriting.rewrite_lines.Goals as goal
use Rattle.ed_commands.proofs.editor.rewriting.rewrite_lines.Goals.{then-is_none, else-is_none}

pub lines-init : goal.lines-init
lines-init g c =
    let old = g.S.LineStore.lines c.args.store.now in
    let from = c.args.span.first - 1 in
    let f = made_of c.args.pattern.now c.args.replacement.now c.args.which.now in
    let now = g.S.LineStore.lines c.uncut_lines.new.store in
    let course = c.of-course.result in
    let same : now ≡ old = c.in_ok-uncut.ensures.unchanged in
    let come = come-none f from course.at old now c.of-course.ensures.from same in
    record {
      put = come.put;
      long = counted from course.at (each f (block from course.at old)).0 old now (omega (arith, c.of-course.ensures.from))
          (omega (arith, c.of-course.ensures.from, c.requires.last, c.requires.order, c.requires.first)) come.put;
      made = come.told;
      kept = ap (λ t. earlier_of c.args.past.now (texts t)) same;
      untouched = same;
      within = search rules;
      no_fewer = omega (arith, ap length same);
      searches = ap pattern (sym c.take_learned-learned.ensures.kept) ∙ c.searcher-searcher.ensures.searches;
      begun = omega (arith, c.of-course.ensures.from);
      end = c.of-course.ensures.to;
      over = subst (λ t. GoesOver course (texts t)) same c.of-course.ensures.over;
      needs = subst (NeedsWord (searched c.searcher-searcher.result)) (sym c.of-course.ensures.word) c.needed_word-word.ensures.needed;
    }

pub rewrite_line-requires-clause-new : goal.rewrite_line-requires-clause-new
rewrite_line-requires-clause-new g c =
    let f = made_of c.args.pattern.now c.args.replacement.now c.args.which.now in
    new-made (f c.text_in-text.result.now) c.in-Some-new.lines.items
    (subst (λ made. option_map (λ lines. lines.items) made ≡ option_map (map plain_line) (f c.text_in-text.result.now)) c.in-Some-new.is
    (c.in_ok-new.ensures.value c.args.pattern.now c.lines.invariant.searches))

pub lines-preserved-in_default-new : goal.lines-preserved-in_default-new
lines-preserved-in_default-new g c =
    let old = g.S.LineStore.lines c.args.store.now in
    let now = g.S.LineStore.lines c.lines.store in
    let from = c.args.span.first - 1 in
    let i = c.lines.course.at in
    let k = c.in-Some.line.place in
    let tree = searched c.lines.searcher in
    let text = c.args.pattern.now in
    let f = made_of text c.args.replacement.now c.args.which.now in
    let d = plain_line [] in
    let was = c.lines.invariant in
    let first : i ≤ k = c.in-Some.ensures.order.0 in
    let begun : from ≤ k = omega (arith, was.begun) in
    let below : k < length old = omega (arith, c.in-Some.ensures.order, was.end, c.requires.last) in
    let come = come-over text tree c.args.replacement.now c.args.which.now from i k old now c.lines.made was.searches was.begun first (omega arith)
    (c.in-Some.ensures.passed tree (texts old) was.needs was.over) (record { put = was.put; told = was.made }) in
    let r = each f (block from k old) in
    let place = c.len.result - (c.len-count.result - k) in
    let at : place ≡ from + length r.0 = stands-at from k c.len-count.result c.len.result r.0 old now begun below come.put c.len-count.ensures.value c.len.ensures.value in
    let line = handed (λ t. t.now) c.in-Some.line.text c.text_in-text.result.now (get_or now place d).bytes (get_or (texts old) k []) c.text_in-text.ensures.value
    (c.in-Some.ensures.text (texts old) was.over) (ap (λ l. l.bytes) (next-line from k place r.0 old now d begun below come.put at) ∙ text-at old k) in
    let told : None ≡ option_map (map plain_line) (f (get_or old k d).bytes) =
    subst (λ made. option_map (λ lines. lines.items) made ≡ option_map (map plain_line) (f c.text_in-text.result.now)) c.in_default-new.is
    (c.in_ok-new.ensures.value text was.searches)
    ∙ ap (λ t. option_map (map plain_line) (f t)) (line ∙ sym (text-at old k)) in
    let next = subst (λ n. Come f from n old now c.lines.made) (sym c.in-Some.ensures.order.2) (come-stays f from k old now c.lines.made begun below come told) in
    let n = c.next_line.new.self.at in
    record {
      put = next.put;
      long = counted from n (each f (block from n old)).0 old now (omega (arith, begun, c.in-Some.ensures.order)) (omega (arith, below, c.in-Some.ensures.order)) next.put;
      made = next.told;
      kept = was.kept;
      untouched = was.untouched;
      within = was.within;
      no_fewer = was.no_fewer;
      searches = was.searches ∙ ap Ok (sym c.in_ok-new.ensures.pattern);
      begun = omega (arith, begun, c.in-Some.ensures.order);
      end = c.in-Some.ensures.end ∙ was.end;
      over = c.in-Some.ensures.over (texts old) was.over;
      needs = subst (λ t. NeedsWord t (word_of c.next_line.new.self)) (sym c.in_ok-new.ensures.pattern) (subst (NeedsWord tree) (sym c.in-Some.ensures.word) was.needs);
    }

pub lines-preserved : goal.lines-preserved
lines-preserved g c =
    let old = g.S.LineStore.lines c.args.store.now in
    let now = g.S.LineStore.lines c.lines.store in
    let after = g.S.LineStore.lines c.rewrite_line.new.store in
    let from = c.args.span.first - 1 in
    let i = c.lines.course.at in
    let k = c.in-Some.line.place in
    let tree = searched c.lines.searcher in
    let text = c.args.pattern.now in
    let f = made_of text c.args.replacement.now c.args.which.now in
    let d = plain_line [] in
    let new = c.in-Some-new.lines.items in
    let was = c.lines.invariant in
    let first : i ≤ k = c.in-Some.ensures.order.0 in
    let begun : from ≤ k = omega (arith, was.begun) in
    let below : k < length old = omega (arith, c.in-Some.ensures.order, was.end, c.requires.last) in
    let come = come-over text tree c.args.replacement.now c.args.which.now from i k old now c.lines.made was.searches was.begun first (omega arith)
    (c.in-Some.ensures.passed tree (texts old) was.needs was.over) (record { put = was.put; told = was.made }) in
    let r = each f (block from k old) in
    let place = c.len.result - (c.len-count.result - k) in
    let at : place ≡ from + length r.0 = stands-at from k c.len-count.result c.len.result r.0 old now begun below come.put c.len-count.ensures.value c.len.ensures.value in
    let line = handed (λ t. t.now) c.in-Some.line.text c.text_in-text.result.now (get_or now place d).bytes (get_or (texts old) k []) c.text_in-text.ensures.value
    (c.in-Some.ensures.text (texts old) was.over) (ap (λ l. l.bytes) (next-line from k place r.0 old now d begun below come.put at) ∙ text-at old k) in
    let told : Some new ≡ option_map (map plain_line) (f (get_or old k d).bytes) =
    subst (λ made. option_map (λ lines. lines.items) made ≡ option_map (map plain_line) (f c.text_in-text.result.now)) c.in-Some-new.is
    (c.in_ok-new.ensures.value text was.searches)
    ∙ ap (λ t. option_map (map plain_line) (f t)) (line ∙ sym (text-at old k)) in
    let number : c.len-in-Some.result - (c.len-count.result - k - 1) ≡ from + (length r.0 + length new) =
    omega (arith, at, c.in_ok-rewrite_line.ensures.counted, c.len-in-Some.ensures.value, c.len-count.ensures.value, c.len.ensures.value, was.no_fewer) in
    let gone = subst (λ t. Come f from (k + 1) old t (Some (from + (length r.0 + length new)))) (sym c.in_ok-rewrite_line.ensures.put)
    (come-goes f from k place old now new c.lines.made begun below come at told) in
    let next = subst (λ n. Come f from n old after (Some (from + (length r.0 + length new)))) (sym c.in-Some.ensures.order.2) gone in
    let some = some-made text c.args.replacement.now c.args.which.now (get_or old k d).bytes new told in
    let n = c.next_line.new.self.at in
    record {
      put = next.put;
      long = counted from n (each f (block from n old)).0 old after (omega (arith, begun, c.in-Some.ensures.order)) (omega (arith, below, c.in-Some.ensures.order)) next.put;
      made = ap (λ m. Some m) number ∙ next.told;
      kept = c.in_ok-rewrite_line.ensures.kept
          ∙ elim c.if-is_none.branch [
            | then-is_none w ↦
                let none : is_some c.lines.made ≡ false = c.is_none.ensures ∙ ap not w.if-is_none.true in
                ap (λ p. earlier_of p (texts now)) w.past-is
                ∙ w.begin.ensures.kept
                ∙ first-change c.lines.past c.args.before now old (earlier_of c.args.past.now (texts old))
                (when-none c.lines.made (now ≡ old) none was.untouched)
                (was.kept ∙ none-kept c.lines.made c.args.before.listed (kept_lines c.args.before.current old) (earlier_of c.args.past.now (texts old)) none)
            | else-is_none w ↦
                let some : is_some c.lines.made ≡ true = c.is_none.ensures ∙ ap not w.if-is_none.false in
                ap (λ p. earlier_of p (texts now)) w.past-is
                ∙ was.kept
                ∙ some-kept c.lines.made c.args.before.listed (kept_lines c.args.before.current old) (earlier_of c.args.past.now (texts old)) some
          ];
      untouched = search rules;
      within = (omega (arith, number, some), omega (arith, c.len-in-Some.ensures.value));
      no_fewer = omega (arith, c.in_ok-rewrite_line.ensures.counted, was.no_fewer, some);
      searches = was.searches ∙ ap Ok (sym c.in_ok-new.ensures.pattern);
      begun = omega (arith, begun, c.in-Some.ensures.order);
      end = c.in-Some.ensures.end ∙ was.end;
      over = c.in-Some.ensures.over (texts old) was.over;
      needs = subst (λ t. NeedsWord t (word_of c.next_line.new.self)) (sym c.in_ok-new.ensures.pattern) (subst (NeedsWord tree) (sym c.in-Some.ensures.word) was.needs);
    }

pub returns : goal.returns
returns g c =
    let old = g.S.LineStore.lines c.args.store.now in
    let from = c.args.span.first - 1 in
    let i = c.lines.course.at in
    let tree = searched c.lines.searcher in
    let was = c.lines.invariant in
    let none = where-none c.next_line.result (NoneFrom tree (texts old) i (end_of c.lines.course)) c.in_default.is (c.next_line.ensures.none tree (texts old) was.needs was.over) in
    let come = come-over c.args.pattern.now tree c.args.replacement.now c.args.which.now from i c.args.span.last old (g.S.LineStore.lines c.lines.store) c.lines.made was.searches was.begun
    (omega (arith, was.end, c.lines.course.order)) c.requires.last (λ j low high. none j low (omega (arith, high, was.end))) (record { put = was.put; told = was.made }) in
    record {
      made = come.told;
      put = come.put;
      kept = was.kept;
      untouched = was.untouched;
      within = was.within;
      no_fewer = was.no_fewer;
      remembered = c.put_back.ensures.kept ∙ c.take_learned-learned.ensures.kept;
    }
