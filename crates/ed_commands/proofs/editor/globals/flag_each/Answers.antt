-- One more line has the flag or not.
use Rattle.std.proofs.Common.{◌≡◌, ◌<◌, ◌∙◌, [], ap, sym, arith, length, get_or}
use Rattle.std.proofs.Math.ListN.{length-set}
use Rattle.ed_base.specs.Buffer.{flagged_at, plain_line, with_flag}
use Rattle.std.specs.Prelude.{Ok}
use Rattle.bre_match.specs.Searchers.{searched}
use Rattle.ed_syntax.specs.meaning.Globals.{wanted}
use Rattle.ed_commands.proofs.Globals.{flagged-more}
use Rattle.ed_commands.proofs.Searching.{told}
use Rattle.ed_commands.proofs.editor.globals.flag_each.Goals as goal

pub loop-i-preserved : goal.loop-i-preserved
loop-i-preserved g c =
    let lines = g.S.LineStore.lines in
    let old = lines c.args.store.now in
    let now = lines c.loop-i.store in
    let i = c.loop-i.i in
    let flag = c.is_wanted.result in
    let below : i < length old = omega (arith, c.requires.last) in
    let after = c.in_ok-set_flag.ensures.flagged in
    let same : length (flagged_at i flag now) ≡ length now = length-set now i (with_flag flag (get_or now i (plain_line []))) in
    record {
      flagged = λ text is.
          after ∙ flagged-more c.args.sense text c.args.from i old now flag (omega arith) below (c.loop-i.invariant.flagged text is)
          (ap (wanted c.args.sense)
          (told text (searched c.loop-i.searcher) now i c.text.result.now c.in_ok-matched.matched (is ∙ ap Ok (sym c.loop-i.invariant.searches))
          c.text.ensures.value c.in_ok-matched.ensures.value)
          ∙ sym c.is_wanted.ensures.value);
      count = ap length after ∙ same ∙ c.loop-i.invariant.count;
      searches = c.in_ok-matched.ensures.pattern ∙ c.loop-i.invariant.searches;
    }
