use Rattle.std.proofs.Common.{◌++◌, List, arith, ◌∙◌, ap, sym}
use Rattle.std.specs.List.{flat_map}
use Rattle.std.proofs.lemmas.List.{take_all}
use Rattle.zones.specs.KnownBounds.{PlacedBound}
use Rattle.cert_check.specs.text.Text.{Word, spaced, bound_words}
use Rattle.cert_check.proofs.texts.Known.{placed_words, words-placed, zone-words, one-bound-more}
use Rattle.cert_check.proofs.text.words.push_zone.Goals as goal

pub loop-entry-preserved : goal.loop-entry-preserved
loop-entry-preserved g c =
    let written = g.W.TextWriter.written in
    one-bound-more c.entries-entry-items.result.now c.loop-entry.entry-index c.entry-item.result (written c.args.out.now) (written c.loop-entry.out) (written c.push_bound.new.out) (omega arith) c.entry-item.is c.loop-entry.invariant
    (◌∙◌ {b = written c.loop-entry.out ++ spaced (bound_words c.x.result c.y.result c.bound.result)} c.push_bound.ensures.appended
    (ap (λ (ws : List Word). written c.loop-entry.out ++ spaced ws) (words-placed c.x.result c.y.result c.bound.result c.entry-item.result c.x.ensures.value c.y.ensures.value c.bound.ensures.value)))

pub returns : goal.returns
returns g c =
    let written = g.W.TextWriter.written in
    record {
      appended =
          c.loop-entry.invariant
          ∙ ap (λ (bs : List PlacedBound). written c.args.out.now ++ spaced (flat_map placed_words bs)) (take_all c.loop-entry.entry-index c.entries-entry-items.result.now (omega arith) ∙ c.entries-entry-items.ensures.value)
          ∙ ap (λ (ws : List Word). written c.args.out.now ++ spaced ws) (sym (zone-words c.args.zone.now));
    }
