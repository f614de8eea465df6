-- One more line.
use Rattle.std.proofs.Common.{◌≢◌, ◌∙◌, ◌++◌, ap, sym, arith, []}
use Rattle.std.specs.List.{concat}
use Rattle.std.proofs.lemmas.List.Elements.{All-append, All-same}
use Rattle.ed_base.specs.Lines.{newline}
use Rattle.ed_base.specs.Buffer.{texts}
use Rattle.ed_commands.proofs.Blocks.{block-none, joined-more}
use Rattle.ed_commands.proofs.editor.blocks.join_block.Goals as goal

pub loop-i-init : goal.loop-i-init
loop-i-init g c = record {
  joined = c.reserve.ensures.unchanged ∙ c.new-bytes.ensures.value
      ∙ sym (ap (λ t. concat (texts t)) (block-none c.args.from (g.S.LineStore.lines c.args.store.now)));
  line = All-same (λ byte. byte ≢ newline) c.reserve.new.self [] (c.reserve.ensures.unchanged ∙ c.new-bytes.ensures.value) (λ k d h e. absurd (omega arith));
}

pub loop-i-preserved : goal.loop-i-preserved
loop-i-preserved g c =
    let lines = g.S.LineStore.lines c.args.store.now in
    let text = c.text.result.now in
    record {
      joined = c.in_ok-extend_from_slice.ensures.appended
          ∙ ap (λ t. t ++ text) c.loop-i.invariant.joined
          ∙ sym (joined-more c.args.from c.loop-i.i lines text (omega arith) (omega arith) c.text.ensures.value);
      line = All-same (λ byte. byte ≢ newline) _ (c.loop-i.bytes ++ text) c.in_ok-extend_from_slice.ensures.appended
          (All-append (λ byte. byte ≢ newline) c.loop-i.bytes text c.loop-i.invariant.line c.text.ensures.line);
    }
