-- A chunk is cut, and goes after all others.
use Rattle.std.proofs.Common.{◌∙◌, ◌++◌, ap, sym, length, arith}
use Rattle.std.proofs.lemmas.List.{length-map}
use Rattle.ed_base.specs.Buffer.{Line, texts}
use Rattle.ed_base.specs.Lines.{lines_of}
use Rattle.line_store.specs.Chunks.{joined}
use Rattle.line_store.proofs.chunks.ChunkLinesBareLines.take_in.Goals as goal

pub returns-clause-taken : goal.returns-clause-taken
returns-clause-taken c =
    let chunk = c.in_ok-chunk.chunk in
    let before = ap lines_of c.in_ok-rest.ensures.value in
    record {
      first = texts chunk;
      some = omega (arith, c.requires.some, length-map chunk (λ (l : Line). l.bytes), c.in_ok-chunk.ensures.count, ap length before);
      split = sym before ∙ c.in_ok-chunk.ensures.lines;
      put = c.in_ok-push_chunk.ensures.pushed ∙ ap (λ t. joined c.args.self.now.chunks ++ t) c.in_ok-chunk.ensures.plain;
    }
