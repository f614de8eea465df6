-- The bits of the comparison are the newlines.
use Rattle.std.proofs.Common.{◌≡◌, ◌∙◌, ap, arith, eqb, length, count_ones, w8}
use Rattle.std.proofs.lemmas.Simd.{bitmask_splat, ones-mask_l, length-chunk}
use Rattle.memchr.specs.Find.{is_byte}
use Rattle.ed_base.specs.Lines.{newline}
use lib.Lanes.{chunk}
use Rattle.ed_base.proofs.newlines.block_newlines.Goals as goal

pub returns-clause-value : goal.returns-clause-value
returns-clause-value c =
    let block = chunk c.args.place 64 c.args.bytes.now in
    let long : length block ≡ 64 = length-chunk c.args.place 64 c.args.bytes.now c.requires.within in
    ap count_ones (bitmask_splat w8 eqb block 64 newline long (omega arith)) ∙ ones-mask_l (is_byte newline) block
