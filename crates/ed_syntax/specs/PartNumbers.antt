-- The numbers by which the parts of a replacement are compared.
use Rattle.std.specs.Prelude.{ℕ, ◌+◌}
use Rattle.ed_syntax.specs.declared.replacement.Part.{Part}
use Rattle.ed_syntax.specs.declared.replacement.Part.TheVariants as part

-- a part's number, which no other has: bytes and groups are below 256
abbrev pub part_number : Part → ℕ
part_number (part.Literal byte) = byte
part_number (part.Group group) = 256 + group
part_number part.Match = 512
part_number part.Split = 513
