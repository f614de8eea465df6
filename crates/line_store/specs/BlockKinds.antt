-- How a block keeps its lines.
use Rattle.std.specs.Prelude.{◌≡◌, List, [], ◌∷◌, length, map}
use Rattle.ed_base.specs.Buffer.{Line, plain_line}
use Rattle.ed_base.specs.Lines.{lines_of}
use Rattle.line_store.specs.Chunks.{joined}
use Rattle.line_store.specs.Kept.{flag_count}
use Rattle.line_store.specs.declared.block.Kind.{Kind}
use Rattle.line_store.specs.declared.block.Kind.TheVariants as kind

-- its lines, letters aside
abbrev pub lines_in : Kind → List Line
lines_in (kind.One line) = line ∷ []
lines_in (kind.Lines lines) = lines.items
lines_in (kind.Chunks chunks count) = joined chunks.items
lines_in (kind.File file count) = map plain_line (lines_of file)

-- of chunks it is known how many lines they have, and that none has the flag; of a file how many lines it has
abbrev pub IsCounted : Kind → Type 0
IsCounted (kind.One line) = Unit {0}
IsCounted (kind.Lines lines) = Unit {0}
IsCounted (kind.Chunks chunks count) = (count ≡ length (joined chunks.items)) × (flag_count (joined chunks.items) ≡ 0)
IsCounted (kind.File file count) = count ≡ length (lines_of file)
