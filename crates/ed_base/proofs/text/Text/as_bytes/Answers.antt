use Rattle.std.proofs.Common.{subst}
use Rattle.std.specs.Prelude.{option_map}
use Rattle.std.specs.Rc.{rc_value}
use Rattle.ed_base.specs.Lines.{AreLines}
use Rattle.ed_base.specs.Pieces.{bytes_or_none}
use Rattle.ed_base.proofs.LineLemmas.{AreLines-lines_of}
use Rattle.ed_base.proofs.text.Text.as_bytes.Goals as goal

pub returns-in-Some-clause-lines : goal.returns-in-Some-clause-lines
returns-in-Some-clause-lines c = subst AreLines c.self.view_is (AreLines-lines_of (bytes_or_none (option_map rc_value c.self.inside.block)))
