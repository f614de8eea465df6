use Rattle.cert_check.proofs.verdicts.MarkedOpening.{marked-stands}
use Rattle.cert_check.proofs.laws.marked_starts_stand.Goals as goal

pub returns : goal.returns
returns c = record {
  sound = marked-stands c.files_have_lines.ensures.marks c.unnamed_letters_change_nothing.ensures.lines
      c.unnamed_letters_change_nothing.ensures.marks c.files_have_lines.ensures.lines c.facts_go_by_bytes.ensures.holds;
}
