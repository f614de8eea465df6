use Rattle.std.proofs.Common.{◌∙◌, sym}
use Rattle.cert_check.proofs.texts.Names.{has-letter, has-fixed}
use Rattle.cert_check.proofs.text.has_text.has_name.Goals as goal

pub returns-in-Some : goal.returns-in-Some
returns-in-Some c = record { value = c.is_sure.ensures.value ∙ sym (has-letter c.args.marks.now c.in-Some.letter c.args.name c.in-Some.ensures.value) }

pub returns-in-None : goal.returns-in-None
returns-in-None c = record { value = c.is_fixed.ensures.value ∙ sym (has-fixed c.args.marks.now c.args.name c.in-None.ensures.unmarked) }
