use Rattle.std.proofs.Common.{◌∷◌, []}
use Rattle.std.specs.Prelude.{codes}
use Rattle.cert_check.specs.text.Text.{zone_line, marks_line, told_lines, earlier_keys}
use Rattle.cert_check.proofs.texts.Written.{same-written, buffer-written, old-written}
use Rattle.cert_check.proofs.text.writing.push_old.Goals as goal

pub returns-in-Some : goal.returns-in-Some
returns-in-Some g c =
    let written = g.W.TextWriter.written in
    let old = c.in-Some.old in
    record {
      appended =
          old-written c.args.version (written c.args.out.now) (written c.push_old_told.new.out) old c.args.has.now c.args.old.now c.in-Some.is
          (buffer-written c.args.version (written c.args.out.now) (written c.push_zone_line.new.out) (written c.push_marks_line.new.out)
          (written c.push_matched.new.out) (written c.push_old_told.new.out) earlier_keys (old, c.args.has.now)
          (same-written (λ z. zone_line (codes "old-zone") z ∷ []) _ _ c.zone.result.now old.zone c.zone.ensures.value c.push_zone_line.ensures.appended)
          (same-written (λ m. marks_line (codes "old-marks") m ∷ []) _ _ c.marks.result.now old.marks c.marks.ensures.value c.push_marks_line.ensures.appended)
          c.push_matched.ensures.appended
          (same-written (λ f. told_lines c.args.version (codes "old-lines") (codes "old-clear") f) _ _ c.facts.result.now old.facts c.facts.ensures.value
          c.push_old_told.ensures.appended));
    }
