use Rattle.std.proofs.Common.{◌∷◌, [], ◌∙◌, ap}
use Rattle.std.specs.Prelude.{codes}
use Rattle.ed_rules.specs.declared.known_matches.Matches.{Matches}
use Rattle.ed_rules.specs.declared.state.Undo.{Undo}
use Rattle.cert_check.specs.text.Text.{zone_line, marks_line, choices_line, replacements_line, changed_line, undo_line, matched_lines, told_lines, own_keys, buffer_of, old_lines}
use Rattle.cert_check.proofs.texts.Written.{same-written, buffer-written, state-written}
use Rattle.cert_check.proofs.text.writing.push_state.Goals as goal

pub returns : goal.returns
returns g c =
    let written = g.W.TextWriter.written in
    let state = c.args.state.now in
    record {
      appended =
          state-written c.args.version (written c.args.out.now) (written c.push_told.new.out) (written c.push_choices_line.new.out)
          (written c.push_replacements_line.new.out) (written c.push_choices_line-2.new.out) (written c.push_changed_line.new.out)
          (written c.push_undo_line.new.out) (written c.push_old.new.out) state
          (buffer-written c.args.version (written c.args.out.now) (written c.push_zone_line.new.out) (written c.push_marks_line.new.out)
          (written c.push_matched.new.out) (written c.push_told.new.out) own_keys (buffer_of state)
          (same-written (λ z. zone_line (codes "zone") z ∷ []) _ _ c.kept_zone.result.now state.zone c.kept_zone.ensures.value
          c.push_zone_line.ensures.appended)
          (same-written (λ m. marks_line (codes "marks") m ∷ []) _ _ c.marks.result.now state.marks c.marks.ensures.value
          c.push_marks_line.ensures.appended)
          (same-written (λ t. matched_lines c.args.version (codes "has") t) _ _ c.matches-matches.result.now.has state.matches.has (ap (λ (m : Matches). m.has) c.matches-matches.ensures.value)
          c.push_matched.ensures.appended)
          (same-written (λ f. told_lines c.args.version (codes "lines") (codes "clear") f) _ _ c.facts.result.now state.facts c.facts.ensures.value
          c.push_told.ensures.appended))
          (same-written (λ s. choices_line (codes "patterns") s ∷ []) _ _ c.patterns.result.now state.patterns c.patterns.ensures.value
          c.push_choices_line.ensures.appended)
          (same-written (λ r. replacements_line r ∷ []) _ _ c.replacements.result state.replacements c.replacements.ensures.value
          c.push_replacements_line.ensures.appended)
          (same-written (λ s. choices_line (codes "names") s ∷ []) _ _ c.names.result.now state.names c.names.ensures.value
          c.push_choices_line-2.ensures.appended)
          (same-written (λ d. changed_line d ∷ []) _ _ c.changed.result state.changed c.changed.ensures.value
          c.push_changed_line.ensures.appended)
          (same-written (λ u. undo_line u ∷ []) _ _ c.kept_undo-undo.result.now state.undo c.kept_undo-undo.ensures.value
          c.push_undo_line.ensures.appended)
          (same-written (λ w. old_lines c.args.version w state.matches.old_has) _ _ c.was.result.now state.undo.was (c.was.ensures.value ∙ ap (λ (u : Undo). u.was) c.kept_undo-undo.ensures.value)
          (same-written (λ t. old_lines c.args.version c.was.result.now t) _ _ c.matches-matches.result.now.old_has state.matches.old_has
          (ap (λ (m : Matches). m.old_has) c.matches-matches.ensures.value)
          c.push_old.ensures.appended));
    }
