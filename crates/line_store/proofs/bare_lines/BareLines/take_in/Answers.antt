-- One line is cut, and goes after all others.
use Rattle.std.proofs.Common.{◌≡◌, ◌∷◌, [], ◌∙◌, ap, sym, subst, refl, arith, length, insert}
use Rattle.std.specs.Prelude.{◌↔◌, IsNone, IfSome}
use Rattle.std.proofs.lemmas.List.Edits.{insert_end}
use Rattle.ed_base.specs.Buffer.{Line, plain_line}
use Rattle.ed_base.specs.Lines.{lines_of}
use Rattle.line_store.proofs.bare_lines.BareLines.take_in.Goals as goal

pub unreachable-requires : goal.unreachable-requires
unreachable-requires g c =
    let ended = subst (λ next. IsNone next ↔ (c.in_ok-rest.rest ≡ [])) c.in_default.is c.in_ok-line.ensures.ended in
    omega (arith, c.requires.some, ap (λ t. length (lines_of t)) (sym c.in_ok-rest.ensures.value ∙ ended.0 refl))

pub returns-in-Ok-clause-taken : goal.returns-in-Ok-clause-taken
returns-in-Ok-clause-taken g c =
    let old = g.Self.BareLines.items c.args.self.now in
    let rest = lines_of c.next_line.new.self in
    let text = c.in-Some.line.bytes in
    let first = subst (λ next. IfSome next (λ (l : Line). (l ≡ plain_line l.bytes) × (lines_of c.in_ok-rest.rest ≡ l.bytes ∷ rest))) c.in-Some.is c.in_ok-line.ensures.first in
    record {
      first = text ∷ [];
      some = omega arith;
      split = ap lines_of (sym c.in_ok-rest.ensures.value) ∙ first.1;
      put = c.in-Ok.ensures.inserted
          ∙ ap (λ n. insert old n c.into_bare.result) c.len.ensures.value
          ∙ ap (λ l. insert old (length old) l) c.into_bare.ensures.value
          ∙ insert_end old (plain_line text);
    }
