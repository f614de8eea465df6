use Rattle.std.proofs.Common.{◌≡◌, ℕ, suc, ◌&&◌, true, false, nat_eq, List, [], ◌∷◌, length, refl, ap, ◌∙◌, arith}
use Rattle.std.proofs.lemmas.Bool.{ne_eqb}
use Rattle.std.specs.List.{list_all}
use Rattle.ed_syntax.specs.spelling.Characters.{is_blank, after_blanks}
use Rattle.ed_syntax.proofs.heading.is_over.Goals as goal

-- nothing stands after the blanks where all are blanks
length-after_blanks : (bytes : List ℕ) → nat_eq (length (after_blanks bytes)) 0 ≡ list_all is_blank bytes
length-after_blanks [] = refl
length-after_blanks (b ∷ bytes) =
    elim (is_blank b) as (λ t. nat_eq (length (let left : List ℕ = elim t [ true ↦ after_blanks bytes | false ↦ b ∷ bytes ] in left)) 0 ≡ (t && list_all is_blank bytes)) [
      | true ↦ length-after_blanks bytes
      | false ↦ ne_eqb (suc (length bytes)) 0 (λ e. omega (arith, e))
    ]

pub returns : goal.returns
returns c = record {
  value = c.is_empty.ensures ∙ ap (λ left. nat_eq (length left) 0) c.after_blanks.ensures.value ∙ length-after_blanks c.args.bytes.now;
}
