-- The bytes of all lines, by what the last byte is.
use Rattle.std.proofs.Common.{◌≡◌, ◌++◌, ◌∷◌, ◌-◌, [], Bool, sym, subst, length, get_or, arith, ⊎_elim}
use Rattle.std.specs.Bool.{OnTrue, OnFalse}
use Rattle.std.proofs.lemmas.Bool.Decides.{eqb_tells}
use Rattle.ed_base.specs.Lines.{newline, bytes_of, lines_of}
use Rattle.line_store.proofs.Uncut.{written-ended, written-lacks}
use Rattle.line_store.proofs.shared.is_ended.Goals as goal

pub returns-in-len1-up-clause-ended : goal.returns-in-len1-up-clause-ended
returns-in-len1-up-clause-ended c =
    let file = c.args.bytes.now in
    let P : Bool → Type 0 = λ b. OnTrue b (bytes_of (lines_of file) ≡ file) in
    ⊎_elim
    (λ is. subst P (sym is.0) (written-ended file (omega (arith, c.in-len1-up.len_at_least)) is.1))
    (λ isnt. subst P (sym isnt.0) tt)
    (eqb_tells (get_or file (length file - 1) 0) newline)

pub returns-in-len1-up-clause-lacks : goal.returns-in-len1-up-clause-lacks
returns-in-len1-up-clause-lacks c =
    let file = c.args.bytes.now in
    let P : Bool → Type 0 = λ b. OnFalse b (bytes_of (lines_of file) ≡ file ++ newline ∷ []) in
    ⊎_elim
    (λ is. subst P (sym is.0) tt)
    (λ isnt. subst P (sym isnt.0) (sym (written-lacks file (omega (arith, c.in-len1-up.len_at_least)) isnt.1)))
    (eqb_tells (get_or file (length file - 1) 0) newline)
