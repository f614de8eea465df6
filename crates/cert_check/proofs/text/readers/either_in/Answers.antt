use Rattle.std.proofs.Common.{◌≡◌, [], ◌++◌, ℕ, List, Bool, true, false, nat_eq, sym, ◌∙◌, append-nil}
use Rattle.std.specs.Cmp.Lexicographic.{pointwise, bytes_decides}
use Rattle.cert_check.specs.text.Text.{line_text}
use Rattle.cert_check.specs.text.Pieces.{either_line}
use Rattle.cert_check.proofs.text.readers.either_in.Goals as goal

same-bytes : (a b : List ℕ) → pointwise nat_eq a b ≡ true → a ≡ b
same-bytes a b e = (bytes_decides a b).0 e

other-bytes : (a b : List ℕ) → pointwise nat_eq a b ≡ false → b ++ [] ≡ a → ⊥
other-bytes a b e same = let test : pointwise nat_eq a b ≡ true = (bytes_decides a b).1 (sym same ∙ append-nil b) in let both : true ≡ false = sym test ∙ e in absurd cc

neither : (one other line : List ℕ) → pointwise nat_eq line one ≡ false → pointwise nat_eq line other ≡ false →
    (b : Bool) → line_text (either_line one other b) ≡ line → ⊥
neither one other line e f true h = other-bytes line one e h
neither one other line e f false h = other-bytes line other f h

pub returns-then-eq : goal.returns-then-eq
returns-then-eq c = record {
  exact = (append-nil c.args.one.now ∙ sym (same-bytes c.args.line.now c.args.one.now (sym c.eq.ensures ∙ c.if-eq.true)), tt);
}

pub returns-then-eq-2 : goal.returns-then-eq-2
returns-then-eq-2 c = record {
  exact = (append-nil c.args.other.now ∙ sym (same-bytes c.args.line.now c.args.other.now (sym c.eq-2.ensures ∙ c.if-eq-2.true)), tt);
}

pub returns : goal.returns
returns c = record {
  exact = λ b _ h.
      neither c.args.one.now c.args.other.now c.args.line.now (sym c.eq.ensures ∙ c.if-eq.false) (sym c.eq-2.ensures ∙ c.if-eq-2.false) b h;
}
