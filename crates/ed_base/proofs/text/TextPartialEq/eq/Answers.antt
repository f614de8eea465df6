-- The same bytes are those of the same lines, and the other way round.
use Rattle.std.proofs.Common.{◌≡◌, ◌∙◌, List, ℕ, ap, sym, nat_eq}
use Rattle.std.specs.Cmp.Lexicographic.{pointwise, pointwise_decides, bytes_decides}
use Rattle.std.proofs.lemmas.Bool.Decides.{Decides-like, same_from_decides}
use Rattle.ed_base.specs.Lines.{bytes_of, lines_of}
use Rattle.ed_base.proofs.text.TextPartialEq.eq.Goals as goal

same : (these those : List (List ℕ)) (x y : List ℕ) → x ≡ bytes_of these → lines_of x ≡ these → y ≡ bytes_of those → lines_of y ≡ those →
    pointwise nat_eq x y ≡ pointwise (pointwise nat_eq) these those
same these those x y written read written' read' =
    let lines : x ≡ y → these ≡ those = λ e. sym read ∙ ap lines_of e ∙ read' in
    let bytes : these ≡ those → x ≡ y = λ e. written ∙ ap bytes_of e ∙ sym written' in
    same_from_decides (pointwise nat_eq x y) (pointwise (pointwise nat_eq) these those)
    (Decides-like (pointwise nat_eq x y) lines bytes (bytes_decides x y)) (pointwise_decides bytes_decides these those)

pub returns : goal.returns
returns c =
    c.eq.ensures
    ∙ same c.args.self.now c.args.other.now c.as_bytes.result.now c.as_bytes-2.result.now c.as_bytes.ensures.value c.as_bytes.ensures.read_back c.as_bytes-2.ensures.value
    c.as_bytes-2.ensures.read_back
