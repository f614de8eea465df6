-- The bytes before the last one, and the last one.
use Rattle.std.proofs.Common.{◌≡◌, ◌≢◌, ◌+◌, ◌-◌, ◌<◌, ◌≤◌, ◌∙◌, ◌∷◌, ◌++◌, [], List, ℕ, ap, sym, arith, length, take, get_or}
use Rattle.std.proofs.lemmas.List.{take_all, take_more}
use Rattle.ed_base.specs.Lines.{newline, bytes_of, lines_of}
use Rattle.ed_base.proofs.LineLemmas.{bytes_of-ended, bytes_of-completed}
use Rattle.ed_base.proofs.text.completed.Goals as goal

parted : (bytes : List ℕ) → 0 < length bytes → bytes ≡ take (length bytes - 1) bytes ++ get_or bytes (length bytes - 1) 0 ∷ []
parted bytes some =
    let before : ℕ = length bytes - 1 in
    let all : length bytes ≤ before + 1 = omega arith in
    let lt : before < length bytes = omega arith in
    sym (take_all (before + 1) bytes all) ∙ take_more bytes before 0 lt

whole : (bytes : List ℕ) → 0 < length bytes → get_or bytes (length bytes - 1) 0 ≡ newline → bytes ≡ bytes_of (lines_of bytes)
whole bytes some ends =
    let is = parted bytes some ∙ ap (λ b. take (length bytes - 1) bytes ++ b ∷ []) ends in
    is ∙ sym (bytes_of-ended (take (length bytes - 1) bytes)) ∙ ap (λ bs. bytes_of (lines_of bs)) (sym is)

completed : (bytes : List ℕ) → 0 < length bytes → get_or bytes (length bytes - 1) 0 ≢ newline → bytes ++ newline ∷ [] ≡ bytes_of (lines_of bytes)
completed bytes some lacks =
    let is = parted bytes some in
    ap (λ bs. bs ++ newline ∷ []) is
    ∙ bytes_of-completed (take (length bytes - 1) bytes) (get_or bytes (length bytes - 1) 0) lacks ∙ ap (λ bs. bytes_of (lines_of bs)) (sym is)

pub returns-then-last-eq10 : goal.returns-then-last-eq10
returns-then-last-eq10 c =
    let is = c.as_slice.ensures.value in
    record {
      value = whole c.args.bytes (omega (arith, ap length is, c.in-len1-up.len_at_least))
          (sym (ap (λ bs. get_or bs (length bs - 1) 0) is) ∙ c.if-last-eq10.true);
    }

pub returns : goal.returns
returns c =
    let is = c.as_slice.ensures.value in
    record {
      value = c.in_ok-push.ensures.appended
          ∙ completed c.args.bytes (omega (arith, ap length is, c.in-len1-up.len_at_least))
          (λ ends. c.if-last-eq10.false (ap (λ bs. get_or bs (length bs - 1) 0) is ∙ ends));
    }
