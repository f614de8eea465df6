-- Chunks that change places, and with them their lines.
use Rattle.std.proofs.Common.{◌≡◌, ℕ, ◌+◌, ◌≤◌, List, ◌++◌, take, drop, length, sym, ap, ◌∙◌, arith}
use Rattle.std.proofs.lemmas.List.{length-append}
use Rattle.ed_base.specs.Parts.{block}
use Rattle.ed_base.proofs.PartLemmas.{front}
use Rattle.line_store.specs.Chunks.{joined, lines_before}
use Rattle.line_store.specs.Swaps.{swapped}
use Rattle.line_store.proofs.Joined.{joined-append, before-take, before-later, before-most}
use Rattle.line_store.proofs.Swapped.{parts, swapped-parts, length-swapped}

joined-four : {X : Type 0} (a b c d : List (List X)) → joined (a ++ (b ++ (c ++ d))) ≡ joined a ++ (joined b ++ (joined c ++ joined d))
joined-four a b c d =
    joined-append a (b ++ (c ++ d))
    ∙ ap (λ t. joined a ++ t) (joined-append b (c ++ d))
    ∙ ap (λ t. joined a ++ (joined b ++ t)) (joined-append c d)

-- so many lines stand before the chunks and in them
before-block : {X : Type 0} (low high : ℕ) (chunks : List (List X)) → low ≤ high →
    lines_before low chunks + length (joined (block low high chunks)) ≡ lines_before high chunks
before-block low high chunks h =
    omega (
      arith,
      before-take low chunks,
      before-take high chunks,
      ap (λ t. length (joined t)) (front low high chunks h),
      ap length (joined-append (take low chunks) (block low high chunks)),
      length-append (joined (take low chunks)) (joined (block low high chunks)),
    )

pub joined-swapped : {X : Type 0} (low middle high : ℕ) (chunks : List (List X)) → low ≤ middle → middle ≤ high →
    high ≤ length chunks → joined (swapped low middle high chunks) ≡ swapped (lines_before low chunks) (lines_before middle chunks)
    (lines_before high chunks) (joined chunks)
joined-swapped low middle high chunks h l m =
    let a = take low chunks in
    let b = block low middle chunks in
    let c = block middle high chunks in
    let d = drop high chunks in
    joined-four a c b d
    ∙ sym (ap (swapped (lines_before low chunks) (lines_before middle chunks) (lines_before high chunks))
    (ap joined (parts low middle high chunks h l) ∙ joined-four a b c d)
    ∙ swapped-parts (lines_before low chunks) (lines_before middle chunks) (lines_before high chunks) (joined a) (joined b) (joined c)
    (joined d)
    (before-take low chunks) (before-block low middle chunks h) (before-block middle high chunks l))

pub length-joined-swapped : {X : Type 0} (low middle high : ℕ) (chunks : List (List X)) → low ≤ middle → middle ≤ high →
    high ≤ length chunks → length (joined (swapped low middle high chunks)) ≡ length (joined chunks)
length-joined-swapped low middle high chunks h l m =
    ap length (joined-swapped low middle high chunks h l m)
    ∙ length-swapped (lines_before low chunks) (lines_before middle chunks) (lines_before high chunks) (joined chunks)
    (before-later low middle chunks h) (before-later middle high chunks l) (before-most high chunks)
