-- Each line before the place told comes from before the place before which none had the flag.
use Rattle.std.proofs.Common.{◌-◌, arith}
use Rattle.line_store.proofs.Swapped.{each}
use Rattle.line_store.proofs.SwappedMarks.{unflagged-swapped}
use Rattle.line_store.proofs.kept.place_swapped.Goals as goal

pub returns-then-place-low : goal.returns-then-place-low
returns-then-place-low c = λ lines within none.
    unflagged-swapped c.args.low c.args.middle c.args.high c.args.place c.args.place lines c.requires.first c.requires.second within
    (λ k j from b. each c.args.low c.args.middle c.args.high k j from (λ p e. omega arith) (λ p q e. omega arith) (λ p q e. omega arith) (λ p e. omega arith)) none

pub returns-then-place-middle : goal.returns-then-place-middle
returns-then-place-middle c = λ lines within none.
    unflagged-swapped c.args.low c.args.middle c.args.high c.args.place c.args.low lines c.requires.first c.requires.second within
    (λ k j from b. each c.args.low c.args.middle c.args.high k j from (λ p e. omega arith) (λ p q e. omega arith) (λ p q e. omega arith) (λ p e. omega arith)) none

pub returns-then-place-high : goal.returns-then-place-high
returns-then-place-high c = λ lines within none.
    unflagged-swapped c.args.low c.args.middle c.args.high c.args.place (c.args.place - (c.args.middle - c.args.low)) lines c.requires.first c.requires.second within
    (λ k j from b. each c.args.low c.args.middle c.args.high k j from (λ p e. omega arith) (λ p q e. omega arith) (λ p q e. omega arith) (λ p e. omega arith)) none

pub returns : goal.returns
returns c = λ lines within none.
    unflagged-swapped c.args.low c.args.middle c.args.high c.args.place c.args.place lines c.requires.first c.requires.second within
    (λ k j from b. each c.args.low c.args.middle c.args.high k j from (λ p e. omega arith) (λ p q e. omega arith) (λ p q e. omega arith) (λ p e. omega arith)) none
