-- Where a command is placed: its addresses change the current line and the remembered pattern alone, and its lines are in order.
use Rattle.std.proofs.Common.{ℕ, zero, suc, ◌&&◌, nat_le, List, [], ◌∷◌, Some, None, Result, IfOk, refl, ap, ◌∙◌, arith}
use Rattle.std.proofs.lemmas.Bool.{leb-true, and_parts}
use Rattle.ed_base.specs.declared.fault.Fault.{Fault}
use Rattle.ed_syntax.specs.declared.verbs.Taking.TheVariants as many
use Rattle.ed_syntax.specs.Commands as ed
use Rattle.ed_syntax.specs.Commands.{Address, Addresses, Command}
use Rattle.ed_syntax.specs.meaning.Verbs.{takes, given_or}
use Rattle.ed_syntax.specs.meaning.States.{State, last}
use Rattle.ed_syntax.specs.meaning.Values.{value, evaluated, moved, values}
use Rattle.ed_syntax.specs.meaning.Ranges.{Span, spanned, first_of_two, last_of_two, not_before, ordered, from_first, single, whole}
use Rattle.ed_syntax.specs.meaning.Applied.{Placed, targeted}
use Rattle.ed_syntax.specs.meaning.CommandLaws.{KeepsTheRest, InOrder, AddressesKeepTheRest, TargetsKeepTheRest, SpansAreInOrder, CommandsArePlaced}
use Rattle.ed_syntax.proofs.meaning.StepLemmas.{either}
use Rattle.ed_syntax.proofs.meaning.ResultLemmas.{IfOk-bind, IfOk-after}

-- one after another
keeps-both : (s t u : State) → KeepsTheRest s t → KeepsTheRest t u → KeepsTheRest s u
keeps-both s t u first later = ap (λ (v : State). record v { current = s.current; pattern = s.pattern }) later ∙ first

module _ (s : State) where
  -- of values, of a target, and of the place
  abbrev Valued : State × List ℕ → Type 0
  Valued v = KeepsTheRest s v.0

  abbrev Targeted : State × ℕ → Type 0
  Targeted t = KeepsTheRest s t.0

  abbrev PlacedSo : Placed → Type 0
  PlacedSo p = KeepsTheRest s p.state × InOrder p.span

pub addresses_keep_the_rest : AddressesKeepTheRest
addresses_keep_the_rest ed.Without s = refl
addresses_keep_the_rest (ed.One a) s = IfOk-after (Valued s) (value a s) _ (λ n. refl)
addresses_keep_the_rest (ed.Comma a b) s =
    IfOk-after (Valued s) (value a s) _ (λ n. IfOk-after (Valued s) (value b (evaluated a s)) _ (λ m. refl))
addresses_keep_the_rest (ed.Semicolon a None) s = IfOk-after (Valued s) (value a s) _ (λ n. refl)
addresses_keep_the_rest (ed.Semicolon a (Some b)) s =
    IfOk-after (Valued s) (value a s) _ (λ n. IfOk-after (Valued s) (value b (moved n (evaluated a s))) _ (λ m. refl))

pub targets_keep_the_rest : TargetsKeepTheRest
targets_keep_the_rest None s = refl
targets_keep_the_rest (Some a) s = IfOk-after (Targeted s) (value a s) _ (λ n. refl)

-- spans by how many lines a command takes
abbrev InOrderIf : Result Span Fault → Type 0
InOrderIf r = IfOk r InOrder

ordered-in : (a b : ℕ) → IfOk (ordered a b) InOrder
ordered-in a b =
    either InOrderIf (nat_le 1 a) _ _
    (λ some. either InOrderIf (nat_le a b) _ _ (λ up. omega (arith, leb-true a b up)) (λ down. tt))
    (λ none. tt)

from_first-in : (a b last : ℕ) → IfOk (from_first a b last) InOrder
from_first-in a b last =
    either InOrderIf (nat_le a b && nat_le (not_before b) last) _ _
    (λ both. omega (arith, leb-true a b (and_parts (nat_le a b) (nat_le (not_before b) last) both).0))
    (λ not_both. tt)

single-in : (n : ℕ) → IfOk (single n) InOrder
single-in zero = tt
single-in (suc n) = omega arith

whole-in : (last : ℕ) (values : List ℕ) → IfOk (whole last values) InOrder
whole-in last [] = omega arith
whole-in last (a ∷ more) = ordered-in a (last_of_two (a ∷ more))

pub spans_are_in_order : SpansAreInOrder
spans_are_in_order many.NoAddress last values = omega arith
spans_are_in_order many.Place last values = omega arith
spans_are_in_order many.FirstPlace last values = omega arith
spans_are_in_order many.OneLine last values = single-in (last_of_two values)
spans_are_in_order many.Lines last values = from_first-in (first_of_two values) (last_of_two values) last
spans_are_in_order many.Range last values = ordered-in (first_of_two values) (last_of_two values)
spans_are_in_order many.Whole last values = whole-in last values

pub commands_are_placed : CommandsArePlaced
commands_are_placed c s =
    let given : Addresses = given_or c.addresses (takes c.verb).default in
    IfOk-bind (Valued s) (PlacedSo s) (values given s) _ (addresses_keep_the_rest given s) (λ v first.
    IfOk-bind (Targeted v.0) (PlacedSo s) (targeted (takes c.verb).target v.0) _
    (targets_keep_the_rest (takes c.verb).target v.0) (λ t later.
    IfOk-bind InOrder (PlacedSo s) (spanned (takes c.verb).taking (last s) v.1) _
    (spans_are_in_order (takes c.verb).taking (last s) v.1) (λ x order.
    (keeps-both s v.0 t.0 first later, order))))
