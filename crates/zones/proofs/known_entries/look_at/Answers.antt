use Rattle.std.proofs.Common.{◌≡◌, ◌≢◌, ◌+◌, ◌++◌, [], ◌∷◌, ℤ, List, Option, None, true, false, get_or, arith, ◌∙◌, ap, sym, append_assoc}
use Rattle.std.proofs.lemmas.List.{get_or_default}
use Rattle.zones.specs.KnownBounds.{PlacedBound}
use Rattle.zones.specs.Written.{any_at, known_after}
use Rattle.zones.proofs.Listing.{known_after-skip, known_after-next}
use Rattle.zones.proofs.known_entries.look_at.Goals as goal

pub returns-in_ok-push : goal.returns-in_ok-push
returns-in_ok-push c =
    let table = c.args.table.now in
    let place = c.args.place in
    let before = c.args.entries.now.items in
    let here = get_or_default table place c.index-table-place.result None (omega arith) in
    let known : get_or table place None ≢ any_at place =
    λ same. let is : c.is.result ≡ true = c.is.ensures.exact.1 (here ∙ same ∙ sym c.requires.any) in
    let not : c.is.result ≡ false = c.if-not-is.true in cc in
    let entry = c.at.ensures.value ∙ ap (λ (b : Option ℤ). let r : PlacedBound = record { place = place; bound = b } in r) here in
    record {
      value = rw c.in_ok-push.ensures.items
          (append_assoc before (c.at.result ∷ []) (known_after (place + 1) table)
          ∙ ap (λ (rest : List PlacedBound). before ++ rest) (known_after-next table place c.at.result (omega arith) entry known));
    }

pub returns-else-not-is : goal.returns-else-not-is
returns-else-not-is c =
    let table = c.args.table.now in
    let place = c.args.place in
    let here = get_or_default table place c.index-table-place.result None (omega arith) in
    record {
      value = ap (λ (rest : List PlacedBound). c.args.entries.now.items ++ rest)
          (known_after-skip table place (omega arith) (sym here ∙ c.is.ensures.exact.0 c.if-not-is.false ∙ c.requires.any));
    }
