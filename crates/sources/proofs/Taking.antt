-- What several reads have consumed.
use Rattle.std.proofs.Common.{◌≤◌, ◌+◌, ℕ, List, ◌++◌, length, take, Option, Some, None, ap, ◌∙◌, sym, append_assoc, arith, length-append, length-take}
use Rattle.std.specs.Io.KnownBytes.{Consumes}
use Rattle.sources.specs.Source.{TakesAtMost}

consumes_more : (old mid new : Option (List ℕ)) (bytes more : List ℕ) → Consumes old mid bytes → Consumes mid new more → Consumes old new (bytes ++ more)
consumes_more None mid new bytes more p q = tt
consumes_more (Some all) None new bytes more p q = absurd p
consumes_more (Some all) (Some left) None bytes more p q = absurd q
consumes_more (Some all) (Some left) (Some last) bytes more p q = p ∙ ap (λ l. bytes ++ l) q ∙ sym (append_assoc bytes more last)

pub takes_more : (old mid new : Option (List ℕ)) (bytes room : List ℕ) (n limit : ℕ) → Consumes old mid bytes → Consumes mid new (take n room) →
    length bytes + length room ≤ limit + 1 → TakesAtMost (limit + 1) old new
takes_more old mid new bytes room n limit p q fits =
    (bytes ++ take n room, omega (arith, fits, length-append bytes (take n room), length-take {A = ℕ} n room), consumes_more old mid new bytes (take n room) p q)
