-- The room of a zone falls whenever it is weakened.
use Rattle.std.proofs.Common.{◌≡◌, ℕ, zero, suc, ◌+◌, ◌<◌, ◌≤◌, ◌*◌, ℤ, pos, negsuc, Option, Some, None, [], ◌∷◌, length, true, false, get_or, arith, sym, ◌∙◌, refl, inl, inr, ◌⊎◌}
use Rattle.std.proofs.lemmas.Int.{ints}
use Rattle.std.proofs.lemmas.Bool.{cases_lt}
use Rattle.std.proofs.lemmas.List.{get_or_past}
use Rattle.zones.specs.Bound.{IsKept, covers_bound}
use Rattle.zones.specs.Zone.{Bounds, bound, Covers}
use Rattle.zones.specs.Room.{room, total_room}
use Rattle.zones.specs.Limits.{IsZone}
use Rattle.zones.proofs.Order.{each-Covers, Covers-each}

room-covers : (a b : Option ℤ) → covers_bound a b ≡ true → room a ≤ room b
room-covers None b e = omega arith
room-covers (Some a) None e = cc
room-covers (Some (pos a)) (Some (pos b)) e = grind (arith, ints)
room-covers (Some (pos a)) (Some (negsuc b)) e = omega arith
room-covers (Some (negsuc a)) (Some (pos b)) e = grind (arith, ints)
room-covers (Some (negsuc a)) (Some (negsuc b)) e = grind (arith, ints)

room-covers_more : (a b : Option ℤ) → IsKept b → covers_bound a b ≡ true → covers_bound b a ≡ false → room a < room b
room-covers_more None None h e f = cc
room-covers_more None (Some (pos b)) h e f = let k = h.1 in omega (arith, ints)
room-covers_more None (Some (negsuc b)) h e f = omega arith
room-covers_more (Some a) None h e f = cc
room-covers_more (Some (pos a)) (Some (pos b)) h e f = grind (arith, ints)
room-covers_more (Some (pos a)) (Some (negsuc b)) h e f = omega arith
room-covers_more (Some (negsuc a)) (Some (pos b)) h e f = cc
room-covers_more (Some (negsuc a)) (Some (negsuc b)) h e f = grind (arith, ints)

total_room-le : (a b : Bounds) → length a ≡ length b → ((k : ℕ) → room (get_or a k None) ≤ room (get_or b k None)) → total_room a ≤ total_room b
total_room-le [] b e h = omega arith
total_room-le (x ∷ a) [] e h = absurd (omega arith)
total_room-le (x ∷ a) (y ∷ b) e h = omega (arith, total_room-le a b (omega arith) (λ k. h (suc k)), h 0)

total_room-lt : (a b : Bounds) → length a ≡ length b → ((k : ℕ) → room (get_or a k None) ≤ room (get_or b k None)) →
    (k : ℕ) → k < length a → room (get_or a k None) < room (get_or b k None) → total_room a < total_room b
total_room-lt [] b e h k l f = absurd (omega arith)
total_room-lt (x ∷ a) [] e h k l f = absurd (omega arith)
total_room-lt (x ∷ a) (y ∷ b) e h zero l f = omega (arith, total_room-le a b (omega arith) (λ k. h (suc k)), f)
total_room-lt (x ∷ a) (y ∷ b) e h (suc k) l f = omega (arith, total_room-lt a b (omega arith) (λ j. h (suc j)) k (omega arith) f, h 0)

each-room : (weak strong : Bounds) → IsZone weak → IsZone strong → Covers weak strong → (k : ℕ) → room (get_or weak k None) ≤ room (get_or strong k None)
each-room weak strong w s c k =
    let size_of_weak = w.size in
    let size_of_strong = s.size in
    elim (cases_lt k 1024) [
      | inl h ↦ room-covers _ _ (each-Covers weak strong c k h)
      | inr h ↦ rw (get_or_past weak k None (omega arith), get_or_past strong k None (omega arith)) (omega arith)
    ]

pub total_room-covers : (weak strong : Bounds) → IsZone weak → IsZone strong → Covers weak strong → total_room weak ≤ total_room strong
total_room-covers weak strong w s c = total_room-le weak strong (w.size ∙ sym s.size) (each-room weak strong w s c)

falls_at : (weak strong : Bounds) → IsZone weak → IsZone strong → Covers weak strong →
    (k : ℕ) → k < 1024 → covers_bound (get_or strong k None) (get_or weak k None) ≡ false → total_room weak < total_room strong
falls_at weak strong w s c k l f =
    total_room-lt weak strong (w.size ∙ sym s.size) (each-room weak strong w s c) k (rw w.size l)
    (room-covers_more _ _ (s.kept k) (each-Covers weak strong c k l) f)

pub total_room-weakened : (weak strong : Bounds) → IsZone weak → IsZone strong → Covers weak strong →
    (x y : ℕ) → x < 32 → y < 32 → covers_bound (bound strong x y) (bound weak x y) ≡ false → total_room weak < total_room strong
unfolding bound
total_room-weakened weak strong w s c x y hx hy f = falls_at weak strong w s c (32 * x + y) (omega arith) f

-- each of two tables' first n bounds is covered, or one is found that isn't
first_uncovered : (strong weak : Bounds) (n : ℕ) →
    ((k : ℕ) → k < n → covers_bound (get_or strong k None) (get_or weak k None) ≡ true)
    ⊎ ((k : ℕ) × (k < n) × (covers_bound (get_or strong k None) (get_or weak k None) ≡ false))
first_uncovered strong weak zero = inl (λ k h. absurd (omega arith))
first_uncovered strong weak (suc n) =
    elim (first_uncovered strong weak n) [
      | inl below ↦
          (elim (covers_bound (get_or strong n None) (get_or weak n None))
          as (λ r. covers_bound (get_or strong n None) (get_or weak n None) ≡ r →
          ((k : ℕ) → k < suc n → covers_bound (get_or strong k None) (get_or weak k None) ≡ true)
          ⊎ ((k : ℕ) × (k < suc n) × (covers_bound (get_or strong k None) (get_or weak k None) ≡ false))) [
            | true ↦ λ e. inl (λ k h. elim (cases_lt k n) [ inl l ↦ below k l | inr l ↦ let same : k ≡ n = omega arith in rw same e ])
            | false ↦ λ e. inr (n, omega arith, e)
          ]) refl
      | inr found ↦ inr (found.0, omega (arith, found.1), found.2)
    ]

pub total_room-not_covered : (weak strong : Bounds) → IsZone weak → IsZone strong → Covers weak strong →
    (Covers strong weak → ⊥) → total_room weak < total_room strong
total_room-not_covered weak strong w s c not =
    elim (first_uncovered strong weak 1024) [
      | inl all ↦ absurd (not (Covers-each strong weak all))
      | inr found ↦ falls_at weak strong w s c found.0 found.1 found.2
    ]
