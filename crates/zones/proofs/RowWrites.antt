-- Tables that are written row by row, and rows bound by bound.
use Rattle.std.proofs.Common.{◌≡◌, ◌≢◌, ◌<◌, ◌≤◌, ◌+◌, ◌*◌, ℕ, ℤ, set, length, Option, arith, ◌∙◌, refl, below_more, length-set, inl, inr}
use Rattle.std.proofs.lemmas.Bool.{cases_lt}
use Rattle.zones.specs.Zone.{Bounds, bound, zone_by}
use Rattle.zones.specs.RowWrites.{IsRowWritten}
use Rattle.zones.proofs.Places.{zone_by-each}
use Rattle.zones.proofs.Writes.{bound-set_row, bound-set_column, row-set}

pub row-begun : (old : Bounds) (row_at : ℕ → Option ℤ) (p : ℕ) → length old ≡ 1024 → IsRowWritten old old row_at p 0
row-begun old row_at p size = record {
  size = size;
  row = λ b h. absurd (omega arith);
  rest = λ b h hb. refl;
  others = λ a b hb n. refl;
}

pub row-next : (old table : Bounds) (row_at : ℕ → Option ℤ) (p q : ℕ) (v : Option ℤ) → p < 32 → q < 32 → IsRowWritten old table row_at p q → v ≡ row_at q →
    IsRowWritten old (set table (32 * p + q) v) row_at p (q + 1)
row-next old table row_at p q v hp hq so_far here = record {
  size = length-set table (32 * p + q) v ∙ so_far.size;
  row = row-set table row_at p q v hq (omega (arith, so_far.size)) here so_far.row;
  rest = λ b l hb. bound-set_column table p q p b v hq hb (omega arith) ∙ so_far.rest b (omega arith) hb;
  others = λ a b hb n. bound-set_row table p q a b v hq hb n ∙ so_far.others a b hb n;
}

pub row-skipped : (old table : Bounds) (row_at : ℕ → Option ℤ) (p q : ℕ) → q < 32 → IsRowWritten old table row_at p q → bound old p q ≡ row_at q →
    IsRowWritten old table row_at p (q + 1)
row-skipped old table row_at p q hq so_far here = record {
  size = so_far.size;
  row = below_more (λ b. bound table p b ≡ row_at b) q so_far.row (so_far.rest q (omega arith) hq ∙ here);
  rest = λ b l hb. so_far.rest b (omega arith) hb;
  others = so_far.others;
}

-- a table is written up to a row
pub record IsTableWritten (old table : Bounds) (bound_at : ℕ → ℕ → Option ℤ) (p : ℕ) : Type 0 where
  pub size : length table ≡ 1024
  pub done : (a : ℕ) → a < p → (b : ℕ) → b < 32 → bound table a b ≡ bound_at a b
  pub rest : (a : ℕ) → p ≤ a → a < 32 → (b : ℕ) → b < 32 → bound table a b ≡ bound old a b

pub table-begun : (old : Bounds) (bound_at : ℕ → ℕ → Option ℤ) → length old ≡ 1024 → IsTableWritten old old bound_at 0
table-begun old bound_at size = record {
  size = size;
  done = λ a h b hb. absurd (omega arith);
  rest = λ a h ha b hb. refl;
}

pub table-next : (old table new : Bounds) (bound_at : ℕ → ℕ → Option ℤ) (p : ℕ) → p < 32 → IsTableWritten old table bound_at p → length new ≡ 1024 →
    ((b : ℕ) → b < 32 → bound new p b ≡ bound_at p b) → ((a b : ℕ) → a ≢ p → a < 32 → b < 32 → bound new a b ≡ bound table a b) →
    IsTableWritten old new bound_at (p + 1)
table-next old table new bound_at p hp so_far size row others = record {
  size = size;
  done = below_more (λ a. (b : ℕ) → b < 32 → bound new a b ≡ bound_at a b) p
      (λ a l b hb. others a b (omega arith) (omega arith) hb ∙ so_far.done a l b hb) row;
  rest = λ a l ha b hb. others a b (omega arith) ha hb ∙ so_far.rest a (omega arith) ha b hb;
}

pub table-skipped : (old table : Bounds) (bound_at : ℕ → ℕ → Option ℤ) (p : ℕ) → p < 32 → IsTableWritten old table bound_at p →
    ((b : ℕ) → b < 32 → bound old p b ≡ bound_at p b) → IsTableWritten old table bound_at (p + 1)
table-skipped old table bound_at p hp so_far row =
    table-next old table table bound_at p hp so_far so_far.size (λ b hb. so_far.rest p (omega arith) hp b hb ∙ row b hb) (λ a b n ha hb. refl)

-- a table is written up to the next row, of which a front was written
pub table-row : (old table new : Bounds) (bound_at : ℕ → ℕ → Option ℤ) (row_at : ℕ → Option ℤ) (p most : ℕ) → p < 32 → IsTableWritten old table bound_at p →
    IsRowWritten table new row_at p most → ((b : ℕ) → b < most → b < 32 → row_at b ≡ bound_at p b) → ((b : ℕ) → most ≤ b → b < 32 → bound old p b ≡ bound_at p b) →
    IsTableWritten old new bound_at (p + 1)
table-row old table new bound_at row_at p most hp so_far written front back =
    table-next old table new bound_at p hp so_far written.size
    (λ b hb. elim (cases_lt b most) [
      | inl low ↦ written.row b low ∙ front b low hb
      | inr high ↦ written.rest b high hb ∙ so_far.rest p (omega arith) hp b hb ∙ back b high hb
    ])
    (λ a b n ha hb. written.others a b hb n)

-- a table of which the other rows stay
pub table-reached : (old table : Bounds) (bound_at : ℕ → ℕ → Option ℤ) (p : ℕ) → IsTableWritten old table bound_at p →
    ((a b : ℕ) → p ≤ a → a < 32 → b < 32 → bound old a b ≡ bound_at a b) → table ≡ zone_by bound_at
table-reached old table bound_at p so_far others =
    zone_by-each bound_at table so_far.size
    (λ a b ha hb. elim (cases_lt a p) [
      | inl low ↦ so_far.done a low b hb
      | inr high ↦ so_far.rest a high ha b hb ∙ others a b high ha hb
    ])
