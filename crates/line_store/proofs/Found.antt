-- A line of a chunk: told, exchanged, flagged, taken out and put; and the first one that has the flag.
use Rattle.std.proofs.Common.{◌≡◌, ℕ, ◌+◌, ◌-◌, ◌<◌, ◌≤◌, Bool, false, List, [], length, get_or, set, insert, remove, refl, sym, ap, ◌∙◌, arith, length-set, ⊎_elim}
use Rattle.std.proofs.lemmas.Bool.{cases_lt}
use Rattle.ed_base.specs.Buffer.{Line, plain_line, with_flag, flagged_at}
use Rattle.line_store.specs.Chunks.{ChunksValue, StandsIn, Touches, joined, lines_before, with_chunk}
use Rattle.line_store.specs.Flagged.{FirstFlagged}
use Rattle.line_store.proofs.Joined.{before-within, get_or-joined, joined-set, joined-remove, joined-insert}

-- the line stands at this place of this chunk
pub record Found (i k place : ℕ) (v : ChunksValue) : Type 0 where
  pub chunk : k < length v.chunks
  pub inner : place < length (get_or v.chunks k [])
  pub there : i ≡ lines_before k v.chunks + place

pub found : (i k start : ℕ) (v : ChunksValue) → StandsIn i k v.chunks → start ≡ lines_before k v.chunks → Found i k (i - start) v
found i k start v stands begins = record {
  chunk = stands.chunk;
  inner = omega (arith, stands.low, stands.high);
  there = omega (arith, stands.low);
}

-- it is the line of all chunks
pub line-found : {i k place : ℕ} {v : ChunksValue} (d : Line) → Found i k place v → get_or (get_or v.chunks k []) place d ≡ get_or (joined v.chunks) i d
line-found {i} {k} {place} {v} d f = sym (get_or-joined v.chunks k place i d f.chunk f.inner f.there)

-- another line in its place
pub exchanged-found : {i k place : ℕ} {v : ChunksValue} (new : ChunksValue) (line : Line) → Found i k place v →
    new ≡ with_chunk k (set (get_or v.chunks k []) place line) v → joined new.chunks ≡ set (joined v.chunks) i line
exchanged-found {i} {k} {place} {v} new line f put =
    ap (λ w. joined w.chunks) put ∙ joined-set v.chunks k place i line f.chunk f.inner f.there

-- the line with another flag
pub flagged-found : {i k place : ℕ} {v : ChunksValue} (new : ChunksValue) (flag : Bool) → Found i k place v →
    new ≡ with_chunk k (flagged_at place flag (get_or v.chunks k [])) v → joined new.chunks ≡ flagged_at i flag (joined v.chunks)
flagged-found {i} {k} {place} {v} new flag f put =
    exchanged-found new (with_flag flag (get_or (get_or v.chunks k []) place (plain_line []))) f put
    ∙ ap (λ l. set (joined v.chunks) i (with_flag flag l)) (line-found (plain_line []) f)

-- all but the line
pub removed-found : {i k place : ℕ} {v : ChunksValue} (new : ChunksValue) → Found i k place v →
    new ≡ with_chunk k (remove (get_or v.chunks k []) place) v → joined new.chunks ≡ remove (joined v.chunks) i
removed-found {i} {k} {place} {v} new f taken = ap (λ w. joined w.chunks) taken ∙ joined-remove v.chunks k place i f.chunk f.inner f.there

-- one more line
pub inserted-touched : (at k start : ℕ) (old new : ChunksValue) (line : Line) → Touches at k old.chunks → start ≡ lines_before k old.chunks →
    new ≡ with_chunk k (insert (get_or old.chunks k []) (at - start) line) old → joined new.chunks ≡ insert (joined old.chunks) at line
inserted-touched at k start old new line touches begins put =
    ap (λ w. joined w.chunks) put
    ∙ joined-insert old.chunks k (at - start) at line touches.chunk (omega (arith, touches.low, touches.high)) (omega (arith, touches.low))

-- there are as many chunks as before
pub length-with : (k : ℕ) (old new : ChunksValue) (chunk : List Line) → new ≡ with_chunk k chunk old → length new.chunks ≡ length old.chunks
length-with k old new chunk put = ap (λ w. length w.chunks) put ∙ length-set old.chunks k chunk

-- where no line of a chunk from a place on has the flag, none of all lines there has it
pub none-in-chunk : (k next place i : ℕ) (chunks : List (List Line)) → k < length chunks → lines_before k chunks ≤ next →
    FirstFlagged (next - lines_before k chunks) place (get_or chunks k []) → next ≤ i → i < lines_before k chunks + place →
    (get_or (joined chunks) i (plain_line [])).flag ≡ false
none-in-chunk k next place i chunks inside start first low high =
    let at = i - lines_before k chunks in
    ap (λ line. line.flag) (get_or-joined chunks k at i (plain_line []) inside (omega (arith, first.high)) (omega arith))
    ∙ first.none at (omega arith) (omega arith)

-- the flagged line that was found in a chunk is that of all lines
pub first-in-chunk : (from next k place : ℕ) (chunks : List (List Line)) → k < length chunks → from ≤ next → lines_before k chunks ≤ next → place < length (get_or chunks k []) →
    FirstFlagged (next - lines_before k chunks) place (get_or chunks k []) →
    ((i : ℕ) → from ≤ i → i < next → (get_or (joined chunks) i (plain_line [])).flag ≡ false) → FirstFlagged from (lines_before k chunks + place) (joined chunks)
first-in-chunk from next k place chunks inside low start within first none = record {
  low = omega (arith, first.low);
  high = omega (arith, before-within k chunks inside);
  none = λ i h l. ⊎_elim (λ a. none i h a) (λ a. none-in-chunk k next place i chunks inside start first a l) (cases_lt i next);
  flagged = λ h.
      ap (λ line. line.flag) (get_or-joined chunks k place (lines_before k chunks + place) (plain_line []) inside within refl)
      ∙ first.flagged within;
}
