-- Where chunks begin, told from groups of them: what comes of one more in some of the numbers, and of a chunk more.
use Rattle.std.proofs.Common.{◌≡◌, ◌≢◌, ℕ, ◌+◌, ◌-◌, ◌*◌, ◌/◌, ◌%◌, ◌^◌, ◌<◌, ◌≤◌, List, [], ◌∷◌, ◌++◌, length, min, get_or, ap, ◌∙◌, sym, arith, length-append, ⊎_elim}
use Rattle.std.proofs.lemmas.Bool.{cases_lt, cases_eq}
use Rattle.std.proofs.lemmas.List.{get_or_past, get_or_append_left, get_or-append_right}
use Rattle.std.proofs.lemmas.List.FromFn.{length-map-range_with_len, get_or-map-range_with_len}
use Rattle.line_store.specs.Starts.{group, in_groups, Grouped, OneMore}

pub length-groups : (groups within : List ℕ) → length (in_groups groups within) ≡ length within
length-groups groups within = length-map-range_with_len (λ k. get_or groups (k / group) 0 + get_or within k 0) 0 (length within)

-- where a chunk begins
pub get_or-groups : (groups within : List ℕ) (k : ℕ) → k < length within →
    get_or (in_groups groups within) k 0 ≡ get_or groups (k / group) 0 + get_or within k 0
get_or-groups groups within k h =
    get_or-map-range_with_len (λ k. get_or groups (k / group) 0 + get_or within k 0) 0 (length within) k k 0 h (omega arith)

-- where the first chunk of a group begins, the group does
pub get_or-first : (groups within : List ℕ) (g : ℕ) → Grouped groups within → g < length groups →
    get_or (in_groups groups within) (group * g) 0 ≡ get_or groups g 0
get_or-first groups within g grouped h =
    let within-it : group * g < length within = omega (arith, grouped.used) in
    let e : group * g / group ≡ g = omega arith in
    omega (arith, get_or-groups groups within (group * g) within-it, grouped.first g, ap (λ n. get_or groups n 0) e)

-- the numbers of the later chunks of a group, up to `end`, and of the later groups are one more
pub record Raised (k end last : ℕ) (groups within more_groups more_within : List ℕ) : Type 0 where
  pub chunk : k < length within
  pub ends : end ≡ k + min (group - k % group) (length within - k)
  pub last_is : last ≡ length groups
  pub all : length within ≤ group * last
  pub of_chunks : OneMore (k + 1) end within more_within
  pub of_groups : OneMore (k / group + 1) last groups more_groups

module _ {k end last : ℕ} {groups within more_groups more_within : List ℕ}
    (r : Raised k end last groups within more_groups more_within) where
  -- so each later chunk begins one line further
  raised-later : (m : ℕ) → k + 1 ≤ m → m < length within →
      get_or (in_groups more_groups more_within) m 0 ≡ get_or (in_groups groups within) m 0 + 1
  raised-later m h l =
      let now = get_or-groups more_groups more_within m (omega (arith, r.of_chunks.long)) in
      let before = get_or-groups groups within m l in
      ⊎_elim
      (λ in_it.
      let same : m / group < k / group + 1 = omega (arith, r.ends) in
      omega (arith, r.of_chunks.between m h in_it, r.of_groups.below (m / group) same))
      (λ out.
      let next : k / group + 1 ≤ m / group = omega (arith, r.ends) in
      omega (arith, r.of_chunks.above m out, r.of_groups.between (m / group) next (omega (arith, r.all))))
      (cases_lt m end)

  -- and no other
  raised-earlier : (m : ℕ) → m < k + 1 → get_or (in_groups more_groups more_within) m 0 ≡ get_or (in_groups groups within) m 0
  raised-earlier m h =
      let now = get_or-groups more_groups more_within m (omega (arith, r.of_chunks.long, r.chunk)) in
      let before = get_or-groups groups within m (omega (arith, r.chunk)) in
      let same : m / group < k / group + 1 = omega arith in
      omega (arith, r.of_chunks.below m h, r.of_groups.below (m / group) same)

  pub raised-starts : (all : ℕ) → all ≡ length within →
      OneMore (k + 1) all (in_groups groups within) (in_groups more_groups more_within)
  raised-starts all e =
      let few = length-groups groups within in
      let many = length-groups more_groups more_within in
      record {
        long = omega (arith, r.of_chunks.long);
        between = λ m h l. raised-later m h (omega arith);
        below = raised-earlier;
        above = λ m h. get_or_past (in_groups more_groups more_within) m 0 (omega (arith, r.of_chunks.long))
            ∙ sym (get_or_past (in_groups groups within) m 0 (omega arith));
      }

  -- the first chunk of a group stays there
  raised-first : (g : ℕ) → get_or more_within (group * g) 0 ≡ get_or within (group * g) 0
  raised-first g = ⊎_elim
      (λ l. r.of_chunks.below (group * g) l)
      (λ l. r.of_chunks.above (group * g) (omega (arith, r.ends)))
      (cases_lt (group * g) (k + 1))

  pub grouped-raised : Grouped groups within →
      ((m : ℕ) → k < m → m < length within → get_or (in_groups groups within) m 0 < 2 ^ 64 - 1) → Grouped more_groups more_within
  grouped-raised grouped fits = record {
    all = omega (arith, r.of_chunks.long, r.of_groups.long, grouped.all);
    used = omega (arith, r.of_chunks.long, r.of_groups.long, grouped.used);
    first = λ g. raised-first g ∙ grouped.first g;
    fits = λ m h.
        let inside : m < length within = omega (arith, r.of_chunks.long) in
        let now = get_or-groups more_groups more_within m h in
        ⊎_elim
        (λ l. omega (arith, raised-later m (omega arith) inside, fits m l inside))
        (λ l. omega (arith, raised-earlier m (omega arith), get_or-groups groups within m inside, grouped.fits m inside))
        (cases_lt k m);
  }

  -- the same the other way round: the numbers are one less
  pub grouped-lowered : Grouped more_groups more_within → Grouped groups within
  grouped-lowered grouped = record {
    all = omega (arith, r.all, r.last_is);
    used = omega (arith, r.of_chunks.long, r.of_groups.long, grouped.used);
    first = λ g. sym (raised-first g) ∙ grouped.first g;
    fits = λ m h.
        let inside : m < length more_within = omega (arith, r.of_chunks.long) in
        let now = get_or-groups groups within m h in
        let before = get_or-groups more_groups more_within m inside in
        ⊎_elim
        (λ l. omega (arith, raised-later m (omega arith) h, grouped.fits m inside))
        (λ l. omega (arith, raised-earlier m (omega arith), grouped.fits m inside))
        (cases_lt k m);
  }

-- where one chunk begins before another of its group, there are lines between
pub some-within : (k end m : ℕ) (groups within : List ℕ) → end ≡ k + min (group - k % group) (length within - k) → k + 1 ≤ m →
    m < end → get_or (in_groups groups within) k 0 < get_or (in_groups groups within) m 0 → 0 < get_or within m 0
some-within k end m groups within e h l less =
    let inside : m < length within = omega arith in
    let same : m / group ≡ k / group = omega arith in
    omega (arith, get_or-groups groups within m inside, get_or-groups groups within k (omega arith), ap (λ n. get_or groups n 0) same)

-- an element after all others
at-end : (list : List ℕ) (x : ℕ) → get_or (list ++ x ∷ []) (length list) 0 ≡ x
at-end list x =
    get_or-append_right list (x ∷ []) (length list) (length list) 0 (let e : length list ≡ length list = omega arith in e) (omega arith)
    ∙ ap (λ n. get_or (x ∷ []) n 0) (let e : length list - length list ≡ 0 = omega arith in e)

before-end : (list : List ℕ) (x k : ℕ) → k < length list → get_or (list ++ x ∷ []) k 0 ≡ get_or list k 0
before-end list x k h = get_or_append_left list (x ∷ []) 0 k h

past-end : (list : List ℕ) (x k : ℕ) → length list < k → get_or (list ++ x ∷ []) k 0 ≡ 0
past-end list x k h = get_or_past (list ++ x ∷ []) k 0 (omega (arith, length-append list (x ∷ [])))

-- the place of a group's first chunk, with a chunk more that begins a group or is no first one
first-pushed : (within : List ℕ) (x g : ℕ) → ((h : ℕ) → get_or within (group * h) 0 ≡ 0) →
    (group * g ≡ length within → x ≡ 0) → get_or (within ++ x ∷ []) (group * g) 0 ≡ 0
first-pushed within x g first here = ⊎_elim
    (λ l. before-end within x (group * g) l ∙ first g)
    (λ l. ⊎_elim
    (λ e. ap (λ n. get_or (within ++ x ∷ []) n 0) e ∙ at-end within x ∙ here e)
    (λ n. past-end within x (group * g) (omega (arith, n)))
    (cases_eq (group * g) (length within)))
    (cases_lt (group * g) (length within))

-- a chunk more, which begins a group
pub record Begun (start : ℕ) (groups within : List ℕ) : Type 0 where
  pub grouped : Grouped (groups ++ start ∷ []) (within ++ 0 ∷ [])
  pub last : get_or (in_groups (groups ++ start ∷ []) (within ++ 0 ∷ [])) (length within) 0 ≡ start
  pub earlier : (k : ℕ) → k < length within →
      get_or (in_groups (groups ++ start ∷ []) (within ++ 0 ∷ [])) k 0 ≡ get_or (in_groups groups within) k 0

pub begun : (start : ℕ) (groups within : List ℕ) → Grouped groups within → length within % group ≡ 0 → start < 2 ^ 64 →
    Begun start groups within
begun start groups within grouped whole small =
    let more = length-append within (0 ∷ []) in
    let more_groups = length-append groups (start ∷ []) in
    let count : length within / group ≡ length groups = omega (arith, grouped.all, grouped.used) in
    let last : get_or (in_groups (groups ++ start ∷ []) (within ++ 0 ∷ [])) (length within) 0 ≡ start =
    omega (
      arith,
      get_or-groups (groups ++ start ∷ []) (within ++ 0 ∷ []) (length within) (omega arith),
      ap (λ n. get_or (groups ++ start ∷ []) n 0) count,
      at-end groups start,
      at-end within 0,
    ) in
    let earlier : (k : ℕ) → k < length within →
    get_or (in_groups (groups ++ start ∷ []) (within ++ 0 ∷ [])) k 0 ≡ get_or (in_groups groups within) k 0 =
    λ k h. omega (
      arith,
      get_or-groups (groups ++ start ∷ []) (within ++ 0 ∷ []) k (omega arith),
      get_or-groups groups within k h,
      before-end groups start (k / group) (omega (arith, grouped.all)),
      before-end within 0 k h,
    ) in
    record {
      grouped = record {
        all = omega (arith, grouped.all);
        used = omega (arith, grouped.used);
        first = λ g. first-pushed within 0 g grouped.first (λ e. let z : 0 ≡ 0 = omega arith in z);
        fits = λ k h.
            let now = get_or-groups (groups ++ start ∷ []) (within ++ 0 ∷ []) k h in
            ⊎_elim
            (λ l. omega (arith, earlier k l, get_or-groups groups within k l, grouped.fits k l))
            (λ l. omega (
              arith,
              ap (λ n. get_or (in_groups (groups ++ start ∷ []) (within ++ 0 ∷ [])) n 0)
                  (let e : k ≡ length within = omega arith in e),
              last,
            ))
            (cases_lt k (length within));
      };
      last = last;
      earlier = earlier;
    }

-- a chunk more in the last group
pub record Continued (start first : ℕ) (groups within : List ℕ) : Type 0 where
  pub grouped : Grouped groups (within ++ (start - first) ∷ [])
  pub last : get_or (in_groups groups (within ++ (start - first) ∷ [])) (length within) 0 ≡ start
  pub earlier : (k : ℕ) → k < length within →
      get_or (in_groups groups (within ++ (start - first) ∷ [])) k 0 ≡ get_or (in_groups groups within) k 0

pub continued : (start first : ℕ) (groups within : List ℕ) → Grouped groups within → length within % group ≢ 0 →
    start < 2 ^ 64 → first ≡ get_or groups (length within / group) 0 → first ≤ start → Continued start first groups within
continued start first groups within grouped part small is h =
    let new = within ++ (start - first) ∷ [] in
    let more = length-append within ((start - first) ∷ []) in
    let last : get_or (in_groups groups new) (length within) 0 ≡ start =
    omega (arith, get_or-groups groups new (length within) (omega arith), at-end within (start - first)) in
    let earlier : (k : ℕ) → k < length within → get_or (in_groups groups new) k 0 ≡ get_or (in_groups groups within) k 0 =
    λ k h. omega (
      arith,
      get_or-groups groups new k (omega arith),
      get_or-groups groups within k h,
      before-end within (start - first) k h,
    ) in
    record {
      grouped = record {
        all = omega (arith, grouped.all, part);
        used = omega (arith, grouped.used);
        first = λ g. first-pushed within (start - first) g grouped.first (λ e. absurd (part (omega arith)));
        fits = λ k h.
            let now = get_or-groups groups new k h in
            ⊎_elim
            (λ l. omega (arith, earlier k l, get_or-groups groups within k l, grouped.fits k l))
            (λ l. omega (arith, ap (λ n. get_or (in_groups groups new) n 0) (let e : k ≡ length within = omega arith in e), last))
            (cases_lt k (length within));
      };
      last = last;
      earlier = earlier;
    }

-- a group begins no later than what comes after all chunks
pub group-least : (start : ℕ) (groups within : List ℕ) → Grouped groups within → length within % group ≢ 0 →
    ((k : ℕ) → k < length within → get_or (in_groups groups within) k 0 ≤ start) →
    get_or groups (length within / group) 0 ≤ start
group-least start groups within grouped part order =
    let g = length within / group in
    let inside : group * g < length within = omega (arith, part) in
    omega (arith, get_or-first groups within g grouped (omega (arith, grouped.all)), order (group * g) inside)
