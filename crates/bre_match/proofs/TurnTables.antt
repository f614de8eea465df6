-- The tables of a repeat's turns, and the groups that are read off by them.
use Rattle.std.proofs.Common.{◌≡◌, ℕ, zero, suc, ◌+◌, ◌-◌, ◌<◌, ◌≤◌, ◌⊎◌, inl, inr, List, [], ◌∷◌, ◌++◌, length, get_or, Option, Some, None, Bool, true, false, eqb, leb, Vec, Global, refl, ap, sym, ◌∙◌, subst, arith, length-append}
use Rattle.std.proofs.lemmas.Bool.Decides.{nat_tests}
use Rattle.std.proofs.lemmas.Option.{slice_get_read}
use Rattle.std.specs.Prelude.{◌&&◌, slice_get}
use Rattle.std.proofs.Math.Nat.{eq-or-lt_of_le}
use Rattle.bre_parse.specs.Tree.{Tree, Group, Repeat}
use Rattle.bre_parse.specs.Groups.{Groups, cleared}
use Rattle.bre_parse.specs.Ways.{ways, turns, fresh_turn, below, enough}
use Rattle.bre_parse.specs.WellFormed.{bounds_in_order, repeats_in_order}
use Rattle.bre_parse.specs.Groups.{refers}
use Rattle.bre_parse.specs.Laws.{first_to}
use Rattle.bre_match.specs.Parts.{Part, Star, Power, Reaches, part_of, written_out}
use Rattle.bre_match.specs.Ends.{LastEnd, LastEnds, leads_on}
use Rattle.bre_match.specs.Tables.{Within, Turned, TurnTable, told_turns, IsTurns, LeadsThere}
use Rattle.bre_match.proofs.Columns.{forth}
use Rattle.bre_match.proofs.EndTables.{retold, no_ends, leads, leads_at_end, leads_further}
use Rattle.bre_match.proofs.RowTables.{pushed_there, there_before, there}
use Rattle.bre_match.proofs.Groups.{groups_in_turn, groups_at_stop, groups_of_idle}
use Rattle.bre_match.proofs.Mirror.{power_forth}
use Rattle.bre_match.proofs.TreeReach.{unwritten, both_left, both_right}
use Rattle.bre_match.proofs.WaysReach.{within_step, within_next, busy_moves}

no_below : (n done : ℕ) → n ≤ done → below done (Some n) ≡ true → ⊥
no_below n done le h = absurd (let f : done < n = grind (arith, nat_tests, h) in omega arith)

-- The table of all turns that have none of their own: none may begin.
pub none_further : (c : Part) (s : List ℕ) (b e : ℕ) (table : List (Option ℕ)) (n least done : ℕ) → table ≡ [] → n ≤ done → TurnTable c least (Some n) s b e done table
none_further c s b e table n least done is le =
    retold c s b e table (λ m. ⊥) (λ m. (below done (Some n) ≡ true) × Turned (Reaches c s) least (Some n) (done + 1) m e)
    (λ m lo hi g. absurd g) (λ m lo hi g. no_below n done le g.0) (no_ends c s b e table is)

-- Or they have no bound, and each is like the next.
pub like_the_next : (c : Part) (s : List ℕ) (b e : ℕ) (on table : List (Option ℕ)) (least done : ℕ) → LastEnds (Star c) (λ n. leads_on true [] (e - n) ≡ true) s b e on → LastEnds c (λ n. leads_on false on (e - n) ≡ true) s b e table → least ≤ done → TurnTable c least None s b e done table
like_the_next c s b e on table least done stars ends le =
    retold c s b e table (λ n. leads_on false on (e - n) ≡ true) (λ n. (below done None ≡ true) × Turned (Reaches c s) least None (done + 1) n e)
    (λ n lo hi t. goes n lo hi t) (λ n lo hi g. told n lo hi g) ends
  where
    at_end : (m : ℕ) → m ≤ e → leads_on true [] (e - m) ≡ true → m ≡ e
    at_end m le2 t =
        elim (leads c (λ n. ⊥) s m e true [] (no_ends c s m e [] refl) m (omega arith) le2 t) [ inl i ↦ i.1 | inr i ↦ absurd i.3 ]

    goes : (n : ℕ) → b ≤ n → n ≤ e → leads_on false on (e - n) ≡ true → (below done None ≡ true) × Turned (Reaches c s) least None (done + 1) n e
    goes n lo hi t =
        elim (leads (Star c) (λ m. leads_on true [] (e - m) ≡ true) s b e false on stars n lo hi t) [
          | inl i ↦ absurd (let f = i.0 in cc)
          | inr i ↦ (
              let same = at_end i.0 i.1 i.3 in
              (refl, (i.2.0, omega arith, tt, subst (λ z. Power (Reaches c s) i.2.0 n z) same i.2.1)))
        ]

    told : (n : ℕ) → b ≤ n → n ≤ e → (below done None ≡ true) × Turned (Reaches c s) least None (done + 1) n e → leads_on false on (e - n) ≡ true
    told n lo hi g =
        leads_further (Star c) (λ m. leads_on true [] (e - m) ≡ true) s b e false on stars n e lo hi (omega arith) (g.1.0, g.1.3) (leads_at_end true [] e e refl refl)

may_begin : (least : ℕ) (most : Option ℕ) (done : ℕ) → done < told_turns least most → below done most ≡ true
may_begin least None done lt = refl
may_begin least (Some n) done lt = grind (arith, nat_tests, lt)

within_none : (most : Option ℕ) (done : ℕ) → below done most ≡ true → Within most (done + 1 + 0)
within_none None done h = tt
within_none (Some n) done h = let f : done < n = grind (arith, nat_tests, h) in omega arith

within_more : (most : Option ℕ) (done k : ℕ) → Within most (done + 1 + 1 + k) → Within most (done + 1 + suc k)
within_more None done k h = tt
within_more (Some n) done k h = omega arith

within_fewer : (most : Option ℕ) (done k : ℕ) → Within most (done + 1 + suc k) → Within most (done + 1 + 1 + k)
within_fewer None done k h = tt
within_fewer (Some n) done k h = omega arith

still_below : (most : Option ℕ) (done k : ℕ) → Within most (done + suc k) → below done most ≡ true
still_below None done k h = refl
still_below (Some n) done k h = grind (arith, nat_tests)

pub further_turns : (c : Part) (s : List ℕ) (b e : ℕ) (most : Option ℕ) (on read table : List (Option ℕ)) → most ≡ None → read ≡ on → LastEnds (Star c) (λ n. leads_on true [] (e - n) ≡ true) s b e on → LastEnds c (λ n. leads_on false read (e - n) ≡ true) s b e table → (least done : ℕ) → told_turns least most ≤ done → TurnTable c least most s b e done table
further_turns c s b e most on read table is same stars ends least done =
    subst (λ m. told_turns least m ≤ done → TurnTable c least m s b e done table) (sym is)
    (λ le. like_the_next c s b e on table least done stars (subst (λ z. LastEnds c (λ n. leads_on false z (e - n) ≡ true) s b e table) same ends) le)

-- A turn's table by that of the turn after it.
pub turn_before : (c : Part) (s : List ℕ) (b e : ℕ) (next table : List (Option ℕ)) (stops : Bool) (least : ℕ) (most : Option ℕ) (done : ℕ) → TurnTable c least most s b e (done + 1) next → LastEnds c (λ n. leads_on stops next (e - n) ≡ true) s b e table → below done most ≡ true → stops ≡ leb least (done + 1) → TurnTable c least most s b e done table
turn_before c s b e next table stops least most done later ends may stop =
    retold c s b e table (λ n. leads_on stops next (e - n) ≡ true) (λ n. (below done most ≡ true) × Turned (Reaches c s) least most (done + 1) n e)
    (λ n lo hi t. goes n lo hi t) (λ n lo hi g. told n lo hi g.1) ends
  where
    goes : (n : ℕ) → b ≤ n → n ≤ e → leads_on stops next (e - n) ≡ true → (below done most ≡ true) × Turned (Reaches c s) least most (done + 1) n e
    goes n lo hi t =
        elim (leads c (λ m. (below (done + 1) most ≡ true) × Turned (Reaches c s) least most (done + 1 + 1) m e) s b e stops next later n lo hi t) [
          | inl i ↦ (
              let f : leb least (done + 1) ≡ true = sym stop ∙ i.0 in
              let le : least ≤ done + 1 = grind (arith, nat_tests, f) in
              (may, (0, omega arith, within_none most done may, i.1)))
          | inr i ↦ (
              let k = i.3.1.0 in
              let need : least ≤ done + 1 + 1 + k = i.3.1.1 in
              (may, (suc k, omega arith, within_more most done k i.3.1.2, (i.0, i.2, i.3.1.3))))
        ]

    told : (n : ℕ) → b ≤ n → n ≤ e → Turned (Reaches c s) least most (done + 1) n e → leads_on stops next (e - n) ≡ true
    told n lo hi (zero, need, few, same) =
        leads_at_end stops next e n (stop ∙ (let f : least ≤ done + 1 = omega arith in grind (arith, nat_tests, f))) same
    told n lo hi (suc k, need, few, on) =
        let up = power_forth (Reaches c s) (forth c s) k on.0 e on.2 in
        leads_further c (λ m. (below (done + 1) most ≡ true) × Turned (Reaches c s) least most (done + 1 + 1) m e) s b e stops next later n on.0 lo hi up on.1
        (still_below most (done + 1) k few, (k, omega arith, within_fewer most done k few, on.2))

pub record TurnsSoFar (c : Part) (least : ℕ) (most : Option ℕ) (text : List ℕ) (low high told : ℕ) (tables : List (Vec (Option ℕ) Global)) : Type 0 where
  pub few : told ≤ told_turns least most
  pub size : length tables ≡ told + 1
  pub each : (done : ℕ) (table : Vec (Option ℕ) Global) → told_turns least most ≤ done + told → slice_get tables (told_turns least most - done) ≡ Some table → TurnTable c least most text low high done table.items

pub turns_begun : (c : Part) (least : ℕ) (most : Option ℕ) (s : List ℕ) (b e : ℕ) (tables : List (Vec (Option ℕ) Global)) (base : Vec (Option ℕ) Global) → tables ≡ base ∷ [] → ((done : ℕ) → told_turns least most ≤ done → TurnTable c least most s b e done base.items) → TurnsSoFar c least most s b e 0 tables
turns_begun c least most s b e tables base all further = record {
  few = omega arith;
  size = ap length all;
  each = λ done table le h.
      let first : told_turns least most - done ≡ 0 = omega arith in
      let same : base ≡ table =
      (let f : slice_get (base ∷ []) 0 ≡ Some table = ap (λ (l : List (Vec (Option ℕ) Global)). slice_get l 0) (sym all) ∙ subst (λ z. slice_get tables z ≡ Some table) first h in cc) in
      subst (λ (z : Vec (Option ℕ) Global). TurnTable c least most s b e done z.items) same (further done (omega arith));
}

pub turns_next : (c : Part) (least : ℕ) (most : Option ℕ) (s : List ℕ) (b e told turns : ℕ) (stops : Bool) (tables all : List (Vec (Option ℕ) Global)) (prev new : Vec (Option ℕ) Global) (read : List (Option ℕ)) → turns ≡ told_turns least most → read ≡ prev.items → TurnsSoFar c least most s b e told tables → told < turns → stops ≡ leb least (turns - told) → prev ≡ get_or tables told prev → all ≡ tables ++ new ∷ [] → LastEnds c (λ n. leads_on stops read (e - n) ≡ true) s b e new.items → TurnsSoFar c least most s b e (told + 1) all
turns_next c least most s b e told turns_there stops tables all prev new read_there num same_read h lower stop_there at made ended =
    subst (λ z. TurnsSoFar c least most s b e (told + 1) z) (sym made) (record {
      few = let l : told < told_turns least most = lt in omega arith;
      size = let n = h.size in length-append tables (new ∷ []) ∙ omega arith;
      each = λ done table le i. by_cases done table le i (eq-or-lt_of_le {n = told_turns least most} {m = done + (told + 1)} le);
    })
  where
    lt : told < told_turns least most
    lt = subst (λ z. told < z) num lower

    stop : stops ≡ leb least (told_turns least most - told)
    stop = stop_there ∙ ap (λ z. leb least (z - told)) num

    ends : LastEnds c (λ n. leads_on stops prev.items (e - n) ≡ true) s b e new.items
    ends = subst (λ z. LastEnds c (λ n. leads_on stops z (e - n) ≡ true) s b e new.items) same_read ended

    by_cases : (done : ℕ) (table : Vec (Option ℕ) Global) → told_turns least most ≤ done + (told + 1) → slice_get (tables ++ new ∷ []) (told_turns least most - done) ≡ Some table → (told_turns least most ≡ done + (told + 1)) ⊎ (told_turns least most < done + (told + 1)) → TurnTable c least most s b e done table.items
    by_cases done table le i (inr before) =
        let n = h.size in
        let l : told < told_turns least most = lt in
        h.each done table (omega arith) (there_before tables new table (told_turns least most - done) (omega arith) i)
    by_cases done table le i (inl here) =
        let n = h.size in
        let l : told < told_turns least most = lt in
        let same : new ≡ table = pushed_there tables new table (told_turns least most - done) (omega arith) i in
        let there : slice_get tables told ≡ Some prev = slice_get_read tables (told + 1) told prev (sym n) (omega arith) at in
        let next : told_turns least most - (done + 1) ≡ told = omega arith in
        let later : TurnTable c least most s b e (done + 1) prev.items = h.each (done + 1) prev (omega arith) (subst (λ z. slice_get tables z ≡ Some prev) (sym next) there) in
        let turns_left : told_turns least most - told ≡ done + 1 = omega arith in
        subst (λ (z : Vec (Option ℕ) Global). TurnTable c least most s b e done z.items) same
        (turn_before c s b e prev.items new.items stops least most done later ends (may_begin least most done (omega arith)) (stop ∙ ap (leb least) turns_left))

pub turns_told : (c : Part) (least : ℕ) (most : Option ℕ) (s : List ℕ) (b e told : ℕ) (tables : List (Vec (Option ℕ) Global)) → TurnsSoFar c least most s b e told tables → told_turns least most ≤ told → IsTurns c least most s b e tables
turns_told c least most s b e told tables h le =
    let few = h.few in
    let n = h.size in
    record {
      size = omega arith;
      each = λ done table at. h.each done table (omega arith) at;
    }

-- How far the groups of a repeat are read off
pub record TurnsRead (c : Tree) (s : List ℕ) (least : ℕ) (most : Option ℕ) (low high done place : ℕ) (old groups : Groups) : Type 0 where
  pub above : low ≤ place
  pub below_high : place ≤ high
  pub few : done ≤ least + (place - low)
  pub in_most : Within most done
  pub rest : Turned (Reaches (part_of c) s) least most done place high
  pub fuel : ℕ
  pub room : suc ((least - done) + (length s - place)) ≤ fuel
  pub first : first_to high (ways (Repeat least most c) s low old) ≡ first_to high (turns fuel (fresh_turn c (ways c s)) least most done place groups)

within_zero : (most : Option ℕ) → Within most 0
within_zero None = tt
within_zero (Some n) = omega arith

within_plus : (most : Option ℕ) (k : ℕ) → Within most k → Within most (0 + k)
within_plus None k h = tt
within_plus (Some n) k h = omega arith

pub turns_read_begun : (c : Tree) (s : List ℕ) (least : ℕ) (most : Option ℕ) (low high : ℕ) (old : Groups) → bounds_in_order least most ≡ true → Reaches (written_out least most (part_of c)) s low high → TurnsRead c s least most low high 0 low old old
turns_read_begun c s least most low high old order r =
    let h = unwritten (part_of c) s least most low high order r in
    let up = power_forth (Reaches (part_of c) s) (forth (part_of c) s) h.0 low high h.3 in
    let need : least ≤ h.0 = h.1 in
    record {
      above = omega arith;
      below_high = up;
      few = omega arith;
      in_most = within_zero most;
      rest = (h.0, omega arith, within_plus most h.0 h.2, h.3);
      fuel = enough least s low;
      room = omega arith;
      first = refl;
    }

-- the last end of a turn
pub turn_end : (c : Tree) (s : List ℕ) (least : ℕ) (most : Option ℕ) (low high done place number turns : ℕ) (old groups : Groups) (tables all : List (Vec (Option ℕ) Global)) (o : Option ℕ) → IsTurns (part_of c) least most s low high tables → all ≡ tables → TurnsRead c s least most low high done place old groups → turns ≡ told_turns least most → number ≡ turns - done → ((table : Vec (Option ℕ) Global) → slice_get all number ≡ Some table → o ≡ get_or table.items (high - place) None) → LastEnd (part_of c) (λ n. (below done most ≡ true) × Turned (Reaches (part_of c) s) least most (done + 1) n high) s high place o
turn_end c s least most low high done place number turns old groups tables all o made same h is i told =
    let n = made.size in
    let table = there tables number (omega arith) in
    let j : number ≡ told_turns least most - done = omega arith in
    subst (λ z. LastEnd (part_of c) (λ m. (below done most ≡ true) × Turned (Reaches (part_of c) s) least most (done + 1) m high) s high place z)
    (sym (told table.0 (ap (λ (l : List (Vec (Option ℕ) Global)). slice_get l number) same ∙ table.1)))
    (made.each done table.0 (subst (λ z. slice_get tables z ≡ Some table.0) j table.1) place h.above h.below_high)

pub turns_fall : (c : Part) (s : List ℕ) (least : ℕ) (most : Option ℕ) (high done place left : ℕ) → LastEnd c (λ n. (below done most ≡ true) × Turned (Reaches c s) least most (done + 1) n high) s high place (Some left) → (eqb (high - left) place && leb least done) ≡ false → place ≤ high → (least - (done + 1)) + (high - (high - left)) < (least - done) + (high - place)
turns_fall c s least most high done place left ends busy le =
    let up = forth c s place (high - left) ends.1 in
    elim (busy_moves (high - left) place least done busy up) [ inl i ↦ omega arith | inr i ↦ omega arith ]

-- A turn that isn't idle
pub turns_read_next : (c : Tree) (s : List ℕ) (least : ℕ) (most : Option ℕ) (low high done place left end : ℕ) (old groups new : Groups) → refers c ≡ false → repeats_in_order c ≡ true → high ≤ length s → TurnsRead c s least most low high done place old groups → LastEnd (part_of c) (λ n. (below done most ≡ true) × Turned (Reaches (part_of c) s) least most (done + 1) n high) s high place (Some left) → end ≡ high - left → (eqb end place && leb least done) ≡ false → first_to end (ways c s place (cleared c groups)) ≡ Some (end, new) → TurnsRead c s least most low high (done + 1) end old new
turns_read_next c s least most low high done place left end old groups new free order within h ends e busy to =
    go h.fuel h.room h.first
  where
    there : Reaches (part_of c) s place end
    there = subst (λ z. Reaches (part_of c) s place z) (sym e) ends.1

    on : Turned (Reaches (part_of c) s) least most (done + 1) end high
    on = subst (λ z. Turned (Reaches (part_of c) s) least most (done + 1) z high) (sym e) ends.2.1

    up : place ≤ end
    up = forth (part_of c) s place end there

    moves : (place < end) ⊎ (done < least)
    moves = busy_moves end place least done busy up

    go : (fuel : ℕ) → suc ((least - done) + (length s - place)) ≤ fuel → first_to high (ways (Repeat least most c) s low old) ≡ first_to high (turns fuel (fresh_turn c (ways c s)) least most done place groups) → TurnsRead c s least most low high (done + 1) end old new
    go zero room first = absurd (omega arith)
    go (suc fuel) room first =
        let a = h.above in
        let b = h.below_high in
        let f = h.few in
        let u : place ≤ end = up in
        let last_end : end ≤ high = omega arith in
        let less : suc ((least - (done + 1)) + (length s - end)) ≤ fuel = elim moves [ inl i ↦ omega arith | inr i ↦ omega arith ] in
        record {
          above = omega arith;
          below_high = omega arith;
          few = elim moves [ inl i ↦ omega arith | inr i ↦ omega arith ];
          in_most = within_next most done ends.2.0;
          rest = on;
          fuel = fuel;
          room = less;
          first =
              first
              ∙ groups_in_turn c free order s least most fuel done place end high groups (end, new) (omega arith) ends.2.0 to busy less on
              (λ n above ra rb.
              let g = power_forth (Reaches (part_of c) s) (forth (part_of c) s) rb.0 n high rb.3 in
              ends.3 n (omega arith) g ra (ends.2.0, rb));
        }

-- Where no turn goes on, or only an idle one, the repeat ends.

-- of several turns the first that takes a byte
first_busy : (R : ℕ → ℕ → Type 0) → ((p q : ℕ) → R p q → p ≤ q) → (k x y : ℕ) → Power R k x y → (x ≡ y) ⊎ ((m : ℕ) × (j : ℕ) × (x < m) × (j < k) × R x m × Power R j m y)
first_busy R all zero x y h = inl h
first_busy R all (suc k) x y h =
    elim (eq-or-lt_of_le {n = x} {m = h.0} (all x h.0 h.1)) [
      | inl e ↦
          elim (first_busy R all k x y (subst (λ m. Power R k m y) (sym e) h.2)) [
            | inl i ↦ inl i
            | inr i ↦ inr (i.0, i.1, i.2, let lt = i.3 in omega arith, i.4, i.5)
          ]
      | inr on ↦ inr (h.0, k, on, omega arith, h.1, h.2)
    ]

within_less : (most : Option ℕ) (done j k : ℕ) → j < k → Within most (done + k) → Within most (done + j)
within_less None done j k lt h = tt
within_less (Some n) done j k lt h = omega arith

pub idle_at_end : (c : Part) (s : List ℕ) (least : ℕ) (most : Option ℕ) (high done place left : ℕ) → least ≤ done → LastEnd c (λ n. (below done most ≡ true) × Turned (Reaches c s) least most (done + 1) n high) s high place (Some left) → high - left ≡ place → place ≡ high
idle_at_end c s least most high done place left le ends same =
    let on : Turned (Reaches c s) least most (done + 1) place high = subst (λ z. Turned (Reaches c s) least most (done + 1) z high) same ends.2.1 in
    elim (first_busy (Reaches c s) (forth c s) on.0 place high on.3) [
      | inl i ↦ i
      | inr i ↦ (
          let up = power_forth (Reaches c s) (forth c s) i.1 i.0 high i.5 in
          let lt = i.2 in
          absurd (ends.3 i.0 (omega arith) up i.4 (ends.2.0, (i.1, omega arith, within_less most (done + 1) i.1 on.0 i.3 on.2, i.5))))
    ]

-- nothing more is done
pub stops_here : (c : Tree) (s : List ℕ) (least : ℕ) (most : Option ℕ) (low high done place : ℕ) (old groups : Groups) → refers c ≡ false → repeats_in_order c ≡ true → TurnsRead c s least most low high done place old groups → place ≡ high → least ≤ done → (done ≡ 0 → below done most ≡ true → Reaches (part_of c) s place place → ⊥) → first_to high (ways (Repeat least most c) s low old) ≡ Some (high, groups)
stops_here c s least most low high done place old groups free order h same le not_idle = go h.fuel h.room h.first
  where
    go : (fuel : ℕ) → suc ((least - done) + (length s - place)) ≤ fuel → first_to high (ways (Repeat least most c) s low old) ≡ first_to high (turns fuel (fresh_turn c (ways c s)) least most done place groups) → first_to high (ways (Repeat least most c) s low old) ≡ Some (high, groups)
    go zero room first = absurd (omega arith)
    go (suc fuel) room first =
        first
        ∙ ap (λ z. first_to z (turns (suc fuel) (fresh_turn c (ways c s)) least most done place groups)) (sym same)
        ∙ groups_at_stop c free order s least most fuel done place groups le not_idle h.in_most
        ∙ ap (λ z. Some (z, groups)) same

-- a first turn that is idle
pub idle_first : (c : Tree) (s : List ℕ) (least : ℕ) (most : Option ℕ) (low high place : ℕ) (old groups new : Groups) → refers c ≡ false → repeats_in_order c ≡ true → TurnsRead c s least most low high 0 place old groups → place ≡ high → least ≤ 0 → below 0 most ≡ true → first_to place (ways c s place (cleared c groups)) ≡ Some (place, new) → first_to high (ways (Repeat least most c) s low old) ≡ Some (high, new)
idle_first c s (suc least) most low high place old groups new free order h same le may to = absurd (omega arith)
idle_first c s zero most low high place old groups new free order h same le may to = go h.fuel h.room h.first
  where
    go : (fuel : ℕ) → suc ((0 - 0) + (length s - place)) ≤ fuel → first_to high (ways (Repeat 0 most c) s low old) ≡ first_to high (turns fuel (fresh_turn c (ways c s)) 0 most 0 place groups) → first_to high (ways (Repeat 0 most c) s low old) ≡ Some (high, new)
    go zero room first = absurd (omega arith)
    go (suc fuel) room first =
        first
        ∙ ap (λ z. first_to z (turns (suc fuel) (fresh_turn c (ways c s)) 0 most 0 place groups)) (sym same)
        ∙ groups_of_idle c free order s most fuel place groups (place, new) may to
        ∙ ap (λ z. Some (z, new)) same

-- where no turn leads on the repeat ends here
pub no_turn_leads_on : (c : Tree) (s : List ℕ) (least : ℕ) (most : Option ℕ) (low high done place : ℕ) (old groups : Groups) → refers c ≡ false → repeats_in_order c ≡ true → TurnsRead c s least most low high done place old groups → LastEnd (part_of c) (λ n. (below done most ≡ true) × Turned (Reaches (part_of c) s) least most (done + 1) n high) s high place None → first_to high (ways (Repeat least most c) s low old) ≡ Some (high, groups)
no_turn_leads_on c s least most low high done place old groups free order h none_on = by_turns h.rest
  where
    by_turns : Turned (Reaches (part_of c) s) least most done place high → first_to high (ways (Repeat least most c) s low old) ≡ Some (high, groups)
    by_turns (zero, need, few, same) =
        let le : least ≤ done = omega arith in
        stops_here c s least most low high done place old groups free order h same le
        (λ first may r.
        none_on place h.below_high r (may, (0, omega arith, within_none most done may, same)))
    by_turns (suc k, need, few, on) =
        let up = power_forth (Reaches (part_of c) s) (forth (part_of c) s) k on.0 high on.2 in
        absurd (none_on on.0 up on.1 (still_below most done k few, (k, omega arith, within_step most done k few, on.2)))

-- what is asked of a repeat is so of its turns
pub turn_leads : (c : Tree) (s : List ℕ) (least : ℕ) (most : Option ℕ) (low high done place left end : ℕ) → LeadsThere (Repeat least most c) s low high → LastEnd (part_of c) (λ n. (below done most ≡ true) × Turned (Reaches (part_of c) s) least most (done + 1) n high) s high place (Some left) → end ≡ high - left → LeadsThere c s place end
turn_leads c s least most low high done place left end l last e =
    let within = l.within in
    record {
      free = l.free;
      in_order = both_right (bounds_in_order least most) (repeats_in_order c) l.in_order;
      within = omega arith;
      there = subst (λ z. Reaches (part_of c) s place z) (sym e) last.1;
    }

pub repeat_begun : (c : Tree) (s : List ℕ) (least : ℕ) (most : Option ℕ) (low high : ℕ) (old : Groups) → LeadsThere (Repeat least most c) s low high → TurnsRead c s least most low high 0 low old old
repeat_begun c s least most low high old l =
    turns_read_begun c s least most low high old (both_left (bounds_in_order least most) (repeats_in_order c) l.in_order) l.there

pub repeat_next : (c : Tree) (s : List ℕ) (least : ℕ) (most : Option ℕ) (low high done place left end : ℕ) (idle : Bool) (old groups new : Groups) → LeadsThere (Repeat least most c) s low high → TurnsRead c s least most low high done place old groups → LastEnd (part_of c) (λ n. (below done most ≡ true) × Turned (Reaches (part_of c) s) least most (done + 1) n high) s high place (Some left) → end ≡ high - left → idle ≡ (eqb end place && leb least done) → idle ≡ false → first_to end (ways c s place (cleared c groups)) ≡ Some (end, new) → TurnsRead c s least most low high (done + 1) end old new
repeat_next c s least most low high done place left end idle old groups new l h last e is isnt to =
    turns_read_next c s least most low high done place left end old groups new l.free (both_right (bounds_in_order least most) (repeats_in_order c) l.in_order) l.within h last e (sym is ∙ isnt) to

both_of : (a b : Bool) → (a && b) ≡ true → (a ≡ true) × (b ≡ true)
both_of true b h = (refl, h)
both_of false b h = absurd (cc)

-- an idle turn after others is none
pub repeat_idle : (c : Tree) (s : List ℕ) (least : ℕ) (most : Option ℕ) (low high done place left end : ℕ) (idle : Bool) (old groups : Groups) → LeadsThere (Repeat least most c) s low high → TurnsRead c s least most low high done place old groups → LastEnd (part_of c) (λ n. (below done most ≡ true) × Turned (Reaches (part_of c) s) least most (done + 1) n high) s high place (Some left) → end ≡ high - left → idle ≡ (eqb end place && leb least done) → idle ≡ true → 0 < done → first_to high (ways (Repeat least most c) s low old) ≡ Some (high, groups)
repeat_idle c s least most low high done place left end idle old groups l h last e is idles later =
    let test = both_of (eqb end place) (leb least done) (sym is ∙ idles) in
    let same : end ≡ place = grind (arith, nat_tests, test.0) in
    let le : least ≤ done = grind (arith, nat_tests, test.1) in
    stops_here c s least most low high done place old groups l.free (both_right (bounds_in_order least most) (repeats_in_order c) l.in_order) h
    (idle_at_end (part_of c) s least most high done place left le last (sym e ∙ same)) le (λ first may r. absurd (omega arith))

-- an idle first turn ends the repeat
pub repeat_idle_first : (c : Tree) (s : List ℕ) (least : ℕ) (most : Option ℕ) (low high done place left end : ℕ) (idle : Bool) (old groups new : Groups) → LeadsThere (Repeat least most c) s low high → TurnsRead c s least most low high done place old groups → LastEnd (part_of c) (λ n. (below done most ≡ true) × Turned (Reaches (part_of c) s) least most (done + 1) n high) s high place (Some left) → end ≡ high - left → idle ≡ (eqb end place && leb least done) → idle ≡ true → done ≤ 0 → first_to end (ways c s place (cleared c groups)) ≡ Some (end, new) → first_to high (ways (Repeat least most c) s low old) ≡ Some (high, new)
repeat_idle_first c s least most low high done place left end idle old groups new l h last e is idles first_turn to =
    let test = both_of (eqb end place) (leb least done) (sym is ∙ idles) in
    let same : end ≡ place = grind (arith, nat_tests, test.0) in
    let le : least ≤ done = grind (arith, nat_tests, test.1) in
    let first : done ≡ 0 = omega arith in
    let at_end = idle_at_end (part_of c) s least most high done place left le last (sym e ∙ same) in
    idle_first c s least most low high place old groups new l.free (both_right (bounds_in_order least most) (repeats_in_order c) l.in_order)
    (subst (λ z. TurnsRead c s least most low high z place old groups) first h) at_end (omega arith)
    (subst (λ z. below z most ≡ true) first last.2.0)
    (subst (λ z. first_to z (ways c s place (cleared c groups)) ≡ Some (z, new)) same to)

pub repeat_over : (c : Tree) (s : List ℕ) (least : ℕ) (most : Option ℕ) (low high done place : ℕ) (old groups : Groups) → LeadsThere (Repeat least most c) s low high → TurnsRead c s least most low high done place old groups → LastEnd (part_of c) (λ n. (below done most ≡ true) × Turned (Reaches (part_of c) s) least most (done + 1) n high) s high place None → first_to high (ways (Repeat least most c) s low old) ≡ Some (high, groups)
repeat_over c s least most low high done place old groups l h none_on =
    no_turn_leads_on c s least most low high done place old groups l.free (both_right (bounds_in_order least most) (repeats_in_order c) l.in_order) h none_on

-- so many turns are never made
pub never_so_many : (c : Tree) (s : List ℕ) (least : ℕ) (most : Option ℕ) (low high done place : ℕ) (old groups : Groups) → high ≤ length s → TurnsRead c s least most low high done place old groups → 1 + least + (length s - low) ≤ done → ⊥
never_so_many c s least most low high done place old groups within h many =
    let f = h.few in
    let a = h.above in
    let b = h.below_high in
    omega arith

pub repeat_forth : (c : Tree) (least : ℕ) (most : Option ℕ) (s : List ℕ) (low high : ℕ) → LeadsThere (Repeat least most c) s low high → low ≤ high
repeat_forth c least most s low high l = forth (written_out least most (part_of c)) s low high l.there

pub content_leads : (group : ℕ) (c : Tree) (s : List ℕ) (low high : ℕ) → LeadsThere (Group group c) s low high → LeadsThere c s low high
content_leads group c s low high l = record { free = l.free; in_order = l.in_order; within = l.within; there = l.there }
