-- Where ways come to, order apart: item after item, and turn after turn.
use Rattle.std.proofs.Common.{◌≡◌, ◌⊎◌, inl, inr, ℕ, zero, suc, ◌+◌, ◌<◌, ◌≤◌, List, [], ◌∷◌, ◌++◌, map, flat_map, length, take, get_or, Option, Bool, true, false, leb, eqb, refl, ap, sym, ◌∙◌, subst, arith}
use Rattle.std.specs.Prelude.{◌&&◌, slice_index_or, slice_set}
use Rattle.bre_parse.specs.Tree.{Tree, Then, Group, Repeat}
use Rattle.bre_parse.specs.Groups.{Groups}
use Rattle.bre_parse.specs.Ways.{Way, Body, ways, turns, fresh_turn, next_turn, after_turn, stopped_or_on, from_way, with_group, below, only_if, by_end, enough}
use Rattle.bre_match.specs.Alike.{RefersWithin, same_span, same_asked, HasAlike, AreAlike}
use Rattle.bre_match.specs.Outlooks.{Each}
use Rattle.bre_match.specs.Spreads.{AreKnown, Leads, begun}
use Rattle.bre_match.proofs.Each.{each_map, each_append, each_of_map, each_before_map, each_of_all, each_for_all, each_by_end, each_like}
use Rattle.bre_match.proofs.Likeness.{both_right, both, span_itself, asked_itself, alike_itself, alike_made}
use Rattle.bre_match.proofs.SameWays.{Even, even_at, even_turns, even_ways, with_group_alike, has_like}

-- Lists that are gone through

each_next : {X : Type 0} (P : X → Type 0) (xs : List X) (i : ℕ) (x : X) → i < length xs → Each P (take i xs) → P (get_or xs i x)
    → Each P (take (suc i) xs)
each_next P [] i x lt h p = absurd (omega arith)
each_next P (y ∷ ys) zero x lt h p = (p, tt)
each_next P (y ∷ ys) (suc i) x lt h p = (h.0, each_next P ys i x (omega arith) h.1 p)

pub each_taken : {X : Type 0} (P : X → Type 0) (xs : List X) (i : ℕ) (x : X) → i < length xs → Each P (take i xs)
    → P (get_or xs i x) → Each P (take (i + 1) xs)
each_taken P xs i x lt h p =
    let more : suc i ≡ i + 1 = omega arith in
    subst (λ n. Each P (take n xs)) more (each_next P xs i x lt h p)

pub each_whole : {X : Type 0} (P : X → Type 0) (xs : List X) (i : ℕ) → length xs ≤ i → Each P (take i xs) → Each P xs
each_whole P [] i le h = tt
each_whole P (x ∷ xs) zero le h = absurd (omega arith)
each_whole P (x ∷ xs) (suc i) le h = (h.0, each_whole P xs i (omega arith) h.1)

-- What is known

has_before : (asked : List Bool) (xs ys : List Way) (w : Way) → HasAlike asked xs w → HasAlike asked (xs ++ ys) w
has_before asked [] ys w h = absurd h
has_before asked (x ∷ xs) ys w (inl e) = inl e
has_before asked (x ∷ xs) ys w (inr h) = inr (has_before asked xs ys w h)

has_after : (asked : List Bool) (xs ys : List Way) (w : Way) → HasAlike asked ys w → HasAlike asked (xs ++ ys) w
has_after asked [] ys w h = h
has_after asked (x ∷ xs) ys w h = inr (has_after asked xs ys w h)

pub known_itself : (asked : List Bool) (xs : List Way) → AreKnown asked xs xs
known_itself asked [] = tt
known_itself asked (x ∷ xs) =
    (inl (alike_itself asked x), each_map (HasAlike asked xs) (HasAlike asked (x ∷ xs)) xs (λ w h. inr h) (known_itself asked xs))

pub known_before : (asked : List Bool) (xs ys ws : List Way) → AreKnown asked xs ws → AreKnown asked (xs ++ ys) ws
known_before asked xs ys ws h = each_map (HasAlike asked xs) (HasAlike asked (xs ++ ys)) ws (has_before asked xs ys) h

pub has_known : (asked : List Bool) (xs ys : List Way) (w : Way) → HasAlike asked ys w → AreKnown asked xs ys → HasAlike asked xs w
has_known asked xs ys w has h = each_like asked (HasAlike asked xs) (has_like asked xs) ys w has h

pub known_known : (asked : List Bool) (xs ys ws : List Way) → AreKnown asked ys ws → AreKnown asked xs ys → AreKnown asked xs ws
known_known asked xs ys ws h i = each_map (HasAlike asked ys) (HasAlike asked xs) ws (λ w has. has_known asked xs ys w has i) h

known_like : (asked : List Bool) (xs vs ws : List Way) → AreAlike asked vs ws → AreKnown asked xs vs → AreKnown asked xs ws
known_like asked xs [] [] h c = tt
known_like asked xs [] (w ∷ ws) h c = absurd h
known_like asked xs (v ∷ vs) [] h c = absurd h
known_like asked xs (v ∷ vs) (w ∷ ws) h c = (has_like asked xs v w h.0 c.0, known_like asked xs vs ws h.1 c.1)

-- one way more that is new, and one that is known
pub one_known : (asked : List Bool) (xs : List Way) (w : Way) → HasAlike asked (xs ++ w ∷ []) w
one_known asked xs w = has_after asked xs (w ∷ []) w (inl (alike_itself asked w))

-- Bodies

-- what a body gives from a way that is like one of some
pub led_like : (asked : List Bool) (body : Body) → Even asked body → (from to : List Way) (w : Way) → Leads asked body from to
    → HasAlike asked from w → AreKnown asked to (body w.0 w.1)
led_like asked body even from to w led has =
    each_like asked (λ v. AreKnown asked to (body v.0 v.1))
    (λ v u e h. known_like asked to (body v.0 v.1) (body u.0 u.1) (even_at asked body even v u e) h) from w has led

pub led_known : (asked : List Bool) (body : Body) → Even asked body → (from to ws : List Way) → Leads asked body from to
    → AreKnown asked from ws → Leads asked body ws to
led_known asked body even from to ws led h =
    each_map (HasAlike asked from) (λ w. AreKnown asked to (body w.0 w.1)) ws (λ w has. led_like asked body even from to w led has) h

pub leads_more : (asked : List Bool) (body : Body) (from to more : List Way) → Leads asked body from to → AreKnown asked more to
    → Leads asked body from more
leads_more asked body from to more led h =
    each_map (λ w. AreKnown asked to (body w.0 w.1)) (λ w. AreKnown asked more (body w.0 w.1)) from
    (λ w k. known_known asked more to (body w.0 w.1) k h) led

all_led : (asked : List Bool) (body : Body) (ws to : List Way) → Leads asked body ws to → AreKnown asked to (flat_map
    (from_way body) ws)
all_led asked body ws to led = each_of_all (HasAlike asked to) (from_way body) ws led

-- an item, and then the others
pub then_leads : (asked : List Bool) (a b : Tree) → RefersWithin asked b → (s : List ℕ) (from mid to : List Way)
    → Leads asked (ways a s) from mid → Leads asked (ways b s) mid to → Leads asked (ways (Then a b) s) from to
then_leads asked a b r s from mid to led on =
    each_map (λ w. AreKnown asked mid (ways a s w.0 w.1)) (λ w. AreKnown asked to (ways (Then a b) s w.0 w.1)) from
    (λ w k. all_led asked (ways b s) (by_end (ways a s w.0 w.1)) to
    (led_known asked (ways b s) (even_ways asked b r s) mid to (by_end (ways a s w.0 w.1)) on
    (each_by_end (HasAlike asked mid) (ways a s w.0 w.1) k))) led

-- Groups

unasked_set : (asked : List Bool) (g : Groups) (i : ℕ) (o : Option (ℕ × ℕ)) → slice_index_or asked i true ≡ false
    → same_asked asked g (slice_set g i o) ≡ true
unasked_set [] g i o e = absurd cc
unasked_set (b ∷ asked) [] i o e = refl
unasked_set (true ∷ asked) (q ∷ g) zero o e = absurd cc
unasked_set (false ∷ asked) (q ∷ g) zero o e = asked_itself asked g
unasked_set (true ∷ asked) (q ∷ g) (suc i) o e =
    both (same_span q q) (same_asked asked g (slice_set g i o)) (span_itself q) (unasked_set asked g i o e)
unasked_set (false ∷ asked) (q ∷ g) (suc i) o e = unasked_set asked g i o e

-- a group that isn't asked for leads where its content does
pub content_leads : (asked : List Bool) (i : ℕ) (c : Tree) (s : List ℕ) (from to : List Way) → slice_index_or asked i true ≡ false
    → Leads asked (ways c s) from to → Leads asked (ways (Group i c) s) from to
content_leads asked i c s from to e led =
    each_map (λ w. AreKnown asked to (ways c s w.0 w.1)) (λ w. AreKnown asked to (ways (Group i c) s w.0 w.1)) from
    (λ w k. each_of_map (HasAlike asked to) (with_group i w.0) (ways c s w.0 w.1)
    (each_map (HasAlike asked to) (λ v. HasAlike asked to (with_group i w.0 v)) (ways c s w.0 w.1)
    (λ v has. has_like asked to v (with_group i w.0 v)
    (alike_made asked v (with_group i w.0 v) refl (unasked_set asked v.1 i _ e)) has) k)) led

pub closed_known : (asked : List Bool) (i : ℕ) (c : Tree) (s : List ℕ) (w : Way) (none one inner none' closed to : List Way)
    → none ≡ [] → one ≡ none ++ w ∷ [] → Leads asked (ways c s) one inner
    → none' ≡ [] → closed ≡ none' ++ map (with_group i w.0) inner → AreKnown asked to closed
    → AreKnown asked to (ways (Group i c) s w.0 w.1)
closed_known asked i c s w none one inner none' closed to empty single led empty' shut h =
    let first : one ≡ w ∷ [] = single ∙ ap (λ l. l ++ w ∷ []) empty in
    let whole : closed ≡ map (with_group i w.0) inner = shut ∙ ap (λ l. l ++ map (with_group i w.0) inner) empty' in
    let known : Leads asked (ways c s) (w ∷ []) inner = subst (λ l. Leads asked (ways c s) l inner) first led in
    let all : AreKnown asked to (map (with_group i w.0) inner) = subst (AreKnown asked to) whole h in
    let each = each_before_map (HasAlike asked to) (with_group i w.0) inner all in
    each_of_map (HasAlike asked to) (with_group i w.0) (ways c s w.0 w.1)
    (each_map (HasAlike asked inner) (λ v. HasAlike asked to (with_group i w.0 v)) (ways c s w.0 w.1)
    (λ v has. each_like asked (λ u. HasAlike asked to (with_group i w.0 u))
    (λ u z e k. has_like asked to (with_group i w.0 u) (with_group i w.0 z) (with_group_alike asked i w.0 u z e) k) inner v has each)
    known.0)

-- Turns

-- a turn begins with the groups inside it unset
pub fresh_led : (asked : List Bool) (c : Tree) (body : Body) (from to : List Way) → Leads asked body (map (begun c) from) to
    → Leads asked (fresh_turn c body) from to
fresh_led asked c body from to led = each_before_map (λ w. AreKnown asked to (body w.0 w.1)) (begun c) from led

known_if : (asked : List Bool) (b : Bool) (w : Way) (to : List Way) → (b ≡ true → HasAlike asked to w) → AreKnown asked to (only_if b w)
known_if asked true w to h = (h refl, tt)
known_if asked false w to h = tt

-- where a repeat stops at once
pub stops : (asked : List Bool) (turn : Body) (least : ℕ) (most : Option ℕ) (done : ℕ) (from to : List Way)
    → (leb least done ≡ true → AreKnown asked to from) → Leads asked (turns zero turn least most done) from to
stops asked turn least most done [] to h = tt
stops asked turn least most done (w ∷ from) to h =
    (known_if asked (leb least done) w to (λ e. (h e).0), stops asked turn least most done from to (λ e. (h e).1))

one_turn : (asked : List Bool) (turn : Body) → Even asked turn → (more least : ℕ) (most : Option ℕ) (done : ℕ) (w : Way)
    (next to : List Way)
    → (leb least done ≡ true → HasAlike asked to w) → (below done most ≡ true → AreKnown asked next (turn w.0 w.1))
    → (leb least done ≡ true → AreKnown asked to next) → Leads asked (turns more turn least most (done + 1)) next to
    → AreKnown asked to (turns (suc more) turn least most done w.0 w.1)
one_turn asked turn even more least most done w next to here led ended on =
    let N = next_turn (below done most) turn w.0 w.1 in
    let S = only_if (leb least done) w in
    each_by_end (HasAlike asked to) (flat_map F N ++ S)
    (each_append (HasAlike asked to) (flat_map F N) S
    (each_of_all (HasAlike asked to) F N (begins (below done most) led)) (known_if asked (leb least done) w to here))
  where
    again : Body
    again = turns more turn least most (done + 1)

    F : Way → List Way
    F = after_turn least done w.0 again

    goes_on : (b : Bool) (v : Way) → (b ≡ true → leb least done ≡ true) → HasAlike asked next v
        → AreKnown asked to (stopped_or_on b done again v)
    goes_on true v f has = known_if asked (eqb done 0) v to (λ e. has_known asked to next v has (ended (f refl)))
    goes_on false v f has = led_like asked again (even_turns asked more turn least most (done + 1) even) next to v on has

    each_goes_on : (vs : List Way) → AreKnown asked next vs → Each (λ v. AreKnown asked to (F v)) vs
    each_goes_on vs h =
        each_map (HasAlike asked next) (λ v. AreKnown asked to (F v)) vs
        (λ v has. goes_on (eqb v.0 w.0 && leb least done) v (both_right (eqb v.0 w.0) (leb least done)) has) h

    begins : (b : Bool) → (b ≡ true → AreKnown asked next (turn w.0 w.1)) → Each (λ v. AreKnown asked to (F v))
        (next_turn b turn w.0 w.1)
    begins true h = each_goes_on (by_end (turn w.0 w.1)) (each_by_end (HasAlike asked next) (turn w.0 w.1) (h refl))
    begins false h = tt

-- where each turn leads on, and to where a repeat may end
pub turn_leads : (asked : List Bool) (turn : Body) → Even asked turn → (more least : ℕ) (most : Option ℕ) (done : ℕ)
    (from next to : List Way)
    → (leb least done ≡ true → AreKnown asked to from) → (below done most ≡ true → Leads asked turn from next)
    → (leb least done ≡ true → AreKnown asked to next)
    → Leads asked (turns more turn least most (done + 1)) next to → Leads asked (turns (suc more) turn least most done) from to
turn_leads asked turn even more least most done [] next to here led ended on = tt
turn_leads asked turn even more least most done (w ∷ from) next to here led ended on = (
  one_turn asked turn even more least most done w next to (λ e. (here e).0) (λ e. (led e).0) ended on,
  turn_leads asked turn even more least most done from next to (λ e. (here e).1) (λ e. (led e).1) ended on,
)

-- a turn that is needed
pub needed_turn : (asked : List Bool) (turn : Body) → Even asked turn → (least : ℕ) (most : Option ℕ) (done : ℕ)
    (from next to : List Way)
    → leb least done ≡ false → Leads asked turn from next
    → ((more : ℕ) → Leads asked (turns more turn least most (done + 1)) next to)
    → (more : ℕ) → Leads asked (turns more turn least most done) from to
needed_turn asked turn even least most done from next to few led on zero = stops asked turn least most done from to (λ e. absurd
    (few_more e))
  where
    few_more : leb least done ≡ true → ⊥
    few_more e = absurd (true_false (sym e ∙ few))
      where
        true_false : true ≡ false → ⊥
        true_false f = absurd cc
needed_turn asked turn even least most done from next to few led on (suc more) =
    turn_leads asked turn even more least most done from next to (λ e. absurd (true_false (sym e ∙ few))) (λ e. led)
    (λ e. absurd (true_false (sym e ∙ few))) (on more)
  where
    true_false : true ≡ false → ⊥
    true_false f = absurd cc

-- ways from which each turn leads to one of them
pub closed_turns : (asked : List Bool) (turn : Body) → Even asked turn → (least : ℕ) (most : Option ℕ) (all : List Way)
    → Leads asked turn all all → (more done : ℕ) → Leads asked (turns more turn least most done) all all
closed_turns asked turn even least most all led zero done = stops asked turn least most done all all (λ e. known_itself asked all)
closed_turns asked turn even least most all led (suc more) done =
    turn_leads asked turn even more least most done all all all (λ e. known_itself asked all) (λ e. led)
    (λ e. known_itself asked all) (closed_turns asked turn even least most all led more (done + 1))

-- a turn that may come
pub later_turn : (asked : List Bool) (turn : Body) → Even asked turn → (least : ℕ) (most : Option ℕ) (done : ℕ)
    (from next to : List Way)
    → AreKnown asked to from → Leads asked turn from next → AreKnown asked to next
    → ((more : ℕ) → Leads asked (turns more turn least most (done + 1)) next to)
    → (more : ℕ) → Leads asked (turns more turn least most done) from to
later_turn asked turn even least most done from next to here led ended on zero = stops asked turn least most done from to (λ e. here)
later_turn asked turn even least most done from next to here led ended on (suc more) =
    turn_leads asked turn even more least most done from next to (λ e. here) (λ e. led) (λ e. ended) (on more)

-- after the most turns
pub last_turn : (asked : List Bool) (turn : Body) → Even asked turn → (least : ℕ) (most : Option ℕ) (done : ℕ) (from to : List Way)
    → below done most ≡ false → AreKnown asked to from → (more : ℕ) → Leads asked (turns more turn least most done) from to
last_turn asked turn even least most done from to none here zero = stops asked turn least most done from to (λ e. here)
last_turn asked turn even least most done from to none here (suc more) =
    turn_leads asked turn even more least most done from [] to (λ e. here) (λ e. absurd (true_false (sym e ∙ none))) (λ e. tt) tt
  where
    true_false : true ≡ false → ⊥
    true_false f = absurd cc

pub repeat_leads : (asked : List Bool) (c : Tree) (least : ℕ) (most : Option ℕ) (s : List ℕ) (from to : List Way)
    → ((more : ℕ) → Leads asked (turns more (fresh_turn c (ways c s)) least most 0) from to)
    → Leads asked (ways (Repeat least most c) s) from to
repeat_leads asked c least most s from to led =
    each_map (λ w. (more : ℕ) → AreKnown asked to (turns more (fresh_turn c (ways c s)) least most 0 w.0 w.1))
    (λ w. AreKnown asked to (ways (Repeat least most c) s w.0 w.1)) from (λ w h. h (enough least s w.0))
    (each_for_all (λ more w. AreKnown asked to (turns more (fresh_turn c (ways c s)) least most 0 w.0 w.1)) from led)

-- Rounds of turns without bound

-- each turn of the ways in hand leads to a way that is known, or is still to be begun
abbrev pub Growing : List Bool → Body → (all added : List Way) → Type 0
Growing asked turn all added = Each (λ w. AreKnown asked all (turn w.0 w.1) ⊎ HasAlike asked added w) all

pub grown : (asked : List Bool) (turn : Body) → Even asked turn → (all added next all' added' : List Way)
    → Growing asked turn all added → Leads asked turn added next → all' ≡ all ++ added' → AreKnown asked all' next
    → Growing asked turn all' added'
grown asked turn even all added next all' added' grow led more known =
    subst (Each Q) (sym more) (each_append Q all added' (each_map P Q all on grow) (each_map (HasAlike asked added') Q added'
    (λ w h. inr h) (known_itself asked added')))
  where
    P : Way → Type 0
    P w = AreKnown asked all (turn w.0 w.1) ⊎ HasAlike asked added w

    Q : Way → Type 0
    Q w = AreKnown asked all' (turn w.0 w.1) ⊎ HasAlike asked added' w

    on : (w : Way) → P w → Q w
    on w (inl h) = inl (subst (λ l. AreKnown asked l (turn w.0 w.1)) (sym more) (known_before asked all added' (turn w.0 w.1) h))
    on w (inr has) = inl (known_known asked all' next (turn w.0 w.1) (led_like asked turn even added next w led has) known)

pub begins_growing : (asked : List Bool) (turn : Body) (all added : List Way) → all ≡ added → Growing asked turn all added
begins_growing asked turn all added e =
    subst (λ l. Growing asked turn l added) (sym e) (each_map (HasAlike asked added) (λ w. AreKnown asked added (turn w.0 w.1)
    ⊎ HasAlike asked added w) added (λ w h. inr h) (known_itself asked added))

pub grown_all : (asked : List Bool) (turn : Body) → Even asked turn → (least : ℕ) (most : Option ℕ) (done : ℕ)
    (from all added : List Way)
    → length added ≡ 0 → Growing asked turn all added → AreKnown asked all from
    → (more : ℕ) → Leads asked (turns more turn least most done) from all
grown_all asked turn even least most done from all [] none grow known more =
    led_known asked (turns more turn least most done) (even_turns asked more turn least most done even) all all from
    (closed_turns asked turn even least most all (each_map (λ w. AreKnown asked all (turn w.0 w.1) ⊎ ⊥)
    (λ w. AreKnown asked all (turn w.0 w.1)) all close grow) more done) known
  where
    close : (w : Way) → AreKnown asked all (turn w.0 w.1) ⊎ ⊥ → AreKnown asked all (turn w.0 w.1)
    close w (inl h) = h
    close w (inr f) = absurd f
grown_all asked turn even least most done from all (w ∷ added) none grow known more = absurd (omega arith)

-- Where nothing is known, there is nothing

nothing_known : (asked : List Bool) (ws : List Way) → AreKnown asked [] ws → ws ≡ []
nothing_known asked [] h = refl
nothing_known asked (w ∷ ws) h = absurd h.0

pub leads_nowhere : (asked : List Bool) (body : Body) (from to : List Way) → length to ≡ 0 → Leads asked body from to
    → Each (λ w. body w.0 w.1 ≡ []) from
leads_nowhere asked body from [] e led =
    each_map (λ w. AreKnown asked [] (body w.0 w.1)) (λ w. body w.0 w.1 ≡ []) from (λ w. nothing_known asked (body w.0 w.1)) led
leads_nowhere asked body from (w ∷ to) e led = absurd (omega arith)
