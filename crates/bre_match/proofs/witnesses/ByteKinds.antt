-- Why of the numbers that no set of a pattern tells apart one does for all of them, and the last byte for all numbers above.
use Rattle.std.proofs.Common.{◌≡◌, ℕ, zero, suc, ◌+◌, ◌-◌, ◌<◌, ◌≤◌, ◌⊎◌, inl, inr, List, [], ◌∷◌, ◌++◌, length, get_or, Option, Some, None, Bool, true, false, not, ◌&&◌, ◌||◌, cond, eqb, leb, refl, ap, sym, ◌∙◌, subst, arith, slice_get}
use Rattle.std.proofs.lemmas.Bool.Decides.{nat_tests}
use Rattle.std.proofs.lemmas.Bool.{cases_lt}
use Rattle.std.proofs.lemmas.List.Elements.{All-head, All-tail, All-nil, All-cons, All-weaker}
use Rattle.std.proofs.lemmas.Option.{slice_get-get_or}
use Rattle.std.proofs.lemmas.List.{get_or_append_left, get_or_push, length-append}
use Rattle.std.specs.Prelude.{is_some}
use Rattle.std.specs.List.{All}
use Rattle.bre_parse.specs.Tree.{Tree, Empty, Then, Set, TextStart, TextEnd, BackReference, Group, Repeat, in_set, in_ranges}
use Rattle.bre_parse.specs.Bre.{bre_tree}
use Rattle.bre_parse.specs.Ways.{has_byte_in}
use Rattle.bre_match.specs.declared.witness.Answer.{Answer}
use Rattle.bre_match.specs.Parts.{Part, Nothing, Never, One, AtStart, AtEnd, Both, Maybe, Star, needed, up_to, written_out, part_of}
use Rattle.bre_match.specs.Columns.{less_of, where_true, peek, step}
use Rattle.bre_match.specs.Marks.{fill, past, marks_of}
use Rattle.bre_match.specs.States.{as_state}
use Rattle.bre_match.specs.ByteKinds.{tells_apart, goes_up, reaches_top, AreAlike, StandFor, StandForBytes}
use Rattle.bre_match.specs.Watches.{Watch, IsPlain, watch_after, next_watch, first_watch, other_watches, next_watches}
use Rattle.bre_match.specs.ClosedSets.{AreDone, BytesLeadOn}

-- each set of a part has both numbers, or neither
abbrev pub SeeAlike : Part → (b c : ℕ) → Type 0
SeeAlike (One negated ranges mark) b c = in_set negated ranges b ≡ in_set negated ranges c
SeeAlike (Both first rest) b c = SeeAlike first b c × SeeAlike rest b c
SeeAlike (Maybe content) b c = SeeAlike content b c
SeeAlike (Star content) b c = SeeAlike content b c
SeeAlike Nothing b c = Unit {0}
SeeAlike Never b c = Unit {0}
SeeAlike AtStart b c = Unit {0}
SeeAlike AtEnd b c = Unit {0}

see_same : (p : Part) (b : ℕ) → SeeAlike p b b
see_same Nothing b = tt
see_same Never b = tt
see_same (One n r m) b = refl
see_same AtStart b = tt
see_same AtEnd b = tt
see_same (Both x y) b = (see_same x b, see_same y b)
see_same (Maybe x) b = see_same x b
see_same (Star x) b = see_same x b

needed_sees : (n : ℕ) (p rest : Part) (b c : ℕ) → SeeAlike p b c → SeeAlike rest b c → SeeAlike (needed n p rest) b c
needed_sees zero p rest b c h k = k
needed_sees (suc n) p rest b c h k = (h, needed_sees n p rest b c h k)

up_to_sees : (n : ℕ) (p : Part) (b c : ℕ) → SeeAlike p b c → SeeAlike (up_to n p) b c
up_to_sees zero p b c h = tt
up_to_sees (suc n) p b c h = (h, up_to_sees n p b c h)

written_sees : (l : ℕ) (m : Option ℕ) (p : Part) (b c : ℕ) → SeeAlike p b c → SeeAlike (written_out l m p) b c
written_sees l None p b c h = needed_sees l p (Star p) b c h h
written_sees l (Some m) p b c h = needed_sees l p (up_to (m - l) p) b c h (up_to_sees (m - l) p b c h)

none_left : (p q : Bool) → p || q ≡ false → p ≡ false
none_left true q e = e
none_left false q e = refl

none_right : (p q : Bool) → p || q ≡ false → q ≡ false
none_right true q e = absurd (cc)
none_right false q e = e

same_bits : (p q : Bool) → cond p (not q) q ≡ false → p ≡ q
same_bits true true e = refl
same_bits true false e = absurd (cc)
same_bits false true e = absurd (cc)
same_bits false false e = refl

-- what isn't told apart is seen alike
pub apart_sees : (t : Tree) (n m : ℕ) → tells_apart t n m ≡ false → SeeAlike (part_of t) n m
apart_sees Empty n m e = tt
apart_sees (Then a b) n m e =
    (apart_sees a n m (none_left (tells_apart a n m) (tells_apart b n m) e), apart_sees b n m (none_right (tells_apart a n m) (tells_apart b n m) e))
apart_sees (Set negated ranges) n m e = same_bits (in_set negated ranges n) (in_set negated ranges m) e
apart_sees TextStart n m e = tt
apart_sees TextEnd n m e = tt
apart_sees (BackReference g) n m e = tt
apart_sees (Group g c) n m e = apart_sees c n m e
apart_sees (Repeat l most c) n m e = written_sees l most (part_of c) n m (apart_sees c n m e)

above : (ranges : List (ℕ × ℕ)) (n : ℕ) → 255 ≤ n → goes_up ranges ≡ false → in_ranges ranges n ≡ false
above [] n le e = refl
above (r ∷ ranges) n le e =
    let low : leb 255 r.1 ≡ false = none_left (leb 255 r.1) (goes_up ranges) e in
    let past_it : leb n r.1 ≡ false = grind (arith, nat_tests) in
    neither (leb r.0 n) (leb n r.1) (in_ranges ranges n) past_it (above ranges n le (none_right (leb 255 r.1) (goes_up ranges) e))
  where
    neither : (p q rest : Bool) → q ≡ false → rest ≡ false → (p && q) || rest ≡ false
    neither true true rest e f = absurd (cc)
    neither true false rest e f = f
    neither false q rest e f = f

set_above : (negated : Bool) (ranges : List (ℕ × ℕ)) (n : ℕ) → 255 ≤ n → goes_up ranges ≡ false →
    in_set negated ranges n ≡ in_set negated ranges 255
set_above false ranges n le e = above ranges n le e ∙ sym (above ranges 255 (omega arith) e)
set_above true ranges n le e = ap not (above ranges n le e ∙ sym (above ranges 255 (omega arith) e))

-- the numbers above are like the last byte where no range goes up to it
pub top_sees : (t : Tree) (n : ℕ) → 255 ≤ n → reaches_top t ≡ false → SeeAlike (part_of t) n 255
top_sees Empty n le e = tt
top_sees (Then a b) n le e =
    (top_sees a n le (none_left (reaches_top a) (reaches_top b) e), top_sees b n le (none_right (reaches_top a) (reaches_top b) e))
top_sees (Set negated ranges) n le e = set_above negated ranges n le e
top_sees TextStart n le e = tt
top_sees TextEnd n le e = tt
top_sees (BackReference g) n le e = tt
top_sees (Group g c) n le e = top_sees c n le e
top_sees (Repeat l m c) n le e = written_sees l m (part_of c) n 255 (top_sees c n le e)

-- STEPS

fill_sees : (p : Part) (ms : List (Option ℕ)) (b c : ℕ) → SeeAlike p b c → SeeAlike (fill p ms) b c
fill_sees Nothing ms b c h = tt
fill_sees Never ms b c h = tt
fill_sees (One n r m) ms b c h = h
fill_sees AtStart ms b c h = tt
fill_sees AtEnd ms b c h = tt
fill_sees (Both x y) ms b c h = (fill_sees x ms b c h.0, fill_sees y (past x ms) b c h.1)
fill_sees (Maybe x) ms b c h = fill_sees x ms b c h
fill_sees (Star x) ms b c h = fill_sees x ms b c h

-- two places of two texts, with numbers that may differ
pub record Near (s : List ℕ) (x : ℕ) (t : List ℕ) (y b c : ℕ) : Type 0 where
  pub one : slice_get s x ≡ Some b
  pub other : slice_get t y ≡ Some c
  pub start : eqb x 0 ≡ eqb y 0
  pub end : eqb x (length s) ≡ eqb y (length t)

peek_sees : (p : Part) (s : List ℕ) (x : ℕ) (t : List ℕ) (y b c : ℕ) (f : Option ℕ) → Near s x t y b c → peek p s x f ≡ peek p t y f
peek_sees Nothing s x t y b c f h = refl
peek_sees Never s x t y b c f h = refl
peek_sees (One n r m) s x t y b c f h = refl
peek_sees AtStart s x t y b c f h = ap (λ z. where_true z f) h.start
peek_sees AtEnd s x t y b c f h = ap (λ z. where_true z f) h.end
peek_sees (Both p q) s x t y b c f h =
    peek_sees q s x t y b c (peek p s x f) h ∙ ap (λ w. peek q t y w) (peek_sees p s x t y b c f h)
peek_sees (Maybe p) s x t y b c f h = ap (λ w. less_of f w) (peek_sees p s x t y b c f h)
peek_sees (Star p) s x t y b c f h = ap (λ w. less_of f w) (peek_sees p s x t y b c f h)

step_sees : (p : Part) (s : List ℕ) (x : ℕ) (t : List ℕ) (y b c : ℕ) (f : Option ℕ) → SeeAlike p b c → Near s x t y b c →
    step p s x f ≡ step p t y f
step_sees Nothing s x t y b c f a h = refl
step_sees Never s x t y b c f a h = refl
step_sees (One n r m) s x t y b c f a h =
    ap (λ z. One n r (where_true z f)) (ap (λ z. has_byte_in n r z) h.one ∙ a ∙ sym (ap (λ z. has_byte_in n r z) h.other))
step_sees AtStart s x t y b c f a h = refl
step_sees AtEnd s x t y b c f a h = refl
step_sees (Both p q) s x t y b c f a h =
    ap (λ z. Both z (step q s x (peek p s x f))) (step_sees p s x t y b c f a.0 h)
    ∙ ap (λ z. Both (step p t y f) z) (step_sees q s x t y b c (peek p s x f) a.1 h)
    ∙ ap (λ w. Both (step p t y f) (step q t y w)) (peek_sees p s x t y b c f h)
step_sees (Maybe p) s x t y b c f a h = ap Maybe (step_sees p s x t y b c f a h)
step_sees (Star p) s x t y b c f a h =
    ap Star (step_sees p s x t y b c (less_of f (peek p s x f)) a h)
    ∙ ap (λ w. Star (step p t y (less_of f w))) (peek_sees p s x t y b c f h)

watch_sees : (p : Part) (w : Watch) (s : List ℕ) (x : ℕ) (t : List ℕ) (y b c : ℕ) → SeeAlike p b c → Near s x t y b c →
    next_watch p w s x ≡ next_watch p w t y
watch_sees p None s x t y b c a h = refl
watch_sees p (Some row) s x t y b c a h =
    ap (λ (o : Option ℕ). watch_after (is_some o, as_state (marks_of (step (fill p row) s x (Some 0))))) (peek_sees (fill p row) s x t y b c (Some 0) h)
    ∙ ap (λ q. watch_after (is_some (peek (fill p row) t y (Some 0)), as_state (marks_of q)))
    (step_sees (fill p row) s x t y b c (Some 0) (fill_sees p row b c a) h)

abbrev pub Sees : (b c : ℕ) → Answer → Type 0
Sees b c answer = SeeAlike (part_of (bre_tree answer.pattern.now)) b c

next_sees : (answers : List Answer) (ws : List Watch) (s : List ℕ) (x : ℕ) (t : List ℕ) (y b c : ℕ) → All (Sees b c) answers → Near s x t y b c →
    next_watches answers ws s x ≡ next_watches answers ws t y
next_sees [] ws s x t y b c all h = refl
next_sees (a ∷ answers) ws s x t y b c all h =
    ap (λ w. w ∷ next_watches answers (other_watches ws) s x)
    (watch_sees (part_of (bre_tree a.pattern.now)) (first_watch ws) s x t y b c (All-head (Sees b c) a answers all) h)
    ∙ ap (λ l. next_watch (part_of (bre_tree a.pattern.now)) (first_watch ws) t y ∷ l)
    (next_sees answers (other_watches ws) s x t y b c (All-tail (Sees b c) a answers all) h)

-- BYTES THAT STAND FOR OTHERS

neither_of : (p q : Bool) → p ≡ false → q ≡ false → p || q ≡ false
neither_of true q e f = absurd (cc)
neither_of false q e f = f

no_bit : (p : Bool) → cond p (not p) p ≡ false
no_bit true = refl
no_bit false = refl

tells_nothing : (t : Tree) (n : ℕ) → tells_apart t n n ≡ false
tells_nothing Empty n = refl
tells_nothing (Then a b) n = neither_of (tells_apart a n n) (tells_apart b n n) (tells_nothing a n) (tells_nothing b n)
tells_nothing (Set negated ranges) n = no_bit (in_set negated ranges n)
tells_nothing TextStart n = refl
tells_nothing TextEnd n = refl
tells_nothing (BackReference g) n = refl
tells_nothing (Group g c) n = tells_nothing c n
tells_nothing (Repeat l m c) n = tells_nothing c n

alike_itself : (answers : List Answer) (n : ℕ) → AreAlike answers n n
alike_itself [] n = All-nil (λ (a : Answer). tells_apart (bre_tree a.pattern.now) n n ≡ false)
alike_itself (a ∷ answers) n =
    All-cons (λ (a : Answer). tells_apart (bre_tree a.pattern.now) n n ≡ false) a answers (tells_nothing (bre_tree a.pattern.now) n) (alike_itself answers n)

-- a byte that is put after the others stands for itself, and they stand for what they stood for
pub stands_last : (answers : List Answer) (bytes new : List ℕ) (byte : ℕ) → new ≡ bytes ++ byte ∷ [] → StandFor answers new byte
stands_last answers bytes new byte is = (
  length bytes,
  let e : length new ≡ length bytes + 1 = ap length is ∙ length-append bytes (byte ∷ []) in omega arith,
  subst (λ z. AreAlike answers byte z) (sym (get_or_push bytes byte 0 (length bytes) refl) ∙ ap (λ l. get_or l (length bytes) 0) (sym is)) (alike_itself answers byte),
)

pub stands_still : (answers : List Answer) (bytes new : List ℕ) (byte number : ℕ) → new ≡ bytes ++ byte ∷ [] → StandFor answers bytes number →
    StandFor answers new number
stands_still answers bytes new byte number is k =
    let below = k.1 in (
      k.0,
      let e : length new ≡ length bytes + 1 = ap length is ∙ length-append bytes (byte ∷ []) in omega arith,
      subst (λ z. AreAlike answers number z) (sym (get_or_append_left bytes (byte ∷ []) 0 k.0 k.1) ∙ ap (λ l. get_or l k.0 0) (sym is)) k.2,
    )

here_or_below : (n byte : ℕ) → n < byte + 1 → (n ≡ byte) ⊎ (n < byte)
here_or_below n byte lt = grind arith

-- one byte more for which some byte stands
pub stand_more : (answers : List Answer) (old new : List ℕ) (first byte : ℕ) →
    ((n : ℕ) → StandFor answers old n → StandFor answers new n) → StandFor answers new byte →
    ((n : ℕ) → first ≤ n → n < byte → StandFor answers old n) → (n : ℕ) → first ≤ n → n < byte + 1 → StandFor answers new n
stand_more answers old new first byte stay here before n low lt =
    elim (here_or_below n byte lt) [
      | inl is ↦ subst (λ z. StandFor answers new z) (sym is) here
      | inr below ↦ stay n (before n low below)
    ]

pair_at : (b place : ℕ) → place ≤ 1 → slice_get (b ∷ b ∷ []) place ≡ Some b
pair_at b zero le = refl
pair_at b (suc zero) le = refl
pair_at b (suc (suc n)) le = absurd (omega arith)

alike_sees : (answers : List Answer) (n m : ℕ) → AreAlike answers n m → All (Sees n m) answers
alike_sees answers n m all =
    All-weaker (λ (a : Answer). tells_apart (bre_tree a.pattern.now) n m ≡ false) (Sees n m) (λ a e. apart_sees (bre_tree a.pattern.now) n m e) answers all

-- each number of a text leads on where the bytes do that stand for all others
pub number_leads : (answers : List Answer) (kinds : List ℕ) (known : List (List Watch)) (place : ℕ) (ws : List Watch) (s : List ℕ) (x : ℕ) →
    All IsPlain answers → StandForBytes answers kinds → place ≤ 1 → eqb x 0 ≡ eqb place 0 → x < length s →
    BytesLeadOn answers kinds known place ws (length kinds) → AreDone answers known (next_watches answers ws s x)
number_leads answers kinds known place ws s x plain stand low start lt h =
    elim (cases_lt (get_or s x 0) 256) [
      | inl small ↦
          by_byte (get_or s x 0) small
          (All-weaker IsPlain (Sees (get_or s x 0) (get_or s x 0)) (λ a e. see_same (part_of (bre_tree a.pattern.now)) (get_or s x 0)) answers plain)
      | inr great ↦
          by_byte 255 (omega arith)
          (All-weaker IsPlain (Sees (get_or s x 0) 255) (λ a e. top_sees (bre_tree a.pattern.now) (get_or s x 0) (omega arith) e.2) answers plain)
    ]
  where
    by_byte : (c : ℕ) → c < 256 → All (Sees (get_or s x 0) c) answers → AreDone answers known (next_watches answers ws s x)
    by_byte c small sees =
        let k = stand c small in
        let kind = get_or kinds k.0 0 in
        subst (λ z. AreDone answers known z)
        (sym (next_sees answers ws s x (c ∷ c ∷ []) place (get_or s x 0) c sees near
        ∙ next_sees answers ws (c ∷ c ∷ []) place (kind ∷ kind ∷ []) place c kind (alike_sees answers c kind k.2)
        record { one = pair_at c place low; other = pair_at kind place low; start = refl; end = refl }))
        (h k.0 k.1)
      where
        near : Near s x (c ∷ c ∷ []) place (get_or s x 0) c
        near = record {
          one = slice_get-get_or s x 0 lt;
          other = pair_at c place low;
          start = start;
          end =
              let e : eqb x (length s) ≡ false = grind (arith, nat_tests) in
              let f : eqb place 2 ≡ false = grind (arith, nat_tests) in
              e ∙ sym f;
        }
