-- Lists of watches and of patterns that are gone through from place to place.
use Rattle.std.proofs.Common.{◌≡◌, ℕ, ◌+◌, ◌<◌, List, [], ◌∷◌, ◌++◌, length, take, drop, get_or, append_assoc, Bool, true, false, ◌&&◌, ◌||◌, refl, ap, sym, ◌∙◌, subst}
use Rattle.std.proofs.lemmas.List.{drop_more, drop-drop}
use Rattle.std.proofs.lemmas.List.Elements.{All-nil, All-cons, All-append}
use Rattle.std.proofs.lemmas.Grind.{take_at_read}
use Rattle.std.specs.List.{All}
use Rattle.bre_parse.specs.Bre.{bre_tree}
use Rattle.bre_match.specs.declared.witness.Answer.{Answer}
use Rattle.bre_match.specs.Parts.{part_of}
use Rattle.bre_match.specs.Watches.{Watch, next_watch, first_watch, other_watches, next_watches, is_as_said, is_out, are_as_said, is_ruled_out}

pub all_more : {X : Type 0} (P : X → Type 0) (xs : List X) (i : ℕ) (x : X) → i < length xs → x ≡ get_or xs i x → All P (take i xs) → P x →
    All P (take (i + 1) xs)
all_more P xs i x lt is all here =
    subst (λ l. All P l) (sym (take_at_read xs i x lt).1)
    (All-append P (take i xs) (get_or xs i x ∷ []) all (All-cons P (get_or xs i x) [] (subst P is here) (All-nil P)))

others_are : (ws : List Watch) → other_watches ws ≡ drop 1 ws
others_are [] = refl
others_are (w ∷ ws) = refl

others_at : (ws : List Watch) (i : ℕ) → other_watches (drop i ws) ≡ drop (i + 1) ws
others_at ws i = others_are (drop i ws) ∙ drop-drop 1 i ws

said_at : (answers : List Answer) (ws : List Watch) (i : ℕ) (a : Answer) (w : Watch) → i < length answers → a ≡ get_or answers i a →
    w ≡ first_watch (drop i ws) →
    are_as_said (drop i answers) (drop i ws) ≡ is_as_said a.matches w && are_as_said (drop (i + 1) answers) (drop (i + 1) ws)
said_at answers ws i a w lt is there =
    ap (λ l. are_as_said l (drop i ws)) (drop_more answers i a lt)
    ∙ ap (λ (z : Answer). is_as_said z.matches (first_watch (drop i ws)) && are_as_said (drop (i + 1) answers) (other_watches (drop i ws))) (sym is)
    ∙ ap (λ z. is_as_said a.matches z && are_as_said (drop (i + 1) answers) (other_watches (drop i ws))) (sym there)
    ∙ ap (λ l. is_as_said a.matches w && are_as_said (drop (i + 1) answers) l) (others_at ws i)

pub said_more : (answers : List Answer) (ws : List Watch) (i : ℕ) (a : Answer) (w : Watch) (all : Bool) → i < length answers →
    a ≡ get_or answers i a → w ≡ first_watch (drop i ws) → is_as_said a.matches w ≡ true →
    are_as_said (drop i answers) (drop i ws) ≡ all → are_as_said (drop (i + 1) answers) (drop (i + 1) ws) ≡ all
said_more answers ws i a w all lt is there e h =
    sym (ap (λ b. b && are_as_said (drop (i + 1) answers) (drop (i + 1) ws)) e) ∙ sym (said_at answers ws i a w lt is there) ∙ h

pub said_not : (answers : List Answer) (ws : List Watch) (i : ℕ) (a : Answer) (w : Watch) (all : Bool) → i < length answers →
    a ≡ get_or answers i a → w ≡ first_watch (drop i ws) → is_as_said a.matches w ≡ false →
    are_as_said (drop i answers) (drop i ws) ≡ all → false ≡ all
said_not answers ws i a w all lt is there e h =
    sym (ap (λ b. b && are_as_said (drop (i + 1) answers) (drop (i + 1) ws)) e) ∙ sym (said_at answers ws i a w lt is there) ∙ h

out_at : (answers : List Answer) (ws : List Watch) (i : ℕ) (a : Answer) (w : Watch) → i < length answers → a ≡ get_or answers i a →
    w ≡ first_watch (drop i ws) →
    is_ruled_out (drop i answers) (drop i ws) ≡ is_out a.matches w || is_ruled_out (drop (i + 1) answers) (drop (i + 1) ws)
out_at answers ws i a w lt is there =
    ap (λ l. is_ruled_out l (drop i ws)) (drop_more answers i a lt)
    ∙ ap (λ (z : Answer). is_out z.matches (first_watch (drop i ws)) || is_ruled_out (drop (i + 1) answers) (other_watches (drop i ws))) (sym is)
    ∙ ap (λ z. is_out a.matches z || is_ruled_out (drop (i + 1) answers) (other_watches (drop i ws))) (sym there)
    ∙ ap (λ l. is_out a.matches w || is_ruled_out (drop (i + 1) answers) l) (others_at ws i)

pub out_more : (answers : List Answer) (ws : List Watch) (i : ℕ) (a : Answer) (w : Watch) (any : Bool) → i < length answers →
    a ≡ get_or answers i a → w ≡ first_watch (drop i ws) → is_out a.matches w ≡ false →
    is_ruled_out (drop i answers) (drop i ws) ≡ any → is_ruled_out (drop (i + 1) answers) (drop (i + 1) ws) ≡ any
out_more answers ws i a w any lt is there e h =
    sym (ap (λ b. b || is_ruled_out (drop (i + 1) answers) (drop (i + 1) ws)) e) ∙ sym (out_at answers ws i a w lt is there) ∙ h

pub out_here : (answers : List Answer) (ws : List Watch) (i : ℕ) (a : Answer) (w : Watch) (any : Bool) → i < length answers →
    a ≡ get_or answers i a → w ≡ first_watch (drop i ws) → is_out a.matches w ≡ true →
    is_ruled_out (drop i answers) (drop i ws) ≡ any → true ≡ any
out_here answers ws i a w any lt is there e h =
    sym (ap (λ b. b || is_ruled_out (drop (i + 1) answers) (drop (i + 1) ws)) e) ∙ sym (out_at answers ws i a w lt is there) ∙ h

next_at : (answers : List Answer) (ws : List Watch) (i : ℕ) (a : Answer) (w : Watch) (s : List ℕ) (x : ℕ) → i < length answers →
    a ≡ get_or answers i a → w ≡ first_watch (drop i ws) →
    next_watches (drop i answers) (drop i ws) s x
    ≡ next_watch (part_of (bre_tree a.pattern.now)) w s x ∷ next_watches (drop (i + 1) answers) (drop (i + 1) ws) s x
next_at answers ws i a w s x lt is there =
    ap (λ l. next_watches l (drop i ws) s x) (drop_more answers i a lt)
    ∙ ap (λ (z : Answer). next_watch (part_of (bre_tree z.pattern.now)) (first_watch (drop i ws)) s x ∷ next_watches (drop (i + 1) answers) (other_watches (drop i ws)) s x) (sym is)
    ∙ ap (λ z. next_watch (part_of (bre_tree a.pattern.now)) z s x ∷ next_watches (drop (i + 1) answers) (other_watches (drop i ws)) s x) (sym there)
    ∙ ap (λ l. next_watch (part_of (bre_tree a.pattern.now)) w s x ∷ next_watches (drop (i + 1) answers) l s x) (others_at ws i)

pub next_more : (answers : List Answer) (ws : List Watch) (i : ℕ) (a : Answer) (w next : Watch) (s : List ℕ) (x : ℕ) (before after all : List Watch) →
    i < length answers → a ≡ get_or answers i a → w ≡ first_watch (drop i ws) → next ≡ next_watch (part_of (bre_tree (get_or answers i a).pattern.now)) w s x →
    after ≡ before ++ next ∷ [] → before ++ next_watches (drop i answers) (drop i ws) s x ≡ all →
    after ++ next_watches (drop (i + 1) answers) (drop (i + 1) ws) s x ≡ all
next_more answers ws i a w next s x before after all lt is there e f h =
    ap (λ l. l ++ next_watches (drop (i + 1) answers) (drop (i + 1) ws) s x) f
    ∙ append_assoc before (next ∷ []) (next_watches (drop (i + 1) answers) (drop (i + 1) ws) s x)
    ∙ ap (λ z. before ++ z ∷ next_watches (drop (i + 1) answers) (drop (i + 1) ws) s x) (e ∙ ap (λ (z : Answer). next_watch (part_of (bre_tree z.pattern.now)) w s x) (sym is))
    ∙ ap (λ l. before ++ l) (sym (next_at answers ws i a w s x lt is there))
    ∙ h
