-- Bytes that a sink took, one piece after another.
use Rattle.std.proofs.Common.{◌≡◌, ℕ, ◌+◌, ◌-◌, ◌<◌, ◌≤◌, List, [], ◌∷◌, ◌++◌, Option, Some, None, take, drop, length, length-drop, ◌≢◌, sym, refl, ap, ◌∙◌, arith, append_assoc, append-nil, subst}
use Rattle.std.specs.Io.KnownBytes.{Appends, Keeps}
use Rattle.std.proofs.lemmas.Grind.{common_steps}
use Rattle.std.proofs.lemmas.List.{take-take, drop-take, take-append-drop}
use Rattle.ed_session.specs.Sinks.{AppendsFront}

-- two pieces are taken one after another
pub Appends-more : (a b c : Option (List ℕ)) (x y : List ℕ) → Appends a b x → Appends b c y → Appends a c (x ++ y)
Appends-more None b c x y p q = tt
Appends-more (Some a) None c x y p q = absurd p
Appends-more (Some a) (Some b) None x y p q = absurd q
Appends-more (Some a) (Some b) (Some c) x y p q = q ∙ ap (λ t. t ++ y) p ∙ append_assoc a x y

-- nothing was taken
pub Appends-none : (a : Option (List ℕ)) → Appends a a []
Appends-none None = tt
Appends-none (Some a) = grind (arith, common_steps)

-- what is kept after a piece that was taken
pub Appends-keeps : (a b c : Option (List ℕ)) (x : List ℕ) → Appends a b x → Keeps b c → Appends a c x
Appends-keeps None b c x p q = tt
Appends-keeps (Some a) None c x p q = absurd p
Appends-keeps (Some a) (Some b) None x p q = absurd q
Appends-keeps (Some a) (Some b) (Some c) x p q = q ∙ p

-- the first n bytes are a front, after which there are more
pub front-taken : (old new : Option (List ℕ)) (bytes : List ℕ) (n : ℕ) → n < length bytes → Appends old new (take n bytes) → AppendsFront old new bytes
front-taken old new bytes n h taken =
    let some : drop n bytes ≢ [] = λ e. let none : length (drop n bytes) ≡ 0 = ap length e in omega (arith, length-drop n bytes) in
    (take n bytes, (drop n bytes, sym (take-append-drop n bytes), some), taken)

-- a list that goes on after some bytes isn't at its end there
pub some-more : (x y : List ℕ) → x ≢ [] → x ++ y ≢ []
some-more [] y h = λ e. h refl
some-more (b ∷ x) y h = λ e. cc

-- the next n bytes of bs, which stand after the first i
pub take-next : (bs : List ℕ) (i n : ℕ) → i ≤ length bs → n ≤ length bs - i → take (i + n) bs ≡ take i bs ++ take n (take (length bs - i) (drop i bs))
take-next bs i n h k =
    sym (take-append-drop i (take (i + n) bs))
    ∙ rw (take-take i (i + n) bs (omega arith), drop-take i n bs, take-take n (length bs - i) (drop i bs) k) refl

-- all bytes but those that are left were taken
pub record TakenUpTo (old new : Option (List ℕ)) (bytes left : List ℕ) : Type 0 where
  pub done : List ℕ
  pub whole : bytes ≡ done ++ left
  pub taken : Appends old new done

-- nothing was taken yet
pub up-to-none : (a : Option (List ℕ)) (bytes left : List ℕ) → left ≡ bytes → TakenUpTo a a bytes left
up-to-none a bytes left e = record { done = []; whole = sym e; taken = Appends-none a }

-- a chunk more was taken
pub up-to-more : (a b c : Option (List ℕ)) (bytes left chunk rest : List ℕ) → TakenUpTo a b bytes left → left ≡ chunk ++ rest → Appends b c chunk →
    TakenUpTo a c bytes rest
up-to-more a b c bytes left chunk rest before e more = record {
  done = before.done ++ chunk;
  whole = before.whole ∙ ap (λ l. before.done ++ l) e ∙ sym (append_assoc before.done chunk rest);
  taken = Appends-more a b c before.done chunk before.taken more;
}

-- all bytes were taken
pub up-to-all : (a b : Option (List ℕ)) (bytes left : List ℕ) → TakenUpTo a b bytes left → left ≡ [] → Appends a b bytes
up-to-all a b bytes left up e =
    let all : up.done ≡ bytes = sym (append-nil up.done) ∙ ap (λ l. up.done ++ l) (sym e) ∙ sym up.whole in
    subst (Appends a b) all up.taken

-- a front of the next chunk was taken, and not all of it
pub up-to-part : (a b c : Option (List ℕ)) (bytes left chunk rest : List ℕ) → TakenUpTo a b bytes left → left ≡ chunk ++ rest →
    AppendsFront b c chunk → AppendsFront a c bytes
up-to-part a b c bytes left chunk rest before e part =
    let front = part.0 in
    let more = part.1.0 in
    let whole : bytes ≡ (before.done ++ front) ++ (more ++ rest) =
    before.whole ∙ ap (λ l. before.done ++ l) (e ∙ ap (λ l. l ++ rest) part.1.1 ∙ append_assoc front more rest) ∙ sym (append_assoc before.done front (more ++ rest)) in
    (before.done ++ front, (more ++ rest, whole, some-more more rest part.1.2), Appends-more a b c before.done front before.taken part.2)
