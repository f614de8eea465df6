-- Texts that a sink is given in pieces through a room.
use Rattle.std.proofs.Common.{◌≡◌, ℕ, ◌<◌, ◌-◌, ◌^◌, List, [], ◌∷◌, ◌++◌, Bool, true, false, IsTrue, Option, Some, None, length, drop, ◌≢◌, sym, refl, ap, ◌∙◌, append_assoc, append-nil, subst}
use Rattle.std.proofs.Math.Logic.{∥∥₁_map, ∥∥₁_elim}
use Rattle.std.proofs.Math.Seq.{drop-append_seam}
use Rattle.std.proofs.Props.{props}
use Rattle.std.specs.Io.KnownBytes.{Appends}
use Rattle.ed_session.specs.Sinks.{SinkState, AppendsFront, change, Took, TookFront, NeverFailed, Failed}
use Rattle.ed_session.proofs.Taken.{Appends-more, some-more}
use Rattle.ed_calls.specs.Gathering.{TookAllBut, StoppedIn, IsGathered}

-- that bytes were taken has one proof at most
appends-merely : (old new : Option (List ℕ)) (bytes : List ℕ) → ∥ Appends old new bytes ∥₁ → Appends old new bytes
appends-merely None new bytes t = tt
appends-merely (Some a) None bytes t = ∥∥₁_elim t (hlevel props) (λ p. p)
appends-merely (Some a) (Some b) bytes t = ∥∥₁_elim t (hlevel props) (λ p. p)

more-some : (x y : List ℕ) → y ≢ [] → x ++ y ≢ []
more-some [] y h = h
more-some (b ∷ x) y h = λ e. cc

after : (a b front : List ℕ) → b ≡ a ++ front → drop (length a) b ≡ front
after a b front e = ap (λ l. drop (length a) l) e ∙ drop-append_seam a front

-- a front that was taken is found where the bytes are known, and any will do where they aren't
front-merely : (old new : Option (List ℕ)) (bytes : List ℕ) → ∥ AppendsFront old new bytes ∥₁ → AppendsFront old new bytes
front-merely None new bytes t =
    let some : bytes ≢ [] = ∥∥₁_elim t (hlevel props) (λ p. λ e. more-some p.0 p.1.0 p.1.2 (sym p.1.1 ∙ e)) in
    ([], (bytes, refl, some), tt)
front-merely (Some a) None bytes t = let no : ⊥ = ∥∥₁_elim t (hlevel props) (λ p. p.2) in absurd no
front-merely (Some a) (Some b) bytes t =
    let front = drop (length a) b in
    let more = drop (length front) bytes in
    let is-front = λ (p : AppendsFront (Some a) (Some b) bytes). after a b p.0 p.2 in
    let is-more = λ (p : AppendsFront (Some a) (Some b) bytes). ap (λ l. drop (length l) bytes) (is-front p) ∙ after p.0 bytes p.1.0 p.1.1 in
    let whole : bytes ≡ front ++ more =
    ∥∥₁_elim t (hlevel props) (λ p. p.1.1 ∙ ap (λ l. l ++ p.1.0) (sym (is-front p)) ∙ ap (λ l. front ++ l) (sym (is-more p))) in
    let some : more ≢ [] = ∥∥₁_elim t (hlevel props) (λ p. λ e. p.1.2 (sym (is-more p) ∙ e)) in
    let taken : b ≡ a ++ front = ∥∥₁_elim t (hlevel props) (λ p. p.2 ∙ ap (λ l. a ++ l) (sym (is-front p))) in
    (front, (more, whole, some), taken)

-- no bytes wait
none-wait : (a b : SinkState) (bytes : List ℕ) → Took (change a b) bytes × NeverFailed (change a b) → TookAllBut (change a b) bytes []
none-wait a b bytes took = record { gone = bytes; whole = sym (append-nil bytes); taken = took.0; well = took.1 }

-- all but what waits was taken, of the bytes before and then of what waited and a piece
all-but-more : (a b c : SinkState) (text room piece later : List ℕ) → TookAllBut (change a b) text room → TookAllBut (change b c) (room ++ piece) later
    → TookAllBut (change a c) (text ++ piece) later
all-but-more a b c text room piece later first then = record {
  gone = first.gone ++ then.gone;
  whole = ap (λ l. l ++ piece) first.whole ∙ append_assoc first.gone room piece ∙ ap (λ l. first.gone ++ l) then.whole ∙ sym (append_assoc first.gone then.gone later);
  taken = Appends-more a.taken b.taken c.taken first.gone then.gone first.taken then.taken;
  well = then.well ∙ first.well;
}

-- what waited was given, and then a piece
pub both-given : (a b c : SinkState) (given room piece later : List ℕ) → Took (change a b) given × NeverFailed (change a b) → given ≡ room
    → Took (change b c) piece × NeverFailed (change b c) → later ≡ [] → TookAllBut (change a c) (room ++ piece) later
both-given a b c given room piece later first is then none =
    let all : TookAllBut (change a c) (given ++ piece) [] = all-but-more a b c given [] piece [] (none-wait a b given first) (none-wait b c piece then) in
    subst (λ l. TookAllBut (change a c) (l ++ piece) later) is (subst (λ l. TookAllBut (change a c) (given ++ piece) l) (sym none) all)

-- some of what was given is refused, and so some of that and more
pub stopped : (a b : SinkState) (given bytes rest : List ℕ) → TookFront (change a b) given × Failed (change a b) → given ≡ bytes → StoppedIn (change a b) (bytes ++ rest)
stopped a b given bytes rest part is =
    let front = part.0.0 in
    let more = part.0.1.0 in
    let whole : bytes ++ rest ≡ front ++ (more ++ rest) =
    ap (λ l. l ++ rest) (sym is ∙ part.0.1.1) ∙ append_assoc front more rest in
    record { front = (front, (more ++ rest, whole, some-more more rest part.0.1.2), part.0.2); failed = part.1 }

-- all but what waits was taken, and of that and a piece some was refused
stopped-then : (a b c : SinkState) (text room piece : List ℕ) → TookAllBut (change a b) text room → StoppedIn (change b c) (room ++ piece)
    → StoppedIn (change a c) (text ++ piece)
stopped-then a b c text room piece first part =
    let front = part.front.0 in
    let more = part.front.1.0 in
    let whole : text ++ piece ≡ (first.gone ++ front) ++ more =
    ap (λ l. l ++ piece) first.whole ∙ append_assoc first.gone room piece ∙ ap (λ l. first.gone ++ l) part.front.1.1 ∙ sym (append_assoc first.gone front more) in
    record {
      front = (first.gone ++ front, (more, whole, part.front.1.2), Appends-more a.taken b.taken c.taken first.gone front first.taken part.front.2);
      failed = subst (λ n. n < c.failures) first.well part.failed;
    }

-- one more piece
pub gathered-more : (a b c : SinkState) (room later text piece told : List ℕ) (old new : Bool) → IsGathered a b room old text → told ≡ text ++ piece
    → (IsTrue old → IsTrue new × (c ≡ b))
    → (old ≡ false → new ≡ false → TookAllBut (change b c) (room ++ piece) later)
    → (old ≡ false → IsTrue new → StoppedIn (change b c) (room ++ piece))
    → IsGathered a c later new told
gathered-more a b c room later text piece told false false so is keeps puts stops =
    (rw is (all-but-more a b c text room piece later so.0 (puts refl refl)), so.1)
gathered-more a b c room later text piece told false true so is keeps puts stops = rw is (stopped-then a b c text room piece so.0 (stops refl refl))
gathered-more a b c room later text piece told true false so is keeps puts stops = let no = (keeps refl).0 in cc
gathered-more a b c room later text piece told true true so is keeps puts stops =
    rw (is, (keeps refl).1) (stopped a b text text piece (so.front, so.failed) refl)

-- a sink that refused nothing has failed no more often than before
low : (a b : SinkState) (room text : List ℕ) (refused : Bool) → ∥ IsGathered a b room refused text ∥₁ → refused ≡ false → b.failures < 2 ^ 64 - 1
low a b room text true so e = cc
low a b room text false so e = ∥∥₁_elim so (hlevel props) (λ t. rw t.0.well t.1)

-- the sink took what waited last, so it took all
all-taken : (a b d : SinkState) (room text : List ℕ) (refused : Bool) → ∥ IsGathered a b room refused text ∥₁ → refused ≡ false
    → Took (change b d) room × NeverFailed (change b d) → Took (change a d) text × NeverFailed (change a d)
all-taken a b d room text true so e last = cc
all-taken a b d room text false so e last = (
  appends-merely a.taken d.taken text
      (∥∥₁_map so (λ t. subst (Appends a.taken d.taken) (sym t.0.whole) (Appends-more a.taken b.taken d.taken t.0.gone room t.0.taken last.0))),
  ∥∥₁_elim so (hlevel props) (λ t. last.1 ∙ t.0.well),
)

-- the sink refused some of what waited last, so it took a front
front-taken : (a b d : SinkState) (room text : List ℕ) (refused : Bool) → ∥ IsGathered a b room refused text ∥₁ → refused ≡ false
    → TookFront (change b d) room × Failed (change b d) → TookFront (change a d) text × Failed (change a d)
front-taken a b d room text true so e last = cc
front-taken a b d room text false so e last =
    let whole = λ (t : IsGathered a b room false text). stopped-then a b d text room [] t.0 (stopped b d room room [] last refl) in (
      front-merely a.taken d.taken text (∥∥₁_map so (λ t. subst (AppendsFront a.taken d.taken) (append-nil text) (whole t).front)),
      ∥∥₁_elim so (hlevel props) (λ t. (whole t).failed),
    )

-- the sink had refused before
had-refused : (a b : SinkState) (room text : List ℕ) (refused : Bool) → ∥ IsGathered a b room refused text ∥₁ → IsTrue refused
    → TookFront (change a b) text × Failed (change a b)
had-refused a b room text false so e = cc
had-refused a b room text true so e = (front-merely a.taken b.taken text (∥∥₁_map so (λ t. t.front)), ∥∥₁_elim so (hlevel props) (λ t. t.failed))

-- The same of a sink and a room that were lent meanwhile, and of which the lender knows that they are as they were left.
module _ {S : Type 0} (state : S → SinkState) (a : SinkState) (left : S) (kept : List ℕ) (refused : Bool) (told text : List ℕ)
    (so : ∥ IsGathered a (state left) kept refused told ∥₁) (all : told ≡ text) where
  pub gathered-low : (end : S) → refused ≡ false → left ≡ end → (state end).failures < 2 ^ 64 - 1
  gathered-low end e same = subst (λ s. (state s).failures < 2 ^ 64 - 1) same (low a (state left) kept told refused so e)

  pub gathered-all : (end : S) (waits given : List ℕ) (d : SinkState) → refused ≡ false → Took (change (state end) d) given × NeverFailed (change (state end) d)
      → given ≡ waits → left ≡ end → kept ≡ waits → Took (change a d) text × NeverFailed (change a d)
  gathered-all end waits given d e last is same waiting =
      let last' : Took (change (state left) d) kept × NeverFailed (change (state left) d) = rw (same, waiting, sym is) last in
      rw (sym all) (all-taken a (state left) d kept told refused so e last')

  pub gathered-part : (end : S) (waits given : List ℕ) (d : SinkState) → refused ≡ false → TookFront (change (state end) d) given × Failed (change (state end) d)
      → given ≡ waits → left ≡ end → kept ≡ waits → TookFront (change a d) text × Failed (change a d)
  gathered-part end waits given d e last is same waiting =
      let last' : TookFront (change (state left) d) kept × Failed (change (state left) d) = rw (same, waiting, sym is) last in
      rw (sym all) (front-taken a (state left) d kept told refused so e last')

  pub gathered-stopped : (end : S) → IsTrue refused → left ≡ end → TookFront (change a (state end)) text × Failed (change a (state end))
  gathered-stopped end e same =
      rw (sym all) (subst (λ s. TookFront (change a (state s)) told × Failed (change a (state s))) same (had-refused a (state left) kept told refused so e))

-- after the names of what is lent stands the text
pub written-after : (n m n' m' : ℕ) (bytes first text : List ℕ) → n ∷ m ∷ bytes ≡ (n' ∷ m' ∷ first) ++ text → first ≡ []
    → (n ≡ n') × (m ≡ m') × (bytes ≡ text)
written-after n m n' m' bytes first text e none =
    let rest : bytes ≡ first ++ text = cc in
    (cc, cc, rest ∙ ap (λ l. l ++ text) none)
