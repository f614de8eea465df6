-- Why a closed set of watches leaves no text that is as said: what stands in it before a place stands in it before the next one.
use Rattle.std.proofs.Common.{◌≡◌, ℕ, zero, suc, ◌+◌, ◌<◌, ◌⊎◌, inl, inr, List, [], ◌∷◌, length, get_or, true, false, eqb, refl, ap, sym, ◌∙◌, subst, arith}
use Rattle.std.proofs.lemmas.Bool.Decides.{nat_tests}
use Rattle.std.proofs.lemmas.Option.{slice_get_past}
use Rattle.std.specs.List.{All}
use Rattle.bre_match.specs.declared.witness.Answer.{Answer}
use Rattle.bre_match.specs.ByteKinds.{StandForBytes}
use Rattle.bre_match.specs.Watches.{Watch, IsPlain, next_watches, first_watches, are_as_said, is_ruled_out}
use Rattle.bre_match.specs.ClosedSets.{AreDone, AreKnown, BytesLeadOn, HasClosedSet, KnownLeadOn, LeadOn, StayKnown}
use Rattle.bre_match.specs.Witness.{NoneAnswers}
use Rattle.bre_match.proofs.Automata.{Alike}
use Rattle.bre_match.proofs.witnesses.ByteKinds.{number_leads}
use Rattle.bre_match.proofs.witnesses.Watching.{watches, next_is, first_is, same_next, ruled_on, ruled_fails, as_said}

known_still : (old new : List (List Watch)) (ws : List Watch) → StayKnown old new → AreKnown old ws → AreKnown new ws
known_still old new ws stay k = let below = k.1 in let longer = stay.0 in (k.0, omega arith, stay.1 k.0 k.1 ∙ k.2)

done_still : (answers : List Answer) (old new : List (List Watch)) (ws : List Watch) → StayKnown old new → AreDone answers old ws →
    AreDone answers new ws
done_still answers old new ws stay done = elim done [ inl out ↦ inl out | inr k ↦ inr (known_still old new ws stay k) ]

pub leads_still : (answers : List Answer) (kinds : List ℕ) (old new : List (List Watch)) (place : ℕ) (ws : List Watch) → StayKnown old new →
    LeadOn answers kinds old place ws → LeadOn answers kinds new place ws
leads_still answers kinds old new place ws stay h = (
  λ k lt. done_still answers old new (next_watches answers ws (get_or kinds k 0 ∷ get_or kinds k 0 ∷ []) place) stay (h.0 k lt),
  h.1,
)

here_or_below : (k n : ℕ) → k < n + 1 → (k ≡ n) ⊎ (k < n)
here_or_below k n lt = grind arith

pub still_stay : (old now new : List (List Watch)) → StayKnown old now → StayKnown now new → StayKnown old new
still_stay old now new a b =
    let one = a.0 in let other = b.0 in
    (omega arith, λ k lt. b.1 k (omega arith) ∙ a.1 k lt)

-- a byte more leads on
pub byte_more : (answers : List Answer) (kinds : List ℕ) (old new : List (List Watch)) (place : ℕ) (ws : List Watch) (at byte : ℕ) (next : List Watch) →
    get_or kinds at 0 ≡ byte → StayKnown old new → BytesLeadOn answers kinds old place ws at →
    next ≡ next_watches answers ws (byte ∷ byte ∷ []) place → AreDone answers new next → BytesLeadOn answers kinds new place ws (at + 1)
byte_more answers kinds old new place ws at byte next is stay h leads done k lt =
    elim (here_or_below k at lt) [
      | inl here ↦
          subst (λ z. AreDone answers new z)
          (leads ∙ ap (λ z. next_watches answers ws (z ∷ z ∷ []) place) (sym is ∙ ap (λ z. get_or kinds z 0) (sym here))) done
      | inr before ↦ done_still answers old new (next_watches answers ws (get_or kinds k 0 ∷ get_or kinds k 0 ∷ []) place) stay (h k before)
    ]

-- one more of those that are known leads on
pub known_more : (answers : List Answer) (kinds : List ℕ) (old new : List (List Watch)) (at : ℕ) → at < length old → StayKnown old new →
    KnownLeadOn answers kinds old at → LeadOn answers kinds new 1 (get_or old at []) → KnownLeadOn answers kinds new (at + 1)
known_more answers kinds old new at low stay h led k lt =
    elim (here_or_below k at lt) [
      | inl here ↦ subst (λ z. LeadOn answers kinds new 1 z) (sym (stay.1 at low) ∙ ap (λ z. get_or new z []) (sym here)) led
      | inr before ↦
          subst (λ z. LeadOn answers kinds new 1 z) (sym (stay.1 k (omega arith)))
          (leads_still answers kinds old new 1 (get_or old k []) stay (h k before))
    ]

last : (s : List ℕ) → 0 < length s → Alike (0 ∷ []) 1 s (length s)
last s lt = record {
  byte = sym (slice_get_past s (length s) (omega arith));
  start = let e : eqb (length s) 0 ≡ false = grind (arith, nat_tests) in sym e;
  end = let e : eqb (length s) (length s) ≡ true = grind (arith, nat_tests) in sym e;
}

-- a text's watches before each place but the first
stand : (answers : List Answer) (kinds : List ℕ) (known : List (List Watch)) (s : List ℕ) → All IsPlain answers → StandForBytes answers kinds →
    LeadOn answers kinds known 0 (first_watches answers) → KnownLeadOn answers kinds known (length known) → (n : ℕ) → n < length s →
    AreDone answers known (watches answers s (suc n))
stand answers kinds known s plain all first on zero lt =
    subst (λ ws. AreDone answers known ws) (ap (λ ws. next_watches answers ws s 0) (first_is answers s) ∙ next_is answers s 0)
    (number_leads answers kinds known 0 (first_watches answers) s 0 plain all (omega arith) refl lt first.0)
stand answers kinds known s plain all first on (suc n) lt =
    elim (stand answers kinds known s plain all first on n (omega arith)) [
      | inl out ↦
          inl (subst (λ ws. is_ruled_out answers ws ≡ true) (next_is answers s (suc n)) (ruled_on answers (watches answers s (suc n)) s (suc n) out))
      | inr k ↦
          subst (λ ws. AreDone answers known ws) (ap (λ ws. next_watches answers ws s (suc n)) k.2 ∙ next_is answers s (suc n))
          (number_leads answers kinds known 1 (get_or known k.0 []) s (suc n) plain all (omega arith)
          (let e : eqb (suc n) 0 ≡ false = grind (arith, nat_tests) in e) lt (on k.0 k.1).0)
    ]

not_said : (answers : List Answer) (kinds : List ℕ) (known : List (List Watch)) (s : List ℕ) → All IsPlain answers → StandForBytes answers kinds →
    LeadOn answers kinds known 0 (first_watches answers) → KnownLeadOn answers kinds known (length known) →
    are_as_said answers (watches answers s (suc (length s))) ≡ false
not_said answers kinds known [] plain all first on =
    ap (λ ws. are_as_said answers ws) (sym (ap (λ ws. next_watches answers ws [] 0) (first_is answers []) ∙ next_is answers [] 0)) ∙ first.1
not_said answers kinds known (b ∷ s) plain all first on =
    elim (stand answers kinds known (b ∷ s) plain all first on (length s) (omega arith)) [
      | inl out ↦
          ruled_fails answers (watches answers (b ∷ s) (suc (length (b ∷ s))))
          (subst (λ ws. is_ruled_out answers ws ≡ true) (next_is answers (b ∷ s) (length (b ∷ s)))
          (ruled_on answers (watches answers (b ∷ s) (length (b ∷ s))) (b ∷ s) (length (b ∷ s)) out))
      | inr k ↦
          ap (λ ws. are_as_said answers ws)
          (sym (same_next answers (get_or known k.0 []) (0 ∷ []) 1 (b ∷ s) (length (b ∷ s)) (last (b ∷ s) (omega arith))
          ∙ ap (λ ws. next_watches answers ws (b ∷ s) (length (b ∷ s))) k.2
          ∙ next_is answers (b ∷ s) (length (b ∷ s))))
          ∙ (on k.0 k.1).1
    ]

-- So no text is as said.
pub closed_shows : (answers : List Answer) (kinds : List ℕ) → All IsPlain answers → StandForBytes answers kinds → HasClosedSet answers kinds →
    NoneAnswers answers
closed_shows answers kinds plain all closed s said =
    let yes = as_said answers s plain said in
    let no = not_said answers kinds closed.0 s plain all closed.1 closed.2 in
    cc
