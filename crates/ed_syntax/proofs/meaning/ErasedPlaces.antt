-- Where a command is placed without a letter that it doesn't name.
use Rattle.std.proofs.Common.{◌≡◌, ℕ, ◌+◌, ◌-◌, ℤ, pos, negsuc, true, false, ◌||◌, List, [], ◌∷◌, ◌++◌, reverse, max, Option, Some, None, Result, Ok, Err, refl, ap, ◌∙◌}
use Rattle.std.specs.Prelude.{ok_or, nat_le, ◌+ℤ◌}
use Rattle.std.proofs.lemmas.Bool.{eqb-false, or_parts}
use Rattle.ed_base.specs.Buffer.{Line}
use Rattle.ed_base.specs.declared.fault.Fault.{Fault}
use Rattle.ed_base.specs.declared.fault.Fault.TheVariants as fault
use Rattle.ed_syntax.specs.declared.verbs.Taking.{Taking}
use Rattle.ed_syntax.specs.Commands as ed
use Rattle.ed_syntax.specs.Commands.{Base, Address, Addresses, Verb, Command}
use Rattle.ed_syntax.specs.meaning.Verbs.{takes, given_or}
use Rattle.ed_syntax.specs.meaning.States.{State, last}
use Rattle.ed_syntax.specs.meaning.Values.{◌>>◌, matches, matches_line, upwards, lines_forward, lines_backward, sought, remembered, searched, line_at, base_number, within, value, evaluated, moved, values}
use Rattle.ed_syntax.specs.meaning.Ranges.{Span, spanned}
use Rattle.ed_syntax.specs.meaning.Applied.{Placed, targeted, placed}
use Rattle.ed_syntax.specs.meaning.Erasure.{base_names, address_names, addresses_name, target_names, marks_with, command_names, lines_without, state_without}
use Rattle.ed_syntax.proofs.meaning.ErasureLemmas.{mapped, then-mapped, mapped-mapped, then-same, find-same, get_or-without, length-without, marked_place-without}

module _ (x : ℕ) where
  -- an editor without the letter
  abbrev pub cut : State → State
  cut s = state_without x s

  matches-same : (text : List ℕ) (lines : List Line) (n : ℕ) → matches_line text (lines_without x lines) n ≡ matches_line text lines n
  matches-same text lines n = ap (λ (line : Line). matches text line.bytes) (get_or-without x lines (n - 1))

  searched-same : (own : Option (List ℕ)) (order : List ℕ) (s : State) → searched own order (cut s) ≡ searched own order s
  searched-same None order s = refl
  searched-same (Some text) order s =
      ap (λ (o : Option ℕ). ok_or o fault.NoMatch) (find-same (matches_line text (lines_without x s.lines)) (matches_line text s.lines) (matches-same text s.lines) order)

  forward-same : (s : State) → lines_forward (cut s) ≡ lines_forward s
  forward-same s = ap (λ n. upwards (s.current + 1) n ++ upwards 1 s.current) (length-without x s.lines)

  backward-same : (s : State) → lines_backward (cut s) ≡ lines_backward s
  backward-same s = ap (λ n. reverse (upwards 1 (s.current - 1)) ++ reverse (upwards (max 1 s.current) n)) (length-without x s.lines)

  pub sought-same : (own : Option (List ℕ)) (s : State) → sought own (cut s) ≡ sought own s
  sought-same None s = refl
  sought-same (Some text) s = refl

  base-same : (b : Base) (s : State) → base_names x b ≡ false → base_number b (cut s) ≡ base_number b s
  base-same (ed.Number n) s free = refl
  base-same ed.Current s free = refl
  base-same ed.Last s free = ap (λ (n : ℕ). Ok n) (length-without x s.lines)
  base-same (ed.Marked own) s free = ap line_at (marked_place-without x own (eqb-false own x free) s.lines)
  base-same (ed.Forward own) s free =
      ap (λ (p : Option (List ℕ)). searched p (lines_forward (cut s)) (cut s)) (sought-same own s)
      ∙ ap (λ order. searched (sought own s) order (cut s)) (forward-same s)
      ∙ searched-same (sought own s) (lines_forward s) s
  base-same (ed.Backward own) s free =
      ap (λ (p : Option (List ℕ)). searched p (lines_backward (cut s)) (cut s)) (sought-same own s)
      ∙ ap (λ order. searched (sought own s) order (cut s)) (backward-same s)
      ∙ searched-same (sought own s) (lines_backward s) s

  within-same : (s : State) (z : ℤ) → within (cut s) z ≡ within s z
  within-same s (pos n) =
      ap (λ m. elim (nat_le n m) as (λ _. Result ℕ Fault) [ true ↦ Ok n | false ↦ Err fault.Address ]) (length-without x s.lines)
  within-same s (negsuc n) = refl

  value-same : (a : Address) (s : State) → address_names x a ≡ false → value a (cut s) ≡ value a s
  value-same a s free =
      ap (λ (r : Result ℕ Fault). r >> λ n. within (cut s) (pos n +ℤ a.offset)) (base-same a.base s free)
      ∙ then-same (base_number a.base s) _ _ (λ n. within-same s (pos n +ℤ a.offset))

  remembered-same : (b : Base) (s : State) → remembered b (cut s) ≡ remembered b s
  remembered-same (ed.Forward own) s = sought-same own s
  remembered-same (ed.Backward own) s = sought-same own s
  remembered-same _ s = refl

  evaluated-same : (a : Address) (s : State) → evaluated a (cut s) ≡ cut (evaluated a s)
  evaluated-same a s = ap (λ (p : Option (List ℕ)). record (cut s) { pattern = p }) (remembered-same a.base s)

  -- what is evaluated, where the editor is without the letter
  abbrev pub cut_values : State × List ℕ → State × List ℕ
  cut_values v = (cut v.0, v.1)

  -- an address, and then whatever comes of it
  after-value : {C D : Type 0} (g : C → D) (a : Address) (s : State) (k : ℕ → Result C Fault) (l : ℕ → Result D Fault) → address_names x a ≡ false →
      ((n : ℕ) → l n ≡ mapped g (k n)) → (value a (cut s) >> l) ≡ mapped g (value a s >> k)
  after-value g a s k l free same = ap (λ (r : Result ℕ Fault). r >> l) (value-same a s free) ∙ then-mapped g (value a s) k l same

  pub values-same : (a : Addresses) (s : State) → addresses_name x a ≡ false → values a (cut s) ≡ mapped cut_values (values a s)
  values-same ed.Without s free = refl
  values-same (ed.One a) s free = after-value cut_values a s _ _ free (λ n. ap (λ (u : State). Ok (u, n ∷ [])) (evaluated-same a s))
  values-same (ed.Comma a b) s free =
      let each = or_parts (address_names x a) (address_names x b) free in
      after-value cut_values a s _ _ each.0 (λ n.
      ap (λ (u : State). value b u >> λ m. Ok (evaluated b u, n ∷ m ∷ [])) (evaluated-same a s)
      ∙ after-value cut_values b (evaluated a s) _ _ each.1 (λ m. ap (λ (u : State). Ok (u, n ∷ m ∷ [])) (evaluated-same b (evaluated a s))))
  values-same (ed.Semicolon a None) s free =
      after-value cut_values a s _ _ free (λ n. ap (λ (u : State). Ok (moved n u, n ∷ n ∷ [])) (evaluated-same a s))
  values-same (ed.Semicolon a (Some b)) s free =
      let each = or_parts (address_names x a) (address_names x b) free in
      after-value cut_values a s _ _ each.0 (λ n.
      ap (λ (u : State). value b (moved n u) >> λ m. Ok (evaluated b (moved n u), n ∷ m ∷ [])) (evaluated-same a s)
      ∙ after-value cut_values b (moved n (evaluated a s)) _ _ each.1 (λ m.
      ap (λ (u : State). Ok (u, n ∷ m ∷ [])) (evaluated-same b (moved n (evaluated a s)))))

  abbrev pub cut_target : State × ℕ → State × ℕ
  cut_target t = (cut t.0, t.1)

  pub targeted-same : (a : Option Address) (s : State) → target_names x a ≡ false → targeted a (cut s) ≡ mapped cut_target (targeted a s)
  targeted-same None s free = refl
  targeted-same (Some a) s free = after-value cut_target a s _ _ free (λ n. ap (λ (u : State). Ok (u, n)) (evaluated-same a s))

  -- a command's own addresses name no letter
  default-named : (verb : Verb) → addresses_name x (takes verb).default ≡ false
  default-named (ed.Append text) = refl
  default-named _ = refl

  given-named : (a : Addresses) (verb : Verb) → addresses_name x a ≡ false → addresses_name x (given_or a (takes verb).default) ≡ false
  given-named ed.Without verb free = default-named verb
  given-named (ed.One a) verb free = free
  given-named (ed.Comma a b) verb free = free
  given-named (ed.Semicolon a b) verb free = free

  spanned-same : (t : Taking) (s : State) (v : List ℕ) → spanned t (last (cut s)) v ≡ spanned t (last s) v
  spanned-same t s v = ap (λ n. spanned t n v) (length-without x s.lines)

  abbrev pub cut_placed : Placed → Placed
  cut_placed p = record p { state = cut p.state }

  -- what a command that doesn't name the letter consists of
  pub named-parts : (c : Command) → command_names x c ≡ false →
      (addresses_name x c.addresses ≡ false) × (target_names x (takes c.verb).target ≡ false) × (marks_with x c.verb ≡ false)
  named-parts c free =
      let first = or_parts (addresses_name x c.addresses) (target_names x (takes c.verb).target || marks_with x c.verb) free in
      let others = or_parts (target_names x (takes c.verb).target) (marks_with x c.verb) first.1 in
      (first.0, others.0, others.1)

  pub placed-same : (c : Command) (s : State) → command_names x c ≡ false → placed c (cut s) ≡ mapped cut_placed (placed c s)
  placed-same c s free =
      let parts = named-parts c free in
      let given : Addresses = given_or c.addresses (takes c.verb).default in
      let spans : List ℕ → Result Span Fault = λ v. spanned (takes c.verb).taking (last s) v in
      let cut_spans : List ℕ → Result Span Fault = λ v. spanned (takes c.verb).taking (last (cut s)) v in
      ap (λ (r : Result (State × List ℕ) Fault). r >> λ v. targeted (takes c.verb).target v.0 >> λ t.
      cut_spans v.1 >> λ p. Ok (record { state = t.0; span = p; target = t.1 })) (values-same given s (given-named c.addresses c.verb parts.0))
      ∙ mapped-mapped cut_values cut_placed (values given s)
      (λ v. targeted (takes c.verb).target v.0 >> λ t. spans v.1 >> λ p. Ok (record { state = t.0; span = p; target = t.1 }))
      (λ v. targeted (takes c.verb).target v.0 >> λ t. cut_spans v.1 >> λ p. Ok (record { state = t.0; span = p; target = t.1 }))
      (λ v.
      ap (λ (r : Result (State × ℕ) Fault). r >> λ t. cut_spans v.1 >> λ p. Ok (record { state = t.0; span = p; target = t.1 }))
      (targeted-same (takes c.verb).target v.0 parts.1)
      ∙ mapped-mapped cut_target cut_placed (targeted (takes c.verb).target v.0)
      (λ t. spans v.1 >> λ p. Ok (record { state = t.0; span = p; target = t.1 }))
      (λ t. cut_spans v.1 >> λ p. Ok (record { state = t.0; span = p; target = t.1 }))
      (λ t.
      ap (λ (r : Result Span Fault). r >> λ p. Ok (record { state = cut t.0; span = p; target = t.1 })) (spanned-same (takes c.verb).taking s v.1)
      ∙ then-mapped cut_placed (spans v.1) _ _ (λ p. refl)))
