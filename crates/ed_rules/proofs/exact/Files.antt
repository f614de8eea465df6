-- `w`, `f` and `q`: the rule knows the path and the flag.
use Rattle.std.proofs.Common.{◌≡◌, ◌≤◌, ℕ, ℤ, pos, negsuc, ◌&&◌, ◌||◌, not, Bool, true, false, List, [], ◌∷◌, ◌++◌, length, Option, None, Some, Result, Ok, Err, arith, refl, ◌∙◌, ap, sym, subst, inl, inr, nat_eq}
use Rattle.std.specs.Option.{ok_or, unwrap_or}
use Rattle.std.proofs.lemmas.Int.{ints}
use Rattle.std.proofs.lemmas.Bool.{cases_lt, eq-eqb, ne_eqb, and_from, and_left, and_right, or_left, or_right}
use Rattle.std.proofs.Math.Bool.{and-true, and-false}
use Rattle.ed_base.specs.declared.fault.Fault.{Fault}
use Rattle.ed_base.specs.declared.fault.Fault.TheVariants as fault
use Rattle.ed_base.specs.Lines.{newline}
use Rattle.zones.specs.Zone.{Bounds}
use Rattle.zones.specs.Known.{known}
use Rattle.ed_syntax.specs.declared.request.Answer.TheVariants as answer
use Rattle.ed_syntax.specs.Commands.{Addresses, Without, One, Comma, Semicolon}
use Rattle.ed_syntax.specs.meaning.States as editor
use Rattle.ed_syntax.specs.meaning.States.{kept}
use Rattle.ed_syntax.specs.meaning.Effects.{Outcome, Effect, Makes, only}
use Rattle.ed_syntax.specs.meaning.Applied.{making}
use Rattle.ed_syntax.specs.meaning.Files as file
use Rattle.ed_syntax.specs.meaning.Ranges.{Span, span}
use Rattle.ed_syntax.specs.meaning.Values.{◌>>◌}
use Rattle.ed_rules.specs.declared.state.Changed.{Changed}
use Rattle.ed_rules.specs.declared.state.State.{State}
use Rattle.ed_rules.specs.Choices.{Choice, has_choice}
use Rattle.ed_rules.specs.States.{unchanged}
use Rattle.ed_rules.specs.Pieces.{needing}
use Rattle.ed_rules.specs.Files.{named, filled, named_first, named_anew, changed_by_lines, changed_by_write, file_written, file_named, saved}
use Rattle.ed_rules.specs.ExactRules.{EndAlike, flag_of}
use Rattle.ed_rules.proofs.exact.EndAlike.{EndAlike-bind, EndAlike-weaker}
use Rattle.ed_rules.proofs.exact.Zones.{At, At-knows, At-denies}
use Rattle.ed_rules.proofs.exact.Addresses.{Sees}
use Rattle.ed_rules.proofs.exact.Spans.{Spans, Wholes}
use Rattle.ed_rules.proofs.exact.Effects.{Seen, Leaves, stays-seen}

-- THE PATH

-- with a path given nothing is needed, else the one remembered path
abbrev Uses : Option (List ℕ) → State → editor.State → State → List ℕ → Type 0
Uses path s e t used = (t ≡ s) × (used ≡ unwrap_or e.name used) × (path ≡ None → e.name ≡ Some used)

-- the path that is used, by what is given and what is remembered
abbrev IsUsed : (path name : Option (List ℕ)) → List ℕ → Type 0
IsUsed None name used = name ≡ Some used
IsUsed (Some given) name used = used ≡ given

named-by : (s : State) (names : List Choice) (name : Option (List ℕ)) → names ≡ name ∷ [] →
    EndAlike (λ t used. (t ≡ s) × (name ≡ Some used)) (needing (not (has_choice names None)) fault.Name s) (ok_or name fault.Name)
named-by s names None is = rw is refl
named-by s names (Some path) is = rw is (refl, refl)

named-alike : (path : Option (List ℕ)) (s : State) (e : editor.State) → s.names ≡ e.name ∷ [] →
    EndAlike (λ t used. (t ≡ s) × IsUsed path e.name used) (named path s) (file.used_path path e)
named-alike (Some given) s e is = (refl, refl)
named-alike None s e is = named-by s s.names e.name is

filled-one : (path : List ℕ) (name : Option (List ℕ)) → filled path (name ∷ []) ≡ Some (unwrap_or name path) ∷ []
unfolding filled
filled-one path name = refl

named_first-names : (path : Option (List ℕ)) (s : State) (e : editor.State) (used : List ℕ) → s.names ≡ e.name ∷ [] →
    IsUsed path e.name used → (named_first path s).names ≡ Some (unwrap_or e.name used) ∷ []
named_first-names None s e used is u = is ∙ ap (λ (c : Choice). c ∷ [])
    (u ∙ ap (λ (p : List ℕ). Some p) (sym (ap (λ (n : Option (List ℕ)). unwrap_or n used) u)))
named_first-names (Some given) s e used is u =
    ap (filled given) is ∙ filled-one given e.name ∙ ap (λ (p : List ℕ). Some (unwrap_or e.name p) ∷ []) (sym u)

named_anew-names : (path : Option (List ℕ)) (s : State) (e : editor.State) (used : List ℕ) → s.names ≡ e.name ∷ [] →
    IsUsed path e.name used → (named_anew path s).names ≡ Some used ∷ []
named_anew-names None s e used is u = is ∙ ap (λ (c : Choice). c ∷ []) u
named_anew-names (Some given) s e used is u = ap (λ (p : List ℕ). Some p ∷ []) (sym u)

-- another path
Seen-named : (t u : State) (e f : editor.State) (k : ℕ) (a b i : ℤ) → Sees k a b i t e → 3 ≤ k → u.zone ≡ t.zone → u.marks ≡ t.marks →
    f.lines ≡ e.lines → f.current ≡ e.current → u.names ≡ f.name ∷ [] → u.changed ≡ flag_of f.changed → Seen u f
Seen-named t u e f k a b i h k3 zone marks lines current names flag =
    let g : Sees k a b i (record t { names = u.names; changed = u.changed }) (record e { name = f.name; changed = f.changed }) =
    record { zone = h.zone; marks = h.marks; names = names; changed = flag; inside = h.inside; few = h.few } in
    record {
      names = k;
      first = a;
      second = b;
      target = i;
      enough = k3;
      sees = record {
        zone = subst (λ (z : Bounds). At z k (pos f.current) (pos (length f.lines)) a b i) (sym zone)
            (subst (λ (n : ℕ). At t.zone k (pos n) (pos (length f.lines)) a b i) (sym current)
            (subst (λ (ls : List _). At t.zone k (pos e.current) (pos (length ls)) a b i) (sym lines) h.zone));
        marks = marks ∙ h.marks;
        names = names;
        changed = flag;
        inside = rw (lines, current) h.inside;
        few = rw lines h.few;
      };
    }

-- `f`
pub name-leaves : (listed : Bool) (path : Option (List ℕ)) (start : editor.State) (t : State) (e : editor.State) (k : ℕ) (a b i : ℤ) →
    Sees k a b i t e → 3 ≤ k →
    EndAlike (Leaves listed start) (file_named path t) (making (file.file_name path e))
name-leaves listed path start t e k a b i h k3 =
    subst (λ (y : Result Effect Fault). EndAlike (Leaves listed start) (file_named path t) y)
    (sym (making-after (file.used_path path e) (λ used. only (record e { name = Some used }) (used ++ newline ∷ []))))
    (EndAlike-bind (λ u used. (u ≡ t) × IsUsed path e.name used) (Leaves listed start) (named path t) (file.used_path path e)
    (λ u. Ok (named_anew path u)) (λ used. Ok (Makes (only (record e { name = Some used }) (used ++ newline ∷ []))))
    (named-alike path t e h.names)
    (λ u used r few. rw r.0 (by-path path used r.1)))
  where
    making-after : (x : Result (List ℕ) Fault) (f : List ℕ → Outcome) → making (x >> λ p. Ok (f p)) ≡ x >> λ p. Ok (Makes (f p))
    making-after (Ok p) f = refl
    making-after (Err g) f = refl

    by-path : (path : Option (List ℕ)) (used : List ℕ) → IsUsed path e.name used → Seen (named_anew path t) (record e { name = Some used })
    by-path None used u = Seen-named t (named_anew None t) e (record e { name = Some used }) k a b i h k3 refl refl refl refl
        (named_anew-names None t e used h.names u) h.changed
    by-path (Some given) used u = Seen-named t (named_anew (Some given) t) e
        (record e { name = Some used }) k a b i h k3 refl refl refl refl (named_anew-names (Some given) t e used h.names u) h.changed

-- THE FLAG

written-whole : (zone : Bounds) (c : Changed) → known zone 3 0 (pos 1) ≡ true → known zone 2 4 (pos 0) ≡ true →
    changed_by_lines zone c ≡ unchanged
unfolding changed_by_lines
written-whole zone c h k = rw (h, k) refl

written-part : (zone : Bounds) (c : Changed) → (known zone 3 0 (pos 1) && known zone 2 4 (pos 0)) ≡ false →
    (known zone 0 3 (negsuc 1) || known zone 4 2 (negsuc 0)) ≡ true → changed_by_lines zone c ≡ c
unfolding changed_by_lines
written-part zone c h k = rw (h, k) refl

whole-true : (x : Span) (e : editor.State) → x.first ≡ 1 → x.last ≡ length e.lines → file.is_whole x e ≡ true
whole-true x e h k = and_from (nat_eq x.first 1) (nat_eq x.last (length e.lines)) (eq-eqb x.first 1 h) (eq-eqb x.last (length e.lines) k)

flag-lines : (u : State) (e : editor.State) (x : Span) → Spans e 5 (pos 0) u x →
    changed_by_lines u.zone u.changed ≡ flag_of (e.changed && not (file.is_whole x e))
flag-lines u e x r =
    let z = r.sees.zone in
    let c : ℤ = pos e.current in
    let l : ℤ = pos (length e.lines) in
    let from = r.from in
    let inside = r.inside in
    elim (cases_lt 1 x.first) [
      | inl high ↦
          written-part u.zone u.changed
          (and_left (known u.zone 3 0 (pos 1)) (known u.zone 2 4 (pos 0))
          (At-denies u.zone 5 c l (pos x.first) (pos x.last) (pos 0) 3 0 (pos 1) z (omega arith) (omega arith) (omega arith) (omega arith)
          (omega (arith, ints))))
          (or_left (known u.zone 0 3 (negsuc 1)) (known u.zone 4 2 (negsuc 0))
          (At-knows u.zone 5 c l (pos x.first) (pos x.last) (pos 0) 0 3 (negsuc 1) z (omega arith) (omega arith) (omega arith) (omega arith)
          (omega (arith, ints))))
          ∙ r.sees.changed ∙ ap (λ (b : Bool). flag_of b)
          (sym (and-true e.changed) ∙ ap (λ (b : Bool). e.changed && not b)
          (sym (and_left (nat_eq x.first 1) (nat_eq x.last (length e.lines)) (ne_eqb x.first 1 (omega arith)))))
      | inr low ↦ elim (cases_lt x.last (length e.lines)) [
        | inl short ↦
            written-part u.zone u.changed
            (and_right (known u.zone 3 0 (pos 1)) (known u.zone 2 4 (pos 0))
            (At-denies u.zone 5 c l (pos x.first) (pos x.last) (pos 0) 2 4 (pos 0) z (omega arith) (omega arith) (omega arith) (omega arith)
            (omega (arith, ints))))
            (or_right (known u.zone 0 3 (negsuc 1)) (known u.zone 4 2 (negsuc 0))
            (At-knows u.zone 5 c l (pos x.first) (pos x.last) (pos 0) 4 2 (negsuc 0) z (omega arith) (omega arith) (omega arith)
            (omega arith) (omega (arith, ints))))
            ∙ r.sees.changed ∙ ap (λ (b : Bool). flag_of b)
            (sym (and-true e.changed) ∙ ap (λ (b : Bool). e.changed && not b)
            (sym (and_right (nat_eq x.first 1) (nat_eq x.last (length e.lines)) (ne_eqb x.last (length e.lines) (omega arith)))))
        | inr long ↦
            written-whole u.zone u.changed
            (At-knows u.zone 5 c l (pos x.first) (pos x.last) (pos 0) 3 0 (pos 1) z (omega arith) (omega arith) (omega arith) (omega arith)
            (omega (arith, ints)))
            (At-knows u.zone 5 c l (pos x.first) (pos x.last) (pos 0) 2 4 (pos 0) z (omega arith) (omega arith) (omega arith) (omega arith)
            (omega (arith, ints)))
            ∙ ap (λ (b : Bool). flag_of b)
            (sym (ap (λ (b : Bool). e.changed && not b) (whole-true x e (omega arith) (omega arith)) ∙ and-false e.changed))
      ]
    ]

flag-whole : (e : editor.State) (x : Span) → x ≡ span 1 (length e.lines) → unchanged ≡ flag_of (e.changed && not (file.is_whole x e))
flag-whole e x is =
    let f : x.first ≡ 1 = ap (λ (y : Span). y.first) is in
    let l : x.last ≡ length e.lines = ap (λ (y : Span). y.last) is in
    ap (λ (b : Bool). flag_of b) (sym (ap (λ (b : Bool). e.changed && not b) (whole-true x e f l) ∙ and-false e.changed))

-- what `w` knows of its lines
abbrev Lines_written : (given : Addresses) → editor.State → State → Span → Type 0
Lines_written given e u x = (Seen u e) × (changed_by_write given u.zone u.changed ≡ flag_of (e.changed && not (file.is_whole x e)))

lines-written : (given : Addresses) (e : editor.State) (u : State) (x : Span) → Wholes given e u x → Lines_written given e u x
lines-written Without e u x r = (stays-seen u e r.0 r.1 r.2 r.3 r.5 r.4, flag-whole e x r.6)
lines-written (One a) e u x r = (stays-seen u e 5 (pos x.first) (pos x.last) (pos 0) r.sees (omega arith), flag-lines u e x r)
lines-written (Comma a b) e u x r = (stays-seen u e 5 (pos x.first) (pos x.last) (pos 0) r.sees (omega arith), flag-lines u e x r)
lines-written (Semicolon a b) e u x r = (stays-seen u e 5 (pos x.first) (pos x.last) (pos 0) r.sees (omega arith), flag-lines u e x r)

first-same : (path : Option (List ℕ)) (t : State) →
    ((named_first path t).zone ≡ t.zone) × ((named_first path t).marks ≡ t.marks) × ((named_first path t).changed ≡ t.changed)
first-same None t = (refl, refl, refl)
first-same (Some given) t = (refl, refl, refl)

-- `w`, once it was done
pub written-leaves : (listed : Bool) (given : Addresses) (path : Option (List ℕ)) (start : editor.State) (u : State) (e : editor.State)
    (x : Span) → Wholes given e u x →
    EndAlike (Leaves listed start) (file_written given path u) (file.write path (Some answer.Done) x e)
written-leaves listed given path start u e x whole =
    let w = lines-written given e u x whole in
    let h = w.0.sees in
    EndAlike-bind (λ t used. (t ≡ u) × IsUsed path e.name used) (Leaves listed start) (named path u) (file.used_path path e)
    (λ t. Ok (record (named_first path t) { changed = changed_by_write given t.zone t.changed }))
    (λ used. file.with_lines used (Some answer.Done) x e)
    (named-alike path u e h.names)
    (λ t used r few. rw r.0
    (let q = first-same path u in
    Seen-named u (record (named_first path u) { changed = changed_by_write given u.zone u.changed }) e
    (record (file.named_first used e) { changed = e.changed && not (file.is_whole x e) })
    w.0.names w.0.first w.0.second w.0.target h w.0.enough q.0 q.1 refl refl (named_first-names path u e used h.names r.1) w.1))

-- `q`: the flag is asked for
saved-by : (u : State) (e : editor.State) (flag : Changed) (is_changed : Bool) → flag ≡ flag_of is_changed →
    EndAlike (λ t f. (t ≡ u) × (f ≡ Makes (only e []))) (needing (not flag.yes) fault.Unsaved u)
    (making ((elim is_changed as (λ _. Result editor.State Fault) [ true ↦ Err fault.Unsaved | false ↦ Ok e ]) >> λ t. Ok (only t [])))
saved-by u e flag true is = rw is refl
saved-by u e flag false is = rw is (refl, refl)

pub quit-leaves : (listed : Bool) (start : editor.State) (u : State) (e : editor.State) → Seen u e →
    EndAlike (Leaves listed start) (saved u) (making (file.quit e))
quit-leaves listed start u e h =
    EndAlike-weaker (λ t f. (t ≡ u) × (f ≡ Makes (only e []))) (Leaves listed start) (saved u) (making (file.quit e))
    (λ t f r. rw (r.0, r.1) (λ few. h)) (saved-by u e u.changed e.changed h.sees.changed)
