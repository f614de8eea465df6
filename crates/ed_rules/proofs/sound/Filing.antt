-- What the commands on files do, side by side.
use Rattle.std.proofs.Common.{◌≡◌, ◌≤◌, inl, inr, ℕ, ◌+◌, pos, negsuc, Bool, true, false, cond, ◌&&◌, ◌||◌, List, [], ◌∷◌, ◌++◌, length, Option, Some, None, Result, Ok, Err, eq-eqb, nat_eq, arith, refl, sym, ap, subst}
use Rattle.std.specs.Prelude.{not, unwrap_or, ok_or}
use Rattle.std.proofs.lemmas.Int.{ints}
use Rattle.std.proofs.lemmas.Bool.{ne_eqb, and_parts, or_cases, or_right}
use Rattle.ed_base.specs.declared.fault.Fault.{Fault}
use Rattle.ed_base.specs.declared.fault.Fault.TheVariants as fault
use Rattle.ed_base.specs.Buffer.{Line}
use Rattle.ed_base.specs.Lines.{newline, lines_of}
use Rattle.zones.specs.Zone.{Bounds, Numbers}
use Rattle.zones.specs.Known.{known}
use Rattle.zones.proofs.Known.{known-true}
use Rattle.ed_syntax.specs.declared.request.Answer.{Answer}
use Rattle.ed_syntax.specs.declared.request.Answer.TheVariants as answer
use Rattle.ed_syntax.specs.declared.verbs.Taking.TheVariants as many
use Rattle.ed_syntax.specs.Commands.{Addresses, Without}
use Rattle.ed_syntax.specs.meaning.States as editor
use Rattle.ed_syntax.specs.meaning.States.{Past, Was, kept}
use Rattle.ed_syntax.specs.meaning.Values.{◌>>◌}
use Rattle.ed_syntax.specs.meaning.Ranges.{Span, spanned}
use Rattle.ed_syntax.specs.meaning.Effects as effects
use Rattle.ed_syntax.specs.meaning.Effects.{Outcome, Effect, Makes, Asks, only}
use Rattle.ed_syntax.specs.meaning.Applied.{making, past_after}
use Rattle.ed_syntax.specs.meaning.Files as file
use Rattle.ed_syntax.specs.meaning.Files.{used_path, with_bytes, is_whole, with_lines}
use Rattle.ed_rules.specs.declared.state.Changed.{Changed}
use Rattle.ed_rules.specs.declared.state.State.{State}
use Rattle.ed_rules.specs.Choices.{has_choice}
use Rattle.ed_rules.specs.States.{unchanged, changed, old_of, undo_to}
use Rattle.ed_rules.specs.StandsFor.{HoldsBy, AllowsPast, allows_change}
use Rattle.ed_rules.specs.Pieces.{needing}
use Rattle.ed_rules.specs.Files.{named, named_first, named_anew, undo_if_modified, maybe_modified, lines_read, file_read, changed_by_lines, changed_by_write, file_written, loaded, saved, edited, edited_anyway, file_named}
use Rattle.ed_rules.proofs.Basics.{Agrees, Agrees-weaker, Agrees-ok, bind-twice}
use Rattle.ed_rules.proofs.Choosing.{has_choice-only, has-filled}
use Rattle.ed_rules.proofs.sound.Standing.{Stands, Begins}
use Rattle.ed_rules.proofs.sound.Spans.{Spans, Ranges, Spans-by}
use Rattle.ed_rules.proofs.sound.Weaker.{past-both, past-both_other, change-both}
use Rattle.ed_rules.proofs.sound.SubstitutionEffects.{not-true}
use Rattle.ed_rules.proofs.sound.Reading.{inserted-none, read-buffer, loaded-buffer}
use Rattle.ed_rules.proofs.sound.Answering.{Does, Settles, does-need_then}
use Rattle.ed_rules.proofs.sound.Flags.{kept-allowed}

-- the path

-- the path that a command uses is one that may be remembered after it
pub record Uses (path : Option (List ℕ)) (u : State) (e : editor.State) (used : List ℕ) : Type 0 where
  pub first : has_choice (named_first path u).names (Some (unwrap_or e.name used)) ≡ true
  pub anew : has_choice (named_anew path u).names (Some used) ≡ true

uses-remembered : (u : State) (e : editor.State) (used : List ℕ) → has_choice u.names e.name ≡ true → e.name ≡ Some used → Uses None u e used
uses-remembered u e used h is =
    let k : has_choice u.names (Some used) ≡ true = subst (λ (n : Option (List ℕ)). has_choice u.names n ≡ true) is h in
    record { first = subst (λ (n : Option (List ℕ)). has_choice u.names (Some (unwrap_or n used)) ≡ true) (sym is) k; anew = k }

-- the same steps after the path, where there is one
module _ (S : State → Outcome → Type 0) (given : Option Answer) where
  named-none : (u : State) (n : Option (List ℕ)) (k : State → Result State Fault) (g : List ℕ → Result Effect Fault) → has_choice u.names n ≡ true →
      ((used : List ℕ) → n ≡ Some used → Does S given (k u) (g used)) → Does S given (needing (not (has_choice u.names None)) fault.Name u >> k) (ok_or n fault.Name >> g)
  named-none u None k g h next = does-need_then S given (not (has_choice u.names None)) fault.Name u k (Err fault.Name) (λ b. absurd (not-true (has_choice u.names None) b h))
  named-none u (Some used) k g h next = does-need_then S given (not (has_choice u.names None)) fault.Name u k (g used) (λ b. next used refl)

  named-does : (path : Option (List ℕ)) (u : State) (e : editor.State) (k : State → Result State Fault) (g : List ℕ → Result Effect Fault) → has_choice u.names e.name ≡ true →
      ((used : List ℕ) → Uses path u e used → Does S given (k u) (g used)) → Does S given (named path u >> k) (used_path path e >> g)
  named-does None u e k g h next = named-none u e.name k g h (λ used is. next used (uses-remembered u e used h is))
  named-does (Some path) u e k g h next = next path (record { first = has-filled path u.names e.name h; anew = has_choice-only (Some path) })

  saved-does : (u : State) (e : editor.State) (k : State → Result State Fault) (g : editor.State → Result Effect Fault) → allows_change u.changed e.changed ≡ true →
      (e.changed ≡ false → Does S given (k u) (g e)) → Does S given (saved u >> k) (file.saved e >> g)
  saved-does u e k g h next =
      does-need_then S given (not u.changed.yes) fault.Unsaved u k (file.saved e >> g) (λ b.
      (elim e.changed as (λ c. e.changed ≡ c → allows_change u.changed c ≡ true → Does S given (k u) ((elim c as (λ _. Result editor.State Fault) [ true ↦ Err fault.Unsaved | false ↦ Ok e ]) >> g)) [
        | true ↦ λ is may. absurd (not-true u.changed.yes b may)
        | false ↦ λ is may. next is
      ]) refl h)

-- the bytes of a file, or the answer to a write
bytes-does : (S : State → Outcome → Type 0) (given : Option Answer) (path : List ℕ) (t : State) (make : List ℕ → Outcome) → ((bytes : List ℕ) → S t (make bytes)) →
    Does S given (Ok t) (with_bytes path given make)
bytes-does S None path t make h = tt
bytes-does S (Some (answer.Bytes bytes)) path t make h = h bytes
bytes-does S (Some answer.Missing) path t make h = refl
bytes-does S (Some answer.Refused) path t make h = refl
bytes-does S (Some answer.Done) path t make h = refl

abbrev saved_by : (path : List ℕ) → Span → editor.State → Outcome
saved_by path x e = only (record (file.named_first path e) { changed = e.changed && not (is_whole x e) }) []

lines-does : (S : State → Outcome → Type 0) (given : Option Answer) (path : List ℕ) (x : Span) (e : editor.State) (t : State) → S t (saved_by path x e) → Does S given (Ok t) (with_lines path given x e)
lines-does S None path x e t h = tt
lines-does S (Some answer.Done) path x e t h = h
lines-does S (Some (answer.Bytes bytes)) path x e t h = refl
lines-does S (Some answer.Missing) path x e t h = refl
lines-does S (Some answer.Refused) path x e t h = refl

-- `r`

spans-named : (path : Option (List ℕ)) (t : State) (e : editor.State) (x : Span) (used : List ℕ) → Uses path t e used → Spans t e x → Spans (named_first path t) (file.named_first used e) x
spans-named None t e x used u r = Spans-by r refl (record {
  buffer = r.stands.buffer;
  remembered = (r.stands.remembered.0, r.stands.remembered.1, u.first);
  changed = r.stands.changed;
  past = r.stands.past;
})
spans-named (Some path) t e x used u r = Spans-by r refl (record {
  buffer = record { holds = r.stands.buffer.holds; reads = r.stands.buffer.reads; inside = r.stands.buffer.inside };
  remembered = (r.stands.remembered.0, r.stands.remembered.1, u.first);
  changed = r.stands.changed;
  past = r.stands.past;
})

past-unmodified : (listed : Bool) (s u : State) (past : Past) → AllowsPast u.undo past → AllowsPast (undo_if_modified listed s u.undo) past
past-unmodified true s u past h = h
past-unmodified false s u past h = past-both u.undo (undo_to (old_of s)) past h

past-modified : (listed : Bool) (s u : State) (start : editor.State) (past : Past) → Begins s start → AllowsPast u.undo past → AllowsPast (undo_if_modified listed s u.undo) (past_after listed (kept start) past)
past-modified true s u start past st h = h
past-modified false s u start past st h = past-both_other u.undo (undo_to (old_of s)) (Was (kept start)) (kept-allowed s start st)

-- lines that are read, or none
read-settles : (listed : Bool) (s : State) (start : editor.State) → Begins s start → (u : State) (e : editor.State) (x : Span) → Spans u e x → (ts : List (List ℕ)) →
    Settles listed start (maybe_modified listed s (lines_read u)) (effects.entered x.first ts e)
read-settles listed s start st u e x r [] =
    let q = read-buffer u e x r [] in
    let same : x.first + 0 ≡ x.first = omega arith in
    let zone : Bounds = (lines_read u).zone in (
      q.0,
      record {
        buffer = subst (λ (n : ℕ). HoldsBy zone u.marks e.lines n q.0) same (subst (λ (ls : List Line). HoldsBy zone u.marks ls (x.first + 0) q.0) (inserted-none x.first e.lines) q.1);
        remembered = r.stands.remembered;
        changed = change-both u.changed changed e.changed r.stands.changed;
        past = past-unmodified listed s u e.past r.stands.past;
      },
    )
read-settles listed s start st u e x r (t ∷ ts) =
    let q = read-buffer u e x r (t ∷ ts) in (
      q.0,
      record {
        buffer = q.1;
        remembered = r.stands.remembered;
        changed = or_right u.changed.yes true refl;
        past = past-modified listed s u start e.past st r.stands.past;
      },
    )

pub read-does : (listed : Bool) (path : Option (List ℕ)) (given : Option Answer) (s : State) (start : editor.State) → Begins s start → (t : State) (e : editor.State) (x : Span) → Spans t e x →
    Does (Settles listed start) given (file_read listed path s t) (file.read path given x e)
read-does listed path given s start st t e x r =
    named-does (Settles listed start) given path t e (λ v. Ok (maybe_modified listed s (lines_read (named_first path v))))
    (λ used. with_bytes used given (λ bytes. effects.entered x.first (lines_of bytes) (file.named_first used e)))
    r.stands.remembered.2
    (λ used u. bytes-does (Settles listed start) given used (maybe_modified listed s (lines_read (named_first path t))) (λ bytes. effects.entered x.first (lines_of bytes) (file.named_first used e))
    (λ bytes. read-settles listed s start st (named_first path t) (file.named_first used e) x (spans-named path t e x used u r) (lines_of bytes)))

-- `w`

-- what a write leaves of the flag is allowed
abbrev Flags : (given : Addresses) → State → editor.State → Span → Type 0
Flags given u e x = allows_change (changed_by_write given u.zone u.changed) (e.changed && not (is_whole x e)) ≡ true

abbrev pub Written : (given : Addresses) → editor.State → State → Span → Type 0
Written given e u x = Stands u e × Flags given u e x

flag-whole : (b w : Bool) → w ≡ true → allows_change unchanged (b && not w) ≡ true
flag-whole true true h = refl
flag-whole false true h = refl
flag-whole b false h = absurd cc

flag-part : (c : Changed) (b w : Bool) → w ≡ false → allows_change c b ≡ true → allows_change c (b && not w) ≡ true
flag-part c true false h k = k
flag-part c false false h k = k
flag-part c b true h k = absurd cc

flag-either : (c : Changed) (b w : Bool) → allows_change c b ≡ true → allows_change (record c { no = true }) (b && not w) ≡ true
flag-either c true true k = refl
flag-either c true false k = k
flag-either c false w k = refl

whole-is : (a b n : ℕ) → a ≡ 1 → b ≡ n → nat_eq a 1 && nat_eq b n ≡ true
whole-is a b n h k = rw (eq-eqb a 1 h, eq-eqb b n k) refl

part-first : (a b n : ℕ) → 2 ≤ a → nat_eq a 1 && nat_eq b n ≡ false
part-first a b n h = rw (ne_eqb a 1 (λ e. omega arith)) refl

part-last : (a b n : ℕ) → b + 1 ≤ n → nat_eq a 1 && nat_eq b n ≡ false
part-last a b n h =
    let e : nat_eq b n ≡ false = ne_eqb b n (λ q. omega arith) in
    rw e (elim (nat_eq a 1) as (λ c. c && false ≡ false) [ true ↦ refl | false ↦ refl ])

lines-flags : (u : State) (e : editor.State) (x : Span) → Ranges u e x → allows_change (changed_by_lines u.zone u.changed) (e.changed && not (is_whole x e)) ≡ true
unfolding changed_by_lines
lines-flags u e x r =
    let z : Bounds = u.zone in
    let v : Numbers = r.spans.numbers in
    let b = r.spans.stands.buffer in
    let v0 = b.reads.zero_is in
    let v2 = b.reads.last_is in
    let f = r.spans.first_is in
    let l = r.spans.last_is in
    let from = r.from in
    let last_in = r.spans.last_in in
    let may = r.spans.stands.changed in
    let A : Changed → Type 0 = λ (c : Changed). allows_change c (e.changed && not (is_whole x e)) ≡ true in
    let whole : Bool = known z 3 0 (pos 1) && known z 2 4 (pos 0) in
    let part : Bool = known z 0 3 (negsuc 1) || known z 4 2 (negsuc 0) in
    (elim (known z 3 0 (pos 1) && known z 2 4 (pos 0)) as (λ c. known z 3 0 (pos 1) && known z 2 4 (pos 0) ≡ c → A (cond c unchanged (cond (known z 0 3 (negsuc 1) || known z 4 2 (negsuc 0)) u.changed (record u.changed { no = true })))) [
      | true ↦ λ k.
          let both = and_parts (known z 3 0 (pos 1)) (known z 2 4 (pos 0)) k in
          let d1 = known-true z v 3 0 (pos 1) both.0 (omega arith) (omega arith) b.holds in
          let d2 = known-true z v 2 4 (pos 0) both.1 (omega arith) (omega arith) b.holds in
          let one : x.first ≡ 1 = omega (arith, ints) in
          let all : x.last ≡ length e.lines = omega (arith, ints) in
          flag-whole e.changed (is_whole x e) (whole-is x.first x.last (length e.lines) one all)
      | false ↦ λ _.
          (elim (known z 0 3 (negsuc 1) || known z 4 2 (negsuc 0)) as (λ c. known z 0 3 (negsuc 1) || known z 4 2 (negsuc 0) ≡ c → A (cond c u.changed (record u.changed { no = true }))) [
            | true ↦ λ k. elim (or_cases (known z 0 3 (negsuc 1)) (known z 4 2 (negsuc 0)) k) [
              | inl q ↦
                  let d = known-true z v 0 3 (negsuc 1) q (omega arith) (omega arith) b.holds in
                  flag-part u.changed e.changed (is_whole x e) (part-first x.first x.last (length e.lines) (omega (arith, ints))) may
              | inr q ↦
                  let d = known-true z v 4 2 (negsuc 0) q (omega arith) (omega arith) b.holds in
                  flag-part u.changed e.changed (is_whole x e) (part-last x.first x.last (length e.lines) (omega (arith, ints))) may
            ]
            | false ↦ λ _. flag-either u.changed e.changed (is_whole x e) may
          ]) refl
    ]) refl

-- the range of a command that takes all lines where none are given
pub whole-range : (R : State → Span → Type 0) (y : Result State Fault) (count : ℕ) (vs : List ℕ) → Agrees R y (spanned many.Range count vs) → Agrees R y (spanned many.Whole count vs)
whole-range R (Err f) count vs h = tt
whole-range R (Ok t) count [] h = absurd h
whole-range R (Ok t) count (a ∷ vs) h = h

pub ranges-written : (given : Addresses) (e : editor.State) (y : Result State Fault) (z : Result Span Fault) → ((u : State) (x : Span) → changed_by_write given u.zone u.changed ≡ changed_by_lines u.zone u.changed) →
    Agrees (λ u x. Ranges u e x) y z → Agrees (Written given e) y z
ranges-written given e y z by h =
    Agrees-weaker (λ u x. Ranges u e x) (Written given e) y z
    (λ u x r. ((r.spans.numbers, r.spans.stands), subst (λ (c : Changed). allows_change c (e.changed && not (is_whole x e)) ≡ true) (sym (by u x)) (lines-flags u e x r))) h

pub all-written : (e : editor.State) (t : State) (vs : List ℕ) → Stands t e → vs ≡ [] → Agrees (Written Without e) (Ok t) (spanned many.Whole (length e.lines) vs)
all-written e t vs st none =
    let n : ℕ = length e.lines in
    Agrees-ok (Written Without e) t (record { first = 1; last = n }) (spanned many.Whole n vs) (ap (λ (ws : List ℕ). spanned many.Whole n ws) none)
    (st, flag-whole e.changed (nat_eq 1 1 && nat_eq n n) (whole-is 1 n n refl refl))

write-settles : (listed : Bool) (start : editor.State) (given : Addresses) (path : Option (List ℕ)) (u : State) (e : editor.State) (x : Span) (used : List ℕ) → Uses path u e used → Written given e u x →
    Settles listed start (record (named_first path u) { changed = changed_by_write given u.zone u.changed }) (saved_by used x e)
write-settles listed start given None u e x used k w =
    (w.0.0, record { buffer = w.0.1.buffer; remembered = (w.0.1.remembered.0, w.0.1.remembered.1, k.first); changed = w.1; past = w.0.1.past })
write-settles listed start given (Some path) u e x used k w =
    (w.0.0, record { buffer = w.0.1.buffer; remembered = (w.0.1.remembered.0, w.0.1.remembered.1, k.first); changed = w.1; past = w.0.1.past })

pub write-does : (listed : Bool) (given : Addresses) (path : Option (List ℕ)) (heard : Option Answer) (start : editor.State) (u : State) (e : editor.State) (x : Span) → Written given e u x →
    Does (Settles listed start) heard (file_written given path u) (file.write path heard x e)
write-does listed given path heard start u e x w =
    named-does (Settles listed start) heard path u e (λ v. Ok (record (named_first path v) { changed = changed_by_write given v.zone v.changed })) (λ used. with_lines used heard x e)
    w.0.1.remembered.2
    (λ used k. lines-does (Settles listed start) heard used x e (record (named_first path u) { changed = changed_by_write given u.zone u.changed })
    (write-settles listed start given path u e x used k w))

-- `e` and `E`

edit-settles : (listed : Bool) (start : editor.State) (path : Option (List ℕ)) (u : State) (e : editor.State) (used bytes : List ℕ) → Stands u e → Uses path u e used →
    Settles listed start (named_anew path (loaded u)) (only (file.loaded bytes used e) [])
edit-settles listed start None u e used bytes st k =
    let q = loaded-buffer u.zone st.0 st.1.buffer.holds st.1.buffer.reads.zero_is (file.loaded bytes used e).lines in
    (q.0, record { buffer = q.1; remembered = (st.1.remembered.0, st.1.remembered.1, k.anew); changed = refl; past = refl })
edit-settles listed start (Some path) u e used bytes st k =
    let q = loaded-buffer u.zone st.0 st.1.buffer.holds st.1.buffer.reads.zero_is (file.loaded bytes used e).lines in
    (q.0, record { buffer = q.1; remembered = (st.1.remembered.0, st.1.remembered.1, k.anew); changed = refl; past = refl })

pub edit_anyway-does : (listed : Bool) (path : Option (List ℕ)) (given : Option Answer) (start : editor.State) (u : State) (e : editor.State) → Stands u e →
    Does (Settles listed start) given (edited_anyway path u) (file.edit_anyway path given e)
edit_anyway-does listed path given start u e st =
    named-does (Settles listed start) given path u e (λ v. Ok (named_anew path (loaded v))) (λ used. with_bytes used given (λ bytes. only (file.loaded bytes used e) []))
    st.1.remembered.2
    (λ used k. bytes-does (Settles listed start) given used (named_anew path (loaded u)) (λ bytes. only (file.loaded bytes used e) []) (λ bytes. edit-settles listed start path u e used bytes st k))

pub edit-does : (listed : Bool) (path : Option (List ℕ)) (given : Option Answer) (start : editor.State) (u : State) (e : editor.State) → Stands u e →
    Does (Settles listed start) given (edited path u) (file.edit path given e)
edit-does listed path given start u e st =
    named-does (Settles listed start) given path u e (λ v. saved v >> λ w. Ok (named_anew path (loaded w))) (λ used. file.saved e >> file.edit_anyway (Some used) given)
    st.1.remembered.2
    (λ used k. saved-does (Settles listed start) given u e (λ w. Ok (named_anew path (loaded w))) (file.edit_anyway (Some used) given) st.1.changed
    (λ same. bytes-does (Settles listed start) given used (named_anew path (loaded u)) (λ bytes. only (file.loaded bytes used e) []) (λ bytes. edit-settles listed start path u e used bytes st k)))

-- `f` and `q`

name-settles : (path : Option (List ℕ)) (u : State) (e : editor.State) (used : List ℕ) → Stands u e → Uses path u e used → Stands (named_anew path u) (record e { name = Some used })
name-settles None u e used st k =
    (st.0, record { buffer = st.1.buffer; remembered = (st.1.remembered.0, st.1.remembered.1, k.anew); changed = st.1.changed; past = st.1.past })
name-settles (Some path) u e used st k =
    (st.0, record { buffer = st.1.buffer; remembered = (st.1.remembered.0, st.1.remembered.1, k.anew); changed = st.1.changed; past = st.1.past })

pub name-does : (listed : Bool) (path : Option (List ℕ)) (given : Option Answer) (start : editor.State) (u : State) (e : editor.State) → Stands u e →
    Does (Settles listed start) given (file_named path u) (making (file.file_name path e))
name-does listed path given start u e st =
    subst (λ (y : Result Effect Fault). Does (Settles listed start) given (file_named path u) y)
    (sym (bind-twice (used_path path e) (λ used. Ok (only (record e { name = Some used }) (used ++ newline ∷ []))) (λ o. Ok (Makes o))))
    (named-does (Settles listed start) given path u e (λ v. Ok (named_anew path v)) (λ used. Ok (Makes (only (record e { name = Some used }) (used ++ newline ∷ []))))
    st.1.remembered.2 (λ used k. name-settles path u e used st k))

pub quit-does : (listed : Bool) (given : Option Answer) (start : editor.State) (u : State) (e : editor.State) → Stands u e →
    Does (Settles listed start) given (saved u) (making (file.quit e))
quit-does listed given start u e st =
    let met : (b : Bool) → (not u.changed.yes ≡ b) → Does (Settles listed start) given (needing b fault.Unsaved u) (making (file.quit e)) = λ (b : Bool).
    elim b as (λ c. (not u.changed.yes ≡ c) → Does (Settles listed start) given (needing c fault.Unsaved u) (making (file.quit e))) [
      | true ↦ λ is.
          (elim e.changed as (λ c. allows_change u.changed c ≡ true → Does (Settles listed start) given (Ok u) (making ((elim c as (λ _. Result editor.State Fault) [ true ↦ Err fault.Unsaved | false ↦ Ok e ]) >> λ t. Ok (only t [])))) [
            | true ↦ λ may. absurd (not-true u.changed.yes is may)
            | false ↦ λ may. st
          ]) st.1.changed
      | false ↦ λ is. tt
    ] in
    met (not u.changed.yes) refl
