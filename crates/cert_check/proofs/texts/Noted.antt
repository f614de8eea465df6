-- What follows what in the lines of notes.
use Rattle.std.proofs.Common.{◌≡◌, ◌<◌, ◌++◌, ◌∷◌, [], ℕ, Bool, true, false, List, Option, None, Some, arith, refl, ◌∙◌, sym, ap, subst, append_assoc, append-nil}
use Rattle.std.specs.Prelude.{codes}
use Rattle.std.specs.List.{All, flat_map}
use Rattle.std.proofs.lemmas.Grind.{flat_map-append}
use Rattle.std.proofs.lemmas.List.Elements.{All-nil, All-cons, All-head, All-tail, All-append}
use Rattle.ed_rules.specs.declared.state.State.{State}
use Rattle.cert_check.specs.declared.text.cursor.Head.{Head}
use Rattle.cert_check.specs.declared.text.cursor.Head.TheVariants.{AnotherNote, Loop, End}
use Rattle.cert_check.specs.declared.certificate.Version.{Version}
use Rattle.cert_check.specs.Certificates.{Looped, Note}
use Rattle.cert_check.specs.text.HasText.{StateHasText, LoopedHasText, NoteHasText}
use Rattle.cert_check.specs.text.Text as text
use Rattle.cert_check.specs.text.Text.{Word, state_lines, headed_lines, looped_lines, note_lines}
use Rattle.cert_check.specs.text.Pieces.{Left, Took, texts, IsOf, alone, either_line, head_line, inner_lines, list_lines, ListIsFormed, noted_lines, NotedIsFormed, notes_lines}
use Rattle.cert_check.proofs.texts.Separated.{Above-from_test, AreLinesOfWords, AreLinesOfWords-append, first-of, later-of}
use Rattle.cert_check.proofs.texts.Unambiguous.{state-same, notes-same, after_notes, after_inner, inner-same, looped_made, looped-by, note_made}
use Rattle.cert_check.proofs.texts.OneText.{state-words, inner-words, notes-words}
use Rattle.cert_check.proofs.texts.Pieces.{texts-append, took-more, Continued, GoesOn, Expects, Determined, texts-determined}
use Rattle.cert_check.proofs.texts.Plainest.{plain_state, plain-state}
use Rattle.cert_check.proofs.texts.Stated.{state-determined}

abbrev pub inner_head : Bool → text.Line
inner_head b = either_line (codes "inner") (codes "done") b

abbrev pub note_head : Bool → text.Line
note_head b = either_line (codes "note") (codes "end") b

-- lines that begin with different words
text-differs : {x y : ℕ} {v w : List ℕ} {r s : List (List ℕ)} → x < y → (x ∷ v) ∷ r ≡ (y ∷ w) ∷ s → ⊥
text-differs {x} {y} l e = let same : x ≡ y = first-of (first-of e) in omega arith

inner-done : {r s : List (List ℕ)} → codes "inner" ∷ r ≡ codes "done" ∷ s → ⊥
inner-done e = text-differs (omega arith) (sym e)

done-words : AreLinesOfWords ((codes "done" ∷ []) ∷ [])
done-words = ((Above-from_test 32 (codes "done") refl, tt), tt)

-- the head of a note, or of the end
abbrev pub turn_texts : Bool → List (List ℕ)
turn_texts b = texts (alone note_head b)

-- what a note without its head is followed by says which note it is
turn-same : (a b : Bool) (x y : List (List ℕ)) → turn_texts a ++ x ≡ turn_texts b ++ y → (a ≡ b) × (x ≡ y)
turn-same true true x y e = (refl, later-of e)
turn-same true false x y e = absurd (text-differs (omega arith) (sym e))
turn-same false true x y e = absurd (text-differs (omega arith) e)
turn-same false false x y e = (refl, later-of e)

-- what is known of a list, if anything, and the next head
pub record SameEnds (l m : Option Looped) (a b : Bool) (x y : List (List ℕ)) : Type 0 where
  pub looped : l ≡ m
  pub turn : a ≡ b
  pub after : x ≡ y

-- notes before a head begin with a head
pub record Turned (lines : List (List ℕ)) : Type 0 where
  pub turn : Bool
  pub later : List (List ℕ)
  pub is : lines ≡ turn_texts turn ++ later

notes-turn-next : (t : Bool) (later after : List (List ℕ)) → after ≡ turn_texts t ++ later →
    GoesOn (IsOf (alone note_head) (λ _. Unit {0})) after
notes-turn-next t later after e = record { here = turn_texts t; rest = later; is = record { value = t; has = tt; is = refl }; parted = e }

abbrev plain_note : Version → Note
plain_note version = note_made (plain_state version) None

-- lines that are the same were read
pub took-is : {a b : List (List ℕ)} {old new : Left} → a ≡ b → Took a old new → Took b old new
took-is {a} {b} {old} {new} e t = subst (λ (l : List (List ℕ)). Took l old new) e t

pub took-turn : {a b : Bool} {old new : Left} (one other : Word) → a ≡ b → Took (texts (alone (either_line one other) a)) old new →
    Took (texts (alone (either_line one other) b)) old new
took-turn {a} {b} {old} {new} one other e t = subst (λ (c : Bool). Took (texts (alone (either_line one other) c)) old new) e t

pub took-head : {a b : Head} {old new : Left} → a ≡ b → Took (texts (alone head_line a)) old new →
    Took (texts (alone head_line b)) old new
took-head {a} {b} {old} {new} e t = subst (λ (c : Head). Took (texts (alone head_line c)) old new) e t

module _ (version : Version) where
  abbrev pub inner_texts : List State → List (List ℕ)
  inner_texts states = texts (flat_map (headed_lines version (codes "inner")) states)

  abbrev pub note_texts : List Note → List (List ℕ)
  note_texts notes = texts (flat_map (note_lines version) notes)

  -- a state in front
  pub front-state : (a b : State) (x y : List (List ℕ)) → StateHasText version a → StateHasText version b →
      texts (state_lines version a) ++ x ≡ texts (state_lines version b) ++ y → (a ≡ b) × (x ≡ y)
  front-state a b x y h k e = texts-determined (state_lines version) (StateHasText version) a b x y (state-determined version) h k e

  -- the states of a list, one after another
  inner-split : (s : State) (states : List State) (x : List (List ℕ)) →
      inner_texts (s ∷ states) ++ x ≡ codes "inner" ∷ (texts (state_lines version s) ++ (inner_texts states ++ x))
  inner-split s states x =
      ap (λ (l : List (List ℕ)). codes "inner" ∷ (l ++ x))
      (texts-append (state_lines version s) (flat_map (headed_lines version (codes "inner")) states))
      ∙ ap (λ (l : List (List ℕ)). codes "inner" ∷ l) (append_assoc (texts (state_lines version s)) (inner_texts states) x)

  inner-end : (states : List State) (x : List (List ℕ)) →
      texts (inner_lines version states) ++ x ≡ inner_texts states ++ (codes "done" ∷ x)
  inner-end states x =
      ap (λ (l : List (List ℕ)). l ++ x)
      (texts-append (flat_map (headed_lines version (codes "inner")) states) ((codes "done" ∷ []) ∷ []))
      ∙ append_assoc (inner_texts states) (codes "done" ∷ []) x

  -- the states that are left after those that were read
  pub record InnerLeft (x after : List (List ℕ)) : Type 0 where
    pub states : List State
    pub formed : All (StateHasText version) states
    pub is : after ≡ inner_texts states ++ (codes "done" ∷ x)

  inner-left : (all states : List State) (back after : List (List ℕ)) → All (StateHasText version) all →
      All (StateHasText version) states → inner_texts all ++ (codes "done" ∷ back) ≡ inner_texts states ++ after →
      InnerLeft back after
  inner-left all [] back after h k e = record { states = all; formed = h; is = sym e }
  inner-left [] (s ∷ states) back after h k e = absurd (inner-done (sym (e ∙ inner-split s states after)))
  inner-left (t ∷ all) (s ∷ states) back after h k e =
      let both = later-of (sym (inner-split t all (codes "done" ∷ back)) ∙ e ∙ inner-split s states after) in
      let here = front-state t s (inner_texts all ++ (codes "done" ∷ back)) (inner_texts states ++ after)
      (All-head (StateHasText version) t all h) (All-head (StateHasText version) s states k) both in
      inner-left all states back after (All-tail (StateHasText version) t all h) (All-tail (StateHasText version) s states k) here.1

  -- each text of a list's states that begins with these goes on so
  inner-after : (states : List State) (whole back after : List (List ℕ)) → All (StateHasText version) states →
      IsOf (inner_lines version) (All (StateHasText version)) whole → whole ++ back ≡ inner_texts states ++ after →
      InnerLeft back after
  inner-after states whole back after h k e =
      inner-left k.value states back after k.has h (sym (inner-end k.value back) ∙ ap (λ (l : List (List ℕ)). l ++ back) k.is ∙ e)

  inner-made : (states : List State) → All (StateHasText version) states → (lines : List (List ℕ)) →
      inner_texts states ++ (codes "done" ∷ []) ≡ lines → IsOf (inner_lines version) (All (StateHasText version)) lines
  inner-made states h lines e =
      record { value = states; has = h; is = sym (append-nil (texts (inner_lines version states))) ∙ inner-end states [] ∙ e }

  inner-more : (states more : List State) → inner_texts (states ++ more) ≡ inner_texts states ++ inner_texts more
  inner-more states more =
      ap texts (flat_map-append (headed_lines version (codes "inner")) states more)
      ∙ texts-append (flat_map (headed_lines version (codes "inner")) states) (flat_map (headed_lines version (codes "inner")) more)

  -- after states comes the head of one more, or the end
  inner-goes-on : (b : Bool) (states : List State) (lines : List (List ℕ)) → All (StateHasText version) states →
      texts (alone inner_head b) ≡ lines → Continued (IsOf (inner_lines version) (All (StateHasText version)))
      (inner_texts states ++ lines)
  inner-goes-on true states lines h e = record {
    more = texts (state_lines version (plain_state version)) ++ (codes "done" ∷ []);
    is =
        inner-made (states ++ (plain_state version) ∷ [])
        (All-append (StateHasText version) states ((plain_state version) ∷ []) h
        (All-cons (StateHasText version) (plain_state version) [] (plain-state version) (All-nil (StateHasText version))))
        ((inner_texts states ++ lines) ++ (texts (state_lines version (plain_state version)) ++ (codes "done" ∷ []))) (
        ap (λ (l : List (List ℕ)). l ++ (codes "done" ∷ [])) (inner-more states ((plain_state version) ∷ []))
        ∙ append_assoc (inner_texts states) (inner_texts ((plain_state version) ∷ [])) (codes "done" ∷ [])
        ∙ ap (λ (l : List (List ℕ)). inner_texts states ++ l) (inner-split (plain_state version) [] (codes "done" ∷ []))
        ∙ ap (λ (l : List (List ℕ)). inner_texts states ++ (l ++ (texts (state_lines version (plain_state version)) ++ (codes "done" ∷ [])))) e
        ∙ sym (append_assoc (inner_texts states) lines (texts (state_lines version (plain_state version)) ++ (codes "done" ∷ []))));
  }
  inner-goes-on false states lines h e = record {
    more = [];
    is =
        inner-made states h ((inner_texts states ++ lines) ++ [])
        (ap (λ (l : List (List ℕ)). inner_texts states ++ l) e ∙ sym (append-nil (inner_texts states ++ lines)));
  }

  inner-next : (left : List State) (back after : List (List ℕ)) → after ≡ inner_texts left ++ (codes "done" ∷ back) →
      GoesOn (IsOf (alone inner_head) (λ _. Unit {0})) after
  inner-next [] back after e =
      record { here = texts (alone inner_head false); rest = back; is = record { value = false; has = tt; is = refl }; parted = e }
  inner-next (s ∷ left) back after e = record {
    here = texts (alone inner_head true);
    rest = texts (state_lines version s) ++ (inner_texts left ++ (codes "done" ∷ back));
    is = record { value = true; has = tt; is = refl };
    parted = e ∙ inner-split s left (codes "done" ∷ back);
  }

  pub inner-turn : (states : List State) → All (StateHasText version) states →
      Expects (IsOf (inner_lines version) (All (StateHasText version))) (inner_texts states) (IsOf (alone inner_head) (λ _. Unit {0}))
  inner-turn states h = record {
    continued = λ lines k. inner-goes-on k.value states lines h k.is;
    goes_on = λ whole back after k same. let left = inner-after states whole back after h k same in
        inner-next left.states back after left.is;
  }

  inner-state-next : (left : List State) (back after : List (List ℕ)) → All (StateHasText version) left →
      codes "inner" ∷ after ≡ inner_texts left ++ (codes "done" ∷ back) →
      GoesOn (IsOf (state_lines version) (StateHasText version)) after
  inner-state-next [] back after h e = absurd (inner-done e)
  inner-state-next (s ∷ left) back after h e = record {
    here = texts (state_lines version s);
    rest = inner_texts left ++ (codes "done" ∷ back);
    is = record { value = s; has = All-head (StateHasText version) s left h; is = refl };
    parted = later-of (e ∙ inner-split s left (codes "done" ∷ back));
  }

  -- after the head of one more comes its state
  pub inner-state : (states : List State) → All (StateHasText version) states →
      Expects (IsOf (inner_lines version) (All (StateHasText version))) (inner_texts states ++ texts (alone inner_head true))
      (IsOf (state_lines version) (StateHasText version))
  inner-state states h = record {
    continued = λ lines k. record {
      more = codes "done" ∷ [];
      is =
          inner-made (states ++ k.value ∷ [])
          (All-append (StateHasText version) states (k.value ∷ []) h
          (All-cons (StateHasText version) k.value [] k.has (All-nil (StateHasText version))))
          ((inner_texts states ++ texts (alone inner_head true) ++ lines) ++ (codes "done" ∷ [])) (
          ap (λ (l : List (List ℕ)). l ++ (codes "done" ∷ [])) (
          inner-more states (k.value ∷ [])
          ∙ ap (λ (l : List (List ℕ)). inner_texts states ++ l)
          (sym (append-nil (inner_texts (k.value ∷ []))) ∙ inner-split k.value [] []
          ∙ ap (λ (l : List (List ℕ)). codes "inner" ∷ l) (append-nil (texts (state_lines version k.value)) ∙ k.is))
          ∙ sym (append_assoc (inner_texts states) (texts (alone inner_head true)) lines)));
    };
    goes_on = λ whole back after k same.
        let left = inner-after states whole back (codes "inner" ∷ after) h k
        (same ∙ append_assoc (inner_texts states) (texts (alone inner_head true)) after) in
        inner-state-next left.states back after left.formed left.is;
  }

  -- the states so far, with one more
  pub inner-taken : (states : List State)
      (s : State) →
      inner_texts states ++ texts (alone inner_head true) ++ texts (state_lines version s) ≡ inner_texts (states ++ s ∷ [])
  inner-taken states s =
      append_assoc (inner_texts states) (texts (alone inner_head true)) (texts (state_lines version s))
      ∙ ap (λ (l : List (List ℕ)). inner_texts states ++ l)
      (ap (λ (l : List (List ℕ)). codes "inner" ∷ l) (sym (append-nil (texts (state_lines version s)))) ∙ sym (inner-split s [] [])
      ∙ append-nil (inner_texts (s ∷ [])))
      ∙ sym (inner-more states (s ∷ []))

  pub inner-all : (states : List State) → inner_texts states ++ texts (alone inner_head false) ≡ texts (inner_lines version states)
  inner-all states = sym (inner-end states []) ∙ append-nil (texts (inner_lines version states))

  -- what is known of a list: its invariant, then the states of its commands
  list-split : (l : Looped)
      (x : List (List ℕ)) →
      texts (list_lines version l) ++ x ≡ texts (state_lines version l.invariant) ++ (texts (inner_lines version l.inner) ++ x)
  list-split l x =
      ap (λ (t : List (List ℕ)). t ++ x) (texts-append (state_lines version l.invariant) (inner_lines version l.inner))
      ∙ append_assoc (texts (state_lines version l.invariant)) (texts (inner_lines version l.inner)) x

  pub list-state : Expects (IsOf (list_lines version) (ListIsFormed version)) [] (IsOf (state_lines version) (StateHasText version))
  list-state = record {
    continued = λ lines k. record {
      more = texts (inner_lines version []);
      is = record {
        value = looped_made k.value [];
        has = (k.has, All-nil (StateHasText version));
        is = texts-append (state_lines version k.value) (inner_lines version [])
            ∙ ap (λ (l : List (List ℕ)). l ++ texts (inner_lines version [])) k.is;
      };
    };
    goes_on = λ whole back after k same. record {
      here = texts (state_lines version k.value.invariant);
      rest = texts (inner_lines version k.value.inner) ++ back;
      is = record { value = k.value.invariant; has = k.has.0; is = refl };
      parted = sym (ap (λ (l : List (List ℕ)). l ++ back) k.is ∙ same) ∙ list-split k.value back;
    };
  }

  pub list-inner : (s : State) → StateHasText version s →
      Expects (IsOf (list_lines version) (ListIsFormed version)) (texts (state_lines version s))
      (IsOf (inner_lines version) (All (StateHasText version)))
  list-inner s h = record {
    continued = λ lines k. record {
      more = [];
      is = record {
        value = looped_made s k.value;
        has = (h, k.has);
        is =
            texts-append (state_lines version s) (inner_lines version k.value)
            ∙ ap (λ (l : List (List ℕ)). texts (state_lines version s) ++ l) k.is
            ∙ sym (append-nil (texts (state_lines version s) ++ lines));
      };
    };
    goes_on = λ whole back after k same.
        let here =
        front-state k.value.invariant s (texts (inner_lines version k.value.inner) ++ back) after k.has.0 h
        (sym (list-split k.value back) ∙ ap (λ (l : List (List ℕ)). l ++ back) k.is ∙ same) in record {
          here = texts (inner_lines version k.value.inner);
          rest = back;
          is = record { value = k.value.inner; has = k.has.1; is = refl };
          parted = sym here.1;
        };
  }

  inner-assoc : (states : List State) (r : List text.Line) → inner_lines version states ++ r ≡ after_inner version states r
  inner-assoc states r = append_assoc (flat_map (headed_lines version (codes "inner")) states) ((codes "done" ∷ []) ∷ []) r

  list-only : (a b : Looped) (r s : List text.Line) → ListIsFormed version a → ListIsFormed version b →
      list_lines version a ++ r ≡ list_lines version b ++ s → (a ≡ b) × (r ≡ s)
  list-only a b r s h k e =
      let both =
      sym (append_assoc (state_lines version a.invariant) (inner_lines version a.inner) r) ∙ e
      ∙ append_assoc (state_lines version b.invariant) (inner_lines version b.inner) s in
      let here = state-same version a.invariant b.invariant (inner_lines version a.inner ++ r) (inner_lines version b.inner ++ s) h.0 k.0
      both in
      let later = inner-same version a.inner b.inner r s h.1 k.1 (sym (inner-assoc a.inner r) ∙ here.1 ∙ inner-assoc b.inner s) in
      (looped-by a b here.0 later.0, later.1)

  list-determined : Determined (list_lines version) (ListIsFormed version)
  list-determined = record {
    words = λ l h.
        AreLinesOfWords-append (state_lines version l.invariant) (inner_lines version l.inner) (state-words version l.invariant h.0)
        (AreLinesOfWords-append (flat_map (headed_lines version (codes "inner")) l.inner) ((codes "done" ∷ []) ∷ [])
        (inner-words version l.inner h.1) done-words);
    only = λ a b r s h k e. list-only a b r s h k e;
  }

  front-list : (a b : Looped) (x y : List (List ℕ)) → ListIsFormed version a → ListIsFormed version b →
      texts (list_lines version a) ++ x ≡ texts (list_lines version b) ++ y → (a ≡ b) × (x ≡ y)
  front-list a b x y h k e = texts-determined (list_lines version) (ListIsFormed version) a b x y list-determined h k e

  -- a note after its head: its state, what is known of its list, and the next head
  abbrev looped_texts : Option Looped → List (List ℕ)
  looped_texts l = texts (looped_lines version l)

  looped-some : (l : Looped) (x : List (List ℕ)) → looped_texts (Some l) ++ x ≡ codes "loop" ∷ (texts (list_lines version l) ++ x)
  looped-some l x =
      ap (λ (ls : List text.Line). codes "loop" ∷ (texts ls ++ x))
      (append_assoc (state_lines version l.invariant) (flat_map (headed_lines version (codes "inner")) l.inner)
      ((codes "done" ∷ []) ∷ []))

  noted-split : (n : Note) (b : Bool) (x : List (List ℕ)) →
      texts (noted_lines version (n, b)) ++ x ≡ texts (state_lines version n.state) ++ (looped_texts n.looped ++ (turn_texts b ++ x))
  noted-split n b x =
      ap (λ (l : List (List ℕ)). l ++ x)
      (texts-append (state_lines version n.state ++ looped_lines version n.looped) (alone note_head b))
      ∙ append_assoc (texts (state_lines version n.state ++ looped_lines version n.looped)) (turn_texts b) x
      ∙ ap (λ (l : List (List ℕ)). l ++ (turn_texts b ++ x))
      (texts-append (state_lines version n.state) (looped_lines version n.looped))
      ∙ append_assoc (texts (state_lines version n.state)) (looped_texts n.looped) (turn_texts b ++ x)

  noted-made : (n : Note) (b : Bool) (lines : List (List ℕ)) → NoteHasText version n →
      texts (state_lines version n.state) ++ (looped_texts n.looped ++ turn_texts b) ≡ lines →
      IsOf (noted_lines version) (NotedIsFormed version) lines
  noted-made n b lines h e = record {
    value = (n, b);
    has = h;
    is =
        sym (append-nil (texts (noted_lines version (n, b)))) ∙ noted-split n b []
        ∙ ap (λ (l : List (List ℕ)). texts (state_lines version n.state) ++ (looped_texts n.looped ++ l)) (append-nil (turn_texts b))
        ∙ e;
  }

  -- what stands after the state
  noted-after : (n : Note) (b : Bool) (s : State) (whole back after : List (List ℕ)) → NoteHasText version n →
      StateHasText version s → texts (noted_lines version (n, b)) ≡ whole →
      whole ++ back ≡ texts (state_lines version s) ++ after → looped_texts n.looped ++ (turn_texts b ++ back) ≡ after
  noted-after n b s whole back after h k is e =
      let both =
      front-state n.state s (looped_texts n.looped ++ (turn_texts b ++ back)) after h.0 k
      (sym (noted-split n b back) ∙ ap (λ (l : List (List ℕ)). l ++ back) is ∙ e) in
      both.1

  pub noted-state : Expects (IsOf (noted_lines version) (NotedIsFormed version)) [] (IsOf (state_lines version) (StateHasText version))
  noted-state = record {
    continued = λ lines k. record {
      more = turn_texts false;
      is = noted-made (note_made k.value None) false (lines ++ turn_texts false) (k.has, tt)
          (ap (λ (l : List (List ℕ)). l ++ turn_texts false) k.is);
    };
    goes_on = λ whole back after k same. record {
      here = texts (state_lines version k.value.0.state);
      rest = looped_texts k.value.0.looped ++ (turn_texts k.value.1 ++ back);
      is = record { value = k.value.0.state; has = k.has.0; is = refl };
      parted = sym (ap (λ (l : List (List ℕ)). l ++ back) k.is ∙ same) ∙ noted-split k.value.0 k.value.1 back;
    };
  }

  head-goes-on : (h : Head) (s : State) (lines : List (List ℕ)) → StateHasText version s → texts (alone head_line h) ≡ lines →
      Continued (IsOf (noted_lines version) (NotedIsFormed version)) (texts (state_lines version s) ++ lines)
  head-goes-on AnotherNote s lines h e = record {
    more = [];
    is =
        noted-made (note_made s None) true ((texts (state_lines version s) ++ lines) ++ []) (h, tt)
        (ap (λ (l : List (List ℕ)). texts (state_lines version s) ++ l) e ∙ sym (append-nil (texts (state_lines version s) ++ lines)));
  }
  head-goes-on End s lines h e = record {
    more = [];
    is =
        noted-made (note_made s None) false ((texts (state_lines version s) ++ lines) ++ []) (h, tt)
        (ap (λ (l : List (List ℕ)). texts (state_lines version s) ++ l) e ∙ sym (append-nil (texts (state_lines version s) ++ lines)));
  }
  head-goes-on Loop s lines h e = record {
    more = texts (list_lines version (looped_made (plain_state version) [])) ++ turn_texts false;
    is =
        noted-made (note_made s (Some (looped_made (plain_state version) []))) false
        ((texts (state_lines version s) ++ lines) ++ (texts (list_lines version (looped_made (plain_state version) [])) ++ turn_texts false))
        (h, (plain-state version, All-nil (StateHasText version)))
        (ap (λ (l : List (List ℕ)). texts (state_lines version s) ++ l)
        (looped-some (looped_made (plain_state version) []) (turn_texts false)
        ∙ ap (λ (l : List (List ℕ)). l ++ (texts (list_lines version (looped_made (plain_state version) [])) ++ turn_texts false)) e)
        ∙ sym (append_assoc (texts (state_lines version s)) lines
        (texts (list_lines version (looped_made (plain_state version) [])) ++ turn_texts false)));
  }

  head-next : (l : Option Looped) (b : Bool) (back after : List (List ℕ)) → looped_texts l ++ (turn_texts b ++ back) ≡ after →
      GoesOn (IsOf (alone head_line) (λ _. Unit {0})) after
  head-next None true back after e = record {
    here = texts (alone head_line AnotherNote);
    rest = back;
    is = record { value = AnotherNote; has = tt; is = refl };
    parted = sym e;
  }
  head-next None false back after e = record {
    here = texts (alone head_line End);
    rest = back;
    is = record { value = End; has = tt; is = refl };
    parted = sym e;
  }
  head-next (Some l) b back after e = record {
    here = texts (alone head_line Loop);
    rest = texts (list_lines version l) ++ (turn_texts b ++ back);
    is = record { value = Loop; has = tt; is = refl };
    parted = sym e ∙ looped-some l (turn_texts b ++ back);
  }

  pub noted-head : (s : State) → StateHasText version s →
      Expects (IsOf (noted_lines version) (NotedIsFormed version)) (texts (state_lines version s)) (IsOf (alone head_line) (λ _. Unit {0}))
  noted-head s h = record {
    continued = λ lines k. head-goes-on k.value s lines h k.is;
    goes_on = λ whole back after k same.
        head-next k.value.0.looped k.value.1 back after (noted-after k.value.0 k.value.1 s whole back after k.has h k.is same);
  }

  -- after its head comes what is known of the list
  list-next : (l : Option Looped) (b : Bool) (back after : List (List ℕ)) → LoopedHasText version l →
      looped_texts l ++ (turn_texts b ++ back) ≡ codes "loop" ∷ after →
      GoesOn (IsOf (list_lines version) (ListIsFormed version)) after
  list-next None true back after h e = absurd (text-differs (omega arith) (sym e))
  list-next None false back after h e = absurd (text-differs (omega arith) e)
  list-next (Some l) b back after h e = record {
    here = texts (list_lines version l);
    rest = turn_texts b ++ back;
    is = record { value = l; has = h; is = refl };
    parted = later-of (sym e ∙ looped-some l (turn_texts b ++ back));
  }

  -- a state, the head of a list and the list
  listed-lines : (s : State) (l : Looped) (b : Bool) (lines : List (List ℕ)) →
      texts (list_lines version l) ++ turn_texts b ≡ lines →
      texts (state_lines version s) ++ (looped_texts (Some l) ++ turn_texts b)
      ≡ (texts (state_lines version s) ++ texts (alone head_line Loop)) ++ lines
  listed-lines s l b lines e =
      ap (λ (x : List (List ℕ)). texts (state_lines version s) ++ x)
      (looped-some l (turn_texts b) ∙ ap (λ (x : List (List ℕ)). codes "loop" ∷ x) e)
      ∙ sym (append_assoc (texts (state_lines version s)) (texts (alone head_line Loop)) lines)

  pub noted-list : (s : State) → StateHasText version s →
      Expects (IsOf (noted_lines version) (NotedIsFormed version)) (texts (state_lines version s) ++ texts (alone head_line Loop))
      (IsOf (list_lines version) (ListIsFormed version))
  noted-list s h = record {
    continued = λ lines k. record {
      more = turn_texts false;
      is =
          noted-made (note_made s (Some k.value)) false
          ((texts (state_lines version s) ++ texts (alone head_line Loop) ++ lines) ++ turn_texts false) (h, k.has)
          (listed-lines s k.value false (lines ++ turn_texts false) (ap (λ (l : List (List ℕ)). l ++ turn_texts false) k.is)
          ∙ sym (append_assoc (texts (state_lines version s) ++ texts (alone head_line Loop)) lines (turn_texts false)));
    };
    goes_on = λ whole back after k same.
        list-next k.value.0.looped k.value.1 back after k.has.1
        (noted-after k.value.0 k.value.1 s whole back (codes "loop" ∷ after) k.has h k.is
        (same ∙ append_assoc (texts (state_lines version s)) (texts (alone head_line Loop)) after));
  }

  turn-next : (l : Option Looped) (b : Bool) (m : Looped) (back after : List (List ℕ)) → LoopedHasText version l →
      ListIsFormed version m → looped_texts l ++ (turn_texts b ++ back) ≡ codes "loop" ∷ (texts (list_lines version m) ++ after) →
      GoesOn (IsOf (alone note_head) (λ _. Unit {0})) after
  turn-next None true m back after h k e = absurd (text-differs (omega arith) (sym e))
  turn-next None false m back after h k e = absurd (text-differs (omega arith) e)
  turn-next (Some l) b m back after h k e =
      let both = front-list l m (turn_texts b ++ back) after h k (later-of (sym (looped-some l (turn_texts b ++ back)) ∙ e)) in record {
        here = turn_texts b;
        rest = back;
        is = record { value = b; has = tt; is = refl };
        parted = sym both.1;
      }

  pub noted-turn : (s : State) (l : Looped) → StateHasText version s → ListIsFormed version l →
      Expects (IsOf (noted_lines version) (NotedIsFormed version))
      (texts (state_lines version s) ++ texts (alone head_line Loop) ++ texts (list_lines version l))
      (IsOf (alone note_head) (λ _. Unit {0}))
  noted-turn s l h i = record {
    continued = λ lines k. record {
      more = [];
      is =
          noted-made (note_made s (Some l)) k.value
          ((texts (state_lines version s) ++ texts (alone head_line Loop) ++ texts (list_lines version l) ++ lines) ++ []) (h, i)
          (listed-lines s l k.value (texts (list_lines version l) ++ lines)
          (ap (λ (x : List (List ℕ)). texts (list_lines version l) ++ x) k.is)
          ∙ sym (append_assoc (texts (state_lines version s) ++ texts (alone head_line Loop)) (texts (list_lines version l)) lines)
          ∙ sym (append-nil (texts (state_lines version s) ++ texts (alone head_line Loop) ++ texts (list_lines version l) ++ lines)));
    };
    goes_on = λ whole back after k same.
        turn-next k.value.0.looped k.value.1 l back after k.has.1 i
        (noted-after k.value.0 k.value.1 s whole back (codes "loop" ∷ (texts (list_lines version l) ++ after)) k.has h k.is
        (same ∙ append_assoc (texts (state_lines version s) ++ texts (alone head_line Loop)) (texts (list_lines version l)) after
        ∙ append_assoc (texts (state_lines version s)) (texts (alone head_line Loop)) (texts (list_lines version l) ++ after)));
  }

  -- the lines of a note that was read
  pub noted-plain : (s : State)
      (b : Bool) → texts (state_lines version s) ++ turn_texts b ≡ texts (noted_lines version (note_made s None, b))
  noted-plain s b = sym (sym (append-nil (texts (noted_lines version (note_made s None, b)))) ∙ noted-split (note_made s None) b []
      ∙ ap (λ (l : List (List ℕ)). texts (state_lines version s) ++ l) (append-nil (turn_texts b)))

  pub noted-listed : (s : State) (l : Looped) (b : Bool) →
      texts (state_lines version s) ++ texts (alone head_line Loop) ++ texts (list_lines version l) ++ turn_texts b ≡ texts
      (noted_lines version (note_made s (Some l), b))
  noted-listed s l b =
      append_assoc (texts (state_lines version s) ++ texts (alone head_line Loop)) (texts (list_lines version l)) (turn_texts b)
      ∙ sym (listed-lines s l b (texts (list_lines version l) ++ turn_texts b) refl)
      ∙ sym (sym (append-nil (texts (noted_lines version (note_made s (Some l), b)))) ∙ noted-split (note_made s (Some l)) b []
      ∙ ap (λ (x : List (List ℕ)). texts (state_lines version s) ++ (looped_texts (Some l) ++ x)) (append-nil (turn_texts b)))

  ends-same : (l m : Option Looped) (a b : Bool) (x y : List (List ℕ)) → LoopedHasText version l → LoopedHasText version m →
      looped_texts l ++ (turn_texts a ++ x) ≡ looped_texts m ++ (turn_texts b ++ y) → SameEnds l m a b x y
  ends-same None None a b x y h k e = let both = turn-same a b x y e in record { looped = refl; turn = both.0; after = both.1 }
  ends-same None (Some m) true b x y h k e = absurd (text-differs (omega arith) (sym (e ∙ looped-some m (turn_texts b ++ y))))
  ends-same None (Some m) false b x y h k e = absurd (text-differs (omega arith) (e ∙ looped-some m (turn_texts b ++ y)))
  ends-same (Some l) None a true x y h k e = absurd (text-differs (omega arith) (sym (looped-some l (turn_texts a ++ x)) ∙ e))
  ends-same (Some l) None a false x y h k e = absurd (text-differs (omega arith) (sym (sym (looped-some l (turn_texts a ++ x)) ∙ e)))
  ends-same (Some l) (Some m) a b x y h k e =
      let lists = front-list l m (turn_texts a ++ x) (turn_texts b ++ y) h k
      (later-of (sym (looped-some l (turn_texts a ++ x)) ∙ e ∙ looped-some m (turn_texts b ++ y))) in
      let both = turn-same a b x y lists.1 in
      record { looped = ap (λ (l : Looped). Some l) lists.0; turn = both.0; after = both.1 }

  -- notes, one after another
  note-split : (n : Note) (notes : List Note) (x : List (List ℕ)) →
      note_texts (n ∷ notes) ++ x ≡ codes
      "note" ∷ (texts (state_lines version n.state) ++ (looped_texts n.looped ++ (note_texts notes ++ x)))
  note-split n notes x =
      ap (λ (l : List (List ℕ)). l ++ x) (texts-append (note_lines version n) (flat_map (note_lines version) notes))
      ∙ append_assoc (texts (note_lines version n)) (note_texts notes) x
      ∙ ap (λ (l : List (List ℕ)). codes "note" ∷ (l ++ (note_texts notes ++ x)))
      (texts-append (state_lines version n.state) (looped_lines version n.looped))
      ∙ ap (λ (l : List (List ℕ)). codes "note" ∷ l)
      (append_assoc (texts (state_lines version n.state)) (looped_texts n.looped) (note_texts notes ++ x))

  notes-end : (notes : List Note)
      (x : List (List ℕ)) → texts (notes_lines version notes) ++ x ≡ note_texts notes ++ (turn_texts false ++ x)
  notes-end notes x =
      ap (λ (l : List (List ℕ)). l ++ x) (texts-append (flat_map (note_lines version) notes) ((codes "end" ∷ []) ∷ []))
      ∙ append_assoc (note_texts notes) (turn_texts false) x

  turned : (notes : List Note) (b : Bool) (x : List (List ℕ)) → Turned (note_texts notes ++ (turn_texts b ++ x))
  turned [] b x = record { turn = b; later = x; is = refl }
  turned (n ∷ notes) b x = record {
    turn = true;
    later = texts (state_lines version n.state) ++ (looped_texts n.looped ++ (note_texts notes ++ (turn_texts b ++ x)));
    is = note-split n notes (turn_texts b ++ x);
  }

  -- the notes that are left after those that were read, of which there is one
  pub record NotesLeft (back after : List (List ℕ)) : Type 0 where
    pub note : Note
    pub later : List Note
    pub formed : NoteHasText version note
    pub is : after ≡ texts
        (state_lines version note.state) ++ (looped_texts note.looped ++ (note_texts later ++ (turn_texts false ++ back)))

  notes-left : (all notes : List Note) (back after : List (List ℕ)) → All (NoteHasText version) all →
      All (NoteHasText version) notes →
      note_texts all ++ (turn_texts false ++ back) ≡ note_texts notes ++ (turn_texts true ++ after) → NotesLeft back after
  notes-left [] [] back after h k e = absurd (text-differs (omega arith) e)
  notes-left (m ∷ all) [] back after h k e = record {
    note = m;
    later = all;
    formed = All-head (NoteHasText version) m all h;
    is = later-of (sym e ∙ note-split m all (turn_texts false ++ back));
  }
  notes-left [] (n ∷ notes) back after h k e = absurd (text-differs (omega arith) (e ∙ note-split n notes (turn_texts true ++ after)))
  notes-left (m ∷ all) (n ∷ notes) back after h k e =
      let hm = All-head (NoteHasText version) m all h in
      let kn = All-head (NoteHasText version) n notes k in
      let first = turned all false back in
      let second = turned notes true after in
      let both = later-of (sym (note-split m all (turn_texts false ++ back)) ∙ e ∙ note-split n notes (turn_texts true ++ after)) in
      let states =
      front-state m.state n.state (looped_texts m.looped ++ (note_texts all ++ (turn_texts false ++ back)))
      (looped_texts n.looped ++ (note_texts notes ++ (turn_texts true ++ after))) hm.0 kn.0 both in
      let ends =
      ends-same m.looped n.looped first.turn second.turn first.later second.later hm.1 kn.1
      (ap (λ (l : List (List ℕ)). looped_texts m.looped ++ l) (sym first.is) ∙ states.1
      ∙ ap (λ (l : List (List ℕ)). looped_texts n.looped ++ l) second.is) in
      let rest : note_texts all ++ (turn_texts false ++ back) ≡ note_texts notes ++ (turn_texts true ++ after) =
      first.is ∙ ap (λ (b : Bool). turn_texts b ++ first.later) ends.turn
      ∙ ap (λ (l : List (List ℕ)). turn_texts second.turn ++ l) ends.after ∙ sym second.is in
      notes-left all notes back after (All-tail (NoteHasText version) m all h) (All-tail (NoteHasText version) n notes k) rest

  -- the first of notes without its head
  noted-first : (n : Note) (later : List Note) (back after : List (List ℕ)) → NoteHasText version n →
      after ≡ texts (state_lines version n.state) ++ (looped_texts n.looped ++ (note_texts later ++ (turn_texts false ++ back))) →
      GoesOn (IsOf (noted_lines version) (NotedIsFormed version)) after
  noted-first n later back after h e =
      let next = turned later false back in record {
        here = texts (noted_lines version (n, next.turn));
        rest = next.later;
        is = record { value = (n, next.turn); has = h; is = refl };
        parted =
            e ∙ ap (λ (l : List (List ℕ)). texts (state_lines version n.state) ++ (looped_texts n.looped ++ l)) next.is
            ∙ sym (noted-split n next.turn next.later);
      }

  notes-made : (notes : List Note) (lines : List (List ℕ)) → All (NoteHasText version) notes →
      note_texts notes ++ turn_texts false ≡ lines → IsOf (notes_lines version) (All (NoteHasText version)) lines
  notes-made notes lines h e = record {
    value = notes;
    has = h;
    is = sym (append-nil (texts (notes_lines version notes))) ∙ notes-end notes [] ∙ e;
  }

  notes-more : (notes more : List Note) → note_texts (notes ++ more) ≡ note_texts notes ++ note_texts more
  notes-more notes more =
      ap texts (flat_map-append (note_lines version) notes more)
      ∙ texts-append (flat_map (note_lines version) notes) (flat_map (note_lines version) more)

  -- the notes so far, with one more
  pub notes-taken : (notes : List Note) (n : Note) (b : Bool) →
      note_texts notes ++ turn_texts true ++ texts (noted_lines version (n, b)) ≡ note_texts (notes ++ n ∷ []) ++ turn_texts b
  notes-taken notes n b =
      append_assoc (note_texts notes) (turn_texts true) (texts (noted_lines version (n, b)))
      ∙ ap (λ (l : List (List ℕ)). note_texts notes ++ l)
      (ap (λ (l : List (List ℕ)). codes "note" ∷ l)
      (sym (append-nil (texts (noted_lines version (n, b)))) ∙ noted-split n b []
      ∙ ap (λ (l : List (List ℕ)). texts (state_lines version n.state) ++ (looped_texts n.looped ++ l)) (append-nil (turn_texts b)))
      ∙ sym (note-split n [] (turn_texts b)))
      ∙ sym (append_assoc (note_texts notes) (note_texts (n ∷ [])) (turn_texts b))
      ∙ ap (λ (l : List (List ℕ)). l ++ turn_texts b) (sym (notes-more notes (n ∷ [])))

  one-more-formed : (notes : List Note) (n : Note) → All (NoteHasText version) notes → NoteHasText version n →
      All (NoteHasText version) (notes ++ n ∷ [])
  one-more-formed notes n h k =
      All-append (NoteHasText version) notes (n ∷ []) h (All-cons (NoteHasText version) n [] k (All-nil (NoteHasText version)))

  notes-go-on : (b : Bool) (notes : List Note) (lines : List (List ℕ)) → All (NoteHasText version) notes →
      note_texts notes ++ turn_texts b ≡ lines → Continued (IsOf (notes_lines version) (All (NoteHasText version))) lines
  notes-go-on false notes lines h e = record { more = []; is = notes-made notes (lines ++ []) h (e ∙ sym (append-nil lines)) }
  notes-go-on true notes lines h e = record {
    more = texts (noted_lines version ((plain_note version), false));
    is =
        notes-made (notes ++ (plain_note version) ∷ []) (lines ++ texts (noted_lines version ((plain_note version), false)))
        (one-more-formed notes (plain_note version) h (plain-state version, tt))
        (sym (notes-taken notes (plain_note version) false)
        ∙ ap (λ (l : List (List ℕ)). l ++ texts (noted_lines version ((plain_note version), false))) e);
  }

  pub notes-turn : Expects (IsOf (notes_lines version) (All (NoteHasText version))) [] (IsOf (alone note_head) (λ _. Unit {0}))
  notes-turn = record {
    continued = λ lines k. notes-go-on k.value [] lines (All-nil (NoteHasText version)) k.is;
    goes_on = λ whole back after k same.
        let next = turned k.value false back in
        notes-turn-next next.turn next.later after
        (sym (ap (λ (l : List (List ℕ)). l ++ back) k.is ∙ same) ∙ notes-end k.value back ∙ next.is);
  }

  pub notes-note : (notes : List Note) → All (NoteHasText version) notes →
      Expects (IsOf (notes_lines version) (All (NoteHasText version))) (note_texts notes ++ turn_texts true)
      (IsOf (noted_lines version) (NotedIsFormed version))
  notes-note notes h = record {
    continued = λ lines k.
        notes-go-on k.value.1 (notes ++ k.value.0 ∷ []) (note_texts notes ++ turn_texts true ++ lines)
        (one-more-formed notes k.value.0 h k.has)
        (sym (notes-taken notes k.value.0 k.value.1) ∙ ap (λ (l : List (List ℕ)). note_texts notes ++ turn_texts true ++ l) k.is);
    goes_on = λ whole back after k same.
        let left =
        notes-left k.value notes back after k.has h
        (sym (notes-end k.value back) ∙ ap (λ (l : List (List ℕ)). l ++ back) k.is ∙ same
        ∙ append_assoc (note_texts notes) (turn_texts true) after) in
        noted-first left.note left.later back after left.formed left.is;
  }

  pub notes-assoc : (notes : List Note) (r : List text.Line) → notes_lines version notes ++ r ≡ after_notes version notes r
  notes-assoc notes r = append_assoc (flat_map (note_lines version) notes) ((codes "end" ∷ []) ∷ []) r

  notes-determined : Determined (notes_lines version) (All (NoteHasText version))
  notes-determined = record {
    words = λ notes h.
        AreLinesOfWords-append (flat_map (note_lines version) notes) ((codes "end" ∷ []) ∷ []) (notes-words version notes h)
        ((Above-from_test 32 (codes "end") refl, tt), tt);
    only = λ a b r s h k e. notes-same version a b r s h k (sym (notes-assoc a r) ∙ e ∙ notes-assoc b s);
  }

  -- notes before other lines are told apart
  pub front-notes : (a b : List Note) (x y : List (List ℕ)) → All (NoteHasText version) a → All (NoteHasText version) b →
      texts (notes_lines version a) ++ x ≡ texts (notes_lines version b) ++ y → (a ≡ b) × (x ≡ y)
  front-notes a b x y h k e = texts-determined (notes_lines version) (All (NoteHasText version)) a b x y notes-determined h k e

  -- one more state of a list was read
  pub inner-step : {old mid turn new : Left} (states : List State) (s : State) (items : List State) → items ≡ states ++ s ∷ [] →
      All (StateHasText version) states → StateHasText version s → Took (inner_texts states) old mid →
      Took (texts (alone inner_head true)) mid turn → Took (texts (state_lines version s)) turn new →
      All (StateHasText version) items × Took (inner_texts items) old new
  inner-step {old} {mid} {turn} {new} states s items is h k t u v = (
    subst (λ (l : List State). All (StateHasText version) l) (sym is)
        (All-append (StateHasText version) states (s ∷ []) h (All-cons (StateHasText version) s [] k (All-nil (StateHasText version)))),
    took-is (inner-taken states s ∙ ap (λ (l : List State). inner_texts l) (sym is)) (took-more (took-more t u) v),
  )

  -- one more note was read
  pub notes-step : {old mid new : Left} (notes : List Note) (n : Note) (b : Bool) (items : List Note) → items ≡ notes ++ n ∷ [] →
      All (NoteHasText version) notes → NoteHasText version n → Took (note_texts notes ++ turn_texts true) old mid →
      Took (texts (noted_lines version (n, b))) mid new →
      All (NoteHasText version) items × Took (note_texts items ++ turn_texts b) old new
  notes-step {old} {mid} {new} notes n b items is h k t u = (
    subst (λ (l : List Note). All (NoteHasText version) l) (sym is) (one-more-formed notes n h k),
    took-is (notes-taken notes n b ∙ ap (λ (l : List Note). note_texts l ++ turn_texts b) (sym is)) (took-more t u),
  )

  -- the turn before a note is the word that says so
  pub took-notes : {old new : Left} (notes : List Note) (a b : Bool) → a ≡ b → Took (note_texts notes ++ turn_texts a) old new →
      Took (note_texts notes ++ turn_texts b) old new
  took-notes {old} {new} notes a b e t = subst (λ (c : Bool). Took (note_texts notes ++ turn_texts c) old new) e t
