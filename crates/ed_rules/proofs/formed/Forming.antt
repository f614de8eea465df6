-- Formed states: on the way through a rule, and at its end.
use Rattle.std.proofs.Common.{◌≡◌, ◌||◌, inl, inr, ℕ, Bool, true, false, List, length, Option, None, Some, refl}
use Rattle.std.specs.Prelude.{is_some}
use Rattle.std.proofs.lemmas.Bool.{or_cases, or_left, or_right}
use Rattle.zones.specs.Zone.{Bounds}
use Rattle.zones.specs.Steps.{join_of, widening_of}
use Rattle.ed_rules.specs.declared.state.Old.{Old}
use Rattle.ed_rules.specs.declared.state.Changed.{Changed}
use Rattle.ed_rules.specs.declared.state.Replacements.{Replacements}
use Rattle.ed_rules.specs.declared.state.Undo.{Undo}
use Rattle.ed_rules.specs.declared.state.State.{State}
use Rattle.ed_rules.specs.Choices.{Choice}
use Rattle.ed_rules.specs.Marks.{both_sure}
use Rattle.ed_rules.specs.Formed.{has_name, OldIsFormed, OldIsLow, SetIsFormed, StateIsFormed, IsFormed, IsCounted, IsEnded}
use Rattle.ed_rules.specs.States.{changed}
use Rattle.ed_rules.specs.Order.{old_of_both, undo_of_both, united, join, widen}
use Rattle.ed_rules.specs.Pieces.{with_zone, undo_after, modified}
use Rattle.ed_rules.specs.Globals.{finished}
use Rattle.ed_rules.proofs.formed.CountedLines.{ended-counted}
use Rattle.ed_rules.proofs.formed.Speaking.{Speaks, IsOfBoth, Speaks-join, Speaks-widening}
use Rattle.ed_rules.proofs.formed.Naming.{is_spoken, Speaks-spoken, length-both_sure, spoken-both, named-both}
use Rattle.ed_rules.proofs.formed.Saying.{formed-Speaks, Speaks-formed}
use Rattle.ed_rules.proofs.formed.SpeakingPieces.{Speaks-ended}
use Rattle.ed_rules.proofs.formed.RisingChoices.{SetIsFormed-union}

-- the old zone speaks of the names of the old marks
abbrev pub OldSpeaks : Option Old → Type 0
OldSpeaks None = Unit {0}
OldSpeaks (Some old) = (length old.marks ≡ 26) × Speaks (has_name old.marks) old.zone

-- one of the cases is possible
abbrev pub IsChange : Changed → Type 0
IsChange c = (c.no || c.yes) ≡ true

abbrev pub IsKind : Replacements → Type 0
IsKind r = (r.none || r.plain || r.split) ≡ true

abbrev pub IsUndo : Undo → Type 0
IsUndo u = (u.nothing || u.same || is_some u.was) ≡ true

-- what a state says beside its lines
pub record AreFormed (patterns : List Choice) (replacements : Replacements) (names : List Choice) (change : Changed) (undo : Undo) : Type 0 where
  pub patterns_are : SetIsFormed patterns
  pub kind : IsKind replacements
  pub names_are : SetIsFormed names
  pub flag : IsChange change
  pub past : IsUndo undo
  pub old : OldSpeaks undo.was

-- a state that is formed, its zone over these names beside its marks
pub record Says (names : List Bool → ℕ → Bool) (s : State) : Type 0 where
  pub letters : length s.marks ≡ 26
  pub zone : Speaks (names s.marks) s.zone
  pub aside : AreFormed s.patterns s.replacements s.names s.changed s.undo

abbrev pub Forming : State → Type 0
Forming s = Says is_spoken s

abbrev pub Closed : State → Type 0
Closed s = Says has_name s

pub Closed-forming : (s : State) → Closed s → Forming s
Closed-forming s h = record { letters = h.letters; zone = Speaks-spoken s.marks s.zone h.zone; aside = h.aside }

-- A STATE IS FORMED WHERE IT IS CLOSED

old-speaks : (o : Option Old) → OldIsFormed o → OldIsLow o → OldSpeaks o
old-speaks None h low = tt
old-speaks (Some old) h low = (h.letters, formed-Speaks old.marks old.zone h low)

old-formed : (o : Option Old) → OldSpeaks o → OldIsFormed o
old-formed None h = tt
old-formed (Some old) h = Speaks-formed old.marks old.zone h.0 h.1

old-low : (o : Option Old) → OldSpeaks o → OldIsLow o
old-low None h = tt
old-low (Some old) h = h.1.low

pub formed-Closed : (s : State) → IsFormed s → Closed s
formed-Closed s h =
    let f : StateIsFormed s = h.formed in
    record {
      letters = f.zone.letters;
      zone = formed-Speaks s.marks s.zone f.zone h.low;
      aside = record { patterns_are = f.patterns; kind = f.replacements; names_are = f.names; flag = f.changed; past = f.undo; old = old-speaks s.undo.was f.old h.old_low };
    }

pub Closed-formed : (s : State) → Closed s → IsFormed s
Closed-formed s h =
    let a = h.aside in
    record {
      formed = record {
        zone = Speaks-formed s.marks s.zone h.letters h.zone;
        patterns = a.patterns_are;
        replacements = a.kind;
        names = a.names_are;
        changed = a.flag;
        undo = a.past;
        old = old-formed s.undo.was a.old;
      };
      low = h.zone.low;
      old_low = old-low s.undo.was a.old;
    }

-- PARTS OF A STATE ANEW

pub forming-zone : (s : State) (zone : Bounds) → Speaks (is_spoken s.marks) zone → Forming s → Forming (with_zone zone s)
forming-zone s zone z h = record { letters = h.letters; zone = z; aside = h.aside }

pub forming-patterns : (s : State) (patterns : List Choice) → SetIsFormed patterns → Forming s → Forming (record s { patterns = patterns })
forming-patterns s patterns p h =
    let a = h.aside in
    record { letters = h.letters; zone = h.zone; aside = record { patterns_are = p; kind = a.kind; names_are = a.names_are; flag = a.flag; past = a.past; old = a.old } }

pub forming-kind : (s : State) (kinds : Replacements) → IsKind kinds → Forming s → Forming (record s { replacements = kinds })
forming-kind s kinds k h =
    let a = h.aside in
    record { letters = h.letters; zone = h.zone; aside = record { patterns_are = a.patterns_are; kind = k; names_are = a.names_are; flag = a.flag; past = a.past; old = a.old } }

pub forming-names : (s : State) (names : List Choice) → SetIsFormed names → Forming s → Forming (record s { names = names })
forming-names s names n h =
    let a = h.aside in
    record { letters = h.letters; zone = h.zone; aside = record { patterns_are = a.patterns_are; kind = a.kind; names_are = n; flag = a.flag; past = a.past; old = a.old } }

pub forming-change : (s : State) (c : Changed) (u : Undo) → IsChange c → IsUndo u → OldSpeaks u.was → Forming s → Forming (record s { changed = c; undo = u })
forming-change s c u f p o h =
    let a = h.aside in
    record { letters = h.letters; zone = h.zone; aside = record { patterns_are = a.patterns_are; kind = a.kind; names_are = a.names_are; flag = f; past = p; old = o } }

pub forming-flag : (s : State) (c : Changed) → IsChange c → Forming s → Forming (record s { changed = c })
forming-flag s c f h =
    let a = h.aside in
    record { letters = h.letters; zone = h.zone; aside = record { patterns_are = a.patterns_are; kind = a.kind; names_are = a.names_are; flag = f; past = a.past; old = a.old } }

-- the buffer is changed by a command that began in a closed state
pub Forming-modified : (listed : Bool) (start s : State) → Closed start → Forming s → Forming (modified listed start s)
Forming-modified true start s c h = forming-change s changed s.undo refl h.aside.past h.aside.old h
Forming-modified false start s c h = forming-change s changed (undo_after false start s.undo) refl refl (c.letters, c.zone) h

-- a closed state that knows that there are at least 0 lines
abbrev pub AtEnd : State → Type 0
AtEnd s = Closed s × IsCounted s.zone

pub finished-AtEnd : (s : State) → Forming s → AtEnd (finished s)
finished-AtEnd s h = (
  record { letters = h.letters; zone = Speaks-ended s.marks s.zone h.zone; aside = h.aside },
  ended-counted s.marks s.zone h.zone.low,
)

pub AtEnd-ended : (s : State) → AtEnd s → IsEnded s
AtEnd-ended s h = record { formed = Closed-formed s h.0; counted = h.1 }

-- JOIN AND WIDENING

or-both : (a b c d : Bool) → (a || b) ≡ true → ((a || c) || (b || d)) ≡ true
or-both a b c d h = elim (or_cases a b h) [
  | inl e ↦ or_left (a || c) (b || d) (or_left a c e)
  | inr e ↦ or_right (a || c) (b || d) (or_left b d e)
]

or-three : (a b c d e f : Bool) → (a || b || c) ≡ true → ((a || d) || (b || e) || (c || f)) ≡ true
or-three true b c d e f h = refl
or-three false true c true e f h = refl
or-three false true c false e f h = refl
or-three false false true true e f h = refl
or-three false false true false true f h = refl
or-three false false true false false f h = refl
or-three false false false d e f h = absurd cc

some-both : (o p : Option Old) → is_some (old_of_both o p) ≡ (is_some o || is_some p)
some-both None p = refl
some-both (Some o) None = refl
some-both (Some o) (Some p) = refl

pub past-both : (u v : Undo) → IsUndo u → IsUndo (undo_of_both u v)
past-both u v h = rw (some-both u.was v.was) (or-three u.nothing u.same (is_some u.was) v.nothing v.same (is_some v.was) h)

pub old-both : (o p : Option Old) → OldSpeaks o → OldSpeaks p → OldSpeaks (old_of_both o p)
old-both None p h k = k
old-both (Some o) None h k = h
old-both (Some o) (Some p) h k = (
  length-both_sure o.marks p.marks,
  Speaks-join (has_name o.marks) (has_name p.marks) (has_name (both_sure o.marks p.marks)) o.zone p.zone (named-both o.marks p.marks) h.1 k.1,
)

Says-united : (names : List Bool → ℕ → Bool) (one other : State) (zone : Bounds) → Speaks (names (both_sure one.marks other.marks)) zone → Says names one → Says names other →
    Says names (united one other zone)
Says-united names one other zone z h k =
    let a = h.aside in
    let b = k.aside in
    record {
      letters = length-both_sure one.marks other.marks;
      zone = z;
      aside = record {
        patterns_are = SetIsFormed-union one.patterns other.patterns a.patterns_are b.patterns_are;
        kind = or-three one.replacements.none one.replacements.plain one.replacements.split other.replacements.none other.replacements.plain other.replacements.split a.kind;
        names_are = SetIsFormed-union one.names other.names a.names_are b.names_are;
        flag = or-both one.changed.no one.changed.yes other.changed.no other.changed.yes a.flag;
        past = past-both one.undo other.undo a.past;
        old = old-both one.undo.was other.undo.was a.old b.old;
      };
    }

Says-join : (names : List Bool → ℕ → Bool) → ((m n : List Bool) → IsOfBoth (names m) (names n) (names (both_sure m n))) → (one other : State) → Says names one → Says names other →
    Says names (join one other)
unfolding join
Says-join names of one other h k =
    Says-united names one other (join_of one.zone other.zone)
    (Speaks-join (names one.marks) (names other.marks) (names (both_sure one.marks other.marks)) one.zone other.zone (of one.marks other.marks) h.zone k.zone) h k

pub Forming-join : (one other : State) → Forming one → Forming other → Forming (join one other)
Forming-join one other h k = Says-join is_spoken spoken-both one other h k

pub Closed-join : (one other : State) → Closed one → Closed other → Closed (join one other)
Closed-join one other h k = Says-join has_name named-both one other h k

pub Closed-widen : (old new : State) → Closed old → Closed new → Closed (widen old new)
unfolding widen
Closed-widen old new h k =
    Says-united has_name old new (widening_of old.zone new.zone)
    (Speaks-widening (has_name old.marks) (has_name new.marks) (has_name (both_sure old.marks new.marks)) old.zone new.zone (named-both old.marks new.marks) h.zone k.zone) h k
