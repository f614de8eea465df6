-- On the way through a rule states are formed: what each piece of a rule keeps.
use Rattle.std.proofs.Common.{◌<◌, ◌||◌, ℕ, pos, true, false, Bool, [], ◌∷◌, Some, refl, ◌∙◌, subst, arith}
use Rattle.std.proofs.lemmas.Bool.{or_right}
use Rattle.std.proofs.lemmas.List.{length-set}
use Rattle.ed_rules.specs.declared.state.Old.{Old}
use Rattle.ed_rules.specs.declared.state.Changed.{Changed}
use Rattle.ed_rules.specs.declared.state.State.{State}
use Rattle.ed_rules.specs.States.{changed, old_of, undo_to}
use Rattle.ed_rules.specs.Order.{changed_of_both, undo_of_both}
use Rattle.ed_rules.specs.Pieces.{mark_lost}
use Rattle.ed_rules.specs.Lines.{marked}
use Rattle.ed_rules.specs.Files.{filled, maybe_modified, loaded}
use Rattle.ed_rules.specs.Undoing.{brought_back}
use Rattle.ed_rules.proofs.formed.Naming.{Speaks-spoken, Speaks-without_addresses, Speaks-lost, Speaks-marked}
use Rattle.ed_rules.proofs.formed.SpeakingPieces.{Inner-zone_loaded}
use Rattle.ed_rules.proofs.formed.RisingChoices.{SetIsFormed-only, SetIsFormed-filled}
use Rattle.ed_rules.proofs.formed.Forming.{OldSpeaks, IsChange, Forming, Closed, forming-zone, forming-patterns, forming-kind, past-both}
use Rattle.ed_rules.proofs.formed.Forming.{forming-names, forming-change, forming-flag, Forming-modified, old-both, Forming-join}
use Rattle.ed_rules.proofs.formed.GivenBytes.{TextIsBytes}
use Rattle.ed_rules.proofs.through.Addresses.{KeptAt}
use Rattle.ed_rules.proofs.through.Effects.{Kept}

lost-formed : (k : ℕ) (s : State) → Forming s → Forming (mark_lost k s)
unfolding mark_lost
lost-formed k s h =
    record { letters = length-set s.marks k false ∙ h.letters; zone = Speaks-lost s.marks s.zone k h.zone; aside = h.aside }

marked-formed : (letter : ℕ) (s : State) → letter < 26 → Forming s → Forming (marked letter s)
marked-formed letter s l h =
    let zone = Speaks-marked s.marks s.zone letter 3 (pos 0) l (omega arith) h.letters h.zone in
    record { letters = length-set s.marks letter true ∙ h.letters; zone = zone; aside = h.aside }

maybe-flag : (c : Changed) → IsChange (changed_of_both c changed)
maybe-flag c = or_right (c.no || false) (c.yes || true) (or_right c.yes true refl)

maybe-formed : (listed : Bool) (start s : State) → Closed start → Forming s → Forming (maybe_modified listed start s)
maybe-formed true start s c h =
    forming-change s (changed_of_both s.changed changed) s.undo (maybe-flag s.changed) h.aside.past h.aside.old h
maybe-formed false start s c h =
    forming-change s (changed_of_both s.changed changed) (undo_of_both s.undo (undo_to (old_of start))) (maybe-flag s.changed)
    (past-both s.undo (undo_to (old_of start)) h.aside.past) (old-both s.undo.was (Some (old_of start)) h.aside.old (c.letters, c.zone)) h

loaded-formed : (s : State) → Forming s → Forming (loaded s)
loaded-formed s h =
    let a = h.aside in
    record {
      letters = refl;
      zone = Inner-zone_loaded s.marks s.zone h.zone;
      aside = record { patterns_are = a.patterns_are; kind = a.kind; names_are = a.names_are; flag = refl; past = refl; old = tt };
    }

back-formed : (old : Old) (s : State) → OldSpeaks (Some old) → Forming s → Forming (brought_back old s)
back-formed old s o h =
    let a = h.aside in
    record {
      letters = o.0;
      zone = Speaks-spoken old.marks old.zone o.1;
      aside = record {
        patterns_are = a.patterns_are;
        kind = a.kind;
        names_are = a.names_are;
        flag = refl;
        past = refl;
        old = (h.letters, Speaks-without_addresses s.marks s.zone h.zone);
      };
    }

pub forming-at : KeptAt Forming TextIsBytes
forming-at = record {
  zone = λ s zone speaks h. forming-zone s zone (speaks h.zone) h;
  given = λ s text b h. forming-patterns s (Some text ∷ []) (SetIsFormed-only (Some text) b) h;
  facts = λ s facts h. record { letters = h.letters; zone = h.zone; aside = h.aside };
}

pub forming-kept : (start : State) → Closed start → Kept Forming TextIsBytes TextIsBytes (Unit {0}) start
forming-kept start c = record {
  at = forming-at;
  named = λ s path b h. forming-names s (Some path ∷ []) (SetIsFormed-only (Some path) b) h;
  filled = λ s path b h. forming-names s (filled path s.names) (SetIsFormed-filled path s.names b h.aside.names_are) h;
  joins = Forming-join;
  loses = lost-formed;
  marks = marked-formed;
  kinds = λ s kinds kind h. forming-kind s kinds (kind h.aside.kind) h;
  flag = λ s d flag h. forming-flag s d (flag h.aside.flag) h;
  changes = λ listed s h. Forming-modified listed start s c h;
  may_change = λ listed s h. maybe-formed listed start s c h;
  brings_back = λ old s is h. back-formed old s (subst OldSpeaks is h.aside.old) h;
  loads = λ _ s h. loaded-formed s h;
}
