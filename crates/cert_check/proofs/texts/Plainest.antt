-- The plainest state, certificate and so on: what has been read can be gone on with by these.
use Rattle.std.proofs.Common.{◌≡◌, ◌<◌, ◌/◌, ◌%◌, ◌∷◌, [], ℕ, Bool, true, false, List, length, None, arith, refl, ◌∙◌, sym, ap}
use Rattle.std.proofs.lemmas.List.Elements.{All-nil, All-cons}
use Rattle.zones.specs.Steps.{any_zone}
use Rattle.zones.proofs.Formulas.{bound-any_zone}
use Rattle.zones.proofs.Kept.{IsZone-any_zone}
use Rattle.ed_rules.specs.declared.state.Old.{Old}
use Rattle.ed_rules.specs.declared.state.Replacements.{Replacements}
use Rattle.ed_rules.specs.declared.state.Changed.{Changed}
use Rattle.ed_rules.specs.declared.state.Undo.{Undo}
use Rattle.ed_rules.specs.declared.state.State.{State}
use Rattle.ed_rules.specs.Choices.{Choice}
use Rattle.ed_rules.specs.facts.Facts.{no_facts}
use Rattle.ed_rules.specs.Formed.{ChoiceIsBytes, SetIsFormed, ZoneIsFormed, may_say}
use Rattle.cert_check.specs.declared.certificate.Version.{Version}
use Rattle.cert_check.specs.declared.certificate.Version.TheVariants.{One, Two, Three}
use Rattle.cert_check.specs.declared.text.lines.Found.{Found}
use Rattle.cert_check.specs.text.HasText.{IsSaidIn, ChainHasText, ChainsHaveText, does_follow, StateHasText}
use Rattle.cert_check.specs.text.Pieces.{UndoIsFormed, BufferIsFormed, IsSomeReplacement, IsSomeChange}
use Rattle.cert_check.specs.text.FactsText.{FactIsFormed, StretchIsFormed, FactsAreFormed, AreToldIn}
use Rattle.cert_check.specs.text.Reading.{all_marks}
use Rattle.cert_check.proofs.texts.Limited.{at-place}
use Rattle.cert_check.proofs.texts.Unambiguous.{Buffer, matches_made, state_made, formed-earlier, said-earlier, told-earlier}
use Rattle.cert_check.proofs.texts.Known.{any-said}

-- a zone that says nothing
pub any-formed : (marks : List Bool) → length marks ≡ 26 → ZoneIsFormed marks any_zone
any-formed marks h = record {
  letters = h;
  is_zone = IsZone-any_zone;
  says = λ place l.
      let row : place / 32 < 32 = omega arith in
      let column : place % 32 < 32 = omega arith in
      sym (at-place marks any_zone place)
      ∙ ap (λ b. may_say marks (place / 32) (place % 32) b) (bound-any_zone (place / 32) (place % 32) row column)
      ∙ any-said marks (place / 32) (place % 32);
}

abbrev pub plain_old : Old
plain_old = record { zone = any_zone; marks = all_marks; facts = no_facts }

abbrev pub plain_set : List Choice
plain_set = None ∷ []

pub plain-set : SetIsFormed plain_set
plain-set = record { bytes = All-cons ChoiceIsBytes None [] tt (All-nil ChoiceIsBytes); rising = refl; some = omega arith }

abbrev pub plain_replacements : Replacements
plain_replacements = record { none = true; plain = false; split = false }

abbrev pub plain_change : Changed
plain_change = record { no = true; yes = false }

pub plain-said : (version : Version) → IsSaidIn version []
plain-said One = refl
plain-said Two = record { bytes = All-nil ChoiceIsBytes; rising = refl }
plain-said Three = record { bytes = All-nil ChoiceIsBytes; rising = refl }

-- no facts have their two lines
pub nothing-formed : (marks : List Bool) → FactsAreFormed marks no_facts
nothing-formed marks = record {
  known = record { each = All-nil (FactIsFormed marks); rising = refl };
  clear = record { each = All-nil (StretchIsFormed marks); rising = refl };
}

pub plain-told : (version : Version) (marks : List Bool) → AreToldIn version marks no_facts
plain-told One marks = refl
plain-told Two marks = refl
plain-told Three marks = nothing-formed marks

-- and no chains of landmarks theirs
pub plain-chains : (version : Version) → ChainsHaveText version []
plain-chains One = refl
plain-chains Two = refl
plain-chains Three = All-nil ChainHasText

abbrev pub plain_buffer : Buffer
plain_buffer = (plain_old, [])

pub plain-buffer : (version : Version) → BufferIsFormed version plain_buffer
plain-buffer version = (any-formed all_marks refl, (plain-said version, plain-told version all_marks))

abbrev pub plain_undo : Undo × List (List ℕ)
plain_undo = (record { nothing = true; same = false; was = None }, [])

pub plain-undo : (version : Version) → UndoIsFormed version plain_undo
plain-undo version = (refl, refl)

abbrev pub plain_found : Found
plain_found = record { nothing = true; same = false; was = false }

-- a state of its parts, the first and the last of them with what some line of a buffer matches
abbrev pub state_of : Version → Buffer → List Choice → Replacements → List Choice → Changed → Undo × List (List ℕ) → State
state_of version buffer patterns replacements names changed found =
    state_made buffer.0.zone buffer.0.marks patterns replacements names changed found.0 (matches_made buffer.1 found.1) (does_follow version)
    buffer.0.facts

pub state-formed : (version : Version) (buffer : Buffer) (patterns : List Choice) (r : Replacements) (names : List Choice)
    (c : Changed) (found : Undo × List (List ℕ)) → BufferIsFormed version buffer → SetIsFormed patterns →
    IsSomeReplacement r → SetIsFormed names → IsSomeChange c → UndoIsFormed version found →
    StateHasText version (state_of version buffer patterns r names c found)
state-formed version buffer patterns r names c found h p i n j k = record {
  formed = record {
    zone = h.0;
    patterns = p;
    replacements = i;
    names = n;
    changed = j;
    undo = k.0;
    old = formed-earlier version found.0.was found.1 k.1;
  };
  matches = (h.1.0, said-earlier version found.0.was found.1 k.1);
  follows = refl;
  facts = h.1.1;
  old_facts = told-earlier version found.0.was found.1 k.1;
}

abbrev pub plain_state : Version → State
plain_state version = state_of version plain_buffer plain_set plain_replacements plain_set plain_change plain_undo

pub plain-state : (version : Version) → StateHasText version (plain_state version)
plain-state version =
    state-formed version plain_buffer plain_set plain_replacements plain_set plain_change plain_undo (plain-buffer version) plain-set refl
    plain-set refl (plain-undo version)
