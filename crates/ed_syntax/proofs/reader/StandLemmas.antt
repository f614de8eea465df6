-- What is read as a command by itself has no list, and letters for its marks.
use Rattle.std.proofs.Common.{◌≡◌, ℕ, nat_eq, Bool, true, ◌&&◌, List, [], ◌∷◌, Option, Some, None, refl, sym, ap, ◌∙◌, subst}
use Rattle.std.proofs.lemmas.Bool.{and_parts}
use Rattle.ed_syntax.specs.spelling.Characters.{is_delimiter}
use Rattle.ed_syntax.specs.spelling.Letters.{letter_s}
use Rattle.ed_syntax.specs.Commands as ed
use Rattle.ed_syntax.specs.Commands.{Addresses, Form, Verb, Command}
use Rattle.ed_syntax.specs.meaning.Verbs.{may_have, may_stand}
use Rattle.ed_syntax.specs.reading.Tokens.{◌>>=◌, pattern_at}
use Rattle.ed_syntax.specs.reading.ReadParameters.{Place, ParsedAt, place, replacement, end_at, substitution_with, substitution}
use Rattle.ed_syntax.specs.reading.ReadVerbs.{verb_at}
use Rattle.ed_syntax.specs.reading.ReadCommands.{Heading, Headed, verb_from, suffix_at, suffix_with, heading_with, headed, heading_after_addresses, finished, command_after_addresses}
use Rattle.ed_syntax.proofs.meaning.StepLemmas.{Some-same, none_some, bind-some, either}
use Rattle.ed_syntax.proofs.reader.VerbLemmas.{verb_at-sound}
use Rattle.ed_syntax.proofs.reader.LetterLemmas.{stands, letter-simple, text-keeps}

-- all that may be read stands
abbrev Stands : ParsedAt Verb → Type 0
Stands read = (r : Verb × Place) → read ≡ Some r → stands r.0 ≡ true

with-stands : (delimiter : ℕ) (pattern : Option (List ℕ)) (bs : List ℕ) (lines : List (List ℕ)) → Stands (substitution_with delimiter pattern bs lines)
with-stands delimiter pattern [] lines r is = absurd (none_some is)
with-stands delimiter pattern (b ∷ bs) lines r is =
    let found = bind-some (replacement delimiter bs lines) (λ r. end_at r.1.line >>= λ e. Some (ed.Substitute pattern r.0 e.0.0 e.0.1, place e.1 r.1.later)) r is in
    let end = bind-some (end_at found.0.1.line) (λ e. Some (ed.Substitute pattern found.0.0 e.0.0 e.0.1, place e.1 found.0.1.later)) r found.2 in
    subst (λ (r : Verb × Place). stands r.0 ≡ true) (Some-same (ed.Substitute pattern found.0.0 end.0.0.0 end.0.0.1, place end.0.1 found.0.1.later) r end.2) refl

substitution-stands : (own : List ℕ) (lines : List (List ℕ)) → Stands (substitution own lines)
substitution-stands [] lines = λ r is. absurd (none_some is)
substitution-stands (b ∷ bs) lines =
    either Stands (is_delimiter b) _ _
    (λ good r is.
    let q = bind-some (pattern_at b bs) (λ q. substitution_with b q.0 q.1 lines) r is in
    with-stands b q.0.0 q.0.1 lines r q.2)
    (λ bad r is. absurd (none_some is))

verb-stands : (own : List ℕ) (lines : List (List ℕ)) → Stands (verb_from own lines)
verb-stands [] lines = λ r is. subst (λ (r : Verb × Place). stands r.0 ≡ true) (Some-same (ed.Null, place [] lines) r is) refl
verb-stands (b ∷ bs) lines =
    either Stands (nat_eq b letter_s) _ _ (λ yes. substitution-stands bs lines)
    (λ no r is.
    let found = bind-some (verb_at (b ∷ bs)) (λ r. Some (r.0, place r.1 lines)) r is in
    subst (λ (r : Verb × Place). stands r.0 ≡ true) (Some-same (found.0.0, place found.0.1 lines) r found.2) (letter-simple (verb_at-sound (b ∷ bs) found.0 found.1)).stands)

-- the verb of a heading, and that it may stand there
suffix_with-may : (listed : Bool) (given : Addresses) (verb : Verb) (more : List ℕ) (suffix : Option Form) → suffix_with listed given verb more ≡ Some suffix → may_stand listed verb ≡ true
suffix_with-may listed given verb more suffix =
    either (λ (o : Option (Option Form)). o ≡ Some suffix → may_stand listed verb ≡ true) (may_have given verb && may_stand listed verb) (suffix_at verb more) None
    (λ both is. (and_parts (may_have given verb) (may_stand listed verb) both).1)
    (λ no is. absurd (none_some is))

heading_with-verb : (listed : Bool) (given : Addresses) (more : List ℕ) (verb : Verb) (h : Heading) → heading_with listed given more verb ≡ Some h → (h.verb ≡ verb) × (may_stand listed verb ≡ true)
heading_with-verb listed given more verb h is =
    let found = bind-some (suffix_with listed given verb more) (λ suffix. Some (record { addresses = given; verb = verb; suffix = suffix })) h is in (
      ap (λ (h : Heading). h.verb) (sym (Some-same (record { addresses = given; verb = verb; suffix = found.0 }) h found.2)),
      suffix_with-may listed given verb more found.0 found.1,
    )

heading-stands : (listed : Bool) (given : Addresses) (own : List ℕ) (lines : List (List ℕ)) (h : Headed) → heading_after_addresses listed given own lines ≡ Some h →
    (stands h.0.verb ≡ true) × (may_stand listed h.0.verb ≡ true)
heading-stands listed given own lines h is =
    let verb = bind-some (verb_from own lines) (λ r. headed r.1.later (heading_with listed given r.1.line r.0)) h is in
    let found = bind-some (heading_with listed given verb.0.1.line verb.0.0) (λ h. Some (h, verb.0.1.later)) h verb.2 in
    let here = heading_with-verb listed given verb.0.1.line verb.0.0 found.0 found.1 in
    let same = Some-same (found.0, verb.0.1.later) h found.2 in (
      ap (λ (h : Headed). stands h.0.verb) (sym same) ∙ ap stands here.0 ∙ verb-stands own lines verb.0 verb.1,
      ap (λ (h : Headed). may_stand listed h.0.verb) (sym same) ∙ ap (may_stand listed) here.0 ∙ here.1,
    )

-- a command that is read stands, may stand there, and is listed as it should be
pub record CommandStands (listed : Bool) (c : Command) : Type 0 where
  pub marked : c.listed ≡ listed
  pub sound : stands c.verb ≡ true
  pub may : may_stand listed c.verb ≡ true

pub command_after_addresses-stands : (listed : Bool) (given : Addresses) (own : List ℕ) (later : List (List ℕ)) (r : Command × List (List ℕ)) → command_after_addresses listed given own later ≡ Some r →
    CommandStands listed r.0
command_after_addresses-stands listed given own later r is =
    let h = bind-some (heading_after_addresses listed given own later) (λ h. Some (finished listed h.0 h.1)) r is in
    let here = heading-stands listed given own later h.0 h.1 in
    subst (λ (r : Command × List (List ℕ)). CommandStands listed r.0) (Some-same (finished listed h.0.0 h.0.1) r h.2) (record {
      marked = refl;
      sound = text-keeps stands (λ new old. (refl, refl, refl)) h.0.0.verb h.0.1 ∙ here.0;
      may = text-keeps (may_stand listed) (λ new old. (refl, refl, refl)) h.0.0.verb h.0.1 ∙ here.1;
    })
