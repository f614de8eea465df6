-- What stands after the addresses on a command's own line: what is read is spelled so, and what is spelled so is read.
use Rattle.std.proofs.Common.{◌≡◌, ℕ, Bool, true, ◌&&◌, List, ◌++◌, Option, Some, None, refl, ap, ◌∙◌, subst}
use Rattle.std.proofs.lemmas.Bool.{and_parts, and_from}
use Rattle.ed_base.specs.Lines.{AreLines, bytes_of}
use Rattle.ed_syntax.specs.Commands.{Addresses, Form, Verb}
use Rattle.ed_syntax.specs.meaning.Verbs.{may_have, may_stand}
use Rattle.ed_syntax.specs.spelling.Spellings.{SpellsSuffix}
use Rattle.ed_syntax.specs.reading.Tokens.{◌>>=◌}
use Rattle.ed_syntax.specs.reading.ReadParameters.{ParsedAt}
use Rattle.ed_syntax.specs.reading.ReadCommands.{Heading, Headed, verb_from, suffix_at, suffix_with, heading_with, headed, heading_after_addresses}
use Rattle.ed_syntax.proofs.meaning.StepLemmas.{Some-same, none_some, bind-some, chosen, either}
use Rattle.ed_syntax.proofs.reader.TextLemmas.{LeftLines}
use Rattle.ed_syntax.proofs.reader.HeadLemmas.{SpellsHead, verb_from-sound, verb_from-complete}
use Rattle.ed_syntax.proofs.reader.SuffixLemmas.{suffix_at-sound, suffix_at-complete}

-- how what stands after the addresses on a command's own line is spelled, before its text is read, with the further lines that were
-- taken for it
pub record SpellsHeading (listed : Bool) (own text : List ℕ) (h : Heading) : Type 0 where
  pub more : List ℕ
  pub head : SpellsHead own more text h.verb
  pub allowed : may_have h.addresses h.verb ≡ true
  pub standing : may_stand listed h.verb ≡ true
  pub end : SpellsSuffix h.verb more h.suffix

-- what was read after addresses and of the lines after the line
pub record ReadsHeading (listed : Bool) (given : Addresses) (own : List ℕ) (lines : List (List ℕ)) (h : Headed) : Type 0 where
  pub taken : List (List ℕ)
  pub split : lines ≡ taken ++ h.1
  pub taken_are : AreLines taken
  pub are : AreLines h.1
  pub addresses : h.0.addresses ≡ given
  pub spells : SpellsHeading listed own (bytes_of taken) h.0

-- a heading with this suffix
abbrev with_suffix : Addresses → Verb → Option Form → Option Heading
with_suffix given verb suffix = Some (record { addresses = given; verb = verb; suffix = suffix })

-- a command that may stand here, with addresses that may stand before it, and its suffix
abbrev SuffixRead : Bool → Addresses → Verb → List ℕ → Option (Option Form) → Type 0
SuffixRead listed given verb more read = (suffix : Option Form) → read ≡ Some suffix → (may_have given verb && may_stand listed verb ≡ true) × SpellsSuffix verb more suffix

suffix_with-sound : (listed : Bool) (given : Addresses) (verb : Verb) (more : List ℕ) → SuffixRead listed given verb more (suffix_with listed given verb more)
suffix_with-sound listed given verb more =
    either (SuffixRead listed given verb more) (may_have given verb && may_stand listed verb) (suffix_at verb more) None
    (λ may suffix is. (may, suffix_at-sound verb more suffix is))
    (λ may_not suffix is. absurd (none_some is))

-- the end of a line that is read after these is spelled so
heading_with-sound : (listed : Bool) (given : Addresses) (more : List ℕ) (verb : Verb) (h : Heading) → heading_with listed given more verb ≡ Some h → (own text : List ℕ) → SpellsHead own more text verb →
    (h.addresses ≡ given) × SpellsHeading listed own text h
heading_with-sound listed given more verb h is own text head_is =
    let found = bind-some (suffix_with listed given verb more) (with_suffix given verb) h is in
    let end = suffix_with-sound listed given verb more found.0 found.1 in
    let both = and_parts (may_have given verb) (may_stand listed verb) end.0 in
    let P : Heading → Type 0 = λ h. (h.addresses ≡ given) × SpellsHeading listed own text h in
    subst P (Some-same (record { addresses = given; verb = verb; suffix = found.0 }) h found.2)
    (refl, record { more = more; head = head_is; allowed = both.0; standing = both.1; end = end.1 })

-- what is read after addresses is spelled so
pub heading-sound : (listed : Bool) (given : Addresses) (own : List ℕ) (lines : List (List ℕ)) (h : Headed) → AreLines lines → heading_after_addresses listed given own lines ≡ Some h →
    ReadsHeading listed given own lines h
heading-sound listed given own lines h are is =
    let verb = bind-some (verb_from own lines) (λ r. headed r.1.later (heading_with listed given r.1.line r.0)) h is in
    let found = bind-some (heading_with listed given verb.0.1.line verb.0.0) (λ h. Some (h, verb.0.1.later)) h verb.2 in
    let read = verb_from-sound own lines are verb.0 verb.1 in
    let spells = heading_with-sound listed given verb.0.1.line verb.0.0 found.0 found.1 own (bytes_of read.taken) read.spells in
    subst (ReadsHeading listed given own lines) (Some-same (found.0, verb.0.1.later) h found.2)
    (record { taken = read.taken; split = read.split; taken_are = read.taken_are; are = read.are; addresses = spells.0; spells = spells.1 })

-- what is spelled so after addresses is read
pub heading-complete : (listed : Bool) (own text : List ℕ) (h : Heading) → SpellsHeading listed own text h → (lines : List (List ℕ)) (rest : List ℕ) → AreLines lines → text ++ rest ≡ bytes_of lines →
    (left : LeftLines rest) × (heading_after_addresses listed h.addresses own lines ≡ Some (h, left.lines))
heading-complete listed own text h is lines rest are same =
    let with = with_suffix h.addresses h.verb in
    let read = verb_from-complete is.head is.end lines rest are same in
    let later = read.0.lines in (
      read.0,
      ap (λ (o : ParsedAt Verb). o >>= λ r. headed r.1.later (heading_with listed h.addresses r.1.line r.0)) read.1
          ∙ ap (λ t. headed later (chosen t (suffix_at h.verb is.more) None >>= with)) (and_from (may_have h.addresses h.verb) (may_stand listed h.verb) is.allowed is.standing)
          ∙ ap (λ (o : Option (Option Form)). headed later (o >>= with)) (suffix_at-complete is.end),
    )
