-- The faults of a command's steps: neither memory nor output is lost, and no file is refused.
use Rattle.std.proofs.Common.{◌≡◌, ℕ, zero, suc, ◌+◌, ℤ, pos, negsuc, ◌+ℤ◌, Bool, true, false, ◌&&◌, nat_le, List, [], ◌∷◌, Option, Some, None, find, Result, Ok, Err, refl}
use Rattle.std.specs.Prelude.{ok_or}
use Rattle.std.specs.List.{list_any}
use Rattle.ed_base.specs.Buffer.{marked_place}
use Rattle.ed_base.specs.Parts.{between}
use Rattle.ed_base.specs.declared.fault.Fault.{Fault}
use Rattle.ed_base.specs.declared.fault.Fault.TheVariants as fault
use Rattle.ed_syntax.specs.declared.command.Sense.{Sense}
use Rattle.ed_syntax.specs.declared.replacement.Part.{Part}
use Rattle.ed_syntax.specs.declared.replacement.Which.{Which}
use Rattle.ed_syntax.specs.declared.verbs.Taking.{Taking}
use Rattle.ed_syntax.specs.declared.verbs.Taking.TheVariants as many
use Rattle.ed_syntax.specs.Commands as ed
use Rattle.ed_syntax.specs.Commands.{Base, Address, Addresses, Form, Command}
use Rattle.ed_syntax.specs.meaning.Verbs.{takes, given_or, is_split}
use Rattle.ed_syntax.specs.meaning.States.{State, Past, Nothing, Same, Was, last}
use Rattle.ed_syntax.specs.meaning.Values.{◌>>◌, sought, searched, matches_line, line_at, lines_forward, lines_backward, base_number, within, value, evaluated, moved, values, used_pattern}
use Rattle.ed_syntax.specs.meaning.Ranges.{Span, span, spanned, first_of_two, last_of_two, not_before, ordered, single, whole}
use Rattle.ed_syntax.specs.meaning.Forms.{lines_written}
use Rattle.ed_syntax.specs.meaning.Effects as effect
use Rattle.ed_syntax.specs.meaning.Effects.{Outcome, Makes}
use Rattle.ed_syntax.specs.meaning.SubstitutedLines as substitution
use Rattle.ed_syntax.specs.meaning.SubstitutedLines.{Results, made_of, each, used_replacement, substitute}
use Rattle.ed_syntax.specs.meaning.Files.{used_path, saved, file_name, quit}
use Rattle.ed_syntax.specs.meaning.Globals.{flagged}
use Rattle.ed_syntax.specs.meaning.Applied.{placed, targeted, making, suffix_written}
use Rattle.ed_syntax.proofs.meaning.StepLemmas.{either}
use Rattle.ed_syntax.proofs.meaning.FaultSteps.{Meets, meets, meets-none, bind-meets, ok_or-meets}

-- a fault that a command may have of its own
abbrev pub is_own : Fault → Bool
is_own fault.Memory = false
is_own fault.Output = false
is_own fault.File = false
is_own _ = true

abbrev pub Own : Fault → Type 0
Own f = is_own f ≡ true

-- a step without a fault
pub fine : {A : Type 0} (x : A) → Meets Own (Ok x)
fine x = meets-none Own x

searched-own : (text : Option (List ℕ)) (order : List ℕ) (s : State) → Meets Own (searched text order s)
searched-own None order s = meets Own fault.Pattern refl
searched-own (Some text) order s = ok_or-meets Own (find (matches_line text s.lines) order) fault.NoMatch refl

line_at-own : (place : Option ℕ) → Meets Own (line_at place)
line_at-own None = meets Own fault.Mark refl
line_at-own (Some place) = fine (place + 1)

base-own : (base : Base) (s : State) → Meets Own (base_number base s)
base-own (ed.Number n) s = fine n
base-own ed.Current s = fine s.current
base-own ed.Last s = fine (last s)
base-own (ed.Marked letter) s = line_at-own (marked_place letter s.lines)
base-own (ed.Forward pattern) s = searched-own (sought pattern s) (lines_forward s) s
base-own (ed.Backward pattern) s = searched-own (sought pattern s) (lines_backward s) s

within-own : (s : State) (n : ℤ) → Meets Own (within s n)
within-own s (pos n) = either (Meets Own) (nat_le n (last s)) _ _ (λ inside. fine n) (λ outside. meets Own fault.Address refl)
within-own s (negsuc n) = meets Own fault.Address refl

value-own : (a : Address) (s : State) → Meets Own (value a s)
value-own a s = bind-meets Own (base_number a.base s) _ (base-own a.base s) (λ n. within-own s (pos n +ℤ a.offset))

values-own : (a : Addresses) (s : State) → Meets Own (values a s)
values-own ed.Without s = fine (s, [])
values-own (ed.One a) s = bind-meets Own (value a s) _ (value-own a s) (λ n. fine (evaluated a s, n ∷ []))
values-own (ed.Comma a b) s =
    bind-meets Own (value a s) _ (value-own a s) (λ n.
    bind-meets Own (value b (evaluated a s)) _ (value-own b (evaluated a s)) (λ m. fine (evaluated b (evaluated a s), n ∷ m ∷ [])))
values-own (ed.Semicolon a None) s = bind-meets Own (value a s) _ (value-own a s) (λ n. fine (moved n (evaluated a s), n ∷ n ∷ []))
values-own (ed.Semicolon a (Some b)) s =
    bind-meets Own (value a s) _ (value-own a s) (λ n.
    let t = moved n (evaluated a s) in
    bind-meets Own (value b t) _ (value-own b t) (λ m. fine (evaluated b t, n ∷ m ∷ [])))

targeted-own : (a : Option Address) (s : State) → Meets Own (targeted a s)
targeted-own None s = fine (s, 0)
targeted-own (Some a) s = bind-meets Own (value a s) _ (value-own a s) (λ n. fine (evaluated a s, n))

-- a span, or the fault of an address
spanned-if : (test : Bool) (x : Span) (other : Result Span Fault) → Meets Own other → Meets Own (elim test [ true ↦ Ok x | false ↦ other ])
spanned-if true x other is = fine x
spanned-if false x other is = is

ordered-own : (a b : ℕ) → Meets Own (ordered a b)
ordered-own a b =
    either (Meets Own) (nat_le 1 a) _ _ (λ some. spanned-if (nat_le a b) (span a b) (Err fault.Address) (meets Own fault.Address refl)) (λ none. meets Own fault.Address refl)

spanned-own : (t : Taking) (last : ℕ) (values : List ℕ) → Meets Own (spanned t last values)
spanned-own many.NoAddress last values = fine (span 0 0)
spanned-own many.Place last values = fine (span (last_of_two values) (last_of_two values))
spanned-own many.FirstPlace last values = fine (span (not_before (last_of_two values)) (not_before (last_of_two values)))
spanned-own many.OneLine last values = single-own (last_of_two values)
  where
    single-own : (n : ℕ) → Meets Own (single n)
    single-own zero = meets Own fault.Address refl
    single-own (suc n) = fine (span (suc n) (suc n))
spanned-own many.Lines last values =
    spanned-if (nat_le (first_of_two values) (last_of_two values) && nat_le (not_before (last_of_two values)) last) (span (not_before (first_of_two values)) (not_before (last_of_two values))) (Err fault.Address)
    (meets Own fault.Address refl)
spanned-own many.Range last values = ordered-own (first_of_two values) (last_of_two values)
spanned-own many.Whole last values = whole-own values
  where
    whole-own : (values : List ℕ) → Meets Own (whole last values)
    whole-own [] = fine (span 1 last)
    whole-own (a ∷ more) = ordered-own a (last_of_two (a ∷ more))

pub placed-own : (c : Command) (s : State) → Meets Own (placed c s)
placed-own c s =
    bind-meets Own (values (given_or c.addresses (takes c.verb).default) s) _ (values-own (given_or c.addresses (takes c.verb).default) s) (λ v.
    bind-meets Own (targeted (takes c.verb).target v.0) _ (targeted-own (takes c.verb).target v.0) (λ t.
    bind-meets Own (spanned (takes c.verb).taking (last s) v.1) _ (spanned-own (takes c.verb).taking (last s) v.1) (λ x. fine (record { state = t.0; span = x; target = t.1 }))))

pub move-own : (x : Span) (target : ℕ) (s : State) → Meets Own (effect.move x target s >> λ o. Ok (Makes o))
move-own x target s =
    either (λ (r : Result Outcome Fault). Meets Own (r >> λ o. Ok (Makes o))) (nat_le x.first target && nat_le target x.last) _ _
    (λ inside. meets Own fault.Destination refl) (λ outside. fine _)

used_replacement-own : (listed : Bool) (replacement : Option (List Part)) (s : State) → Meets Own (used_replacement listed replacement s)
used_replacement-own listed (Some parts) s = fine parts
used_replacement-own listed None s =
    bind-meets Own (ok_or s.replacement fault.Replacement) _ (ok_or-meets Own s.replacement fault.Replacement refl) (λ parts.
    either (Meets Own) (listed && list_any is_split parts) _ _ (λ split. meets Own fault.Replacement refl) (λ whole. fine parts))

made-own : (listed : Bool) (form : Option Form) (x : Span) (s : State) (results : Results) → Meets Own (substitution.made listed form x s results)
made-own true form x s (lines, None) = fine _
made-own false form x s (lines, None) = meets Own fault.NoMatch refl
made-own listed form x s (lines, Some n) = fine _

pub substitute-own : (listed : Bool) (pattern : Option (List ℕ)) (replacement : Option (List Part)) (which : Which) (form : Option Form) (x : Span) (s : State) →
    Meets Own (substitute listed pattern replacement which form x s)
substitute-own listed pattern replacement which form x s =
    bind-meets Own (used_replacement listed replacement s) _ (used_replacement-own listed replacement s) (λ parts.
    bind-meets Own (used_pattern pattern s) _ (ok_or-meets Own (sought pattern s) fault.Pattern refl) (λ text.
    made-own listed form x _ (each (made_of text parts which) (between x.first x.last s.lines))))

pub making-own : (r : Result Outcome Fault) → Meets Own r → Meets Own (making r)
making-own r own = bind-meets Own r _ own (λ o. fine (Makes o))

-- the used path, and that the buffer is saved
pub used_path-own : (path : Option (List ℕ)) (s : State) → Meets Own (used_path path s)
used_path-own (Some path) s = fine path
used_path-own None s = ok_or-meets Own s.name fault.Name refl

pub saved-own : (s : State) → Meets Own (saved s)
saved-own s = either (Meets Own) s.changed _ _ (λ changed. meets Own fault.Unsaved refl) (λ unchanged. fine s)

pub file_name-own : (path : Option (List ℕ)) (s : State) → Meets Own (file_name path s)
file_name-own path s = bind-meets Own (used_path path s) _ (used_path-own path s) (λ used. fine _)

pub quit-own : (s : State) → Meets Own (quit s)
quit-own s = bind-meets Own (saved s) _ (saved-own s) (λ t. fine _)

-- line 0 isn't written
written-own : {A : Type 0} (n : ℕ) (written : A) → Meets {A = A} Own (elim n [ zero ↦ Err fault.Address | suc k ↦ Ok written ])
written-own zero written = meets Own fault.Address refl
written-own (suc k) written = fine written

pub suffix-own : (suffix : Option Form) (s : State) → Meets Own (suffix_written suffix s)
suffix-own None s = fine []
suffix-own (Some form) s = written-own s.current (lines_written form s.current s.current s.lines)

-- a global command before its list, and undo
pub flagged-own : (which : Sense) (pattern : Option (List ℕ)) (x : Span) (s : State) → Meets Own (flagged which pattern x s)
flagged-own which pattern x s = bind-meets Own (used_pattern pattern s) _ (ok_or-meets Own (sought pattern s) fault.Pattern refl) (λ text. fine _)

pub undo-own : (past : Past) (s : State) → Meets Own (effect.undo past s)
undo-own Nothing s = meets Own fault.Undo refl
undo-own Same s = fine _
undo-own (Was before) s = fine _
