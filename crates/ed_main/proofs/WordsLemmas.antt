-- What words give, by what `clap` ensures of them.
use Rattle.std.proofs.Common.{◌≡◌, ◌≢◌, ◌⊎◌, ◌∙◌, ◌<◌, ◌≤◌, ◌^◌, ◌&&◌, ℕ, Bool, true, false, List, [], ◌∷◌, length, option_map, Option, Some, None, refl, sym, ap, ap₂, subst, inl, inr, arith, if◌then◌else◌, nat_lt, lt-ltb, ltb-true}
use Rattle.std.proofs.lemmas.Bool.{and_from, and_parts, leb-true}
use Rattle.std.specs.Char.{digit_value}
use Rattle.std.specs.List.{list_all}
use Rattle.std.specs.Str.Parse.{AllDigits, IsNumeral, digits_value, without_leading_plus}
use Rattle.std.specs.Box.{box_value}
use Rattle.clap.proofs.OnLiterals.{clap_on_literals}
use Rattle.clap.specs.Words.{App, IsAmong, Kinds, Row, Text, fault_of, is_simple, is_simple_and_free, matched_of, raw_values, rows_of, found_of, subcommand_name_of, subcommand_of, subcommand_rows, subcommand_rows_of}
use Rattle.clap.specs.declared.parser.matches.Found.{Found}
use Rattle.clap.proofs.WalkLemmas.{raw_values-rows}
use Rattle.std.specs.Prelude.{Box, unwrap_or}
use Rattle.clap.specs.declared.parser.matches.ArgMatches.{ArgMatches}
use Rattle.clap.specs.declared.parser.matches.ArgMatches.TheViews.{out-ArgMatches, out-SubCommand}
use Rattle.clap.specs.declared.parser.matches.SubCommand.{SubCommand}
use Rattle.clap.specs.declared.error.kind.ErrorKind.{ErrorKind}
use Rattle.clap.specs.declared.error.kind.ErrorKind.TheVariants as kind
use Rattle.ed_main.specs.declared.job.Job.{Job}
use Rattle.ed_main.specs.declared.words.WordsFault.{WordsFault}
use Rattle.ed_main.specs.declared.words.WordsFault.TheVariants as fault
use Rattle.ed_rules.specs.LineBounds.{is_few}
use Rattle.ed_main.specs.Subcommands.{program}
use Rattle.ed_main.specs.Words.{AreHadBy, AreHadIn, IsRequest, MayAsk, OnlyAsk, are_digits, lines_in, job_by_name, job_of, job_named, texts_in, unless_refused}

-- `clap` says of the program all that it says of simple commands
simple : is_simple program ≡ true
unfolding program clap_on_literals
simple = refl

simple_and_free : is_simple_and_free program ≡ true
unfolding program clap_on_literals
simple_and_free = refl

given : (words : List Text) (found : Option (Text × List Row)) → fault_of program words ≡ [] → subcommand_of program words ≡ found → job_of words ≡ job_named found
unfolding job_of
given words found none is = ap₂ (λ (kinds : Kinds) (f : Option (Text × List Row)). unless_refused kinds (job_named f)) none is

among : (kinds : Kinds) (k : ErrorKind) (found : Option Job) → IsAmong k kinds → unless_refused kinds found ≡ None
among [] k found h = absurd h
among (x ∷ xs) k found h = refl

refused : (words : List Text) (k : ErrorKind) → IsAmong k (fault_of program words) → job_of words ≡ None
unfolding job_of
refused words k h = among (fault_of program words) k (job_named (subcommand_of program words)) h

-- the job of words that were taken
pub given_by : (a : App) (words : List Text) (found : Option (Text × List Row)) (R : Type 0) → a ≡ program
    → (is_simple_and_free a ≡ true → fault_of a words ≡ []) → (is_simple a ≡ true → R × (found ≡ subcommand_of a words)) → job_of words ≡ job_named found
given_by a words found R e none is =
    given words found (ap (λ (b : App). fault_of b words) (sym e) ∙ none (ap is_simple_and_free e ∙ simple_and_free))
    (ap (λ (b : App). subcommand_of b words) (sym e) ∙ sym (is (ap is_simple e ∙ simple)).1)

-- the subcommand that was found is that of the words
pub found_by : (a : App) (words : List Text) (found : Option (Text × List Row)) (R : Type 0) → a ≡ program
    → (is_simple a ≡ true → R × (found ≡ subcommand_of a words)) → found ≡ subcommand_of program words
found_by a words found R e is = (is (ap is_simple e ∙ simple)).1 ∙ ap (λ (b : App). subcommand_of b words) e

refused_for : (words : List Text) (k : ErrorKind) (f : WordsFault) → (k ≡ kind.OutOfMemory) ⊎ IsAmong k (fault_of program words)
    → (k ≡ kind.OutOfMemory → f ≡ fault.Memory) → f ≢ fault.Memory → job_of words ≡ None
refused_for words k f (inl e) memory other = absurd (other (memory e))
refused_for words k f (inr h) memory other = refused words k h

-- words that were refused give none
pub refused_by : (a : App) (words : List Text) (k : ErrorKind) (f : WordsFault) → a ≡ program
    → (is_simple_and_free a ≡ true → (k ≡ kind.OutOfMemory) ⊎ IsAmong k (fault_of a words)) → (k ≡ kind.OutOfMemory → f ≡ fault.Memory) → f ≢ fault.Memory → job_of words ≡ None
refused_by a words k f e has memory other =
    refused_for words k f (subst (λ (b : App). (k ≡ kind.OutOfMemory) ⊎ IsAmong k (fault_of b words)) e (has (ap is_simple_and_free e ∙ simple_and_free))) memory other

-- what was asked for is among what `clap` found
asked_for : (words : List Text) (k : ErrorKind) → (k ≡ kind.OutOfMemory) ⊎ IsAmong k (fault_of program words) → IsRequest k → MayAsk words
asked_for words k (inl e) (inl h) = cc
asked_for words k (inl e) (inr v) = cc
asked_for words k (inr among) (inl h) = inl (subst (λ x. IsAmong x (fault_of program words)) h among)
asked_for words k (inr among) (inr v) = inr (subst (λ x. IsAmong x (fault_of program words)) v among)

pub asked_by : (a : App) (words : List Text) (k : ErrorKind) → a ≡ program
    → (is_simple_and_free a ≡ true → (k ≡ kind.OutOfMemory) ⊎ IsAmong k (fault_of a words)) → IsRequest k → MayAsk words
asked_by a words k e has is =
    asked_for words k (subst (λ (b : App). (k ≡ kind.OutOfMemory) ⊎ IsAmong k (fault_of b words)) e (has (ap is_simple_and_free e ∙ simple_and_free))) is

-- and where only requests are found, it is one, unless memory ran out
request_of : (words : List Text) (k : ErrorKind) (f : WordsFault) → (k ≡ kind.OutOfMemory) ⊎ IsAmong k (fault_of program words)
    → (k ≡ kind.OutOfMemory → f ≡ fault.Memory) → f ≢ fault.Memory → OnlyAsk words → IsRequest k
request_of words k f (inl e) memory other only = absurd (other (memory e))
request_of words k f (inr among) memory other only = only.1 k among

pub request_by : (a : App) (words : List Text) (k : ErrorKind) (f : WordsFault) → a ≡ program
    → (is_simple_and_free a ≡ true → (k ≡ kind.OutOfMemory) ⊎ IsAmong k (fault_of a words)) → (k ≡ kind.OutOfMemory → f ≡ fault.Memory) → f ≢ fault.Memory
    → OnlyAsk words → IsRequest k
request_by a words k f e has memory other only =
    request_of words k f (subst (λ (b : App). (k ≡ kind.OutOfMemory) ⊎ IsAmong k (fault_of b words)) e (has (ap is_simple_and_free e ∙ simple_and_free)))
    memory other only

-- where `clap` finds nothing, nothing is asked for
pub none_found : (a : App) (words : List Text) → a ≡ program → (is_simple_and_free a ≡ true → fault_of a words ≡ []) → fault_of program words ≡ []
none_found a words e none = ap (λ (b : App). fault_of b words) (sym e) ∙ none (ap is_simple_and_free e ∙ simple_and_free)

module _ {Z : Type 0} where
  named : (o : Option (Box SubCommand Z)) (name : Text) (rows : List Row) → option_map (λ b. (out-SubCommand (box_value b)).name.now) o ≡ Some name
      → option_map (λ p. p.1) (subcommand_rows o) ≡ Some rows → job_named (subcommand_rows o) ≡ job_by_name name rows
  named None name rows is found = cc
  named (Some b) name rows is found =
      let n : (out-SubCommand (box_value b)).name.now ≡ name = cc in
      let r : rows_of (found_of (out-SubCommand (box_value b)).matches) ≡ rows = cc in
      ap₂ (λ (t : Text) (rs : List Row). job_by_name t rs) n r

-- a subcommand gives the job of its name
pub is_named : (m : ArgMatches) (name : Text) (rows : List Row) → subcommand_name_of m ≡ Some name → option_map (λ p. p.1) (subcommand_rows_of m) ≡ Some rows
    → job_named (subcommand_rows_of m) ≡ job_by_name name rows
is_named m name rows is found = named (out-ArgMatches m).subcommand name rows is found

-- landmarks that a subcommand is given are those of its rows
pub had_by : (found : Option (Text × List Row)) (rows : List Row) → option_map (λ p. p.1) found ≡ Some rows → AreHadBy found → AreHadIn rows
had_by None rows is had = cc
had_by (Some p) rows is had = let same : p.1 ≡ rows = cc in subst AreHadIn same had

-- all values of an argument, by what was found
pub texts_found : (f : Found) (id : Text) (texts : Option (List Text)) → texts ≡ option_map raw_values (matched_of f id) → unwrap_or texts [] ≡ texts_in id (rows_of f)
texts_found f id texts is = ap (λ (o : Option (List Text)). unwrap_or o []) (is ∙ raw_values-rows f id)

digits_pass : (ds : List ℕ) → AllDigits 10 ds → list_all (λ d. nat_lt (digit_value d) 10) ds ≡ true
digits_pass [] h = refl
digits_pass (d ∷ ds) h = and_from _ _ (lt-ltb _ 10 h.0) (digits_pass ds h.1)

digits_from : (ds : List ℕ) → list_all (λ d. nat_lt (digit_value d) 10) ds ≡ true → AllDigits 10 ds
digits_from [] h = tt
digits_from (d ∷ ds) h = let both = and_parts (nat_lt (digit_value d) 10) _ h in (ltb-true _ 10 both.0, digits_from ds both.1)

-- digits that spell a number which has a place in memory
abbrev Spelled : Text → Type 0
Spelled text = IsNumeral 10 (without_leading_plus text) × (digits_value 10 (without_leading_plus text) < 2 ^ 64)

-- a number that `parse` reads, where it is few lines
pub lines_parsed : (text : Text) (n : ℕ) → Spelled text × (n ≡ digits_value 10 (without_leading_plus text)) → lines_in text ≡ (if is_few n then Some n else None)
lines_parsed text n h =
    let ds = without_leading_plus text in
    let digits : are_digits ds ≡ true = and_from _ _ (lt-ltb 0 (length ds) h.0.0.0) (digits_pass ds h.0.0.1) in
    rw (h.1, digits) refl

lines_none : (text : Text) (b : Bool) → (are_digits (without_leading_plus text) && is_few (digits_value 10 (without_leading_plus text))) ≡ b → (b ≡ true → ⊥) → lines_in text ≡ None
lines_none text true e other = absurd (other refl)
lines_none text false e other = rw e refl

few_fits : (n : ℕ) → is_few n ≡ true → n < 2 ^ 64
few_fits n h = let le : n ≤ 1000000000000 = leb-true _ _ h in omega arith

-- and a text that it doesn't read
pub lines_unparsed : (text : Text) → (Spelled text → ⊥) → lines_in text ≡ None
lines_unparsed text h =
    let ds = without_leading_plus text in
    lines_none text (are_digits ds && is_few (digits_value 10 ds)) refl (λ all.
    let outer = and_parts (are_digits ds) (is_few (digits_value 10 ds)) all in
    let inner = and_parts (nat_lt 0 (length ds)) _ outer.0 in
    h ((ltb-true 0 _ inner.0, digits_from ds inner.1), few_fits _ outer.1))
