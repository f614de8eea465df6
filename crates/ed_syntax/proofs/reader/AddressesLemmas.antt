-- The addresses before a command: what is read is spelled so, and what is spelled so is read.
use Rattle.std.proofs.Common.{◌≡◌, ℕ, true, nat_eq, List, [], ◌∷◌, Option, Some, refl, ap, ◌∙◌, subst}
use Rattle.std.specs.Prelude.{IsFalse}
use Rattle.std.proofs.lemmas.Bool.{eqb-true, or_from, or_parts}
use Rattle.ed_syntax.specs.spelling.Characters.{comma_byte, semicolon_byte, is_separator, begins, after_blanks}
use Rattle.ed_syntax.specs.Commands.{Address, Addresses}
use Rattle.ed_syntax.specs.spelling.Addressing.{alone, comma, semicolon, SpellsAddress, SpellsAddresses}
use Rattle.ed_syntax.specs.reading.Tokens.{Parsed, ◌>>=◌, address, pair, addresses}
use Rattle.ed_syntax.proofs.meaning.StepLemmas.{Some-same, bind-some, either}
use Rattle.ed_syntax.proofs.reader.AddressLemmas.{address-sound, address-complete}

-- addresses that are read are spelled so
abbrev AddressesRead : List ℕ → Parsed Addresses → Type 0
AddressesRead text read = (r : Addresses × List ℕ) → read ≡ Some r → SpellsAddresses text r.1 r.0

-- one address, or none
alone-sound : (text more left : List ℕ) (a : Option Address) → SpellsAddress (after_blanks text) more a → after_blanks more ≡ left → IsFalse (begins is_separator left) → AddressesRead text (Some (alone a, left))
alone-sound text more left a first same none r is =
    let here : SpellsAddresses text (after_blanks more) (alone a) = SpellsAddresses.single text more a first (ap (begins is_separator) same ∙ none) in
    subst (λ (r : Addresses × List ℕ). SpellsAddresses text r.1 r.0) (Some-same (alone a, left) r is) (subst (λ left. SpellsAddresses text left (alone a)) same here)

-- the second address of a pair
second-sound : (text others : List ℕ) (both : Option Address → Addresses) →
    ((rest : List ℕ) (b : Option Address) → SpellsAddress (after_blanks others) rest b → SpellsAddresses text (after_blanks rest) (both b)) →
    AddressesRead text (address (after_blanks others) >>= λ r. Some (both r.0, after_blanks r.1))
second-sound text others both spells r is =
    let b = bind-some (address (after_blanks others)) (λ r. Some (both r.0, after_blanks r.1)) r is in
    subst (λ (r : Addresses × List ℕ). SpellsAddresses text r.1 r.0) (Some-same (both b.0.0, after_blanks b.0.1) r b.2)
    (spells b.0.1 b.0.0 (address-sound (after_blanks others) b.0 b.1))

-- a byte after blanks
known_byte : (more bs : List ℕ) (b code : ℕ) → after_blanks more ≡ b ∷ bs → nat_eq b code ≡ true → after_blanks more ≡ code ∷ bs
known_byte more bs b code same is = same ∙ ap (λ b. b ∷ bs) (eqb-true b code is)

pair-sound : (text more left : List ℕ) (a : Option Address) → SpellsAddress (after_blanks text) more a → after_blanks more ≡ left → AddressesRead text (pair a left)
pair-sound text more [] a first same = alone-sound text more [] a first same refl
pair-sound text more (b ∷ bs) a first same =
    let P = AddressesRead text in
    either P (nat_eq b comma_byte) _ _
    (λ is. second-sound text bs (comma a) (λ rest c second. SpellsAddresses.comma_pair text more bs rest a c first (known_byte more bs b comma_byte same is) second))
    (λ no_comma. either P (nat_eq b semicolon_byte) _ _
    (λ is. second-sound text bs (semicolon a) (λ rest c second. SpellsAddresses.semicolon_pair text more bs rest a c first (known_byte more bs b semicolon_byte same is) second))
    (λ no_semicolon. alone-sound text more (b ∷ bs) a first same (or_from (nat_eq b comma_byte) (nat_eq b semicolon_byte) no_comma no_semicolon)))

pub addresses-sound : (text : List ℕ) (r : Addresses × List ℕ) → addresses text ≡ Some r → SpellsAddresses text r.1 r.0
addresses-sound text r is =
    let a = bind-some (address (after_blanks text)) (λ a. pair a.0 (after_blanks a.1)) r is in
    pair-sound text a.0.1 (after_blanks a.0.1) a.0.0 (address-sound (after_blanks text) a.0 a.1) refl r a.2

pair-alone : (a : Option Address) (left : List ℕ) → IsFalse (begins is_separator left) → pair a left ≡ Some (alone a, left)
pair-alone a [] none = refl
pair-alone a (b ∷ bs) none =
    let signs = or_parts (nat_eq b comma_byte) (nat_eq b semicolon_byte) none in
    rw (signs.0, signs.1, pair) refl

-- what is read after the first address
after_first : (text more : List ℕ) (a : Option Address) → SpellsAddress (after_blanks text) more a → addresses text ≡ pair a (after_blanks more)
after_first text more a first = ap (λ (o : Parsed (Option Address)). o >>= λ a. pair a.0 (after_blanks a.1)) (address-complete first)

-- addresses that are spelled so are read
pub addresses-complete : {text rest : List ℕ} {given : Addresses} → SpellsAddresses text rest given → addresses text ≡ Some (given, rest)
addresses-complete (SpellsAddresses.single text rest a first none) = after_first text rest a first ∙ pair-alone a (after_blanks rest) none
addresses-complete (SpellsAddresses.comma_pair text more others rest a b first same second) =
    after_first text more a first ∙ ap (pair a) same
    ∙ ap (λ (o : Parsed (Option Address)). o >>= λ r. Some (comma a r.0, after_blanks r.1)) (address-complete second)
addresses-complete (SpellsAddresses.semicolon_pair text more others rest a b first same second) =
    after_first text more a first ∙ ap (pair a) same
    ∙ ap (λ (o : Parsed (Option Address)). o >>= λ r. Some (semicolon a r.0, after_blanks r.1)) (address-complete second)
