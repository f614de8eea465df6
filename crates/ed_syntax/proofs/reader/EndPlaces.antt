-- Where parts that were read end.
use Rattle.std.proofs.Common.{◌≡◌, ◌≢◌, ℕ, ◌-◌, ◌≤◌, List, length, drop, Some, None, sym, ap, subst, ◌∙◌, arith}
use Rattle.std.proofs.lemmas.List.{length-append, drop_at}
use Rattle.ed_syntax.specs.Commands.{Addresses}
use Rattle.ed_syntax.specs.Ends.{AddressesEnd, NoAddresses, PatternEnds, NoQuoted}
use Rattle.ed_syntax.specs.spelling.Characters.{backslash}
use Rattle.ed_syntax.specs.spelling.Addressing.{SpellsAddresses}
use Rattle.ed_syntax.specs.spelling.Quoting.{SpellsQuoted}
use Rattle.ed_syntax.specs.reading.Tokens.{addresses, quoted}
use Rattle.ed_syntax.proofs.meaning.StepLemmas.{none_some}
use Rattle.ed_syntax.proofs.reader.AddressesLemmas.{addresses-sound, addresses-complete}
use Rattle.ed_syntax.proofs.reader.EndLemmas.{End, addresses-end, quoted-end}
use Rattle.ed_syntax.proofs.reader.QuotingLemmas.{quoted-sound, quoted-complete}

-- the end of a text isn't longer
pub end-short : {whole end : List ℕ} → End whole end → length end ≤ length whole
end-short {whole} {end} e = omega (arith, ap length e.1, length-append e.0 end)

-- and begins after as many bytes as it lacks
pub end-at : {whole end : List ℕ} → End whole end → drop (length whole - length end) whole ≡ end
end-at {whole} {end} e =
    let size : length whole - length end ≡ length e.0 = omega (arith, ap length e.1, length-append e.0 end) in
    ap (λ bytes. drop (length whole - length end) bytes) e.1 ∙ drop_at e.0 end (length whole - length end) (sym size)

pub addresses-short : (line rest : List ℕ) (given : Addresses) → addresses line ≡ Some (given, rest) → length rest ≤ length line
addresses-short line rest given is = end-short (addresses-end (addresses-sound line (given, rest) is))

pub addresses-place : (line rest : List ℕ) (given : Addresses) → addresses line ≡ Some (given, rest) → AddressesEnd line (length line - length rest)
addresses-place line rest given is =
    let spells = addresses-sound line (given, rest) is in
    (omega arith, (given, subst (λ r. SpellsAddresses line r given) (sym (end-at (addresses-end spells))) spells))

pub no_addresses : (line : List ℕ) → addresses line ≡ None → NoAddresses line
no_addresses line unread = λ rest given spelled. none_some (sym unread ∙ addresses-complete spelled)

pub quoted-short : (delimiter : ℕ) (bytes rest text : List ℕ) → quoted (length bytes) delimiter bytes ≡ Some (text, rest) → length rest ≤ length bytes
quoted-short delimiter bytes rest text is = end-short (quoted-end delimiter (quoted-sound (length bytes) delimiter bytes (omega arith) (text, rest) is))

pub quoted-place : (delimiter : ℕ) (bytes rest text : List ℕ) → quoted (length bytes) delimiter bytes ≡ Some (text, rest) →
    PatternEnds delimiter bytes (length bytes - length rest)
quoted-place delimiter bytes rest text is =
    let spells = quoted-sound (length bytes) delimiter bytes (omega arith) (text, rest) is in
    (omega arith, (text, subst (λ r. SpellsQuoted delimiter bytes r text) (sym (end-at (quoted-end delimiter spells))) spells))

pub no_quoted : (delimiter : ℕ) (bytes : List ℕ) → quoted (length bytes) delimiter bytes ≡ None → delimiter ≢ backslash → NoQuoted delimiter bytes
no_quoted delimiter bytes unread plain = λ rest text spelled. none_some (sym unread ∙ quoted-complete delimiter spelled plain (length bytes) (omega arith))
