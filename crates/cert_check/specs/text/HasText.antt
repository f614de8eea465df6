-- Which certificates have a text, and which bytes are the text of one.
use Rattle.std.specs.Prelude.{◌≡◌, ℕ, Bool, true, false, ◌&&◌, List, [], map, Option, Some, None, All}
use Rattle.ed_rules.specs.declared.known_matches.Matches.{Matches}
use Rattle.ed_rules.specs.declared.state.Old.{Old}
use Rattle.ed_rules.specs.declared.state.State.{State}
use Rattle.ed_rules.specs.Formed.{ChoiceIsBytes, TextsAreFormed, StateIsFormed}
use Rattle.ed_rules.specs.Texts.{are_rising}
use Rattle.ed_rules.specs.LineBounds.{is_few, is_limit, is_within}
use Rattle.cert_check.specs.declared.certificate.Version.{Version}
use Rattle.cert_check.specs.declared.certificate.Version.TheVariants.{One, Two, Three}
use Rattle.cert_check.specs.Certificates.{Looped, Note, Certificate}
use Rattle.landmarks.specs.ChainValues.{ChainValue}
use Rattle.landmarks.specs.Spelled.{SpellsChain}
use Rattle.cert_check.specs.text.Text.{text_of}
use Rattle.cert_check.specs.text.FactsText.{AreToldIn}

-- what some line matches, where the version says it: nothing in version 1
abbrev pub IsSaidIn : Version → (has : List (List ℕ)) → Type 0
IsSaidIn One has = has ≡ []
IsSaidIn Two has = TextsAreFormed has
IsSaidIn Three has = TextsAreFormed has

-- the same of an earlier buffer, where undo may bring one back
abbrev pub OldIsSaidIn : Version → Option Old → (has : List (List ℕ)) → Type 0
OldIsSaidIn version None has = has ≡ []
OldIsSaidIn version (Some old) has = IsSaidIn version has

-- what is known of matches
abbrev pub AreSaidIn : Version → Option Old → Matches → Type 0
AreSaidIn version was m = IsSaidIn version m.has × OldIsSaidIn version was m.old_has

-- what is told of single lines of an earlier buffer, beside its letters
abbrev pub OldIsToldIn : Version → Option Old → Type 0
OldIsToldIn version None = Unit {0}
OldIsToldIn version (Some old) = AreToldIn version old.marks old.facts

-- single lines are followed from version 3 on
abbrev pub does_follow : Version → Bool
does_follow One = false
does_follow Two = false
does_follow Three = true

-- a state that has a text
pub record StateHasText (version : Version) (s : State) : Type 0 where
  pub formed : StateIsFormed s
  pub matches : AreSaidIn version s.undo.was s.matches
  pub follows : s.follows ≡ does_follow version
  pub facts : AreToldIn version s.marks s.facts
  pub old_facts : OldIsToldIn version s.undo.was

-- a chain whose text is written: the text is bytes, and spells it
pub record ChainHasText (chain : ChainValue) : Type 0 where
  pub bytes : ChoiceIsBytes (Some chain.text)
  pub spelled : SpellsChain chain.text chain.landmarks

-- chains of landmarks are told from version 3 on
abbrev pub ChainsHaveText : Version → List ChainValue → Type 0
ChainsHaveText One chains = chains ≡ []
ChainsHaveText Two chains = chains ≡ []
ChainsHaveText Three chains = All ChainHasText chains

abbrev pub LoopedHasText : Version → Option Looped → Type 0
LoopedHasText version None = Unit {0}
LoopedHasText version (Some l) = StateHasText version l.invariant × All (StateHasText version) l.inner

abbrev pub NoteHasText : Version → Note → Type 0
NoteHasText version n = StateHasText version n.state × LoopedHasText version n.looped

-- a certificate that has a text
pub record HasText (c : Certificate) : Type 0 where
  pub path : ChoiceIsBytes c.path
  pub start : (is_few c.min && is_limit c.max && is_within c.min c.max) ≡ true
  pub has : IsSaidIn c.version c.has
  pub landmarks : ChainsHaveText c.version c.landmarks
  pub notes : All (NoteHasText c.version) c.notes
  pub last : StateHasText c.version c.last
  pub final : (is_few c.low && is_limit c.high) ≡ true
  pub bytes : All ChoiceIsBytes (map (λ path. Some path) c.writes)
  pub rising : are_rising c.writes ≡ true

-- these bytes are the text of the certificate
abbrev pub IsText : List ℕ → Certificate → Type 0
IsText bytes c = HasText c × (text_of c ≡ bytes)
