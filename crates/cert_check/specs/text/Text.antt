-- The text of a certificate: lines, each ended by a newline, of words with one space between them.
use Rattle.std.specs.Prelude.{ℕ, suc, ◌+◌, ◌-◌, ◌/◌, ◌%◌, ◌==◌, ℤ, Bool, true, false, ◌&&◌, not, List, [], ◌∷◌, ◌++◌, map, Option, Some, None, is_some, nat_lt, codes, decimal, if◌then◌else◌}
use Rattle.std.specs.Fmt.{signed_decimal}
use Rattle.std.specs.List.{flat_map}
use Rattle.ed_base.specs.Lines.{bytes_of}
use Rattle.zones.specs.Name as name
use Rattle.zones.specs.Name.{current_line, last_line}
use Rattle.zones.specs.Zone.{Bounds}
use Rattle.ed_rules.specs.declared.state.Old.{Old}
use Rattle.ed_rules.specs.declared.state.Replacements.{Replacements}
use Rattle.ed_rules.specs.declared.state.Changed.{Changed}
use Rattle.ed_rules.specs.declared.state.Undo.{Undo}
use Rattle.ed_rules.specs.declared.state.State.{State}
use Rattle.ed_rules.specs.Choices.{Choice}
use Rattle.ed_rules.specs.Formed.{says_nothing}
use Rattle.ed_rules.specs.facts.Facts.{LineFact, Stretch, Facts, end}
use Rattle.landmarks.specs.ChainValues.{ChainValue}
use Rattle.cert_check.specs.declared.certificate.Version.{Version}
use Rattle.cert_check.specs.declared.certificate.Version.TheVariants.{One, Two, Three}
use Rattle.cert_check.specs.Certificates.{Looped, Note, Certificate}

-- A word is some bytes, and a line its words. Those of a certificate have no space or newline in them.
abbrev pub Word : Type 0
Word = List ℕ

abbrev pub Line : Type 0
Line = List Word

abbrev pub space : ℕ
space = 32

abbrev pub percent_sign : ℕ
percent_sign = 37

abbrev pub letter_a : ℕ
letter_a = 97

-- words, each after a space
abbrev pub spaced : List Word → List ℕ
spaced words = flat_map (λ word. space ∷ word) words

-- the bytes of a line
abbrev pub line_text : Line → List ℕ
line_text [] = []
line_text (first ∷ later) = first ++ spaced later

-- lines, each ended by a newline
abbrev pub lines_text : List Line → List ℕ
lines_text lines = bytes_of (map line_text lines)

-- A name: `0`, `.`, `$`, or the letter of the line that it marks. The addresses of one command, the names 3 to 5, have none: of them a
-- zone that is written down says nothing.
abbrev pub name_word : (place : ℕ) → Word
name_word place =
    if place == name.zero then codes "0" else if place == current_line then codes "." else if place == last_line then codes "$"
    else (letter_a + (place - 6)) ∷ []

-- what a zone says of x - y: at most how much it is; left out where it says nothing
abbrev pub bound_words : (x y : ℕ) → Option ℤ → List Word
bound_words x y None = []
bound_words x y (Some c) =
    if says_nothing x y c then [] else (name_word x ++ codes "-" ++ name_word y ++ codes "<=" ++ signed_decimal c) ∷ []

-- the same of all pairs from a place on
abbrev pub bounds_words : (place : ℕ) → Bounds → List Word
bounds_words place [] = []
bounds_words place (b ∷ bounds) = bound_words (place / 32) (place % 32) b ++ bounds_words (suc place) bounds

-- the sure letters, from a letter on
abbrev pub sure_letters : (letter : ℕ) → List Bool → List ℕ
sure_letters letter [] = []
sure_letters letter (true ∷ marks) = letter ∷ sure_letters (suc letter) marks
sure_letters letter (false ∷ marks) = sure_letters (suc letter) marks

-- letters are one word; without letters there is none
abbrev pub letters_words : List ℕ → List Word
letters_words [] = []
letters_words (letter ∷ letters) = (letter ∷ letters) ∷ []

-- a hexadecimal digit, from `0` to `9` and `a` to `f`
abbrev pub hexadecimal : ℕ → ℕ
hexadecimal digit = if nat_lt digit 10 then 48 + digit else 87 + digit

-- printing characters but the percent sign and the space stand for themselves
abbrev pub is_itself : (byte : ℕ) → Bool
is_itself byte = nat_lt space byte && nat_lt byte 127 && not (byte == percent_sign)

-- a byte of a text or path: itself, or a percent sign and two digits
abbrev pub byte_text : (byte : ℕ) → List ℕ
byte_text byte = if is_itself byte then byte ∷ [] else percent_sign ∷ hexadecimal (byte / 16) ∷ hexadecimal (byte % 16) ∷ []

-- none, or an equals sign and a text or path
abbrev pub choice_word : Choice → Word
choice_word None = codes "-"
choice_word (Some bytes) = codes "=" ++ flat_map byte_text bytes

-- a word for what is possible
abbrev pub possible : Bool → Word → List Word
possible true word = word ∷ []
possible false word = []

-- a limit on lines, or that there is none
abbrev pub limit_word : Option ℕ → Word
limit_word None = codes "any"
limit_word (Some n) = decimal n

abbrev pub zone_line : (key : Word) → Bounds → Line
zone_line key zone = key ∷ bounds_words 0 zone

abbrev pub marks_line : (key : Word) → List Bool → Line
marks_line key marks = key ∷ letters_words (sure_letters letter_a marks)

abbrev pub choices_line : (key : Word) → List Choice → Line
choices_line key choices = key ∷ map choice_word choices

abbrev pub replacements_line : Replacements → Line
replacements_line r = codes "replacements" ∷ possible r.none (codes "none") ++ possible r.plain (codes "plain") ++ possible r.split (codes "split")

abbrev pub changed_line : Changed → Line
changed_line c = codes "changed" ∷ possible c.no (codes "no") ++ possible c.yes (codes "yes")

abbrev pub undo_line : Undo → Line
undo_line u = codes "undo" ∷ possible u.nothing (codes "nothing") ++ possible u.same (codes "same") ++ possible (is_some u.was) (codes "was")

-- a set of texts, as choices that aren't none
abbrev pub texts_line : (key : Word) → List (List ℕ) → Line
texts_line key texts = choices_line key (map Some texts)

-- a name of a stretch: that of a line, or the end
abbrev pub edge_word : (place : ℕ) → Word
edge_word place = if place == end then codes "$+" else name_word place

-- `+` for a line that matches, `-` for one that doesn't
abbrev pub answer_word : Bool → Word
answer_word true = codes "+"
answer_word false = codes "-"

-- what is known of a line: its name, the sign, and the pattern as in other lines
abbrev pub fact_word : LineFact → Word
fact_word f = name_word f.name ++ answer_word f.matches ++ choice_word (Some f.pattern)

-- between which names no line matches, and what
abbrev pub stretch_word : Stretch → Word
stretch_word s = edge_word s.after ++ codes "-" ++ edge_word s.before ++ choice_word (Some s.pattern)

abbrev pub known_line : (key : Word) → List LineFact → Line
known_line key facts = key ∷ map fact_word facts

abbrev pub clear_line : (key : Word) → List Stretch → Line
clear_line key stretches = key ∷ map stretch_word stretches

-- the two lines of facts
abbrev pub facts_lines : Facts → List Line
facts_lines facts = known_line (codes "lines") facts.lines ∷ clear_line (codes "clear") facts.clear ∷ []

-- and of those of an earlier buffer
abbrev pub old_facts_lines : Facts → List Line
old_facts_lines facts = known_line (codes "old-lines") facts.lines ∷ clear_line (codes "old-clear") facts.clear ∷ []

-- what some line matches is said from version 2 on
abbrev pub matched_lines : Version → (key : Word) → List (List ℕ) → List Line
matched_lines One key texts = []
matched_lines Two key texts = texts_line key texts ∷ []
matched_lines Three key texts = texts_line key texts ∷ []

-- what is known of single lines is said in version 3 alone
abbrev pub told_lines : Version → (known_key clear_key : Word) → Facts → List Line
told_lines One known_key clear_key facts = []
told_lines Two known_key clear_key facts = []
told_lines Three known_key clear_key facts = known_line known_key facts.lines ∷ clear_line clear_key facts.clear ∷ []

-- the words with which the lines on a buffer begin
pub record BufferKeys : Type 0 where
  pub zone : Word
  pub marks : Word
  pub has : Word
  pub lines : Word
  pub clear : Word

-- those of a state's buffer
abbrev pub own_keys : BufferKeys
own_keys = record { zone = codes "zone"; marks = codes "marks"; has = codes "has"; lines = codes "lines"; clear = codes "clear" }

-- and those of an earlier one
abbrev pub earlier_keys : BufferKeys
earlier_keys = record {
  zone = codes "old-zone";
  marks = codes "old-marks";
  has = codes "old-has";
  lines = codes "old-lines";
  clear = codes "old-clear";
}

-- what is known of a buffer, with what some line of it matches
abbrev pub buffer_lines : Version → BufferKeys → Old × List (List ℕ) → List Line
buffer_lines version keys buffer =
    zone_line keys.zone buffer.0.zone ∷ marks_line keys.marks buffer.0.marks ∷
    (matched_lines version keys.has buffer.1 ++ told_lines version keys.lines keys.clear buffer.0.facts)

-- an earlier buffer that undo may bring back, where there is one
abbrev pub old_lines : Version → Option Old → (has : List (List ℕ)) → List Line
old_lines version None has = []
old_lines version (Some old) has = buffer_lines version earlier_keys (old, has)

-- that of a state
abbrev pub earlier_lines : Version → State → List Line
earlier_lines version s = old_lines version s.undo.was s.matches.old_has

-- a state's own buffer
abbrev pub buffer_of : State → Old × List (List ℕ)
buffer_of s = (record { zone = s.zone; marks = s.marks; facts = s.facts }, s.matches.has)

-- what is known at one point of a script
abbrev pub state_lines : Version → State → List Line
state_lines version s =
    buffer_lines version own_keys (buffer_of s)
    ++ choices_line (codes "patterns") s.patterns ∷ replacements_line s.replacements ∷ choices_line (codes "names") s.names
    ∷ changed_line s.changed ∷ undo_line s.undo ∷ earlier_lines version s

-- the same after a line of one word
abbrev pub headed_lines : Version → (head : Word) → State → List Line
headed_lines version head s = (head ∷ []) ∷ state_lines version s

abbrev pub looped_lines : Version → Option Looped → List Line
looped_lines version None = []
looped_lines version (Some l) =
    headed_lines version (codes "loop") l.invariant ++ flat_map (headed_lines version (codes "inner")) l.inner ++ (codes "done" ∷ []) ∷ []

abbrev pub note_lines : Version → Note → List Line
note_lines version n = headed_lines version (codes "note") n.state ++ looped_lines version n.looped

abbrev pub version_line : Version → Line
version_line One = codes "ed-certificate" ∷ codes "1" ∷ []
version_line Two = codes "ed-certificate" ∷ codes "2" ∷ []
version_line Three = codes "ed-certificate" ∷ codes "3" ∷ []

abbrev pub path_line : Choice → Line
path_line path = codes "path" ∷ choice_word path ∷ []

abbrev pub bounds_line : (key : Word) → (low : ℕ) → (high : Option ℕ) → Line
bounds_line key low high = key ∷ decimal low ∷ limit_word high ∷ []

-- chains of landmarks, by the texts that spell them
abbrev pub chains_line : List ChainValue → Line
chains_line chains = texts_line (codes "at") (map (λ chain. chain.text) chains)

-- they are said in version 3 alone
abbrev pub chains_lines : Version → List ChainValue → List Line
chains_lines One chains = []
chains_lines Two chains = []
chains_lines Three chains = chains_line chains ∷ []

-- the lines before and after the notes
abbrev pub opening_lines : Certificate → List Line
opening_lines c =
    version_line c.version ∷ path_line c.path ∷ bounds_line (codes "start") c.min c.max ∷
    (matched_lines c.version (codes "has") c.has ++ chains_lines c.version c.landmarks)

abbrev pub closing_lines : Certificate → List Line
closing_lines c =
    headed_lines c.version (codes "end") c.last ++ bounds_line (codes "final") c.low c.high ∷ texts_line (codes "writes") c.writes ∷ []

-- the text of a certificate
unfoldable pub text_of : Certificate → List ℕ
text_of c = lines_text (opening_lines c ++ flat_map (note_lines c.version) c.notes ++ closing_lines c)
