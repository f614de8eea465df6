-- What holds of each line, whatever a command makes of them: a property of single lines goes through each shape of an effect.
use Rattle.std.proofs.Common.{◌≡◌, inl, inr, ℕ, Bool, true, false, List, [], ◌∷◌, ◌++◌, map, take, drop, length, get_or, Option, Some, None, refl, sym, subst, ◌≢◌}
use Rattle.std.specs.Prelude.{All}
use Rattle.std.proofs.lemmas.Bool.{cases_lt}
use Rattle.std.proofs.lemmas.List.{get_or_past}
use Rattle.std.proofs.lemmas.List.Elements.{All-nil, All-cons, All-head, All-tail, All-append, All-take, All-drop, All-set, All-get_or}
use Rattle.ed_base.specs.Buffer.{Line, plain_line, with_flag, with_letter, marked_at}
use Rattle.ed_base.specs.Lines.{newline, IsLine, AreLines}
use Rattle.ed_base.specs.Parts.{block, exchanged, carried}
use Rattle.ed_syntax.specs.declared.command.Sense.{Sense}
use Rattle.ed_syntax.specs.Commands as ed
use Rattle.ed_syntax.specs.Commands.{Verb}
use Rattle.ed_syntax.specs.spelling.Readable.{enters_lines}
use Rattle.ed_syntax.specs.meaning.SubstitutedLines.{made_of, Results, onto, each}
use Rattle.ed_syntax.specs.meaning.Globals.{flagged_line}
use Rattle.ed_syntax.specs.meaning.CommandLaws.{AreWhole}
use Rattle.ed_syntax.proofs.meaning.WholeLemmas.{made-lines}
use Rattle.ed_syntax.proofs.meaning.Reshaping.{Reshaped, stay, exchange, carry, substitute, mark, flag}
pub use Rattle.ed_syntax.proofs.meaning.Reshaping.{Uses}

-- a property that a command keeps of each line: the lines that it enters have it, and those that come of others or of a file; letters
-- don't matter to it, a line loses no more than its flag, and what a global command flags has it
pub record IsKeptOfEach (verb : Verb) (P : Line → Type 0) : Type 0 where
  pub plain : (bytes : List ℕ) → IsLine bytes → P (plain_line bytes)
  pub entered : (xs : List Line) (texts : List (List ℕ)) → (enters_lines verb ≡ true → AreWhole xs → AreLines texts) → All P xs →
      All P (map plain_line texts)
  pub lettered : (letter : ℕ) (marks : Bool) (line : Line) → P line → P (with_letter letter marks line)
  pub unflagged : (line : Line) → P line → P (with_flag false line)
  pub flagged : (which : Sense) (own : Option (List ℕ)) (text : List ℕ) → verb ≡ ed.Global which own → Uses own text → (line : Line) →
      P line → P (flagged_line which text line)

module _ (P : Line → Type 0) where
  all-exchanged : (a b : ℕ) (new xs : List Line) → All P new → All P xs → All P (exchanged a b new xs)
  all-exchanged a b new xs n h = All-append P (take a xs) (new ++ drop b xs) (All-take P a xs h) (All-append P new (drop b xs) n (All-drop P b xs h))

  all-block : (a b : ℕ) (xs : List Line) → All P xs → All P (block a b xs)
  all-block a b xs h = All-drop P a (take b xs) (All-take P b xs h)

  all-carried : (a b place : ℕ) (xs : List Line) → All P xs → All P (carried a b place xs)
  all-carried a b place xs h =
      all-exchanged place place (block a b xs) (exchanged a b [] xs) (all-block a b xs h) (all-exchanged a b [] xs (All-nil P) h)

  pub all-mapped : (f : Line → Line) → ((line : Line) → P line → P (f line)) → (xs : List Line) → All P xs → All P (map f xs)
  all-mapped f keeps [] h = All-nil P
  all-mapped f keeps (line ∷ xs) h = All-cons P (f line) (map f xs) (keeps line (All-head P line xs h)) (all-mapped f keeps xs (All-tail P line xs h))

  pub all-plain : ((bytes : List ℕ) → IsLine bytes → P (plain_line bytes)) → (texts : List (List ℕ)) → AreLines texts → All P (map plain_line texts)
  all-plain plain [] h = All-nil P
  all-plain plain (text ∷ texts) h =
      All-cons P (plain_line text) (map plain_line texts) (plain text (All-head IsLine text texts h)) (all-plain plain texts (All-tail IsLine text texts h))

  pub all-marked_at : ((letter : ℕ) (marks : Bool) (line : Line) → P line → P (with_letter letter marks line)) → P (plain_line []) →
      (place letter : ℕ) (xs : List Line) → All P xs → All P (marked_at place letter xs)
  all-marked_at lettered empty place letter xs h =
      let others : List Line = map (with_letter letter false) xs in
      let o : All P others = all-mapped (with_letter letter false) (lettered letter false) xs h in
      let bare : Line = plain_line [] in
      let one : P (get_or others place bare) = elim (cases_lt place (length others)) [
        | inl l ↦ All-get_or P others place bare l o
        | inr l ↦ subst (λ (line : Line). P line) (sym (get_or_past others place bare l)) empty
      ] in
      All-set P others place (with_letter letter true (get_or others place bare)) (lettered letter true (get_or others place bare) one) o

module _ (verb : Verb) (P : Line → Type 0) (k : IsKeptOfEach verb P) where
  module _ (f : List ℕ → Option (List (List ℕ))) (lines : (line : List ℕ) (made : List (List ℕ)) → f line ≡ Some made → AreLines made) where
    all-onto : (line : Line) (made : Option (List (List ℕ))) (later : Results) → ((ls : List (List ℕ)) → made ≡ Some ls → AreLines ls) →
        P line → All P later.0 → All P (onto line made later).0
    all-onto line None later h one others = All-cons P line later.0 one others
    all-onto line (Some ls) later h one others = All-append P (map plain_line ls) later.0 (all-plain P k.plain ls (h ls refl)) others

    all-each : (xs : List Line) → All P xs → All P (each f xs).0
    all-each [] h = h
    all-each (line ∷ xs) h = all-onto line (f line.bytes) (each f xs) (lines line.bytes) (All-head P line xs h) (all-each xs (All-tail P line xs h))

  pub all-reshaped : (xs ys : List Line) → Reshaped verb xs ys → All P xs → All P ys
  all-reshaped xs _ stay h = h
  all-reshaped xs _ (exchange a b texts le lines) h = all-exchanged P a b (map plain_line texts) xs (k.entered xs texts lines h) h
  all-reshaped xs _ (carry a b place le) h = all-carried P a b place xs h
  all-reshaped xs _ (substitute a b text parts which le) h =
      let f = made_of text parts which in
      all-exchanged P a b (each f (block a b xs)).0 xs (all-each f (made-lines text parts which) (block a b xs) (all-block P a b xs h)) h
  all-reshaped xs _ (mark place letter) h = all-marked_at P k.lettered (k.plain [] (All-nil (λ byte. byte ≢ newline))) place letter xs h
  all-reshaped xs _ (flag a b which own text le is uses) h =
      let f = flagged_line which text in
      all-exchanged P a b (map f (block a b xs)) xs (all-mapped P f (k.flagged which own text is uses) (block a b xs) (all-block P a b xs h)) h
