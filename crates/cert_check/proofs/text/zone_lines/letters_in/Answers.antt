use Rattle.std.proofs.Common.{Some, set, ◌≡◌, ◌+◌, ◌++◌, ◌∷◌, [], ℕ, Bool, true, false, List, length, get_or, arith, ◌∙◌, sym, ap, append_assoc}
use Rattle.std.proofs.lemmas.List.{length-set}
use Rattle.ed_rules.proofs.sound.LettersInLines.{no_letter}
use Rattle.cert_check.specs.text.Text.{sure_letters}
use Rattle.cert_check.proofs.texts.ReadLetters.{letter-added, unsure-later, letter-taken, letter-kept, letter-byte}
use Rattle.cert_check.proofs.text.zone_lines.letters_in.Goals as goal

pub loop-place-init : goal.loop-place-init
loop-place-init c =
    let is = c.none-marks.ensures.value in
    record {
      size = ap (λ (m : List Bool). length m) is;
      read = ap (λ (m : List Bool). sure_letters 97 m ++ c.args.word.now) is;
      unsure = λ k l. ap (λ (m : List Bool). get_or m k false) is ∙ no_letter 26 k;
      other = λ m s e. e;
    }

pub loop-place-preserved-in_default : goal.loop-place-preserved-in_default
loop-place-preserved-in_default c =
    let before = c.loop-place.invariant in
    let place = c.loop-place.place in
    let byte : c.byte.result ≡ 97 + place =
    letter-byte c.byte.result place (c.byte.ensures.value ∙ ap (λ (l : ℕ). Some l) c.at-letter.ensures.value) in
    record {
      size = before.size;
      read = before.read;
      unsure = λ k l. before.unsure k (omega arith);
      other = λ m s e. letter-kept m place c.loop-place.left.now (omega arith)
          (λ later is. c.in_default.ensures.cases later (is ∙ ap (λ (b : ℕ). b ∷ later) (sym byte))) (before.other m s e);
    }

pub loop-place-preserved : goal.loop-place-preserved
loop-place-preserved c =
    let before = c.loop-place.invariant in
    let letter = c.loop-place.place in
    let marks = c.loop-place.marks in
    let later = c.in-Some.later.now in
    let byte : c.byte.result ≡ 97 + letter =
    letter-byte c.byte.result letter (c.byte.ensures.value ∙ ap (λ (l : ℕ). Some l) c.at-letter.ensures.value) in
    let left : c.loop-place.left.now ≡ (97 + letter) ∷ later = c.in-Some.ensures.cases ∙ ap (λ (b : ℕ). b ∷ later) byte in
    let is : c.add.new.self ≡ set marks letter true = c.add.ensures.value
    ∙ ap (λ (l : ℕ). set marks l true) c.at-letter.ensures.value in
    let added : sure_letters 97 c.add.new.self ≡ sure_letters 97 marks ++ (97 + letter) ∷ [] =
    ap (λ (m : List Bool). sure_letters 97 m) is ∙ letter-added 97 letter marks (omega arith) before.unsure in
    record {
      size = ap (λ (m : List Bool). length m) is ∙ length-set marks letter true ∙ before.size;
      read =
          ap (λ (t : List ℕ). t ++ later) added ∙ append_assoc (sure_letters 97 marks) ((97 + letter) ∷ []) later
          ∙ ap (λ (t : List ℕ). sure_letters 97 marks ++ t) (sym left) ∙ before.read;
      unsure = λ k l. ap (λ (m : List Bool). get_or m k false) is ∙ unsure-later marks letter before.unsure k l;
      other = λ m s e. letter-taken m letter c.loop-place.left.now later (omega arith) left (before.other m s e);
    }
