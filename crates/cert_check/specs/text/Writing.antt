-- How a text is written: what its functions answer.
use Rattle.std.specs.Prelude.{ℕ, Bool, true, false, List}
use Rattle.cert_check.specs.text.Text.{spaced, letters_words}

-- letters that go on with a word, or begin it
abbrev pub after_letters : (begun : Bool) → List ℕ → List ℕ
after_letters true letters = letters
after_letters false letters = spaced (letters_words letters)
