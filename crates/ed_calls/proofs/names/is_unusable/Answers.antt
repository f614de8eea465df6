use Rattle.std.proofs.Common.{◌≡◌, List, ℕ, Bool, true, false, not, Result, Ok, Err, refl, sym, ap, ◌∙◌}
use Rattle.std.specs.Prelude.{MatchResult, is_err}
use Rattle.std.specs.Str.{IsUtf8, is_utf8}
use Rattle.std.proofs.lemmas.Str.{IsUtf8-from_is_utf8, is_utf8-from_IsUtf8}
use Rattle.ed_calls.proofs.names.is_unusable.Goals as goal

not-text : (bytes : List ℕ) (b : Bool) → is_utf8 bytes ≡ b → (IsUtf8 bytes → ⊥) → true ≡ not b
not-text bytes true is never = absurd (never (IsUtf8-from_is_utf8 bytes is))
not-text bytes false is never = refl

-- reading bytes as a text fails just where they aren't UTF-8
refused : {S E : Type 0} (bytes : List ℕ) (r : Result S E) (Good : S → Type 0) (Bad : E → Type 0) →
    MatchResult r (λ s. Good s × IsUtf8 bytes) (λ e. (IsUtf8 bytes → ⊥) × Bad e) → is_err r ≡ not (is_utf8 bytes)
refused bytes (Ok s) Good Bad h = sym (ap not (is_utf8-from_IsUtf8 bytes h.1))
refused bytes (Err e) Good Bad h = not-text bytes (is_utf8 bytes) refl h.0

pub returns : goal.returns
returns c = record {
  value =
      c.is_err.ensures.value
      ∙ (refused c.as_slice.result.now c.from_utf8.result _ _ c.from_utf8.ensures.cases ∙ ap (λ bytes. not (is_utf8 bytes)) c.as_slice.ensures.value);
}
