-- A text that a line shows is plain, and neither other texts nor other bytes are.
use Rattle.std.proofs.Common.{◌≡◌, ℕ, true, false, cond, List, take, sym, ap, ◌∙◌}
use Rattle.std.specs.List.{flat_map, list_all}
use Rattle.std.specs.Str.{IsUtf8, is_utf8, chars}
use Rattle.std.specs.Char.Escape.{escape_ascii}
use Rattle.std.proofs.lemmas.Bool.{and_from, and_left, and_right, false_from_ne_true}
use Rattle.std.proofs.lemmas.Result.{IfOk-weaker}
use Rattle.std.proofs.lemmas.Str.{IsUtf8-from_is_utf8, is_utf8-from_IsUtf8}
use Rattle.hints.specs.Sought.{is_shown}
use Rattle.hints.specs.Shown.{is_plain, shown_characters}
use Rattle.hints.proofs.words.shown_characters.Goals as goal
use Rattle.hints.proofs.words.shown_characters.Goals.{in_default-via-in-Ok+else-are_shown, in_default-via-in_default}

as-plain : (bytes text shown : List ℕ) → text ≡ bytes → IsUtf8 bytes → true ≡ list_all is_shown (chars text) → shown ≡ chars text → shown ≡ shown_characters bytes
as-plain bytes text shown same utf8 all is =
    let plain : is_plain bytes ≡ true =
    and_from (is_utf8 bytes) (list_all is_shown (chars bytes)) (is_utf8-from_IsUtf8 bytes utf8) (ap (λ t. list_all is_shown (chars t)) (sym same) ∙ sym all) in
    is ∙ ap chars same ∙ ap (λ b. cond b (chars bytes) (flat_map escape_ascii (take 101 bytes))) (sym plain)

as-escaped : (bytes front shown : List ℕ) → is_plain bytes ≡ false → front ≡ take 101 bytes → shown ≡ flat_map escape_ascii front → shown ≡ shown_characters bytes
as-escaped bytes front shown plain before is =
    is ∙ ap (flat_map escape_ascii) before ∙ ap (λ b. cond b (chars bytes) (flat_map escape_ascii (take 101 bytes))) (sym plain)

not-shown : (bytes text : List ℕ) → text ≡ bytes → false ≡ list_all is_shown (chars text) → is_plain bytes ≡ false
not-shown bytes text same some =
    and_right (is_utf8 bytes) (list_all is_shown (chars bytes)) (ap (λ t. list_all is_shown (chars t)) (sym same) ∙ sym some)

not-text : (bytes : List ℕ) → (IsUtf8 bytes → ⊥) → is_plain bytes ≡ false
not-text bytes not =
    and_left (is_utf8 bytes) (list_all is_shown (chars bytes)) (false_from_ne_true (is_utf8 bytes) (λ yes. not (IsUtf8-from_is_utf8 bytes yes)))

pub returns-in-Ok : goal.returns-in-Ok
returns-in-Ok c = record {
  value = IfOk-weaker c.characters_of.result _ _ (λ shown is.
      as-plain c.args.bytes.now c.in-Ok.text.now shown.items c.in-Ok.ensures.cases.0 c.in-Ok.ensures.cases.1 (sym c.if-are_shown.true ∙ c.are_shown.ensures.value) is)
      c.characters_of.ensures.value;
}

pub returns-in_default : goal.returns-in_default
returns-in_default c =
    let plain : is_plain c.args.bytes.now ≡ false = elim c.in_default.branch [
      | in_default-via-in-Ok+else-are_shown w ↦
          not-shown c.args.bytes.now w.in-Ok.text.now w.in-Ok.ensures.cases.0 (sym w.if-are_shown.false ∙ w.are_shown.ensures.value)
      | in_default-via-in_default w ↦ not-text c.args.bytes.now w.in_default.ensures.cases.0
    ] in record {
      value = IfOk-weaker c.escaped.result _ _ (λ shown is.
          as-escaped c.args.bytes.now c.before-in_default.result.now shown.items plain c.before-in_default.ensures.value is)
          c.escaped.ensures.value;
    }
