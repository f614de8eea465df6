-- Sets of texts stay formed: their order and their bytes.
use Rattle.std.proofs.Common.{Bool, ℕ, List, [], ◌∷◌, map, Some, refl}
use Rattle.std.specs.List.{filter}
use Rattle.std.specs.Prelude.{All}
use Rattle.std.specs.Cmp.Lexicographic.{slice_cmp, nat_list_cmp_total}
use Rattle.std.specs.Ordering.{nat_cmp}
use Rattle.std.proofs.lemmas.List.Elements.{All-nil, All-cons, All-head, All-tail, All-map, All-filter}
use Rattle.ed_base.proofs.SortedLemmas.{rising-with_members, rising-filter, All-with_members}
use Rattle.ed_rules.specs.Texts.{with_text, with_texts}
use Rattle.ed_rules.specs.Formed.{ChoiceIsBytes, TextsAreFormed}

abbrev TextIsBytes : List ℕ → Type 0
TextIsBytes text = ChoiceIsBytes (Some text)

own-bytes : (set : List (List ℕ)) → All ChoiceIsBytes (map Some set) → All TextIsBytes set
own-bytes [] b = All-nil TextIsBytes
own-bytes (t ∷ set) b =
    All-cons TextIsBytes t set (All-head ChoiceIsBytes (Some t) (map Some set) b) (own-bytes set (All-tail ChoiceIsBytes (Some t) (map Some set) b))

pub none-formed : TextsAreFormed []
none-formed = record { bytes = All-nil ChoiceIsBytes; rising = refl }

pub filter-formed : (keep : List ℕ → Bool) (set : List (List ℕ)) → TextsAreFormed set → TextsAreFormed (filter keep set)
filter-formed keep set h = record {
  bytes = All-map ChoiceIsBytes Some (filter keep set) (All-filter keep TextIsBytes set (own-bytes set h.bytes));
  rising = rising-filter nat_list_cmp_total keep set h.rising;
}

pub with_texts-formed : (texts set : List (List ℕ)) → All ChoiceIsBytes (map Some texts) → TextsAreFormed set → TextsAreFormed (with_texts texts set)
with_texts-formed texts set a h = record {
  bytes = All-map ChoiceIsBytes Some (with_texts texts set)
      (All-with_members (slice_cmp nat_cmp) TextIsBytes texts set (own-bytes texts a) (own-bytes set h.bytes));
  rising = rising-with_members nat_list_cmp_total texts set h.rising;
}

pub with_text-formed : (text : List ℕ) (set : List (List ℕ)) → ChoiceIsBytes (Some text) → TextsAreFormed set → TextsAreFormed (with_text text set)
with_text-formed text set a h = with_texts-formed (text ∷ []) set (All-cons ChoiceIsBytes (Some text) [] a (All-nil ChoiceIsBytes)) h
