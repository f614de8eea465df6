-- Texts that spell chains, of which some file has the landmarks.
use Rattle.std.proofs.Common.{◌≡◌, ◌<◌, ◌+◌, ◌++◌, ◌∷◌, [], ℕ, List, Option, None, length, map, take, All, refl, sym, ap, ap₂, subst, ◌∙◌}
use Rattle.std.specs.Prelude.{get_or}
use Rattle.std.proofs.lemmas.List.{get_or-map, length-map, map-append, take_more}
use Rattle.std.proofs.lemmas.List.Elements.{All-head, All-tail, All-get_or, All-push}
use Rattle.landmarks.specs.declared.landmark.Landmark.{Landmark}
use Rattle.landmarks.specs.ChainValues.{ChainValue}
use Rattle.landmarks.specs.Spelled.{SpellsChain, NoChain}
use Rattle.hints.specs.Nowhere.{SomeFileHas}
use Rattle.ed_calls.specs.Landmarked.{AreSpelled, IsSpelled, texts_of}
use Rattle.ed_main.specs.Chains.{AreHad}

-- one more text with its chain
pub more_spelled : (texts : List (List ℕ)) (chains : List ChainValue) (chain : ChainValue) → AreSpelled texts chains → IsSpelled chain →
    AreSpelled (texts ++ chain.text ∷ []) (chains ++ chain ∷ [])
more_spelled texts chains chain so spells = record {
  stated = map-append (λ (c : ChainValue). c.text) chains (chain ∷ []) ∙ ap (λ ts. ts ++ chain.text ∷ []) so.stated;
  spelled = All-push IsSpelled chains chain so.spelled spells;
}

-- a text spells one chain at most
abbrev pub IsUnambiguous : Type 0
IsUnambiguous = (text : List ℕ) (one other : List Landmark) → SpellsChain text one → SpellsChain text other → one ≡ other

one-chain : IsUnambiguous → (one other : ChainValue) → one.text ≡ other.text → IsSpelled one → IsSpelled other → one ≡ other
one-chain law one other same spells also =
    let landmarks : one.landmarks ≡ other.landmarks =
    law one.text one.landmarks other.landmarks spells (subst (λ text. SpellsChain text other.landmarks) (sym same) also) in
    ap₂ (λ text ls. record { text = text; landmarks = ls }) same landmarks

-- so some texts spell one list of chains
pub one_list : IsUnambiguous → (one other : List ChainValue) → texts_of one ≡ texts_of other → All IsSpelled one → All IsSpelled other → one ≡ other
one_list law [] [] same spells also = refl
one_list law [] (o ∷ others) same spells also = absurd cc
one_list law (c ∷ chains) [] same spells also = absurd cc
one_list law (c ∷ chains) (o ∷ others) same spells also =
    let first : c.text ≡ o.text = cc in
    let rest : texts_of chains ≡ texts_of others = cc in
    ap₂ (λ (x : ChainValue) (xs : List ChainValue). x ∷ xs) (one-chain law c o first (All-head IsSpelled c chains spells) (All-head IsSpelled o others also))
    (one_list law chains others rest (All-tail IsSpelled c chains spells) (All-tail IsSpelled o others also))

-- where no file has the landmarks of the chains that were read, none has those of the texts
pub none_had : IsUnambiguous → (most : Option ℕ) (texts : List (List ℕ)) (chains : List ChainValue) → AreSpelled texts chains →
    (SomeFileHas most chains → ⊥) → AreHad most texts → ⊥
none_had law most texts chains so none had =
    let same : had.chains ≡ chains =
    one_list law had.chains chains (had.spelled.stated ∙ sym so.stated) had.spelled.spelled so.spelled in
    none (subst (λ cs. SomeFileHas most cs) same had.somewhere)

-- and where a text spells none, neither
pub unread_had : (most : Option ℕ) (texts : List (List ℕ)) (index : ℕ) → index < length texts → NoChain (get_or texts index []) → AreHad most texts → ⊥
unread_had most texts index low none had =
    let other : ChainValue = record { text = []; landmarks = [] } in
    let few : index < length had.chains =
    subst (λ n. index < n) (ap length (sym had.spelled.stated) ∙ length-map had.chains (λ (c : ChainValue). c.text)) low in
    let spells : IsSpelled (get_or had.chains index other) = All-get_or IsSpelled had.chains index other few had.spelled.spelled in
    let text : (get_or had.chains index other).text ≡ get_or texts index [] =
    sym (get_or-map (λ (c : ChainValue). c.text) had.chains index other [] few) ∙ ap (λ ts. get_or ts index []) had.spelled.stated in
    none (get_or had.chains index other).landmarks (subst (λ t. SpellsChain t (get_or had.chains index other).landmarks) text spells)

module _ (A : Type 0) (see : A → List ℕ) (refs : List A) (index : ℕ) (other : A) where
  -- the texts that are seen so far spell one more chain
  pub one_more_spelled : (before after : List ChainValue) (chain : ChainValue) → index < length refs → after ≡ before ++ chain ∷ [] →
      chain.text ≡ see (get_or refs index other) → IsSpelled chain → AreSpelled (map see (take index refs)) before →
      AreSpelled (map see (take (index + 1) refs)) after
  one_more_spelled before after chain low pushed text spells so =
      let taken : map see (take (index + 1) refs) ≡ map see (take index refs) ++ chain.text ∷ [] =
      ap (map see) (take_more refs index other low) ∙ map-append see (take index refs) (get_or refs index other ∷ [])
      ∙ ap (λ t. map see (take index refs) ++ t ∷ []) (sym text) in
      subst (λ texts. AreSpelled texts after) (sym taken) (subst (λ chains. AreSpelled (map see (take index refs) ++ chain.text ∷ [])
      chains) (sym pushed) (more_spelled (map see (take index refs)) before chain so spells))

  -- or one that is seen spells none
  pub unread_seen : (text : List ℕ) → index < length refs → text ≡ see (get_or refs index other) → NoChain text → (most : Option ℕ) →
      AreHad most (map see refs) → ⊥
  unread_seen text low is none most had =
      unread_had most (map see refs) index (subst (λ n. index < n) (sym (length-map refs see)) low)
      (subst NoChain (is ∙ sym (get_or-map see refs index other [] low)) none) had

-- without a limit a file has them too
pub had_without_limit : (most : Option ℕ) (texts : List (List ℕ)) → AreHad most texts → AreHad None texts
had_without_limit most texts had = record {
  chains = had.chains;
  spelled = had.spelled;
  somewhere = record { file = had.somewhere.file; few = tt; has = had.somewhere.has };
}
