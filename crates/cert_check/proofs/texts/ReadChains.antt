-- Chains of landmarks, as their texts are read.
use Rattle.std.proofs.Common.{◌≡◌, ◌<◌, ◌+◌, ◌++◌, ◌∷◌, [], ℕ, List, Option, None, Some, map, length, get_or, take, refl, ◌∙◌, sym, ap, subst}
use Rattle.std.specs.Prelude.{codes}
use Rattle.std.specs.List.{All}
use Rattle.std.proofs.lemmas.List.{take_more}
use Rattle.std.proofs.lemmas.List.Elements.{All-nil, All-cons, All-head, All-tail, All-map, All-append, All-weaker}
use Rattle.ed_rules.specs.Formed.{ChoiceIsBytes}
use Rattle.landmarks.specs.declared.landmark.Landmark.{Landmark}
use Rattle.landmarks.specs.ChainValues.{ChainValue}
use Rattle.landmarks.specs.Spelled.{SpellsChain, NoChain}
use Rattle.cert_check.specs.text.HasText.{ChainHasText}
use Rattle.cert_check.specs.text.Text.{line_text, texts_line, chains_line}
use Rattle.cert_check.specs.text.Reading.{ReadsAs, AreChains}
use Rattle.cert_check.proofs.texts.Limited.{all-fails}
use Rattle.cert_check.proofs.texts.Chosen.{texts-same}
use Rattle.cert_check.proofs.texts.Separated.{Above-from_test, line-same, later-of}
use Rattle.cert_check.proofs.texts.OneText.{texts-words}

abbrev pub text_of : ChainValue → List ℕ
text_of chain = chain.text

abbrev pub IsChain : ChainValue → Type 0
IsChain chain = SpellsChain chain.text chain.landmarks

texts-append : (done : List ChainValue) (c : ChainValue) → map text_of (done ++ c ∷ []) ≡ map text_of done ++ c.text ∷ []
texts-append [] c = refl
texts-append (x ∷ done) c = ap (λ (l : List (List ℕ)). x.text ∷ l) (texts-append done c)

-- one chain more
pub chains-more : (done : List ChainValue) (c : ChainValue) (texts : List (List ℕ)) (i : ℕ) (t : List ℕ) → i < length texts →
    t ≡ get_or texts i t → c.text ≡ t → map text_of done ≡ take i texts → map text_of (done ++ c ∷ []) ≡ take (i + 1) texts
chains-more done c texts i t l is same read =
    texts-append done c ∙ ap (λ (ts : List (List ℕ)). ts ++ c.text ∷ []) read ∙ ap (λ (x : List ℕ). take i texts ++ x ∷ []) (same ∙ is)
    ∙ sym (take_more texts i t l)

pub one-more : (done : List ChainValue) (c : ChainValue) (t : List ℕ) → All IsChain done → c.text ≡ t → SpellsChain t c.landmarks →
    All IsChain (done ++ c ∷ [])
one-more done c t h same spelled =
    All-append IsChain done (c ∷ []) h
    (All-cons IsChain c [] (subst (λ (x : List ℕ). SpellsChain x c.landmarks) (sym same) spelled) (All-nil IsChain))

-- a text that spells some chain
record IsSpelled (text : List ℕ) : Type 0 where
  pub chain : List Landmark
  pub is : SpellsChain text chain

-- where one text spells none, the texts aren't those of chains
pub no-chains : (texts : List (List ℕ)) (i : ℕ) (t : List ℕ) → i < length texts → t ≡ get_or texts i t → NoChain t →
    (chains : List ChainValue) → All IsChain chains → map text_of chains ≡ texts → ⊥
no-chains texts i t l is none chains each e =
    all-fails IsSpelled texts i t l is (λ s. none s.chain s.is)
    (subst (λ (ts : List (List ℕ)). All IsSpelled ts) e
    (All-map IsSpelled text_of chains
    (All-weaker IsChain (λ c. IsSpelled c.text) (λ c s. record { chain = c.landmarks; is = s }) chains each)))

-- chains whose texts are bytes
both-hold : (chains : List ChainValue) → All IsChain chains → All (λ c. ChoiceIsBytes (Some c.text)) chains → All ChainHasText chains
both-hold [] h k = All-nil ChainHasText
both-hold (c ∷ chains) h k =
    All-cons ChainHasText c chains
    (record { bytes = All-head (λ (x : ChainValue). ChoiceIsBytes (Some x.text)) c chains k; spelled = All-head IsChain c chains h })
    (both-hold chains (All-tail IsChain c chains h) (All-tail (λ (x : ChainValue). ChoiceIsBytes (Some x.text)) c chains k))

bytes-of : (chains : List ChainValue) → All ChoiceIsBytes (map Some (map text_of chains)) → All (λ c. ChoiceIsBytes (Some c.text)) chains
bytes-of [] h = All-nil (λ (c : ChainValue). ChoiceIsBytes (Some c.text))
bytes-of (c ∷ chains) h =
    All-cons (λ (x : ChainValue). ChoiceIsBytes (Some x.text)) c chains
    (All-head ChoiceIsBytes (Some c.text) (map Some (map text_of chains)) h)
    (bytes-of chains (All-tail ChoiceIsBytes (Some c.text) (map Some (map text_of chains)) h))

bytes-in : (chains : List ChainValue) → All ChainHasText chains → All ChoiceIsBytes (map Some (map text_of chains))
bytes-in [] h = All-nil ChoiceIsBytes
bytes-in (c ∷ chains) h =
    All-cons ChoiceIsBytes (Some c.text) (map Some (map text_of chains)) (All-head ChainHasText c chains h).bytes
    (bytes-in chains (All-tail ChainHasText c chains h))

spelled-in : (chains : List ChainValue) → All ChainHasText chains → All IsChain chains
spelled-in chains h = All-weaker ChainHasText IsChain (λ c k. k.spelled) chains h

-- a line says which texts it has
line-texts : (a b : List (List ℕ)) → line_text (texts_line (codes "at") a) ≡ line_text (texts_line (codes "at") b) → a ≡ b
line-texts a b e =
    let at = Above-from_test 32 (codes "at") refl in
    texts-same a b
    (later-of (line-same (texts_line (codes "at") a) (texts_line (codes "at") b) (texts-words (codes "at") a at) (texts-words (codes "at") b at) e))

-- a line of texts, by the chains that they spell
pub chains-read : (line : List ℕ) (texts : List (List ℕ)) (chains : Option (List ChainValue)) →
    ReadsAs (texts_line (codes "at")) (λ ts. All ChoiceIsBytes (map Some ts)) line (Some texts) → AreChains texts chains →
    ReadsAs chains_line (All ChainHasText) line chains
chains-read line texts None read none = λ v h e.
    none v (spelled-in v h) (line-texts (map text_of v) texts (e ∙ sym read.0))
chains-read line texts (Some chains) read are = (
  ap (λ (ts : List (List ℕ)). line_text (texts_line (codes "at") ts)) are.0 ∙ read.0,
  both-hold chains are.1 (bytes-of chains (subst (λ (ts : List (List ℕ)). All ChoiceIsBytes (map Some ts)) (sym are.0) read.1)),
)

-- no texts were read
pub chains-unread : (line : List ℕ) → ReadsAs (texts_line (codes "at")) (λ ts. All ChoiceIsBytes (map Some ts)) line None →
    ReadsAs chains_line (All ChainHasText) line None
chains-unread line none v h e = none (map text_of v) (bytes-in v h) e
