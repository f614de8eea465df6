-- Logs that grow, and the answers in them that don't fit.
use Rattle.std.proofs.Common.{◌≡◌, ℕ, ◌<◌, ◌≤◌, List, [], ◌∷◌, ◌++◌, true, false, length, sym, refl, ap, ◌∙◌, ◌⊎◌, inl, inr, append_assoc, append-nil, arith}
use Rattle.std.specs.Prelude.{◌≢◌}
use Rattle.std.proofs.lemmas.List.{drop-append-le}
use Rattle.std.proofs.lemmas.List.Elements.{All-append}
use Rattle.std.proofs.Math.Seq.{drop-length}
use Rattle.std.proofs.lemmas.Bool.{cases_Bool}
use Rattle.ed_syntax.specs.declared.request.Answer.{Answer}
use Rattle.ed_syntax.specs.declared.request.Answer.TheVariants as answer
use Rattle.ed_syntax.specs.declared.request.Request.{Request}
use Rattle.ed_syntax.specs.declared.request.Request.TheVariants as request
use Rattle.ed_session.specs.Drives.{Log, AllFit, added, fits}
use Rattle.ed_session.specs.Rounds.{Raises}

-- what a longer log has more
pub added_is : (old new : Log) (x : Log) → new ≡ old ++ x → added old new ≡ x
added_is old new x e = rw e (drop-append-le (length old) old x (omega arith) ∙ ap (λ y. y ++ x) (drop-length old))

pub added_none : (log : Log) → added log log ≡ []
added_none log = drop-length log

pub log_none : (old new : Log) → new ≡ old → new ≡ old ++ added old new
log_none old new e = rw (e, added_none old) (sym (append-nil old))

pub added_more : (old mid new x : Log) → mid ≡ old ++ added old mid → new ≡ mid ++ x → added old new ≡ added old mid ++ x
added_more old mid new x e f = added_is old new (added old mid ++ x) (f ∙ ap (λ y. y ++ x) e ∙ append_assoc old (added old mid) x)

pub log_more : (old mid new x : Log) → mid ≡ old ++ added old mid → new ≡ mid ++ x → new ≡ old ++ added old new
log_more old mid new x e f = f ∙ ap (λ y. y ++ x) e ∙ append_assoc old (added old mid) x
    ∙ ap (λ y. old ++ y) (sym (added_more old mid new x e f))

one_fits : (r : Request) (a : Answer) → fits r a ≡ true → AllFit ((r, a) ∷ [])
one_fits r a h k d below = let z : k ≡ 0 = omega arith in rw z h

-- one more answer
pub raises_more : (log : Log) (r : Request) (a : Answer) (before now after : ℕ) → before ≤ now → Raises log before now →
    (fits r a ≡ false → now < after) → now ≤ after → Raises (log ++ (r, a) ∷ []) before after
raises_more log r a before now after below (inr rise) raises h = inr (omega arith)
raises_more log r a before now after below (inl fit) raises h =
    elim (cases_Bool (fits r a)) [
      | inl one ↦ inl (All-append (λ (entry : Request × Answer). fits entry.0 entry.1 ≡ true) log ((r, a) ∷ []) fit
          (one_fits r a one))
      | inr bad ↦ let more = raises bad in inr (omega arith)
    ]

-- a read's answer that doesn't fit is a refusal
pub read_raises : (path : List ℕ) (a : Answer) (before after : ℕ) → (a ≡ answer.Refused → before < after) →
    a ≢ answer.Done → fits (request.Read path) a ≡ false → before < after
read_raises path (answer.Bytes bytes) before after refused done h = absurd (cc)
read_raises path answer.Missing before after refused done h = absurd (cc)
read_raises path answer.Refused before after refused done h = refused refl
read_raises path answer.Done before after refused done h = absurd (done refl)

-- and so is a write's
pub write_raises : (path bytes : List ℕ) (a : Answer) (before after : ℕ) → (a ≡ answer.Refused → before < after) →
    (a ≡ answer.Done) ⊎ (a ≡ answer.Refused) → fits (request.Write path bytes) a ≡ false → before < after
write_raises path bytes (answer.Bytes read) before after refused done h = absurd (elim done [ inl e ↦ cc | inr e ↦ cc ])
write_raises path bytes answer.Missing before after refused done h = absurd (elim done [ inl e ↦ cc | inr e ↦ cc ])
write_raises path bytes answer.Refused before after refused done h = refused refl
write_raises path bytes answer.Done before after refused done h = absurd (cc)
