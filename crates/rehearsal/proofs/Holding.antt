-- What is held after one more file is read or written.
use Rattle.std.proofs.Common.{◌≡◌, ◌≢◌, ℕ, List, [], ◌∷◌, ◌++◌, Bool, true, false, nat_eq, refl, sym, ◌∙◌, ap, Option, Some, None, arith}
use Rattle.std.specs.Prelude.{Contains}
use Rattle.std.specs.Cmp.Lexicographic.{pointwise, bytes_decides}
use Rattle.std.proofs.lemmas.Grind.{merely}
use Rattle.std.proofs.lemmas.List.Elements.{Contains-append_right}
use Rattle.std.proofs.lemmas.Option.{same_Some}
use Rattle.ed_syntax.specs.declared.request.Answer.{Answer}
use Rattle.ed_syntax.specs.declared.request.Answer.TheVariants as answer
use Rattle.ed_syntax.specs.declared.request.Request.TheVariants as request
use Rattle.ed_session.specs.Drives.{Log}
use Rattle.ed_session.specs.KeptAnswers.{Files}
use Rattle.ed_session.specs.MemFiles.{file_at}
use Rattle.rehearsal.specs.Rehearsals.{Shown}
use Rattle.rehearsal.specs.Insides.{Holds}

some-none : {A : Type 0} (a : A) → Some a ≡ None → ⊥
some-none a e = absurd cc

-- a path is its own
pub same-path : (path bytes : List ℕ) (files : Files) → file_at path ((path, bytes) ∷ files) ≡ Some bytes
same-path path bytes files = rw ((bytes_decides path path).1 refl, file_at) refl

-- what is held, where the files are these
pub these-hold : (real : Log) (files these made this : Files) → Holds real files made → these ≡ files → this ≡ made →
    Holds real these this
these-hold real files these made this h e f = rw (e, f) h

-- where nothing was written, a read shows what the real files answer
pub shown-real : (real : Log) (made : Files) (path : List ℕ) (given : Answer) → file_at path made ≡ None →
    Shown (real ++ (request.Read path, given) ∷ []) made path given
shown-real real made path given none = record {
  as_written = λ bytes e. absurd (some-none bytes (sym e ∙ none));
  as_real = λ e. merely (Contains-append_right real ((request.Read path, given) ∷ []) (request.Read path, given) (0, omega arith, refl));
}

-- the file of a path where one more file comes first, which has that path or not
abbrev at_first : Bool → List ℕ → List ℕ → Files → Option (List ℕ)
at_first same path bytes files = elim same [ true ↦ Some bytes | false ↦ file_at path files ]

read-shown : (real : Log) (files made : Files) (path bytes at read : List ℕ) (same : Bool) → (same ≡ true → path ≡ at) →
    Holds real files made →
    file_at path files ≡ None → Contains real (request.Read path, answer.Bytes bytes) → at_first same at bytes files ≡ Some read →
    Shown real made at (answer.Bytes read)
read-shown real files made path bytes at read true equal h none has e =
    let p : path ≡ at = equal refl in
    let b : bytes ≡ read = same_Some bytes read e in
    rw (← p, ← b) (record {
      as_written = λ more w. absurd (some-none more (sym w ∙ h.kept path none));
      as_real = λ w. merely has;
    })
read-shown real files made path bytes at read false equal h none has e = h.shown at read e

read-kept : (real : Log) (files made : Files) (bytes at : List ℕ) (same : Bool) → Holds real files made →
    at_first same at bytes files ≡ None →
    file_at at made ≡ None
read-kept real files made bytes at true h e = absurd (some-none bytes e)
read-kept real files made bytes at false h e = h.kept at e

-- a file that was read is held
pub holds-read : (real : Log) (files made : Files) (path bytes : List ℕ) → Holds real files made → file_at path files ≡ None →
    Contains real (request.Read path, answer.Bytes bytes) → Holds real ((path, bytes) ∷ files) made
holds-read real files made path bytes h none has = record {
  shown = λ at read e. read-shown real files made path bytes at read (pointwise nat_eq path at) (bytes_decides path at).0 h none has e;
  kept = λ at e. read-kept real files made bytes at (pointwise nat_eq path at) h e;
}

write-written : (real : Log) (files made : Files) (bytes at read more : List ℕ) (same : Bool) → Holds real files made →
    at_first same at bytes files ≡ Some read →
    at_first same at bytes made ≡ Some more → answer.Bytes read ≡ answer.Bytes more
write-written real files made bytes at read more true h e w = ap answer.Bytes (same_Some read more (sym e ∙ w))
write-written real files made bytes at read more false h e w = (h.shown at read e).as_written more w

write-real : (real : Log) (files made : Files) (bytes at read : List ℕ) (same : Bool) → Holds real files made →
    at_first same at bytes files ≡ Some read →
    at_first same at bytes made ≡ None → ∥ Contains real (request.Read at, answer.Bytes read) ∥₁
write-real real files made bytes at read true h e w = absurd (some-none bytes w)
write-real real files made bytes at read false h e w = (h.shown at read e).as_real w

write-kept : (real : Log) (files made : Files) (bytes at : List ℕ) (same : Bool) → Holds real files made →
    at_first same at bytes files ≡ None →
    at_first same at bytes made ≡ None
write-kept real files made bytes at true h e = absurd (some-none bytes e)
write-kept real files made bytes at false h e = h.kept at e

-- a file that was written is held
pub holds-write : (real : Log) (files made : Files) (path bytes : List ℕ) → Holds real files made →
    Holds real ((path, bytes) ∷ files) ((path, bytes) ∷ made)
holds-write real files made path bytes h = record {
  shown = λ at read e. record {
    as_written = λ more w. write-written real files made bytes at read more (pointwise nat_eq path at) h e w;
    as_real = λ w. write-real real files made bytes at read (pointwise nat_eq path at) h e w;
  };
  kept = λ at e. write-kept real files made bytes at (pointwise nat_eq path at) h e;
}
