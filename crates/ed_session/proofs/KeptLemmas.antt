-- KeptAnswer answers stay the same when files are added, and the file that a search comes to.
use Rattle.std.proofs.Common.{drop-cons, true, Some, drop, get_or, nat_eq, sym, ◌≡◌, ◌+◌, ◌-◌, ◌<◌, ◌≤◌, ℕ, List, [], ◌∷◌, ◌++◌, length, option_map, suc, refl, ap, ◌∙◌, arith}
use Rattle.std.specs.List.{slice_get}
use Rattle.std.specs.Cmp.Lexicographic.{pointwise}
use Rattle.std.proofs.lemmas.List.{map-append}
use Rattle.std.proofs.lemmas.Option.{slice_get_read}
use Rattle.ed_syntax.specs.declared.request.Answer.TheVariants as answer
use Rattle.ed_syntax.specs.declared.request.Request.{Request}
use Rattle.ed_session.specs.declared.kept.KeptAnswer.{KeptAnswer}
use Rattle.ed_session.specs.declared.kept.KeptAnswer.TheVariants as kept
use Rattle.ed_session.specs.MemFiles.{file_at}
use Rattle.ed_session.specs.KeptAnswers.{Files, found, bytes_at, answer_of, place_of, AllWithin, told}

answer_stays : (file : List ℕ × List ℕ) (files : Files) (k : KeptAnswer) → place_of k ≤ length files → answer_of (file ∷ files) k ≡ answer_of files k
answer_stays file files (kept.File place) within =
    let e : length (file ∷ files) - place ≡ suc (length files - place) = omega (arith, within) in
    ap (λ i. found (option_map (λ f. f.1) (slice_get (file ∷ files) i))) e
answer_stays file files kept.Missing within = refl
answer_stays file files kept.Refused within = refl
answer_stays file files kept.Done within = refl

pub told_stays : (file : List ℕ × List ℕ) (files : Files) (log : List (Request × KeptAnswer)) → AllWithin (length files) log → told (file ∷ files) log ≡ told files log
told_stays file files [] within = refl
told_stays file files (entry ∷ log) within =
    let head = answer_stays file files entry.1 (within 0 entry (omega arith)) in
    let tail = told_stays file files log (λ k d l. within (suc k) d (omega (arith, l))) in
    cc

-- a write that is done adds its file and its entry of the log
pub told_written : (file : List ℕ × List ℕ) (files : Files) (log : List (Request × KeptAnswer)) (request : Request) → AllWithin (length files) log
    → told (file ∷ files) (log ++ (request, kept.Done) ∷ []) ≡ told files log ++ (request, answer.Done) ∷ []
told_written file files log request within =
    map-append (λ (entry : Request × KeptAnswer). (entry.0, answer_of (file ∷ files) entry.1)) log ((request, kept.Done) ∷ [])
    ∙ ap (λ t. t ++ (request, answer.Done) ∷ []) (told_stays file files log within)

-- the file that a search has come to is the one that the path names
pub found_here : (path : List ℕ) (files : Files) (i left : ℕ) (file : List ℕ × List ℕ) → left + i ≡ length files → i < length files →
    file ≡ get_or files i file → pointwise nat_eq file.0 path ≡ true → file_at path (drop i files) ≡ bytes_at left files
found_here path files i left file sum within is equal =
    let after : drop i files ≡ file ∷ drop (suc i) files = drop-cons files i file within ∙ ap (λ f. f ∷ drop (suc i) files) (sym is) in
    let at : slice_get files i ≡ Some file = slice_get_read files (length files) i file refl within is in
    let place : length files - left ≡ i = omega (arith, sum) in
    rw (after, equal, file_at, place, at) refl

-- its bytes
pub file_here : (path : List ℕ) (files : Files) (i : ℕ) (file : List ℕ × List ℕ) → i < length files → file ≡ get_or files i file → pointwise nat_eq file.0 path ≡ true →
    file_at path (drop i files) ≡ Some file.1
file_here path files i file within is equal =
    let after : drop i files ≡ file ∷ drop (suc i) files = drop-cons files i file within ∙ ap (λ f. f ∷ drop (suc i) files) (sym is) in
    rw (after, equal, file_at) refl
