-- Writes that are held back stay so with each call.
use Rattle.std.proofs.Common.{◌≡◌, ◌<◌, ◌≤◌, ◌+◌, ◌*◌, ℕ, List, [], ◌∷◌, ◌++◌, Bool, true, false, ◌||◌, ◌&&◌, ◌⊎◌, not, cond, nat_lt, length, take, get_or, refl, sym, ap, ◌∙◌, subst, append-nil, length-append, take_at, eq-or-lt_of_le, lt-ltb, ltb-true, arith, inl, inr}
use Rattle.std.proofs.lemmas.List.{get_or_append_left, get_or_at, take-append-le}
use Rattle.std.proofs.lemmas.List.Concat.{flat_map-append}
use Rattle.std.proofs.lemmas.List.Elements.{All-nil, All-push}
use Rattle.std.proofs.lemmas.List.Sums.{sum_by_push}
use Rattle.ed_syntax.specs.declared.request.Answer.{Answer}
use Rattle.ed_syntax.specs.declared.request.Answer.TheVariants as answer
use Rattle.ed_syntax.specs.declared.request.Request.{Request}
use Rattle.ed_syntax.specs.declared.request.Request.TheVariants as request
use Rattle.ed_session.specs.Drives.{Log, is_refusal}
use Rattle.whole.specs.Deeds.{Deed, NothingPut, entry_of, holds_back, refusals, run_log}
use Rattle.whole.specs.Paths.{each_once, is_in, more_paths, write_path, write_paths, written_paths}
use Rattle.whole.specs.Reads.{ReadsHeld, read_of, reads_held}
use Rattle.whole.specs.Insides.{IsWhole}
use Rattle.whole.proofs.PathLemmas.{each_once-more, in-each_once}
use Rattle.whole.proofs.DeedLemmas.{Holding, not-so, one-more}

-- the log of the run, with one more entry
pub one-entry : (deeds more : List Deed) (deed : Deed) (asked : Request) (given : Answer) → more ≡ deeds ++ deed ∷ [] →
    entry_of deed ≡ (asked, given) ∷ [] → run_log more ≡ run_log deeds ++ (asked, given) ∷ []
one-entry deeds more deed asked given e entry =
    ap run_log e ∙ one-more entry_of deeds deed (run_log deeds) ((asked, given) ∷ []) refl entry

pub read-entry : (known : Bool) (path : List ℕ) (given : Answer) →
    entry_of (read_of known path given) ≡ (request.Read path, given) ∷ []
read-entry true path given = refl
read-entry false path given = refl

refusals-more : (log : Log) (asked : Request) (given : Answer) →
    refusals (log ++ (asked, given) ∷ []) ≡ refusals log + cond (is_refusal given) 1 0
refusals-more log asked given = sum_by_push (λ (entry : Request × Answer). cond (is_refusal entry.1) 1 0) log (asked, given)

any-more : (n m : ℕ) (r : Bool) → m ≡ n + cond r 1 0 → (nat_lt 0 n || r) ≡ nat_lt 0 m
any-more n m true e =
    let up : m ≡ n + 1 = e in
    let some : nat_lt 0 m ≡ true = lt-ltb 0 m (omega (arith, up)) in
    or-true (nat_lt 0 n) ∙ sym some
  where
    or-true : (b : Bool) → (b || true) ≡ true
    or-true true = refl
    or-true false = refl
any-more n m false e =
    let same : m ≡ n = omega (arith, e) in
    or-false (nat_lt 0 n) ∙ ap (nat_lt 0) (sym same)
  where
    or-false : (b : Bool) → (b || false) ≡ b
    or-false true = refl
    or-false false = refl

reads-one : (front other : List Deed) (deed this : Deed) → other ≡ front → this ≡ deed →
    reads_held (write_paths (run_log front)) deed ≡ true → reads_held (write_paths (run_log other)) this ≡ true
reads-one front other deed this e f h = rw (e, f) h

reads-more : (deeds : List Deed) (deed : Deed) → ReadsHeld deeds → reads_held (write_paths (run_log deeds)) deed ≡ true →
    ReadsHeld (deeds ++ deed ∷ [])
reads-more deeds deed held now k d below =
    let long : length (deeds ++ deed ∷ []) ≡ length deeds + 1 = length-append deeds (deed ∷ []) in
    let within : k ≤ length deeds = omega (arith, long, below) in
    elim (eq-or-lt_of_le within) [
      | inl e ↦ reads-one deeds _ deed _ (take_at deeds (deed ∷ []) k (sym e)) (get_or_at deeds deed [] d k (sym e)) now
      | inr l ↦ reads-one (take k deeds) _ (get_or deeds k d) _ (take-append-le k deeds (deed ∷ []) (omega (arith, l)))
          (get_or_append_left deeds (deed ∷ []) d k l) (held k d l)
    ]

-- nothing was asked so far
pub fresh : (deeds : List Deed) (room : ℕ) (paths : List (List ℕ)) → deeds ≡ [] → paths ≡ [] → IsWhole deeds room paths false
fresh deeds room paths e none = rw (e, none) (record {
  unput = All-nil Holding;
  reads = λ k d below. absurd (omega arith);
  paths_are = refl;
  room_for_end = omega arith;
  refused_is = refl;
})

-- a call that finds no memory
pub stays : (deeds more : List Deed) (room room' : ℕ) (paths paths' : List (List ℕ)) (refused : Bool) →
    IsWhole deeds room paths refused →
    more ≡ deeds → room ≤ room' → paths' ≡ paths → IsWhole more room' paths' refused
stays deeds more room room' paths paths' refused w e rises same =
    let big : 4 * length paths ≤ room' = omega (arith, w.room_for_end, rises) in
    rw (e, same) (record {
      unput = w.unput;
      reads = w.reads;
      paths_are = w.paths_are;
      room_for_end = big;
      refused_is = w.refused_is;
    })

-- a call that is answered
goes-on : (deeds more : List Deed) (deed : Deed) (room room' : ℕ) (paths paths' : List (List ℕ)) (refused refused' : Bool) (asked :
    Request) (given : Answer) →
    IsWhole deeds room paths refused → more ≡ deeds ++ deed ∷ [] → holds_back deed ≡ true →
    reads_held (write_paths (run_log deeds)) deed ≡ true → entry_of deed ≡ (asked, given) ∷ [] →
    paths' ≡ written_paths more →
    4 * length paths' ≤ room' → refused' ≡ (refused || is_refusal given) → IsWhole more room' paths' refused'
goes-on deeds more deed room room' paths paths' refused refused' asked given w e holds reads entry is fits r =
    let log : run_log more ≡ run_log deeds ++ (asked, given) ∷ [] = one-entry deeds more deed asked given e entry in
    let count : refusals (run_log more) ≡ refusals (run_log deeds) + cond (is_refusal given) 1 0 =
    ap refusals log ∙ refusals-more (run_log deeds) asked given in
    record {
      unput = subst NothingPut (sym e) (All-push Holding deeds deed w.unput holds);
      reads = subst ReadsHeld (sym e) (reads-more deeds deed w.reads reads);
      paths_are = is;
      room_for_end = fits;
      refused_is = r ∙ ap (λ b. b || is_refusal given) w.refused_is
          ∙ any-more (refusals (run_log deeds)) (refusals (run_log more)) (is_refusal given) count;
    }

read-held : (known : Bool) (written : List (List ℕ)) (path : List ℕ) (given : Answer) → known ≡ is_in path written →
    reads_held written (read_of known path given) ≡ true
read-held true written path given e = sym e
read-held false written path given e = ap not (sym e)

read-holds : (known : Bool) (path : List ℕ) (given : Answer) → holds_back (read_of known path given) ≡ true
read-holds true path given = refl
read-holds false path given = refl

-- a path that a read asks for is known just where it was written
known-written : (deeds : List Deed) (room : ℕ) (paths : List (List ℕ)) (refused : Bool) (path : List ℕ) →
    IsWhole deeds room paths refused →
    is_in path paths ≡ is_in path (write_paths (run_log deeds))
known-written deeds room paths refused path w = ap (is_in path) w.paths_are ∙ in-each_once path (write_paths (run_log deeds))

pub read-logged : (deeds more : List Deed) (known : Bool) (name path : List ℕ) (given : Answer) → name ≡ path →
    more ≡ deeds ++ read_of known name given ∷ [] → run_log more ≡ run_log deeds ++ (request.Read path, given) ∷ []
read-logged deeds more known name path given named e =
    one-entry deeds more (read_of known name given) (request.Read path) given e
    (read-entry known name given ∙ ap (λ p. (request.Read p, given) ∷ []) named)

pub goes-on-read : (deeds more : List Deed) (room room' : ℕ) (paths : List (List ℕ)) (refused refused' known : Bool)
    (name path : List ℕ) (given : Answer) → IsWhole deeds room paths refused → name ≡ path → known ≡ is_in path paths →
    more ≡ deeds ++ read_of known name given ∷ [] → room ≤ room' → refused' ≡ (refused || is_refusal given) →
    IsWhole more room' paths refused'
goes-on-read deeds more room room' paths refused refused' known name path given w named tells e rises r =
    let deed = read_of known path given in
    let entry : entry_of deed ≡ (request.Read path, given) ∷ [] = read-entry known path given in
    let log : run_log more ≡ run_log deeds ++ (request.Read path, given) ∷ [] = read-logged deeds more known name path given named e in
    let same : write_paths (run_log more) ≡ write_paths (run_log deeds) =
    ap write_paths log
    ∙ flat_map-append (λ (one : Request × Answer). write_path one.0) (run_log deeds) ((request.Read path, given) ∷ [])
    ∙ append-nil (write_paths (run_log deeds)) in
    goes-on deeds more deed room room' paths paths refused refused' (request.Read path) given w
    (e ∙ ap (λ p. deeds ++ read_of known p given ∷ []) named) (read-holds known path given)
    (read-held known (write_paths (run_log deeds)) path given (tells ∙ known-written deeds room paths refused path w)) entry
    (w.paths_are ∙ ap each_once (sym same)) (omega (arith, w.room_for_end, rises)) r

more-length : (known : Bool) (paths : List (List ℕ)) (path : List ℕ) → length (more_paths known paths path) ≤ length paths + 1
more-length true paths path = omega arith
more-length false paths path = omega (arith, length-append paths (path ∷ []))

-- a write that is answered
pub write-call : (deeds more : List Deed) (name path bytes : List ℕ) (given : Answer) → name ≡ path →
    more ≡ deeds ++ Deed.Draft name bytes given ∷ [] → more ≡ deeds ++ Deed.Draft path bytes given ∷ []
write-call deeds more name path bytes given named e = e ∙ ap (λ p. deeds ++ Deed.Draft p bytes given ∷ []) named

pub write-logged : (deeds more : List Deed) (name path bytes : List ℕ) (given : Answer) → name ≡ path →
    more ≡ deeds ++ Deed.Draft name bytes given ∷ [] → run_log more ≡ run_log deeds ++ (request.Write path bytes, given) ∷ []
write-logged deeds more name path bytes given named e =
    one-entry deeds more (Deed.Draft path bytes given) (request.Write path bytes) given (write-call deeds more name path bytes given named
    e) refl

pub goes-on-write : (deeds more : List Deed) (room room' : ℕ) (paths paths' : List (List ℕ)) (refused refused' : Bool)
    (name path bytes : List ℕ) (given : Answer) → IsWhole deeds room paths refused → name ≡ path →
    more ≡ deeds ++ Deed.Draft name bytes given ∷ [] → room + 4 ≤ room' → paths' ≡ more_paths (is_in name paths) paths name →
    refused' ≡ (refused || is_refusal given) → IsWhole more room' paths' refused'
goes-on-write deeds more room room' paths paths' refused refused' name path bytes given w named e rises p r =
    let deed = Deed.Draft path bytes given in
    let written = write_paths (run_log deeds) in
    let log : run_log more ≡ run_log deeds ++ (request.Write path bytes, given) ∷ [] =
    write-logged deeds more name path bytes given named e in
    let one : write_paths (run_log more) ≡ written ++ path ∷ [] =
    ap write_paths log
    ∙ flat_map-append (λ (one : Request × Answer). write_path one.0) (run_log deeds) ((request.Write path bytes, given) ∷ []) in
    let now : written_paths more ≡ more_paths (is_in path written) (each_once written) path = ap each_once one
    ∙ each_once-more written path in
    let known : is_in path paths ≡ is_in path written = known-written deeds room paths refused path w in
    let so : paths' ≡ more_paths (is_in path paths) paths path = p ∙ ap (λ q. more_paths (is_in q paths) paths q) named in
    let here : paths' ≡ more_paths (is_in path written) (each_once written) path =
    so ∙ ap (λ b. more_paths b paths path) known ∙ ap (λ l. more_paths (is_in path written) l path) w.paths_are in
    let size : length paths' ≤ length paths + 1 = rw so (more-length (is_in path paths) paths path) in
    goes-on deeds more deed room room' paths paths' refused refused' (request.Write path bytes) given w
    (write-call deeds more name path bytes given named e) refl refl refl (here ∙ sym now) (omega (arith, w.room_for_end, rises, size)) r

-- when a run is ended as one that went well
pub fault-ends : (ended refused well : Bool) → well ≡ (ended && not refused) → ended ≡ false → well ≡ false
fault-ends ended refused well e f = e ∙ ap (λ b. b && not refused) f

and-false : (b : Bool) → (b && false) ≡ false
and-false true = refl
and-false false = refl

pub refusal-ends : (ended refused well : Bool) (count : ℕ) → refused ≡ nat_lt 0 count → well ≡ (ended && not refused) →
    0 < count → well ≡ false
refusal-ends ended refused well count r e some =
    let so : refused ≡ true = r ∙ lt-ltb 0 count some in
    e ∙ ap (λ b. ended && not b) so ∙ and-false ended

refused-some : (refused : Bool) (count : ℕ) → refused ≡ nat_lt 0 count → false ≡ not refused → 0 < count
refused-some true count r e = ltb-true 0 count (sym r)
refused-some false count r e = not-so e

pub ends-why : (ended refused well : Bool) (count : ℕ) → refused ≡ nat_lt 0 count → well ≡ (ended && not refused) →
    well ≡ false →
    (ended ≡ false) ⊎ (0 < count)
ends-why true refused well count r e f = inr (refused-some refused count r (sym f ∙ e))
ends-why false refused well count r e f = inl refl
