-- What calls of one kind leave out of a list that is made of all of them.
use Rattle.std.proofs.Common.{◌≡◌, ℕ, List, [], ◌∷◌, ◌++◌, Bool, true, false, ◌<◌, ◌≤◌, ◌+◌, length, map, take, take_all, drop, get_or, refl, sym, ap, ◌∙◌, append-nil, append_assoc, true≢false, flat_map}
use Rattle.std.proofs.lemmas.List.{get_or_default, map-append, take_more}
use Rattle.std.proofs.lemmas.List.Concat.{flat_map-append}
use Rattle.std.proofs.lemmas.List.Elements.{All-head, All-tail}
use Rattle.whole.specs.Deeds.{Deed, GoesOn, NothingPut, discarded_path, entry_of, holds_back, put_path, ready_path, readying_path, run_log, tried_path}
use Rattle.whole.specs.Insides.{discard_deeds, last_deeds, put_deeds, ready_deeds, settle_deeds}
use Rattle.whole.specs.declared.outcome.Outcome.{Outcome}
use Rattle.whole.specs.declared.outcome.Outcome.TheVariants as outcome

abbrev pub Holding : Deed → Type 0
Holding deed = holds_back deed ≡ true

pub not-so : {A : Type 0} → false ≡ true → A
not-so e = absurd (true≢false (sym e))

map-none : {A : Type 0} (f : Deed → List A) (g : List ℕ → Deed) → ((p : List ℕ) → f (g p) ≡ []) →
    (ps : List (List ℕ)) →
    flat_map f (map g ps) ≡ []
map-none f g h [] = refl
map-none f g h (p ∷ ps) = ap (λ l. l ++ flat_map f (map g ps)) (h p) ∙ map-none f g h ps

pub map-each : (f : Deed → List (List ℕ)) (g : List ℕ → Deed) → ((p : List ℕ) → f (g p) ≡ p ∷ []) →
    (ps : List (List ℕ)) →
    flat_map f (map g ps) ≡ ps
map-each f g h [] = refl
map-each f g h (p ∷ ps) = ap (λ l. l ++ flat_map f (map g ps)) (h p) ∙ ap (λ l. p ∷ l) (map-each f g h ps)

pub one-more : {A : Type 0} (f : Deed → List A) (deeds : List Deed) (deed : Deed) (had has : List A) → flat_map f deeds ≡ had →
    f deed ≡ has →
    flat_map f (deeds ++ deed ∷ []) ≡ had ++ has
one-more f deeds deed had has e h =
    flat_map-append f deeds (deed ∷ []) ∙ ap (λ l. l ++ (f deed ++ [])) e ∙ ap (λ l. had ++ (l ++ [])) h
    ∙ ap (λ l. had ++ l) (append-nil has)

-- what calls that hold back leave out
pub none-held : {A : Type 0} (f : Deed → List A) → ((deed : Deed) → holds_back deed ≡ true → f deed ≡ []) →
    (deeds : List Deed) → NothingPut deeds →
    flat_map f deeds ≡ []
none-held f h [] all = refl
none-held f h (deed ∷ deeds) all =
    ap (λ l. l ++ flat_map f deeds) (h deed (All-head Holding deed deeds all)) ∙ none-held f h deeds (All-tail Holding deed deeds all)

pub held-ready : (deed : Deed) → holds_back deed ≡ true → ready_path deed ≡ []
held-ready (Deed.Read path given) h = refl
held-ready (Deed.ReadDraft path given) h = refl
held-ready (Deed.Draft path bytes given) h = refl
held-ready (Deed.Ready path done) h = not-so h
held-ready (Deed.Put path done) h = refl
held-ready (Deed.Discard path) h = refl
held-ready (Deed.Settle path) h = refl

pub held-readying : (deed : Deed) → holds_back deed ≡ true → readying_path deed ≡ []
held-readying (Deed.Read path given) h = refl
held-readying (Deed.ReadDraft path given) h = refl
held-readying (Deed.Draft path bytes given) h = refl
held-readying (Deed.Ready path done) h = not-so h
held-readying (Deed.Put path done) h = refl
held-readying (Deed.Discard path) h = refl
held-readying (Deed.Settle path) h = refl

pub held-tried : (deed : Deed) → holds_back deed ≡ true → tried_path deed ≡ []
held-tried (Deed.Read path given) h = refl
held-tried (Deed.ReadDraft path given) h = refl
held-tried (Deed.Draft path bytes given) h = refl
held-tried (Deed.Ready path done) h = refl
held-tried (Deed.Put path done) h = not-so h
held-tried (Deed.Discard path) h = refl
held-tried (Deed.Settle path) h = refl

pub held-put : (deed : Deed) → holds_back deed ≡ true → put_path deed ≡ []
held-put (Deed.Read path given) h = refl
held-put (Deed.ReadDraft path given) h = refl
held-put (Deed.Draft path bytes given) h = refl
held-put (Deed.Ready path done) h = refl
held-put (Deed.Put path done) h = not-so h
held-put (Deed.Discard path) h = refl
held-put (Deed.Settle path) h = refl

pub held-discarded : (deed : Deed) → holds_back deed ≡ true → discarded_path deed ≡ []
held-discarded (Deed.Read path given) h = refl
held-discarded (Deed.ReadDraft path given) h = refl
held-discarded (Deed.Draft path bytes given) h = refl
held-discarded (Deed.Ready path done) h = refl
held-discarded (Deed.Put path done) h = refl
held-discarded (Deed.Discard path) h = not-so h
held-discarded (Deed.Settle path) h = refl

-- what calls that make ready leave out
pub none-ready : {A : Type 0} (f : Deed → List A) → ((p : List ℕ) (done : Bool) → f (Deed.Ready p done) ≡ []) →
    (o : Outcome) (ps : List (List ℕ)) →
    flat_map f (ready_deeds o ps) ≡ []
none-ready f h outcome.Put ps = map-none f (λ p. Deed.Ready p true) (λ p. h p true) ps
none-ready f h outcome.Discarded ps = refl
none-ready f h (outcome.Unready k) ps =
    one-more f _ _ [] [] (map-none f (λ p. Deed.Ready p true) (λ p. h p true) (take k ps)) (h (get_or ps k []) false)
none-ready f h (outcome.Stopped k) ps = map-none f (λ p. Deed.Ready p true) (λ p. h p true) ps

-- what calls that put leave out
pub none-put : {A : Type 0} (f : Deed → List A) → ((p : List ℕ) (done : Bool) → f (Deed.Put p done) ≡ []) →
    (o : Outcome) (ps : List (List ℕ)) →
    flat_map f (put_deeds o ps) ≡ []
none-put f h outcome.Put ps = map-none f (λ p. Deed.Put p true) (λ p. h p true) ps
none-put f h outcome.Discarded ps = refl
none-put f h (outcome.Unready k) ps = refl
none-put f h (outcome.Stopped k) ps =
    one-more f _ _ [] [] (map-none f (λ p. Deed.Put p true) (λ p. h p true) (take k ps)) (h (get_or ps k []) false)

-- what calls that discard leave out
pub none-discarded : {A : Type 0} (f : Deed → List A) → ((p : List ℕ) → f (Deed.Discard p) ≡ []) →
    (o : Outcome) (ps : List (List ℕ)) →
    flat_map f (discard_deeds o ps) ≡ []
none-discarded f h outcome.Put ps = refl
none-discarded f h outcome.Discarded ps = map-none f (λ p. Deed.Discard p) h ps
none-discarded f h (outcome.Unready k) ps = map-none f (λ p. Deed.Discard p) h ps
none-discarded f h (outcome.Stopped k) ps = map-none f (λ p. Deed.Discard p) h (drop k ps)

-- what calls that settle leave out
pub none-settled : {A : Type 0} (f : Deed → List A) → ((p : List ℕ) → f (Deed.Settle p) ≡ []) →
    (o : Outcome) (ps : List (List ℕ)) →
    flat_map f (settle_deeds o ps) ≡ []
none-settled f h outcome.Put ps = map-none f (λ p. Deed.Settle p) h ps
none-settled f h outcome.Discarded ps = refl
none-settled f h (outcome.Unready k) ps = refl
none-settled f h (outcome.Stopped k) ps = map-none f (λ p. Deed.Settle p) h (take k ps)

-- the parts of a run that has ended
pub of-parts : {A : Type 0} (f : Deed →
    List A) (deeds : List Deed) (o : Outcome) (ps : List (List ℕ)) (held ready put settled discarded : List A) →
    flat_map f deeds ≡ held → flat_map f (ready_deeds o ps) ≡ ready → flat_map f (put_deeds o ps) ≡ put →
    flat_map f (settle_deeds o ps) ≡ settled → flat_map f (discard_deeds o ps) ≡ discarded →
    flat_map f (deeds ++ last_deeds o ps) ≡ held ++ (ready ++ (put ++ (settled ++ discarded)))
of-parts f deeds o ps held ready put settled discarded a b c d e =
    let whole = flat_map-append f deeds (last_deeds o ps) in
    let rest = flat_map-append f (ready_deeds o ps) (put_deeds o ps ++ (settle_deeds o ps ++ discard_deeds o ps)) in
    let more = flat_map-append f (put_deeds o ps) (settle_deeds o ps ++ discard_deeds o ps) in
    let last = flat_map-append f (settle_deeds o ps) (discard_deeds o ps) in
    cc

-- the end of a run asks nothing for it
pub last-asked : (o : Outcome) (ps : List (List ℕ)) → run_log (last_deeds o ps) ≡ []
last-asked o ps =
    of-parts entry_of [] o ps [] [] [] [] [] refl (none-ready entry_of (λ p done. refl) o ps) (none-put entry_of (λ p done. refl) o ps)
    (none-settled entry_of (λ p. refl) o ps) (none-discarded entry_of (λ p. refl) o ps)

pub same-asked : (deeds : List Deed) (o : Outcome) (ps : List (List ℕ)) → run_log (deeds ++ last_deeds o ps) ≡ run_log deeds
same-asked deeds o ps =
    flat_map-append entry_of deeds (last_deeds o ps) ∙ ap (λ l. run_log deeds ++ l) (last-asked o ps) ∙ append-nil (run_log deeds)

-- calls that come after others
drop-front : (front last : List Deed) → drop (length front) (front ++ last) ≡ last
drop-front [] last = refl
drop-front (deed ∷ deeds) last = drop-front deeds last

pub goes-after : (front all last : List Deed) → all ≡ front ++ last → GoesOn front all
goes-after front all last e = e ∙ ap (λ l. front ++ l) (sym (drop-front front last) ∙ sym (ap (drop (length front)) e))

-- one more call of a loop over paths
pub map-more : (f : List ℕ → Deed) (before log more : List Deed) (paths : List (List ℕ)) (i : ℕ) (path : List ℕ) →
    i < length paths →
    path ≡ get_or paths i path → log ≡ before ++ map f (take i paths) → more ≡ log ++ f path ∷ [] →
    more ≡ before ++ map f (take (i + 1) paths)
map-more f before log more paths i path within is e h =
    let next : take (i + 1) paths ≡ take i paths ++ path ∷ [] = take_more paths i path within
    ∙ ap (λ x. take i paths ++ x ∷ []) (sym is) in
    let mapped : map f (take (i + 1) paths) ≡ map f (take i paths) ++ f path ∷ [] = ap (map f) next
    ∙ map-append f (take i paths) (path ∷ []) in
    h ∙ ap (λ l. l ++ f path ∷ []) e ∙ append_assoc before (map f (take i paths)) (f path ∷ [])
    ∙ ap (λ l. before ++ l) (sym mapped)

-- the call at which such a loop stops
pub map-stops : (f last : List ℕ → Deed) (before log more : List Deed) (paths : List (List ℕ)) (i k : ℕ) (path : List ℕ) →
    i < length paths →
    path ≡ get_or paths i path → log ≡ before ++ map f (take i paths) → more ≡ log ++ last path ∷ [] → k ≡ i →
    more ≡ before ++ (map f (take k paths) ++ last (get_or paths k []) ∷ [])
map-stops f last before log more paths i k path within is e h same =
    let at : path ≡ get_or paths i [] = is ∙ get_or_default paths i path [] within in
    rw same (h ∙ ap (λ l. l ++ last path ∷ []) e ∙ append_assoc before (map f (take i paths)) (last path ∷ [])
    ∙ ap (λ x. before ++ (map f (take i paths) ++ last x ∷ [])) at)

-- such a loop that has come to its end
pub map-all : (f : List ℕ → Deed) (before log : List Deed) (paths : List (List ℕ)) (i : ℕ) → length paths ≤ i →
    log ≡ before ++ map f (take i paths) →
    log ≡ before ++ map f paths
map-all f before log paths i over e = e ∙ ap (λ l. before ++ map f l) (take_all i paths over)
