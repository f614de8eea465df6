-- The walk over commands, one command further.
use Rattle.std.proofs.Common.{◌≡◌, ◌<◌, ◌+◌, ℕ, Bool, true, false, ◌||◌, List, [], ◌∷◌, ◌++◌, length, get_or, map, drop, Option, option_map, refl, sym, ap, ◌∙◌, subst, arith}
use Rattle.std.proofs.lemmas.List.{length-map, length_push, map-append, drop_all}
use Rattle.ed_base.specs.declared.fault.Fault.{Fault}
use Rattle.ed_syntax.specs.declared.command.Command.{Command}
use Rattle.ed_syntax.specs.Commands.{Step}
use Rattle.ed_syntax.specs.PublicTypes.{verb_value, command_value, step_value, steps_value}
use Rattle.ed_syntax.specs.meaning.Verbs.{ends_run}
use Rattle.ed_rules.specs.declared.state.State.{State}
use Rattle.ed_rules.specs.Choices.{Choice}
use Rattle.ed_rules.specs.Files.{written_paths}
use Rattle.cert_check.specs.declared.certificate.Looped as looped
use Rattle.cert_check.specs.declared.certificate.Note as public
use Rattle.cert_check.specs.Certificates.{Looped, Note, looped_value, note_value}
use Rattle.cert_check.specs.checker.Valid.{has_quit, counted, left_after}
use Rattle.cert_check.specs.declared.sight.Sight.{Sight}
use Rattle.cert_check.specs.declared.checker.verdict.Place.{Place}
use Rattle.cert_check.proofs.verdicts.Counting.{at-place}
use Rattle.analyser.specs.Following.{IsNote, NeedFails, AreNotes, NotesFail, result_from, list_paths, looped_paths, paths_from}
use Rattle.analyser.specs.declared.walk.Walk.{Walk}
use Rattle.analyser.specs.declared.walk.End.{End}
use Rattle.analyser.specs.declared.walk.End.TheVariants.{Leaves, Stops}
use Rattle.analyser.specs.declared.walk.Outcome.TheVariants.{Left, Fails}
use Rattle.analyser.specs.Walking.{with_paths, IsTaken, IsWalk}
use Rattle.analyser.proofs.Listing.{with_paths-append}

-- what is known of all commands, by what is known of those that are left
pub record Going (w : Sight) (all : List Step) (start : State) (number : ℕ) (notes : List Note) (writes : List (List ℕ))
    (coming : State) (left : List Step) : Type 0 where
  pub size : length notes ≡ number
  pub on : (ns : List Note) → AreNotes w left coming ns → AreNotes w all start (notes ++ ns)
  pub off : (inner : Option ℕ) (why : Fault) (n : Note) (ns : List Note) → NotesFail w inner why left coming (n ∷ ns) →
      NotesFail w inner why all start (notes ++ n ∷ ns)
  pub result : (ns : List Note) → result_from w all start (notes ++ ns) ≡ result_from w left coming ns
  pub listed : (ns : List Note) → with_paths (paths_from all (notes ++ ns)) [] ≡ with_paths (paths_from left ns) writes

pub going-start : (w : Sight) (all : List Step) (start : State) → Going w all start 0 [] [] start all
going-start w all start = record { size = refl; on = λ ns h. h; off = λ inner why n ns h. h; result = λ ns. refl; listed = λ ns. refl }

push-note : (notes later : List Note) (n : Note) → notes ++ (n ∷ later) ≡ (notes ++ n ∷ []) ++ later
push-note [] later n = refl
push-note (m ∷ notes) later n = ap (λ (l : List Note). m ∷ l) (push-note notes later n)

-- the paths that a command and its list may write
abbrev pub taken_paths : Step → State → Option Looped → List Choice
taken_paths x s l = written_paths x.command.verb s ++ looped_paths x.list l

abbrev pub noted : State → Option Looped → Note
noted s l = record { state = s; looped = l }

-- a command whose needs hold
pub going-on : (w : Sight) (all : List Step) (start : State) (number : ℕ) (notes : List Note) (writes : List (List ℕ)) (s t : State)
    (l : Option Looped) (x : Step) (xs : List Step) → IsNote w x s (noted s l) → t ≡ left_after w l x s →
    Going w all start number notes writes s (x ∷ xs) → Going w all start (number + 1) (notes ++ noted s l ∷ [])
    (with_paths (taken_paths x s l) writes) t xs
going-on w all start number notes writes s t l x xs note e g =
    let n : Note = noted s l in
    let size = length_push notes n in
    let before = g.size in
    record {
      size = omega arith;
      on = λ ns h. subst (λ (ms : List Note). AreNotes w all start ms) (push-note notes ns n)
          (g.on (n ∷ ns) (note, subst (λ (u : State). AreNotes w xs u ns) e h));
      off = λ inner why m ns h.
          subst (λ (ms : List Note). NotesFail w inner why all start ms) (push-note notes (m ∷ ns) n)
          (g.off inner why n (m ∷ ns) (note, subst (λ (u : State). NotesFail w inner why xs u (m ∷ ns)) e h));
      result = λ ns. ap (λ (ms : List Note). result_from w all start ms) (sym (push-note notes ns n)) ∙ g.result (n ∷ ns)
          ∙ ap (λ (u : State). result_from w xs u ns) (sym e);
      listed = λ ns.
          ap (λ (ms : List Note). with_paths (paths_from all ms) []) (sym (push-note notes ns n)) ∙ g.listed (n ∷ ns)
          ∙ with_paths-append (taken_paths x s l) (paths_from xs ns) writes;
    }

-- a need that fails
pub going-off : (w : Sight) (all : List Step) (start : State) (number : ℕ) (notes : List Note) (writes : List (List ℕ)) (s : State)
    (l : Option Looped) (inner : Option ℕ) (why : Fault) (x : Step) (xs : List Step) → NeedFails w inner why x s l →
    Going w all start number notes writes s (x ∷ xs) → NotesFail w inner why all start (notes ++ noted s l ∷ [])
going-off w all start number notes writes s l inner why x xs h g = g.off inner why (noted s l) [] (refl, h)

append-none : (notes : List Note) → notes ++ [] ≡ notes
append-none [] = refl
append-none (n ∷ notes) = ap (λ (l : List Note). n ∷ l) (append-none notes)

-- what is known of all commands
pub record Gone (w : Sight) (all : List Step) (start : State) (notes : List Note) (writes : List (List ℕ)) (last : State) : Type 0 where
  pub noted : AreNotes w all start notes
  pub result : last ≡ result_from w all start notes
  pub listed : writes ≡ with_paths (paths_from all notes) []

pub gone : (w : Sight) (all : List Step) (start : State) (number : ℕ) (notes : List Note) (writes : List (List ℕ)) (s : State) →
    Going w all start number notes writes s [] → Gone w all start notes writes s
gone w all start number notes writes s g = record {
  noted = subst (λ (ms : List Note). AreNotes w all start ms) (append-none notes) (g.on [] tt);
  result = sym (g.result []) ∙ ap (λ (ms : List Note). result_from w all start ms) (append-none notes);
  listed = sym (g.listed []) ∙ ap (λ (ms : List Note). with_paths (paths_from all ms) []) (append-none notes);
}

-- WHICH COMMANDS ARE COUNTED

abbrev more_counted : Bool → List Step → List Step
more_counted ends later = elim ends as (λ _. List Step) [ true ↦ [] | false ↦ counted later ]

-- from a command on, whether or not it ends the run
abbrev pub counted_from : List Command → (i : ℕ) → List Step
counted_from commands i = counted (steps_value (drop i commands))

abbrev pub later : List Command → (i : ℕ) → Command → List Step
later commands i d = more_counted (ends_run (verb_value d.verb)) (steps_value (drop (i + 1) commands))

pub counted-here : (commands : List Command) (i : ℕ) (d : Command) → i < length commands → d ≡ get_or commands i d →
    counted_from commands i ≡ step_value d ∷ later commands i d
counted-here commands i d h is = ap (λ (l : List Command). counted (steps_value l)) (at-place commands i d h is)

pub later-on : (commands : List Command) (i : ℕ) (d : Command) → ends_run (verb_value d.verb) ≡ false →
    later commands i d ≡ counted_from commands (i + 1)
later-on commands i d e = ap (λ (b : Bool). more_counted b (steps_value (drop (i + 1) commands))) e

pub later-off : (commands : List Command) (i : ℕ) (d : Command) → ends_run (verb_value d.verb) ≡ true → later commands i d ≡ []
later-off commands i d e = ap (λ (b : Bool). more_counted b (steps_value (drop (i + 1) commands))) e

quit-here : (commands : List Command) (i : ℕ) (d : Command) → i < length commands → d ≡ get_or commands i d →
    has_quit (steps_value (drop i commands)) ≡ ends_run (verb_value d.verb) || has_quit (steps_value (drop (i + 1) commands))
quit-here commands i d h is = ap (λ (l : List Command). has_quit (steps_value l)) (at-place commands i d h is)

pub quit-on : (commands : List Command) (i : ℕ) (d : Command) → i < length commands → d ≡ get_or commands i d →
    ends_run (verb_value d.verb) ≡ false → has_quit (steps_value commands) ≡ has_quit (steps_value (drop i commands)) →
    has_quit (steps_value commands) ≡ has_quit (steps_value (drop (i + 1) commands))
quit-on commands i d h is e q = q ∙ quit-here commands i d h is
    ∙ ap (λ (b : Bool). b || has_quit (steps_value (drop (i + 1) commands))) e

pub quit-off : (commands : List Command) (i : ℕ) (d : Command) → i < length commands → d ≡ get_or commands i d →
    ends_run (verb_value d.verb) ≡ true → has_quit (steps_value commands) ≡ has_quit (steps_value (drop i commands)) →
    has_quit (steps_value commands) ≡ true
quit-off commands i d h is e q = q ∙ quit-here commands i d h is
    ∙ ap (λ (b : Bool). b || has_quit (steps_value (drop (i + 1) commands))) e

pub counted-none : (commands : List Command) (i : ℕ) → i ≡ length commands → drop i commands ≡ []
counted-none commands i e = drop_all i commands (omega arith)

-- THE PATHS OF A LIST

pub inner-paths : (list : List Command) (states : List State) (i : ℕ) (d : Command) (s : State) (writes listed : List (List ℕ)) →
    i < length list → i < length states → d ≡ get_or list i d → s ≡ get_or states i s →
    listed ≡ with_paths (written_paths (command_value d).verb s) writes →
    with_paths (list_paths (map command_value (drop i list)) (drop i states)) writes ≡ with_paths
    (list_paths (map command_value (drop (i + 1) list)) (drop (i + 1) states)) listed
inner-paths list states i d s writes listed in_list in_states is at put =
    ap (λ (cs : List Command). with_paths (list_paths (map command_value cs) (drop i states)) writes) (at-place list i d in_list is)
    ∙ ap (λ (ts : List State). with_paths (list_paths (command_value d ∷ map command_value (drop (i + 1) list)) ts) writes)
    (at-place states i s in_states at)
    ∙ with_paths-append (written_paths (command_value d).verb s)
    (list_paths (map command_value (drop (i + 1) list)) (drop (i + 1) states)) writes
    ∙ ap (λ (ws : List (List ℕ)). with_paths (list_paths (map command_value (drop (i + 1) list)) (drop (i + 1) states)) ws) (sym put)

-- THE WALK

noted-more : (notes more : List public.Note) (n : public.Note) (m : Note) → more ≡ notes ++ n ∷ [] → note_value n ≡ m →
    map note_value more ≡ map note_value notes ++ m ∷ []
noted-more notes more n m e v = ap (map note_value) e ∙ map-append note_value notes (n ∷ [])
    ∙ ap (λ (k : Note). map note_value notes ++ k ∷ []) v

abbrev known_of : Option looped.Looped → Option Looped
known_of l = option_map looped_value l

-- a command whose needs hold, whose result comes in at the next one
pub walk-on : (w : Sight) (commands : List Command) (start : State) (i : ℕ) (d : Command) (notes more : List public.Note)
    (n : public.Note) (l : Option looped.Looped) (writes listed : List (List ℕ)) (s t next : State) (end : End) →
    i < length commands → d ≡ get_or commands i d → note_value n ≡ noted s (known_of l) → more ≡ notes ++ n ∷ [] →
    listed ≡ with_paths (taken_paths (step_value d) s (known_of l)) writes → IsTaken w (step_value d) s l end t → end ≡ Leaves →
    next ≡ t → Going w (counted_from commands 0) start i (map note_value notes) writes s (counted_from commands i) →
    Going w (counted_from commands 0) start (i + 1) (map note_value more) listed next (later commands i d)
walk-on w commands start i d notes more n l writes listed s t next end bound is v pushed put taken e same g =
    let all : List Step = counted_from commands 0 in
    let here = subst (λ (xs : List Step). Going w all start i (map note_value notes) writes s xs) (counted-here commands i d bound is) g in
    let left = subst (λ (r : End). IsTaken w (step_value d) s l r t) e taken in
    let going = going-on w all start i (map note_value notes) writes s next (known_of l) (step_value d) (later commands i d) left.0
    (same ∙ left.1) here in
    let by_notes = subst
    (λ (ns : List Note). Going w all start (i + 1) ns (with_paths (taken_paths (step_value d) s (known_of l)) writes) next
    (later commands i d)) (sym (noted-more notes more n _ pushed v)) going in
    subst (λ (ws : List (List ℕ)). Going w all start (i + 1) (map note_value more) ws next (later commands i d)) (sym put) by_notes

-- one with a need that fails
pub walk-off : (w : Sight) (commands : List Command) (start : State) (i : ℕ) (d : Command) (notes more : List public.Note)
    (n : public.Note) (l : Option looped.Looped) (writes : List (List ℕ)) (s t : State) (end : End) (inner : Option ℕ) (why : Fault)
    (place : Place) (walk : Walk) → i < length commands → d ≡ get_or commands i d → note_value n ≡ noted s (known_of l) →
    more ≡ notes ++ n ∷ [] → IsTaken w (step_value d) s l end t → end ≡ Stops inner why →
    Going w (counted_from commands 0) start i (map note_value notes) writes s (counted_from commands i) →
    place ≡ record { command = i + 1; inner = inner } → walk.outcome ≡ Fails place why → walk.notes.items ≡ more →
    IsWalk w (steps_value commands) start walk
walk-off w commands start i d notes more n l writes s t end inner why place walk bound is v pushed taken e g at outcome written =
    let all : List Step = counted_from commands 0 in
    let here = subst (λ (xs : List Step). Going w all start i (map note_value notes) writes s xs) (counted-here commands i d bound is) g in
    let fails = subst (λ (r : End). IsTaken w (step_value d) s l r t) e taken in
    let off = going-off w all start i (map note_value notes) writes s (known_of l) inner why (step_value d) (later commands i d) fails
    here in
    let by_notes : NotesFail w inner why all start (map note_value walk.notes.items) =
    subst (λ (ns : List Note). NotesFail w inner why all start ns)
    (sym (ap (map note_value) written ∙ noted-more notes more n _ pushed v)) off in
    let size : length (map note_value notes) ≡ i = g.size in
    let sizes : length (map note_value notes) ≡ length notes = length-map notes note_value in
    let longer : length walk.notes.items ≡ length notes + 1 = ap (λ (ns : List public.Note). length ns) (written ∙ pushed)
    ∙ length_push notes n in
    let number : place.command ≡ i + 1 = ap (λ (p : Place). p.command) at in
    rw outcome (
      omega arith,
      subst (λ (j : Option ℕ). NotesFail w j why all start (map note_value walk.notes.items)) (sym (ap (λ (p : Place). p.inner) at))
          by_notes,
    )

-- no command is left
pub walk-end : (w : Sight) (commands : List Command) (start : State) (i : ℕ) (notes : List public.Note) (writes : List (List ℕ))
    (s : State) (left : List Step) (walk : Walk) → Going w (counted_from commands 0) start i (map note_value notes) writes s left →
    left ≡ [] → walk.outcome ≡ Left s → walk.notes.items ≡ notes → walk.writes.items ≡ writes →
    walk.quit ≡ has_quit (steps_value commands) → IsWalk w (steps_value commands) start walk
walk-end w commands start i notes writes s left walk g none outcome written listed quit =
    let all : List Step = counted_from commands 0 in
    let end = gone w all start i (map note_value notes) writes s
    (subst (λ (xs : List Step). Going w all start i (map note_value notes) writes s xs) none g) in
    let same : map note_value notes ≡ map note_value walk.notes.items = ap (map note_value) (sym written) in
    rw outcome (
      subst (λ (ns : List Note). AreNotes w all start ns) same end.noted,
      end.result ∙ ap (λ (ns : List Note). result_from w all start ns) same,
      listed ∙ end.listed ∙ ap (λ (ns : List Note). with_paths (paths_from all ns) []) same,
      quit,
    )
