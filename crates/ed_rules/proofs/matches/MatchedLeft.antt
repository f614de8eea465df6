-- What is known of matches holds of what a command leaves.
use Rattle.std.proofs.Common.{◌≡◌, ◌≤◌, inl, inr, ◌⊎◌, ℕ, zero, suc, ◌+◌, ◌-◌, Bool, true, false, ◌||◌, ◌&&◌, List, [], ◌∷◌, ◌++◌, map, take, drop, length, set, get_or, Option, None, Some, Result, Ok, Err, IfOk, arith, refl, ◌∙◌, sym, ap, subst, nat_le, nat_lt}
use Rattle.std.specs.List.{list_any, concat}
use Rattle.std.proofs.lemmas.List.Folds.{list_any-append}
use Rattle.std.proofs.lemmas.Bool.{or_cases, or_left, or_right}
use Rattle.ed_base.specs.declared.fault.Fault.{Fault}
use Rattle.ed_base.specs.declared.fault.Fault.TheVariants as fault
use Rattle.ed_base.specs.Buffer.{Line, plain_line, with_letter, marked_at, texts}
use Rattle.ed_base.specs.Lines.{lines_of}
use Rattle.ed_base.specs.Parts as parts
use Rattle.ed_syntax.specs.declared.replacement.Part.{Part}
use Rattle.ed_syntax.specs.declared.replacement.Which.{Which}
use Rattle.ed_syntax.specs.declared.request.Answer.{Answer}
use Rattle.ed_syntax.specs.declared.request.Answer.TheVariants as file_answer
use Rattle.ed_syntax.specs.declared.command.Sense.{Sense}
use Rattle.ed_syntax.specs.Commands as ed
use Rattle.ed_syntax.specs.Commands.{Addresses, Without, One, Comma, Semicolon, Form, Verb, Command}
use Rattle.ed_syntax.specs.meaning.Verbs as verbs
use Rattle.ed_syntax.specs.meaning.Verbs.{takes}
use Rattle.ed_syntax.specs.meaning.States as editor
use Rattle.ed_syntax.specs.meaning.States.{Past, Nothing, Same, Was, Kept, kept, unflagged}
use Rattle.ed_syntax.specs.meaning.Values.{◌>>◌, matches, used_pattern}
use Rattle.ed_syntax.specs.meaning.Ranges.{Span}
use Rattle.ed_syntax.specs.meaning.Effects as effects
use Rattle.ed_syntax.specs.meaning.Effects.{Outcome, Effect, Makes, Asks}
use Rattle.ed_syntax.specs.meaning.SubstitutedLines.{made_of, Results, each, used_replacement, made, substitute}
use Rattle.ed_syntax.specs.meaning.Files as file
use Rattle.ed_syntax.specs.meaning.Files.{used_path, with_bytes, with_lines}
use Rattle.ed_syntax.specs.meaning.Globals.{flagged_line, flagged}
use Rattle.ed_syntax.specs.meaning.Applied.{making, completed, effect_of, settled, past_after, suffix_written}
use Rattle.zones.specs.Zone.{Bounds}
use Rattle.ed_rules.specs.declared.known_matches.Matches.{Matches}
use Rattle.ed_rules.specs.declared.state.Old.{Old}
use Rattle.ed_rules.specs.declared.state.State.{State}
use Rattle.ed_rules.specs.Texts.{with_texts}
use Rattle.ed_rules.specs.Matched.{is_matched, AreMatched, gained}
use Rattle.ed_rules.specs.KnownMatches.{old_has_of_both}
use Rattle.ed_rules.specs.StandsFor.{AllowsKept, AllowsPast, KeepsMatched, MatchesHold}
use Rattle.ed_rules.specs.declared.matching.Certainty.{Certainty}
use Rattle.ed_rules.specs.declared.matching.Certainty.TheVariants.{Never, Maybe, Surely}
use Rattle.ed_rules.specs.Matching.{joining_given, kept_unless, matches_by_undo, old_matched_unless, matches_after}
use Rattle.ed_syntax.proofs.meaning.ResultLemmas.{IfOk-bind}
use Rattle.ed_rules.proofs.sound.Flags.{Alike, alike-taken}
use Rattle.ed_rules.proofs.sound.Outcomes.{always, OnMade, OnMade-bind}
use Rattle.ed_rules.proofs.Texting.{passes-more, both-passes, both-passes_other, filter-implied, with_texts-passes}

-- SOME LINE MATCHES

-- of lines in two parts
any-parts : (p : Line → Bool) (k : ℕ) (ls : List Line) → list_any p ls ≡ true → (list_any p (take k ls) ≡ true) ⊎ (list_any p (drop k ls) ≡ true)
any-parts p zero ls h = inr h
any-parts p (suc k) [] h = absurd cc
any-parts p (suc k) (l ∷ ls) h = elim (or_cases (p l) (list_any p ls) h) [
  | inl e ↦ inl (or_left (p l) (list_any p (take k ls)) e)
  | inr e ↦ elim (any-parts p k ls e) [
    | inl f ↦ inl (or_right (p l) (list_any p (take k ls)) f)
    | inr f ↦ inr f
  ]
]

any-left : (p : Line → Bool) (xs ys : List Line) → list_any p xs ≡ true → list_any p (xs ++ ys) ≡ true
any-left p xs ys h = list_any-append p xs ys ∙ or_left (list_any p xs) (list_any p ys) h

any-right : (p : Line → Bool) (xs ys : List Line) → list_any p ys ≡ true → list_any p (xs ++ ys) ≡ true
any-right p xs ys h = list_any-append p xs ys ∙ or_right (list_any p xs) (list_any p ys) h

-- of others among them
any-new : (p : Line → Bool) (a b : ℕ) (new ls : List Line) → list_any p new ≡ true → list_any p (parts.exchanged a b new ls) ≡ true
any-new p a b new ls h = any-right p (take a ls) (new ++ drop b ls) (any-left p new (drop b ls) h)

any-inserted : (p : Line → Bool) (place : ℕ) (new ls : List Line) → list_any p ls ≡ true → list_any p (parts.inserted place new ls) ≡ true
any-inserted p place new ls h = elim (any-parts p place ls h) [
  | inl e ↦ any-left p (take place ls) (new ++ drop place ls) e
  | inr e ↦ any-right p (take place ls) (new ++ drop place ls) (any-right p new (drop place ls) e)
]

-- of those up to a place, where it passes for those up to an earlier one
any-take : (p : Line → Bool) (a b : ℕ) (ls : List Line) → a ≤ b → list_any p (take a (take b ls)) ≡ true → list_any p (take a ls) ≡ true
any-take p zero b ls h e = e
any-take p (suc a) zero ls h e = absurd (omega arith)
any-take p (suc a) (suc b) [] h e = e
any-take p (suc a) (suc b) (l ∷ ls) h e = elim (or_cases (p l) (list_any p (take a (take b ls))) e) [
  | inl f ↦ or_left (p l) (list_any p (take a ls)) f
  | inr f ↦ or_right (p l) (list_any p (take a ls)) (any-take p a b ls (omega arith) f)
]

any-carried : (p : Line → Bool) (a b place : ℕ) (ls : List Line) → a ≤ b → list_any p ls ≡ true → list_any p (parts.carried a b place ls) ≡ true
any-carried p a b place ls le h =
    let block : List Line = parts.block a b ls in
    let rest : List Line = parts.exchanged a b [] ls in
    elim (any-parts p b ls h) [
      | inl e ↦ elim (any-parts p a (take b ls) e) [
        | inl f ↦ any-inserted p place block rest (any-left p (take a ls) ([] ++ drop b ls) (any-take p a b ls le f))
        | inr f ↦ any-new p place place block rest f
      ]
      | inr e ↦ any-inserted p place block rest (any-right p (take a ls) ([] ++ drop b ls) e)
    ]

-- of lines with other letters
any-lettered : (text : List ℕ) (letter : ℕ) (ls : List Line) → is_matched ls text ≡ true → is_matched (map (with_letter letter false) ls) text ≡ true
any-lettered text letter [] h = h
any-lettered text letter (l ∷ ls) h = elim (or_cases (matches text l.bytes) (is_matched ls text) h) [
  | inl e ↦ or_left (matches text l.bytes) (is_matched (map (with_letter letter false) ls) text) e
  | inr e ↦ or_right (matches text l.bytes) (is_matched (map (with_letter letter false) ls) text) (any-lettered text letter ls e)
]

any-set : (text : List ℕ) (place : ℕ) (line d : Line) (ls : List Line) → line.bytes ≡ (get_or ls place d).bytes → is_matched ls text ≡ true → is_matched (set ls place line) text ≡ true
any-set text place line d [] same h = h
any-set text zero line d (l ∷ ls) same h = subst (λ (b : List ℕ). matches text b || is_matched ls text ≡ true) (sym same) h
any-set text (suc place) line d (l ∷ ls) same h = elim (or_cases (matches text l.bytes) (is_matched ls text) h) [
  | inl e ↦ or_left (matches text l.bytes) (is_matched (set ls place line) text) e
  | inr e ↦ or_right (matches text l.bytes) (is_matched (set ls place line) text) (any-set text place line d ls same e)
]

any-marked : (text : List ℕ) (place letter : ℕ) (ls : List Line) → is_matched ls text ≡ true → is_matched (marked_at place letter ls) text ≡ true
any-marked text place letter ls h =
    let others : List Line = map (with_letter letter false) ls in
    any-set text place (with_letter letter true (get_or others place (plain_line []))) (plain_line []) others refl (any-lettered text letter ls h)

-- of lines without their flags
matched-unflagged : (text : List ℕ) (ls : List Line) → is_matched (unflagged ls) text ≡ is_matched ls text
matched-unflagged text [] = refl
matched-unflagged text (l ∷ ls) = ap (λ (b : Bool). matches text l.bytes || b) (matched-unflagged text ls)

matched-alike : (text : List ℕ) (ls ms : List Line) → Alike ls ms → is_matched ls text ≡ true → is_matched ms text ≡ true
matched-alike text ls ms h e = sym (matched-unflagged text ms) ∙ ap (λ (ns : List Line). is_matched ns text) (sym h) ∙ matched-unflagged text ls ∙ e

-- SETS OF PATTERNS

-- where what matches some lines matches others
pub matched-more : (has : List (List ℕ)) (ls ms : List Line) → ((text : List ℕ) → is_matched ls text ≡ true → is_matched ms text ≡ true) → AreMatched has ls → AreMatched has ms
matched-more has ls ms k h = passes-more (is_matched ls) (is_matched ms) has k h

pub are-matched-alike : (has : List (List ℕ)) (ls ms : List Line) → Alike ls ms → AreMatched has ls → AreMatched has ms
are-matched-alike has ls ms a h = matched-more has ls ms (λ text e. matched-alike text ls ms a e) h

pub are-matched-kept : (has : List (List ℕ)) (ls : List Line) → AreMatched has ls → AreMatched has (unflagged ls)
are-matched-kept has ls h = matched-more has ls (unflagged ls) (λ text e. matched-unflagged text ls ∙ e) h

-- a pattern that is gained matches an entered line
pub entered-matched : (text : List ℕ) (ts : List (List ℕ)) → list_any (matches text) ts ≡ true → is_matched (map plain_line ts) text ≡ true
entered-matched text [] h = absurd cc
entered-matched text (t ∷ ts) h = elim (or_cases (matches text t) (list_any (matches text) ts) h) [
  | inl e ↦ or_left (matches text t) (is_matched (map plain_line ts) text) e
  | inr e ↦ or_right (matches text t) (is_matched (map plain_line ts) text) (entered-matched text ts e)
]

gained-matched : (watched ts : List (List ℕ)) (a b : ℕ) (ls : List Line) → AreMatched (gained watched ts) (parts.exchanged a b (map plain_line ts) ls)
gained-matched watched ts a b ls =
    filter-implied (is_matched (parts.exchanged a b (map plain_line ts) ls)) (λ text. list_any (matches text) ts) watched
    (λ text h. any-new (λ line. matches text line.bytes) a b (map plain_line ts) ls (entered-matched text ts h))

none-gained : (watched : List (List ℕ)) (ls : List Line) → AreMatched (gained watched []) ls
none-gained watched ls = filter-implied (is_matched ls) (λ text. list_any (matches text) []) watched (λ text h. absurd cc)

-- WHAT A COMMAND LEAVES

-- `j`, where it is known whether lines are joined
abbrev pub Joins : Certainty → Span → Type 0
Joins Never x = nat_lt x.first x.last ≡ false
Joins Maybe x = Unit {0}
Joins Surely x = nat_lt x.first x.last ≡ true

-- what is asked of the lines of some commands
abbrev pub Suiting : Addresses → Bounds → List Line → Verb → Span → Type 0
Suiting given zone lines ed.Join x = Joins (joining_given given zone) x
Suiting given zone lines (ed.Copy to) x = 1 ≤ length (texts (parts.between x.first x.last lines))
Suiting given zone lines _ x = Unit {0}

-- a command that began in the state s, where an editor was e; with its lines taken they are u and q
module _ (watched : List (List ℕ)) (listed : Bool) (given : Addresses) (s u : State) (e q : editor.State) (begun : MatchesHold s.matches e.lines e.past)
    (holds : MatchesHold u.matches q.lines q.past) (may : AllowsPast u.undo q.past) where
  -- what an effect leaves
  abbrev Leaves : Matches → Outcome → Type 0
  Leaves m o = MatchesHold m o.state.lines (settled listed (kept e) o).past

  abbrev Left : List (List ℕ) → List (List ℕ) → Outcome → Type 0
  Left has old_has = Leaves (record { has = has; old_has = old_has })

  -- the lines that undo would bring back, where the buffer was surely changed, surely not, or maybe
  never-kept : KeepsMatched (old_matched_unless listed Never s u) q.past
  never-kept = elim listed as (λ b. KeepsMatched (old_matched_unless b Never s u) q.past) [ true ↦ holds.1 | false ↦ holds.1 ]

  surely-kept : KeepsMatched (old_matched_unless listed Surely s u) (past_after listed (kept e) q.past)
  surely-kept = elim listed as (λ b. KeepsMatched (old_matched_unless b Surely s u) (past_after b (kept e) q.past)) [ true ↦ holds.1 | false ↦ are-matched-kept s.matches.has e.lines begun.0 ]

  both-now : (past : Past) (was : Option Old) → AllowsPast (record u.undo { was = was }) past → KeepsMatched u.matches.old_has past → KeepsMatched (old_has_of_both was (Some s.zone) u.matches.old_has s.matches.has) past
  both-now Nothing was a k = tt
  both-now Same was a k = tt
  both-now (Was before) None a k = absurd a
  both-now (Was before) (Some old) a k = both-passes (is_matched before.lines) u.matches.old_has s.matches.has k

  both-start : (was : Option Old) → AreMatched (old_has_of_both was (Some s.zone) u.matches.old_has s.matches.has) (unflagged e.lines)
  both-start None = are-matched-kept s.matches.has e.lines begun.0
  both-start (Some old) = both-passes_other (is_matched (unflagged e.lines)) u.matches.old_has s.matches.has (are-matched-kept s.matches.has e.lines begun.0)

  maybe-kept : KeepsMatched (old_matched_unless listed Maybe s u) q.past
  maybe-kept = elim listed as (λ b. KeepsMatched (old_matched_unless b Maybe s u) q.past) [ true ↦ holds.1 | false ↦ both-now q.past u.undo.was may holds.1 ]

  maybe-changed : KeepsMatched (old_matched_unless listed Maybe s u) (past_after listed (kept e) q.past)
  maybe-changed = elim listed as (λ b. KeepsMatched (old_matched_unless b Maybe s u) (past_after b (kept e) q.past)) [ true ↦ holds.1 | false ↦ both-start u.undo.was ]

  -- entered lines
  gained-left : (place : ℕ) (ts : List (List ℕ)) → AreMatched (with_texts (gained watched ts) u.matches.has) (parts.inserted place (map plain_line ts) q.lines)
  gained-left place ts =
      let ls : List Line = parts.inserted place (map plain_line ts) q.lines in
      with_texts-passes (is_matched ls) (gained watched ts) u.matches.has (gained-matched watched ts place place q.lines)
      (matched-more u.matches.has q.lines ls (λ text h. any-inserted (λ line. matches text line.bytes) place (map plain_line ts) q.lines h) holds.0)

  gained-none : AreMatched (with_texts (gained watched []) u.matches.has) q.lines
  gained-none = with_texts-passes (is_matched q.lines) (gained watched []) u.matches.has (none-gained watched q.lines) holds.0

  inserted-left : (place : ℕ) (new : List Line) → AreMatched u.matches.has (parts.inserted place new q.lines)
  inserted-left place new = matched-more u.matches.has q.lines (parts.inserted place new q.lines) (λ text h. any-inserted (λ line. matches text line.bytes) place new q.lines h) holds.0

  append-left : (ts : List (List ℕ)) (x : Span) → Leaves (matches_after watched listed given (verbs.Enters ts) s u) (effects.append ts x q)
  append-left [] x = (gained-none, never-kept)
  append-left (t ∷ ts) x = (gained-left x.first (t ∷ ts), surely-kept)

  insert-left : (ts : List (List ℕ)) (x : Span) → Leaves (matches_after watched listed given (verbs.Enters ts) s u) (effects.insert ts x q)
  insert-left [] x = (gained-none, never-kept)
  insert-left (t ∷ ts) x = (gained-left (x.first - 1) (t ∷ ts), surely-kept)

  change-left : (ts : List (List ℕ)) (x : Span) → Leaves (matches_after watched listed given (verbs.Replaces ts) s u) (effects.change ts x q)
  change-left [] x = (none-gained watched (parts.replaced x.first x.last [] q.lines), surely-kept)
  change-left (t ∷ ts) x = (gained-matched watched (t ∷ ts) (x.first - 1) x.last q.lines, surely-kept)

  -- `j`
  abbrev join-where : Bool → Span → Outcome
  join-where b x = elim b as (λ _. Outcome) [
    | true ↦ effects.altered (parts.replaced x.first x.last (plain_line (concat (texts (parts.between x.first x.last q.lines))) ∷ []) q.lines) x.first q
    | false ↦ effects.only q []
  ]

  join-by : (a : Certainty) (x : Span) → Joins a x → Left (kept_unless a u.matches.has) (old_matched_unless listed a s u) (effects.join x q)
  join-by Never x h = subst (λ (b : Bool). Left u.matches.has (old_matched_unless listed Never s u) (join-where b x)) (sym h) (holds.0, never-kept)
  join-by Maybe x h =
      elim (nat_lt x.first x.last) as (λ b. Left [] (old_matched_unless listed Maybe s u) (join-where b x)) [
        | true ↦ (refl, maybe-changed)
        | false ↦ (refl, maybe-kept)
      ]
  join-by Surely x h = subst (λ (b : Bool). Left [] (old_matched_unless listed Surely s u) (join-where b x)) (sym h) (refl, surely-kept)

  -- `m`
  move-left : (x : Span) (target : ℕ) → x.first ≤ x.last + 1 → OnMade (Left u.matches.has (old_matched_unless listed Surely s u)) (making (effects.move x target q))
  move-left x target le =
      let place : ℕ = effects.place_left x target in
      elim (nat_le x.first target && nat_le target x.last) as (λ c. OnMade (Left u.matches.has (old_matched_unless listed Surely s u)) (making (elim c as (λ _. Result Outcome Fault) [
        | true ↦ Err fault.Destination
        | false ↦ Ok (effects.altered (parts.carried (x.first - 1) x.last place q.lines) (place + length (parts.between x.first x.last q.lines)) q)
      ]))) [
        | true ↦ tt
        | false ↦ (
          matched-more u.matches.has q.lines (parts.carried (x.first - 1) x.last place q.lines)
              (λ text h. any-carried (λ line. matches text line.bytes) (x.first - 1) x.last place q.lines (omega arith) h) holds.0,
          surely-kept,
        )
      ]

  -- `t`, of some lines
  copy-left : (target : ℕ) (ts : List (List ℕ)) → 1 ≤ length ts → Left u.matches.has (old_matched_unless listed Surely s u) (effects.entered target ts q)
  copy-left target [] h = absurd (omega arith)
  copy-left target (t ∷ ts) h = (inserted-left target (map plain_line (t ∷ ts)), surely-kept)

  -- `s`
  made-left : (form : Option Form) (x : Span) (t : editor.State) (new : Results) → t.past ≡ q.past → IfOk (made listed form x t new) (Left [] (old_matched_unless listed Surely s u))
  made-left form x t (lines, None) same =
      elim listed as (λ b. IfOk (elim b as (λ _. Result Outcome Fault) [ true ↦ Ok (effects.only t []) | false ↦ Err fault.NoMatch ]) (λ (o : Outcome). AreMatched [] o.state.lines × KeepsMatched (old_matched_unless b Surely s u) (settled b (kept e) o).past)) [
        | true ↦ (refl, subst (λ (p : Past). KeepsMatched u.matches.old_has p) (sym same) holds.1)
        | false ↦ tt
      ]
  made-left form x t (lines, Some n) same =
      (refl, subst (λ (p : Past). KeepsMatched (old_matched_unless listed Surely s u) (past_after listed (kept e) p)) (sym same) surely-kept)

  substitute-left : (pattern : Option (List ℕ)) (replacement : Option (List Part)) (choice : Which) (form : Option Form) (x : Span) →
      OnMade (Left [] (old_matched_unless listed Surely s u)) (making (substitute listed pattern replacement choice form x q))
  substitute-left pattern replacement choice form x =
      let L : Outcome → Type 0 = Left [] (old_matched_unless listed Surely s u) in
      OnMade-bind L L (substitute listed pattern replacement choice form x q) (λ (o : Outcome). Ok (Makes o))
      (IfOk-bind (λ (_ : List Part). Unit {0}) L (used_replacement listed replacement q) _ (always (used_replacement listed replacement q))
      (λ given_parts _. IfOk-bind (λ (_ : List ℕ). Unit {0}) L (used_pattern pattern q) _ (always (used_pattern pattern q))
      (λ text _. made-left form x (record q { pattern = Some text; replacement = Some given_parts }) (each (made_of text given_parts choice) (parts.between x.first x.last q.lines)) refl)))
      (λ o k. k)

  -- files
  bytes-left : (P : Outcome → Type 0) (path : List ℕ) (answer : Option Answer) (make : List ℕ → Outcome) → ((bytes : List ℕ) → P (make bytes)) → OnMade P (with_bytes path answer make)
  bytes-left P path None make h = tt
  bytes-left P path (Some (file_answer.Bytes bytes)) make h = h bytes
  bytes-left P path (Some file_answer.Missing) make h = tt
  bytes-left P path (Some file_answer.Refused) make h = tt
  bytes-left P path (Some file_answer.Done) make h = tt

  entered-left : (place : ℕ) (ts : List (List ℕ)) (used : List ℕ) → Left u.matches.has (old_matched_unless listed Maybe s u) (effects.entered place ts (file.named_first used q))
  entered-left place [] used = (holds.0, maybe-kept)
  entered-left place (t ∷ ts) used = (inserted-left place (map plain_line (t ∷ ts)), maybe-changed)

  read-left : (path : Option (List ℕ)) (answer : Option Answer) (x : Span) → OnMade (Left u.matches.has (old_matched_unless listed Maybe s u)) (file.read path answer x q)
  read-left path answer x =
      let L : Outcome → Type 0 = Left u.matches.has (old_matched_unless listed Maybe s u) in
      OnMade-bind (λ (_ : List ℕ). Unit {0}) L (used_path path q) _ (always (used_path path q))
      (λ used _. bytes-left L used answer (λ bytes. effects.entered x.first (lines_of bytes) (file.named_first used q)) (λ bytes. entered-left x.first (lines_of bytes) used))

  lines-left : (used : List ℕ) (answer : Option Answer) (x : Span) → OnMade (Left u.matches.has (old_matched_unless listed Never s u)) (with_lines used answer x q)
  lines-left used None x = tt
  lines-left used (Some file_answer.Done) x = (holds.0, never-kept)
  lines-left used (Some (file_answer.Bytes bytes)) x = tt
  lines-left used (Some file_answer.Missing) x = tt
  lines-left used (Some file_answer.Refused) x = tt

  write-left : (path : Option (List ℕ)) (answer : Option Answer) (x : Span) → OnMade (Left u.matches.has (old_matched_unless listed Never s u)) (file.write path answer x q)
  write-left path answer x =
      OnMade-bind (λ (_ : List ℕ). Unit {0}) (Left u.matches.has (old_matched_unless listed Never s u)) (used_path path q) _ (always (used_path path q)) (λ used _. lines-left used answer x)

  edit_anyway-left : (path : Option (List ℕ)) (answer : Option Answer) (t : editor.State) → OnMade (Left [] []) (file.edit_anyway path answer t)
  edit_anyway-left path answer t =
      OnMade-bind (λ (_ : List ℕ). Unit {0}) (Left [] []) (used_path path t) _ (always (used_path path t))
      (λ used _. bytes-left (Left [] []) used answer (λ bytes. effects.only (file.loaded bytes used t) []) (λ bytes. (refl, tt)))

  edit-left : (path : Option (List ℕ)) (answer : Option Answer) → OnMade (Left [] []) (file.edit path answer q)
  edit-left path answer =
      OnMade-bind (λ (_ : List ℕ). Unit {0}) (Left [] []) (used_path path q) _ (always (used_path path q))
      (λ used _. OnMade-bind (λ (_ : editor.State). Unit {0}) (Left [] []) (file.saved q) _ (always (file.saved q)) (λ t _. edit_anyway-left (Some used) answer t))

  name-left : (path : Option (List ℕ)) → OnMade (Left u.matches.has (old_matched_unless listed Never s u)) (making (file.file_name path q))
  name-left path =
      let L : Outcome → Type 0 = Left u.matches.has (old_matched_unless listed Never s u) in
      OnMade-bind L L (file.file_name path q) (λ (o : Outcome). Ok (Makes o))
      (IfOk-bind (λ (_ : List ℕ). Unit {0}) L (used_path path q) _ (always (used_path path q)) (λ used _. (holds.0, never-kept)))
      (λ o k. k)

  quit-left : OnMade (Left u.matches.has (old_matched_unless listed Never s u)) (making (file.quit q))
  quit-left =
      let L : Outcome → Type 0 = Left u.matches.has (old_matched_unless listed Never s u) in
      elim q.changed as (λ c. OnMade L (making ((elim c as (λ _. Result editor.State Fault) [ true ↦ Err fault.Unsaved | false ↦ Ok q ]) >> λ t. Ok (effects.only t [])))) [
        | true ↦ tt
        | false ↦ (holds.0, never-kept)
      ]

  -- `g` and `v`
  flag-left : (sense : Sense) (pattern : Option (List ℕ)) (x : Span) → x.first ≤ x.last + 1 →
      OnMade (Left u.matches.has (old_matched_unless listed Never s u)) (flagged sense pattern x q >> λ t. Ok (Makes (effects.only t [])))
  flag-left sense pattern x le =
      let L : Outcome → Type 0 = Left u.matches.has (old_matched_unless listed Never s u) in
      let Q : editor.State → Type 0 = λ (t : editor.State). AreMatched u.matches.has t.lines × KeepsMatched (old_matched_unless listed Never s u) t.past in
      OnMade-bind Q L (flagged sense pattern x q) _
      (IfOk-bind (λ (_ : List ℕ). Unit {0}) Q (used_pattern pattern q) _ (always (used_pattern pattern q))
      (λ text _. (
        are-matched-alike u.matches.has q.lines (parts.replaced x.first x.last (map (flagged_line sense text) (parts.between x.first x.last q.lines)) q.lines) (alike-taken sense text x.first x.last q.lines le) holds.0,
        never-kept,
      )))
      (λ t k. k)

  -- `u`
  same-left : (same : Bool) (was : Option Old) → same ≡ true → AreMatched (matches_by_undo same was u.matches).has q.lines
  same-left same None h = holds.0
  same-left true (Some old) h = both-passes (is_matched q.lines) u.matches.has u.matches.old_has holds.0
  same-left false (Some old) h = absurd cc

  was-left : (same : Bool) (was : Option Old) (before : Kept) → AllowsKept was before → AreMatched u.matches.old_has before.lines →
      MatchesHold (matches_by_undo same was u.matches) before.lines (Was (kept q))
  was-left same None before a k = absurd a
  was-left true (Some old) before a k =
      (both-passes_other (is_matched before.lines) u.matches.has u.matches.old_has k, both-passes_other (is_matched (unflagged q.lines)) u.matches.old_has u.matches.has (are-matched-kept u.matches.has q.lines holds.0))
  was-left false (Some old) before a k = (k, are-matched-kept u.matches.has q.lines holds.0)

  undo-by : (past : Past) → AllowsPast u.undo past → KeepsMatched u.matches.old_has past → q.past ≡ past →
      OnMade (Leaves (matches_by_undo u.undo.same u.undo.was u.matches)) (making (effects.undo past q))
  undo-by Nothing a k is = tt
  undo-by Same a k is = (same-left u.undo.same u.undo.was a, subst (λ (p : Past). KeepsMatched (matches_by_undo u.undo.same u.undo.was u.matches).old_has p) (sym is) tt)
  undo-by (Was before) a k is = was-left u.undo.same u.undo.was before a k

  pub effect-left : (verb : Verb) (x : Span) (target : ℕ) (answer : Option Answer) → x.first ≤ x.last + 1 → Suiting given u.zone q.lines verb x →
      OnMade (Leaves (matches_after watched listed given (takes verb).lines s u)) (effect_of verb listed x target q answer)
  effect-left (ed.Append text) x target answer le k = append-left text x
  effect-left (ed.Change text) x target answer le k = change-left text x
  effect-left ed.Delete x target answer le k = (refl, surely-kept)
  effect-left (ed.Insert text) x target answer le k = insert-left text x
  effect-left ed.Join x target answer le k = join-by (joining_given given u.zone) x k
  effect-left (ed.Mark letter) x target answer le k =
      (matched-more u.matches.has q.lines (marked_at (x.last - 1) letter q.lines) (λ text h. any-marked text (x.last - 1) letter q.lines h) holds.0, never-kept)
  effect-left (ed.Move to) x target answer le k = move-left x target le
  effect-left (ed.Copy to) x target answer le k = copy-left target (texts (parts.between x.first x.last q.lines)) k
  effect-left (ed.Substitute pattern replacement choice form) x target answer le k = substitute-left pattern replacement choice form x
  effect-left (ed.ReadFile path) x target answer le k = read-left path answer x
  effect-left (ed.WriteFile path) x target answer le k = write-left path answer x
  effect-left (ed.Edit path) x target answer le k = edit-left path answer
  effect-left (ed.EditAnyway path) x target answer le k = edit_anyway-left path answer q
  effect-left (ed.FileName path) x target answer le k = name-left path
  effect-left (ed.Global sense pattern) x target answer le k = flag-left sense pattern x le
  effect-left ed.Undo x target answer le k = undo-by q.past may holds.1 refl
  effect-left ed.Quit x target answer le k = quit-left
  effect-left _ x target answer le k = (holds.0, never-kept)

  -- once it is settled
  settled-lines : (has : List (List ℕ)) (o : Outcome) → AreMatched has o.state.lines → AreMatched has (settled listed (kept e) o).lines
  settled-lines has o h = elim o.alters as (λ b. AreMatched has (settled listed (kept e) (record o { alters = b })).lines) [ true ↦ h | false ↦ h ]

  pub completed-left : (c : Command) → c.listed ≡ listed → (m : Matches) (y : Result Effect Fault) → OnMade (Leaves m) y →
      OnMade (λ (o : Outcome). MatchesHold m o.state.lines o.state.past) (y >> completed c e)
  completed-left c same m (Err f) h = tt
  completed-left c same m (Ok (Asks r)) h = tt
  completed-left c same m (Ok (Makes o)) h =
      let M : editor.State → Type 0 = λ (t : editor.State). MatchesHold m t.lines t.past in
      OnMade-bind (λ (_ : List ℕ). Unit {0}) (λ (p : Outcome). M p.state) (suffix_written c.suffix o.state) _ (always (suffix_written c.suffix o.state))
      (λ more _. subst (λ (b : Bool). M (settled b (kept e) o)) (sym same) (settled-lines m.has o h.0, h.1))
