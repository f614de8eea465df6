-- A command's letter with parameters on its own line: what is read is spelled so, and what is spelled so is read.
use Rattle.std.proofs.Common.{◌≡◌, ℕ, map, ◌+◌, ◌<◌, nat_eq, List, [], ◌∷◌, Option, Some, None, refl, sym, ap, ◌∙◌, subst}
use Rattle.std.specs.Prelude.{All, Bool, true, false, not, Contains}
use Rattle.std.specs.List.{list_all}
use Rattle.std.proofs.lemmas.Bool.{eqb-true, not-true}
use Rattle.std.proofs.lemmas.List.Elements.{All-nil, All-cons, All-contains, Contains-append_left, Contains-append_right, Contains-push}
use Rattle.std.proofs.lemmas.List.Sums.{AllPass-from_list_all}
use Rattle.ed_syntax.specs.spelling.Characters.{after_blanks}
use Rattle.ed_syntax.specs.spelling.Letters.{letter_a, letter_k, letter_m, letter_t}
use Rattle.ed_syntax.specs.Commands as ed
use Rattle.ed_syntax.specs.Commands.{Address, Verb}
use Rattle.ed_syntax.specs.meaning.Verbs.{takes}
use Rattle.ed_syntax.specs.spelling.Addressing.{SpellsAddress}
use Rattle.ed_syntax.specs.spelling.Parameters.{SpellsPath}
use Rattle.ed_syntax.specs.spelling.CommandLetters.{plain_verbs, file_verbs}
use Rattle.ed_syntax.specs.reading.Tokens.{Parsed, ◌>>=◌, letter, address}
use Rattle.ed_syntax.specs.reading.ReadGlobals.{sense_at}
use Rattle.ed_syntax.specs.reading.ReadVerbs.{beside_letter, path_at, file_verb, lettered, target, verb_at}
use Rattle.ed_syntax.proofs.meaning.StepLemmas.{Some-same, none_some, bind-some, either}
use Rattle.ed_syntax.proofs.reader.PathLemmas.{path-sound, path-complete}
use Rattle.ed_syntax.proofs.reader.AddressLemmas.{letter-sound, letter-complete, address-sound, address-complete}

-- a command's letter with its parameters, what stands after it on the line, and its verb before a text is read
pub data SpellsLetter : (own more : List ℕ) → Verb → Type 0 where
  null : SpellsLetter [] [] ed.Null
  plain : (b : ℕ) (more : List ℕ) (verb : Verb) → Contains plain_verbs (b, verb) → SpellsLetter (b ∷ more) more verb
  mark : (letter : ℕ) (more : List ℕ) → letter < 26 → SpellsLetter (letter_k ∷ (letter_a + letter) ∷ more) more (ed.Mark letter)
  move : (own more : List ℕ) (target : Address) → SpellsAddress (after_blanks own) more (Some target) → SpellsLetter (letter_m ∷ own) more (ed.Move target)
  copy : (own more : List ℕ) (target : Address) → SpellsAddress (after_blanks own) more (Some target) → SpellsLetter (letter_t ∷ own) more (ed.Copy target)
  file : (b : ℕ) (own : List ℕ) (path : Option (List ℕ)) (verb : Verb) → Contains (file_verbs path) (b, verb) → SpellsPath own path → SpellsLetter (b ∷ own) [] verb

-- a verb that is found beside a letter stands there in the table
beside-sound : (entries : List (ℕ × Verb)) (b : ℕ) (verb : Verb) → beside_letter b entries ≡ Some verb → Contains entries (b, verb)
beside-sound [] b = λ verb is. absurd (none_some is)
beside-sound ((code, own) ∷ entries) b =
    let table : List (ℕ × Verb) = (code, own) ∷ entries in
    either (λ (read : Option Verb). (other : Verb) → read ≡ Some other → Contains table (b, other)) (nat_eq b code) (Some own)
    (beside_letter b entries)
    (λ here other is. subst (λ (v : Verb). Contains table (b, v)) (Some-same own other is)
    (subst (λ (c : ℕ). Contains table (c, own)) (sym (eqb-true b code here))
    (Contains-append_left ((code, own) ∷ []) entries (code, own) (Contains-push [] (code, own)))))
    (λ later other is. Contains-append_right ((code, own) ∷ []) entries (b, other) (beside-sound entries b other is))

-- what a test tells of each entry
pub of-entry : (test : ℕ × Verb → Bool) (entries : List (ℕ × Verb)) (e : ℕ × Verb) → list_all test entries ≡ true → Contains entries e →
    test e ≡ true
of-entry test entries e all is = All-contains (λ (e : ℕ × Verb). test e ≡ true) entries e (AllPass-from_list_all test entries all) is

-- no text follows a path
pub file-text : (path : Option (List ℕ)) (b : ℕ) (verb : Verb) → Contains (file_verbs path) (b, verb) → (takes verb).text ≡ false
file-text path b verb is =
    not-true (takes verb).text (of-entry (λ (e : ℕ × Verb). not (takes e.1).text) (file_verbs path) (b, verb) refl is)

-- a target that is read is spelled so
target-sound : (text : List ℕ) (r : Address × List ℕ) → target text ≡ Some r → SpellsAddress (after_blanks text) r.1 (Some r.0)
target-sound text r is =
    let found = bind-some (address (after_blanks text)) (λ r. r.0 >>= λ a. Some (a, r.1)) r is in
    let given = bind-some found.0.0 (λ a. Some (a, found.0.1)) r found.2 in
    subst (λ (r : Address × List ℕ). SpellsAddress (after_blanks text) r.1 (Some r.0)) (Some-same (given.0, found.0.1) r given.2)
    (subst (SpellsAddress (after_blanks text) found.0.1) given.1 (address-sound (after_blanks text) found.0 found.1))

-- a target that is spelled so is read
target-complete : (text more : List ℕ) (a : Address) → SpellsAddress (after_blanks text) more (Some a) → target text ≡ Some (a, more)
target-complete text more a is = ap (λ (o : Parsed (Option Address)). o >>= λ r. r.0 >>= λ a. Some (a, r.1)) (address-complete is)

-- what is read of these bytes is a letter with its parameters
abbrev VerbRead : List ℕ → Parsed Verb → Type 0
VerbRead own read = (r : Verb × List ℕ) → read ≡ Some r → SpellsLetter own r.1 r.0

-- one that is spelled so
known : (own more : List ℕ) (verb : Verb) → SpellsLetter own more verb → VerbRead own (Some (verb, more))
known own more verb spells r is = subst (λ (r : Verb × List ℕ). SpellsLetter own r.1 r.0) (Some-same (verb, more) r is) spells

-- one with a parameter
with_parameter : {A : Type 0} (own : List ℕ) (part : Parsed A) (of : A → Verb) → ((found : A) (more : List ℕ) → part ≡ Some (found, more) → SpellsLetter own more (of found)) →
    VerbRead own (part >>= λ r. Some (of r.0, r.1))
with_parameter own part of spells r is =
    let found = bind-some part (λ r. Some (of r.0, r.1)) r is in
    known own found.0.1 (of found.0.0) (spells found.0.0 found.0.1 found.1) r found.2

-- one at this byte
at_byte : (b code : ℕ) (bs : List ℕ) (read : Parsed Verb) → nat_eq b code ≡ true → VerbRead (code ∷ bs) read → VerbRead (b ∷ bs) read
at_byte b code bs read same is = subst (λ b. VerbRead (b ∷ bs) read) (sym (eqb-true b code same)) is

mark-read : (bs : List ℕ) → VerbRead (letter_k ∷ bs) (letter bs >>= λ r. Some (ed.Mark r.0, r.1))
mark-read bs = with_parameter (letter_k ∷ bs) (letter bs) ed.Mark (λ l more is.
    let found = letter-sound bs (l, more) is in
    subst (λ bs. SpellsLetter (letter_k ∷ bs) more (ed.Mark l)) (sym found.split) (mark l more found.small))

move-read : (bs : List ℕ) → VerbRead (letter_m ∷ bs) (target bs >>= λ r. Some (ed.Move r.0, r.1))
move-read bs = with_parameter (letter_m ∷ bs) (target bs) ed.Move (λ a more is. move bs more a (target-sound bs (a, more) is))

copy-read : (bs : List ℕ) → VerbRead (letter_t ∷ bs) (target bs >>= λ r. Some (ed.Copy r.0, r.1))
copy-read bs = with_parameter (letter_t ∷ bs) (target bs) ed.Copy (λ a more is. copy bs more a (target-sound bs (a, more) is))

file-read : (b : ℕ) (bs : List ℕ) → VerbRead (b ∷ bs) (file_verb b bs)
file-read b bs r is =
    let path = bind-some (path_at bs) (λ path. beside_letter b (file_verbs path) >>= λ verb. Some (verb, [])) r is in
    let verb = bind-some (beside_letter b (file_verbs path.0)) (λ verb. Some (verb, [])) r path.2 in
    known (b ∷ bs) [] verb.0 (file b bs path.0 verb.0 (beside-sound (file_verbs path.0) b verb.0 verb.1) (path-sound bs path.0 path.1)) r verb.2

-- what is read of a letter, by the verb that stands beside it if it has no parameters
abbrev by_letter : ℕ → List ℕ → Option Verb → Parsed Verb
by_letter b bs (Some verb) = Some (verb, bs)
by_letter b bs None = file_verb b bs

lettered-by : (b : ℕ) (bs : List ℕ) (o : Option Verb) → beside_letter b plain_verbs ≡ o → lettered b bs ≡ by_letter b bs o
lettered-by b bs None is = rw (is, lettered) refl
lettered-by b bs (Some verb) is = rw (is, lettered) refl

by_letter-read : (b : ℕ) (bs : List ℕ) (o : Option Verb) → beside_letter b plain_verbs ≡ o → VerbRead (b ∷ bs) (by_letter b bs o)
by_letter-read b bs None is = file-read b bs
by_letter-read b bs (Some verb) is = known (b ∷ bs) bs verb (plain b bs verb (beside-sound plain_verbs b verb is))

lettered-read : (b : ℕ) (bs : List ℕ) → VerbRead (b ∷ bs) (lettered b bs)
lettered-read b bs = subst (VerbRead (b ∷ bs)) (sym (lettered-by b bs (beside_letter b plain_verbs) refl)) (by_letter-read b bs (beside_letter b plain_verbs) refl)

-- what is read as a verb is its letter with its parameters
pub verb_at-sound : (own : List ℕ) (r : Verb × List ℕ) → verb_at own ≡ Some r → SpellsLetter own r.1 r.0
verb_at-sound [] = known [] [] ed.Null null
verb_at-sound (b ∷ bs) =
    let P = VerbRead (b ∷ bs) in
    either P (nat_eq b letter_k) _ _ (λ marks. at_byte b letter_k bs _ marks (mark-read bs))
    (λ no_k. either P (nat_eq b letter_m) _ _ (λ moves. at_byte b letter_m bs _ moves (move-read bs))
    (λ no_m. either P (nat_eq b letter_t) _ _ (λ copies. at_byte b letter_t bs _ copies (copy-read bs))
    (λ no_t. lettered-read b bs)))

verb_at-mark : (bs : List ℕ) → verb_at (letter_k ∷ bs) ≡ (letter bs >>= λ r. Some (ed.Mark r.0, r.1))
verb_at-mark bs = refl

verb_at-move : (bs : List ℕ) → verb_at (letter_m ∷ bs) ≡ (target bs >>= λ r. Some (ed.Move r.0, r.1))
verb_at-move bs = refl

verb_at-copy : (bs : List ℕ) → verb_at (letter_t ∷ bs) ≡ (target bs >>= λ r. Some (ed.Copy r.0, r.1))
verb_at-copy bs = refl

-- where two functions tell the same of each row of a table
same-rows : {X Y : Type 0} (f g : X → Y) (xs : List X) → map f xs ≡ map g xs → All (λ (x : X). f x ≡ g x) xs
same-rows {X} f g [] h = All-nil (λ (x : X). f x ≡ g x)
same-rows {X} f g (x ∷ xs) h =
    let here : f x ≡ g x = cc in
    let later : map f xs ≡ map g xs = cc in
    All-cons (λ (x : X). f x ≡ g x) x xs here (same-rows f g xs later)

same-row : {X Y : Type 0} (f g : X → Y) (xs : List X) (x : X) → map f xs ≡ map g xs → Contains xs x → f x ≡ g x
same-row {X} f g xs x h is = All-contains (λ (x : X). f x ≡ g x) xs x (same-rows f g xs h) is

-- a letter without parameters is read, and is none of a global command
plain-read : (b : ℕ) (verb : Verb) → Contains plain_verbs (b, verb) → (more : List ℕ) → verb_at (b ∷ more) ≡ Some (verb, more)
plain-read b verb is more =
    same-row (λ (e : ℕ × Verb). verb_at (e.0 ∷ more)) (λ (e : ℕ × Verb). Some (e.1, more)) plain_verbs (b, verb) refl is

pub plain-unsensed : (b : ℕ) (verb : Verb) → Contains plain_verbs (b, verb) → (more : List ℕ) → sense_at (b ∷ more) ≡ None
plain-unsensed b verb is more =
    same-row (λ (e : ℕ × Verb). sense_at (e.0 ∷ more)) (λ (e : ℕ × Verb). None) plain_verbs (b, verb) refl is

-- so is a letter with a path
on_file-read : (path : Option (List ℕ)) (b : ℕ) (verb : Verb) → Contains (file_verbs path) (b, verb) → (own : List ℕ) →
    verb_at (b ∷ own) ≡ file_verb b own
on_file-read path b verb is own =
    same-row (λ (e : ℕ × Verb). verb_at (e.0 ∷ own)) (λ (e : ℕ × Verb). file_verb e.0 own) (file_verbs path) (b, verb) refl is

pub file-unsensed : (path : Option (List ℕ)) (b : ℕ) (verb : Verb) → Contains (file_verbs path) (b, verb) → (own : List ℕ) →
    sense_at (b ∷ own) ≡ None
file-unsensed path b verb is own =
    same-row (λ (e : ℕ × Verb). sense_at (e.0 ∷ own)) (λ (e : ℕ × Verb). None) (file_verbs path) (b, verb) refl is

beside-file : (path : Option (List ℕ)) (b : ℕ) (verb : Verb) → Contains (file_verbs path) (b, verb) →
    beside_letter b (file_verbs path) ≡ Some verb
beside-file path b verb is =
    same-row (λ (e : ℕ × Verb). beside_letter e.0 (file_verbs path)) (λ (e : ℕ × Verb). Some e.1) (file_verbs path) (b, verb) refl is

file_verb-complete : (b : ℕ) (path : Option (List ℕ)) (verb : Verb) → beside_letter b (file_verbs path) ≡ Some verb → (own : List ℕ) →
    SpellsPath own path → file_verb b own ≡ Some (verb, [])
file_verb-complete b path verb is own spells =
    ap (λ (o : Option (Option (List ℕ))). o >>= λ path. beside_letter b (file_verbs path) >>= λ verb. Some (verb, [])) (path-complete spells)
    ∙ ap (λ (o : Option Verb). o >>= λ verb. Some (verb, [])) is

-- a letter with its parameters is read as its verb
pub verb_at-complete : {own more : List ℕ} {verb : Verb} → SpellsLetter own more verb → verb_at own ≡ Some (verb, more)
verb_at-complete null = refl
verb_at-complete (plain b more verb is) = plain-read b verb is more
verb_at-complete (mark l more small) =
    verb_at-mark ((letter_a + l) ∷ more) ∙ ap (λ (o : Parsed ℕ). o >>= λ r. Some (ed.Mark r.0, r.1)) (letter-complete l more small)
verb_at-complete (move own more a is) = verb_at-move own ∙ ap (λ (o : Parsed Address). o >>= λ r. Some (ed.Move r.0, r.1)) (target-complete own more a is)
verb_at-complete (copy own more a is) = verb_at-copy own ∙ ap (λ (o : Parsed Address). o >>= λ r. Some (ed.Copy r.0, r.1)) (target-complete own more a is)
verb_at-complete (file b own path verb is spells) =
    on_file-read path b verb is own ∙ file_verb-complete b path verb (beside-file path b verb is) own spells
