-- Lines that are rewritten one by one.
use Rattle.std.proofs.Common.{◌≡◌, ℕ, zero, suc, ◌+◌, ◌-◌, ◌<◌, ◌≤◌, Bool, true, false, List, [], ◌∷◌, ◌++◌, take, drop, length, get_or, map, option_map, Option, Some, None, refl, sym, ap, ◌∙◌, subst, arith, append_assoc}
use Rattle.std.specs.Prelude.{unwrap_or, is_some, nat_le, Result, Ok, Err, IfNone}
use Rattle.std.proofs.lemmas.List.Elements.{All-nil, All-cons}
use Rattle.std.proofs.lemmas.List.{drop_all, drop_more, take-append-drop, append-nil, length-append, length-map, length-take-le, get_or_at}
use Rattle.bre_parse.specs.Tree.{Tree}
use Rattle.bre_parse.specs.Grammar.{pattern}
use Rattle.bre_parse.specs.Match.{match_from}
use Rattle.bre_parse.specs.declared.fault.BreFault.{BreFault}
use Rattle.ed_base.specs.Lines.{newline, IsLine}
use Rattle.ed_base.proofs.LineLemmas.{lines_of-bytes_of}
use Rattle.line_store.proofs.Filled.{lines-some}
use Rattle.ed_base.specs.Buffer.{Line, plain_line, texts}
use Rattle.ed_base.specs.Parts.{block, exchanged}
use Rattle.ed_syntax.specs.declared.replacement.Part.{Part}
use Rattle.ed_syntax.specs.declared.replacement.Which.{Which}
use Rattle.ed_syntax.specs.declared.replacement.Which.TheVariants as choice
use Rattle.ed_syntax.specs.meaning.States.{Kept}
use Rattle.ed_syntax.specs.meaning.Substitution.{Found, split_at_newlines, substituted, replaced_in, picked, taken, taken_first, taken_from}
use Rattle.ed_syntax.specs.meaning.SubstitutedLines.{Results, each, made_of, onto}
use Rattle.ed_commands.specs.declared.editor.past.Before.{Before}
use Rattle.ed_commands.specs.Courses.{NoneFrom}
use Rattle.ed_commands.specs.Earlier.{Earlier, PastValue, earlier_after, earlier_of, kept_lines}
use Rattle.ed_commands.specs.Editors.{AreNew}
use Rattle.ed_commands.specs.Rewriting.{earlier_of_rewritten}
use Rattle.ed_commands.proofs.Blocks.{block-more, block-none, length-exchanged, taken-back}
use Rattle.ed_commands.proofs.Changes.{made-new}
use Rattle.ed_commands.proofs.Searching.{text-at}

-- what results of lines, and of one more after them
abbrev pub with_last : Line → Option (List (List ℕ)) → Results → Results
with_last line None earlier = (earlier.0 ++ line ∷ [], earlier.1)
with_last line (Some texts) earlier = (earlier.0 ++ map plain_line texts, Some (length earlier.0 + length texts))

first-last : (first last : Line) (a b : Option (List (List ℕ))) (r : Results) →
    onto first a (with_last last b r) ≡ with_last last b (onto first a r)
first-last first last None None r = refl
first-last first last None (Some texts) r =
    ap (λ n. (first ∷ (r.0 ++ map plain_line texts), Some n))
    (let e : 1 + (length r.0 + length texts) ≡ suc (length r.0) + length texts = omega arith in e)
first-last first last (Some more) None r =
    ap (λ t. (t, Some (length more + unwrap_or r.1 0))) (sym (append_assoc (map plain_line more) r.0 (last ∷ [])))
first-last first last (Some more) (Some texts) r =
    ap (λ t. (t, Some (length more + (length r.0 + length texts)))) (sym (append_assoc (map plain_line more) r.0 (map plain_line texts)))
    ∙ ap (λ n. ((map plain_line more ++ r.0) ++ map plain_line texts, Some n))
    (omega (arith, length-append (map plain_line more) r.0, length-map more plain_line))

of-one : (line : Line) (a : Option (List (List ℕ))) → onto line a ([], None) ≡ with_last line a ([], None)
of-one line None = refl
of-one line (Some texts) =
    ap (λ t. (t, Some (length texts + 0))) (append-nil (map plain_line texts))
    ∙ ap (λ n. (map plain_line texts, Some n)) (let e : length texts + 0 ≡ 0 + length texts = omega arith in e)

each-more : (f : List ℕ → Option (List (List ℕ))) (lines : List Line) (line : Line) →
    each f (lines ++ line ∷ []) ≡ with_last line (f line.bytes) (each f lines)
each-more f [] line = of-one line (f line.bytes)
each-more f (first ∷ lines) line =
    ap (onto first (f first.bytes)) (each-more f lines line) ∙ first-last first line (f first.bytes) (f line.bytes) (each f lines)

-- what results of the lines of a block that goes on to one more
pub each-further : (f : List ℕ → Option (List (List ℕ))) (a i : ℕ) (lines : List Line) (d : Line) → a ≤ i →
    i < length lines → each f (block a (i + 1) lines) ≡ with_last (get_or lines i d) (f (get_or lines i d).bytes)
    (each f (block a i lines))
each-further f a i lines d h k = ap (each f) (block-more a i lines d h k) ∙ each-more f (block a i lines) (get_or lines i d)

-- where the next line stands once those before it were exchanged for these
pub stands-after : (a i : ℕ) (made lines : List Line) (d : Line) → i < length lines →
    exchanged a i made lines ≡ (take a lines ++ made) ++ get_or lines i d ∷ drop (i + 1) lines
stands-after a i made lines d h =
    ap (λ t. take a lines ++ (made ++ t)) (drop_more lines i d h)
    ∙ sym (append_assoc (take a lines) made (get_or lines i d ∷ drop (i + 1) lines))

pub next-line : (a i place : ℕ) (made lines now : List Line) (d : Line) → a ≤ i → i < length lines →
    now ≡ exchanged a i made lines → place ≡ a + length made → get_or now place d ≡ get_or lines i d
next-line a i place made lines now d h k e p =
    ap (λ t. get_or t place d) (e ∙ stands-after a i made lines d k)
    ∙ get_or_at (take a lines ++ made) (get_or lines i d) (drop (i + 1) lines) d place
    (omega (arith, length-append (take a lines) made, length-take-le a lines (omega arith)))

-- how many lines there are then
pub counted : (a i : ℕ) (made lines now : List Line) → a ≤ i → i ≤ length lines → now ≡ exchanged a i made lines →
    length now + i ≡ length lines + (a + length made)
counted a i made lines now h k e = omega (arith, ap length e, length-exchanged a i made lines h k)

-- the same place, counted from the end
pub stands-at : (a i count n : ℕ) (made lines now : List Line) → a ≤ i → i < length lines → now ≡ exchanged a i made lines →
    count ≡ length lines → n ≡ length now → n - (count - i) ≡ a + length made
stands-at a i count n made lines now h k e f g = omega (arith, ap length e, length-exchanged a i made lines h (omega arith))

-- it stays
pub stayed : (a i : ℕ) (made lines : List Line) (d : Line) → i < length lines →
    exchanged a i made lines ≡ exchanged a (i + 1) (made ++ get_or lines i d ∷ []) lines
stayed a i made lines d h =
    stands-after a i made lines d h
    ∙ append_assoc (take a lines) made (get_or lines i d ∷ drop (i + 1) lines)
    ∙ ap (λ t. take a lines ++ t) (sym (append_assoc made (get_or lines i d ∷ []) (drop (i + 1) lines)))

-- or it is exchanged for others
pub gone : (a i place : ℕ) (made new lines now : List Line) (d : Line) → a ≤ i → i < length lines →
    now ≡ exchanged a i made lines → place ≡ a + length made →
    exchanged place (place + 1) new now ≡ exchanged a (i + 1) (made ++ new) lines
gone a i place made new lines now d h k e p =
    ap (exchanged place (place + 1) new) (e ∙ stands-after a i made lines d k)
    ∙ taken-back (take a lines ++ made) (get_or lines i d ∷ []) new (drop (i + 1) lines) place (place + 1)
    (omega (arith, length-append (take a lines) made, length-take-le a lines (omega arith))) refl
    ∙ append_assoc (take a lines) made (new ++ drop (i + 1) lines)
    ∙ ap (λ t. take a lines ++ t) (sym (append_assoc made new (drop (i + 1) lines)))

-- a text that is split is one line at least
pub some-lines : (text : List ℕ) → 0 < length (split_at_newlines text)
some-lines text = lines-some (text ++ newline ∷ []) (omega (arith, length-append text (newline ∷ [])))

-- a text without a newline is one line
pub one-line : (text : List ℕ) → IsLine text → split_at_newlines text ≡ text ∷ []
one-line text h = lines_of-bytes_of (text ∷ []) (All-cons IsLine text [] h (All-nil IsLine))

-- what a pattern's tree makes of a line is what its text makes of it
pub made-by : (text : List ℕ) (tree : Tree) (parts : List Part) (which : Which) (line : List ℕ) (made : Option (List ℕ)) →
    pattern text ≡ Ok tree → made ≡ replaced_in parts line (picked which (taken tree line)) →
    made_of text parts which line ≡ option_map split_at_newlines made
made-by text tree parts which line made h e =
    ap (λ p. elim p [ Ok t ↦ substituted t parts which line | Err fault ↦ None ]) h ∙ ap (option_map split_at_newlines) (sym e)

-- what is kept of earlier buffers before the first line that changes, and after it
pub none-kept : (made : Option ℕ) (listed : Bool) (before : Kept) (e : Earlier) → is_some made ≡ false →
    earlier_of_rewritten made listed before e ≡ e
none-kept None listed before e h = refl
none-kept (Some n) listed before e h = absurd cc

pub some-kept : (made : Option ℕ) (listed : Bool) (before : Kept) (e : Earlier) → is_some made ≡ true →
    earlier_of_rewritten made listed before e ≡ earlier_after listed before e
some-kept None listed before e h = absurd cc
some-kept (Some n) listed before e h = refl

pub when-none : (made : Option ℕ) (P : Type 0) → is_some made ≡ false → IfNone made P → P
when-none None P h p = p
when-none (Some n) P h p = absurd cc

pub first-change : (was : PastValue) (b : Before) (lines old : List Line) (base : Earlier) → lines ≡ old →
    earlier_of was (texts lines) ≡ base → earlier_after b.listed (kept_lines b.current lines)
    (earlier_of was (texts lines)) ≡ earlier_after b.listed (kept_lines b.current old) base
first-change was b lines old base same kept =
    ap (λ k. earlier_after b.listed k (earlier_of was (texts lines))) (ap (kept_lines b.current) same)
    ∙ ap (earlier_after b.listed (kept_lines b.current old)) kept

-- what results with one more line that stays
pub with-none : (line : Line) (texts : Option (List (List ℕ))) (r : Results) → None ≡ option_map (map plain_line) texts →
    with_last line texts r ≡ (r.0 ++ line ∷ [], r.1)
with-none line None r h = refl
with-none line (Some texts) r h = absurd cc

-- or with one that becomes these
pub with-new : (line : Line) (texts : Option (List (List ℕ))) (new : List Line) (r : Results) →
    Some new ≡ option_map (map plain_line) texts → with_last line texts r ≡ (r.0 ++ new, Some (length r.0 + length new))
with-new line None new r h = absurd cc
with-new line (Some texts) new r h =
    let e : new ≡ map plain_line texts = cc in
    rw e (ap (λ n. (r.0 ++ map plain_line texts, Some (length r.0 + n))) (sym (length-map texts plain_line)))

pub new-made : (texts : Option (List (List ℕ))) (new : List Line) → Some new ≡ option_map (map plain_line) texts → AreNew new
new-made None new h = absurd cc
new-made (Some texts) new h = made-new new texts cc

-- and there is one at least
some-split : (made : Option (List ℕ)) (lines : List Line) →
    Some lines ≡ option_map (map plain_line) (option_map split_at_newlines made) → 0 < length lines
some-split None lines h = absurd cc
some-split (Some text) lines h =
    let e : lines ≡ map plain_line (split_at_newlines text) = cc in
    omega (arith, ap length e, length-map (split_at_newlines text) plain_line, some-lines text)

some-told : (read : Result Tree BreFault) (parts : List Part) (which : Which) (line : List ℕ) (lines : List Line) →
    Some lines ≡ option_map (map plain_line) (elim read [ Ok tree ↦ substituted tree parts which line | Err fault ↦ None ]) →
    0 < length lines
some-told (Ok tree) parts which line lines h = some-split (replaced_in parts line (picked which (taken tree line))) lines h
some-told (Err fault) parts which line lines h = absurd cc

pub some-made : (text : List ℕ) (parts : List Part) (which : Which) (line : List ℕ) (lines : List Line) →
    Some lines ≡ option_map (map plain_line) (made_of text parts which line) → 0 < length lines
some-made text parts which line lines h = some-told (pattern text) parts which line lines h

-- a line without a match stays as it is
none-first : (again : ℕ → Bool → List Found) (b : Bool) → ◌≡◌ {A = List Found} (elim b [ true ↦ taken_first again 0 false None | false ↦ [] ]) []
none-first again true = refl
none-first again false = refl

none-taken : (tree : Tree) (line : List ℕ) → match_from tree line 0 ≡ None → taken tree line ≡ []
none-taken tree line none =
    let again = λ (place : ℕ) (full : Bool). taken_from (length line) tree line place full in
    ap (λ m. elim (nat_le 0 (length line)) [ true ↦ taken_first again 0 false m | false ↦ [] ]) none
    ∙ none-first again (nat_le 0 (length line))

none-picked : (which : Which) → picked which [] ≡ []
none-picked choice.First = refl
none-picked (choice.Nth n) = ap (take 1) (drop_all n [] (omega arith))
none-picked choice.All = refl

pub none-made : (text : List ℕ) (tree : Tree) (parts : List Part) (which : Which) (line : List ℕ) → pattern text ≡ Ok tree →
    match_from tree line 0 ≡ None → made_of text parts which line ≡ None
none-made text tree parts which line h none =
    ap (λ p. elim p [ Ok t ↦ substituted t parts which line | Err fault ↦ None ]) h
    ∙ ap (λ ms. option_map split_at_newlines (replaced_in parts line (picked which ms))) (none-taken tree line none)
    ∙ ap (λ ms. option_map split_at_newlines (replaced_in parts line ms)) (none-picked which)

-- The first lines were rewritten, and the last line that came of them is this one, or each stayed.
pub record Come (f : List ℕ → Option (List (List ℕ))) (a i : ℕ) (old now : List Line) (last : Option ℕ) : Type 0 where
  pub put : now ≡ exchanged a i (each f (block a i old)).0 old
  pub told : last ≡ option_map (λ n. a + n) (each f (block a i old)).1

-- none was
pub come-none : (f : List ℕ → Option (List (List ℕ))) (a i : ℕ) (old now : List Line) → i ≡ a → now ≡ old → Come f a i old now None
come-none f a i old now begun same = subst (λ k. Come f a k old now None) (sym begun) (record {
  put = same ∙ sym (ap (λ t. exchanged a a (each f t).0 old) (block-none a old) ∙ take-append-drop a old);
  told = ap (λ t. option_map (λ n. a + n) (each f t).1) (sym (block-none a old));
})

-- one more stays
pub come-stays : (f : List ℕ → Option (List (List ℕ))) (a i : ℕ) (old now : List Line) (last : Option ℕ) → a ≤ i → i < length old →
    Come f a i old now last → None ≡ option_map (map plain_line) (f (get_or old i (plain_line [])).bytes) → Come f a (i + 1) old now last
come-stays f a i old now last h inside come none =
    let d = plain_line [] in
    let r = each f (block a i old) in
    let further = each-further f a i old d h inside ∙ with-none (get_or old i d) (f (get_or old i d).bytes) r none in
    record {
      put = come.put ∙ stayed a i r.0 old d inside ∙ ap (λ t. exchanged a (i + 1) t.0 old) (sym further);
      told = come.told ∙ ap (λ t. option_map (λ n. a + n) t.1) (sym further);
    }

-- or is exchanged for others
pub come-goes : (f : List ℕ → Option (List (List ℕ))) (a i place : ℕ) (old now new : List Line) (last : Option ℕ) → a ≤ i → i < length old →
    Come f a i old now last → place ≡ a + length (each f (block a i old)).0 → Some new ≡ option_map (map plain_line) (f (get_or old i (plain_line [])).bytes) →
    Come f a (i + 1) old (exchanged place (place + 1) new now) (Some (a + (length (each f (block a i old)).0 + length new)))
come-goes f a i place old now new last h inside come at some =
    let d = plain_line [] in
    let r = each f (block a i old) in
    let further = each-further f a i old d h inside ∙ with-new (get_or old i d) (f (get_or old i d).bytes) new r some in
    record {
      put = gone a i place r.0 new old now d h inside come.put at ∙ ap (λ t. exchanged a (i + 1) t.0 old) (sym further);
      told = ap (λ t. option_map (λ n. a + n) t.1) (sym further);
    }

-- lines that stay are passed over
come-past : (f : List ℕ → Option (List (List ℕ))) (a i n : ℕ) (old now : List Line) (last : Option ℕ) → a ≤ i → i + n ≤ length old →
    ((j : ℕ) → i ≤ j → j < i + n → f (get_or old j (plain_line [])).bytes ≡ None) → Come f a i old now last → Come f a (i + n) old now last
come-past f a i zero old now last h within none come = subst (λ k. Come f a k old now last) (let e : i ≡ i + 0 = omega arith in e) come
come-past f a i (suc n) old now last h within none come =
    let first = come-stays f a i old now last h (omega (arith, within)) come (sym (ap (option_map (map plain_line)) (none i (omega arith) (omega arith)))) in
    let later = come-past f a (i + 1) n old now last (omega (arith, h)) (omega (arith, within)) (λ j low high. none j (omega (arith, low)) (omega (arith, high))) first in
    subst (λ k. Come f a k old now last) (let e : i + 1 + n ≡ i + suc n = omega arith in e) later

-- and so are those that don't match
pub come-over : (text : List ℕ) (tree : Tree) (parts : List Part) (which : Which) (a i k : ℕ) (old now : List Line) (last : Option ℕ) → pattern text ≡ Ok tree →
    a ≤ i → i ≤ k → k ≤ length old → NoneFrom tree (texts old) i k → Come (made_of text parts which) a i old now last → Come (made_of text parts which) a k old now last
come-over text tree parts which a i k old now last is h order within none come =
    let f = made_of text parts which in
    subst (λ n. Come f a n old now last) (let e : i + (k - i) ≡ k = omega arith in e) (come-past f a i (k - i) old now last h (omega arith) (λ j low high.
    ap f (text-at old j) ∙ none-made text tree parts which (get_or (texts old) j []) is (none j low (omega (arith, high)))) come)
