-- Lines that are cut, and after them lines that aren't.
use Rattle.std.proofs.Common.{◌≡◌, ◌≢◌, ℕ, zero, suc, ◌+◌, ◌-◌, ◌<◌, ◌≤◌, List, [], ◌∷◌, ◌++◌, Bool, false, Option, Some, None, min, take, drop, length, map, get_or, set, refl, sym, ap, ◌∙◌, arith, append_assoc, append-nil, subst, ⊎_elim}
use Rattle.std.proofs.lemmas.Bool.{cases_lt}
use Rattle.std.proofs.lemmas.List.{take-append-le, take_all, take_more, drop_all, drop_at, drop-drop, drop-map, length-append, length-map, map-append, take-map, get_or_append_left, get_or-append_right, get_or-drop, set-get_or, set-append_left}
use Rattle.std.proofs.lemmas.List.Elements.{All-append, All-same, All-take, All-drop}
use Rattle.ed_base.specs.Buffer.{Line, flagged_at, plain_line, texts, with_flag}
use Rattle.ed_base.specs.Lines.{newline, AreLines, IsLine, bytes_of, lines_of}
use Rattle.ed_base.specs.Parts.{block, exchanged}
use Rattle.ed_base.proofs.LineLemmas.{bytes_of-append, bytes_of-completed, bytes_of-ended, AreLines-lines_of}
use Rattle.line_store.specs.Blocks.{CameIn}
use Rattle.line_store.specs.Cut.{lines_left}
use Rattle.line_store.specs.Flagged.{FirstFlagged}
use Rattle.line_store.specs.Kept.{flag_count}
use Rattle.line_store.proofs.Ranges.{block-none}
use Rattle.line_store.proofs.Written.{block-after, block-joined}
use Rattle.line_store.proofs.Taken.{flags-append, flags-block, plain-bare, texts-plain}

-- a part of two lists
block-first : {X : Type 0} (a b : ℕ) (xs ys : List X) → b ≤ length xs → block a b (xs ++ ys) ≡ block a b xs
block-first a b xs ys h = ap (drop a) (take-append-le b xs ys h)

-- places that are the lesser ones, and those that are left
least : {X : Type 0} (a b n p q : ℕ) (xs ys : List X) → p ≡ min a n → q ≡ min b n →
    block p q xs ++ block (a - n) (b - n) ys ≡ block (min a n) (min b n) xs ++ block (a - n) (b - n) ys
least a b n p q xs ys e f =
    ap (λ m. block m q xs ++ block (a - n) (b - n) ys) e ∙ ap (λ m. block (min a n) m xs ++ block (a - n) (b - n) ys) f

block-both : {X : Type 0} (a b n : ℕ) (xs ys : List X) → n ≡ length xs → a ≤ b →
    block a b (xs ++ ys) ≡ block (min a n) (min b n) xs ++ block (a - n) (b - n) ys
block-both a b n xs ys e h = ⊎_elim
    (λ first.
    let same : b - n ≡ a - n = omega arith in
    block-first a b xs ys (omega arith)
    ∙ sym (append-nil (block a b xs))
    ∙ ap (λ t. block a b xs ++ t) (sym (ap (λ m. block (a - n) m ys) same ∙ block-none (a - n) ys))
    ∙ least a b n a b xs ys (omega arith) (omega arith))
    (λ later. ⊎_elim
    (λ inside.
    block-joined a n b (xs ++ ys) (omega arith) (omega arith) (omega (arith, length-append xs ys))
    ∙ ap (λ t. t ++ block n b (xs ++ ys)) (block-first a n xs ys (omega arith))
    ∙ ap (λ t. block a n xs ++ t) (block-after xs ys n b (a - n) (b - n) (omega arith) (omega arith))
    ∙ least a b n a n xs ys (omega arith) (omega arith))
    (λ past.
    block-after xs ys a b (a - n) (b - n) (omega arith) (omega arith)
    ∙ ap (λ t. t ++ block (a - n) (b - n) ys) (sym (block-none n xs))
    ∙ least a b n n n xs ys (omega arith) (omega arith))
    (cases_lt a n))
    (cases_lt b n)

-- others after all
exchanged-last : {X : Type 0} (a b : ℕ) (new xs : List X) → length xs ≤ a → length xs ≤ b → exchanged a b new xs ≡ xs ++ new
exchanged-last a b new xs h k =
    ap (λ t. t ++ (new ++ drop b xs)) (take_all a xs h)
    ∙ ap (λ t. xs ++ (new ++ t)) (drop_all b xs k)
    ∙ ap (λ t. xs ++ t) (append-nil new)

-- the flag of one of the first
pub flagged-first : (i : ℕ) (flag : Bool) (xs ys : List Line) → i < length xs → flagged_at i flag (xs ++ ys) ≡ flagged_at i flag xs ++ ys
flagged-first i flag xs ys h =
    ap (λ (l : Line). set (xs ++ ys) i (with_flag flag l)) (get_or_append_left xs ys (plain_line []) i h)
    ∙ set-append_left xs ys i (with_flag flag (get_or xs i (plain_line []))) h

-- a plain line has no flag to lose
pub flagged-plain : (i : ℕ) (lines : List Line) → (get_or lines i (plain_line [])).flag ≡ false → flagged_at i false lines ≡ lines
flagged-plain i lines is =
    ap (λ f. set lines i (with_flag f (get_or lines i (plain_line [])))) (sym is) ∙ set-get_or lines i (plain_line [])

plain-there : (text : List (List ℕ)) (i : ℕ) → get_or (map plain_line text) i (plain_line []) ≡ plain_line (get_or text i [])
plain-there [] i = refl
plain-there (line ∷ more) zero = refl
plain-there (line ∷ more) (suc i) = plain-there more i

-- the bytes of a file that ends in a newline are those of its lines, and those of another lack one
pub written-ended : (file : List ℕ) → 0 < length file → get_or file (length file - 1) 0 ≡ newline → bytes_of (lines_of file) ≡ file
written-ended file some last =
    let before : ℕ = length file - 1 in
    let parts : file ≡ take before file ++ newline ∷ [] =
    sym (take_all (before + 1) file (omega arith)) ∙ take_more file before 0 (omega arith) ∙ ap (λ b. take before file ++ b ∷ []) last in
    ap (λ t. bytes_of (lines_of t)) parts ∙ bytes_of-ended (take before file) ∙ sym parts

pub written-lacks : (file : List ℕ) → 0 < length file → get_or file (length file - 1) 0 ≢ newline →
    file ++ newline ∷ [] ≡ bytes_of (lines_of file)
written-lacks file some last =
    let before : ℕ = length file - 1 in
    let parts : file ≡ take before file ++ get_or file before 0 ∷ [] =
    sym (take_all (before + 1) file (omega arith)) ∙ take_more file before 0 (omega arith) in
    ap (λ t. t ++ newline ∷ []) parts ∙ bytes_of-completed (take before file) (get_or file before 0) last ∙ ap (λ t. bytes_of (lines_of t)) (sym parts)

-- one more line is passed
pub line-there : (lines : List (List ℕ)) (i : ℕ) (line : List ℕ) (rest : List (List ℕ)) → drop i lines ≡ line ∷ rest → line ≡ get_or lines i []
line-there lines i line rest is =
    sym (ap (λ t. get_or t 0 []) is) ∙ get_or-drop i lines 0 [] ∙ ap (λ n. get_or lines n []) (let e : i + 0 ≡ i = omega arith in e)

pub next-left : (lines : List (List ℕ)) (i : ℕ) (line : List ℕ) (rest : List (List ℕ)) → drop i lines ≡ line ∷ rest → rest ≡ drop (i + 1) lines
next-left lines i line rest is = sym (ap (drop 1) is) ∙ drop-drop 1 i lines

pub pushed-more : (lines : List (List ℕ)) (i : ℕ) (line : List ℕ) (rest : List (List ℕ)) → i < length lines → drop i lines ≡ line ∷ rest →
    bytes_of (take i lines) ++ (line ++ newline ∷ []) ≡ bytes_of (take (i + 1) lines)
pushed-more lines i line rest h is =
    sym (bytes_of-append (take i lines) (line ∷ []))
    ∙ ap (λ t. bytes_of (take i lines ++ t ∷ [])) (line-there lines i line rest is)
    ∙ ap bytes_of (sym (take_more lines i [] h))

-- what is written of lines that are cut and of those that aren't
block-plain : (a b : ℕ) (text : List (List ℕ)) → texts (block a b (map plain_line text)) ≡ block a b text
block-plain a b text =
    ap (λ t. texts (drop a t)) (take-map plain_line b text)
    ∙ ap texts (drop-map plain_line a (take b text))
    ∙ texts-plain (block a b text)

texts-both : (a b n : ℕ) (lines : List Line) (text : List (List ℕ)) → n ≡ length lines → a ≤ b →
    texts (block a b (lines ++ map plain_line text)) ≡ texts (block (min a n) (min b n) lines) ++ block (a - n) (b - n) text
texts-both a b n lines text e h =
    ap texts (block-both a b n lines (map plain_line text) e h)
    ∙ map-append (λ (l : Line). l.bytes) (block (min a n) (min b n) lines) (block (a - n) (b - n) (map plain_line text))
    ∙ ap (λ t. texts (block (min a n) (min b n) lines) ++ t) (block-plain (a - n) (b - n) text)

pub written-both : (a b n : ℕ) (before middle after : List ℕ) (lines : List Line) (text : List (List ℕ)) → n ≡ length lines → a ≤ b →
    middle ≡ before ++ bytes_of (texts (block (min a n) (min b n) lines)) → after ≡ middle ++ bytes_of (block (a - n) (b - n) text) →
    after ≡ before ++ bytes_of (texts (block a b (lines ++ map plain_line text)))
written-both a b n before middle after lines text e h first second =
    let front = texts (block (min a n) (min b n) lines) in
    second ∙ ap (λ t. t ++ bytes_of (block (a - n) (b - n) text)) first
    ∙ append_assoc before (bytes_of front) (bytes_of (block (a - n) (b - n) text))
    ∙ ap (λ t. before ++ t) (sym (bytes_of-append front (block (a - n) (b - n) text)))
    ∙ ap (λ t. before ++ bytes_of t) (sym (texts-both a b n lines text e h))

pub lines-both : (a b n : ℕ) (lines : List Line) (file : List ℕ) → n ≡ length lines → a ≤ b →
    AreLines (texts (block (min a n) (min b n) lines)) → AreLines (texts (block a b (lines ++ map plain_line (lines_of file))))
lines-both a b n lines file e h are =
    All-same IsLine _ _ (texts-both a b n lines (lines_of file) e h)
    (All-append IsLine _ _ are (All-drop IsLine (a - n) _ (All-take IsLine (b - n) _ (AreLines-lines_of file))))

-- flags of some of them
pub flags-both : (a b n : ℕ) (lines rest : List Line) → n ≡ length lines → a ≤ b → flag_count rest ≡ 0 →
    flag_count (block a b (lines ++ rest)) ≡ flag_count (block (min a n) (min b n) lines)
flags-both a b n lines rest e h none =
    omega (
      arith,
      ap flag_count (block-both a b n lines rest e h),
      flags-append (block (min a n) (min b n) lines) (block (a - n) (b - n) rest),
      flags-block (a - n) (b - n) rest (omega arith) none,
    )

-- the lines of a file come after all others
pub came-last : (from to : ℕ) (text new : List (List ℕ)) (old now : List Line) → length old ≤ from → from ≤ to → text ≡ new →
    now ≡ old ++ map plain_line text → CameIn from to new old now
came-last from to text new old now h k same is = record {
  lines = map plain_line text;
  same = texts-plain text ∙ same;
  bare = plain-bare text;
  put = is ∙ sym (exchanged-last from to (map plain_line text) old h (omega arith));
}

-- the lines that aren't cut
abbrev text_left : Option (List ℕ) → List (List ℕ)
text_left None = []
text_left (Some file) = lines_of file

left-plain : (rest : Option (List ℕ)) → lines_left rest ≡ map plain_line (text_left rest)
left-plain None = refl
left-plain (Some file) = refl

pub flags-left : (rest : Option (List ℕ)) → flag_count (lines_left rest) ≡ 0
flags-left rest = ap flag_count (left-plain rest) ∙ plain-bare (text_left rest)

pub length-left : (rest : Option (List ℕ)) (file : List ℕ) → rest ≡ Some file → length (lines_left rest) ≡ length (lines_of file)
length-left rest file is = ap (λ r. length (lines_left r)) is ∙ length-map (lines_of file) plain_line

there-left : (n i : ℕ) (cut : List Line) (rest : Option (List ℕ)) → n ≡ length cut → n ≤ i →
    get_or (cut ++ lines_left rest) i (plain_line []) ≡ plain_line (get_or (text_left rest) (i - n) [])
there-left n i cut rest e h =
    get_or-append_right cut (lines_left rest) n i (plain_line []) (sym e) h
    ∙ ap (λ t. get_or t (i - n) (plain_line [])) (left-plain rest)
    ∙ plain-there (text_left rest) (i - n)

pub flag-left : (n i : ℕ) (cut : List Line) (rest : Option (List ℕ)) → n ≡ length cut → n ≤ i →
    (get_or (cut ++ lines_left rest) i (plain_line [])).flag ≡ false
flag-left n i cut rest e h = ap (λ (l : Line). l.flag) (there-left n i cut rest e h)

-- a line that is cut
flag-cut : (i : ℕ) (cut rest : List Line) → i < length cut →
    (get_or (cut ++ rest) i (plain_line [])).flag ≡ (get_or cut i (plain_line [])).flag
flag-cut i cut rest h = ap (λ (l : Line). l.flag) (get_or_append_left cut rest (plain_line []) i h)

-- none of them has the flag
pub first-none : (from all : ℕ) (lines : List Line) (rest : Option (List ℕ)) → from ≤ all → all ≡ length (lines ++ lines_left rest) →
    ((i : ℕ) → from ≤ i → i < length lines → (get_or lines i (plain_line [])).flag ≡ false) →
    FirstFlagged from all (lines ++ lines_left rest)
first-none from all lines rest h e none = record {
  low = h;
  high = omega (arith, e);
  none = λ i k l. ⊎_elim
      (λ cut. flag-cut i lines (lines_left rest) cut ∙ none i k cut)
      (λ later. flag-left (length lines) i lines rest refl later)
      (cases_lt i (length lines));
  flagged = λ k. absurd (omega (arith, k, e));
}

-- those that are left come after the others
record After (n : ℕ) (lines : List (List ℕ)) (left : List (List ℕ)) : Type 0 where
  within : n ≤ length lines
  same : drop n lines ≡ left

after-cut : (n : ℕ) (cut : List Line) (left : List (List ℕ)) → n ≡ length cut → After n (texts (cut ++ map plain_line left)) left
after-cut n cut left is =
    let both : texts (cut ++ map plain_line left) ≡ texts cut ++ left =
    map-append (λ (l : Line). l.bytes) cut (map plain_line left) ∙ ap (λ t. texts cut ++ t) (texts-plain left) in
    let long : length (texts cut) ≡ length cut = length-map cut (λ (l : Line). l.bytes) in
    record {
      within = omega (arith, ap length both, length-append (texts cut) left, long);
      same = ap (drop n) both ∙ drop_at (texts cut) left n (omega (arith, long));
    }

-- so they stand uncut
pub stand-uncut : (n : ℕ) (file : List ℕ) (cut lines : List Line) → n ≡ length cut → cut ++ map plain_line (lines_of file) ≡ lines →
    (n ≤ length (texts lines)) × (drop n (texts lines) ≡ lines_of file)
stand-uncut n file cut lines is all =
    let a = after-cut n cut (lines_of file) is in
    let P : List Line → Type 0 = λ t. (n ≤ length (texts t)) × (drop n (texts t) ≡ lines_of file) in
    subst P all (a.within, a.same)
