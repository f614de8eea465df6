-- The texts of lines that are marked, flagged, exchanged and carried.
use Rattle.std.proofs.Common.{◌≡◌, ℕ, List, [], ◌∷◌, ◌++◌, Bool, true, false, take, drop, map, get_or, refl, sym, ap, ◌∙◌}
use Rattle.std.proofs.lemmas.List.{map-append, take-map, drop-map}
use Rattle.std.proofs.Math.Seq.{map-set_same}
use Rattle.ed_base.specs.Buffer.{Line, plain_line, texts, with_letter, marked_at, with_flag, flagged_at}
use Rattle.ed_base.specs.Parts.{block, exchanged, carried}
pub use Rattle.line_store.proofs.Taken.{texts-block, texts-plain}

texts-with_letter : (letter : ℕ) (marks : Bool) (lines : List Line) → texts (map (with_letter letter marks) lines) ≡ texts lines
texts-with_letter letter marks [] = refl
texts-with_letter letter marks (line ∷ lines) = ap (λ t. line.bytes ∷ t) (texts-with_letter letter marks lines)

-- a letter that marks another line changes no text
pub texts-marked_at : (place letter : ℕ) (lines : List Line) → texts (marked_at place letter lines) ≡ texts lines
texts-marked_at place letter lines =
    let others = map (with_letter letter false) lines in
    map-set_same (λ (l : Line). l.bytes) others place (with_letter letter true (get_or others place (plain_line []))) (plain_line []) refl
    ∙ texts-with_letter letter false lines

-- nor does a flag
pub texts-flagged_at : (place : ℕ) (flag : Bool) (lines : List Line) → texts (flagged_at place flag lines) ≡ texts lines
texts-flagged_at place flag lines =
    map-set_same (λ (l : Line). l.bytes) lines place (with_flag flag (get_or lines place (plain_line []))) (plain_line []) refl

pub texts-exchanged : (a b : ℕ) (new lines : List Line) → texts (exchanged a b new lines) ≡ exchanged a b (texts new) (texts lines)
texts-exchanged a b new lines =
    map-append (λ (l : Line). l.bytes) (take a lines) (new ++ drop b lines)
    ∙ ap (λ t. texts (take a lines) ++ t) (map-append (λ (l : Line). l.bytes) new (drop b lines))
    ∙ ap (λ t. t ++ (texts new ++ texts (drop b lines))) (sym (take-map (λ (l : Line). l.bytes) a lines))
    ∙ ap (λ t. take a (texts lines) ++ (texts new ++ t)) (sym (drop-map (λ (l : Line). l.bytes) b lines))

pub texts-carried : (a b place : ℕ) (lines : List Line) → texts (carried a b place lines) ≡ carried a b place (texts lines)
texts-carried a b place lines =
    texts-exchanged place place (block a b lines) (exchanged a b [] lines)
    ∙ ap (λ t. exchanged place place t (texts (exchanged a b [] lines))) (texts-block a b lines)
    ∙ ap (exchanged place place (block a b (texts lines))) (texts-exchanged a b [] lines)
