-- Lines that differ in their flags alone: what a state says of the ones it says of the others.
use Rattle.std.proofs.Common.{◌≡◌, ◌≤◌, ℕ, zero, suc, pos, ◌+◌, ◌-◌, Bool, false, cond, List, [], ◌∷◌, ◌++◌, map, take, drop, length, Some, arith, refl, ◌∙◌, sym, ap, subst}
use Rattle.std.specs.List.{position_from}
use Rattle.std.proofs.lemmas.List.{length-map, map-append}
use Rattle.std.proofs.lemmas.Iterator.Adapters.{position_from-zero}
use Rattle.ed_base.specs.Buffer.{Line, texts, has_letter, with_flag, flagged_at, marked_place}
use Rattle.ed_base.specs.Parts.{between, replaced}
use Rattle.ed_base.proofs.PartLemmas.{whole}
use Rattle.zones.specs.Zone.{Bounds, Numbers}
use Rattle.ed_syntax.specs.meaning.States as editor
use Rattle.ed_syntax.specs.meaning.States.{kept, unflagged}
use Rattle.ed_syntax.specs.meaning.Globals.{flagged_line}
use Rattle.ed_syntax.specs.declared.command.Sense.{Sense}
use Rattle.ed_rules.specs.declared.state.State.{State}
use Rattle.ed_syntax.specs.meaning.CommandLaws.{FlagsMarkNothing, FlagsAreNoBytes}
use Rattle.ed_rules.specs.StandsFor.{Reads, HoldsBy, StandsBy, AllowsKept, AreLettered}
use Rattle.ed_rules.proofs.facts.FactsByBytes.{FactsHold-bytes}
use Rattle.ed_rules.specs.States.{old_of}
use Rattle.ed_rules.proofs.sound.Standing.{Begins}
use Rattle.ed_rules.proofs.sound.Lettered.{lettered, lettered-marked}

-- the same lines, apart from their flags
abbrev pub Alike : List Line → List Line → Type 0
Alike lines others = unflagged lines ≡ unflagged others

-- without flags

length-unflagged : (ls : List Line) → length (unflagged ls) ≡ length ls
length-unflagged ls = length-map ls (with_flag false)

position-unflagged : (x i : ℕ) (ls : List Line) → position_from (has_letter x) i (unflagged ls) ≡ position_from (has_letter x) i ls
position-unflagged x i [] = refl
position-unflagged x i (l ∷ ls) = ap (cond (has_letter x l) (Some i)) (position-unflagged x (i + 1) ls)

place-unflagged : (x : ℕ) (ls : List Line) → marked_place x (unflagged ls) ≡ marked_place x ls
place-unflagged x ls = position_from-zero (has_letter x) (unflagged ls) ∙ position-unflagged x 0 ls ∙ sym (position_from-zero (has_letter x) ls)

pub texts-unflagged : (ls : List Line) → texts (unflagged ls) ≡ texts ls
texts-unflagged [] = refl
texts-unflagged (l ∷ ls) = ap (λ (ts : List (List ℕ)). l.bytes ∷ ts) (texts-unflagged ls)

pub texts-alike : (ls ms : List Line) → Alike ls ms → texts ls ≡ texts ms
texts-alike ls ms h = sym (texts-unflagged ls) ∙ ap texts h ∙ texts-unflagged ms

unflagged-twice : (ls : List Line) → Alike (unflagged ls) ls
unflagged-twice [] = refl
unflagged-twice (l ∷ ls) = ap (λ (ms : List Line). with_flag false l ∷ ms) (unflagged-twice ls)

-- alike lines

pub same-length : (ls ms : List Line) → Alike ls ms → length ls ≡ length ms
same-length ls ms h = sym (length-unflagged ls) ∙ ap length h ∙ length-unflagged ms

same-place : (x : ℕ) (ls ms : List Line) → Alike ls ms → marked_place x ls ≡ marked_place x ms
same-place x ls ms h = sym (place-unflagged x ls) ∙ ap (marked_place x) h ∙ place-unflagged x ms

reads-alike : (sure : List Bool) (ls ms : List Line) (current : ℕ) (v : Numbers) → Alike ls ms → Reads sure ls current v → Reads sure ms current v
reads-alike sure ls ms current v h r = record {
  zero_is = r.zero_is;
  current_is = r.current_is;
  last_is = subst (λ (n : ℕ). v 2 ≡ pos n) (same-length ls ms h) r.last_is;
  marks_are = λ letter l e. let o = r.marks_are letter l e in (o.0, sym (same-place letter ls ms h) ∙ o.1, o.2);
}

pub HoldsBy-alike : (zone : Bounds) (sure : List Bool) (ls ms : List Line) (current : ℕ) (v : Numbers) → Alike ls ms → HoldsBy zone sure ls current v → HoldsBy zone sure ms current v
HoldsBy-alike zone sure ls ms current v h b = record {
  holds = b.holds;
  reads = reads-alike sure ls ms current v h b.reads;
  inside = subst (λ (n : ℕ). current ≤ n) (same-length ls ms h) b.inside;
}

-- lines that differ in their flags alone are lettered alike
pub lettered-alike : FlagsMarkNothing → FlagsAreNoBytes → (ls ms : List Line) → Alike ls ms → AreLettered ls → AreLettered ms
lettered-alike marks bytes ls ms h l = lettered ms (marks ls ms h (lettered-marked ls l)) (bytes ls ms h l.whole)

-- what undo keeps

pub lettered-kept : FlagsMarkNothing → FlagsAreNoBytes → (ls : List Line) → AreLettered ls → AreLettered (unflagged ls)
lettered-kept marks bytes ls h = lettered-alike marks bytes ls (unflagged ls) (sym (unflagged-twice ls)) h

pub kept-buffer : (s : State) (e : editor.State) (v : Numbers) → StandsBy s e v → HoldsBy s.zone s.marks (unflagged e.lines) e.current v
kept-buffer s e v st = HoldsBy-alike s.zone s.marks e.lines (unflagged e.lines) e.current v (sym (unflagged-twice e.lines)) st.buffer

-- a state stands for the buffer that undo would keep of the editor
pub kept-allowed : (s : State) (e : editor.State) → Begins s e → AllowsKept (Some (old_of s)) (kept e)
kept-allowed s e st =
    (st.0, kept-buffer s e st.0 st.1, FactsHold-bytes s.facts st.0 e.lines (unflagged e.lines) (sym (texts-unflagged e.lines)) st.2)

-- a line whose flag is changed

pub alike-flagged_at : (place : ℕ) (flag : Bool) (ls : List Line) → Alike ls (flagged_at place flag ls)
alike-flagged_at place flag [] = refl
alike-flagged_at zero flag (l ∷ ls) = refl
alike-flagged_at (suc place) flag (l ∷ ls) = ap (λ (ms : List Line). with_flag false l ∷ ms) (alike-flagged_at place flag ls)

-- the lines that a global command takes

alike-mapped : (which : Sense) (text : List ℕ) (ls : List Line) → Alike (map (flagged_line which text) ls) ls
alike-mapped which text [] = refl
alike-mapped which text (l ∷ ls) = ap (λ (ms : List Line). with_flag false l ∷ ms) (alike-mapped which text ls)

alike-parts : (front middle others back : List Line) → Alike middle others → Alike (front ++ (middle ++ back)) (front ++ (others ++ back))
alike-parts front middle others back h =
    let f = with_flag false in
    map-append f front (middle ++ back)
    ∙ ap (λ (ms : List Line). unflagged front ++ ms) (map-append f middle back ∙ ap (λ (ms : List Line). ms ++ unflagged back) h ∙ sym (map-append f others back))
    ∙ sym (map-append f front (others ++ back))

pub alike-taken : (which : Sense) (text : List ℕ) (a b : ℕ) (ls : List Line) → a ≤ b + 1 → Alike ls (replaced a b (map (flagged_line which text) (between a b ls)) ls)
alike-taken which text a b ls h =
    sym (
    alike-parts (take (a - 1) ls) (map (flagged_line which text) (between a b ls)) (between a b ls) (drop b ls) (alike-mapped which text (between a b ls))
    ∙ ap unflagged (whole (a - 1) b ls (omega arith)))
