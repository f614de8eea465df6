-- Lines that are read, and a buffer that is loaded anew: what the zone then holds of.
use Rattle.std.proofs.Common.{◌≡◌, ℕ, zero, suc, ◌+◌, ℤ, pos, ◌-ℤ◌, true, false, List, [], ◌∷◌, length, map, None, Some, arith, refl, ◌∙◌, sym, ap, subst}
use Rattle.std.proofs.lemmas.Int.{ints}
use Rattle.std.proofs.lemmas.List.{length-map}
use Rattle.ed_base.specs.Buffer.{Line, plain_line}
use Rattle.ed_base.specs.Parts as parts
use Rattle.zones.specs.Name.{mark}
use Rattle.zones.specs.Bound.{Obeys}
use Rattle.zones.specs.Zone.{Bounds, Numbers, Holds, bound, updated}
use Rattle.zones.specs.Steps.{after_guard, after_forget}
use Rattle.zones.proofs.Soundness.{Obeys-bound, Holds-after_guard, Holds-after_set, Holds-after_forget}
use Rattle.zones.proofs.Known.{updated-other}
use Rattle.ed_syntax.specs.meaning.States as editor
use Rattle.ed_syntax.specs.meaning.Ranges.{Span}
use Rattle.ed_rules.specs.declared.state.State.{State}
use Rattle.ed_rules.specs.Marks.{no_marks}
use Rattle.ed_rules.specs.StandsFor.{HoldsBy}
use Rattle.ed_rules.specs.Pieces.{inserted}
use Rattle.ed_rules.specs.Files.{current_read, without_letters, zone_loaded}
use Rattle.ed_rules.proofs.sound.LettersInLines.{no_letter, line_with-plain, length-inserted}
use Rattle.ed_rules.proofs.sound.Standing.{Reads-current}
use Rattle.ed_rules.proofs.sound.Spans.{Spans}
use Rattle.ed_rules.proofs.sound.Inserting.{OnLine-reads, HoldsBy-inserted}
use Rattle.ed_rules.proofs.sound.Replacing.{Holds-guarded_by}

pub inserted-none : (a : ℕ) (ls : List Line) → parts.inserted a [] ls ≡ ls
inserted-none zero ls = refl
inserted-none (suc a) [] = refl
inserted-none (suc a) (l ∷ ls) = ap (λ (more : List Line). l ∷ more) (inserted-none a ls)

-- these lines come after the first address, and the last of them, or the addressed one, is current
pub read-buffer : (t : State) (e : editor.State) (x : Span) → Spans t e x → (ts : List (List ℕ)) →
    (v : Numbers) × HoldsBy (current_read t.zone (inserted 3 (pos 0) (Some (pos 0)) None t.marks t.zone)) t.marks (parts.inserted x.first (map plain_line ts) e.lines) (x.first + length ts) v
unfolding current_read
read-buffer t e x r ts =
    let new : List Line = map plain_line ts in
    let n : length new ≡ length ts = length-map ts plain_line in
    let v : Numbers = r.numbers in
    let f = r.first_is in
    let b = r.stands.buffer in
    let zone : Bounds = inserted 3 (pos 0) (Some (pos 0)) None t.marks t.zone in
    let i = HoldsBy-inserted 3 (pos 0) (Some (pos 0)) None t.marks e.lines new x.first v (omega arith) (omega (arith, ints))
    (λ y h q. OnLine-reads y e.lines v (b.reads.marks_are y h q)) (λ y. line_with-plain y ts) tt (omega (arith, ints)) t.zone e.current r.first_in b in
    let lines : List Line = parts.inserted x.first new e.lines in
    let to : ℕ = x.first + length ts in
    let w : Numbers = i.numbers in
    let v1 : Numbers = updated w 1 (pos to) in
    let c₀ : v 2 ≡ pos (length e.lines) = b.reads.last_is in
    let size : length lines ≡ length e.lines + length new = length-inserted e.lines new x.first r.first_in in
    let w2 : w 2 ≡ pos (length lines) = i.buffer.reads.last_is in
    let w3 : w 3 ≡ pos x.first = i.others 3 (omega arith) (omega arith) ∙ f in
    let h1 : Holds (after_guard (after_forget zone 1) 3 1 (pos 0)) v1 =
    Holds-after_guard _ 3 1 (pos 0) v1 (omega arith) (omega arith) (Holds-after_forget _ 1 w v1 i.buffer.holds (updated-other w 1 (pos to))) (omega (arith, ints)) in
    let below : v 3 -ℤ v 2 ≡ v1 1 -ℤ v1 2 = omega (arith, ints) in
    let above : v 2 -ℤ v 3 ≡ v1 2 -ℤ v1 1 = omega (arith, ints) in
    let inside = r.first_in in (
      v1,
      record {
        holds = Holds-guarded_by _ 2 1 (bound t.zone 2 3) v1 (omega arith) (omega arith)
            (Holds-guarded_by _ 1 2 (bound t.zone 3 2) v1 (omega arith) (omega arith) h1 (subst (λ (d : ℤ). Obeys d (bound t.zone 3 2)) below (Obeys-bound t.zone 3 2 v (omega arith) (omega arith) b.holds)))
            (subst (λ (d : ℤ). Obeys d (bound t.zone 2 3)) above (Obeys-bound t.zone 2 3 v (omega arith) (omega arith) b.holds));
        reads = Reads-current t.marks lines e.current w to i.buffer.reads;
        inside = omega arith;
      },
    )

Holds-without_letters : (k : ℕ) (zone : Bounds) (v : Numbers) → Holds zone v → Holds (without_letters k zone) v
unfolding without_letters
Holds-without_letters zero zone v h = h
Holds-without_letters (suc k) zone v h = Holds-after_forget (without_letters k zone) (mark k) v v (Holds-without_letters k zone v h) (λ p n. refl)

-- any lines, the last one current
pub loaded-buffer : (zone : Bounds) (v : Numbers) → Holds zone v → v 0 ≡ pos 0 → (lines : List Line) → (w : Numbers) × HoldsBy (zone_loaded zone) no_marks lines (length lines) w
unfolding zone_loaded
loaded-buffer zone v holds zero_is lines =
    let n : ℕ = length lines in
    let v1 : Numbers = updated v 1 (pos n) in
    let v2 : Numbers = updated v1 2 (pos n) in
    let gone : Holds (after_forget (after_forget zone 1) 2) v2 =
    Holds-after_forget _ 2 v1 v2 (Holds-after_forget zone 1 v v1 holds (updated-other v 1 (pos n))) (updated-other v1 2 (pos n)) in
    let least = Holds-after_guard _ 0 2 (pos 0) v2 (omega arith) (omega arith) (Holds-without_letters 26 _ v2 gone) (omega (arith, ints)) in (
      v2,
      record {
        holds = Holds-after_set _ 1 2 (pos 0) v2 v2 (omega arith) (omega arith) least (λ p h. refl) (omega (arith, ints));
        reads = record {
          zero_is = zero_is;
          current_is = refl;
          last_is = refl;
          marks_are = λ letter l q. let f : false ≡ true = sym (no_letter 26 letter) ∙ q in absurd cc;
        };
        inside = omega arith;
      },
    )
