-- Texts that are written over what a file holds, one after another.
use Rattle.std.proofs.Common.{◌≡◌, ℕ, ◌+◌, ◌-◌, ◌≤◌, List, [], ◌++◌, Option, Some, None, Bool, true, take, drop, length, length-drop, length-append, sym, refl, ap, ◌∙◌, arith, append_assoc, append-nil, subst}
use Rattle.std.specs.Prelude.{IfSome, OnOk, OnErr, Result, Ok, Err}
use Rattle.std.proofs.lemmas.List.{take-append-drop, length-take-le, drop-drop, drop_all, take_all, take-append-le, take-take}
use Rattle.std.proofs.Math.Seq.{take-append_seam, drop-append_seam, drop-append-add, take-append-add, take-length}
use Rattle.ed_session.specs.Overwrites.{FileState, over, Overwrites, Wrote, WroteFront, CutsTo, WasCut, new_end, Leaves, as_it_was, part_of_end, front, whole, Becomes, LeavesKnown, LeftBy}

-- what holds anyhow holds at an error
pub on_err : {T E : Type 0} {P : Type 0} (r : Result T E) → P → OnErr r P
on_err (Ok x) p = tt
on_err (Err e) p = p

-- what is written next to what was written
pub over-over : (held : List ℕ) (place : ℕ) (x y : List ℕ) → place ≤ length held →
    over (over held place x) (place + length x) y ≡ over held place (x ++ y)
over-over held place x y h =
    let front : List ℕ = take place held ++ x in
    let size : length front ≡ place + length x = length-append (take place held) x ∙ ap (λ n. n + length x) (length-take-le place held h) in
    let rest : List ℕ = drop (place + length x) held in
    let sizes : (place + length x) + length y ≡ place + length (x ++ y) = omega (arith, length-append x y) in
    let begins : take (place + length x) (front ++ rest) ≡ front =
    subst (λ n. take n (front ++ rest) ≡ front) size (take-append_seam front rest) in
    let ends : drop ((place + length x) + length y) (front ++ rest) ≡ drop (place + length (x ++ y)) held =
    subst (λ n. drop (n + length y) (front ++ rest) ≡ drop (length y) rest) size (drop-append-add front rest (length y))
    ∙ (drop-drop (length y) (place + length x) held ∙ ap (λ n. drop n held) sizes) in
    rw (begins, ends) (ap (λ l. l ++ drop (place + length (x ++ y)) held) (append_assoc (take place held) x y))

-- nothing is written
pub over-none : (held : List ℕ) (place : ℕ) → over held place [] ≡ held
over-none held place =
    let same : place + 0 ≡ place = omega arith in
    rw (append-nil (take place held), same) (take-append-drop place held)

-- at the end
pub over-end : (held text : List ℕ) → over held (length held) text ≡ held ++ text
over-end held text =
    rw (take-length held, drop_all (length held + length text) held (omega arith)) (append-nil (held ++ text))

-- from the front on
pub over-front : (held text : List ℕ) → over held 0 text ≡ text ++ drop (length text) held
over-front held text = let same : 0 + length text ≡ length text = omega arith in rw same refl

-- how long bytes are after others were written over them
pub over-size : (held : List ℕ) (place : ℕ) (x : List ℕ) → place ≤ length held → place + length x ≤ length (over held place x)
over-size held place x h =
    rw (length-append (take place held ++ x) (drop (place + length x) held), length-append (take place held) x, length-take-le place held h) (omega arith)

Overwrites-more : (a b c : Option (List ℕ)) (place : ℕ) (x y : List ℕ) → Overwrites a b place x → Overwrites b c (place + length x) y →
    Overwrites a c place (x ++ y)
Overwrites-more None b c place x y p q = tt
Overwrites-more (Some a) None c place x y p q = absurd p
Overwrites-more (Some a) (Some b) None place x y p q = absurd q
Overwrites-more (Some a) (Some b) (Some c) place x y p q = λ h.
    let is : b ≡ over a place x = p h in
    let within : place + length x ≤ length b = rw is (over-size a place x h) in
    q within ∙ ap (λ l. over l (place + length x) y) is ∙ over-over a place x y h

Overwrites-none : (a : Option (List ℕ)) (place : ℕ) → Overwrites a a place []
Overwrites-none None place = tt
Overwrites-none (Some a) place = λ h. sym (over-none a place)

-- nothing was written
pub Wrote-none : (a : FileState) (place : ℕ) → Wrote a a place []
Wrote-none a place = record { written = Overwrites-none a.held place; same = refl }

-- two texts were written, the second after the end of the first
pub Wrote-more : (a b c : FileState) (place : ℕ) (x y : List ℕ) → Wrote a b place x → Wrote b c (place + length x) y → Wrote a c place (x ++ y)
Wrote-more a b c place x y p q = record {
  written = Overwrites-more a.held b.held c.held place x y p.written q.written;
  same = q.same ∙ p.same;
}

-- how the next chunk begins what is left to be written
pub take-within : (more : ℕ) (left chunk rest : List ℕ) → left ≡ chunk ++ rest → more ≤ length chunk → take more left ≡ take more chunk
take-within more left chunk rest e h = rw e (take-append-le more chunk rest h)

-- how it goes on after the next chunk
pub take-beyond : (more : ℕ) (left chunk rest : List ℕ) → left ≡ chunk ++ rest → length chunk ≤ more →
    take more left ≡ chunk ++ take (more - length chunk) rest
take-beyond more left chunk rest e h =
    let n : length chunk + (more - length chunk) ≡ more = omega arith in
    rw e (subst (λ k. take k (chunk ++ rest) ≡ chunk ++ take (more - length chunk) rest) n (take-append-add chunk rest (more - length chunk)))

-- all that was to be written but what is left, up to a place
pub record WrittenUpTo (old now : FileState) (place at : ℕ) (all left : List ℕ) : Type 0 where
  pub done : List ℕ
  pub parts : all ≡ done ++ left
  pub here : at ≡ place + length done
  pub wrote : Wrote old now place done

-- nothing was written yet
pub up-to-none : (a : FileState) (place : ℕ) (all : List ℕ) → WrittenUpTo a a place place all all
up-to-none a place all = record { done = []; parts = refl; here = omega arith; wrote = Wrote-none a place }

-- a chunk more was written
pub up-to-more : (a b c : FileState) (place at next : ℕ) (all left chunk rest : List ℕ) → WrittenUpTo a b place at all left → left ≡ chunk ++ rest →
    Wrote b c at chunk → next ≡ at + length chunk → WrittenUpTo a c place next all rest
up-to-more a b c place at next all left chunk rest up e wrote n = record {
  done = up.done ++ chunk;
  parts = up.parts ∙ ap (λ l. up.done ++ l) e ∙ sym (append_assoc up.done chunk rest);
  here = rw (length-append up.done chunk) (let h = up.here in omega arith);
  wrote = Wrote-more a b c place up.done chunk up.wrote (subst (λ k. Wrote b c k chunk) up.here wrote);
}

-- all is written
pub up-to-all : (a b : FileState) (place at : ℕ) (all left : List ℕ) → WrittenUpTo a b place at all left → left ≡ [] → Wrote a b place all
up-to-all a b place at all left up e =
    let is : up.done ≡ all = sym (append-nil up.done) ∙ ap (λ l. up.done ++ l) (sym e) ∙ sym up.parts in
    subst (Wrote a b place) is up.wrote

-- the last chunk was written
pub up-to-last : (a b c : FileState) (place at : ℕ) (all left chunk : List ℕ) → WrittenUpTo a b place at all left → left ≡ chunk →
    Wrote b c at chunk → Wrote a c place all
up-to-last a b c place at all left chunk up e wrote =
    up-to-all a c place (at + length chunk) all []
    (up-to-more a b c place at (at + length chunk) all left chunk [] up (e ∙ sym (append-nil chunk)) wrote refl) refl

-- a front of the next chunk was written
pub up-to-front : (a b c : FileState) (place at : ℕ) (all left chunk rest : List ℕ) → WrittenUpTo a b place at all left → left ≡ chunk ++ rest →
    WroteFront b c at chunk → WroteFront a c place all
up-to-front a b c place at all left chunk rest up e part =
    let parts : all ≡ up.done ++ (chunk ++ rest) = up.parts ∙ ap (λ l. up.done ++ l) e in
    let is : take (length up.done + part.count) all ≡ up.done ++ take part.count chunk =
    rw parts (take-append-add up.done (chunk ++ rest) part.count ∙ ap (λ l. up.done ++ l) (take-append-le part.count chunk rest part.within)) in
    record {
      count = length up.done + part.count;
      within = rw (parts, length-append up.done (chunk ++ rest), length-append chunk rest) (let h = part.within in omega arith);
      wrote = rw is (Wrote-more a b c place up.done (take part.count chunk) up.wrote (subst (λ k. Wrote b c k (take part.count chunk)) up.here part.wrote));
    }

-- all of a text is a front of it, also where it isn't synced
pub front-all : (a b c : FileState) (place : ℕ) (text : List ℕ) → c ≡ b → Wrote a b place text → WroteFront a c place text
front-all a b c place text same wrote = rw same (record { count = length text; within = omega arith; wrote = rw (take-length text) wrote })

Becomes-longer : (a b c : Option (List ℕ)) (text : List ℕ) (end : ℕ) → IfSome a (λ held. length held ≡ end) → end ≤ length text →
    Overwrites a b end (drop end text) → Overwrites b c 0 (take end text) → Becomes a c text
Becomes-longer None b c text end size longer p q = tt
Becomes-longer (Some a) None c text end size longer p q = absurd p
Becomes-longer (Some a) (Some b) None text end size longer p q = absurd q
Becomes-longer (Some a) (Some b) (Some c) text end size longer p q =
    let at_end : over a end (drop end text) ≡ a ++ drop end text =
    subst (λ n. over a n (drop end text) ≡ a ++ drop end text) size (over-end a (drop end text)) in
    let begins : b ≡ a ++ drop end text = p (omega arith) ∙ at_end in
    let rest : drop end b ≡ drop end text = rw begins (subst (λ n. drop n (a ++ drop end text) ≡ drop end text) size (drop-append_seam a (drop end text))) in
    q (omega arith) ∙ (over-front b (take end text) ∙ rw (length-take-le end text longer, rest) (take-append-drop end text))

-- the bytes beyond the end, and then those before it, are the whole text
pub longer-done : (a b c : FileState) (text : List ℕ) (end : ℕ) → IfSome a.held (λ held. length held ≡ end) → end ≤ length text →
    Wrote a b end (drop end text) → Wrote b c 0 (take end text) → Becomes a.held c.held text
longer-done a b c text end size longer p q = Becomes-longer a.held b.held c.held text end size longer p.written q.written

Leaves-front : (a b c : Option (List ℕ)) (uncut : Bool) (text : List ℕ) (end count : ℕ) → IfSome a (λ held. length held ≡ end) → end ≤ length text →
    count ≤ end → Overwrites a b end (drop end text) → Overwrites b c 0 (take count text) → LeavesKnown a c uncut text
Leaves-front None b c uncut text end count size longer h p q = tt
Leaves-front (Some a) None c uncut text end count size longer h p q = absurd p
Leaves-front (Some a) (Some b) None uncut text end count size longer h p q = absurd q
Leaves-front (Some a) (Some b) (Some c) uncut text end count size longer h p q =
    let at_end : over a end (drop end text) ≡ a ++ drop end text =
    subst (λ n. over a n (drop end text) ≡ a ++ drop end text) size (over-end a (drop end text)) in
    let begins : b ≡ a ++ new_end a text = p (omega arith) ∙ at_end ∙ ap (λ n. a ++ drop n text) (sym size) in
    let is : c ≡ take count text ++ drop count (a ++ new_end a text) =
    q (omega arith) ∙ (over-front b (take count text) ∙ rw (length-take-le count text (omega arith), begins) refl) in
    subst (Leaves a text uncut) (sym is) (front count (omega arith))

-- a front of the text was written after its new end
pub longer-front : (a b c : FileState) (text : List ℕ) (end : ℕ) → IfSome a.held (λ held. length held ≡ end) → end ≤ length text →
    Wrote a b end (drop end text) → WroteFront b c 0 (take end text) → LeftBy a c text
longer-front a b c text end size longer p q =
    let within : q.count ≤ end = let h = q.within in omega (arith, length-take-le end text longer) in
    let is : take q.count (take end text) ≡ take q.count text = take-take q.count end text within in
    Leaves-front a.held b.held c.held c.uncut text end q.count size longer within p.written (subst (Overwrites b.held c.held 0) is q.wrote.written)

Leaves-cut : (a b c : Option (List ℕ)) (uncut : Bool) (text part : List ℕ) (end : ℕ) → IfSome a (λ held. length held ≡ end) →
    Overwrites a b end part → CutsTo b c end → LeavesKnown a c uncut text
Leaves-cut None b c uncut text part end size p q = tt
Leaves-cut (Some a) None c uncut text part end size p q = absurd p
Leaves-cut (Some a) (Some b) None uncut text part end size p q = absurd q
Leaves-cut (Some a) (Some b) (Some c) uncut text part end size p q =
    let at_end : over a end part ≡ a ++ part = subst (λ n. over a n part ≡ a ++ part) size (over-end a part) in
    let begins : b ≡ a ++ part = p (omega arith) ∙ at_end in
    let sizes : length b ≡ length a + length part = ap length begins ∙ length-append a part in
    let is : c ≡ a = q (omega arith) ∙ rw begins (subst (λ n. take n (a ++ part) ≡ a) size (take-append_seam a part)) in
    subst (Leaves a text uncut) (sym is) as_it_was

-- a part of the new end was written and cut off
pub longer-cut : (a b c : FileState) (text : List ℕ) (end : ℕ) → IfSome a.held (λ held. length held ≡ end) →
    WroteFront a b end (drop end text) → WasCut b c end → LeftBy a c text
longer-cut a b c text end size p q = Leaves-cut a.held b.held c.held c.uncut text (take p.count (drop end text)) end size p.wrote.written q.cut

Leaves-uncut : (a b : Option (List ℕ)) (uncut : Bool) (text : List ℕ) (end count : ℕ) → IfSome a (λ held. length held ≡ end) → uncut ≡ true →
    Overwrites a b end (take count (drop end text)) → LeavesKnown a b uncut text
Leaves-uncut None b uncut text end count size t p = tt
Leaves-uncut (Some a) None uncut text end count size t p = absurd p
Leaves-uncut (Some a) (Some b) uncut text end count size t p =
    let part : List ℕ = take count (drop end text) in
    let at_end : over a end part ≡ a ++ part = subst (λ n. over a n part ≡ a ++ part) size (over-end a part) in
    let is : b ≡ a ++ take count (new_end a text) = p (omega arith) ∙ at_end ∙ ap (λ n. a ++ take count (drop n text)) (sym size) in
    subst (Leaves a text uncut) (sym is) (part_of_end count t)

-- a part of the new end was written and couldn't be cut off
pub longer-uncut : (a b c : FileState) (text : List ℕ) (end : ℕ) → IfSome a.held (λ held. length held ≡ end) →
    WroteFront a b end (drop end text) → c ≡ record b { uncut = true } → LeftBy a c text
longer-uncut a b c text end size p e =
    subst (λ s. LeftBy a s text) (sym e) (Leaves-uncut a.held b.held true text end p.count size refl p.wrote.written)

Becomes-shorter : (a b c : Option (List ℕ)) (text : List ℕ) → IfSome a (λ held. length text ≤ length held) → Overwrites a b 0 text →
    CutsTo b c (length text) → Becomes a c text
Becomes-shorter None b c text size p q = tt
Becomes-shorter (Some a) None c text size p q = absurd p
Becomes-shorter (Some a) (Some b) None text size p q = absurd q
Becomes-shorter (Some a) (Some b) (Some c) text size p q =
    let begins : b ≡ text ++ drop (0 + length text) a = p (omega arith) in
    let sizes : length b ≡ length text + length (drop (0 + length text) a) = ap length begins ∙ length-append text (drop (0 + length text) a) in
    q (omega arith) ∙ rw begins (take-append_seam text (drop (0 + length text) a))

-- all of a text that isn't longer was written, and the file was cut
pub shorter-done : (a b c : FileState) (text : List ℕ) → IfSome a.held (λ held. length text ≤ length held) → Wrote a b 0 text →
    WasCut b c (length text) → Becomes a.held c.held text
shorter-done a b c text size p q = Becomes-shorter a.held b.held c.held text size p.written q.cut

Leaves-shorter : (a b : Option (List ℕ)) (uncut : Bool) (text : List ℕ) (count : ℕ) → IfSome a (λ held. length text ≤ length held) →
    count ≤ length text → Overwrites a b 0 (take count text) → LeavesKnown a b uncut text
Leaves-shorter None b uncut text count size h p = tt
Leaves-shorter (Some a) None uncut text count size h p = absurd p
Leaves-shorter (Some a) (Some b) uncut text count size h p =
    let none : a ++ new_end a text ≡ a = ap (λ l. a ++ l) (drop_all (length a) text size) ∙ append-nil a in
    let from : 0 + length (take count text) ≡ count = omega (arith, length-take-le count text h) in
    let is : b ≡ take count text ++ drop count (a ++ new_end a text) = p (omega arith) ∙ rw (from, none) refl in
    subst (Leaves a text uncut) (sym is) (front count (omega arith))

-- a front of a text that isn't longer was written
pub shorter-front : (a b : FileState) (text : List ℕ) → IfSome a.held (λ held. length text ≤ length held) → WroteFront a b 0 text → LeftBy a b text
shorter-front a b text size p = Leaves-shorter a.held b.held b.uncut text p.count size p.within p.wrote.written

-- all of it was written, and the file couldn't be cut
pub shorter-uncut : (a b c : FileState) (text : List ℕ) → IfSome a.held (λ held. length text ≤ length held) → Wrote a b 0 text →
    c ≡ record b { uncut = true } → LeftBy a c text
shorter-uncut a b c text size p e =
    subst (λ s. LeftBy a s text) (sym e) (Leaves-shorter a.held b.held true text (length text) size (omega arith) (rw (take-length text) p.written))

Leaves-whole : (a c : Option (List ℕ)) (uncut : Bool) (text : List ℕ) → Becomes a c text → LeavesKnown a c uncut text
Leaves-whole None c uncut text p = tt
Leaves-whole (Some a) None uncut text p = absurd p
Leaves-whole (Some a) (Some c) uncut text p = subst (Leaves a text uncut) (sym p) whole

-- the whole text wasn't synced
pub left-whole : (a c s : FileState) (text : List ℕ) → s ≡ c → Becomes a.held c.held text → LeftBy a s text
left-whole a c s text same p = rw same (Leaves-whole a.held c.held c.uncut text p)

-- all the bytes beyond a place
all-beyond : (text : List ℕ) (end : ℕ) → take (length text - end) (drop end text) ≡ drop end text
all-beyond text end = take_all (length text - end) (drop end text) (omega (arith, length-drop end text))

-- what follows at a success, and at an error, of the same result
pub on_ok_map : {T E P Q : Type 0} (r : Result T E) → (P → Q) → OnOk r P → OnOk r Q
on_ok_map (Ok x) f p = f p
on_ok_map (Err e) f p = tt

pub on_err_map : {T E P Q : Type 0} (r : Result T E) → (P → Q) → OnErr r P → OnErr r Q
on_err_map (Ok x) f p = tt
on_err_map (Err e) f p = f p

-- the bytes beyond a place, as they are asked for
all-asked : (text rest : List ℕ) (count end : ℕ) → count ≡ length text → rest ≡ drop end text → take (count - end) rest ≡ drop end text
all-asked text rest count end n is = rw (n, is) (all-beyond text end)

-- the new end was refused, and then cut off, or that was refused too
pub longer-refused : {T E : Type 0} (r : Result T E) (a b c : FileState) (text rest : List ℕ) (count end : ℕ) →
    IfSome a.held (λ held. length held ≡ end) → count ≡ length text → rest ≡ drop end text → WroteFront a b end (take (count - end) rest) →
    OnOk r (WasCut b c end) → OnErr r (c ≡ record b { uncut = true }) → LeftBy a c text
longer-refused (Ok x) a b c text rest count end size n is p q e =
    longer-cut a b c text end size (subst (WroteFront a b end) (all-asked text rest count end n is) p) q
longer-refused (Err x) a b c text rest count end size n is p q e =
    longer-uncut a b c text end size (subst (WroteFront a b end) (all-asked text rest count end n is) p) e

-- the new end was written, and then the front
pub longer-then-done : {T E : Type 0} (r : Result T E) (a b c : FileState) (text rest all : List ℕ) (count end : ℕ) →
    IfSome a.held (λ held. length held ≡ end) → end ≤ length text → count ≡ length text → rest ≡ drop end text → all ≡ text →
    Wrote a b end (take (count - end) rest) → OnOk r (Wrote b c 0 (take end all)) → OnOk r (Becomes a.held c.held text)
longer-then-done r a b c text rest all count end size longer n is same p = on_ok_map r (λ q.
    longer-done a b c text end size longer (subst (Wrote a b end) (all-asked text rest count end n is) p)
    (subst (λ l. Wrote b c 0 (take end l)) same q))

-- the new end was written, and then the front was refused
pub longer-then-refused : {T E : Type 0} (r : Result T E) (a b c : FileState) (text rest all : List ℕ) (count end : ℕ) →
    IfSome a.held (λ held. length held ≡ end) → end ≤ length text → count ≡ length text → rest ≡ drop end text → all ≡ text →
    Wrote a b end (take (count - end) rest) → OnErr r (WroteFront b c 0 (take end all)) → OnErr r (LeftBy a c text)
longer-then-refused r a b c text rest all count end size longer n is same p = on_err_map r (λ q.
    longer-front a b c text end size longer (subst (Wrote a b end) (all-asked text rest count end n is) p)
    (subst (λ l. WroteFront b c 0 (take end l)) same q))

-- all of a text, as it is asked for
pub whole-asked : (text all : List ℕ) (count : ℕ) → count ≡ length text → all ≡ text → take count all ≡ text
whole-asked text all count n same = rw (n, same) (take-length text)
