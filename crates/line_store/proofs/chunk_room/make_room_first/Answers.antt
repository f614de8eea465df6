-- Room goes from a chunk to the one before it.
use Rattle.std.proofs.Common.{◌≡◌, ℕ, ◌+◌, ◌-◌, ◌*◌, ◌<◌, ◌≤◌, ◌∙◌, [], ap, refl, sym, subst, length, get_or, arith, ⊎_elim}
use Rattle.std.proofs.lemmas.Bool.{cases_lt}
use Rattle.line_store.specs.Chunks.{full, lines_before}
use Rattle.line_store.proofs.Joined.{before-next, before-end}
use Rattle.line_store.proofs.chunk_room.make_room_first.Goals as goal

pub passes-init : goal.passes-init
passes-init c =
    let now = c.args.chunks.now.items in
    let k = c.len-k.result - 1 in
    let within : k < length now = omega arith in
    record {
      same = refl;
      long = refl;
      within = within;
      room = λ h. omega (arith, before-next k now within, before-end (k + 1) now (omega arith));
    }

pub passes-preserved : goal.passes-preserved
passes-preserved c =
    let i = c.passes.invariant in
    let now = c.passes.chunks.items in
    let k = c.passes.k - 1 in
    let new = c.pass_on.new.chunks.items in
    let is : c.passes.k ≡ k + 1 = omega arith in
    record {
      same = c.pass_on.ensures.joined ∙ i.same;
      long = c.pass_on.ensures.length ∙ i.long;
      within = omega (arith, c.pass_on.ensures.length);
      room = λ h. ⊎_elim
          (λ l. absurd (omega (arith, c.pass_on.ensures.room l)))
          (λ l.
          let same : new ≡ now = c.pass_on.ensures.unchanged l in
          let room : lines_before c.passes.k now < full * c.passes.k = i.room (subst (λ (n : ℕ). full ≤ length (get_or now n [])) (sym is) l) in
          omega (arith, before-next k now (omega arith), ap (λ t. lines_before k t) same, ap (λ t. length (get_or t k [])) same, ap (λ n. lines_before n now) is))
          (cases_lt (length (get_or now (k + 1) [])) full);
    }
