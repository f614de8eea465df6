-- The line that is found first in the order of the search, or none.
use Rattle.std.proofs.Common.{◌≡◌, Some, sym, ap, ◌∙◌}
use Rattle.std.specs.Prelude.{find, ok_or}
use Rattle.ed_base.specs.declared.fault.Fault.TheVariants.{NoMatch}
use Rattle.ed_syntax.specs.meaning.Values.{matches_line}
use Rattle.ed_commands.proofs.Held.{held}
use Rattle.ed_commands.proofs.Searching.{as-sought, leaves, looked, once-around}
use Rattle.ed_commands.proofs.editor.Editor.search.Goals as goal

pub returns-clause-exact : goal.returns-clause-exact
returns-clause-exact g c =
    let e = c.self-2.inside in
    let lines = g.S.LineStore.lines e.store in
    let now = held lines e.current e.pattern e.replacement e.name e.changed e.past in
    let after = held lines e.current (Some c.first_match.new.pattern) e.replacement e.name e.changed e.past in
    let own = c.args.own.now in
    let before = c.args.self.now.state in
    let is : now ≡ c.remember.new.self.state = ap (λ v. v.state) (c.self-2.view_is ∙ c.in_ok-open_lines.ensures.unchanged) in
    let left = leaves before c.remember.new.self.state own (ap (λ v. v.state) c.in_ok-remember.ensures.others) c.in_ok-remember.ensures.remembered in
    let same : after ≡ now =
    ap (λ p. held lines e.current p e.replacement e.name e.changed e.past) (ap (λ t. Some t) c.in_ok-found.ensures.kept ∙ sym c.in-Some.is) in
    let matching = find (matches_line c.in-Some.pattern now.lines) in
    looked _ _ c.in_ok-found.found _ after
    (as-sought c.args.direction before now own c.in-Some.pattern _ (is ∙ left) c.in-Some.is
    (ap (λ o. ok_or o NoMatch) (ap matching (sym (once-around c.args.direction now c.self-2.invariant)) ∙ sym c.in_ok-found.ensures.value)))
    c.ok_or.ensures.value (same ∙ is ∙ left)
