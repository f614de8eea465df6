use Rattle.std.proofs.Common.{◌≡◌, ◌∙◌, ℕ, Bool, true, List, Option, sym, ap}
use Rattle.std.specs.Prelude.{option_map}
use Rattle.std.proofs.lemmas.Result.{on_ok_weaker}
use Rattle.ed_syntax.specs.PublicTypes.{command_value}
use Rattle.ed_syntax.specs.Commands.{Command}
use Rattle.ed_syntax.specs.meaning.Verbs.{takes}
use Rattle.ed_rules.specs.Matched.{sought, asked_for, given_by}
use Rattle.ed_rules.specs.Texts.{with_texts}
use Rattle.ed_rules.proofs.Texting.{with_texts-append}
use Rattle.ed_rules.proofs.watch.add_command.Goals as goal

-- those that are searched for and then that of `s`, `g` or `v`
both : (follows : Bool) (c : Command) (given : Option (List ℕ)) (old one new : List (List ℕ)) → follows ≡ true → given ≡ (takes c.verb).pattern → one ≡ with_texts (sought c) old → new ≡ with_texts (asked_for given) one →
    new ≡ with_texts (given_by follows c) old
both follows c given old one new is same first last =
    last ∙ ap (λ (p : Option (List ℕ)). with_texts (asked_for p) one) same ∙ ap (with_texts (asked_for (takes c.verb).pattern)) first
    ∙ sym (with_texts-append (sought c) (asked_for (takes c.verb).pattern) old)
    ∙ ap (λ (b : Bool). with_texts (given_by b c) old) (sym is)

pub returns-then-follows : goal.returns-then-follows
returns-then-follows c =
    let pattern : option_map (λ pattern. pattern.now) c.takes.result.pattern ≡ (takes (command_value c.args.command.now).verb).pattern = ap (λ t. t.pattern) c.takes.ensures.value in
    record {
      value = on_ok_weaker c.add_asked.result
          (λ e. both c.args.follows (command_value c.args.command.now) _ c.args.patterns.now c.add_sought.new.patterns c.add_asked.new.patterns c.if-follows.true pattern c.in_ok-add_sought.ensures.value e)
          c.add_asked.ensures.value;
    }
