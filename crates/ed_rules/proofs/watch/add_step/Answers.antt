use Rattle.std.proofs.Common.{◌≡◌, ◌++◌, ◌∙◌, sym, ap, List, ℕ}
use Rattle.std.proofs.lemmas.Result.{on_ok_weaker}
use Rattle.std.specs.List.{flat_map}
use Rattle.ed_syntax.specs.PublicTypes.{command_value, step_value}
use Rattle.ed_syntax.specs.Commands as ed
use Rattle.ed_rules.specs.Matched.{given_by}
use Rattle.ed_rules.specs.Texts.{with_texts}
use Rattle.ed_rules.proofs.Texting.{with_texts-append}
use Rattle.ed_rules.proofs.watch.add_step.Goals as goal

-- a command and then its list
both : (given : ed.Command → List (List ℕ)) (one old new : List (List ℕ)) (c : ed.Command) (list others : List ed.Command) → one ≡ with_texts (given c) old → others ≡ list →
    new ≡ with_texts (flat_map given others) one → new ≡ with_texts (given c ++ flat_map given list) old
both given one old new c list others h is k =
    k ∙ ap (λ (l : List ed.Command). with_texts (flat_map given l) one) is ∙ ap (λ (t : List (List ℕ)). with_texts (flat_map given list) t) h
    ∙ sym (with_texts-append (given c) (flat_map given list) old)

pub returns : goal.returns
returns c = record {
  value = on_ok_weaker c.add_list.result
      (λ e. both (given_by c.args.follows) c.add_command.new.patterns c.args.patterns.now c.add_list.new.patterns (command_value c.args.command.now) (step_value c.args.command.now).list _ c.in_ok-add_command.ensures.value c.list.ensures.value e)
      c.add_list.ensures.value;
}
