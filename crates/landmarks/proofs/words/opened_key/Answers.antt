use Rattle.std.proofs.Common.{◌≡◌, [], length, get_or, Some, None, Ok, Err, sym, ap, ◌∙◌, arith}
use Rattle.std.proofs.lemmas.Grind.{common_steps}
use Rattle.bre_parse.specs.Bre.{bre_tree}
use Rattle.bre_parse.specs.Grammar.{pattern}
use Rattle.ed_syntax.specs.reading.Tokens.{quoted}
use Rattle.ed_syntax.proofs.reader.Fronts.{after_first, first_and_others}
use Rattle.landmarks.specs.declared.chain_fault.ChainWrong.TheVariants as wrong
use Rattle.landmarks.proofs.WordReads as read
use Rattle.landmarks.proofs.words.opened_key.Goals as goal

pub returns-in_default-clause-spelled : goal.returns-in_default-clause-spelled
returns-in_default-clause-spelled c =
    let lacking : quoted (length c.args.more.now) c.args.delimiter c.args.more.now ≡ None = grind (arith, common_steps) in
    read.unread c.args.text.now c.args.delimiter c.args.more.now c.requires.opened c.requires.delimits lacking

pub returns-in_default-clause-told : goal.returns-in_default-clause-told
returns-in_default-clause-told c =
    let lacking : quoted (length c.args.more.now) c.args.delimiter c.args.more.now ≡ None = grind (arith, common_steps) in
    read.wrong_in_here c.args.text.now c.args.delimiter c.args.more.now c.requires.opened c.requires.delimits lacking c.in_ok-wrong_in.field-0 _
    (ap length c.after_blanks-left.ensures.value) c.in_ok-wrong_in.ensures.value

pub returns-in_default-closing-clause-spelled : goal.returns-in_default-closing-clause-spelled
returns-in_default-closing-clause-spelled c =
    let pattern = c.in-Some.pattern in
    let closing = c.in-Some.closing.now in
    let found : quoted (length c.args.more.now) c.args.delimiter c.args.more.now ≡ Some (pattern, closing) = grind (arith, common_steps) in
    read.left_open c.args.text.now c.args.delimiter c.args.more.now c.requires.opened c.requires.delimits pattern closing found (read.no_bytes closing c.in_default-closing.len_below)

pub returns-in_default-closing-clause-told : goal.returns-in_default-closing-clause-told
returns-in_default-closing-clause-told c =
    let pattern = c.in-Some.pattern in
    let closing = c.in-Some.closing.now in
    let found : quoted (length c.args.more.now) c.args.delimiter c.args.more.now ≡ Some (pattern, closing) = grind (arith, common_steps) in
    read.wrong_here c.args.text.now wrong.Unclosed _ (ap length c.after_blanks-left.ensures.value)
    (read.left_open-unclosed c.args.text.now c.args.delimiter c.args.more.now c.requires.opened c.requires.delimits pattern closing found (read.no_bytes closing c.in_default-closing.len_below))

pub returns-then-is_empty-clause-spelled : goal.returns-then-is_empty-clause-spelled
returns-then-is_empty-clause-spelled c =
    let pattern = c.in-Some.pattern in
    let closing = c.in-Some.closing.now in
    let found : quoted (length c.args.more.now) c.args.delimiter c.args.more.now ≡ Some (pattern, closing) = grind (arith, common_steps) in
    let nothing : pattern ≡ [] = grind (arith, common_steps) in
    read.empty c.args.text.now c.args.delimiter c.args.more.now c.requires.opened c.requires.delimits pattern closing found nothing

pub returns-then-is_empty-clause-told : goal.returns-then-is_empty-clause-told
returns-then-is_empty-clause-told c =
    let pattern = c.in-Some.pattern in
    let closing = c.in-Some.closing.now in
    let found : quoted (length c.args.more.now) c.args.delimiter c.args.more.now ≡ Some (pattern, closing) = grind (arith, common_steps) in
    let nothing : pattern ≡ [] = grind (arith, common_steps) in
    read.wrong_here c.args.text.now wrong.Empty _ (ap length c.after_blanks-left.ensures.value)
    (read.empty-told c.args.text.now c.args.delimiter c.args.more.now c.requires.opened c.requires.delimits pattern closing found
    (get_or closing 0 0) (after_first closing) (first_and_others closing c.in-len1-up.len_at_least) nothing)

pub returns-in-Ok-clause-spelled : goal.returns-in-Ok-clause-spelled
returns-in-Ok-clause-spelled c =
    let text = c.in-Some.pattern in
    let closing = c.in-Some.closing.now in
    let found : quoted (length c.args.more.now) c.args.delimiter c.args.more.now ≡ Some (text, closing) = grind (arith, common_steps) in
    let is : pattern text ≡ Ok (bre_tree c.in-Ok.field-0) = ap pattern (sym c.as_slice.ensures.value) ∙ c.in-Ok.ensures.value in
    read.key_read c.args.text.now c.args.delimiter c.args.more.now c.requires.opened c.requires.delimits text closing found
    (get_or closing 0 0) (after_first closing) (first_and_others closing c.in-len1-up.len_at_least) (bre_tree c.in-Ok.field-0)
    (λ (nothing : text ≡ []). grind (arith, common_steps)) is

pub returns-in-Ok-clause-end : goal.returns-in-Ok-clause-end
returns-in-Ok-clause-end c =
    let text = c.in-Some.pattern in
    let closing = c.in-Some.closing.now in
    let found : quoted (length c.args.more.now) c.args.delimiter c.args.more.now ≡ Some (text, closing) = grind (arith, common_steps) in
    read.key_end c.args.text.now c.args.delimiter c.args.more.now c.requires.opened c.requires.delimits text closing found
    (get_or closing 0 0) (after_first closing) (first_and_others closing c.in-len1-up.len_at_least)

pub returns-in-Ok-clause-shorter : goal.returns-in-Ok-clause-shorter
returns-in-Ok-clause-shorter c =
    let text = c.in-Some.pattern in
    let closing = c.in-Some.closing.now in
    let found : quoted (length c.args.more.now) c.args.delimiter c.args.more.now ≡ Some (text, closing) = grind (arith, common_steps) in
    read.key_shorter c.args.text.now c.args.delimiter c.args.more.now c.requires.opened c.requires.delimits text closing found
    (get_or closing 0 0) (after_first closing) (first_and_others closing c.in-len1-up.len_at_least)

pub returns : goal.returns
returns c =
    let text = c.in-Some.pattern in
    let closing = c.in-Some.closing.now in
    let found : quoted (length c.args.more.now) c.args.delimiter c.args.more.now ≡ Some (text, closing) = grind (arith, common_steps) in
    let is : pattern text ≡ Err c.in-Err.reason = ap pattern (sym c.as_slice.ensures.value) ∙ c.in-Err.ensures.first_fault (λ same. grind (arith, common_steps)) in
    record {
      spelled = read.refused c.args.text.now c.args.delimiter c.args.more.now c.requires.opened c.requires.delimits text closing found c.in-Err.reason is;
      told = read.wrong_here c.args.text.now (wrong.Pattern c.in-Err.reason) _ (ap length c.after_blanks-left.ensures.value)
          (read.refused-told c.args.text.now c.args.delimiter c.args.more.now c.requires.opened c.requires.delimits text closing found
          (get_or closing 0 0) (after_first closing) (first_and_others closing c.in-len1-up.len_at_least) c.in-Err.reason is);
      end = tt;
      shorter = tt;
    }
