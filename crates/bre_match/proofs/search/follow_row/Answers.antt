use Rattle.std.proofs.Common.{◌-◌, None, subst}
use Rattle.bre_parse.specs.Tree.{Repeat, Set}
use Rattle.bre_parse.specs.Ways.{ways}
use Rattle.bre_match.specs.Meeting.{TakenInRow}
use Rattle.bre_match.specs.Runs.{tasks, ways_from}
use Rattle.bre_match.proofs.InRows.{in_row, all_in_row}
use Rattle.bre_match.proofs.search.follow_row.Goals as goal

pub returns-in-Some-clause-value : goal.returns-in-Some-clause-value
returns-in-Some-clause-value c =
    let set = c.args.set.now in
    let taken = c.args.taken.now in
    let place = taken.run.end in
    let groups = c.groups_at-groups.result in
    let met = c.in-Some.met in
    subst (λ g. TakenInRow c.args.asked.now (Repeat 0 None (Set set.negated set.ranges.items)) c.args.text.now
    (record { done = taken.item; way = (place, g) }) c.args.seen.now.marks.items (tasks c.args.left.now.items)
    (tasks c.push_run_ahead.new.left.items)) c.groups_at-groups.ensures.value
    (in_row c.args.asked.now set.negated set.ranges.items c.args.text.now (record { done = taken.item; way = (place, groups) }) met
    c.args.seen.now.marks.items (tasks c.args.left.now.items) (tasks c.push_run_ahead.new.left.items)
    (rw c.in-Some.is at c.in_ok-met.ensures.met) (rw c.in-Some.is at c.in_ok-met.ensures.row)
    (c.in_ok-push_run_ahead.ensures.value (ways_from place (met - place) groups) (c.ends_before.ensures.value groups)))

pub returns-clause-value : goal.returns-clause-value
returns-clause-value c =
    let set = c.args.set.now in
    let taken = c.args.taken.now in
    let place = taken.run.end in
    let groups = c.groups_at-groups.result in
    let all = ways (Repeat 0 None (Set set.negated set.ranges.items)) c.args.text.now place groups in
    subst (λ g. TakenInRow c.args.asked.now (Repeat 0 None (Set set.negated set.ranges.items)) c.args.text.now
    (record { done = taken.item; way = (place, g) }) c.args.seen.now.marks.items (tasks c.args.left.now.items)
    (tasks c.push_run_ahead-2.new.left.items)) c.groups_at-groups.ensures.value
    (all_in_row c.args.asked.now set.negated set.ranges.items c.args.text.now (record { done = taken.item; way = (place, groups) })
    c.args.seen.now.marks.items c.bytes_in_a_row-found.result (tasks c.args.left.now.items) (tasks c.push_run_ahead-2.new.left.items)
    (c.bytes_in_a_row-found.ensures.value groups)
    (c.in_ok-push_run_ahead-2.ensures.value all (c.bytes_in_a_row-found.ensures.value groups)))
