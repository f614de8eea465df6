use Rattle.std.proofs.Common.{rules, ◌≡◌, ◌+◌, ◌∙◌, refl}
use Rattle.rehearsal.proofs.Calls.{goes-on-read, stays, stays-read}
use Rattle.rehearsal.proofs.rehearsal.RehearsalOutside.read.Goals as goal

pub invariant_of-self : goal.invariant_of-self
invariant_of-self g c =
    let s = c.args.self.now in
    let f = c.fetch.ensures in
    record { sound = stays _ _ c.args.path.now s.files _ s.calls s.held.items s.sound f.no_write f.holds f.same_log (f.same_refused ∙ s.sound.refuses_none) f.same_refusals }

pub invariant_of-self-in-Break-branch-2 : goal.invariant_of-self-in-Break-branch-2
invariant_of-self-in-Break-branch-2 g c =
    let s = c.args.self.now in
    let f = c.fetch.ensures in
    let no_memory = c.in_err-answer.ensures.unchanged in
    record {
      sound = stays-read _ _ s.files c.fetch.new.files c.refuse.new.self c.read-read.new.self c.refuse-2.new.self s.calls _ s.held.items c.args.path.now
          s.sound f.no_write f.holds f.same_log f.same_refusals c.refuse.ensures.value no_memory.0 no_memory.1 c.read-read.ensures.files.0 c.refuse-2.ensures.value;
    }

pub invariant_of-self-2 : goal.invariant_of-self-2
invariant_of-self-2 g c =
    let s = c.args.self.now in
    let f = c.fetch.ensures in
    let read = c.in_ok-answer.ensures in
    let counted : c.in-Some.calls ≡ s.calls + 1 = search rules in
    record {
      sound = goes-on-read _ _ s.files c.fetch.new.files c.refuse.new.self c.read-read.new.self c.refuse-2.new.self s.calls c.in-Some.calls _ s.held.items
          c.args.path.now c.in_ok-refused.refused c.in_ok-answer.answer
          s.sound f.no_write f.holds c.in_ok-refused.ensures.shown f.same_log f.same_refusals c.call_refused.ensures.value c.refuse.ensures.value
          read.logged read.value read.count c.read-read.ensures.files.0 c.refuse-2.ensures.value counted;
    }
