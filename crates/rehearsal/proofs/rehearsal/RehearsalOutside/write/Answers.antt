use Rattle.std.proofs.Common.{rules, ◌≡◌, ◌+◌, ◌++◌, ◌∙◌, ap, refl}
use Rattle.ed_syntax.specs.declared.request.Request.TheVariants as request
use Rattle.rehearsal.specs.Held.{told_of}
use Rattle.rehearsal.proofs.Calls.{goes-on-write, tells-write}
use Rattle.rehearsal.proofs.rehearsal.RehearsalOutside.write.Goals as goal

pub invariant_of-self-2 : goal.invariant_of-self-2
invariant_of-self-2 g c =
    let s = c.args.self.now in
    let written = c.in_ok-answer.ensures in
    let counted : c.in-Some.calls ≡ s.calls + 1 = search rules in
    let tells : c.push_reserved.new.self.items ≡ s.held.items ++ told_of (request.Write c.args.path.now c.args.bytes.now) =
    c.push_reserved.ensures.items
    ∙ ap (λ told. c.reserve.new.self.items ++ told)
    (tells-write _ s.files c.write.new.self s.calls s.held.items c.args.path.now c.args.bytes.now c.in_ok-name.name c.lines_at-lines.result c.len.result
    s.sound written.written c.in_ok-name.ensures.value c.lines_at-lines.ensures.value (search rules))
    ∙ ap (λ held. held ++ told_of (request.Write c.args.path.now c.args.bytes.now)) c.reserve.ensures.items in
    record {
      sound = goes-on-write _ s.files c.write.new.self s.calls c.in-Some.calls s.held.items _ c.args.path.now c.args.bytes.now c.in_ok-answer.answer
          s.sound written.logged written.value written.written c.write.ensures.refuses written.count counted tells;
    }
