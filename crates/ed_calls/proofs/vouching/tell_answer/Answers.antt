-- The text of the certificate was given, or a line was told.
use Rattle.std.proofs.Common.{refl}
use Rattle.ed_calls.proofs.Sayings.{says_vouched, says_refused, says_cannot}
use Rattle.ed_calls.proofs.vouching.tell_answer.Goals as goal

pub returns-then-give_certificate : goal.returns-then-give_certificate
returns-then-give_certificate g c =
    record { says = says_vouched _ c.in-Vouched.certificate _ c.in-Vouched.is c.requires.texts (c.if-give_certificate.ensures.all refl).0 }

pub returns-else-give_certificate : goal.returns-else-give_certificate
returns-else-give_certificate g c =
    let given = c.if-give_certificate.ensures.part refl in
    record { says = says_refused _ c.in-Vouched.certificate _ _ c.in-Vouched.is c.requires.texts given.0 given.1 c.status.ensures.value }

pub returns-in-Cannot : goal.returns-in-Cannot
returns-in-Cannot g c =
    record { says = says_cannot _ c.in-Cannot.place c.in-Cannot.why c.in-Cannot.notes c.cannot_told.result _ _ c.in-Cannot.is c.cannot_told.ensures.value c.tell.ensures.says }
