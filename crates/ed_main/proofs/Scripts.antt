-- A script that wasn't read was wanted.
use Rattle.std.proofs.Common.{◌≡◌, List, [], Bool, true, false, Result, Ok, Err, refl}
use Rattle.std.specs.Prelude.{ℕ, IsTrue, IsFalse}
use Rattle.sources.specs.declared.source.ReadFault.{ReadFault}

pub wanted_where_unread : (wanted : Bool) (result : Result (List ℕ) ReadFault) (fault : ReadFault) →
    (IsFalse wanted → result ≡ Ok []) → result ≡ Err fault → IsTrue wanted
wanted_where_unread true result fault unasked is = refl
wanted_where_unread false result fault unasked is = absurd (let read = unasked refl in cc)
