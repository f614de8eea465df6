-- Whether the call that came last was refused or not done (our choice: what discards or settles doesn't count).
use Rattle.std.specs.Prelude.{Bool, false, not, List, fold}
use Rattle.ed_session.specs.Drives.{is_refusal}
use Rattle.whole.specs.Deeds.{Deed}

-- whether a call was refused, or was the one before it, where it discards or settles
abbrev pub refused_then : Bool → Deed → Bool
refused_then before (Deed.Read path given) = is_refusal given
refused_then before (Deed.ReadDraft path given) = is_refusal given
refused_then before (Deed.Draft path bytes given) = is_refusal given
refused_then before (Deed.Ready path done) = not done
refused_then before (Deed.Put path done) = not done
refused_then before (Deed.Discard path) = before
refused_then before (Deed.Settle path) = before

-- the last of these calls was refused, but for those that discard or settle
abbrev pub last_refused : List Deed → Bool
last_refused deeds = fold refused_then false deeds
