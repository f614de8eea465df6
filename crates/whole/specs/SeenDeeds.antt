-- The log of calls, as clauses alone see it (our choice: it keeps no copy of a file).
use Rattle.std.specs.Prelude.{List, map}
use Rattle.whole.specs.Deeds.{Deed}
use Rattle.whole.specs.declared.seen_deed.SeenDeed.{SeenDeed}
use Rattle.whole.specs.declared.seen_deed.SeenDeed.TheVariants as seen

-- the call that was seen
abbrev pub deed_seen : SeenDeed → Deed
deed_seen (seen.Read path given) = Deed.Read path.value given.value
deed_seen (seen.ReadDraft path given) = Deed.ReadDraft path.value given.value
deed_seen (seen.Draft path bytes given) = Deed.Draft path.value bytes.value given.value
deed_seen (seen.Ready path done) = Deed.Ready path.value done
deed_seen (seen.Put path done) = Deed.Put path.value done
deed_seen (seen.Discard path) = Deed.Discard path.value
deed_seen (seen.Settle path) = Deed.Settle path.value

-- a log as it was seen
abbrev pub deeds_seen : List SeenDeed → List Deed
deeds_seen log = map deed_seen log
