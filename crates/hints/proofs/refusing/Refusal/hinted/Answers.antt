use Rattle.std.proofs.Common.{drop}
use Rattle.hints.proofs.Chains.{front-of}
use Rattle.hints.proofs.refusing.Refusal.hinted.Goals as goal

pub returns-in_ok-copy_of-in-len1-up : goal.returns-in_ok-copy_of-in-len1-up
returns-in_ok-copy_of-in-len1-up c =
    let first = front-of c.as_slice.result.now c.hint-item.result c.in-len1-up.len_at_least c.hint-item.is in
    record {
      value = (c.hint-item.result, drop 1 c.args.self.now.hints.items, rw c.as_slice.ensures.value at first, c.in_ok-try_copy-in-len1-up.ensures.value, c.in_ok-copy_of-in-len1-up.ensures.value);
    }
