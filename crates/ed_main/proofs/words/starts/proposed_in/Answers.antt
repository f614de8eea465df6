-- The start has the path that is given.
use Rattle.std.proofs.Common.{◌≡◌, true}
use Rattle.ed_main.specs.Words.{is_path}
use Rattle.ed_main.proofs.StartLemmas.{path_has_bytes}
use Rattle.ed_main.proofs.words.starts.proposed_in.Goals as goal

pub returns-clause-given : goal.returns-clause-given
returns-clause-given c =
    let named : is_path c.in_ok-file.file ≡ true = rw c.in_ok-file.ensures.value c.requires.named in
    path_has_bytes _ named
