-- The job has the start that is asked for.
use Rattle.std.proofs.Common.{◌≡◌, true, map, option_map, sym, subst}
use Rattle.ed_main.specs.Job.{IsGiven}
use Rattle.ed_main.specs.Words.{is_path}
use Rattle.ed_main.proofs.StartLemmas.{file_is_path, vouching_given}
use Rattle.ed_main.proofs.words.vouch_job_of.Goals as goal

pub wanted_in-requires : goal.wanted_in-requires
wanted_in-requires c =
    record { named = subst (λ path. is_path path ≡ true) (sym c.file_for.ensures.value) (file_is_path (option_map (λ text. text.now) c.text_of-path.result) (map (λ text. text.now) c.args.scripts.now) (sym c.if-not-is_path.ensures.value)) }

pub returns-clause-given : goal.returns-clause-given
returns-clause-given c =
    subst IsGiven (sym c.in_ok-vouching.ensures.value) (vouching_given c.in_ok-wanted.wanted _ c.is_given-all.result c.is_given-quiet.result c.in_ok-wanted.ensures.given)
