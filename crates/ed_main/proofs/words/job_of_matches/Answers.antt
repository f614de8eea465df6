-- The job is that of the subcommand's name, with its rows.
use Rattle.std.proofs.Common.{◌≡◌, ◌∙◌, sym}
use Rattle.std.proofs.lemmas.Result.{IfErr-weaker, IfOk-weaker}
use Rattle.clap.specs.Words.{found_of, rows_of, subcommand_rows_of}
use Rattle.ed_main.specs.Words.{job_by_name, job_named}
use Rattle.ed_main.proofs.WordsLemmas.{had_by, is_named}
use Rattle.ed_main.proofs.words.job_of_matches.Goals as goal

pub returns-in-Some-clause-value : goal.returns-in-Some-clause-value
returns-in-Some-clause-value c =
    let named : job_named (subcommand_rows_of c.args.matches.now) ≡ job_by_name c.in-Some.name.now (rows_of (found_of c.in-Some.given.now)) =
    is_named c.args.matches.now c.in-Some.name.now (rows_of (found_of c.in-Some.given.now)) (sym c.in-Some.ensures.name) (sym c.in-Some.ensures.rows) in
    IfOk-weaker c.job_by_name.result _ _ (λ job is. named ∙ is) c.job_by_name.ensures.value

pub returns-in-Some-clause-only_if_refused : goal.returns-in-Some-clause-only_if_refused
returns-in-Some-clause-only_if_refused c =
    let named : job_named (subcommand_rows_of c.args.matches.now) ≡ job_by_name c.in-Some.name.now (rows_of (found_of c.in-Some.given.now)) =
    is_named c.args.matches.now c.in-Some.name.now (rows_of (found_of c.in-Some.given.now)) (sym c.in-Some.ensures.name) (sym c.in-Some.ensures.rows) in
    IfErr-weaker c.job_by_name.result _ _
    (λ fault none differs had. named ∙ none differs (had_by (subcommand_rows_of c.args.matches.now) (rows_of (found_of c.in-Some.given.now))
    (sym c.in-Some.ensures.rows) had)) c.job_by_name.ensures.only_if_refused
