-- The words give just the job of the subcommand that `clap` found in them.
use Rattle.std.proofs.Common.{◌≡◌, ◌∙◌, ℕ, List, map, subst, sym}
use Rattle.std.proofs.lemmas.Result.{IfErr-weaker, IfOk-weaker}
use Rattle.clap.specs.Words.{app_of, kind_of, subcommand_of, subcommand_rows_of}
use Rattle.ed_main.specs.Subcommands.{program}
use Rattle.ed_main.specs.Words.{AreHadBy, job_of, job_named}
use Rattle.ed_main.proofs.WordsLemmas.{asked_by, found_by, given_by, none_found, refused_by, request_by}
use Rattle.ed_main.proofs.words.read_words.Goals as goal

pub returns-in-Ok-clause-value : goal.returns-in-Ok-clause-value
returns-in-Ok-clause-value c =
    let words : List (List ℕ) = map (λ w. w.now) c.args.words.now in
    let e : job_of words ≡ job_named (subcommand_rows_of c.in-Ok.matches) =
    given_by (app_of c.in_ok-program.field-0) words _ _ c.in_ok-program.ensures.value c.in-Ok.ensures.kinds c.in-Ok.ensures.matches in
    IfOk-weaker c.job_of_matches.result _ _ (λ job h. e ∙ h) c.job_of_matches.ensures.value

pub returns-in-Ok-clause-only_if_refused : goal.returns-in-Ok-clause-only_if_refused
returns-in-Ok-clause-only_if_refused c =
    let words : List (List ℕ) = map (λ w. w.now) c.args.words.now in
    let e : job_of words ≡ job_named (subcommand_rows_of c.in-Ok.matches) =
    given_by (app_of c.in_ok-program.field-0) words _ _ c.in_ok-program.ensures.value c.in-Ok.ensures.kinds c.in-Ok.ensures.matches in
    let rows : subcommand_rows_of c.in-Ok.matches ≡ subcommand_of program words =
    found_by (app_of c.in_ok-program.field-0) words _ _ c.in_ok-program.ensures.value c.in-Ok.ensures.matches in
    IfErr-weaker c.job_of_matches.result _ _ (λ fault h differs had. e ∙ h differs (subst AreHadBy (sym rows) had)) c.job_of_matches.ensures.only_if_refused

pub returns-in-Err-clause-only_if_refused : goal.returns-in-Err-clause-only_if_refused
returns-in-Err-clause-only_if_refused c =
    let words : List (List ℕ) = map (λ w. w.now) c.args.words.now in
    λ differs had. refused_by (app_of c.in_ok-program.field-0) words (kind_of c.in-Err.error) c.refused.result c.in_ok-program.ensures.value
    c.in-Err.ensures.kinds c.refused.ensures.memory differs

pub returns-in-Err-clause-asked : goal.returns-in-Err-clause-asked
returns-in-Err-clause-asked c = λ is.
    asked_by (app_of c.in_ok-program.field-0) _ (kind_of c.in-Err.error) c.in_ok-program.ensures.value c.in-Err.ensures.kinds (c.refused.ensures.asked is)

pub returns-in-Err-clause-shown : goal.returns-in-Err-clause-shown
returns-in-Err-clause-shown c = λ other only.
    c.refused.ensures.shown
    (request_by (app_of c.in_ok-program.field-0) _ (kind_of c.in-Err.error) c.refused.result c.in_ok-program.ensures.value c.in-Err.ensures.kinds
    c.refused.ensures.memory other only) other

pub returns-in-Ok-clause-asked : goal.returns-in-Ok-clause-asked
returns-in-Ok-clause-asked c = IfErr-weaker c.job_of_matches.result _ _ (λ fault no is. absurd (no is)) c.job_of_matches.ensures.unasked

pub returns-in-Ok-clause-shown : goal.returns-in-Ok-clause-shown
returns-in-Ok-clause-shown c =
    let none = none_found (app_of c.in_ok-program.field-0) (map (λ w. w.now) c.args.words.now) c.in_ok-program.ensures.value c.in-Ok.ensures.kinds in
    IfErr-weaker c.job_of_matches.result _ _ (λ fault no other only. absurd (only.0 none)) c.job_of_matches.ensures.unasked
