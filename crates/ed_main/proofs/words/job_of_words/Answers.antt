-- The words that were taken are those that were given.
use Rattle.std.proofs.Common.{◌≡◌, ◌≢◌, ◌∙◌, List, None, ℕ, ap, arith, map, subst}
use Rattle.std.specs.Prelude.{IfErr, string_bytes}
use Rattle.std.proofs.lemmas.List.{take_all}
use Rattle.ed_main.specs.Words.{IsAsked, MayBeHad, OnlyAsk, job_of}
use Rattle.ed_main.specs.declared.words.WordsFault.TheVariants as fault
use Rattle.ed_main.proofs.words.job_of_words.Goals as goal

pub returns-clause-only_if_refused : goal.returns-clause-only_if_refused
returns-clause-only_if_refused c =
    let taken = take_all c.words.word-index c.args.words.now (omega arith) in
    let same : map (λ text. text.now) c.as_slice.result.now ≡ map (λ word. string_bytes word) c.args.words.now =
    ap (map (λ text. text.now)) c.as_slice.ensures.value ∙ (c.words.invariant ∙ ap (map (λ word. string_bytes word)) taken) in
    subst (λ (words : List (List ℕ)). IfErr c.read_words.result (λ f. f ≢ fault.Memory → MayBeHad words → job_of words ≡ None)) same
    c.read_words.ensures.only_if_refused

pub returns-clause-shown : goal.returns-clause-shown
returns-clause-shown c =
    let taken = take_all c.words.word-index c.args.words.now (omega arith) in
    let same : map (λ text. text.now) c.as_slice.result.now ≡ map (λ word. string_bytes word) c.args.words.now =
    ap (map (λ text. text.now)) c.as_slice.ensures.value ∙ (c.words.invariant ∙ ap (map (λ word. string_bytes word)) taken) in
    subst (λ (words : List (List ℕ)). IfErr c.read_words.result (λ f. f ≢ fault.Memory → OnlyAsk words → IsAsked f)) same c.read_words.ensures.shown
