use Rattle.std.proofs.Common.{rules, ◌≡◌, ◌∷◌, [], ◌++◌, ℕ, List, sym, refl, ap, ◌∙◌, true, false, Some, None, arith}
use Rattle.std.specs.Prelude.{Contains}
use Rattle.std.proofs.lemmas.List.Elements.{Contains-append_right}
use Rattle.ed_syntax.specs.declared.request.Answer.{Answer}
use Rattle.ed_syntax.specs.declared.request.Answer.TheVariants as answer
use Rattle.ed_syntax.specs.declared.request.Request.{Request}
use Rattle.ed_syntax.specs.declared.request.Request.TheVariants as request
use Rattle.ed_session.specs.Drives.{Log}
use Rattle.ed_session.specs.KeptAnswers.{Files, found}
use Rattle.ed_session.specs.MemFiles.{file_at, files_of, log_of}
use Rattle.rehearsal.specs.Rehearsals.{ReadsAtMost, Shown, written}
use Rattle.rehearsal.specs.Insides.{Holds}
use Rattle.rehearsal.proofs.Holding.{holds-read, same-path, shown-real, these-hold}
use Rattle.rehearsal.proofs.Reading.{still-holds}
use Rattle.rehearsal.proofs.fetching.fetch.Goals as goal

-- the real files have answered
answered-holds : (old new : Log) (files made : Files) (path : List ℕ) (given : Answer) → Holds old files made →
    new ≡ old ++ (request.Read path, given) ∷ [] → Holds new files made
answered-holds old new files made path given h e = still-holds path old new (ReadsAtMost.one given e) files made h

answered-shown : (old new : Log) (files made : Files) (path : List ℕ) (given : Answer) → Holds old files made → file_at path files ≡ None →
    new ≡ old ++ (request.Read path, given) ∷ [] → Shown new made path given
answered-shown old new files made path given h none e = rw e (shown-real old made path given (h.kept path none))

read-held : (old new : Log) (files made : Files) (path bytes : List ℕ) → Holds old files made → file_at path files ≡ None →
    new ≡ old ++ (request.Read path, answer.Bytes bytes) ∷ [] → Holds new ((path, bytes) ∷ files) made
read-held old new files made path bytes h none e =
    let entry : Request × Answer = (request.Read path, answer.Bytes bytes) in
    let has : Contains new entry = rw e (Contains-append_right old (entry ∷ []) entry (0, omega arith, refl)) in
    holds-read new files made path bytes (answered-holds old new files made path _ h e) none has

this-shown : (real : Log) (log same : Log) (path : List ℕ) (given this : Answer) → Shown real (written log) path given → same ≡ log → this ≡ given →
    Shown real (written same) path this
this-shown real log same path given this s e f = rw (e, f) s

pub returns-in_err-add-in-Bytes-clause-no_write : goal.returns-in_err-add-in-Bytes-clause-no_write
returns-in_err-add-in-Bytes-clause-no_write g c = ReadsAtMost.one (answer.Bytes c.in-Bytes.bytes) (search rules)

pub returns-in_err-add-in-Bytes-clause-holds : goal.returns-in_err-add-in-Bytes-clause-holds
returns-in_err-add-in-Bytes-clause-holds g c =
    let same = c.in_err-add-in-Bytes.ensures.unchanged in
    these-hold _ _ _ _ _ (answered-holds _ _ _ _ c.args.path.now (answer.Bytes c.in-Bytes.bytes) c.requires.holds (search rules)) same.now (ap written same.same_log)

pub returns-in_ok-add-in-Bytes-clause-no_write : goal.returns-in_ok-add-in-Bytes-clause-no_write
returns-in_ok-add-in-Bytes-clause-no_write g c = ReadsAtMost.one (answer.Bytes c.in-Bytes.bytes) (search rules)

pub returns-in_ok-add-in-Bytes-clause-holds : goal.returns-in_ok-add-in-Bytes-clause-holds
returns-in_ok-add-in-Bytes-clause-holds g c =
    let added = c.in_ok-add-in-Bytes.ensures.added in
    let none : file_at c.args.path.now (files_of c.args.files.now) ≡ None = search rules in
    these-hold _ _ _ _ _ (read-held _ _ _ _ c.args.path.now c.in-Bytes.bytes c.requires.holds none (search rules)) added.now (ap written added.same_log)

pub returns-in_ok-add-in-Bytes-clause-shown : goal.returns-in_ok-add-in-Bytes-clause-shown
returns-in_ok-add-in-Bytes-clause-shown g c =
    let added = c.in_ok-add-in-Bytes.ensures.added in
    let none : file_at c.args.path.now (files_of c.args.files.now) ≡ None = search rules in
    let path = c.args.path.now in
    let bytes = c.in-Bytes.bytes in
    let at : file_at path (files_of c.add.new.self) ≡ Some bytes = ap (file_at path) added.now ∙ same-path path bytes (files_of c.args.files.now) in
    this-shown _ _ _ _ _ _ (answered-shown _ _ _ _ path (answer.Bytes bytes) c.requires.holds none (search rules)) added.same_log (ap found at)

pub returns-in-Missing-clause-no_write : goal.returns-in-Missing-clause-no_write
returns-in-Missing-clause-no_write g c = ReadsAtMost.one answer.Missing (search rules)

pub returns-in-Missing-clause-holds : goal.returns-in-Missing-clause-holds
returns-in-Missing-clause-holds g c = answered-holds _ _ _ _ c.args.path.now answer.Missing c.requires.holds (search rules)

pub returns-in-Missing-clause-shown : goal.returns-in-Missing-clause-shown
returns-in-Missing-clause-shown g c =
    let none : file_at c.args.path.now (files_of c.args.files.now) ≡ None = search rules in
    rw none (answered-shown _ _ _ _ c.args.path.now answer.Missing c.requires.holds none (search rules))

pub returns-in-Refused-clause-no_write : goal.returns-in-Refused-clause-no_write
returns-in-Refused-clause-no_write g c = ReadsAtMost.one answer.Refused (search rules)

pub returns-in-Refused-clause-holds : goal.returns-in-Refused-clause-holds
returns-in-Refused-clause-holds g c = answered-holds _ _ _ _ c.args.path.now answer.Refused c.requires.holds (search rules)

pub returns-in-Refused-clause-shown : goal.returns-in-Refused-clause-shown
returns-in-Refused-clause-shown g c =
    let none : file_at c.args.path.now (files_of c.args.files.now) ≡ None = search rules in
    answered-shown _ _ _ _ c.args.path.now answer.Refused c.requires.holds none (search rules)
