-- The log of files on a disk, as clauses alone see it (our choice: it keeps no copy of a file).
use Rattle.std.specs.Prelude.{List, map}
use Rattle.ed_syntax.specs.declared.request.Answer.{Answer}
use Rattle.ed_syntax.specs.declared.request.Answer.TheVariants as answer
use Rattle.ed_syntax.specs.declared.request.Request.{Request}
use Rattle.ed_syntax.specs.declared.request.Request.TheVariants as request
use Rattle.ed_session.specs.declared.seen.SeenAnswer.{SeenAnswer}
use Rattle.ed_session.specs.declared.seen.SeenAnswer.TheVariants as seen_answer
use Rattle.ed_session.specs.declared.seen.SeenRequest.{SeenRequest}
use Rattle.ed_session.specs.declared.seen.SeenRequest.TheVariants as seen_request

-- the request that was seen
abbrev pub request_seen : SeenRequest → Request
request_seen (seen_request.Read path) = request.Read path
request_seen (seen_request.Write path bytes) = request.Write path bytes.value

-- the answer that was seen
abbrev pub answer_seen : SeenAnswer → Answer
answer_seen (seen_answer.Bytes bytes) = answer.Bytes bytes.value
answer_seen seen_answer.Missing = answer.Missing
answer_seen seen_answer.Refused = answer.Refused
answer_seen seen_answer.Done = answer.Done

-- a log as it was seen
abbrev pub log_seen : List (SeenRequest × SeenAnswer) → List (Request × Answer)
log_seen log = map (λ entry. (request_seen entry.0, answer_seen entry.1)) log
