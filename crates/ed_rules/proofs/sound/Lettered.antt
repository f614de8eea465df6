-- A command leaves lines that know their letters, each letter on one line at most, and that hold no newline.
use Rattle.std.proofs.Common.{◌≡◌, true, List, Option, Ok}
use Rattle.ed_base.specs.Buffer.{Line}
use Rattle.ed_syntax.specs.declared.request.Answer.{Answer}
use Rattle.ed_syntax.specs.Commands.{Command}
use Rattle.ed_syntax.specs.meaning.States as editor
use Rattle.ed_syntax.specs.meaning.States.{Past, Nothing, Same, Was}
use Rattle.ed_syntax.specs.meaning.Effects.{Outcome, Makes}
use Rattle.ed_syntax.specs.meaning.Applied.{command}
use Rattle.ed_syntax.specs.spelling.Readable.{enters_lines}
use Rattle.ed_syntax.specs.meaning.CommandLaws.{WellMarked, AreWhole, OfPast, OfLines, CommandsKeepMarks, CommandsKeepLines}
use Rattle.ed_rules.specs.StandsFor.{AreLettered, KeepsLettered}

pub lettered : (lines : List Line) → WellMarked lines → AreWhole lines → AreLettered lines
lettered lines m w = record { whole = w; known = m.known; once = m.once }

pub lettered-marked : (lines : List Line) → AreLettered lines → WellMarked lines
lettered-marked lines h = record { known = h.known; once = h.once }

-- what holds of the lines that undo would bring back

past-of : (P : List Line → Type 0) → ((lines : List Line) → AreLettered lines → P lines) → (past : Past) → KeepsLettered past →
    OfPast P past
past-of P f Nothing h = tt
past-of P f Same h = tt
past-of P f (Was before) h = f before.lines h

past-lettered : (past : Past) → OfPast WellMarked past → OfPast AreWhole past → KeepsLettered past
past-lettered Nothing m w = tt
past-lettered Same m w = tt
past-lettered (Was before) m w = lettered before.lines m w

-- what a command leaves
abbrev pub LeavesLettered : Outcome → Type 0
LeavesLettered o = AreLettered o.state.lines × KeepsLettered o.state.past

pub command-lettered : CommandsKeepMarks → CommandsKeepLines → (c : Command) (e : editor.State) (given : Option Answer) (o : Outcome) →
    command e c given ≡ Ok (Makes o) → enters_lines c.verb ≡ true → AreLettered e.lines → KeepsLettered e.past → LeavesLettered o
command-lettered marks lines c e given o is entered h past =
    let m : OfLines WellMarked o.state =
    marks e c given o is (record { buffer = lettered-marked e.lines h; past = past-of WellMarked lettered-marked e.past past }) in
    let w : OfLines AreWhole o.state =
    lines e c given o is entered (record { buffer = h.whole; past = past-of AreWhole (λ ls k. k.whole) e.past past }) in
    (lettered o.state.lines m.buffer w.buffer, past-lettered o.state.past m.past w.past)
