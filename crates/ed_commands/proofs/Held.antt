-- The state of an editor that holds these.
use Rattle.std.specs.Prelude.{ℕ, Bool, List, Option}
use Rattle.ed_base.specs.Buffer.{Line, texts}
use Rattle.ed_syntax.specs.declared.replacement.Part.{Part}
use Rattle.ed_syntax.specs.meaning.States.{State}
use Rattle.ed_commands.specs.Earlier.{PastValue, earlier_of}

abbrev pub held : List Line → (current : ℕ) → (pattern : Option (List ℕ)) → (replacement : Option (List Part)) → (name : Option (List ℕ)) → (changed : Bool) → PastValue → State
held lines current pattern replacement name changed past = record {
  lines = lines;
  current = current;
  pattern = pattern;
  replacement = replacement;
  name = name;
  changed = changed;
  past = (earlier_of past (texts lines)).past;
  global = (earlier_of past (texts lines)).global;
}
