-- What a subcommand takes, after it was told of each in turn.
use Rattle.std.proofs.Common.{◌≡◌, ◌∙◌, Bool, false, List, [], ◌∷◌, ◌++◌, map, refl, ap, ap₂, sym, subst, append-nil, append_assoc}
use Rattle.std.specs.Prelude.{All, ◌||◌}
use Rattle.std.proofs.lemmas.List.Elements.{All-nil, All-cons, All-head, All-tail}
use Rattle.clap.specs.Built.{AddsArg, AddsInTurn}
use Rattle.clap.specs.Simple.{App, app_of, on_top}
use Rattle.clap.specs.Walk.{Rule, rule_of}
use Rattle.clap.specs.declared.builder.arg.Arg.{Arg}
use Rattle.clap.specs.declared.builder.command.Command.{Command}
use Rattle.clap.specs.declared.builder.command.Command.TheViews.{out-Command as fields_of}

abbrev pub IsLocal : Arg → Type 0
IsLocal arg = arg.global ≡ false

-- a command that takes these besides what it takes
abbrev pub taking : App → List Rule → App
taking a rules = on_top (λ s. record s { rules = s.rules ++ rules }) a

taking_none : (a : App) → a ≡ taking a []
taking_none a = ap (λ r. on_top (λ s. record s { rules = r }) a) (sym (append-nil a.top.rules))

taking_more : (a : App) (rule : Rule) (rules : List Rule) → taking (taking a (rule ∷ [])) rules ≡ taking a (rule ∷ rules)
taking_more a rule rules = ap (λ r. on_top (λ s. record s { rules = r }) a) (append_assoc a.top.rules (rule ∷ []) rules)

pub taken : (old new : Command) (args : List Arg) → All IsLocal args → AddsInTurn AddsArg old args new → app_of new ≡ taking (app_of old) (map rule_of args)
taken old new [] local same = ap app_of (sym same) ∙ taking_none (app_of old)
taken old new (arg ∷ args) local adds =
    taken adds.0 new args (All-tail IsLocal arg args local) adds.2
    ∙ ap (λ a. taking a (map rule_of args)) (adds.1.shape (All-head IsLocal arg args local))
    ∙ taking_more (app_of old) (rule_of arg) (map rule_of args)

pub none_global : (old new : Command) (args : List Arg) → All IsLocal args → (fields_of old).has_globals ≡ false → AddsInTurn AddsArg old args new → (fields_of new).has_globals ≡ false
none_global old new [] local none same = ap (λ c. (fields_of c).has_globals) (sym same) ∙ none
none_global old new (arg ∷ args) local none adds =
    none_global adds.0 new args (All-tail IsLocal arg args local)
    (adds.1.globals ∙ ap₂ (λ (b c : Bool). b || c) none (All-head IsLocal arg args local)) adds.2

-- each of these is of its subcommand alone
abbrev pub AreLocal : List Arg → Type 0
AreLocal [] = Unit {0}
AreLocal (arg ∷ args) = IsLocal arg × AreLocal args

each_local : (args : List Arg) → AreLocal args → All IsLocal args
each_local [] local = All-nil IsLocal
each_local (arg ∷ args) local = All-cons IsLocal arg args local.0 (each_local args local.1)

-- so is each of a list that has just these
pub all_local : (args listed : List Arg) → args ≡ listed → AreLocal listed → All IsLocal args
all_local args listed is local = subst (All IsLocal) (sym is) (each_local listed local)

-- rules in a row: none, or the first one and those after it
pub no_rules : ◌≡◌ {A = List Rule} [] []
no_rules = refl

pub and_rules : {r s : Rule} {rs ss : List Rule} → r ≡ s → rs ≡ ss → r ∷ rs ≡ s ∷ ss
and_rules e f = ap₂ (λ (r : Rule) (rs : List Rule). r ∷ rs) e f
