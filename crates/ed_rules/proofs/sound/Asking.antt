-- What a command asks for, and which answers it fails by.
use Rattle.std.proofs.Common.{◌≡◌, ℕ, true, List, [], ◌∷◌, Option, None, Some, Result, Ok, Err, refl, ◌∙◌, sym, subst}
use Rattle.ed_base.specs.declared.fault.Fault.{Fault}
use Rattle.ed_base.specs.declared.fault.Fault.TheVariants as fault
use Rattle.ed_syntax.specs.declared.request.Answer.{Answer}
use Rattle.ed_syntax.specs.declared.request.Request.{Request}
use Rattle.ed_syntax.specs.declared.request.Request.TheVariants as request
use Rattle.ed_syntax.specs.Commands as ed
use Rattle.ed_syntax.specs.Commands.{Verb, Command}
use Rattle.ed_syntax.specs.meaning.States as editor
use Rattle.ed_syntax.specs.meaning.Effects.{Effect, Makes, Asks}
use Rattle.ed_syntax.specs.meaning.Files.{used_path}
use Rattle.ed_syntax.specs.meaning.Applied.{command}
use Rattle.ed_syntax.specs.meaning.Laws.{UnaskedAnswersDoNothing, NothingIsAskedTwice, OnlyUnservedFilesFail, FilesAreWrittenByTheirPath}
use Rattle.ed_rules.specs.declared.state.State.{State}
use Rattle.ed_rules.specs.Choices.{Choice, has_choice}
use Rattle.ed_rules.specs.Files.{written_paths}
use Rattle.ed_rules.specs.Soundness.{IsUnserved, MayAskFor}
use Rattle.ed_rules.proofs.Choosing.{has_choice-only}

-- the laws on answers
pub record Laws : Type 0 where
  pub unasked : UnaskedAnswersDoNothing
  pub once : NothingIsAskedTwice
  pub served : OnlyUnservedFilesFail
  pub written : FilesAreWrittenByTheirPath

-- a rule tells the path that `w` uses
used-told : (own : Option (List ℕ)) (s : State) (e : editor.State) (path : List ℕ) → has_choice s.names e.name ≡ true →
    used_path own e ≡ Ok path → has_choice (written_paths (ed.WriteFile own) s) (Some path) ≡ true
used-told None s e path h is = remembered e.name is h
  where
    remembered : (name : Choice) → used_path None (record e { name = name }) ≡ Ok path → has_choice s.names name ≡ true →
        has_choice s.names (Some path) ≡ true
    remembered None is h = absurd cc
    remembered (Some used) is h = let same : used ≡ path = cc in subst (λ (p : List ℕ). has_choice s.names (Some p) ≡ true) same h
used-told (Some given) s e path h is =
    let same : given ≡ path = cc in
    subst (λ (p : List ℕ). has_choice (Some given ∷ []) (Some p) ≡ true) same (has_choice-only (Some given))

-- with its answer a command asks for nothing more
pub may-ask : Laws → (c : Command) (s : State) (e : editor.State) (given : Option Answer) (r : Request) →
    has_choice s.names e.name ≡ true → command e c given ≡ Ok (Asks r) → MayAskFor c s given r
may-ask k c s e None (request.Read path) h is = tt
may-ask k c s e None (request.Write path bytes) h is =
    let w = k.written e c None path bytes is in
    subst (λ (v : Verb). has_choice (written_paths v s) (Some path) ≡ true) (sym w.1) (used-told w.0 s e path h w.2)
may-ask k c s e (Some a) r h is = absurd (k.once e c a r is)

-- a fault of a file is that of an answer that doesn't serve the command's request
unserved-where : Laws → (c : Command) (e : editor.State) (a : Answer) (y : Result Effect Fault) → command e c None ≡ y →
    ((g : Fault) → y ≡ Err g → ⊥) → command e c (Some a) ≡ Err fault.File → IsUnserved c e (Some a) fault.File
unserved-where k c e a (Err g) first never again = absurd (never g refl)
unserved-where k c e a (Ok (Makes o)) first never again =
    let same : command e c (Some a) ≡ command e c None =
    k.unasked e c a (λ r asks. let q : Ok (Makes o) ≡ Ok (Asks r) = sym first ∙ asks in absurd cc) in
    let q : Ok (Makes o) ≡ Err fault.File = sym first ∙ sym same ∙ again in absurd cc
unserved-where k c e a (Ok (Asks r)) first never again = (r, first, k.served e c r a first again, refl)

pub is-unserved : Laws → (c : Command) (e : editor.State) (a : Answer) (f : Fault) → ((g : Fault) → command e c None ≡ Err g → ⊥) →
    f ≡ fault.File → command e c (Some a) ≡ Err f → IsUnserved c e (Some a) f
is-unserved k c e a f never is again =
    subst (λ (g : Fault). IsUnserved c e (Some a) g) (sym is)
    (unserved-where k c e a (command e c None) refl never (subst (λ (g : Fault). command e c (Some a) ≡ Err g) is again))
