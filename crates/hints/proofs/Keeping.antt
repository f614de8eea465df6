-- Starts that keep what another one says.
use Rattle.std.proofs.Common.{◌≡◌, ℕ, List, [], ◌∷◌, ◌++◌, Option, Some, None, Result, Ok, Err, IfOk, IfSome, ◌<◌, ◌≤◌, length, refl, sym, ◌∙◌, ap, subst, inl, inr, arith}
use Rattle.std.specs.List.{remove}
use Rattle.std.specs.declared.alloc.AllocError.{AllocError}
use Rattle.std.proofs.lemmas.List.{append_assoc}
use Rattle.landmarks.specs.ChainValues.{ChainValue}
use Rattle.ed_rules.specs.Texts.{with_text, with_texts}
use Rattle.cert_check.specs.declared.checker.verdict.Place.{Place}
use Rattle.analyser.specs.declared.analysis.Start.{Start}
use Rattle.analyser.specs.Following.{stated_of}
use Rattle.hints.specs.declared.hint.Hint.{Hint}
use Rattle.hints.specs.Passing.{IsVouched, IsStating, chains_in, IsLandmarking, IsWithin, Keeps}
use Rattle.ed_syntax.specs.reading.Reading.{script_of}
use Rattle.hints.specs.Nowhere.{IsSeenNowhere, IsNowhere}
use Rattle.hints.specs.Landmarks.{marked_by}
use Rattle.hints.specs.Hints.{IsMarked, StaysSomewhere, IsTried}

-- the most lines lie within themselves
pub within-itself : (most : Option ℕ) → IsWithin most most
within-itself None = tt
within-itself (Some m) = omega arith

within-through : (given most then : Option ℕ) → IsWithin given most → IsWithin most then → IsWithin given then
within-through None most then is is-also = tt
within-through (Some g) None then is is-also = absurd is
within-through (Some g) (Some m) None is is-also = absurd is-also
within-through (Some g) (Some m) (Some t) is is-also = omega (arith, is, is-also)

-- a number below the given one lies within it
pub within-below : (given : Option ℕ) (most : ℕ) → IfSome given (λ g. most < g) → IsWithin given (Some most)
within-below None most below = tt
within-below (Some g) most below = omega (arith, below)

-- a start of the same path and patterns keeps them, where its bounds lie within
pub keeps-bounds : (start then : Start) → then.path ≡ start.path → then.has ≡ start.has → then.landmarks ≡ start.landmarks → start.min ≤ then.min → IsWithin start.max then.max → Keeps start then
keeps-bounds start then path has landmarks least most = record { path = path; stated = inl has; landmarks = inl landmarks; least = least; most = most }

-- a start keeps what it says itself
pub keeps-itself : (start : Start) → Keeps start start
keeps-itself start = keeps-bounds start start refl refl refl (omega arith) (within-itself start.max)

-- putting in some texts and then others puts in all of them
pub texts-twice : (first second set : List (List ℕ)) → with_texts second (with_texts first set) ≡ with_texts (first ++ second) set
texts-twice [] second set = refl
texts-twice (text ∷ first) second set = texts-twice first second (with_text text set)

stating-on : (has then now : Option (List (List ℕ))) (patterns : List (List ℕ)) → IsStating has then → now ≡ Some (with_texts patterns (stated_of then)) → IsStating has now
stating-on has then now patterns (inl same) is = inr (patterns, is ∙ ap (λ (o : Option (List (List ℕ))). Some (with_texts patterns (stated_of o))) same)
stating-on has then now patterns (inr (before, was)) is =
    inr (
      before ++ patterns,
      is ∙ ap (λ (o : Option (List (List ℕ))). Some (with_texts patterns (stated_of o))) was ∙ ap (λ (set : List (List ℕ)). Some set) (texts-twice before patterns (stated_of has)),
    )

stating-through : (has then now : Option (List (List ℕ))) → IsStating has then → IsStating then now → IsStating has now
stating-through has then now stated (inr (patterns, is)) = stating-on has then now patterns stated is
stating-through has then now (inl was) (inl is) = inl (is ∙ was)
stating-through has then now (inr (before, was)) (inl is) = inr (before, is ∙ was)

marking-on : (landmarks then now : Option (List ChainValue)) (chains : List ChainValue) → IsLandmarking landmarks then →
    now ≡ Some (chains_in then ++ chains) → IsLandmarking landmarks now
marking-on landmarks then now chains (inl same) is =
    inr (chains, is ∙ ap (λ (o : Option (List ChainValue)). Some (chains_in o ++ chains)) same)
marking-on landmarks then now chains (inr (before, was)) is =
    inr (
      before ++ chains,
      is ∙ ap (λ (o : Option (List ChainValue)). Some (chains_in o ++ chains)) was
          ∙ ap (λ (l : List ChainValue). Some l) (append_assoc (chains_in landmarks) before chains),
    )

marking-through : (landmarks then now : Option (List ChainValue)) → IsLandmarking landmarks then → IsLandmarking then now → IsLandmarking landmarks now
marking-through landmarks then now marked (inr (chains, is)) = marking-on landmarks then now chains marked is
marking-through landmarks then now (inl was) (inl is) = inl (is ∙ was)
marking-through landmarks then now (inr (before, was)) (inl is) = inr (before, is ∙ was)

-- what is kept of what was kept
pub keeps-through : (start then now : Start) → Keeps start then → Keeps then now → Keeps start now
keeps-through start then now kept more = record {
  path = more.path ∙ kept.path;
  stated = stating-through start.has then.has now.has kept.stated more.stated;
  landmarks = marking-through start.landmarks then.landmarks now.landmarks kept.landmarks more.landmarks;
  least = omega (arith, kept.least, more.least);
  most = within-through start.max then.max now.max kept.most more.most;
}

-- landmarks that are needed beside those of a start are so beside those of one with the same
marked-for : (old : List ℕ) (given then : Start) (new : List ℕ) (start : Start) → then.landmarks ≡ given.landmarks → IsMarked old then new start →
    IsMarked old given new start
marked-for old given then new start same (inl is) = inl (is ∙ same)
marked-for old given then new start same (inr (reads, states)) = inr (
  reads,
  record {
    added = states.added;
    states = subst (λ (l : Option (List ChainValue)). start.landmarks ≡ Some (chains_in l ++ states.added)) same states.states;
    vouched = states.vouched;
    needed =
        subst (λ (l : Option (List ChainValue)). (place : ℕ) → place < length states.added →
        IsVouched (script_of old) (marked_by start (chains_in l ++ remove states.added place)) → ⊥) same states.needed;
  },
)

-- with as many lines at most and the same landmarks it is seen of both or of none
same-nowhere : (start then : Start) → then.max ≡ start.max → then.landmarks ≡ start.landmarks → IsNowhere then → IsNowhere start
same-nowhere start then most same nowhere =
    subst (λ (l : Option (List ChainValue)). IsSeenNowhere start.max (chains_in l)) same
    (subst (λ (m : Option ℕ). IsSeenNowhere m (chains_in then.landmarks)) most nowhere)

-- so a hint that was tried over a start that keeps what another one says, its landmarks unchanged, was tried for that one
pub tried-for : (script : List ℕ) (start then : Start) (place : Place) (r : Result (Option Hint) AllocError) → Keeps start then →
    then.max ≡ start.max → then.landmarks ≡ start.landmarks → IfOk r (λ found. IfSome found (IsTried script then place)) → IfOk r (λ found. IfSome found (IsTried script start place))
tried-for script start then place (Ok (Some h)) kept most same tried = record {
  from = tried.from;
  kept = keeps-through start then h.start kept tried.kept;
  marked = marked-for script start then h.script h.start same tried.marked;
  somewhere = λ nowhere. same-nowhere start then most same (tried.somewhere nowhere);
  allowed = tried.allowed;
  past = tried.past;
}
tried-for script start then place (Ok None) kept most same tried = tt
tried-for script start then place (Err e) kept most same tried = tt

-- a start with more patterns keeps what was stated
pub keeps-patterns : (start then : Start) (patterns : List (List ℕ)) →
    then ≡ record { path = start.path; min = start.min; max = start.max; has = Some (with_texts patterns (stated_of start.has)); landmarks = start.landmarks } → Keeps start then
keeps-patterns start then patterns is =
    subst (λ (s : Start). Keeps start s) (sym is) (record { path = refl; stated = inr (patterns, refl); landmarks = inl refl; least = omega arith; most = within-itself start.max })

-- nor do other bounds within change it
pub keeps-bounded : (start then : Start) (min : ℕ) (max : Option ℕ) → then ≡ record { path = start.path; min = min; max = max; has = start.has; landmarks = start.landmarks } → start.min ≤ min →
    IsWithin start.max max → Keeps start then
keeps-bounded start then min max is least most =
    subst (λ (s : Start). Keeps start s) (sym is) (keeps-bounds start (record { path = start.path; min = min; max = max; has = start.has; landmarks = start.landmarks }) refl refl refl least most)
