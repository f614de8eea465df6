-- What is written where memory runs out: a front of the run's output and the report.
use Rattle.std.proofs.Common.{◌≡◌, refl, sym, ap, ◌∙◌, ◌⊎◌, inl, inr, ℕ, zero, suc, ◌+◌, length, arith, Bool, List, [], ◌∷◌, ◌++◌, take, drop, Ok, Err, append_assoc, append-nil}
use Rattle.std.proofs.lemmas.List.{take-append-drop}
use Rattle.ed_base.specs.declared.fault.Fault.TheVariants as fault
use Rattle.ed_syntax.specs.meaning.Progress.{Progress, Stops, Writes, Hears, Ends, Waits, output_of, report, cut, FrontAndReport, CutsToAFront, Wrote, Heard, after, CutsAfter}

-- a report alone
at_stop : (help : Bool) → FrontAndReport [] (report help fault.Memory ++ [])
at_stop help = record { front = []; unwritten = []; help = help; begins = refl; reported = append-nil (report help fault.Memory) }

-- a part of what a step writes
in_step : (bytes : ℕ) (help : Bool) (out more : List ℕ) → FrontAndReport (out ++ more) ((take bytes out ++ report help fault.Memory) ++ [])
in_step bytes help out more = record {
  front = take bytes out;
  unwritten = drop bytes out ++ more;
  help = help;
  begins = ap (λ x. x ++ more) (sym (take-append-drop bytes out)) ∙ append_assoc (take bytes out) (drop bytes out) more;
  reported = append-nil (take bytes out ++ report help fault.Memory);
}

-- a step that writes nothing
in_silence : (help : Bool) (whole : List ℕ) → FrontAndReport whole (report help fault.Memory ++ [])
in_silence help whole = record { front = []; unwritten = whole; help = help; begins = refl; reported = append-nil (report help fault.Memory) }

-- more before it
after_step : (out whole output : List ℕ) → FrontAndReport whole output → FrontAndReport (out ++ whole) (out ++ output)
after_step out whole output f = record {
  front = out ++ f.front;
  unwritten = f.unwritten;
  help = f.help;
  begins = ap (λ x. out ++ x) f.begins ∙ sym (append_assoc out f.front f.unwritten);
  reported = ap (λ x. out ++ x) f.reported ∙ sym (append_assoc out f.front (report f.help fault.Memory));
}

-- after a step that writes
after_writing : (help : Bool) (out : List ℕ) (steps bytes : ℕ) (p : Progress) →
    (cut steps bytes p ≡ p) ⊎ FrontAndReport (output_of p) (output_of (cut steps bytes p)) →
    (cut (suc steps) bytes (Writes help out p) ≡ Writes help out p)
    ⊎ FrontAndReport (output_of (Writes help out p)) (output_of (cut (suc steps) bytes (Writes help out p)))
after_writing help out steps bytes p (inl same) = inl (ap (Writes help out) same)
after_writing help out steps bytes p (inr f) = inr (after_step out (output_of p) (output_of (cut steps bytes p)) f)

-- a run that is cut wrote a front of its output and the report, or it had ended by a fault before
pub cuts_to_a_front : CutsToAFront
cuts_to_a_front steps bytes (Stops help (Ends (Err f))) = inl refl
cuts_to_a_front steps bytes (Stops help (Ends (Ok e))) = inr (at_stop help)
cuts_to_a_front steps bytes (Stops help (Waits r)) = inr (at_stop help)
cuts_to_a_front zero bytes (Writes help out p) = inr (in_step bytes help out (output_of p))
cuts_to_a_front (suc steps) bytes (Writes help out p) = after_writing help out steps bytes p (cuts_to_a_front steps bytes p)
cuts_to_a_front zero bytes (Hears help r p) = inr (in_silence help (output_of p))
cuts_to_a_front (suc steps) bytes (Hears help r p) = elim (cuts_to_a_front steps bytes p) [ inl same ↦ inl (ap (Hears help r) same) | inr f ↦ inr f ]

suc-add : (m n : ℕ) → suc m + n ≡ suc (m + n)
suc-add m n = omega arith

-- a run that is cut after some of its steps is cut in what is left of it
pub cuts_after : CutsAfter
cuts_after [] steps bytes p = ap (λ n. cut n bytes p) (omega arith)
cuts_after (Wrote help output ∷ events) steps bytes p =
    ap (λ n. cut n bytes (Writes help output (after events p))) (suc-add (length events) steps) ∙ ap (Writes help output) (cuts_after events steps bytes p)
cuts_after (Heard help r ∷ events) steps bytes p =
    ap (λ n. cut n bytes (Hears help r (after events p))) (suc-add (length events) steps) ∙ ap (Hears help r) (cuts_after events steps bytes p)
