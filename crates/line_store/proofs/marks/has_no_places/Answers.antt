-- Two lists of places are the same where each place is.
use Rattle.std.proofs.Common.{◌≡◌, ℕ, Option, Some, None, Decides, replicate, refl, ap}
use Rattle.std.proofs.lemmas.Bool.Decides.{Decides-eqb}
use Rattle.std.proofs.lemmas.Slice.Eq.{slice_eq-Decides}
use Rattle.std.specs.Prelude.{nat_eq}
use Rattle.std.specs.Option.{option_eq}
use Rattle.line_store.proofs.marks.has_no_places.Goals as goal

place_eq-Decides : (a b : Option ℕ) → Decides (option_eq nat_eq a b) (a ≡ b)
place_eq-Decides None None = (λ e. refl, λ e. refl)
place_eq-Decides None (Some b) = (λ e. cc, λ e. cc)
place_eq-Decides (Some a) None = (λ e. cc, λ e. cc)
place_eq-Decides (Some a) (Some b) = (λ e. ap (λ (n : ℕ). Some n) ((Decides-eqb a b).0 e), λ e. (Decides-eqb a b).1 cc)

pub returns : goal.returns
returns c = record { exact = slice_eq-Decides place_eq-Decides c.args.places.now (replicate 26 None) c.eq.result c.eq.ensures }
