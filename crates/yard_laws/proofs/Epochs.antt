-- The epoch stays in range: each of at most 16 threads releases at most 2^19 checkpoints.
use Rattle.std.proofs.Common.{◌≡◌, ℕ, zero, suc, ◌*◌, ◌^◌, ◌<◌, ◌≤◌, List, [], ◌∷◌, length, refl, arith}
use mathlib.Core.Option.{some}
use lib.ListN.{get_elem?}
use Rattle.seq_object.specs.History.{total}
use Rattle.yard_model.specs.declared.view.View.{View}
use Rattle.yard_model.specs.World.{total_of}
use Rattle.yard_model.specs.Laws.{EpochFitsLaw}

-- a sum of numbers with a bound
pub total_few : (f : ℕ → ℕ) (m n : ℕ) → ((i : ℕ) → i < n → f i ≤ m) → total f n ≤ m * n
total_few f m zero few = omega arith
total_few f m (suc n) few = let a = total_few f m n (λ i lt. few i (omega (arith, lt))) in let c = few n (omega arith) in omega (arith, a, c)

-- a sum over views with a bound
total_within : (f : View → ℕ) (m : ℕ) (vs : List View) → ((i : ℕ) (v : View) → get_elem? vs i ≡ some v → f v ≤ m) → total_of f vs ≤ m * length vs
total_within f m [] few = omega arith
total_within f m (v ∷ vs) few = let a = few 0 v refl in let c = total_within f m vs (λ i u at. few (suc i) u at) in omega (arith, a, c)

pub epoch_fits : EpochFitsLaw
epoch_fits b w h cs l =
    let few = total_within (λ (v : View). v.checkpoints) (2 ^ 19) w.views (λ i v at. (l.bounds.views i v at).few_checkpoints) in
    let all = l.bounds.checkpoints in let number = l.sized.views in
    let first = l.bounds.beginning.early in let n = l.bounds.beginning.settings.sizes.few_threads in omega (arith, all, few, number, first, n)
