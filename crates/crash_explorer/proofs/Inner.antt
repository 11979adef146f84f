-- Words that a cut left: their recovery, and the cuts inside it.
use Rattle.std.proofs.Common.{◌≡◌, ℕ, zero, suc, ◌+◌, ◌-◌, ◌<◌, true, Option, None, List, refl, ap, sym, subst, arith, add-one, below_more}
use Rattle.crash_explorer.specs.declared.plan.Plan.{Plan}
use Rattle.crash_explorer.specs.declared.outcome.Outcome.{Outcome}
use Rattle.crash_explorer.specs.declared.verdict.LeftVerdict.TheVariants.{Clean as IsCleanOne}
use Rattle.crash_explorer.specs.declared.verdict.CutVerdict.TheVariants.{Clean as AreCleanAll}
use Rattle.crash_explorer.specs.declared.effort.Effort.{Effort}
use Rattle.crash_explorer.specs.Cut.{Cut, is_right}
use Rattle.crash_explorer.specs.Effort.{IsEffort, IsBoth}
use Rattle.crash_explorer.specs.Answers.{AreClean, sum_below, tried_at}
use Rattle.crash_explorer.specs.Depth.{events_of, moment, IsSafeLeft, AreSafe, IsClean, IsPartialLeft, IsPartial, tried_inside}
use Rattle.crash_explorer.specs.Verdicts.{IsVerdict, IsLeftVerdict, IsCutVerdict}
use Rattle.crash_explorer.proofs.Efforts.{effort-both, effort-as}

-- it is right
pub left-right : (plan : Plan) (cut : Cut) (left : List (List ℕ)) (wrong : Option Outcome) → IsVerdict plan.steps cut left wrong → wrong ≡ None → is_right plan.steps cut left ≡ true
left-right plan cut left wrong verdict is = subst (IsVerdict plan.steps cut left) is verdict

-- the cuts behind the first so many events of recovery are clean to this depth
pub record AreInside (plan : Plan) (cut : Cut) (depth : ℕ) (left : List (List ℕ)) (n : ℕ) (effort : Effort) : Type 0 where
  pub clean : (i : ℕ) → i < n → AreClean plan (λ words. IsClean plan cut depth words) (moment cut left i)
  pub tried : IsEffort (sum_below (λ i. tried_at plan (tried_inside plan cut depth) (moment cut left i)) n) ((i : ℕ) → i < n → AreSafe plan.steps cut depth (moment cut left i))
      ((i : ℕ) × (i < n) × IsPartial plan cut depth (moment cut left i)) effort

-- one more
pub inside-more : (plan : Plan) (cut : Cut) (depth : ℕ) (left : List (List ℕ)) (n : ℕ) (effort more new : Effort) → IsCutVerdict plan cut depth (moment cut left n) (AreCleanAll more) → IsBoth effort more new
    → AreInside plan cut depth left n effort → AreInside plan cut depth left (n + 1) new
inside-more plan cut depth left n effort more new verdict both so_far =
    let f = λ (i : ℕ). tried_at plan (tried_inside plan cut depth) (moment cut left i) in
    let Safe = λ (i : ℕ). AreSafe plan.steps cut depth (moment cut left i) in
    record {
      clean = below_more (λ i. AreClean plan (λ words. IsClean plan cut depth words) (moment cut left i)) n so_far.clean verdict.0;
      tried = effort-both (sum_below f n) (f n) (sum_below f (n + 1)) ((i : ℕ) → i < n → Safe i) (Safe n) ((i : ℕ) → i < n + 1 → Safe i)
          ((i : ℕ) × (i < n) × IsPartial plan cut depth (moment cut left i)) (IsPartial plan cut depth (moment cut left n)) ((i : ℕ) × (i < n + 1) × IsPartial plan cut depth (moment cut left i))
          effort more new so_far.tried verdict.1 both (ap (sum_below f) (sym (add-one n))) (λ safe here. below_more Safe n safe here)
          (λ part. (part.0, omega (arith, part.1), part.2)) (λ part. (n, omega arith, part));
    }

-- all
pub inside-last : (plan : Plan) (cut : Cut) (depth : ℕ) (left : List (List ℕ)) (n : ℕ) (effort : Effort) → 0 < depth → is_right plan.steps cut left ≡ true → n ≡ events_of plan.steps cut left
    → AreInside plan cut (depth - 1) left n effort → IsLeftVerdict plan cut depth left (IsCleanOne effort)
inside-last plan cut zero left n effort some right is so_far = absurd (omega arith)
inside-last plan cut (suc depth) left n effort some right is so_far =
    let down : suc depth - 1 ≡ depth = omega arith in
    let all : AreInside plan cut depth left (events_of plan.steps cut left) effort =
    subst (λ (m : ℕ). AreInside plan cut depth left m effort) is (subst (λ (d : ℕ). AreInside plan cut d left n effort) down so_far) in (
      (right, all.clean),
      effort-as (sum_below (λ i. tried_at plan (tried_inside plan cut depth) (moment cut left i)) (events_of plan.steps cut left)) (tried_inside plan cut (suc depth) left)
          ((i : ℕ) → i < events_of plan.steps cut left → AreSafe plan.steps cut depth (moment cut left i)) (IsSafeLeft plan.steps cut (suc depth) left)
          ((i : ℕ) × (i < events_of plan.steps cut left) × IsPartial plan cut depth (moment cut left i)) (IsPartialLeft plan cut (suc depth) left)
          effort all.tried refl (λ safe. (right, safe)) (λ part. part),
    )
