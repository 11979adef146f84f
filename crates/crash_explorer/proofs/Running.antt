-- One more event of a run, and what the answers rest on.
use Rattle.std.proofs.Common.{◌≡◌, ℕ, suc, ◌+◌, ◌-◌, ◌^◌, Bool, true, false, List, min, ap, sym, ◌∙◌, subst, arith, add-one, below_more}
use Rattle.line_memory.specs.Line.{LineState}
use Rattle.crash_explorer.specs.declared.plan.Plan.{Plan}
use Rattle.crash_explorer.specs.declared.effort.Effort.{Effort}
use Rattle.crash_explorer.specs.declared.verdict.CutVerdict.TheVariants.{Clean as AreCleanAll}
use Rattle.crash_explorer.specs.Cut.{Cut}
use Rattle.crash_explorer.specs.Effort.{IsBoth}
use Rattle.crash_explorer.specs.Answers.{AreClean, tried_at}
use Rattle.crash_explorer.specs.Depth.{AreSafe, IsPartial, tried_inside}
use Rattle.crash_explorer.specs.Verdicts.{IsCutVerdict}
use Rattle.crash_explorer.specs.Runs.{IsCleanOf, tried_of, after, tried_behind, AreRightBehind, IsSomePartial, AreSafeBehind, AreTold}
use Rattle.crash_explorer.proofs.Efforts.{joined_all, joined_not}

-- where a run stands behind so many events
pub record IsRun {S W : Type 0} (plan : Plan) (cut : S → Cut) (next : S → S) (goes_on : S → Bool) (tells : W → ℕ → ℕ → W → Type 0) (s : S) (w : W) (n : ℕ) (subject : S) (watcher : W) (effort : Effort) : Type 0 where
  pub stands : subject ≡ after next n s
  pub right : AreRightBehind plan cut next goes_on s n
  pub survivors : effort.survivors ≡ tried_behind plan cut next s n
  pub all : effort.all ≡ true → AreSafeBehind plan cut next s n
  pub not_all : effort.all ≡ false → IsSomePartial plan cut next s n
  pub told : AreTold plan cut next tells s w n watcher

-- a sum that stands still
min_more : (a b t : ℕ) → min (a + min b t) t ≡ min (a + b) t
min_more a b t = omega arith

-- one more event is made, and what is tried behind it is clean
pub run-more : {S W : Type 0} (plan : Plan) (cut : S → Cut) (next : S → S) (goes_on : S → Bool) (tells : W → ℕ → ℕ → W → Type 0) (s : S) (w : W) (n : ℕ) (subject now : S) (watcher new : W) (effort more both : Effort) (lines : List LineState)
    → IsRun plan cut next goes_on tells s w n subject watcher effort → goes_on subject ≡ true → now ≡ next subject → lines ≡ (cut now).lines → IsCutVerdict plan (cut now) plan.depth lines (AreCleanAll more) → IsBoth effort more both
    → tells watcher (n + 1) both.survivors new → IsRun plan cut next goes_on tells s w (n + 1) now new both
run-more {S} {W} plan cut next goes_on tells s w n subject now watcher new effort more both lines run goes made are verdict sum heard =
    let here : now ≡ after next (suc n) s = made ∙ ap next run.stands in
    let clean : AreClean plan (IsCleanOf plan (cut (after next (suc n) s))) (cut (after next (suc n) s)).lines =
    subst (λ (x : S). AreClean plan (IsCleanOf plan (cut x)) (cut x).lines) here (subst (λ (ls : List LineState). AreClean plan (IsCleanOf plan (cut now)) ls) are verdict.0) in
    let count : both.survivors ≡ tried_behind plan cut next s (suc n) =
    sum.survivors
    ∙ ap (λ (x : ℕ). min (x + more.survivors) (2 ^ 64 - 1)) run.survivors
    ∙ ap (λ (x : ℕ). min (tried_behind plan cut next s n + x) (2 ^ 64 - 1)) verdict.1.survivors
    ∙ min_more (tried_behind plan cut next s n) (tried_at plan (tried_inside plan (cut now) plan.depth) lines) (2 ^ 64 - 1)
    ∙ ap (λ (ls : List LineState). min (tried_behind plan cut next s n + tried_at plan (tried_inside plan (cut now) plan.depth) ls) (2 ^ 64 - 1)) are
    ∙ ap (λ (x : S). min (tried_behind plan cut next s n + tried_of plan (cut x)) (2 ^ 64 - 1)) here in
    let Safe = λ (x : S). AreSafe plan.steps (cut x) plan.depth (cut x).lines in
    let Part = λ (x : S). IsPartial plan (cut x) plan.depth (cut x).lines in
    let told : AreTold plan cut next tells s w (suc n) new =
    (watcher, run.told, subst (λ (k : ℕ). tells watcher (suc n) k new) count (subst (λ (k : ℕ). tells watcher k both.survivors new) (add-one n) heard)) in
    record {
      stands = here ∙ ap (λ (k : ℕ). after next k s) (sym (add-one n));
      right = record {
        went = below_more (λ i. goes_on (after next i s) ≡ true) n run.right.went (subst (λ (x : S). goes_on x ≡ true) run.stands goes);
        right = below_more (λ i. AreClean plan (IsCleanOf plan (cut (after next (suc i) s))) (cut (after next (suc i) s)).lines) n run.right.right clean;
      };
      survivors = count ∙ ap (tried_behind plan cut next s) (sym (add-one n));
      all = joined_all effort.all more.all both.all (AreSafeBehind plan cut next s n) (AreSafe plan.steps (cut now) plan.depth lines) (AreSafeBehind plan cut next s (n + 1)) sum.all run.all verdict.1.all
          (λ so_far safe. below_more (λ i. Safe (after next (suc i) s)) n so_far (subst Safe here (subst (λ (ls : List LineState). AreSafe plan.steps (cut now) plan.depth ls) are safe)));
      not_all = joined_not effort.all more.all both.all (IsSomePartial plan cut next s n) (IsPartial plan (cut now) plan.depth lines) (IsSomePartial plan cut next s (n + 1)) sum.all run.not_all verdict.1.not_all
          (λ part. (part.0, omega (arith, part.1), part.2))
          (λ part. (n, omega arith, subst Part here (subst (λ (ls : List LineState). IsPartial plan (cut now) plan.depth ls) are part)));
      told = subst (λ (k : ℕ). AreTold plan cut next tells s w k new) (sym (add-one n)) told;
    }
