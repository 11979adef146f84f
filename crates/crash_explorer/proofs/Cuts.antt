-- One cut: all its survivors, one after the other, or a sample of them.
use Rattle.std.proofs.Common.{◌≡◌, ℕ, ◌+◌, ◌<◌, Option, Some, None, List, length, replicate, refl, ap, sym, ◌∙◌, subst, arith, inl, inr, add-one, below_more}
use Rattle.line_memory.specs.Line.{LineState}
use Rattle.crash_explorer.specs.declared.plan.Plan.{Plan}
use Rattle.crash_explorer.specs.declared.verdict.Miss.{Miss}
use Rattle.crash_explorer.specs.declared.verdict.Found.{Found}
use Rattle.crash_explorer.specs.declared.verdict.LeftVerdict.{LeftVerdict}
use Rattle.crash_explorer.specs.declared.verdict.LeftVerdict.TheVariants.{Clean as IsCleanOne, Wrong as IsWrongOne}
use Rattle.crash_explorer.specs.declared.verdict.CutVerdict.TheVariants.{Wrong as IsOneWrong}
use Rattle.crash_explorer.specs.declared.search.Search.{Search}
use Rattle.crash_explorer.specs.declared.effort.Effort.{Effort}
use Rattle.crash_explorer.specs.Cut.{Cut, AreWithin, pending_of, left_by}
use Rattle.crash_explorer.specs.Order.{Earlier, survivor_count, advanced, counts_at, ahead}
use Rattle.crash_explorer.specs.Effort.{no_effort, IsEffort, IsWithSurvivor}
use Rattle.crash_explorer.specs.Better.{IsWeighed, IsFoundBy, verdict_of}
use Rattle.crash_explorer.specs.Sample.{AreKeptBy, sample, sample_size, sampled_words}
use Rattle.crash_explorer.specs.Answers.{survivors_of, sum_below, all_tried}
use Rattle.crash_explorer.specs.Depth.{IsSafeLeft, IsClean, IsPartialLeft, tried_inside, IsWrongLeft}
use Rattle.crash_explorer.specs.Verdicts.{IsLeftVerdict, IsSomePartialLeft, IsWholeVerdict, IsSampleVerdict}
use Rattle.crash_explorer.proofs.Advancing.{none_earlier, first-within, first-ahead}
use Rattle.crash_explorer.proofs.Keeping.{all_by_counts}
use Rattle.crash_explorer.proofs.Samples.{kept-within, kept-left}
use Rattle.crash_explorer.proofs.Finding.{IsBest, before, up_to, best-less, right-met, wrong-met, wrong-some, best-first}
use Rattle.crash_explorer.proofs.Efforts.{effort-survivor, effort-as}

-- the survivor by these counts is clean, safe, or wrong in this way
abbrev pub CleanBy : Plan → Cut → ℕ → List LineState → List ℕ → Type 0
CleanBy plan cut depth lines v = IsClean plan cut depth (left_by v lines)

abbrev pub SafeBy : Plan → Cut → ℕ → List LineState → List ℕ → Type 0
SafeBy plan cut depth lines v = IsSafeLeft plan.steps cut depth (left_by v lines)

abbrev pub WrongBy : Plan → Cut → ℕ → List LineState → List ℕ → Miss → Type 0
WrongBy plan cut depth lines v miss = IsWrongLeft plan cut miss.inside.items depth (left_by v lines) miss.outcome

-- how many are tried with counts number n
abbrev pub tried_with : Plan → Cut → ℕ → List LineState → ℕ → ℕ
tried_with plan cut depth lines n = 1 + tried_inside plan cut depth (left_by (counts_at n (pending_of lines)) lines)

-- the survivors that were met are safe
abbrev pub MetSafe : (List ℕ → Type 0) → Plan → Cut → ℕ → List LineState → Type 0
MetSafe met plan cut depth lines = (v : List ℕ) → AreWithin v (pending_of lines) → met v → SafeBy plan cut depth lines v

-- where a search stands that met these survivors, n in number
pub record IsMet (plan : Plan) (cut : Cut) (depth : ℕ) (lines : List LineState) (met : List ℕ → Type 0) (n : ℕ) (search : Search) : Type 0 where
  pub best : IsBest met (CleanBy plan cut depth lines) (WrongBy plan cut depth lines) (pending_of lines) search.best
  pub effort : search.best ≡ None → IsEffort (sum_below (tried_with plan cut depth lines) n) (MetSafe met plan cut depth lines) (IsSomePartialLeft plan cut depth lines) search.effort

-- the counts number n of the odometer, with the others ahead
pub record IsAt (ms kept : List ℕ) (n : ℕ) : Type 0 where
  pub within : AreWithin kept ms
  pub at : kept ≡ counts_at n ms
  pub left : n + ahead kept ms + 1 ≡ survivor_count ms

-- the first counts
pub at-first : (ms kept : List ℕ) → kept ≡ replicate (length ms) 0 → IsAt ms kept 0
at-first ms kept is = record {
  within = subst (λ (ks : List ℕ). AreWithin ks ms) (sym is) (first-within ms);
  at = is;
  left = omega (arith, ap (λ (ks : List ℕ). ahead ks ms) is, first-ahead ms);
}

-- the next counts
pub at-next : (ms kept next : List ℕ) (n : ℕ) → IsAt ms kept n → AreWithin next ms → next ≡ advanced kept ms → ahead next ms + 1 ≡ ahead kept ms → IsAt ms next (n + 1)
at-next ms kept next n a within is nearer = record {
  within = within;
  at = is ∙ ap (λ (ks : List ℕ). advanced ks ms) a.at ∙ ap (λ (k : ℕ). counts_at k ms) (sym (add-one n));
  left = omega (arith, a.left, nearer);
}

-- nothing was met
pub met-first : (plan : Plan) (cut : Cut) (depth : ℕ) (lines : List LineState) (kept : List ℕ) (search : Search) → kept ≡ replicate (length (pending_of lines)) 0 → search.best ≡ None → search.effort ≡ no_effort
    → IsMet plan cut depth lines (before kept) 0 search
met-first plan cut depth lines kept search is none nothing =
    let never : (v : List ℕ) → Earlier v kept → ⊥ = λ v m. none_earlier (length (pending_of lines)) v (subst (λ (ks : List ℕ). Earlier v ks) is m) in
    record {
      best = subst (IsBest (before kept) (CleanBy plan cut depth lines) (WrongBy plan cut depth lines) (pending_of lines)) (sym none) (λ v w m. absurd (never v m));
      effort = λ empty. subst (IsEffort 0 (MetSafe (before kept) plan cut depth lines) (IsSomePartialLeft plan cut depth lines)) (sym nothing)
          (record { survivors = refl; all = λ yes v w m. absurd (never v m); not_all = λ no. absurd (cc) });
    }

-- one more survivor was weighed
pub met-more : (plan : Plan) (cut : Cut) (depth : ℕ) (lines : List LineState) (kept : List ℕ) (n : ℕ) (search new : Search) (verdict : LeftVerdict) → IsAt (pending_of lines) kept n
    → IsLeftVerdict plan cut depth (left_by kept lines) verdict → IsWeighed search kept verdict new → IsMet plan cut depth lines (before kept) n search → IsMet plan cut depth lines (up_to kept) (n + 1) new
met-more plan cut depth lines kept n search new (IsCleanOne inside) at verdict weighed met =
    let Right = CleanBy plan cut depth lines in
    let Wrong = WrongBy plan cut depth lines in
    let ms = pending_of lines in
    let f = tried_with plan cut depth lines in
    let count : sum_below f n + (1 + tried_inside plan cut depth (left_by kept lines)) ≡ sum_below f (n + 1) =
    ap (λ (ks : List ℕ). sum_below f n + (1 + tried_inside plan cut depth (left_by ks lines))) at.at ∙ ap (sum_below f) (sym (add-one n)) in
    record {
      best = subst (IsBest (up_to kept) Right Wrong ms) (sym weighed.0) (right-met Right Wrong ms kept search.best verdict.0 met.best);
      effort = λ none. effort-survivor (sum_below f n) (tried_inside plan cut depth (left_by kept lines)) (sum_below f (n + 1)) (MetSafe (before kept) plan cut depth lines) (SafeBy plan cut depth lines kept)
          (MetSafe (up_to kept) plan cut depth lines) (IsSomePartialLeft plan cut depth lines) (IsPartialLeft plan cut depth (left_by kept lines)) (IsSomePartialLeft plan cut depth lines)
          search.effort inside new.effort (met.effort (sym weighed.0 ∙ none)) verdict.1 weighed.1 count
          (λ so_far here v w m. elim m [
            | inl e ↦ so_far v w e
            | inr is ↦ subst (SafeBy plan cut depth lines) (sym is) here
          ])
          (λ part. part) (λ part. (kept, at.within, part));
    }
met-more plan cut depth lines kept n search new (IsWrongOne miss) at verdict weighed met = record {
  best = wrong-met (CleanBy plan cut depth lines) (WrongBy plan cut depth lines) (pending_of lines) kept miss search.best new.best at.within verdict weighed met.best;
  effort = λ none. absurd (wrong-some kept miss search.best new.best weighed none);
}

-- where fewer were met it stands too
pub met-less : (plan : Plan) (cut : Cut) (depth : ℕ) (lines : List LineState) (met less : List ℕ → Type 0) (n : ℕ) (search : Search) → ((v : List ℕ) → AreWithin v (pending_of lines) → less v → met v)
    → IsMet plan cut depth lines met n search → IsMet plan cut depth lines less n search
met-less plan cut depth lines met less n search goes m = record {
  best = best-less met less (CleanBy plan cut depth lines) (WrongBy plan cut depth lines) (pending_of lines) search.best goes m.best;
  effort = λ none. effort-as (sum_below (tried_with plan cut depth lines) n) (sum_below (tried_with plan cut depth lines) n) (MetSafe met plan cut depth lines) (MetSafe less plan cut depth lines)
      (IsSomePartialLeft plan cut depth lines) (IsSomePartialLeft plan cut depth lines) search.effort (m.effort none) refl (λ safe v w l. safe v w (goes v w l)) (λ part. part);
}

-- where all were met the verdict is that of all survivors
whole-by : (plan : Plan) (cut : Cut) (depth : ℕ) (lines : List LineState) (kept : List ℕ) (n : ℕ) (best : Option Found) (effort : Effort) → n ≡ survivors_of lines → ((v : List ℕ) → AreWithin v (pending_of lines) → up_to kept v)
    → IsBest (up_to kept) (CleanBy plan cut depth lines) (WrongBy plan cut depth lines) (pending_of lines) best
    → (best ≡ None → IsEffort (sum_below (tried_with plan cut depth lines) n) (MetSafe (up_to kept) plan cut depth lines) (IsSomePartialLeft plan cut depth lines) effort)
    → IsWholeVerdict plan cut depth lines (verdict_of best effort)
whole-by plan cut depth lines kept n None effort is all b tried = (
  all_by_counts (IsClean plan cut depth) lines (λ v w. b v w (all v w)),
  effort-as (sum_below (tried_with plan cut depth lines) n) (all_tried (tried_inside plan cut depth) lines) (MetSafe (up_to kept) plan cut depth lines) _ (IsSomePartialLeft plan cut depth lines) (IsSomePartialLeft plan cut depth lines)
      effort (tried refl) (ap (sum_below (tried_with plan cut depth lines)) is) (λ safe. all_by_counts (IsSafeLeft plan.steps cut depth) lines (λ v w. safe v w (all v w))) (λ part. part),
)
whole-by plan cut depth lines kept n (Some found) effort is all b tried =
    (b.within, best-first (CleanBy plan cut depth lines) (WrongBy plan cut depth lines) (pending_of lines) kept found all b, b.wrong)

pub met-last : (plan : Plan) (cut : Cut) (depth : ℕ) (lines : List LineState) (kept : List ℕ) (n : ℕ) (search : Search) → IsAt (pending_of lines) kept n → ahead kept (pending_of lines) ≡ 0
    → ((v : List ℕ) → AreWithin v (pending_of lines) → up_to kept v) → IsMet plan cut depth lines (up_to kept) (n + 1) search → IsWholeVerdict plan cut depth lines (verdict_of search.best search.effort)
met-last plan cut depth lines kept n search at last all met = whole-by plan cut depth lines kept (n + 1) search.best search.effort (omega (arith, at.left, last)) all met.best met.effort

-- where a sample stands of which the first so many choices were tried
pub record IsSampled (plan : Plan) (cut : Cut) (depth : ℕ) (lines : List LineState) (n : ℕ) (effort : Effort) : Type 0 where
  pub clean : (j : ℕ) → j < n → IsClean plan cut depth (sampled_words plan.seeds.items lines j)
  pub tried : IsEffort (sum_below (λ j. 1 + tried_inside plan cut depth (sampled_words plan.seeds.items lines j)) n) (Unit {0}) (Unit {0}) effort

-- one more choice of a sample is clean
pub sampled-more : (plan : Plan) (cut : Cut) (depth : ℕ) (lines : List LineState) (j : ℕ) (kept : List ℕ) (effort inside new : Effort) → AreKeptBy (sample plan.seeds.items j) (pending_of lines) kept
    → IsLeftVerdict plan cut depth (left_by kept lines) (IsCleanOne inside) → IsWithSurvivor effort inside new → IsSampled plan cut depth lines j effort → IsSampled plan cut depth lines (j + 1) new
sampled-more plan cut depth lines j kept effort inside new by verdict more so_far =
    let same : left_by kept lines ≡ sampled_words plan.seeds.items lines j = kept-left lines (sample plan.seeds.items j) kept by in
    let f = λ (i : ℕ). 1 + tried_inside plan cut depth (sampled_words plan.seeds.items lines i) in
    record {
      clean = below_more (λ i. IsClean plan cut depth (sampled_words plan.seeds.items lines i)) j so_far.clean (subst (IsClean plan cut depth) same verdict.0);
      tried = effort-survivor (sum_below f j) (tried_inside plan cut depth (left_by kept lines)) (sum_below f (j + 1)) (Unit {0}) (IsSafeLeft plan.steps cut depth (left_by kept lines)) (Unit {0}) (Unit {0})
          (IsPartialLeft plan cut depth (left_by kept lines)) (Unit {0}) effort inside new so_far.tried verdict.1 more
          (ap (λ (words : List (List ℕ)). sum_below f j + (1 + tried_inside plan cut depth words)) same ∙ ap (sum_below f) (sym (add-one j))) (λ a b. tt) (λ a. tt) (λ a. tt);
    }

-- a choice of a sample is wrong
pub sampled-wrong : (plan : Plan) (cut : Cut) (depth : ℕ) (lines : List LineState) (j : ℕ) (kept : List ℕ) (effort : Effort) (miss : Miss) (found : Found) → j < sample_size plan.seeds.items
    → AreKeptBy (sample plan.seeds.items j) (pending_of lines) kept → IsLeftVerdict plan cut depth (left_by kept lines) (IsWrongOne miss) → IsFoundBy kept miss found → IsSampled plan cut depth lines j effort
    → IsSampleVerdict plan cut depth lines (IsOneWrong found)
sampled-wrong plan cut depth lines j kept effort miss found lt by wrong is so_far =
    let here : AreKeptBy (sample plan.seeds.items j) (pending_of lines) found.kept.items = subst (λ (ks : List ℕ). AreKeptBy (sample plan.seeds.items j) (pending_of lines) ks) (sym is.0) by in (
      kept-within (sample plan.seeds.items j) found.kept.items (pending_of lines) here,
      (j, lt, so_far.clean, here),
      subst (λ (ks : List ℕ). WrongBy plan cut depth lines ks found.miss) (sym is.0) (subst (λ (m : Miss). WrongBy plan cut depth lines kept m) (sym is.2) wrong),
    )
