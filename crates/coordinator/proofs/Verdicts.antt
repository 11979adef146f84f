-- What the ends of threads say, one end after the other.
use Rattle.std.proofs.Common.{◌≡◌, Bool, true, false, cond, List, [], ◌∷◌, ◌++◌, refl, ap, ◌∙◌}
use Rattle.std.specs.Prelude.{not, ◌&&◌, ◌||◌}
use Rattle.std.specs.List.{list_all, list_any}
use Rattle.restart_point.specs.declared.thread_end.ThreadEnd.{ThreadEnd}
use Rattle.restart_point.specs.declared.thread_end.ThreadEnd.TheVariants.{Ready, Waits, Ended}
use Rattle.block_allow.specs.declared.judgement.Verdict.{Verdict}
use Rattle.block_allow.specs.declared.judgement.Verdict.TheVariants.{Goes, Finished, Stalled}
use Rattle.block_allow.specs.Verdicts.{leaves, is_ended, verdict_of}
use Rattle.coordinator.specs.Learnts.{verdict_with, ends_life}

-- the verdict by what both looks say
abbrev looked : Bool → Bool → Verdict
looked all some = cond all Finished (cond some Goes Stalled)

-- a test of a list with one item more
all_more : (ends : List ThreadEnd) (end : ThreadEnd) → list_all is_ended (ends ++ end ∷ []) ≡ (list_all is_ended ends && is_ended end)
all_more [] end = by (is_ended end)
  where
    by : (b : Bool) → (b && true) ≡ (true && b)
    by true = refl
    by false = refl
all_more (e ∷ ends) end = ap (λ (b : Bool). is_ended e && b) (all_more ends end) ∙ by (is_ended e) (list_all is_ended ends) (is_ended end)
  where
    by : (a b c : Bool) → (a && (b && c)) ≡ ((a && b) && c)
    by true b c = refl
    by false b c = refl

any_more : (p : ThreadEnd → Bool) (ends : List ThreadEnd) (end : ThreadEnd) → list_any p (ends ++ end ∷ []) ≡ (list_any p ends || p end)
any_more p [] end = by (p end)
  where
    by : (b : Bool) → (b || false) ≡ (false || b)
    by true = refl
    by false = refl
any_more p (e ∷ ends) end = ap (λ (b : Bool). p e || b) (any_more p ends end) ∙ by (p e) (list_any p ends) (p end)
  where
    by : (a b c : Bool) → (a || (b || c)) ≡ ((a || b) || c)
    by true b c = refl
    by false b c = refl

-- where all are at their scripts' ends none may leave
ended_stay : (ends : List ThreadEnd) (fed : Bool) → list_all is_ended ends ≡ true → list_any (λ end. leaves end fed) ends ≡ false
ended_stay [] fed all = refl
ended_stay (Ready ∷ ends) fed all = absurd (cc)
ended_stay (Waits ∷ ends) fed all = absurd (cc)
ended_stay (Ended ∷ ends) fed all = ended_stay ends fed all

by_looks : (all some : Bool) (end : ThreadEnd) (fed : Bool) → (all ≡ true → some ≡ false) → looked (all && is_ended end) (some || leaves end fed) ≡ verdict_with (looked all some) end fed
by_looks true true end fed apart = let e : true ≡ false = apart refl in absurd (cc)
by_looks true false Ready fed apart = refl
by_looks true false Waits true apart = refl
by_looks true false Waits false apart = refl
by_looks true false Ended fed apart = refl
by_looks false true Ready fed apart = refl
by_looks false true Waits true apart = refl
by_looks false true Waits false apart = refl
by_looks false true Ended fed apart = refl
by_looks false false Ready fed apart = refl
by_looks false false Waits true apart = refl
by_looks false false Waits false apart = refl
by_looks false false Ended fed apart = refl

pub one_end_more : (ends : List ThreadEnd) (end : ThreadEnd) (fed : Bool) → verdict_of (ends ++ end ∷ []) fed ≡ verdict_with (verdict_of ends fed) end fed
one_end_more ends end fed =
    (λ i. looked (all_more ends end i) (any_more (λ e. leaves e fed) ends end i))
    ∙ by_looks (list_all is_ended ends) (list_any (λ e. leaves e fed) ends) end fed (ended_stay ends fed)

-- the life ends where none may leave
by_ends : (all some : Bool) → (all ≡ true → some ≡ false) → ends_life (looked all some) ≡ not some
by_ends true true apart = let e : true ≡ false = apart refl in absurd (cc)
by_ends true false apart = refl
by_ends false true apart = refl
by_ends false false apart = refl

pub ends_where_none_leaves : (ends : List ThreadEnd) (fed : Bool) → ends_life (verdict_of ends fed) ≡ not (list_any (λ end. leaves end fed) ends)
ends_where_none_leaves ends fed = by_ends (list_all is_ended ends) (list_any (λ end. leaves end fed) ends) (ended_stay ends fed)
