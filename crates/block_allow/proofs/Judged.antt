-- What each verdict says of the ends.
use Rattle.std.proofs.Common.{◌≡◌, ◌↔◌, Bool, true, false, List, get_or, refl, ap, ◌∙◌, if◌then◌else◌}
use Rattle.std.specs.List.{list_all, list_any}
use Rattle.std.proofs.lemmas.List.Folds.{Any-from_list_any, list_any-from_Any, list_all_at}
use Rattle.std.proofs.lemmas.List.Sums.{AllPass-from_list_all, list_all-from_AllPass}
use Rattle.restart_point.specs.declared.thread_end.ThreadEnd.{ThreadEnd}
use Rattle.restart_point.specs.declared.thread_end.ThreadEnd.TheVariants.{Ready, Waits, Ended}
use Rattle.block_allow.specs.declared.judgement.Verdict.{Verdict}
use Rattle.block_allow.specs.declared.judgement.Verdict.TheVariants.{Goes, Finished, Stalled}
use Rattle.block_allow.specs.Verdicts.{leaves, is_ended, verdict_of, AreEnded, SomeLeaves}

-- the verdict by what both looks say
abbrev looked : Bool → Bool → Verdict
looked all some = if all then Finished else if some then Goes else Stalled

-- a life is finished by the first look alone
finished_only : (all some : Bool) → looked all some ≡ Finished → all ≡ true
finished_only true some h = refl
finished_only false true h = cc
finished_only false false h = cc

-- a life goes on by the second look
goes_only : (all some : Bool) → looked all some ≡ Goes → some ≡ true
goes_only true some h = cc
goes_only false true h = refl
goes_only false false h = cc

-- one end is at its script's end
ended_only : (end : ThreadEnd) → is_ended end ≡ true → end ≡ Ended
ended_only Ready h = cc
ended_only Waits h = cc
ended_only Ended h = refl

-- a thread that may leave is not at its script's end
leaves-not_ended : (end : ThreadEnd) (fed : Bool) → leaves end fed ≡ true → is_ended end ≡ false
leaves-not_ended Ready fed h = refl
leaves-not_ended Waits fed h = refl
leaves-not_ended Ended fed h = cc

-- the life is finished exactly where each thread is at its script's end
pub finished_law : (ends : List ThreadEnd) (fed : Bool) → (verdict_of ends fed ≡ Finished) ↔ AreEnded ends
finished_law ends fed =
    let some : Bool = list_any (λ end. leaves end fed) ends in (
      λ h. λ k d lt. ended_only (get_or ends k d) (AllPass-from_list_all is_ended ends (finished_only (list_all is_ended ends) some h) k d lt),
      λ all. ap (λ (b : Bool). looked b some) (list_all-from_AllPass is_ended ends (λ k d lt. ap is_ended (all k d lt))),
    )

-- the life goes on exactly where some thread may leave
pub goes_law : (ends : List ThreadEnd) (fed : Bool) → (verdict_of ends fed ≡ Goes) ↔ SomeLeaves ends fed
goes_law ends fed =
    let test : ThreadEnd → Bool = λ end. leaves end fed in (
      λ h. Any-from_list_any test ends (goes_only (list_all is_ended ends) (list_any test ends) h),
      λ (k, d, lt, is, may).
          let not_all : list_all is_ended ends ≡ false = list_all_at is_ended ends k d lt (ap is_ended is ∙ leaves-not_ended d fed may) in
          let some : list_any test ends ≡ true = list_any-from_Any test ends (k, d, lt, is, may) in
          ap (λ (b : Bool). looked b (list_any test ends)) not_all ∙ ap (λ (b : Bool). looked false b) some,
    )
