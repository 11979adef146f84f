-- Threads that give their rooms up, one behind another.
use Rattle.std.proofs.Common.{◌≡◌, ℕ, zero, suc, ◌+◌, ◌<◌, length, None, refl, sym, ap, ◌∙◌, subst, arith}
use mathlib.Core.Logic.{dite}
use native.Mathlib.Decide.{ℕ_discrete}
use Rattle.yard_model.specs.declared.view.View.{View}
use Rattle.plain_yard.specs.Shown.{view_at, NoneHolds}
use Rattle.replay_model.specs.Replays.{ReplayState, TurnsOff, AllTurnOff}
use Rattle.replay_model.specs.Kept.{IsReplay}
use Rattle.replay_model.specs.Laws.{HasTurnedOff}
use Rattle.replay_laws.proofs.GivenUp.{turns_off, none_holds}

-- so many first threads of s gave their rooms up, which leads to t
pub record GaveUp (n : ℕ) (s t : ReplayState) : Type 0 where
  pub off : AllTurnOff 0 n s t
  pub replay : IsReplay t
  pub number : length t.yard.told.world.views ≡ length s.workers
  pub none : (i : ℕ) → i < n → (view_at t.yard i).grip ≡ None
  pub beginning : t.yard.beginning ≡ s.yard.beginning
  pub history : t.yard.told.history ≡ s.yard.told.history
  pub checkpoints : t.yard.told.checkpoints ≡ s.yard.told.checkpoints

pub none_gave_up : (s : ReplayState) → IsReplay s → GaveUp 0 s s
none_gave_up s replay = record {
  off = refl;
  replay = replay;
  number = sym replay.number;
  none = λ i lt. absurd (omega (arith, lt));
  beginning = refl;
  history = refl;
  checkpoints = refl;
}

-- with a thread more
off_more : (i n : ℕ) (s m t : ReplayState) → AllTurnOff i n s m → TurnsOff (i + n) m t → AllTurnOff i (suc n) s t
off_more i zero s m t same off = let e : i + 0 ≡ i = omega arith in (t, subst (λ (z : ℕ × ReplayState). TurnsOff z.0 z.1 t) (λ k. (e k, same k)) off, refl)
off_more i (suc n) s m t all off = let e : i + suc n ≡ suc i + n = omega arith in
    (all.0, all.1, off_more (suc i) n all.0 m t all.2 (subst (λ (j : ℕ). TurnsOff j m t) e off))

module _ (n : ℕ) (s m t : ReplayState) (thread : n < length s.workers) (was : GaveUp n s m) (off : TurnsOff n m t) (replay : IsReplay t) where
  has : HasTurnedOff n m t
  has = turns_off n m t (let k = was.number in omega (arith, k, thread)) was.replay off

  none : (i : ℕ) → i < suc n → (view_at t.yard i).grip ≡ None
  none i lt = dite (ℕ_discrete i n) (λ e. subst (λ (j : ℕ). (view_at t.yard j).grip ≡ None) (sym e) has.none)
      (λ e. ap (λ (v : View). v.grip) (has.others i e) ∙ was.none i (omega (arith, lt, e)))

  gave_up_suc : GaveUp (suc n) s t
  gave_up_suc = record {
    off = off_more 0 n s m t was.off (let e : n ≡ 0 + n = omega arith in subst (λ (j : ℕ). TurnsOff j m t) e off);
    replay = replay;
    number = has.number ∙ was.number;
    none = none;
    beginning = off.gives_up.beginning ∙ off.beginning ∙ was.beginning;
    history = has.history ∙ was.history;
    checkpoints = has.checkpoints ∙ was.checkpoints;
  }

  pub gave_up_more : GaveUp (n + 1) s t
  gave_up_more = let e : suc n ≡ n + 1 = omega arith in subst (λ (j : ℕ). GaveUp j s t) e gave_up_suc

-- there is such a thread before its turn to give up
pub thread_is : (n : ℕ) (s m : ReplayState) → GaveUp n s m → length m.workers ≡ length s.workers
thread_is n s m gave = gave.replay.number ∙ gave.number

-- threads are few
pub few_workers : (s : ReplayState) → IsReplay s → length s.workers < 17
few_workers s replay = let n = replay.number in let v = replay.lawful.sized.views in let t = replay.lawful.bounds.beginning.settings.sizes.few_threads in omega (arith, n, v, t)

-- once each thread gave its room up none holds one
pub all_gave_up : (n : ℕ) (s t : ReplayState) → n ≡ length s.workers → GaveUp n s t → NoneHolds t.yard
all_gave_up n s t all gave = none_holds s t gave.replay.lawful gave.number (λ i lt. gave.none i (omega (arith, all, lt)))
