-- A thread that closes never finds a room taken.
use Rattle.std.proofs.Common.{◌≡◌, ℕ, ◌-◌, ◌<◌, false, List, sym, ap, ◌∙◌, subst, arith, Some, None}
use mathlib.Core.Logic.{dite}
use native.Mathlib.Decide.{ℕ_discrete}
use Rattle.seq_object.specs.declared.history.Entry.{Entry}
use Rattle.yard_model.specs.declared.view.Phase.TheVariants.{Closing}
use Rattle.yard_model.specs.declared.view.Beginning.{Beginning}
use Rattle.yard_model.specs.declared.view.View.{View}
use Rattle.yard_model.specs.declared.view.Grip.{Grip}
use Rattle.yard_model.specs.declared.view.GivenBack.{GivenBack}
use Rattle.yard_model.specs.declared.view.Checkpoint.{Checkpoint}
use Rattle.yard_model.specs.Beginnings.{sizes_at}
use Rattle.yard_model.specs.World.{YardState, lock_of, dead, ViewIs}
use Rattle.yard_model.specs.Lawful.{Lawful}
use Rattle.yard_model.specs.Laws.{CloserFindsFreeLaw}
use Rattle.yard_laws.proofs.Lists.{same_at}
use Rattle.yard_laws.proofs.Arrivals.{others_stand, stands_free, stands_gave_none, on_gave_none}
use Rattle.seq_object.specs.Sizes.{room_count}

module _ (b : Beginning) (w : YardState) (h : List Entry) (cs : List Checkpoint) (i : ℕ) (v : View) (l : Lawful b w h cs) (at : ViewIs w i v)
    (on : v.saw_off ≡ false) (nothing_held : v.grip ≡ None) (closing : v.phase ≡ Closing) where
  -- while a thread closes and holds no room, nobody holds one, and nobody gave one back
  pub no_grip : (j : ℕ) (c : View) → ViewIs w j c → (g : Grip) → c.grip ≡ Some g → ⊥
  no_grip j c at' g f = dite (ℕ_discrete j i)
      (λ q. let same : c ≡ v = same_at w.views i c v (subst (λ (j : ℕ). ViewIs w j c) q at') at in
      let n = nothing_held in let d : None ≡ Some g = sym n ∙ (ap (λ (a : View). a.grip) (sym same) ∙ f) in absurd (cc))
      (λ q. stands_free b w h cs l j c at' (others_stand b w h cs l i v at closing j c q at') g f)

  pub gave_none : (j : ℕ) (c : View) → ViewIs w j c → (k : GivenBack) → c.given_back ≡ Some k → ⊥
  gave_none j c at' k f = dite (ℕ_discrete j i)
      (λ q. let same : c ≡ v = same_at w.views i c v (subst (λ (j : ℕ). ViewIs w j c) q at') at in
      on_gave_none b w h cs l i v at on k (ap (λ (a : View). a.given_back) (sym same) ∙ f))
      (λ q. stands_gave_none b w h cs l j c at' (others_stand b w h cs l i v at closing j c q at') k f)

  pub all_free : (r : ℕ) → r < room_count (sizes_at b) → lock_of w r ≡ 0
  all_free r within = dite (ℕ_discrete (lock_of w r) 0) (λ z. z)
      (λ z. dite (ℕ_discrete (lock_of w r) dead)
      (λ d. let t = l.locks.giver r within d in absurd (gave_none t.0 t.1 t.2 t.3.0 t.3.1))
      (λ d. let t = l.locks.holder r (lock_of w r - 1) within (omega (arith, z)) d in absurd (no_grip (lock_of w r - 1) t.0 t.1 t.2.0 t.2.1)))

pub closer_finds_free : CloserFindsFreeLaw
closer_finds_free b w h cs i v r l at may closing = all_free b w h cs i v l at may.on may.nothing_held closing r
    (subst (λ (c : Beginning). r < room_count (sizes_at c)) (l.sized.beginnings i v at) may.within)
