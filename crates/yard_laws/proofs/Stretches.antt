-- While all threads stand, all entries may be marked.
use Rattle.std.proofs.Common.{◌≡◌, ℕ, ◌+◌, ◌<◌, ◌≤◌, ◌⊎◌, Bool, true, List, length, sym, subst, ⊎_elim, inl, inr, arith}
use mathlib.Core.Logic.{dite}
use native.Mathlib.Decide.{ℕ_discrete}
use Rattle.std.proofs.lemmas.Bool.{cases_lt}
use Rattle.seq_object.specs.declared.history.Entry.{Entry}
use Rattle.life_model.specs.Life.{next_command, covered, entries_between, IsPause, MayMark}
use Rattle.life_laws.proofs.Ended.{may_mark}
use Rattle.yard_model.specs.declared.view.Beginning.{Beginning}
use Rattle.yard_model.specs.declared.view.View.{View}
use Rattle.yard_model.specs.declared.view.Checkpoint.{Checkpoint}
use Rattle.yard_model.specs.Beginnings.{opening_of, marks_of, epoch_now}
use Rattle.yard_model.specs.Knows.{stands, HasCause}
use Rattle.yard_model.specs.World.{YardState, ViewIs}
use Rattle.yard_model.specs.Lawful.{Lawful}
use Rattle.yard_laws.proofs.Lists.{there}
use Rattle.yard_laws.proofs.Marks.{past_none}
use Rattle.yard_laws.proofs.Knowns.{last_same, last_few, since_sum}
use Rattle.yard_model.specs.Epochs.{since_mark}

module _ (b : Beginning) (w : YardState) (h : List Entry) (cs : List Checkpoint) (l : Lawful b w h cs) (stand_all : (j : ℕ) (c : View) → ViewIs w j c → stands c.phase ≡ true) where
  -- each thread's entries since the last mark are such as a mark may end
  may_end : (thread : ℕ) → (entries_between h (covered (marks_of b cs)) (length h) thread ≡ 0)
      ⊎ ((quota : ℕ) × (entries_between h (covered (marks_of b cs)) (length h) thread + quota ≡ b.settings.every) × ((quota ≡ 0) ⊎ IsPause (next_command (opening_of b) h thread)))
  may_end j = subst (λ (d : ℕ). (entries_between h d (length h) j ≡ 0) ⊎ ((quota : ℕ) × (entries_between h d (length h) j + quota ≡ b.settings.every) × ((quota ≡ 0) ⊎ IsPause (next_command (opening_of b) h j)))) (sym (last_same b cs))
      (⊎_elim (λ (lt : j < b.settings.threads). inside (there w.views j (let n = l.sized.views in omega (arith, lt, n)))) (λ (ge : b.settings.threads ≤ j). inl (past ge)) (cases_lt j b.settings.threads))
    where
      past : b.settings.threads ≤ j → since_mark h cs j ≡ 0
      past ge = let f = since_sum h cs j (last_few b w h cs l) in let z = past_none b.settings.threads j h l.entries.known ge in omega (arith, f, z)

      pause : (quota : ℕ) (empty : Bool) → HasCause quota empty (next_command (opening_of b) h j) → (quota ≡ 0) ⊎ IsPause (next_command (opening_of b) h j)
      pause quota empty (inl z) = inl z
      pause quota empty (inr (inl none)) = inr (subst IsPause (sym none) tt)
      pause quota empty (inr (inr t)) = inr (subst IsPause (sym t.0) tt)

      inside : (c : View) × ViewIs w j c → (since_mark h cs j ≡ 0) ⊎ ((quota : ℕ) × (since_mark h cs j + quota ≡ b.settings.every) × ((quota ≡ 0) ⊎ IsPause (next_command (opening_of b) h j)))
      inside t = let f = l.epochs.views j t.0 t.1 in dite (ℕ_discrete t.0.ran (epoch_now b cs))
          (λ r. inr (t.0.quota, f.since r, pause t.0.quota t.0.found_empty (f.cause (stand_all j t.0 t.1) r)))
          (λ r. inl (f.idle r))

  pub all_may_end : MayMark (opening_of b) h (marks_of b cs)
  all_may_end = may_mark (opening_of b) h (marks_of b cs) may_end
