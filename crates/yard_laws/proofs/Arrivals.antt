-- A step that writes the arrival word: which words it leaves; and what a lawful world's arrival word tells.
use Rattle.std.proofs.Common.{◌≡◌, ◌≢◌, ℕ, ◌+◌, ◌<◌, true, false, List, length, get_or, set, sym, refl, ap, ◌∙◌, subst, arith, Some, get_or-set_other, get_or-set_same}
use Rattle.seq_object.specs.declared.history.Entry.{Entry}
use Rattle.restart_point.specs.ArrivalWord.{is_set}
use Rattle.yard_model.specs.declared.view.Phase.{Phase}
use Rattle.yard_model.specs.declared.view.Phase.TheVariants.{Standing, Running, Closing}
use Rattle.yard_model.specs.declared.view.Beginning.{Beginning}
use Rattle.yard_model.specs.declared.view.View.{View}
use Rattle.yard_model.specs.declared.view.Grip.{Grip}
use Rattle.yard_model.specs.declared.view.GivenBack.{GivenBack}
use Rattle.yard_model.specs.declared.view.Checkpoint.{Checkpoint}
use Rattle.yard_model.specs.Beginnings.{sizes_at, is_over}
use Rattle.yard_model.specs.Knows.{stands, is_closing, MayHold}
use Rattle.yard_model.specs.World.{YardState, tick_word, clock, arrival, lock_of, ViewIs, closes}
use Rattle.yard_model.specs.Lawful.{Lawful}
use Rattle.yard_laws.proofs.Lists.{at_inside}
use Rattle.yard_laws.proofs.Views.{any_there}

module _ (b : Beginning) (w : YardState) (h : List Entry) (cs : List Checkpoint) (l : Lawful b w h cs) where
  -- the arrival word alone is written
  module _ (word : ℕ) where
    pub word_here : get_or (set w.words 2 word) 2 0 ≡ word
    word_here = let s = l.sized.words in let lt : 2 < length w.words = omega (arith, s) in get_or-set_same w.words 2 word 0 lt

    pub locks_here : (r : ℕ) → get_or (set w.words 2 word) (3 + r) 0 ≡ lock_of w r
    locks_here r = get_or-set_other w.words 2 (3 + r) word 0 (λ e. omega arith)

    pub tick_here : get_or (set w.words 2 word) 0 0 ≡ tick_word w
    tick_here = get_or-set_other w.words 2 0 word 0 (λ e. omega arith)

    pub clock_here : get_or (set w.words 2 word) 1 0 ≡ clock w
    clock_here = get_or-set_other w.words 2 1 word 0 (λ e. omega arith)

  -- there is a shard
  pub some_shards : 0 < (sizes_at b).shards
  some_shards = let s = l.bounds.beginning.settings.sizes.some_shards in omega (arith, s)

  -- each view is a thread's
  pub below_threads : (i : ℕ) (v : View) → ViewIs w i v → i < b.settings.threads
  below_threads i v at = let f = at_inside w.views i v at in let n = l.sized.views in omega (arith, f, n)

  -- a thread's number is below 16
  pub few_threads : (i : ℕ) (v : View) → ViewIs w i v → i < 16
  few_threads i v at = let f = at_inside w.views i v at in let n = l.sized.views in let m = l.bounds.beginning.settings.sizes.few_threads in omega (arith, f, n, m)

  -- a view that stands holds no room, and gave none back
  pub stands_free : (i : ℕ) (v : View) → ViewIs w i v → v.phase ≡ Standing → (g : Grip) → v.grip ≡ Some g → ⊥
  stands_free i v at is g e = subst (λ (p : Phase). MayHold (sizes_at b) i p v.closed.rooms g.room) is ((l.locks.views i v at).may_hold g e).0

  pub stands_gave_none : (i : ℕ) (v : View) → ViewIs w i v → v.phase ≡ Standing → (k : GivenBack) → v.given_back ≡ Some k → ⊥
  stands_gave_none i v at is k e = subst (λ (p : Phase). MayHold (sizes_at b) i p v.closed.rooms k.room) is ((l.locks.views i v at).may_give k e).0

  -- a view that saw the power on gave no room back
  pub on_gave_none : (i : ℕ) (v : View) → ViewIs w i v → v.saw_off ≡ false → (k : GivenBack) → v.given_back ≡ Some k → ⊥
  on_gave_none i v at on k e = let f = ((l.locks.views i v at).one_room k e).1 in let c : true ≡ false = sym f ∙ on in absurd (cc)

  -- while a thread runs, none closes; and while one closes, each other stands
  pub runs_none_closes : (i : ℕ) (v : View) → ViewIs w i v → v.phase ≡ Running → (j : ℕ) (c : View) → ViewIs w j c → c.phase ≡ Closing → ⊥
  runs_none_closes i v at runs j c at' is = let full = l.arrival.full i v at (any_there (λ (d : View). is_closing d.phase) w.views j c at' (ap is_closing is)) in
      let s = ap stands runs in let f : true ≡ false = sym full ∙ s in absurd (cc)

  pub others_stand : (i : ℕ) (v : View) → ViewIs w i v → v.phase ≡ Closing → (j : ℕ) (c : View) → j ≢ i → ViewIs w j c → c.phase ≡ Standing
  others_stand i v at closing j c n at' = phase c.phase refl
    where
      full : stands c.phase ≡ true
      full = l.arrival.full j c at' (any_there (λ (d : View). is_closing d.phase) w.views i v at (ap is_closing closing))

      phase : (p : Phase) → c.phase ≡ p → p ≡ Standing
      phase Standing f = refl
      phase Running f = let s = full in let t = ap stands f in let d : true ≡ false = sym s ∙ t in absurd (cc)
      phase Closing f = absurd (n (l.arrival.one_closer j c at' i v at f closing))

  -- what the word shows
  pub none_closes : is_set (arrival w) 16 ≡ false → closes w.views ≡ false
  none_closes f = sym l.arrival.word.closing ∙ f

  pub not_over : is_set (arrival w) 17 ≡ false → is_over b cs ≡ true → ⊥
  not_over f o = let s = l.arrival.word.over in let c : true ≡ false = sym o ∙ (sym s ∙ f) in absurd (cc)

  -- a phase that does not close
  pub none_closing : (i : ℕ) (v : View) → ViewIs w i v → closes w.views ≡ false → v.phase ≡ Closing → ⊥
  none_closing i v at none is = let f = any_there (λ (d : View). is_closing d.phase) w.views i v at (ap is_closing is) in let c : true ≡ false = sym f ∙ none in absurd (cc)
