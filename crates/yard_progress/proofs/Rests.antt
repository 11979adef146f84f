-- When a turn rests, by the words of a yard.
use Rattle.std.proofs.Common.{◌≡◌, ℕ, ◌+◌, ◌-◌, ◌*◌, ◌%◌, ◌^◌, ◌<◌, ◌⊎◌, ◌||◌, zero, suc, min, Bool, true, false, List, [], ◌∷◌, length, take, refl, sym, ap, ◌∙◌, inl, inr, arith, bit_and, if◌then◌else◌}
use mathlib.Core.Option.{some}
use lib.ListN.{get_elem?}
use Rattle.std.specs.Prelude.{IsBitSet}
use Rattle.std.specs.Int.{bit_at}
use Rattle.std.proofs.lemmas.Nat.{and_mask}
use Rattle.std.proofs.lemmas.Nat.Bits.{bit_at_and, bit_at-lt, bit_at_ones, and_pow}
use Rattle.std.proofs.lemmas.Bool.Decides.{eqb_tells}
use Rattle.std.proofs.lemmas.Bool.{cases_Bool, cases_lt}
use Rattle.std.proofs.lemmas.List.{take_all}
use Rattle.seq_object.specs.declared.history.Entry.{Entry}
use Rattle.seq_object.specs.History.{of_thread}
use Rattle.life_model.specs.Life.{script_of, place_after, next_command}
use Rattle.restart_point.specs.declared.thread_end.ThreadEnd.{ThreadEnd}
use Rattle.restart_point.specs.declared.thread_end.ThreadEnd.TheVariants.{Ended}
use Rattle.restart_point.specs.ArrivalWord.{is_set}
use Rattle.block_allow.specs.Verdicts.{leaves}
use Rattle.rounds.specs.Progress.{Activity, AtPoint, phase_of}
use Rattle.rounds.specs.Events.{SomeCloses, MayNotLeave, MayNotClaim}
use Rattle.rounds.proofs.Sums.{some_below}
use Rattle.yard_model.specs.declared.view.Phase.TheVariants.{Standing, Closing}
use Rattle.yard_model.specs.declared.view.Beginning.{Beginning}
use Rattle.yard_model.specs.declared.view.View.{View}
use Rattle.yard_model.specs.declared.view.Checkpoint.{Checkpoint}
use Rattle.yard_model.specs.Beginnings.{opening_of, sizes_at, epoch_now, covered_by, is_over}
use Rattle.yard_model.specs.Knows.{stands, is_closing, HasCause}
use Rattle.yard_model.specs.World.{YardState, ViewIs, arrival, is_any}
use Rattle.yard_model.specs.Epochs.{since_mark}
use Rattle.yard_model.specs.Lawful.{Lawful}
use Rattle.yard_laws.proofs.Lists.{there}
use Rattle.yard_laws.proofs.Views.{stands_there}
use Rattle.yard_laws.proofs.Arrivals.{below_threads, few_threads}
use Rattle.yard_laws.proofs.Marks.{no_take_at}
use Rattle.yard_laws.proofs.Knowns.{last_few, since_sum}
use Rattle.yard_progress.specs.Shown.{ran_told, progress_of, ShowsHands, RefusesLeave, RefusesClaim}
use Rattle.yard_progress.specs.Laws.{RestShownLaw, TakelessEntryLaw}
use Rattle.yard_progress.proofs.Shown.{about_stands, about_closes}

-- where some view passes a test, there is one
some_view : (test : View → Bool) (vs : List View) → is_any test vs ≡ true → (j : ℕ) × (u : View) × (get_elem? vs j ≡ some u) × (test u ≡ true)
some_view test [] any = let q : false ≡ true = any in absurd (grind arith)
some_view test (x ∷ xs) any = elim (cases_Bool (test x)) [
  | inl here ↦ (0, x, refl, here)
  | inr not_here ↦
      let rest = some_view test xs (sym (ap (λ (c : Bool). c || is_any test xs) not_here) ∙ any) in
      (suc rest.0, rest.1, rest.2, rest.3)
]

-- the low bits of a word are those of its mask
low_bit : (word i : ℕ) → i < 16 → bit_at (word % 2 ^ 16) i ≡ bit_at word i
low_bit word i lt = ap (λ (n : ℕ). bit_at n i) (sym (and_mask word 16)) ∙ (bit_at_and word (2 ^ 16 - 1) i ∙ (ap (min (bit_at word i)) (bit_at_ones 16 i lt) ∙ (let f = bit_at-lt word i in omega (arith, f))))

-- a bit of the word that is set is set in the mask
set_in_mask : (word i : ℕ) → i < 16 → is_set word i ≡ true → IsBitSet (word % 2 ^ 16) i
set_in_mask word i lt set none = elim (eqb_tells (bit_at word i) 1) [
  | inl one ↦
      let value : bit_and (word % 2 ^ 16) (2 ^ i) ≡ 1 * 2 ^ i = and_pow (word % 2 ^ 16) i ∙ ap (λ (n : ℕ). n * 2 ^ i) (low_bit word i lt ∙ one.1) in
      omega (arith, value, none, pow_pos i)
  | inr other ↦ let q : false ≡ true = sym other.0 ∙ set in grind arith
]
  where
    pow_pos : (i : ℕ) → 0 < 2 ^ i
    pow_pos zero = omega arith
    pow_pos (suc i) = let r = pow_pos i in omega (arith, r)

module _ (b : Beginning) (w : YardState) (h : List Entry) (cs : List Checkpoint) (activities : ℕ → Activity) (ends : ℕ → ThreadEnd) (write_backs i : ℕ) (v : View)
    (l : Lawful b w h cs) (hands : ShowsHands b w h cs activities ends write_backs) (at : ViewIs w i v) (here : activities i ≡ AtPoint) where
  some_closes : is_set (arrival w) 16 ≡ true → SomeCloses (sizes_at b) (progress_of b w h cs activities ends write_backs)
  some_closes set =
      let found = some_view (λ (u : View). is_closing u.phase) w.views (sym l.arrival.word.closing ∙ set) in (
        found.0,
        below_threads b w h cs l found.0 found.1 found.2,
        about_closes found.1.phase found.1.grip found.1.closed.rooms (next_command (opening_of b) h found.0) (activities found.0) (hands.about found.0 found.1 found.2) ∙ found.3,
      )

  over_now : is_set (arrival w) 17 ≡ true → is_over b cs ≡ true
  over_now set = sym l.arrival.word.over ∙ set

  ran_here : ran_told (get_elem? w.views i) ≡ v.ran
  ran_here = ap ran_told at

  leaving : (ends i ≡ Ended) ⊎ RefusesLeave v (ends i) (arrival w) → MayNotLeave (sizes_at b) (progress_of b w h cs activities ends write_backs) i
  leaving (inl ended) = inl ended
  leaving (inr (inl closing)) = inr (inl (some_closes closing))
  leaving (inr (inr (inl over))) = inr (inr (inl (over_now over)))
  leaving (inr (inr (inr (inl later)))) = inr (inr (inr (inl (let e = l.arrival.word.epoch in omega (arith, e, later, ran_here)))))
  leaving (inr (inr (inr (inr stays)))) = inr (inr (inr (inr (ap (leaves (ends i)) (sym l.arrival.word.fed) ∙ stays))))

  -- a thread that stands has its bit
  bit_of : (j : ℕ) → j < b.settings.threads → stands (phase_of (activities j)) ≡ true → IsBitSet (arrival w % 2 ^ 16) j
  bit_of j lt stand =
      let u = there w.views j (let n = l.sized.views in omega (arith, lt, n)) in
      let few = few_threads b w h cs l j u.0 u.1 in
      set_in_mask (arrival w) j few (l.arrival.word.standing j few ∙ (stands_there w.views j u.0 u.1
      ∙ (sym (about_stands u.0.phase u.0.grip u.0.closed.rooms (next_command (opening_of b) h j) (activities j) (hands.about j u.0 u.1)) ∙ stand)))

  claiming : RefusesClaim v (arrival w) → MayNotClaim (sizes_at b) (progress_of b w h cs activities ends write_backs) i
  claiming (inl not_all) = by (some_below (λ j. if stands (phase_of (activities j)) then false else true) b.settings.threads)
    where
      runs : (c : Bool) → (if c then false else true) ≡ true → c ≡ false
      runs true e = cc
      runs false e = refl

      stays : (c : Bool) → (if c then false else true) ≡ false → c ≡ true
      stays true e = refl
      stays false e = cc

      by : ((j : ℕ) × (j < b.settings.threads) × ((if stands (phase_of (activities j)) then false else true) ≡ true)) ⊎ ((j : ℕ) → j < b.settings.threads → (if stands (phase_of (activities j)) then false else true) ≡ false)
          → MayNotClaim (sizes_at b) (progress_of b w h cs activities ends write_backs) i
      by (inl found) = inl (found.0, found.1, runs (stands (phase_of (activities found.0))) found.2)
      by (inr none) = absurd (not_all (λ j lt. let same = ap (λ (c : Beginning). c.settings.threads) (l.sized.beginnings i v at) in
          let few : j < b.settings.threads = omega (arith, lt, same) in bit_of j few (stays (stands (phase_of (activities j))) (none j few))))
  claiming (inr (inl closing)) = inr (inl (some_closes closing))
  claiming (inr (inr (inl over))) = inr (inr (inl (over_now over)))
  claiming (inr (inr (inr other))) = inr (inr (inr (λ q. other (let e = l.arrival.word.epoch in omega (arith, e, q, ran_here)))))

pub rest_shown : RestShownLaw
rest_shown b w h cs activities ends write_backs i v l hands at here leave claim =
    inl (here, leaving b w h cs activities ends write_backs i v l hands at here leave, claiming b w h cs activities ends write_backs i v l hands at here claim)

pub takeless_entry : TakelessEntryLaw
takeless_entry b w h cs i v l at closing takeless = by (some_or_none (since_mark h cs i))
  where
    ran : v.ran ≡ epoch_now b cs
    ran = (l.epochs.views i v at).runs (λ q. let e : Closing ≡ Standing = sym closing ∙ q in grind arith)

    every : since_mark h cs i + v.quota ≡ b.settings.every
    every = (l.epochs.views i v at).since ran

    reason : HasCause v.quota v.found_empty (next_command (opening_of b) h i) → since_mark h cs i ≡ 0 → ⊥
    reason (inl spent) none = omega (arith, spent, none, every, l.bounds.beginning.settings.some)
    reason (inr (inl used)) none = (l.epochs.views i v at).has_next ran none used
    reason (inr (inr found)) none = no_take_at (script_of b.scripts i) (place_after (opening_of b) h i) (takeless i) found.0

    some_or_none : (n : ℕ) → (n ≡ 0) ⊎ (0 < n)
    some_or_none zero = inl refl
    some_or_none (suc n) = inr (omega arith)

    by : (since_mark h cs i ≡ 0) ⊎ (0 < since_mark h cs i) → covered_by cs < length h
    by (inl none) = absurd (reason ((l.epochs.views i v at).cause (ap stands closing) ran) none)
    by (inr one) = elim (cases_lt (covered_by cs) (length h)) [
      | inl lt ↦ lt
      | inr ge ↦
          let whole : take (covered_by cs) h ≡ h = take_all (covered_by cs) h ge in
          let same : length (of_thread i (take (covered_by cs) h)) ≡ length (of_thread i h) = ap (λ (es : List Entry). length (of_thread i es)) whole in
          absurd (omega (arith, one, same, since_sum h cs i (last_few b w h cs l)))
    ]
