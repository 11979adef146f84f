-- A look, a look at the power, a tick, and turning the power off.
use Rattle.std.proofs.Common.{◌≡◌, ℕ, suc, ◌+◌, ◌*◌, ◌^◌, ◌<◌, ◌≤◌, ◌||◌, max, leb, cond, Bool, true, false, List, [], ◌∷◌, length, set, sym, refl, ap, ◌∙◌, ⊎_elim, arith, length-set, get_or-set_other, get_or-set_same}
use mathlib.Core.Option.{some}
use lib.ListN.{get_elem?}
use Rattle.std.specs.Prelude.{not}
use Rattle.std.proofs.lemmas.Bool.Decides.{leb_tells}
use Rattle.seq_object.specs.declared.history.Entry.{Entry}
use Rattle.yard_model.specs.declared.view.Beginning.{Beginning}
use Rattle.yard_model.specs.declared.view.View.{View}
use Rattle.yard_model.specs.declared.view.Checkpoint.{Checkpoint}
use Rattle.yard_model.specs.World.{YardState, tick_word, ViewIs, all_ticks, number_on, seen_on, is_called_off}
use Rattle.yard_model.specs.Lawful.{Lawful}
use Rattle.yard_model.specs.Views.{looked, saw_power, ticked, turned_off}
use Rattle.yard_model.specs.Conditions.{MayTick}
use Rattle.yard_model.specs.Steps.{with_view, at_tick, at_off}
use Rattle.yard_model.specs.Laws.{LookKeepsLaw, PowerKeepsLaw, TickKeepsLaw, TickFitsLaw, OffKeepsLaw}
use Rattle.yard_laws.proofs.Views.{total_set, total_same, any_same, total_few, any_here}
use Rattle.yard_laws.proofs.Quiet.{quiet_stays}
use Rattle.line_memory.specs.Line.{counted}

abbrev one_if : Bool → ℕ
one_if c = cond c 1 0

seen_once : (v : View) → v.saw_on ≡ true → seen_on v ≡ 1
seen_once v e = rw e refl

module _ (b : Beginning) (w : YardState) (h : List Entry) (cs : List Checkpoint) (i : ℕ) (v : View) (l : Lawful b w h cs) (at : ViewIs w i v) where
  -- where neither the ticks nor the calls of off change
  still_called : (u : View) → u.called_off ≡ v.called_off → is_called_off (set w.views i u) ≡ is_called_off w.views
  still_called u same = any_same (λ (c : View). c.called_off) w.views i v u at same

  same_ticks : (u : View) → u.ticks ≡ v.ticks → all_ticks (set w.views i u) ≡ all_ticks w.views
  same_ticks u same = total_same (λ (c : View). c.ticks) w.views i v u at same

  pub look_stays : (word found : ℕ) → Lawful b (with_view w i (looked v word found)) h cs
  look_stays word found = let u = looked v word found in let called = still_called u refl in let sum = same_ticks u refl in
      quiet_stays b w h cs i v l at (counted v.looks) (record { word = word; found = found }) v.ticks v.saw_on v.saw_off v.called_off w.words refl (λ q. refl)
      (λ e. e) ((l.locks.views i v at).off) (omega arith) ((l.bounds.views i v at).few_ticks)
      (λ e. l.bounds.ticks (sym called ∙ e) ∙ sym sum)
      (λ e. let f = l.bounds.off (sym called ∙ e) in (f.0, omega (arith, f.1, sum)))
      (let on = total_same seen_on w.views i v u at refl in let f = l.bounds.limit in omega (arith, f, sum, on))

  limit_same : v.beginning.limit ≡ b.limit
  limit_same = ap (λ (c : Beginning). c.limit) (l.sized.beginnings i v at)

  -- a view that saw the power as it was found
  abbrev seen : Bool → View
  seen is = record v { saw_on = v.saw_on || not is; saw_off = v.saw_off || is }

  -- who sees the power on sees the sum of the ticks below the limit
  below_limit : tick_word w < v.beginning.limit → (called : Bool) → is_called_off w.views ≡ called → all_ticks w.views < b.limit
  below_limit lt false e = let f = l.bounds.ticks e in omega (arith, f, lt, limit_same)
  below_limit lt true e = let f = (l.bounds.off e).0 in let m = l.bounds.beginning.limit in absurd (omega (arith, f, lt, limit_same, m))

  on_few : (u : View) → number_on (set w.views i u) ≤ b.settings.threads
  on_few u = let few = total_few seen_on (set w.views i u) (λ c. at_most c.saw_on) in omega (arith, few, length-set w.views i u, l.sized.views)
    where
      at_most : (c : Bool) → cond c 1 0 ≤ 1
      at_most true = omega arith
      at_most false = omega arith

  same_on : (saw is : Bool) → is ≡ true → one_if (saw || not is) ≡ one_if saw
  same_on true is e = refl
  same_on false true e = refl
  same_on false false e = absurd (cc)

  or_left : (a c : Bool) → a ≡ true → (a || c) ≡ true
  or_left true c e = refl
  or_left false c e = absurd (cc)

  either_off : (a c : Bool) → (a || c) ≡ true → (a ≡ true → b.limit ≤ tick_word w) → (c ≡ true → b.limit ≤ tick_word w) → b.limit ≤ tick_word w
  either_off true c e f g = f refl
  either_off false c e f g = g e

  power_as : (is : Bool) → (is ≡ true → v.beginning.limit ≤ tick_word w) → (is ≡ false → tick_word w < v.beginning.limit) → Lawful b (with_view w i (seen is)) h cs
  power_as is off on = let u = seen is in let called = still_called u refl in let sum = same_ticks u refl in
      quiet_stays b w h cs i v l at v.looks v.look v.ticks (v.saw_on || not is) (v.saw_off || is) v.called_off w.words refl (λ q. refl)
      (λ e. or_left v.saw_off is e)
      (λ e. either_off v.saw_off is e ((l.locks.views i v at).off) (λ f. let o = off f in omega (arith, o, limit_same)))
      (omega arith) ((l.bounds.views i v at).few_ticks)
      (λ e. l.bounds.ticks (sym called ∙ e) ∙ sym sum)
      (λ e. let f = l.bounds.off (sym called ∙ e) in (f.0, omega (arith, f.1, sum)))
      (few is refl sum)
    where
      few : (c : Bool) → is ≡ c → all_ticks (set w.views i (seen is)) ≡ all_ticks w.views → all_ticks (set w.views i (seen is)) + number_on (set w.views i (seen is)) ≤ b.limit + b.settings.threads
      few true e sum = let on' = total_same seen_on w.views i v (seen is) at (same_on v.saw_on is e) in let f = l.bounds.limit in omega (arith, f, sum, on')
      few false e sum = let on' = on_few (seen is) in let f = below_limit (on e) (is_called_off w.views) refl in omega (arith, f, sum, on')

  pub power_stays : Lawful b (with_view w i (saw_power v (tick_word w))) h cs
  power_stays = ⊎_elim
      (λ (t : (leb v.beginning.limit (tick_word w) ≡ true) × (v.beginning.limit ≤ tick_word w)).
      power_as (leb v.beginning.limit (tick_word w)) (λ _. t.1) (λ e. let f : true ≡ false = sym t.0 ∙ e in absurd (cc)))
      (λ (t : (leb v.beginning.limit (tick_word w) ≡ false) × (tick_word w < v.beginning.limit)).
      power_as (leb v.beginning.limit (tick_word w)) (λ e. let f : true ≡ false = sym e ∙ t.0 in absurd (cc)) (λ _. t.1))
      (leb_tells v.beginning.limit (tick_word w))

  some_words : 0 < length w.words
  some_words = let s = l.sized.words in omega (arith, s)

  pub tick_stays : MayTick v → Lawful b (at_tick w i (ticked v)) h cs
  tick_stays may = let called = still_called (ticked v) refl in let here = get_or-set_same w.words 0 (tick_word w + 1) 0 some_words in
      let sum = total_set (λ (c : View). c.ticks) w.views i v (ticked v) at in
      let on = total_set seen_on w.views i v (ticked v) at in
      let saw : seen_on v ≡ 1 = seen_once v may.saw_on in
      quiet_stays b w h cs i v l at v.looks v.look (v.ticks + 1) false v.saw_off v.called_off (set w.words 0 (tick_word w + 1)) (length-set w.words 0 (tick_word w + 1))
      (λ q. get_or-set_other w.words 0 (1 + q) (tick_word w + 1) 0 (λ e. omega arith))
      (λ e. e) (λ e. let f = (l.locks.views i v at).off e in omega (arith, f, here)) (omega (arith, here)) (let f = may.few in omega (arith, f))
      (λ e. let f = l.bounds.ticks (sym called ∙ e) in omega (arith, f, here, sum))
      (λ e. let f = l.bounds.off (sym called ∙ e) in (omega (arith, f.0, here), omega (arith, f.1, here, sum)))
      (let f = l.bounds.limit in omega (arith, f, sum, on, saw))

  pub off_stays : Lawful b (at_off w i (turned_off v)) h cs
  off_stays = let here = get_or-set_same w.words 0 (max (tick_word w) (2 ^ 63)) 0 some_words in
      let sum = same_ticks (turned_off v) refl in
      let on = total_same seen_on w.views i v (turned_off v) at refl in
      let called = any_here (λ (c : View). c.called_off) w.views i v (turned_off v) at refl in
      let most = l.bounds.beginning.limit in
      quiet_stays b w h cs i v l at v.looks v.look v.ticks v.saw_on true true (set w.words 0 (max (tick_word w) (2 ^ 63))) (length-set w.words 0 (max (tick_word w) (2 ^ 63)))
      (λ q. get_or-set_other w.words 0 (1 + q) (max (tick_word w) (2 ^ 63)) 0 (λ e. omega arith))
      (λ e. refl) (λ e. omega (arith, here, most)) (omega (arith, here)) ((l.bounds.views i v at).few_ticks)
      (λ e. let f : true ≡ false = sym called ∙ e in absurd (cc))
      (λ e. (omega (arith, here), let f = high (is_called_off w.views) refl in omega (arith, f, here, sum)))
      (let f = l.bounds.limit in omega (arith, f, sum, on))
    where
      high : (called : Bool) → is_called_off w.views ≡ called → max (tick_word w) (2 ^ 63) ≤ 2 ^ 63 + all_ticks w.views
      high false e = let f = l.bounds.ticks e in omega (arith, f)
      high true e = let f = (l.bounds.off e).1 in omega (arith, f)

pub look_keeps : LookKeepsLaw Lawful
look_keeps b w h cs i v word found l at = look_stays b w h cs i v l at word found

pub power_keeps : PowerKeepsLaw Lawful
power_keeps b w h cs i v l at = power_stays b w h cs i v l at

pub tick_keeps : TickKeepsLaw Lawful
tick_keeps b w h cs i v l at may = tick_stays b w h cs i v l at may

pub off_keeps : OffKeepsLaw Lawful
off_keeps b w h cs i v l at = off_stays b w h cs i v l at

-- the sum of the ticks of at most 16 threads
sum_few : (vs : List View) → ((i : ℕ) (v : View) → get_elem? vs i ≡ some v → v.ticks ≤ 2 ^ 32) → all_ticks vs ≤ 2 ^ 32 * length vs
sum_few [] few = omega arith
sum_few (x ∷ xs) few = let a = few 0 x refl in let c = sum_few xs (λ i v e. few (suc i) v e) in omega (arith, a, c)

pub tick_fits : TickFitsLaw
tick_fits b w h cs l = fits (is_called_off w.views) refl
  where
    few : all_ticks w.views ≤ 2 ^ 36
    few = let a = sum_few w.views (λ i v at. (l.bounds.views i v at).few_ticks) in let n = l.sized.views in let m = l.bounds.beginning.settings.sizes.few_threads in omega (arith, a, n, m)

    fits : (called : Bool) → is_called_off w.views ≡ called → tick_word w + 1 < 2 ^ 64
    fits false e = let f = l.bounds.ticks e in omega (arith, f, few)
    fits true e = let f = (l.bounds.off e).1 in omega (arith, f, few)
