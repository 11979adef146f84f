-- The clock stays in range: each of at most 16 threads has at most 4,096 entries, and one that draws has fewer.
use Rattle.std.proofs.Common.{◌≡◌, ℕ, zero, suc, ◌*◌, ◌<◌, ◌≤◌, List, [], length, sym, ◌∙◌, subst, arith, Some}
use mathlib.Core.Logic.{dite}
use native.Mathlib.Decide.{ℕ_discrete}
use Rattle.std.proofs.lemmas.Option.{slice_get_within}
use Rattle.seq_object.specs.declared.history.Entry.{Entry}
use Rattle.seq_object.specs.History.{of_thread, total}
use Rattle.seq_object.proofs.Histories.{in_script}
use Rattle.seq_object.proofs.Totals.{thread_count}
use Rattle.life_model.specs.Life.{script_of, opening_place, place_after, next_command}
use Rattle.yard_model.specs.declared.view.Beginning.{Beginning}
use Rattle.yard_model.specs.declared.view.Checkpoint.{Checkpoint}
use Rattle.yard_model.specs.Beginnings.{opening_of}
use Rattle.yard_model.specs.World.{YardState}
use Rattle.yard_model.specs.Lawful.{Lawful}
use Rattle.yard_model.specs.Laws.{DrawFitsLaw}
use Rattle.yard_laws.proofs.Lists.{at_inside}
use Rattle.yard_laws.proofs.Knowns.{known_next}
use Rattle.yard_laws.proofs.Epochs.{total_few}

-- a sum of numbers, one of which is below the bound of all
total_less : (f : ℕ → ℕ) (m n i : ℕ) → ((j : ℕ) → j < n → f j ≤ m) → i < n → f i < m → total f n < m * n
total_less f m zero i few lt less = absurd (omega (arith, lt))
total_less f m (suc n) i few lt less = dite (ℕ_discrete i n)
    (λ e. let a = total_few f m n (λ j q. few j (omega (arith, q))) in let c = subst (λ (j : ℕ). f j < m) e less in omega (arith, a, c))
    (λ e. let a = total_less f m n i (λ j q. few j (omega (arith, q))) (omega (arith, lt, e)) less in let c = few n (omega arith) in omega (arith, a, c))

module _ (b : Beginning) (w : YardState) (h : List Entry) (cs : List Checkpoint) (l : Lawful b w h cs) where
  short : (j : ℕ) → j < b.settings.threads → length (script_of b.scripts j) ≤ 4096
  short j lt = l.bounds.beginning.short j [] (let n = l.bounds.beginning.scripts in omega (arith, lt, n))

  few : (j : ℕ) → j < b.settings.threads → length (of_thread j h) ≤ 4096
  few j lt = let s = short j lt in let a = in_script (script_of b.scripts j) (opening_place (opening_of b) j) (of_thread j h) (l.epochs.order.commands j) (l.bounds.beginning.places j lt) in omega (arith, s, a)

pub draw_fits : DrawFitsLaw
draw_fits b w h cs i v g e l at may =
    let lt : i < b.settings.threads = (let a = at_inside w.views i v at in let n = l.sized.views in omega (arith, a, n)) in
    let here : next_command (opening_of b) h i ≡ Some e.command = sym (known_next b w h cs i v l at) ∙ may.command in
    let inside : place_after (opening_of b) h i < length (script_of b.scripts i) = slice_get_within (script_of b.scripts i) (place_after (opening_of b) h i) e.command here in
    let less : length (of_thread i h) < 4096 = (let s = short b w h cs l i lt in omega (arith, s, inside)) in
    let sum = total_less (λ j. length (of_thread j h)) 4096 b.settings.threads i (few b w h cs l) lt less in
    let all = thread_count b.settings.threads h l.entries.known in
    let c = l.entries.clock in let n = l.bounds.beginning.settings.sizes.few_threads in omega (arith, sum, all, c, n)
