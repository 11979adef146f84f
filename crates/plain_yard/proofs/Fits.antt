-- There is room for each entry: where one may be drawn, fewer are drawn than the scripts have commands.
use Rattle.std.proofs.Common.{◌≡◌, ℕ, zero, suc, ◌+◌, ◌*◌, ◌^◌, ◌<◌, ◌≤◌, List, [], ◌∷◌, length, sym, ap, ◌∙◌, subst, arith, Some, refl}
use Rattle.std.specs.List.{All}
use mathlib.Core.Logic.{dite}
use native.Mathlib.Decide.{ℕ_discrete}
use Rattle.std.proofs.lemmas.Option.{slice_get_within}
use Rattle.seq_object.specs.declared.command.Command.{Command}
use Rattle.seq_object.specs.declared.history.Entry.{Entry}
use Rattle.seq_object.specs.History.{of_thread, total}
use Rattle.seq_object.proofs.Histories.{in_script}
use Rattle.seq_object.proofs.Totals.{thread_count}
use Rattle.life_model.specs.Life.{script_of, opening_place, place_after, next_command}
use Rattle.yard_model.specs.declared.view.Beginning.{Beginning}
use Rattle.yard_model.specs.declared.view.View.{View}
use Rattle.yard_model.specs.declared.view.Grip.{Grip}
use Rattle.yard_model.specs.declared.view.Checkpoint.{Checkpoint}
use Rattle.yard_model.specs.Beginnings.{opening_of, IsBeginning}
use Rattle.yard_model.specs.World.{YardState, ViewIs, clock}
use Rattle.yard_model.specs.Lawful.{Lawful}
use Rattle.yard_model.specs.Conditions.{MayDraw}
use Rattle.yard_laws.proofs.Lists.{at_inside}
use Rattle.yard_laws.proofs.Knowns.{known_next}
use Rattle.plain_yard.specs.Opening.{commands_in}

-- sums of numbers that are no more than others, one of them less
total_most : (f g : ℕ → ℕ) (n : ℕ) → ((j : ℕ) → j < n → f j ≤ g j) → total f n ≤ total g n
total_most f g zero few = omega arith
total_most f g (suc n) few = let a = total_most f g n (λ j q. few j (omega (arith, q))) in let c = few n (omega arith) in omega (arith, a, c)

total_less : (f g : ℕ → ℕ) (n i : ℕ) → ((j : ℕ) → j < n → f j ≤ g j) → i < n → f i < g i → total f n < total g n
total_less f g zero i few lt less = absurd (omega (arith, lt))
total_less f g (suc n) i few lt less = dite (ℕ_discrete i n)
    (λ e. let a = total_most f g n (λ j q. few j (omega (arith, q))) in let c = subst (λ (j : ℕ). f j < g j) e less in omega (arith, a, c))
    (λ e. let a = total_less f g n i (λ j q. few j (omega (arith, q))) (omega (arith, lt, e)) less in let c = few n (omega arith) in omega (arith, a, c))

-- a sum from its first number on
total_first : (f : ℕ → ℕ) (n : ℕ) → total f (suc n) ≡ f 0 + total (λ j. f (suc j)) n
total_first f zero = omega arith
total_first f (suc n) = let a = total_first f n in omega (arith, a)

-- the commands of all scripts
pub all_commands : (scripts : List (List Command)) → total (λ j. length (script_of scripts j)) (length scripts) ≡ commands_in scripts
all_commands [] = refl
all_commands (s ∷ ss) = let a = all_commands ss in total_first (λ j. length (script_of (s ∷ ss) j)) (length ss) ∙ ap (λ (n : ℕ). length s + n) a

commands_short : (scripts : List (List Command)) → All (λ (s : List Command). length s ≤ 4096) scripts → commands_in scripts ≤ 4096 * length scripts
commands_short [] all = omega arith
commands_short (s ∷ ss) all = let one = all 0 [] (omega arith) in let rest = commands_short ss (λ j d lt. all (suc j) d (omega (arith, lt))) in omega (arith, one, rest)

pub commands_few : (b : Beginning) → IsBeginning b → commands_in b.scripts < 2 ^ 32
commands_few b is = let a = commands_short b.scripts is.short in let n = is.scripts in let t = is.settings.sizes.few_threads in omega (arith, a, n, t)

module _ (b : Beginning) (w : YardState) (h : List Entry) (cs : List Checkpoint) (l : Lawful b w h cs) where
  few : (j : ℕ) → j < b.settings.threads → length (of_thread j h) ≤ length (script_of b.scripts j)
  few j lt = let a = in_script (script_of b.scripts j) (opening_place (opening_of b) j) (of_thread j h) (l.epochs.order.commands j) (l.bounds.beginning.places j lt) in omega (arith, a)

  pub one_more_fits : (i : ℕ) (v : View) (g : Grip) (e : Entry) → ViewIs w i v → MayDraw v g e → clock w < commands_in b.scripts
  one_more_fits i v g e at may =
      let lt : i < b.settings.threads = (let a = at_inside w.views i v at in let n = l.sized.views in omega (arith, a, n)) in
      let here : next_command (opening_of b) h i ≡ Some e.command = sym (known_next b w h cs i v l at) ∙ may.command in
      let inside : place_after (opening_of b) h i < length (script_of b.scripts i) = slice_get_within (script_of b.scripts i) (place_after (opening_of b) h i) e.command here in
      let less : length (of_thread i h) < length (script_of b.scripts i) = omega (arith, inside) in
      let sum = total_less (λ j. length (of_thread j h)) (λ j. length (script_of b.scripts j)) b.settings.threads i few lt less in
      let all = thread_count b.settings.threads h l.entries.known in
      let commands = ap (total (λ j. length (script_of b.scripts j))) (sym l.bounds.beginning.scripts) ∙ all_commands b.scripts in
      let c = l.entries.clock in omega (arith, sum, all, commands, c)
