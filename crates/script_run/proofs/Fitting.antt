-- There is room for each entry: no more are drawn than the scripts have commands.
use Rattle.std.proofs.Common.{◌≡◌, ℕ, zero, suc, ◌+◌, ◌<◌, ◌≤◌, List, [], ◌∷◌, length, sym, ap, ◌∙◌, arith, refl}
use Rattle.seq_object.specs.declared.command.Command.{Command}
use Rattle.seq_object.specs.declared.history.Entry.{Entry}
use Rattle.seq_object.specs.History.{of_thread, total}
use Rattle.seq_object.proofs.Histories.{in_script}
use Rattle.seq_object.proofs.Totals.{total-le, thread_count}
use Rattle.life_model.specs.Life.{script_of, opening_place}
use Rattle.yard_model.specs.declared.view.Beginning.{Beginning}
use Rattle.yard_model.specs.declared.view.Checkpoint.{Checkpoint}
use Rattle.yard_model.specs.Beginnings.{opening_of}
use Rattle.yard_model.specs.World.{YardState}
use Rattle.yard_model.specs.Lawful.{Lawful}
use Rattle.plain_yard.specs.Opening.{commands_in}

-- a sum from its first number on
total_first : (f : ℕ → ℕ) (n : ℕ) → total f (suc n) ≡ f 0 + total (λ j. f (suc j)) n
total_first f zero = omega arith
total_first f (suc n) = let a = total_first f n in omega (arith, a)

-- the commands of all scripts
all_commands : (scripts : List (List Command)) → total (λ j. length (script_of scripts j)) (length scripts) ≡ commands_in scripts
all_commands [] = refl
all_commands (s ∷ ss) = let a = all_commands ss in total_first (λ j. length (script_of (s ∷ ss) j)) (length ss) ∙ ap (λ (n : ℕ). length s + n) a

module _ (b : Beginning) (w : YardState) (h : List Entry) (cs : List Checkpoint) (l : Lawful b w h cs) where
  few : (j : ℕ) → j < b.settings.threads → length (of_thread j h) ≤ length (script_of b.scripts j)
  few j lt = let a = in_script (script_of b.scripts j) (opening_place (opening_of b) j) (of_thread j h) (l.epochs.order.commands j) (l.bounds.beginning.places j lt) in omega (arith, a)

  pub entries_fit : length h ≤ commands_in b.scripts
  entries_fit =
      let sum = total-le (λ j. length (of_thread j h)) (λ j. length (script_of b.scripts j)) b.settings.threads few in
      let all = thread_count b.settings.threads h l.entries.known in
      let commands = ap (total (λ j. length (script_of b.scripts j))) (sym l.bounds.beginning.scripts) ∙ all_commands b.scripts in
      omega (arith, sum, all, commands)
