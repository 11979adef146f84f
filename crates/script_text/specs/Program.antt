-- Programs: what a script says, without where it lies in memory. One script has one program, and one program one text.
use Rattle.std.specs.Prelude.{ℕ, List, map}
use Rattle.seq_object.specs.declared.settings.Settings.{Settings}
use Rattle.seq_object.specs.declared.command.Command.{Command}
use Rattle.store_order.specs.declared.choice.Kept.{Kept}
use Rattle.store_order.specs.declared.choice.Choice.{Choice}
use Rattle.store_order.specs.declared.choice.Choice.TheVariants as choices
use Rattle.script_text.specs.declared.mode.Mode.{Mode}
use Rattle.script_text.specs.declared.mode.Mode.TheVariants as modes
use Rattle.script_text.specs.declared.script.Script.{Script}

-- which thread has which turn: so many turns going round; so many drawn by a seed, which stands first; those of a list;
-- or threads that run by themselves for so many events
pub data Turns : Type 0 where
  round_robin : ℕ → Turns
  seeded : ℕ → ℕ → Turns
  listed : List ℕ → Turns
  live : ℕ → Turns

-- the turns that a mode stands for
abbrev pub turns_of : Mode → Turns
turns_of (modes.RoundRobin n) = round_robin n
turns_of (modes.Seeded seed n) = seeded seed n
turns_of (modes.Listed threads) = listed threads.items
turns_of (modes.Live n) = live n

-- what a cut keeps: nothing, all, numbers drawn by a seed, or what a list names
pub data Keeping : Type 0 where
  nothing : Keeping
  everything : Keeping
  by_seed : ℕ → Keeping
  these : List Kept → Keeping

-- what a cut keeps by a choice
abbrev pub keeping_of : Choice → Keeping
keeping_of choices.Nothing = nothing
keeping_of choices.All = everything
keeping_of (choices.Seed seed) = by_seed seed
keeping_of (choices.List items) = these items.items

-- what is to be run
pub record Program : Type 0 where
  pub settings : Settings
  pub turns : Turns
  pub keep : Keeping
  pub threads : List (List Command)

-- the program that a script stands for
abbrev pub program_of : Script → Program
program_of s = record {
  settings = s.settings;
  turns = turns_of s.mode;
  keep = keeping_of s.keep;
  threads = map (λ commands. commands.items) s.threads.items;
}

-- a script asks for at most so many turns, or events of running threads
abbrev pub most_turns : ℕ
most_turns = 10000000

-- a thread has at most so many commands
abbrev pub most_commands : ℕ
most_commands = 4096
