-- The scripts of a drill: of its number, and of its lives, which are counted from 0.
use Rattle.std.specs.Prelude.{ℕ, ◌+◌, ◌*◌, ◌%◌, ◌^◌, ◌==◌, nat_lt, List, map, if◌then◌else◌}
use Rattle.seq_object.specs.declared.command.Command.{Command}
use Rattle.seq_object.specs.declared.command.Command.TheVariants.{Put, Get, Del, Enq, Deq}
use Rattle.seq_object.specs.declared.settings.Settings.{Settings}
use Rattle.seq_object.specs.History.{Scripts, counted_from}
use Rattle.store_order.specs.Choice.{word_drawn}
use Rattle.store_order.specs.declared.choice.Choice.{Choice}
use Rattle.store_order.specs.declared.choice.Choice.TheVariants.{Nothing, Seed}
use Rattle.script_text.specs.Program.{Turns, round_robin, seeded, keeping_of, Program}

-- 4 threads, 3 shards, rooms of 256 lines, and 8 commands of a thread in an epoch
abbrev pub drill_settings : Settings
drill_settings = record { threads = 4; shards = 3; lines = 256; every = 8 }

-- the command with this key and this value whose kind is this number below 8: three of them put, two get, and one each of the others
abbrev pub command_of : ℕ → ℕ → ℕ → Command
command_of kind key value =
    if nat_lt kind 3 then Put key value else
    if nat_lt kind 5 then Get key else
    if kind == 5 then Del key else
    if kind == 6 then Enq value else
    Deq

-- the place of a thread's command among the commands of all threads: each thread has 200, and those of the threads before it come first
abbrev pub drawn_place : ℕ → ℕ → ℕ
drawn_place thread index = 200 * thread + index

-- a thread's command: two words of the number are drawn for each command, the first for its kind and the second for its key
abbrev pub drill_command : ℕ → ℕ → ℕ → Command
drill_command n thread index =
    command_of (word_drawn n (2 * drawn_place thread index) % 8) (word_drawn n (2 * drawn_place thread index + 1) % 100) (4 * index + thread)

-- a thread's first so many commands
abbrev pub first_commands : ℕ → ℕ → ℕ → List Command
first_commands n thread count = map (drill_command n thread) (counted_from 0 count)

-- all 200 commands of a thread
unfoldable pub thread_commands : ℕ → ℕ → List Command
thread_commands n thread = first_commands n thread 200

-- the commands of the four threads, which are the same in all lives
abbrev pub drill_commands : ℕ → Scripts
drill_commands n = map (thread_commands n) (counted_from 0 4)

-- the seed of a life
abbrev pub life_seed : ℕ → ℕ → ℕ
life_seed n life = (n + life) % 2 ^ 64

-- the turns of a life: 3,000 drawn by its seed, but in life 8 a million that go round
abbrev pub drill_turns : ℕ → ℕ → Turns
drill_turns n life = if nat_lt life 8 then seeded (life_seed n life) 3000 else round_robin 1000000

-- what the cut at the end of a life keeps: what its seed draws, but behind life 8 nothing
abbrev pub drill_choice : ℕ → ℕ → Choice
drill_choice n life = if nat_lt life 8 then Seed (life_seed n life) else Nothing

-- what a life of a drill runs
abbrev pub drill_program : ℕ → ℕ → Program
drill_program n life = record {
  settings = drill_settings;
  turns = drill_turns n life;
  keep = keeping_of (drill_choice n life);
  threads = drill_commands n;
}
