-- The scripts of a drill have texts, and their turns are those of a schedule.
use Rattle.std.proofs.Common.{◌≡◌, ℕ, zero, suc, ◌+◌, ◌*◌, ◌%◌, ◌^◌, ◌<◌, ◌≤◌, Bool, true, false, map, length, ap, arith, rules, refl, nat_lt, ◌==◌, if◌then◌else◌}
use Rattle.std.specs.List.{AllByRecursion}
use Rattle.std.specs.Global.{Vec}
use Rattle.seq_object.specs.declared.command.Command.{Command}
use Rattle.seq_object.specs.declared.settings.Settings.{Settings}
use Rattle.seq_object.specs.declared.command.Command.TheVariants.{Put, Get, Del, Enq, Deq}
use Rattle.seq_object.specs.Sizes.{sizes_of, line_total}
use Rattle.seq_object.specs.History.{counted_from}
use Rattle.store_order.specs.Choice.{word_drawn}
use Rattle.store_order.specs.declared.choice.Choice.{Choice}
use Rattle.store_order.specs.declared.choice.Choice.TheVariants.{Nothing, Seed}
use Rattle.script_text.specs.Program.{round_robin, seeded, turns_of, keeping_of, program_of}
use Rattle.script_text.specs.declared.mode.Mode.{Mode}
use Rattle.script_text.specs.Text.{IsCommand, IsSection, IsKeeping, AreTurns, HasText}
use Rattle.drill.specs.Scripts.{drill_settings, command_of, drawn_place, drill_command, first_commands, thread_commands, drill_commands, life_seed, drill_turns, drill_choice, drill_program}

-- a command of a kind is one, where its key and its value have 64 bits
is_command : (kind key value : ℕ) → key < 2 ^ 64 → value < 2 ^ 64 → IsCommand (command_of kind key value)
is_command kind key value hk hv =
    elim (nat_lt kind 3) as (λ (b : Bool). IsCommand (if b then Put key value else if nat_lt kind 5 then Get key else if kind == 5 then Del key else if kind == 6 then Enq value else Deq)) [
      | true ↦ (hk, hv)
      | false ↦
          elim (nat_lt kind 5) as (λ (b : Bool). IsCommand (if b then Get key else if kind == 5 then Del key else if kind == 6 then Enq value else Deq)) [
            | true ↦ hk
            | false ↦
                elim (kind == 5) as (λ (b : Bool). IsCommand (if b then Del key else if kind == 6 then Enq value else Deq)) [
                  | true ↦ hk
                  | false ↦ elim (kind == 6) as (λ (b : Bool). IsCommand (if b then Enq value else Deq)) [ true ↦ hv | false ↦ tt ]
                ]
          ]
    ]

-- a thread's command is one
drawn_is_command : (n thread index : ℕ) → thread < 4 → index < 200 → IsCommand (drill_command n thread index)
drawn_is_command n thread index ht hi =
    let a = word_drawn n (2 * drawn_place thread index) in
    let b = word_drawn n (2 * drawn_place thread index + 1) in
    let few : b % 100 < 2 ^ 64 = omega arith in
    let small : 4 * index + thread < 2 ^ 64 = omega arith in
    is_command (a % 8) (b % 100) (4 * index + thread) few small

-- and so are these of a thread
are_commands : (n thread first count : ℕ) → thread < 4 → first + count ≤ 200 → AllByRecursion IsCommand (map (drill_command n thread) (counted_from first count))
are_commands n thread first zero ht le = tt
are_commands n thread first (suc count) ht le = (drawn_is_command n thread first ht (omega arith), are_commands n thread (suc first) count ht (omega arith))

-- so many numbers have as many values
length-map_counted : {A : Type 0} (f : ℕ → A) (first n : ℕ) → length (map f (counted_from first n)) ≡ n
length-map_counted f first zero = refl
length-map_counted f first (suc n) = ap suc (length-map_counted f (suc first) n)

-- a thread has 200 commands
pub length-thread_commands : (n thread : ℕ) → length (thread_commands n thread) ≡ 200
unfolding thread_commands
length-thread_commands n thread = length-map_counted (drill_command n thread) 0 200

-- a thread's first commands are within the limits of a section
first_section : (n thread count : ℕ) → thread < 4 → count ≤ 200 → IsSection (first_commands n thread count)
first_section n thread count ht le =
    let many : length (first_commands n thread count) ≡ count = length-map_counted (drill_command n thread) 0 count in
    (omega arith, are_commands n thread 0 count ht (omega arith))

-- and all of them are
section : (n thread : ℕ) → thread < 4 → IsSection (thread_commands n thread)
unfolding thread_commands
section n thread ht = first_section n thread 200 ht (omega arith)

-- the turns of a life are within their limits
turns_fit : (n life : ℕ) → AreTurns 4 (drill_turns n life)
turns_fit n life =
    let small : life_seed n life < 2 ^ 64 = omega arith in
    elim (nat_lt life 8) as (λ (b : Bool). AreTurns 4 (if b then seeded (life_seed n life) 3000 else round_robin 1000000)) [ true ↦ (small, omega arith) | false ↦ omega arith ]

-- what a cut keeps is within its limits
keeping_fits : (all n life : ℕ) → IsKeeping all (keeping_of (drill_choice n life))
keeping_fits all n life =
    let small : life_seed n life < 2 ^ 64 = omega arith in
    elim (nat_lt life 8) as (λ (b : Bool). IsKeeping all (keeping_of (if b then Seed (life_seed n life) else Nothing))) [ true ↦ small | false ↦ tt ]

-- what a life runs has a text
pub drill_has_text : (n life : ℕ) → HasText (drill_program n life)
drill_has_text n life = record {
  settings = search rules;
  turns = turns_fit n life;
  keep = keeping_fits (line_total (sizes_of drill_settings)) n life;
  threads = refl;
  sections = (section n 0 (omega arith), (section n 1 (omega arith), (section n 2 (omega arith), (section n 3 (omega arith), tt))));
}

-- the program of a script that is made of its parts
pub drill_is : (n life : ℕ) (settings : Settings) (mode : Mode) (keep : Choice) (threads : Vec (Vec Command)) → settings ≡ drill_settings → turns_of mode ≡ drill_turns n life
    → keep ≡ drill_choice n life → map (λ commands. commands.items) threads.items ≡ drill_commands n
    → program_of (record { settings = settings; mode = mode; keep = keep; threads = threads }) ≡ drill_program n life
drill_is n life settings mode keep threads is_settings is_turns is_keep is_threads =
    let kept : keeping_of keep ≡ keeping_of (drill_choice n life) = ap keeping_of is_keep in
    λ m. record { settings = is_settings m; turns = is_turns m; keep = kept m; threads = is_threads m }
