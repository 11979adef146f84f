-- The one text of a program, and the programs that have one.
use Rattle.std.specs.Prelude.{ℕ, ◌+◌, ◌<◌, ◌≤◌, ◌^◌, ◌≡◌, List, [], ◌∷◌, ◌++◌, codes, map, length}
use Rattle.std.specs.List.{flat_map, AllByRecursion}
use Rattle.std.specs.Fmt.{decimal}
use Rattle.seq_object.specs.Sizes.{sizes_of, IsValid, line_total}
use Rattle.seq_object.specs.declared.settings.Settings.{Settings}
use Rattle.seq_object.specs.declared.command.Command.{Command}
use Rattle.seq_object.specs.declared.command.Command.TheVariants.{Put, Get, Del, Enq, Deq, Take}
use Rattle.store_order.specs.declared.choice.Kept.{Kept}
use Rattle.script_text.specs.Program.{Turns, round_robin, seeded, listed, live, Keeping, nothing, everything, by_seed, these, Program, most_turns, most_commands}
use Rattle.script_text.specs.Pieces.{joined}

-- words with a space between each two
abbrev pub spaced : List (List ℕ) → List ℕ
spaced ws = joined 32 ws

-- lines, each with its line feed
abbrev pub ended : List (List ℕ) → List ℕ
ended lines = flat_map (λ line. line ++ 10 ∷ []) lines

-- the words of a setting
abbrev pub setting_words : List ℕ → ℕ → List (List ℕ)
setting_words name n = name ∷ decimal n ∷ []

-- the lines of the settings
abbrev pub settings_lines : Settings → List (List ℕ)
settings_lines s =
    spaced (setting_words (codes "threads") s.threads) ∷
    spaced (setting_words (codes "shards") s.shards) ∷
    spaced (setting_words (codes "lines") s.lines) ∷
    spaced (setting_words (codes "every") s.every) ∷ []

-- the words of the turns
abbrev pub turns_words : Turns → List (List ℕ)
turns_words (round_robin n) = codes "turns" ∷ codes "rr" ∷ decimal n ∷ []
turns_words (seeded seed n) = codes "turns" ∷ codes "seed" ∷ decimal seed ∷ decimal n ∷ []
turns_words (listed threads) = codes "turns" ∷ codes "list" ∷ map decimal threads
turns_words (live n) = codes "live" ∷ decimal n ∷ []

-- an item of a keep list: a line and a number with a colon between
abbrev pub item_text : Kept → List ℕ
item_text item = joined 58 (decimal item.line ∷ decimal item.count ∷ [])

-- the words of what a cut keeps
abbrev pub keep_words : Keeping → List (List ℕ)
keep_words nothing = codes "keep" ∷ codes "none" ∷ []
keep_words everything = codes "keep" ∷ codes "all" ∷ []
keep_words (by_seed seed) = codes "keep" ∷ codes "seed" ∷ decimal seed ∷ []
keep_words (these items) = codes "keep" ∷ codes "list" ∷ map item_text items

-- the words of a command
abbrev pub command_words : Command → List (List ℕ)
command_words (Put key value) = codes "put" ∷ decimal key ∷ decimal value ∷ []
command_words (Get key) = codes "get" ∷ decimal key ∷ []
command_words (Del key) = codes "del" ∷ decimal key ∷ []
command_words (Enq value) = codes "enq" ∷ decimal value ∷ []
command_words Deq = codes "deq" ∷ []
command_words Take = codes "take" ∷ []

-- the line of a command
abbrev pub command_line : Command → List ℕ
command_line command = spaced (command_words command)

-- the first line of a thread's section
abbrev pub section_line : ℕ → List ℕ
section_line thread = codes "thread " ++ decimal thread

-- the lines of a thread's section
abbrev pub section_lines : ℕ → List Command → List (List ℕ)
section_lines thread commands = section_line thread ∷ map command_line commands

-- the lines of the sections, from this thread on
abbrev pub sections_lines : ℕ → List (List Command) → List (List ℕ)
sections_lines thread [] = []
sections_lines thread (commands ∷ others) =
    section_line thread ∷ (map command_line commands ++ sections_lines (thread + 1) others)

-- the lines of a program
abbrev pub program_lines : Program → List (List ℕ)
program_lines p =
    codes "respct 1" ∷
    (settings_lines p.settings ++
    (spaced (turns_words p.turns) ∷
    spaced (keep_words p.keep) ∷
    (sections_lines 0 p.threads ++ codes "end" ∷ [])))

-- the text of a program: its lines, and nothing after the last line feed
abbrev pub text_of : Program → List ℕ
text_of p = ended (program_lines p)

-- turns within their limits, for so many threads
abbrev pub AreTurns : ℕ → Turns → Type 0
AreTurns threads (round_robin n) = n ≤ most_turns
AreTurns threads (seeded seed n) = (seed < 2 ^ 64) × (n ≤ most_turns)
AreTurns threads (listed ts) = AllByRecursion (λ t. t < threads) ts × (length ts ≤ most_turns)
AreTurns threads (live n) = n ≤ most_turns

-- items of a keep list: of the lines from low on and below all, which ascend strictly
abbrev pub AreItems : ℕ → ℕ → List Kept → Type 0
AreItems all low [] = Unit {0}
AreItems all low (item ∷ items) =
    (low ≤ item.line) × (item.line < all) × (item.count < 2 ^ 32) × AreItems all (item.line + 1) items

-- what a cut keeps is within its limits, where there are so many lines in all
abbrev pub IsKeeping : ℕ → Keeping → Type 0
IsKeeping all nothing = Unit {0}
IsKeeping all everything = Unit {0}
IsKeeping all (by_seed seed) = seed < 2 ^ 64
IsKeeping all (these items) = AreItems all 0 items

-- keys and values are numbers of 64 bits
abbrev pub IsCommand : Command → Type 0
IsCommand (Put key value) = (key < 2 ^ 64) × (value < 2 ^ 64)
IsCommand (Get key) = key < 2 ^ 64
IsCommand (Del key) = key < 2 ^ 64
IsCommand (Enq value) = value < 2 ^ 64
IsCommand Deq = Unit {0}
IsCommand Take = Unit {0}

-- the commands of one thread are within their limits
abbrev pub IsSection : List Command → Type 0
IsSection commands = (length commands ≤ most_commands) × AllByRecursion IsCommand commands

-- the programs that have a text: everything is within its limits, and each thread has its section
pub record HasText (p : Program) : Type 0 where
  pub settings : IsValid p.settings
  pub turns : AreTurns p.settings.threads p.turns
  pub keep : IsKeeping (line_total (sizes_of p.settings)) p.keep
  pub threads : length p.threads ≡ p.settings.threads
  pub sections : AllByRecursion IsSection p.threads

-- the bytes are the text of this program
pub record IsScriptText (bytes : List ℕ) (p : Program) : Type 0 where
  pub within : HasText p
  pub text : bytes ≡ text_of p
