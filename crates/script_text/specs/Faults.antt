-- Kinds of faults, and steps of reading, of which the first that fails gives the fault.
use Rattle.std.specs.Prelude.{◌≡◌, ℕ, List, [], ◌∷◌, codes, slice_index_or, Result, Ok, Err}
use Rattle.script_text.specs.declared.fault.ScriptFault.{ScriptFault}
use Rattle.script_text.specs.declared.fault.ScriptRefusal.{ScriptRefusal}
use Rattle.script_text.specs.declared.fault.ScriptRefusal.TheVariants as refusals

-- the text is that of a script which is not carried out yet
abbrev pub not_built : ℕ
not_built = 0

-- line 1 is not the head
abbrev pub bad_head : ℕ
bad_head = 1

-- a line of the settings is not two words, or the first is not the word of that line
abbrev pub bad_setting : ℕ
bad_setting = 2

-- a word or piece that stands for a number is none
abbrev pub no_number : ℕ
no_number = 3

-- a number is outside its limits
abbrev pub out_of_range : ℕ
out_of_range = 4

-- the first words and the number of words of the turns' line fit none of its forms
abbrev pub bad_turns : ℕ
bad_turns = 5

-- the line of what a cut keeps fits none of its forms, or an item of its list is not two pieces with one colon between
abbrev pub bad_keep : ℕ
bad_keep = 6

-- a section's first line, or the line at which a section ends, is not the one that has to come there
abbrev pub bad_thread : ℕ
bad_thread = 7

-- the first word and the number of words of a line of a section fit no command
abbrev pub no_command : ℕ
no_command = 8

-- a right command is one more than a thread may have
abbrev pub too_many : ℕ
too_many = 9

-- the next line is wanted, and no further line feed follows
abbrev pub no_end : ℕ
no_end = 10

-- a byte follows the line feed of the last line
abbrev pub text_after : ℕ
text_after = 11

-- the names of the kinds, from kind 0 on
abbrev pub kind_names : List (List ℕ)
kind_names =
    codes "not built" ∷ codes "head" ∷ codes "setting" ∷ codes "number" ∷ codes "range" ∷ codes "turns" ∷
    codes "keep" ∷ codes "thread" ∷ codes "command" ∷ codes "too many" ∷ codes "no end" ∷ codes "after" ∷ []

-- the name of a kind, as it stands on standard error
abbrev pub kind_text : ℕ → List ℕ
kind_text kind = slice_index_or kind_names kind (codes "unknown")

infixl 10 ◌>>=◌
-- the next step, where this one did not fail
abbrev pub ◌>>=◌ : {A B : Type 0} → Result A ScriptFault → (A → Result B ScriptFault) → Result B ScriptFault
(Ok x) >>= f = f x
(Err e) >>= f = Err e

-- a fault of a line
abbrev pub fault : ℕ → ℕ → ScriptFault
fault line kind = record { line = line; kind = kind }

-- a refusal is the fault that reading gives, unless memory ran out
abbrev pub Fails : {Y : Type 0} → ScriptRefusal → Result Y ScriptFault → Type 0
Fails refusals.OutOfMemory read = Unit {0}
Fails (refusals.Fault f) read = read ≡ Err f

-- what a call that takes memory returned, seen by view, is what reading gives, unless memory ran out
abbrev pub Gives : {X Y : Type 0} → (X → Y) → Result X ScriptRefusal → Result Y ScriptFault → Type 0
Gives view (Ok x) read = read ≡ Ok (view x)
Gives view (Err e) read = Fails e read

-- what a call that takes no memory returned, seen by view, is what reading gives
abbrev pub Reads : {X Y : Type 0} → (X → Y) → Result X ScriptFault → Result Y ScriptFault → Type 0
Reads view (Ok x) read = read ≡ Ok (view x)
Reads view (Err e) read = read ≡ Err e
