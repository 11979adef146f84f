-- The entries of a life are commands of its scripts: their threads, places and values are within the limits of these.
use Rattle.std.proofs.Common.{◌≡◌, ℕ, ◌<◌, ◌==◌, zero, suc, Bool, true, false, cond, List, [], ◌∷◌, length, Some, refl, sym, subst, arith, eq-eqb, All}
use Rattle.std.specs.Prelude.{slice_get}
use Rattle.std.specs.List.{AllByRecursion}
use Rattle.std.proofs.lemmas.List.Elements.{All-nil, All-cons}
use Rattle.seq_object.specs.declared.command.Command.{Command}
use Rattle.seq_object.specs.declared.history.Entry.{Entry}
use Rattle.seq_object.specs.History.{of_thread, AreCommands}
use Rattle.life_model.specs.Life.{script_of}
use Rattle.script_text.specs.Text.{IsSection}

-- each thread's entries are commands of its script, from some place on
abbrev AreOfScripts : List (List Command) → List Entry → Type 0
AreOfScripts scripts h = (thread : ℕ) → (place : ℕ) × AreCommands (script_of scripts thread) place (of_thread thread h)

-- the same without the first entry, which is or is not of this thread
without : (script : List Command) (e : Entry) (rest : List Entry) (own : Bool) → (place : ℕ) × AreCommands script place (cond own (e ∷ rest) rest) → (place : ℕ) × AreCommands script place rest
without script e rest true are = (suc are.0, are.1.2)
without script e rest false are = are

-- an entry is of a thread of these scripts, at a place of that thread's script and with the command that stands there
pub record IsOfScripts (scripts : List (List Command)) (e : Entry) : Type 0 where
  pub command : slice_get (script_of scripts e.thread) e.index ≡ Some e.command

-- the first entry is one of its thread
first : (scripts : List (List Command)) (e : Entry) (rest : List Entry) → (place : ℕ) × AreCommands (script_of scripts e.thread) place (cond (e.thread == e.thread) (e ∷ rest) rest) → IsOfScripts scripts e
first scripts e rest are =
    let own : AreCommands (script_of scripts e.thread) are.0 (e ∷ rest) =
    subst (λ (b : Bool). AreCommands (script_of scripts e.thread) are.0 (cond b (e ∷ rest) rest)) (eq-eqb e.thread e.thread refl) are.1 in
    record { command = subst (λ (place : ℕ). slice_get (script_of scripts e.thread) place ≡ Some e.command) (sym own.0) own.1 }

-- each entry is one of its thread
pub of_scripts : (scripts : List (List Command)) (h : List Entry) → AreOfScripts scripts h → All (IsOfScripts scripts) h
of_scripts scripts [] are = All-nil (IsOfScripts scripts)
of_scripts scripts (e ∷ es) are =
    All-cons (IsOfScripts scripts) e es (first scripts e (of_thread e.thread es) (are e.thread))
    (of_scripts scripts es (λ thread. without (script_of scripts thread) e (of_thread thread es) (e.thread == thread) (are thread)))

-- a script in which there is something is of a thread that there is
pub thread_below : (scripts : List (List Command)) (thread place : ℕ) (command : Command) → slice_get (script_of scripts thread) place ≡ Some command → thread < length scripts
thread_below [] thread place command is = absurd (cc is)
thread_below (script ∷ scripts) zero place command is = omega arith
thread_below (script ∷ scripts) (suc thread) place command is = let below = thread_below scripts thread place command is in omega (arith, below)

-- a place at which there is something
pub place_below : (script : List Command) (place : ℕ) (command : Command) → slice_get script place ≡ Some command → place < length script
place_below [] place command is = absurd (cc is)
place_below (c ∷ cs) zero command is = omega arith
place_below (c ∷ cs) (suc place) command is = let below = place_below cs place command is in omega (arith, below)

-- what is there has the property that all have
pub has : (P : Command → Type 0) (script : List Command) (place : ℕ) (command : Command) → AllByRecursion P script → slice_get script place ≡ Some command → P command
has P [] place command all is = absurd (cc is)
has P (c ∷ cs) zero command all is = subst P (cc is) all.0
has P (c ∷ cs) (suc place) command all is = has P cs place command all.1 is

-- a script of these, and none where there is no such thread
pub section : (scripts : List (List Command)) (thread : ℕ) → AllByRecursion IsSection scripts → IsSection (script_of scripts thread)
section [] thread all = (omega arith, tt)
section (script ∷ scripts) zero all = all.0
section (script ∷ scripts) (suc thread) all = section scripts thread all.1
