-- The scripts that are carried out so far, which are those of a schedule, and why a text is refused. A script whose threads run by
-- themselves has a text too; this module alone says that it is not carried out yet.
use Rattle.std.specs.Prelude.{◌≡◌, ◌⊎◌, ℕ, List, Err}
use Rattle.script_text.specs.declared.fault.ScriptFault.{ScriptFault}
use Rattle.script_text.specs.declared.fault.ScriptRefusal.{ScriptRefusal}
use Rattle.script_text.specs.declared.fault.ScriptRefusal.TheVariants as refusals
use Rattle.script_text.specs.Program.{Program}
use Rattle.script_text.specs.Text.{IsScriptText}
use Rattle.script_text.specs.Schedules.{AreScheduled}
use Rattle.script_text.specs.Faults.{not_built, fault}
use Rattle.script_text.specs.Whole.{program_in}

-- the bytes are the text of this program, whose turns are those of a schedule
pub record IsBuiltText (bytes : List ℕ) (p : Program) : Type 0 where
  pub text : IsScriptText bytes p
  pub scheduled : AreScheduled p.turns

-- the bytes are the text of no such program
abbrev pub IsNotBuilt : List ℕ → Type 0
IsNotBuilt bytes = (p : Program) → IsBuiltText bytes p → ⊥

-- the bytes are the text of this program, whose threads run by themselves
pub record IsLiveText (bytes : List ℕ) (p : Program) : Type 0 where
  pub text : IsScriptText bytes p
  pub live : AreScheduled p.turns → ⊥

-- why a text is refused: this is the first fault of bytes that are no script's text, or it says that the script is not carried out
-- yet, as its threads run by themselves
abbrev pub IsRefusedFor : List ℕ → ScriptFault → Type 0
IsRefusedFor bytes f = (program_in bytes ≡ Err f) ⊎ (f ≡ fault 0 not_built) × ((p : Program) × IsLiveText bytes p)

-- a refusal tells why the text is refused, or that memory ran out
abbrev pub IsCauseOf : List ℕ → ScriptRefusal → Type 0
IsCauseOf bytes refusals.OutOfMemory = Unit {0}
IsCauseOf bytes (refusals.Fault f) = IsRefusedFor bytes f

-- a text is built, or it is refused for one fault
pub record RefusalLaw : Type 0 where
  pub has : (bytes : List ℕ) → IsNotBuilt bytes → (f : ScriptFault) × IsRefusedFor bytes f
  pub one : (bytes : List ℕ) (f g : ScriptFault) → IsRefusedFor bytes f → IsRefusedFor bytes g → f ≡ g
  pub none : (bytes : List ℕ) (f : ScriptFault) → IsRefusedFor bytes f → IsNotBuilt bytes
