-- What a call that reads a whole text returned.
use Rattle.std.proofs.Common.{ℕ, List, Result, Ok, Err, IfOk, subst}
use Rattle.script_text.specs.declared.fault.ScriptFault.{ScriptFault}
use Rattle.script_text.specs.declared.fault.ScriptRefusal.{ScriptRefusal}
use Rattle.script_text.specs.declared.script.Script.{Script}
use Rattle.script_text.specs.Faults.{Gives}
use Rattle.script_text.specs.Program.{Program, program_of}
use Rattle.script_text.specs.Whole.{program_in}
use Rattle.script_text.specs.Text.{IsScriptText}
use Rattle.script_text.proofs.WholeLaws.{program_found, program_only}

-- what was read is a program with a text, and the bytes are its text
pub found_of : (bytes : List ℕ) (r : Result Script ScriptRefusal) → Gives program_of r (program_in bytes) → IfOk r (λ script. IsScriptText bytes (program_of script))
found_of bytes (Ok script) e = let found = program_found bytes (program_of script) e in record { within = found.0; text = found.1 }
found_of bytes (Err e) h = tt

-- the text of a program was read as that program
pub only_of : (bytes : List ℕ) (r : Result Script ScriptRefusal) (p : Program) → IsScriptText bytes p → Gives program_of r (program_in bytes) → Gives program_of r (Ok p)
only_of bytes r p is h = subst (λ (read : Result Program ScriptFault). Gives program_of r read) (program_only bytes p is.within is.text) h
