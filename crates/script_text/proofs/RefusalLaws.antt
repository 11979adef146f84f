-- A text is built, or it is refused for one fault.
use Rattle.std.proofs.Common.{◌≡◌, inl, inr, ℕ, List, Result, Ok, Err, refl, sym, ◌∙◌, subst}
use Rattle.script_text.specs.declared.fault.ScriptFault.{ScriptFault}
use Rattle.script_text.specs.Faults.{not_built, fault}
use Rattle.script_text.specs.Program.{Program}
use Rattle.script_text.specs.Schedules.{AreScheduled}
use Rattle.script_text.specs.Text.{IsScriptText}
use Rattle.script_text.specs.Whole.{program_in}
use Rattle.script_text.specs.Built.{IsNotBuilt, IsRefusedFor, RefusalLaw}
use Rattle.script_text.proofs.NumberLaws.{ok_is}
use Rattle.script_text.proofs.WholeLaws.{program_found, program_only}

-- the text of a program has no fault
faultless : (bytes : List ℕ) (p : Program) (f : ScriptFault) → IsScriptText bytes p → program_in bytes ≡ Err f → ⊥
faultless bytes p f is wrong = let right : program_in bytes ≡ Ok p = program_only bytes p is.within is.text in absurd cc

-- bytes are the text of one program
same_program : (bytes : List ℕ) (p q : Program) → IsScriptText bytes p → IsScriptText bytes q → p ≡ q
same_program bytes p q is also = ok_is p q (sym (program_only bytes p is.within is.text) ∙ program_only bytes q also.within also.text)

-- a built text is refused for no fault
none_of : (bytes : List ℕ) (f : ScriptFault) → IsRefusedFor bytes f → IsNotBuilt bytes
none_of bytes f (inl wrong) p is = faultless bytes p f is.text wrong
none_of bytes f (inr (is_none, (q, lives))) p is = lives.live (subst (λ (r : Program). AreScheduled r.turns) (same_program bytes p q is.text lives.text) is.scheduled)

-- a text is refused for one fault
one_of : (bytes : List ℕ) (f g : ScriptFault) → IsRefusedFor bytes f → IsRefusedFor bytes g → f ≡ g
one_of bytes f g (inl wrong) (inl other) = cc
one_of bytes f g (inl wrong) (inr (is_none, (q, lives))) = absurd (faultless bytes q f lives.text wrong)
one_of bytes f g (inr (is_none, (q, lives))) (inl wrong) = absurd (faultless bytes q g lives.text wrong)
one_of bytes f g (inr (is_none, lives)) (inr (also, others)) = is_none ∙ sym also

-- what reading gives of a text that is not built
has_among : (bytes : List ℕ) (read : Result Program ScriptFault) → program_in bytes ≡ read → IsNotBuilt bytes → (f : ScriptFault) × IsRefusedFor bytes f
has_among bytes (Err f) e other = (f, inl e)
has_among bytes (Ok p) e other =
    let found = program_found bytes p e in
    let is : IsScriptText bytes p = record { within = found.0; text = found.1 } in
    (fault 0 not_built, inr (refl, (p, record { text = is; live = λ scheduled. other p (record { text = is; scheduled = scheduled }) })))

-- a text is built, or it is refused for one fault
pub one_refusal : RefusalLaw
one_refusal = record { has = λ bytes other. has_among bytes (program_in bytes) refl other; one = one_of; none = none_of }
