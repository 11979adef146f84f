-- Reading sections line by line.
use Rattle.std.proofs.Common.{◌≡◌, ℕ, suc, ◌+◌, ◌-◌, ◌<◌, ◌≤◌, true, false, List, [], ◌∷◌, ◌++◌, Result, Ok, Err, if◌then◌else◌, nat_lt, refl, sym, ap, ◌∙◌, arith}
use Rattle.std.proofs.lemmas.Bool.{le-ltb, lt-ltb}
use Rattle.script_text.specs.declared.fault.ScriptFault.{ScriptFault}
use Rattle.seq_object.specs.declared.command.Command.{Command}
use Rattle.script_text.specs.declared.fault.ScriptRefusal.{ScriptRefusal}
use Rattle.script_text.specs.declared.fault.ScriptRefusal.TheVariants as refusals
use Rattle.script_text.specs.Faults.{too_many, ◌>>=◌, fault, Fails}
use Rattle.script_text.specs.Reading.{Left, line_among, line_at}
use Rattle.script_text.specs.CommandWords.{command_at}
use Rattle.script_text.specs.Sections.{ends_section, commands_among, commands_at, section_at, sections_at}
use Rattle.script_text.specs.Program.{most_commands}
use Rattle.script_text.proofs.Fronts.{with_front_and_rest, front_and_rest_more}

-- what a line leads to, where this is left with it, and that behind it
abbrev pub from_line : ℕ → List ℕ → Left → Left → Result (List Command × Left) ScriptFault
from_line seen text left behind =
    if ends_section text then Ok ([], left) else
    (command_at left.line text >>= λ command.
    if nat_lt seen most_commands
    then (commands_at (seen + 1) behind >>= λ others. Ok (command ∷ others.0, others.1))
    else Err (fault left.line too_many))

-- a reading that did not fail
abbrev done : {A : Type 0} → A → Result A ScriptFault
done x = Ok x

-- two readings that did not fail and are the same gave the same
ok_is : {A : Type 0} (x y : A) → done x ≡ done y → x ≡ y
ok_is x y e = cc

-- a section goes on with the line that comes next
step_among : (seen : ℕ) (ps : List (List ℕ)) (n : ℕ) (text : List ℕ) (behind : Left) → line_among ps n ≡ Ok (text, behind) → commands_among seen ps n ≡ from_line seen text (record { pieces = ps; line = n }) behind
step_among seen [] n text behind e = absurd cc
step_among seen (p ∷ []) n text behind e = absurd cc
step_among seen (p ∷ q ∷ ps) n text behind e =
    let rest : Left = record { pieces = q ∷ ps; line = n + 1 } in
    let same = ok_is (p, rest) (text, behind) e in
    let front : p ≡ text = ap (λ (x : List ℕ × Left). x.0) same in
    let back : rest ≡ behind = ap (λ (x : List ℕ × Left). x.1) same in
    let left : Left = record { pieces = p ∷ q ∷ ps; line = n } in
    ap (λ (b : Left). from_line seen p left b) back ∙ ap (λ (t : List ℕ). from_line seen t left behind) front

-- one line
pub commands_step : (seen : ℕ) (left : Left) (text : List ℕ) (behind : Left) → line_at left ≡ Ok (text, behind) → commands_at seen left ≡ from_line seen text left behind
commands_step seen left text behind e = step_among seen left.pieces left.line text behind e

-- a command line within the limit
pub commands_more : (seen : ℕ) (left : Left) (text : List ℕ) (behind : Left) (command : Command) → line_at left ≡ Ok (text, behind) → ends_section text ≡ false → command_at left.line text ≡ Ok command → seen < 4096
    → commands_at seen left ≡ (commands_at (seen + 1) behind >>= λ others. Ok (command ∷ others.0, others.1))
commands_more seen left text behind command e go is lt =
    let small : nat_lt seen 4096 ≡ true = lt-ltb _ _ lt in
    commands_step seen left text behind e ∙ rw (go, is, small) refl

-- a command line past the limit
pub commands_too_many : (seen : ℕ) (left : Left) (text : List ℕ) (behind : Left) (command : Command) → line_at left ≡ Ok (text, behind) → ends_section text ≡ false → command_at left.line text ≡ Ok command → 4096 ≤ seen
    → commands_at seen left ≡ Err (fault left.line too_many)
commands_too_many seen left text behind command e go is ge =
    let large : nat_lt seen 4096 ≡ false = le-ltb _ _ ge in
    commands_step seen left text behind e ∙ rw (go, is, large) refl

-- one section
pub sections_step : (threads thread : ℕ) (left : Left) → thread < threads → sections_at (threads - thread) thread left
    ≡ (section_at thread left >>= λ first. sections_at (threads - (thread + 1)) (thread + 1) first.1 >>= λ others. Ok (first.0 ∷ others.0, others.1))
sections_step threads thread left lt =
    let more : threads - thread ≡ suc (threads - (thread + 1)) = omega arith in
    ap (λ (n : ℕ). sections_at n thread left) more

-- one section in front
pub sections_more : (threads thread : ℕ) (left behind : Left) (front : List (List Command)) (commands : List Command) → thread < threads → section_at thread left ≡ Ok (commands, behind)
    → with_front_and_rest front (sections_at (threads - thread) thread left) ≡ with_front_and_rest (front ++ commands ∷ []) (sections_at (threads - (thread + 1)) (thread + 1) behind)
sections_more threads thread left behind front commands lt is =
    let after = sections_at (threads - (thread + 1)) (thread + 1) behind in
    let next : (List Command × Left) → Result (List (List Command) × Left) ScriptFault = λ first. sections_at (threads - (thread + 1)) (thread + 1) first.1 >>= λ others. Ok (first.0 ∷ others.0, others.1) in
    ap (with_front_and_rest front) (sections_step threads thread left lt ∙ ap (λ (r : Result (List Command × Left) ScriptFault). r >>= next) is) ∙ front_and_rest_more front commands after

-- a section that fails
pub sections_fail : (e : ScriptRefusal) (threads thread : ℕ) (left : Left) (front : List (List Command)) (all : Result (List (List Command) × Left) ScriptFault) → thread < threads
    → with_front_and_rest front (sections_at (threads - thread) thread left) ≡ all → Fails e (section_at thread left) → Fails e all
sections_fail refusals.OutOfMemory threads thread left front all lt is h = tt
sections_fail (refusals.Fault f) threads thread left front all lt is h =
    let next : (List Command × Left) → Result (List (List Command) × Left) ScriptFault = λ first. sections_at (threads - (thread + 1)) (thread + 1) first.1 >>= λ others. Ok (first.0 ∷ others.0, others.1) in
    sym is ∙ ap (with_front_and_rest front) (sections_step threads thread left lt ∙ ap (λ (r : Result (List Command × Left) ScriptFault). r >>= next) h)
