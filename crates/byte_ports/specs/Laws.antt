-- Laws of the words of this crate, in the words of those who call.
use Rattle.std.specs.Prelude.{◌≡◌, ◌↔◌, ℕ, false, IsTrue, Option, Some, List, [], ◌++◌, Contains}
use Rattle.byte_ports.specs.Causes.{Rose}
use Rattle.byte_ports.specs.Bytes.{TookSoFar, Appended}
use Rattle.byte_ports.specs.Images.{Named, HeldUnder, SetsName, OthersSame}
use Rattle.byte_ports.specs.InMemory.{FailState, next_call, is_next_failing, after_call}

-- what was appended in two steps was appended in one
abbrev pub AppendsJoinLaw : Type 0
AppendsJoinLaw = (old mid new : Option (List ℕ)) (first second : List ℕ) → Appended old mid first → Appended mid new second → Appended old new (first ++ second)

-- what was taken in two steps was taken in one
abbrev pub TakesJoinLaw : Type 0
TakesJoinLaw = (old mid new : Option (List ℕ)) (first second : List ℕ) → TookSoFar old mid first → TookSoFar mid new second → TookSoFar old new (first ++ second)

-- a name that was set has the bytes that it was set to, and every other name has what it had
abbrev pub SettingANameLaw : Type 0
SettingANameLaw = (old : Named) (new : Option Named) (name bytes : List ℕ) → SetsName (Some old) new name bytes → HeldUnder new name bytes × OthersSame (Some old) new name

-- a count that is 0 and stays 0 did not rise
abbrev pub ZeroNeverRisesLaw : Type 0
ZeroNeverRisesLaw = Rose 0 0 → ⊥

-- a call fails exactly where its number stands on the list
abbrev pub ListedCallsFailLaw : Type 0
ListedCallsFailLaw = (f : FailState) → IsTrue (is_next_failing f) ↔ Contains f.fails (next_call f)

-- with an empty list no call fails, and the count of faults stays
abbrev pub EmptyListNeverFailsLaw : Type 0
EmptyListNeverFailsLaw = (f : FailState) → f.fails ≡ [] → (is_next_failing f ≡ false) × ((after_call f).faults ≡ f.faults) × ((after_call f).fails ≡ [])
