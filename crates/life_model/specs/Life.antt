-- A life: how it begins, and when a history with its marks is a legal one for it.
use Rattle.std.specs.Prelude.{◌≡◌, ◌≢◌, ℕ, suc, ◌+◌, ◌-◌, ◌<◌, ◌≤◌, ◌⊎◌, List, [], ◌∷◌, length, map, take, drop, Option, Some, None, slice_get, slice_index_or}
use Rattle.seq_object.specs.declared.settings.Settings.{Settings}
use Rattle.seq_object.specs.declared.command.Command.{Command}
use Rattle.seq_object.specs.declared.command.Command.TheVariants.{Put, Get, Del, Enq, Deq, Take}
use Rattle.seq_object.specs.declared.history.Entry.{Entry}
use Rattle.seq_object.specs.Sizes.{sizes_of}
use Rattle.seq_object.specs.History.{State, of_thread, IsLegal, first_state, AreCommands, contents_at, point_at, point_behind, Scripts}
use Rattle.life_model.specs.declared.life.Life.{Life}
use Rattle.life_model.specs.declared.life.Mark.{Mark}
use Rattle.life_model.specs.declared.life.Life.TheVariants.{Start, Resume}
use Rattle.seq_object.specs.Object.{Contents}
use Rattle.seq_object.specs.declared.history.RestartPoint.{RestartPoint}
use Rattle.seq_object.specs.declared.sizes.Sizes.{Sizes}

-- how a life begins: its script's settings and each thread's commands, whether it resumes, and the memory's epoch and state
pub record Opening : Type 0 where
  pub settings : Settings
  pub scripts : Scripts
  pub life : Life
  pub epoch : ℕ
  pub state : State

-- how a start of a script begins: in the first state, and in epoch 1
abbrev pub start_of : Settings → Scripts → Opening
start_of settings scripts = record { settings = settings; scripts = scripts; life = Start; epoch = 1; state = first_state (sizes_of settings) }

-- the sizes of a life's settings
abbrev pub sizes : Opening → Sizes
sizes o = sizes_of o.settings

-- a thread's commands, and none where there is no such thread
abbrev pub script_of : Scripts → ℕ → List Command
script_of scripts thread = slice_index_or scripts thread []

-- a thread's restart point behind these entries of its own
abbrev pub point_now : Opening → ℕ → List Entry → RestartPoint
point_now o thread own = point_behind (point_at o.state.points thread) own

-- a thread's next command behind these entries of its own, and none where its script is used
abbrev pub next_at : Opening → ℕ → List Entry → Option Command
next_at o thread own = slice_get (script_of o.scripts thread) (point_now o thread own).position

-- the place in a thread's script from which this life goes on
abbrev pub opening_place : Opening → ℕ → ℕ
opening_place o thread = (point_at o.state.points thread).position

-- a thread's restart point after a history
abbrev pub point_after : Opening → List Entry → ℕ → RestartPoint
point_after o h thread = point_now o thread (of_thread thread h)

-- its place in the thread's script
abbrev pub place_after : Opening → List Entry → ℕ → ℕ
place_after o h thread = (point_after o h thread).position

-- a thread's next command after a history
abbrev pub next_command : Opening → List Entry → ℕ → Option Command
next_command o h thread = next_at o thread (of_thread thread h)

-- what the object holds after the life's history
abbrev pub contents_now : Opening → List Entry → Contents
contents_now o h = contents_at (sizes o) o.state.contents h

-- a mark is how many entries were drawn when an epoch write was acknowledged; the last mark, and low where there is none
abbrev pub last_mark : ℕ → List ℕ → ℕ
last_mark low [] = low
last_mark low (m ∷ ms) = last_mark m ms

-- how many entries the last acknowledged epoch write covered
abbrev pub covered : List ℕ → ℕ
covered marks = last_mark 0 marks

-- how many entries each mark covers
abbrev pub lengths : List Mark → List ℕ
lengths marks = map (λ m. m.length) marks

-- these marks, the first of them of this epoch and each later one of the next
abbrev pub marks_from : ℕ → List ℕ → List Mark
marks_from epoch [] = []
marks_from epoch (n ∷ ns) = record { epoch = epoch; length = n } ∷ marks_from (suc epoch) ns

-- the marks of a life with their epochs: the k-th, counted from 1, has the epoch of the beginning and k
abbrev pub reported : Opening → List ℕ → List Mark
reported o marks = marks_from (o.epoch + 1) marks

-- from low on these marks never fall, and they end at most at high
abbrev pub AreRising : ℕ → List ℕ → ℕ → Type 0
AreRising low [] high = low ≤ high
AreRising low (m ∷ ms) high = (low ≤ m) × AreRising m ms high

-- a script is used, or its next command is a take: its thread may stand with quota left
abbrev pub IsPause : Option Command → Type 0
IsPause None = Unit {0}
IsPause (Some (Put key value)) = ⊥
IsPause (Some (Get key)) = ⊥
IsPause (Some (Del key)) = ⊥
IsPause (Some (Enq value)) = ⊥
IsPause (Some Deq) = ⊥
IsPause (Some Take) = Unit {0}

-- a thread's entries of a history between two lengths
abbrev pub entries_between : List Entry → ℕ → ℕ → ℕ → ℕ
entries_between h low high thread = length (of_thread thread (drop low (take high h)))

-- between two marks a thread has no entry, or its whole quota, or fewer where it pauses after them
abbrev pub IsStretch : Opening → List Entry → ℕ → ℕ → ℕ → Type 0
IsStretch o h low high thread = (entries_between h low high thread ≡ 0) ⊎ ((entries_between h low high thread ≡ o.settings.every)
    ⊎ ((entries_between h low high thread < o.settings.every) × IsPause (next_command o (take high h) thread)))

-- so it is between low and the first of these marks, and between any two that follow one another
abbrev pub AreStretches : Opening → List Entry → ℕ → List ℕ → Type 0
AreStretches o h low [] = Unit {0}
AreStretches o h low (m ∷ ms) = ((thread : ℕ) → IsStretch o h low m thread) × AreStretches o h m ms

-- by the kind of life
abbrev BeginsAs : Life → Opening → List Entry → List ℕ → Type 0
BeginsAs Start o h marks = (o.state ≡ first_state (sizes o)) × (o.epoch ≡ 1)
BeginsAs Resume o h [] = h ≡ []
BeginsAs Resume o h (m ∷ ms) = m ≡ 0

-- a start begins in the first state and epoch; in a resume nothing is drawn before recovery's mark, which is 0
abbrev pub BeginsRightly : Opening → List Entry → List ℕ → Type 0
BeginsRightly o = BeginsAs o.life o

-- the entries and marks of a life are in order: each thread has a script and a restart point, its entries are its commands from its place
-- on, the marks never fall, each mark ends a stretch, and since the last mark no thread has more than its quota
pub record IsInOrder (o : Opening) (h : List Entry) (marks : List ℕ) : Type 0 where
  pub threads : length o.scripts ≡ o.settings.threads
  pub points : length o.state.points ≡ o.settings.threads
  pub commands : (thread : ℕ)
      → AreCommands (script_of o.scripts thread) (opening_place o thread) (of_thread thread h)
  pub rising : AreRising 0 marks (length h)
  pub begun : BeginsRightly o h marks
  pub stretches : AreStretches o h 0 marks
  pub rest : (thread : ℕ) → entries_between h (covered marks) (length h) thread ≤ o.settings.every

-- a legal life: each reply is the object's, and all is in order
pub record IsLegalLife (o : Opening) (h : List Entry) (marks : List ℕ) : Type 0 where
  pub replies : IsLegal (sizes o) o.state.contents h
  pub order : IsInOrder o h marks

-- by the kind of life
abbrev closings_as : Life → List ℕ → ℕ
closings_as Start marks = length marks
closings_as Resume marks = length marks - 1

-- how many of the marks are of closings, and not of a recovery
abbrev pub closings : Opening → List ℕ → ℕ
closings o = closings_as o.life

-- an entry may be drawn, its reply aside: it is its thread's next command with that place as index, its thread has quota left
-- since the last mark, and in a resume recovery is acknowledged
pub record MayJoin (o : Opening) (h : List Entry) (marks : List ℕ) (e : Entry) : Type 0 where
  pub next : next_command o h e.thread ≡ Some e.command
  pub index : e.index ≡ place_after o h e.thread
  pub quota : entries_between h (covered marks) (length h) e.thread < o.settings.every
  pub recovered : o.life ≡ Resume → marks ≢ []

-- all entries may be marked: each thread's entries since the last mark are such as a mark may end
abbrev pub MayMark : Opening → List Entry → List ℕ → Type 0
MayMark o h marks = (thread : ℕ) → IsStretch o h (covered marks) (length h) thread
