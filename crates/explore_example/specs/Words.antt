-- What is told of a store, in words.
use Rattle.std.specs.Prelude.{ℕ, ◌+◌, Bool, nat_eq, Option, Some, None, List, [], ◌∷◌, ◌++◌, codes, slice_index, if◌then◌else◌}
use Rattle.std.specs.Fmt.{decimal}
use Rattle.crash_explorer.specs.declared.outcome.Outcome.{Outcome}
use Rattle.crash_explorer.specs.declared.outcome.Outcome.TheVariants.{State, Refused, Endless}
use Rattle.crash_explorer.specs.declared.answer.Answer.{Answer}
use Rattle.crash_explorer.specs.declared.answer.Answer.TheVariants.{Right, Wrong as IsWrong}
use Rattle.crash_explorer.specs.declared.answer.Tally.{Tally}
use Rattle.crash_explorer.specs.declared.answer.Wrong.{Wrong}
use Rattle.crash_explorer.specs.declared.answer.CutInside.{CutInside}
use Rattle.explore_example.specs.declared.event.Event.{Event}
use Rattle.explore_example.specs.declared.event.Event.TheVariants.{Write, Store, WriteBack, Fence, Closing, Closed}
use Rattle.explore_example.specs.declared.mistake.Mistake.{Mistake}
use Rattle.explore_example.specs.declared.mistake.Mistake.TheVariants.{None as NoMistake, RecordFirst, Unfenced, EpochEarly, RecoveryEarly}
use Rattle.explore_example.specs.declared.running.Running.{Running}
use Rattle.explore_example.specs.Runs.{last_event}

-- what an event does
abbrev pub event_text : Event → List ℕ
event_text (Write variable value) = codes "begins to set variable " ++ decimal variable ++ codes " to " ++ decimal value
event_text (Store line word value) = codes "stores " ++ decimal value ++ codes " to word " ++ decimal word ++ codes " of line " ++ decimal line
event_text (WriteBack line) = codes "writes line " ++ decimal line ++ codes " back"
event_text Fence = codes "fences"
event_text Closing = codes "begins to close the epoch"
event_text Closed = codes "tells the user that the epoch is closed"

-- what is wrong with a store
abbrev pub mistake_text : Mistake → List ℕ
mistake_text NoMistake = codes "a right store"
mistake_text RecordFirst = codes "a record is stored before its backup"
mistake_text Unfenced = codes "a closing ends without a fence"
mistake_text EpochEarly = codes "the next epoch is stored before the cells are fenced"
mistake_text RecoveryEarly = codes "recovery stores the next epoch before it fences the cells"

-- the values of a state, each behind these words and the others behind a comma
abbrev pub values_text : List ℕ → List ℕ → List ℕ
values_text lead [] = []
values_text lead (value ∷ values) = lead ++ (decimal value ++ values_text (codes ", ") values)

-- a state
abbrev pub state_text : List ℕ → List ℕ
state_text values = codes "[" ++ (values_text [] values ++ codes "]")

-- how many of its pending stores a line keeps, where it has any
abbrev pub line_text : ℕ → ℕ → ℕ → List ℕ
line_text line kept pending = if nat_eq pending 0 then [] else codes ", line " ++ decimal line ++ codes " keeps " ++ decimal kept ++ codes " of " ++ decimal pending ++ codes " stores"

-- what the lines from this number on keep
abbrev pub lines_text : ℕ → List ℕ → List ℕ → List ℕ
lines_text line [] pending = []
lines_text line (kept ∷ more) pending = line_text line kept (slice_index pending line) ++ lines_text (line + 1) more pending

-- a cut inside recovery
abbrev pub cut_text : CutInside → List ℕ
cut_text cut = codes ", and behind event " ++ decimal cut.event ++ codes " of its recovery" ++ lines_text 0 cut.kept.items cut.pending.items

-- the cuts inside recovery, each in the recovery from the one before
abbrev pub inside_text : List CutInside → List ℕ
inside_text [] = []
inside_text (cut ∷ cuts) = cut_text cut ++ inside_text cuts

-- what recovery comes to
abbrev pub outcome_text : Outcome → List ℕ
outcome_text (State words) = codes ": recovers to " ++ state_text words.items
outcome_text Refused = codes ": recovery refuses it"
outcome_text Endless = codes ": recovery does not end in time"

-- that one checkpoint is allowed, or two
abbrev pub one_text : List ℕ → List ℕ
one_text saved = codes ", allowed is " ++ state_text saved

abbrev pub both_text : List ℕ → List ℕ → List ℕ
both_text saved next = codes ", allowed are " ++ state_text saved ++ codes " and " ++ state_text next

-- what is allowed: the last checkpoint, and while a closing is under way the next one
abbrev pub allowed_text : Bool → List ℕ → List ℕ → List ℕ
allowed_text is_closing saved next = if is_closing then both_text saved next else one_text saved

-- what the event of a cut does, in a line of its own
abbrev pub last_text : ℕ → Option Event → List ℕ
last_text number None = []
last_text number (Some event) = codes "  event " ++ decimal number ++ codes " " ++ event_text event ++ codes "\n"

-- a survivor that is wrong
abbrev pub wrong_text : Running → Wrong → List ℕ
wrong_text s wrong = codes "  cut behind event " ++ decimal wrong.event ++ lines_text 0 wrong.kept.items wrong.pending.items
    ++ inside_text wrong.inside.items ++ outcome_text wrong.outcome ++ allowed_text s.is_closing s.saved s.values ++ codes "\n" ++ last_text wrong.event (last_event s)

-- how much was tried, where each survivor that was tried is right
abbrev pub right_text : Tally → List ℕ
right_text tally = codes "  " ++ (if tally.all then codes "all" else codes "some") ++ codes " survivors of " ++ decimal tally.events
    ++ codes " cuts, and of the cuts inside their recoveries, were tried and allowed: " ++ decimal tally.survivors ++ codes "\n"

-- what an answer says of a store, which stands where the answer left it
abbrev pub answer_text : Running → Answer → List ℕ
answer_text s (Right tally) = right_text tally
answer_text s (IsWrong wrong) = wrong_text s wrong
