-- For each kind of step, that it keeps a part of the lawful world: what is lawful and meets the step's condition has that part behind it.
-- A law is such a statement at a part, as StandKeepsLaw HoldsLocks, or at all parts, as StandKeepsLaw Lawful.
use Rattle.std.specs.Prelude.{◌≡◌, ℕ, ◌+◌, ◌^◌, ◌<◌, nat_lt, Bool, false, List, [], ◌∷◌, ◌++◌}
use Rattle.seq_object.specs.declared.history.Entry.{Entry}
use Rattle.restart_point.specs.declared.thread_end.ThreadEnd.{ThreadEnd}
use Rattle.restart_point.specs.declared.arrival.Arrival.{Arrival}
use Rattle.restart_point.specs.ArrivalWord.{is_set, arrival_of, word_of, FitsItsWord}
use Rattle.rooms.specs.declared.room.Room.{Room}
use Rattle.yard_model.specs.declared.view.Phase.TheVariants.{Closing}
use Rattle.yard_model.specs.declared.view.Beginning.{Beginning}
use Rattle.yard_model.specs.declared.view.View.{View}
use Rattle.yard_model.specs.declared.view.Grip.{Grip}
use Rattle.yard_model.specs.declared.view.Checkpoint.{Checkpoint}
use Rattle.yard_model.specs.Beginnings.{epoch_now}
use Rattle.yard_model.specs.World.{YardState, ViewIs, Home, tick_word, clock, arrival, lock_of, Shows}
use Rattle.yard_model.specs.Lawful.{Lawful}
use Rattle.yard_model.specs.Views.{gripped, freed, retreated, left_in, stood, drew, claimed, entries_noted, released, looked, saw_power, ticked, turned_off}
use Rattle.yard_model.specs.Conditions.{MayLock, IsGiven, MayUnlock, MayRetreat, MayLeave, MayStand, MayDraw, MayClaim, MayNote, MayRelease, MayTick}
use Rattle.yard_model.specs.Steps.{with_view, covered_in, at_lock, at_unlock, at_retreat, at_leave, at_stand, at_claim, at_release, at_draw, at_tick, at_off, checkpoint_at}

-- a part of the lawful world
abbrev pub Part : Type 1
Part = Beginning → YardState → List Entry → List Checkpoint → Type 0

abbrev pub LockKeepsLaw : Part → Type 0
LockKeepsLaw part = (b : Beginning) (w : YardState) (h : List Entry) (cs : List Checkpoint) (i : ℕ) (v : View) (r : ℕ) (x : Room)
    → Lawful b w h cs → ViewIs w i v → MayLock v r → lock_of w r ≡ 0 → Home w r x
    → part b (at_lock w i r (gripped v r x (covered_in b h cs r))) h cs

-- where the lock is 0 the view may know this of the room at home
abbrev pub LockGivesLaw : Type 0
LockGivesLaw = (b : Beginning) (w : YardState) (h : List Entry) (cs : List Checkpoint) (i : ℕ) (v : View) (r : ℕ) (x : Room)
    → Lawful b w h cs → ViewIs w i v → MayLock v r → lock_of w r ≡ 0 → Home w r x → IsGiven v r x (covered_in b h cs r)

-- a thread that closes finds its next room free
abbrev pub CloserFindsFreeLaw : Type 0
CloserFindsFreeLaw = (b : Beginning) (w : YardState) (h : List Entry) (cs : List Checkpoint) (i : ℕ) (v : View) (r : ℕ)
    → Lawful b w h cs → ViewIs w i v → MayLock v r → v.phase ≡ Closing → lock_of w r ≡ 0

abbrev pub UnlockKeepsLaw : Part → Type 0
UnlockKeepsLaw part = (b : Beginning) (w : YardState) (h : List Entry) (cs : List Checkpoint) (i : ℕ) (v : View) (g : Grip) (x : Room)
    → Lawful b w h cs → ViewIs w i v → MayUnlock v g x → part b (at_unlock w i g.room x (freed v g x)) h cs

abbrev pub RetreatKeepsLaw : Part → Type 0
RetreatKeepsLaw part = (b : Beginning) (w : YardState) (h : List Entry) (cs : List Checkpoint) (i : ℕ) (v : View) (g : Grip) (x : Room)
    → Lawful b w h cs → ViewIs w i v → MayRetreat v g x → part b (at_retreat w i g.room x (retreated v g)) h cs

abbrev pub LeaveKeepsLaw : Part → Type 0
LeaveKeepsLaw part = (b : Beginning) (w : YardState) (h : List Entry) (cs : List Checkpoint) (i : ℕ) (v : View) (end : ThreadEnd)
    → Lawful b w h cs → ViewIs w i v → MayLeave v end (arrival w) → part b (at_leave w i (left_in v (arrival_of (arrival w)).epoch)) h cs

abbrev pub StandKeepsLaw : Part → Type 0
StandKeepsLaw part = (b : Beginning) (w : YardState) (h : List Entry) (cs : List Checkpoint) (i : ℕ) (v : View)
    → Lawful b w h cs → ViewIs w i v → MayStand v → part b (at_stand w i (stood v)) h cs

-- the entry drawn gets the clock's number as its place
abbrev pub DrawKeepsLaw : Part → Type 0
DrawKeepsLaw part = (b : Beginning) (w : YardState) (h : List Entry) (cs : List Checkpoint) (i : ℕ) (v : View) (g : Grip) (e : Entry)
    → Lawful b w h cs → ViewIs w i v → MayDraw v g e → part b (at_draw w i (drew v g (clock w) e)) (h ++ e ∷ []) cs

-- the clock stays in range: each of at most 16 threads has at most 4,096 entries
abbrev pub DrawFitsLaw : Type 0
DrawFitsLaw = (b : Beginning) (w : YardState) (h : List Entry) (cs : List Checkpoint) (i : ℕ) (v : View) (g : Grip) (e : Entry)
    → Lawful b w h cs → ViewIs w i v → MayDraw v g e → clock w < 65536

abbrev pub ClaimKeepsLaw : Part → Type 0
ClaimKeepsLaw part = (b : Beginning) (w : YardState) (h : List Entry) (cs : List Checkpoint) (i : ℕ) (v : View)
    → Lawful b w h cs → ViewIs w i v → MayClaim v (arrival w) → part b (at_claim w i (claimed v)) h cs

abbrev pub NoteKeepsLaw : Part → Type 0
NoteKeepsLaw part = (b : Beginning) (w : YardState) (h : List Entry) (cs : List Checkpoint) (i : ℕ) (v : View)
    → Lawful b w h cs → ViewIs w i v → MayNote v → part b (with_view w i (entries_noted v (clock w))) h cs

-- the word that is written shows that each thread stands and none closes, the two bits, and the next epoch
abbrev pub ReleaseKeepsLaw : Part → Type 0
ReleaseKeepsLaw part = (b : Beginning) (w : YardState) (h : List Entry) (cs : List Checkpoint) (i : ℕ) (v : View) (over fed : Bool) (n word : ℕ)
    → Lawful b w h cs → ViewIs w i v → MayRelease v over fed n → Shows word (λ j. nat_lt j b.settings.threads) false over fed (v.ran + 1)
    → part b (at_release w word i (released v)) h (cs ++ checkpoint_at n over ∷ [])

-- the epoch stays in range, while a thread closes it too
abbrev pub EpochFitsLaw : Type 0
EpochFitsLaw = (b : Beginning) (w : YardState) (h : List Entry) (cs : List Checkpoint) → Lawful b w h cs → epoch_now b cs + 1 < 2 ^ 32

abbrev pub LookKeepsLaw : Part → Type 0
LookKeepsLaw part = (b : Beginning) (w : YardState) (h : List Entry) (cs : List Checkpoint) (i : ℕ) (v : View) (word found : ℕ)
    → Lawful b w h cs → ViewIs w i v → part b (with_view w i (looked v word found)) h cs

abbrev pub PowerKeepsLaw : Part → Type 0
PowerKeepsLaw part = (b : Beginning) (w : YardState) (h : List Entry) (cs : List Checkpoint) (i : ℕ) (v : View)
    → Lawful b w h cs → ViewIs w i v → part b (with_view w i (saw_power v (tick_word w))) h cs

abbrev pub TickKeepsLaw : Part → Type 0
TickKeepsLaw part = (b : Beginning) (w : YardState) (h : List Entry) (cs : List Checkpoint) (i : ℕ) (v : View)
    → Lawful b w h cs → ViewIs w i v → MayTick v → part b (at_tick w i (ticked v)) h cs

-- the tick word does not wrap
abbrev pub TickFitsLaw : Type 0
TickFitsLaw = (b : Beginning) (w : YardState) (h : List Entry) (cs : List Checkpoint) → Lawful b w h cs → tick_word w + 1 < 2 ^ 64

abbrev pub OffKeepsLaw : Part → Type 0
OffKeepsLaw part = (b : Beginning) (w : YardState) (h : List Entry) (cs : List Checkpoint) (i : ℕ) (v : View)
    → Lawful b w h cs → ViewIs w i v → part b (at_off w i (turned_off v)) h cs

-- an arrival word that is made shows what it was made of
abbrev pub ArrivalShowsLaw : Type 0
ArrivalShowsLaw = (a : Arrival) → FitsItsWord a → Shows (word_of a) (is_set a.mask) a.closing a.over a.fed a.epoch
