-- How many events what is in hand counts.
use Rattle.std.proofs.Common.{◌≡◌, ℕ, zero, suc, ◌+◌, ◌-◌, ◌*◌, ◌<◌, ◌≤◌, Bool, true, false, Option, Some, None, ap, sym, ◌∙◌, arith, inl, inr}
use Rattle.std.proofs.lemmas.Bool.Decides.{eqb_tells}
use Rattle.seq_object.specs.declared.settings.Settings.{Settings}
use Rattle.seq_object.specs.declared.sizes.Sizes.{Sizes}
use Rattle.seq_object.specs.Sizes.{sizes_of, super_room, room_count, line_count}
use Rattle.seq_object.specs.History.{total}
use Rattle.life_model.specs.Work.{closing_events, one_if}
use Rattle.rooms.specs.declared.room.Room.{Room}
use Rattle.rooms.specs.declared.room.Room.TheVariants.{Map, Queue, Thread, Super}
use Rattle.rooms.specs.Rooms.{IsKindOf, lines_unasked}
use Rattle.rooms.proofs.Others.{one_line}
use Rattle.epoch_word.specs.declared.stage.EpochStage.{EpochStage}
use Rattle.epoch_word.specs.declared.stage.EpochStage.TheVariants.{Before, Stored, AskedFor, InMemory}
use Rattle.yard_model.specs.declared.view.Phase.{Phase}
use Rattle.yard_model.specs.declared.view.Phase.TheVariants.{Standing, Running, Closing}
use Rattle.yard_model.specs.declared.view.GivenBack.{GivenBack}
use Rattle.yard_model.specs.declared.view.View.{View}
use Rattle.yard_model.specs.Knows.{is_closing}
use Rattle.room_in_hand.specs.InHand.{RoomUse}
use Rattle.coordinator.specs.declared.hand.Hand.{Hand as CloserHand}
use Rattle.coordinator.specs.declared.hand.Hand.TheVariants.{Empty as NoRoom, Flushing, Flushed, Shut, Epoch, AllDone, Over}
use Rattle.coordinator.specs.Closers.{CloserState, Closes as ClosesFor, Holds as CloserHolds, HandIs, most_on, most_in_hand, most_events, epoch_events}
use Rattle.coordinator.proofs.Counts.{total_more, most_cells, most_super}
use Rattle.coordinator.proofs.Totals.{most_all}
use Rattle.worker_model.specs.declared.hand.Hand.{Hand}
use Rattle.worker_model.specs.declared.hand.Hand.TheVariants.{Empty, Commands, Drawn, NoItem, Own, Closes, Refused}
use Rattle.worker_model.specs.Counts.{when, most_empty, most_of_hand}
use Rattle.worker_model.specs.Workers.{WorkerState, HandFits}

-- a count with less or more in hand
pub no_more : (a had has done : ℕ) → a + had ≤ done → has ≤ had → a + has ≤ done
no_more a had has done le fewer = omega (arith, le, fewer)

pub no_fewer : (a had has done : ℕ) → done ≤ a + had → had ≤ has → done ≤ a + has
no_fewer a had has done le more = omega (arith, le, more)

-- THE EVENTS OF A CLOSING.

-- a sum over no more numbers is no larger
more_total : (f : ℕ → ℕ) (a n : ℕ) → total f a ≤ total f (a + n)
more_total f a zero =
    let e : a + 0 ≡ a = omega arith in
    let t = ap (total f) e in
    omega (arith, t)
more_total f a (suc n) =
    let e : a + suc n ≡ (a + n) + 1 = omega arith in
    let t = ap (total f) e in
    let m = total_more f (a + n) in
    let h = more_total f a n in
    omega (arith, t, m, h)

total_rises : (f : ℕ → ℕ) (a b : ℕ) → a ≤ b → total f a ≤ total f b
total_rises f a b le =
    let h = more_total f a (b - a) in
    let e : a + (b - a) ≡ b = omega (arith, le) in
    let t = ap (total f) e in
    omega (arith, h, t)

-- a room counts three at least beside its lines
lines_on : (z : Sizes) (r : ℕ) → r < room_count z → line_count z r + 3 ≤ most_on z r
lines_on z r lt = elim (eqb_tells r (super_room z)) [
  | inl h ↦ let e = h.1 in let s = most_super z r e in let l = one_line z r (omega (arith, e)) in omega (arith, s, l)
  | inr h ↦ let e = h.1 in let m = most_cells z r (omega (arith, lt, e)) in omega (arith, m)
]

epoch_few : (stage : EpochStage) → epoch_events stage ≤ 4
epoch_few Before = omega arith
epoch_few Stored = omega arith
epoch_few AskedFor = omega arith
epoch_few InMemory = omega arith

-- a room of a memory is one of its rooms
is_within : (s : Settings) (r : ℕ) (x : Room) → IsKindOf s r x → r < room_count (sizes_of s)
is_within s r (Map x) kind = let k = kind.0 in omega (arith, k)
is_within s r (Queue x) kind = let k = kind.0 in omega (arith, k)
is_within s r (Thread x) kind = let k = kind.1 in omega (arith, k)
is_within s r (Super x) kind = omega (arith, kind)

-- the events of a closing that goes on are fewer than those of a whole one
module _ (c : CloserState) (v : View) (was : ClosesFor c v) where
  abbrev z : Sizes
  z = sizes_of c.settings

  abbrev done : ℕ
  done = total (most_on z) c.learnt.rooms

  -- with a room in hand
  with_room : (role : RoomUse) (x : Room) (n : ℕ) → CloserHolds role v x → n ≤ line_count z c.learnt.rooms + 4 → done + n + 1 ≤ closing_events z
  with_room role x n holds le =
      let number = holds.next ∙ sym was.learnt.rooms in
      let kind = is_within v.beginning.settings holds.grip.room x holds.in_hand.kept.room.kind in
      let same = ap (λ (s : Settings). room_count (sizes_of s)) was.settings in
      let lt : c.learnt.rooms < room_count z = omega (arith, number, kind, same) in
      let l = lines_on z c.learnt.rooms lt in
      let m = total_more (most_on z) c.learnt.rooms in
      let up = total_rises (most_on z) (c.learnt.rooms + 1) (room_count z) (omega (arith, lt)) in
      let all = most_all z in
      omega (arith, le, l, m, up, all)

  few_by : (hand : CloserHand) → HandIs c.settings c.learnt hand v → done + most_in_hand (line_count z c.learnt.rooms) hand + 1 ≤ closing_events z
  few_by NoRoom is =
      let left = is.left in
      let up = total_rises (most_on z) c.learnt.rooms (room_count z) (omega (arith, left)) in
      let all = most_all z in
      omega (arith, up, all)
  few_by (Flushing x) is = with_room _ x (1 + (line_count z c.learnt.rooms - lines_unasked x)) is (omega arith)
  few_by (Flushed x) is = with_room _ x (1 + line_count z c.learnt.rooms) is (omega arith)
  few_by (Shut x) is = with_room _ x (2 + line_count z c.learnt.rooms) is (omega arith)
  few_by (Epoch stage x) is = with_room _ (Super x) (epoch_events stage) is (let e = epoch_few stage in omega (arith, e))
  few_by AllDone is =
      let t = ap (total (most_on z)) is.all in
      let all = most_all z in
      omega (arith, t, all)
  few_by Over is = absurd is

  pub few_events : most_events c + 1 ≤ closing_events z
  few_events = few_by c.hand was.hand

-- WHAT IS IN HAND counts, where the thread runs or stands, 37 at most, and twelve and a closing where it closes.

pub few_when : (n : ℕ) (b : Bool) → when n b ≤ n
few_when n true = omega arith
few_when n false = omega arith

few_empty : (s : Settings) (phase : Phase) (given : Option GivenBack) (v : View) → most_empty s phase given v ≤ 37 + closing_events (sizes_of s) * one_if (is_closing phase)
few_empty s Standing given v = omega arith
few_empty s Running (Some k) v = omega arith
few_empty s Running None v = let a = few_when 2 v.found_empty in let b = few_when 7 v.wrote in omega (arith, a, b)
few_empty s Closing given v = let e : closing_events (sizes_of s) * 1 ≡ closing_events (sizes_of s) = omega arith in omega (arith, e)

pub few_in_hand : (c : WorkerState) (v : View) → c.settings ≡ v.beginning.settings → (hand : Hand) → HandFits c hand v
    → most_of_hand c.settings hand v ≤ 37 + closing_events (sizes_of c.settings) * one_if (is_closing v.phase)
few_in_hand c v same Empty fits = few_empty c.settings v.phase v.given_back v
few_in_hand c v same (Commands reply x) fits = omega arith
few_in_hand c v same (Drawn x) fits = omega arith
few_in_hand c v same (NoItem x) fits = omega arith
few_in_hand c v same (Own x) fits = let w = few_when 2 v.found_empty in omega (arith, w)
few_in_hand c v same (Closes closer) fits =
    let few = few_events closer v fits.closes in
    let e = ap (λ (s : Settings). closing_events (sizes_of s)) (fits.closes.settings ∙ sym same) in
    let p = ap (λ (p : Phase). closing_events (sizes_of c.settings) * one_if (is_closing p)) fits.closes.phase in
    let m : closing_events (sizes_of c.settings) * 1 ≡ closing_events (sizes_of c.settings) = omega arith in
    omega (arith, few, e, p, m)
few_in_hand c v same (Refused x) fits = omega arith
