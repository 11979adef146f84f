-- A store of the command under way is made in a room of commands in hand, or a store of its restart point in a thread's room.
use Rattle.std.proofs.Common.{◌≡◌, ℕ, ◌+◌, ◌<◌, List, [], ◌∷◌, length, refl, ap, sym, ◌∙◌, subst, arith}
use Rattle.seq_object.specs.declared.history.RestartPoint.{RestartPoint}
use Rattle.seq_object.specs.Sizes.{sizes_of}
use Rattle.seq_object.specs.Object.{contents_after}
use Rattle.line_memory.specs.Line.{AreLines, unasked, is_unasked_in}
use Rattle.room_model.specs.declared.write.PlannedStore.{PlannedStore}
use Rattle.room_model.specs.Chains.{RoomWords}
use Rattle.room_model.specs.MapRoom.{live_layout}
use Rattle.room_model.specs.Rooms.{StandsFor, point_in}
use Rattle.room_model.specs.Banks.{memory_words}
use Rattle.room_model.specs.Writes.{command_stores, newly_pending, AreStoresWithin}
use Rattle.life_laws.proofs.FewLines.{newly_pending_moves}
use Rattle.incll_var.specs.declared.state.CellState.{CellState}
use Rattle.incll_var.specs.declared.state.CellState.TheVariants.{Running}
use Rattle.incll_var.specs.Cells.{CellBankState, epoch_of, played}
use Rattle.incll_var.specs.Plans.{behind_first}
use Rattle.planned_cells.specs.Planned.{memory_words_in}
use Rattle.command_room.specs.declared.under_way.UnderWay.{UnderWay}
use Rattle.command_room.specs.Room.{CommandRoomState, IsCommandRoom, memory_words_of, contents_in, stepped}
use Rattle.command_room.proofs.Made.{one_more_made}
use Rattle.locked_map.specs.Room.{IsMap}
use Rattle.locked_queue.specs.Queue.{IsQueue}
use Rattle.restart_point.specs.declared.thread_end.ThreadEnd.{ThreadEnd}
use Rattle.restart_point.specs.Rooms.{ThreadRoomState, IsThreadRoom, room_behind, stepped as point_stepped}
use Rattle.rooms.specs.declared.room.Room.TheVariants.{Map, Queue, Thread}
use Rattle.room_in_hand.specs.Known.{Knowledge}
use Rattle.room_in_hand.specs.InHand.{working, writing_point, IsWorking, IsWritingPoint, IsInHand}
use Rattle.room_in_hand.proofs.CommandRooms.{IsNumbered, Leaves, map_numbered, queue_numbered, part_here, stands_here, map_kept, queue_kept}

-- a store leaves the state
played-state : (b : CellBankState) (stores : List PlannedStore) → (played b stores).state ≡ b.state
played-state b [] = refl
played-state b (p ∷ ps) = refl

-- it is no write-back
played-write_backs : (b : CellBankState) (stores : List PlannedStore) → (played b stores).bank.write_backs ≡ b.bank.write_backs
played-write_backs b [] = refl
played-write_backs b (p ∷ ps) = refl

-- and leaves as many lines to be written back
played-owed : (b : CellBankState) (stores : List PlannedStore) → AreLines b.bank.lines → AreStoresWithin (length b.bank.lines) stores
    → unasked (played b stores).bank.lines + newly_pending (is_unasked_in (played b stores).bank) (behind_first stores) ≡ unasked b.bank.lines + newly_pending (is_unasked_in b.bank) stores
played-owed b [] lines placed = refl
played-owed b (p ∷ ps) lines placed = newly_pending_moves b.bank p ps lines placed.0

-- one store fewer is left
behind-fewer : (stores : List PlannedStore) → 0 < length stores → length (behind_first stores) + 1 ≡ length stores
behind-fewer [] some = absurd (omega arith)
behind-fewer (p ∷ ps) some = omega arith

-- what memory holds at an epoch stays where what it holds at that of running cells does
running_memory : (epoch : ℕ) (old new : CellBankState) → old.state ≡ Running epoch → new.state ≡ Running epoch → memory_words_in new ≡ memory_words_in old
    → memory_words epoch new.bank ≡ memory_words epoch old.bank
running_memory epoch old new was is same =
    sym (ap (λ (k : CellState). memory_words (epoch_of k) new.bank) is) ∙ same ∙ ap (λ (k : CellState). memory_words (epoch_of k) old.bank) was

-- A STORE OF A COMMAND.

stepped_leaves : (under : UnderWay) (k : Knowledge) (s : CommandRoomState) → IsWorking under k s → memory_words_of (stepped s) ≡ memory_words_of s → Leaves k.epoch s (stepped s)
stepped_leaves under k s was memory = record {
  settings = refl;
  number = refl;
  memory = running_memory k.epoch s.cells (stepped s).cells was.running (played-state s.cells s.plan.stores ∙ was.running) memory;
  write_backs = played-write_backs s.cells s.plan.stores;
}

-- behind it the command is under way as before
stepped_works : (under : UnderWay) (k : Knowledge) (s : CommandRoomState) → IsNumbered k s → IsWorking under k s → 0 < length s.plan.stores → IsCommandRoom (stepped s) → contents_in (stepped s) ≡ contents_in s
    → IsWorking under k (stepped s)
stepped_works under k s own was some whole contents =
    let write_backs : (stepped s).cells.bank.write_backs ≡ s.cells.bank.write_backs = played-write_backs s.cells s.plan.stores in
    let owes : unasked (stepped s).cells.bank.lines + newly_pending (is_unasked_in (stepped s).cells.bank) (stepped s).plan.stores ≡ unasked s.cells.bank.lines + newly_pending (is_unasked_in s.cells.bank) s.plan.stores =
    played-owed s.cells s.plan.stores own.whole.cells.lines own.whole.planned.places in
    let still : IsNumbered k (stepped s) = record { whole = whole; low = own.low; number = own.number; settings = own.settings } in
    let after = contents_after (sizes_of k.settings) k.now under.command in
    record {
      running = played-state s.cells s.plan.stores ∙ was.running;
      going = was.going;
      here = was.here;
      reply = was.reply;
      stands = stands_here k (stepped s) still after (contents ∙ part_here k s own after was.stands);
      before = was.before;
      stood = was.stood;
      count = was.count + 1;
      made = one_more_made s was.before (command_stores live_layout (sizes_of k.settings) k.epoch k.room was.before under.command) was.count own.whole some was.made;
      few_left = let f = was.few_left in let e = behind-fewer s.plan.stores some in omega (arith, f, e);
      write_backs = let f = was.write_backs in omega (arith, f, write_backs);
      owed = let f = was.owed in omega (arith, f, owes, write_backs);
    }

-- of the room that a call made so
record Steps (under : UnderWay) (k : Knowledge) (s new : CommandRoomState) : Type 0 where
  leaves : Leaves k.epoch s new
  works : IsWorking under k new
  history : new.history.entries ≡ s.history.entries

steps : (under : UnderWay) (k : Knowledge) (s new : CommandRoomState) → IsNumbered k s → IsWorking under k s → 0 < length s.plan.stores → new ≡ stepped s → contents_in new ≡ contents_in s
    → memory_words_of new ≡ memory_words_of s → IsCommandRoom new → Steps under k s new
steps under k s new own was some is contents memory whole =
    subst (λ (r : CommandRoomState). contents_in r ≡ contents_in s → memory_words_of r ≡ memory_words_of s → IsCommandRoom r → Steps under k s r) (sym is)
    (λ c m w. record { leaves = stepped_leaves under k s was m; works = stepped_works under k s own was some w c; history = refl }) contents memory whole

pub map_stepped : (s new : CommandRoomState) → 0 < length s.plan.stores → new ≡ stepped s → contents_in new ≡ contents_in s → memory_words_of new ≡ memory_words_of s → IsMap new
    → (k : Knowledge) (under : UnderWay) → IsInHand (working under) k (Map s) → IsInHand (working under) k (Map new)
map_stepped s new some is contents memory whole k under was =
    let made = steps under k s new (map_numbered k s was.kept) was.used some is contents memory whole.room in
    record { kept = map_kept k k.history k.now s new was.kept whole made.leaves (made.history ∙ was.kept.history); used = made.works }

pub queue_stepped : (s new : CommandRoomState) → 0 < length s.plan.stores → new ≡ stepped s → contents_in new ≡ contents_in s → memory_words_of new ≡ memory_words_of s → IsQueue new
    → (k : Knowledge) (under : UnderWay) → IsInHand (working under) k (Queue s) → IsInHand (working under) k (Queue new)
queue_stepped s new some is contents memory whole k under was =
    let made = steps under k s new (queue_numbered k s was.kept) was.used some is contents memory whole.room in
    record { kept = queue_kept k k.history k.now s new was.kept whole made.leaves (made.history ∙ was.kept.history); used = made.works }

-- A STORE OF A RESTART POINT.

module _ (t new : ThreadRoomState) (some : 0 < length t.plan.stores) (is : new ≡ point_stepped t) (state : new.cells.state ≡ t.cells.state) (behind : room_behind new ≡ room_behind t)
    (memory : memory_words_in new.cells ≡ memory_words_in t.cells) (whole : IsThreadRoom new) (k : Knowledge) (point : RestartPoint) (end : ThreadEnd) (was : IsInHand (writing_point point end) k (Thread t)) where
  abbrev writes : IsWritingPoint point end k t
  writes = was.used

  point_memory : memory_words k.epoch new.cells.bank ≡ memory_words k.epoch t.cells.bank
  point_memory = running_memory k.epoch t.cells new.cells writes.running (state ∙ writes.running) memory

  point_write_backs : new.cells.bank.write_backs ≡ t.cells.bank.write_backs
  point_write_backs = ap (λ (r : ThreadRoomState). r.cells.bank.write_backs) is ∙ played-write_backs t.cells t.plan.stores

  point_owed : unasked new.cells.bank.lines + newly_pending (is_unasked_in new.cells.bank) new.plan.stores ≡ 1
  point_owed = ap (λ (r : ThreadRoomState). unasked r.cells.bank.lines + newly_pending (is_unasked_in r.cells.bank) r.plan.stores) is
      ∙ played-owed t.cells t.plan.stores was.kept.whole.cells.lines (was.kept.whole.under_way some).planned.places
      ∙ writes.one_line

  point_left : length new.plan.stores + 1 ≡ length t.plan.stores
  point_left = ap (λ (r : ThreadRoomState). length r.plan.stores + 1) is ∙ behind-fewer t.plan.stores some

  pub point_stepped_on : IsInHand (writing_point point end) k (Thread new)
  point_stepped_on = record {
    kept = record {
      whole = whole;
      room = record { kind = was.kept.room.kind; lines = whole.one ∙ sym was.kept.whole.one ∙ was.kept.room.lines };
      history = was.kept.history;
      in_memory = λ low. subst (λ (r : RoomWords). StandsFor live_layout (sizes_of k.settings) k.room r k.covered) (sym point_memory) (was.kept.in_memory low);
      point_in_memory = λ p taken. ap (point_in live_layout) point_memory ∙ was.kept.point_in_memory p taken;
      no_position = was.kept.no_position;
      no_fewer = let n = was.kept.no_fewer in let w = point_write_backs in omega (arith, n, w);
      counted = was.kept.counted;
    };
    used = record {
      running = state ∙ writes.running;
      point_behind = ap (point_in live_layout) behind ∙ writes.point_behind;
      end_is = ap (λ (r : ThreadRoomState). r.end) is ∙ writes.end_is;
      few_left = let f = writes.few_left in let e = point_left in omega (arith, f, e);
      one_line = point_owed;
      write_backs = let f = writes.write_backs in let w = point_write_backs in omega (arith, f, w);
    };
  }
