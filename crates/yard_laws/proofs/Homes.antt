-- What is known of a room at home, by all entries and by its own, in the words of a life and in those of a view.
use Rattle.std.proofs.Common.{◌≡◌, ℕ, ◌<◌, ◌≤◌, Bool, true, List, sym, subst, ⊎_elim, false}
use Rattle.std.specs.Prelude.{nat_lt}
use Rattle.seq_object.specs.declared.history.Entry.{Entry}
use Rattle.seq_object.specs.declared.history.Noted.{Noted}
use Rattle.seq_object.specs.Object.{Contents, part_of}
use Rattle.seq_object.specs.History.{of_room, contents_at}
use Rattle.life_model.specs.Life.{contents_now}
use Rattle.room_model.specs.Chains.{RoomWords}
use Rattle.room_model.specs.MapRoom.{live_layout}
use Rattle.room_model.specs.Rooms.{StandsFor}
use Rattle.room_model.specs.Banks.{memory_words}
use Rattle.rooms.specs.declared.room.Room.{Room}
use Rattle.yard_model.specs.declared.view.Beginning.{Beginning}
use Rattle.yard_model.specs.declared.view.View.{View}
use Rattle.yard_model.specs.declared.view.Checkpoint.{Checkpoint}
use Rattle.yard_model.specs.Entries.{entries_of}
use Rattle.rooms.specs.Rooms.{bank_of, state_of, loads}
use Rattle.yard_model.specs.Beginnings.{opening_of, sizes_at, epoch_now, covered_part, covered_contents, write_backs_at}
use Rattle.yard_model.specs.World.{YardState, lock_of, dead, ViewIs, Home, done_in}
use Rattle.yard_model.specs.Homes.{IsSafeRoom, IsFreeRoom, IsDeadRoom, IsFreeHome, IsDeadHome}
use Rattle.yard_model.specs.Knows.{is_closing}
use Rattle.yard_model.specs.Lawful.{Lawful}
use Rattle.yard_model.specs.Conditions.{behind, IsFreeFor, IsDeadFor}
use Rattle.yard_laws.proofs.Knowns.{known_closings}
use Rattle.yard_laws.proofs.Readings.{dead_more, stands_whole, stands_alone}
use Rattle.yard_laws.proofs.Arrivals.{some_shards}
use Rattle.seq_object.specs.declared.sizes.Sizes.{Sizes}

-- what a room stands for may be said by other contents of which the room's part is the same
safe_for : {z : Sizes} {epoch opened : ℕ} {done : Bool} {one other : Contents} {r : ℕ} {x : Room}
    → ((words : RoomWords) → r ≤ z.shards → StandsFor live_layout z r words one → StandsFor live_layout z r words other)
    → IsSafeRoom z epoch opened done one r x → IsSafeRoom z epoch opened done other r x
safe_for {z} {epoch} {opened} {done} {one} {other} {r} {x} on f = record {
  cells = f.cells;
  saved = f.saved;
  in_memory = λ low. on (memory_words epoch (bank_of x)) low (f.in_memory low);
  no_fewer = f.no_fewer;
  eight = f.eight;
}

pub dead_for : {z : Sizes} {epoch opened closings : ℕ} {done closing : Bool} {one other : Contents} {r : ℕ} {x : Room}
    → ((words : RoomWords) → r ≤ z.shards → StandsFor live_layout z r words one → StandsFor live_layout z r words other)
    → IsDeadRoom z epoch opened closings done closing one r x → IsDeadRoom z epoch opened closings done closing other r x
dead_for {z} {epoch} {opened} {closings} {done} {closing} {one} {other} {r} {x} on f = record {
  safe = safe_for on f.safe;
  state = f.state;
  write_backs = f.write_backs;
  epoch_word = f.epoch_word;
}

pub free_for : {z : Sizes} {epoch opened closings : ℕ} {done : Bool} {now after one other : Contents} {r : ℕ} {x : Room}
    → ((words : RoomWords) → r ≤ z.shards → StandsFor live_layout z r words one → StandsFor live_layout z r words other)
    → ((words : RoomWords) → r ≤ z.shards → StandsFor live_layout z r words now → StandsFor live_layout z r words after)
    → IsFreeRoom z epoch opened closings done now one r x → IsFreeRoom z epoch opened closings done after other r x
free_for {z} {epoch} {opened} {closings} {done} {now} {after} {one} {other} {r} {x} on go f = record {
  safe = safe_for on f.safe;
  idle = f.idle;
  state = f.state;
  stands = λ low. go (loads x) low (f.stands low);
  write_backs = f.write_backs;
  nothing_pending = f.nothing_pending;
  epoch_word = f.epoch_word;
}

-- and where a thread closes, no fewer rooms are lawful
pub dead_closing : {z : Sizes} {epoch opened closings : ℕ} {done one other : Bool} {covered : Contents} {r : ℕ} {x : Room} → (one ≡ true → other ≡ true)
    → IsDeadRoom z epoch opened closings done one covered r x → IsDeadRoom z epoch opened closings done other covered r x
dead_closing {z} {epoch} {opened} {closings} {done} {one} {other} {covered} {r} {x} on f = record {
  safe = f.safe;
  state = λ low. dead_more epoch one other (state_of x) on (f.state low);
  write_backs = f.write_backs;
  epoch_word = f.epoch_word;
}

-- by a view's entries of the room and by all entries
module _ (b : Beginning) (v : View) (same : v.beginning ≡ b) (some : 0 < (sizes_at b).shards) (r : ℕ) (ns : List Noted) (es : List Entry) (are : entries_of ns ≡ of_room (sizes_at b) r es) where
  behind_as : behind v r ns ≡ contents_at (sizes_at b) (part_of (sizes_at b) r (opening_of b).state.contents) (of_room (sizes_at b) r es)
  behind_as = λ k. contents_at (sizes_at (same k)) (part_of (sizes_at (same k)) r (opening_of (same k)).state.contents) (are k)

  by_view : (words : RoomWords) → StandsFor live_layout (sizes_at b) r words (contents_now (opening_of b) es) → StandsFor live_layout (sizes_at b) r words (behind v r ns)
  by_view words s = subst (λ (c : Contents). StandsFor live_layout (sizes_at b) r words c) (sym behind_as) (stands_alone (sizes_at b) (opening_of b).state.contents es r words some s)

  pub by_life : (words : RoomWords) → StandsFor live_layout (sizes_at b) r words (behind v r ns) → StandsFor live_layout (sizes_at b) r words (contents_now (opening_of b) es)
  by_life words s = stands_whole (sizes_at b) (opening_of b).state.contents es r words some (subst (λ (c : Contents). StandsFor live_layout (sizes_at b) r words c) behind_as s)

-- a room as the life knows it, and as a view of a thread that ran in this epoch does
module _ (b : Beginning) (w : YardState) (h : List Entry) (cs : List Checkpoint) (i : ℕ) (v : View) (l : Lawful b w h cs) (at : ViewIs w i v) (runs : v.ran ≡ epoch_now b cs)
    (r : ℕ) (x : Room) (done : Bool) (n : ℕ) (same : nat_lt r n ≡ done) where
  module _ (covered : List Noted) (few : entries_of covered ≡ of_room (sizes_at b) r (covered_part h cs)) where
    pub dead_by_life : IsDeadFor v r covered x → nat_lt r n ≡ false → IsDeadHome b h cs n (is_closing v.phase) r x
    dead_by_life f not_done = dead_for (λ words _ s. by_life b v (l.sized.beginnings i v at) (some_shards b w h cs l) r covered (covered_part h cs) few words s)
        (subst (λ (p : Beginning × ℕ × ℕ × Bool). IsDeadRoom (sizes_at p.0) p.1 (write_backs_at p.0 r) p.2 p.3 (is_closing v.phase) (behind v r covered) r x)
        (λ k. (l.sized.beginnings i v at k, runs k, known_closings b w h cs i v l at runs k, sym not_done k)) f)

    module _ (all : List Noted) (are : entries_of all ≡ of_room (sizes_at b) r h) where
      pub free_by_view : IsFreeHome b h cs n r x → IsFreeFor v done r all covered x
      free_by_view f = subst (λ (p : Beginning × ℕ × ℕ × Bool). IsFreeRoom (sizes_at p.0) p.1 (write_backs_at p.0 r) p.2 p.3 (behind v r all) (behind v r covered) r x)
          (λ k. (sym (l.sized.beginnings i v at) k, sym runs k, sym (known_closings b w h cs i v l at runs) k, same k))
          (free_for (λ words _ s. by_view b v (l.sized.beginnings i v at) (some_shards b w h cs l) r covered (covered_part h cs) few words s)
          (λ words _ s. by_view b v (l.sized.beginnings i v at) (some_shards b w h cs l) r all h are words s) f)

      pub free_by_life : IsFreeFor v done r all covered x → IsFreeHome b h cs n r x
      free_by_life f = free_for (λ words _ s. by_life b v (l.sized.beginnings i v at) (some_shards b w h cs l) r covered (covered_part h cs) few words s)
          (λ words _ s. by_life b v (l.sized.beginnings i v at) (some_shards b w h cs l) r all h are words s)
          (subst (λ (p : Beginning × ℕ × ℕ × Bool). IsFreeRoom (sizes_at p.0) p.1 (write_backs_at p.0 r) p.2 p.3 (behind v r all) (behind v r covered) r x)
          (λ k. (l.sized.beginnings i v at k, runs k, known_closings b w h cs i v l at runs k, sym same k)) f)

-- a room at home is free, or was given back in mid-work
module _ (b : Beginning) (w : YardState) (h : List Entry) (cs : List Checkpoint) (l : Lawful b w h cs) where
  pub safe_home : (r : ℕ) (x : Room) → Home w r x → IsSafeRoom (sizes_at b) (epoch_now b cs) (write_backs_at b r) (nat_lt r (done_in w.views)) (covered_contents b h cs) r x
  safe_home r x at_home = ⊎_elim (λ (z : lock_of w r ≡ 0). (l.rooms.free r x at_home z).safe) (λ (d : lock_of w r ≡ dead). (l.rooms.dead_room r x at_home d).safe) (l.locks.home r x at_home)
