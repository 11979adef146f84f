-- A command begins in a room of commands in hand, or is refused.
use Rattle.std.proofs.Common.{◌≡◌, ℕ, suc, ◌+◌, ◌*◌, ◌≤◌, Bool, false, List, [], ◌∷◌, Option, Some, None, Result, Ok, Err, IfOk, OnOk, OnErr, length, count_by, nat_lt, refl, arith, ap, sym, ◌∙◌, subst}
use Rattle.std.proofs.lemmas.Grind.{common_steps}
use Rattle.seq_object.specs.declared.command.Command.{Command}
use Rattle.seq_object.specs.declared.command.Command.TheVariants.{Put, Get, Del, Enq, Deq, Take}
use Rattle.seq_object.specs.declared.command.Reply.{Reply}
use Rattle.seq_object.specs.declared.history.Noted.{Noted}
use Rattle.seq_object.specs.declared.sizes.Sizes.{Sizes}
use Rattle.seq_object.specs.Sizes.{sizes_of}
use Rattle.seq_object.specs.Object.{Contents, room_of, part_of, reply_to, contents_after}
use Rattle.seq_object.proofs.Rooms.{room_reply, own_room}
use Rattle.line_memory.specs.declared.store.Store.{Store}
use Rattle.line_memory.specs.Line.{LineState, BankState, HasSameWords, line_at, bank_load, is_unasked, unasked, is_unasked_in}
use Rattle.room_model.specs.declared.write.PlannedStore.{PlannedStore}
use Rattle.room_model.specs.Chains.{RoomWords, HasSameRecords}
use Rattle.room_model.specs.MapRoom.{live_layout}
use Rattle.room_model.specs.Rooms.{StandsFor, point_in}
use Rattle.room_model.specs.Banks.{memory_words}
use Rattle.room_model.specs.Writes.{stored_in, command_stores, newly_pending}
use Rattle.room_laws.specs.Stores.{most_stores}
use Rattle.room_laws.proofs.Counts.{store_counts}
use Rattle.life_laws.proofs.FewLines.{few_lines}
use Rattle.incll_var.specs.declared.state.CellState.{CellState}
use Rattle.incll_var.specs.declared.state.CellState.TheVariants.{Torn, Running, Closing, Saved}
use Rattle.incll_var.specs.Cells.{CellBankState, HasSameCells, epoch_of, with_state}
use Rattle.planned_cells.specs.Planned.{words_in}
use Rattle.planned_cells.proofs.Loads.{loads-same, more_held}
use Rattle.command_room.specs.declared.under_way.UnderWay.{UnderWay}
use Rattle.command_room.specs.Room.{CommandRoomState, IsCommandRoom, words_of, sizes_in, contents_in, entered, begun as with_begun, commanded, refused as refused_behind}
use Rattle.locked_map.specs.Room.{IsMap}
use Rattle.locked_queue.specs.Queue.{IsQueue, answered}
use Rattle.rooms.specs.declared.room.Room.{Room}
use Rattle.rooms.specs.declared.room.Room.TheVariants.{Map, Queue}
use Rattle.rooms.specs.Rooms.{bank_of, cells_of, state_of}
use Rattle.yard_model.specs.Homes.{IsFreeState, position_bound}
use Rattle.room_in_hand.specs.Known.{Knowledge}
use Rattle.room_in_hand.specs.InHand.{resting, working, KeepsRoom, IsResting, IsWorking, IsInHand}
use Rattle.room_in_hand.specs.Working.{begun_command_use}
use Rattle.room_in_hand.proofs.Moves.{Moves, cells_are, history_same, kept_on, resting_on, bound_on, bound_most}
use Rattle.room_in_hand.proofs.CommandRooms.{IsNumbered, Leaves, map_numbered, queue_numbered, same_sizes, some_shards, part_here, stands_here, map_kept, queue_kept, low_bound}

-- THE ROOM IS ENTERED.

module _ (x y : Room) (epoch : ℕ) (m : Moves x y (with_state (cells_of x) (Running epoch))) where
  entered_bank : bank_of y ≡ bank_of x
  entered_bank = ap (λ (c : CellBankState). c.bank) (cells_are x y (with_state (cells_of x) (Running epoch)) m)

  pub entered_state : state_of y ≡ Running epoch
  entered_state = ap (λ (c : CellBankState). c.state) (cells_are x y (with_state (cells_of x) (Running epoch)) m)

  pub entered_kept : (k : Knowledge) → KeepsRoom k x → KeepsRoom k y
  entered_kept k was = kept_on x y (with_state (cells_of x) (Running epoch)) m k was (ap (memory_words k.epoch) entered_bank) (subst (λ (b : BankState). k.opened ≤ b.write_backs) (sym entered_bank) was.no_fewer)

  pub entered_rests : (k : Knowledge) → IsResting k x → IsResting k y
  entered_rests k rests = resting_on x y (with_state (cells_of x) (Running epoch)) m k rests (
      let f = rests.write_backs in
      let a = bound_most k.epoch k.closings (state_of x) in
      let s : position_bound k.epoch k.closings (state_of y) ≡ k.closings + 1 = ap (position_bound k.epoch k.closings) entered_state in
      let r = bound_on (sizes_of k.settings) k.epoch k.closings k.room x y (history_same x y (with_state (cells_of x) (Running epoch)) m) (omega (arith, a, s)) in
      let w = ap (λ (b : BankState). b.write_backs) entered_bank in
      let l = ap (λ (b : BankState). unasked b.lines) entered_bank in
      omega (arith, f, r, w, l))

-- what runs in its epoch is free
running_free : (k : Knowledge) (epoch : ℕ) (state : CellState) → k.epoch ≡ epoch → state ≡ Running epoch → IsFreeState k.epoch false state
running_free k epoch state same is = subst (IsFreeState k.epoch false) (sym is) (sym same)

-- A ROOM THAT RESTS, by its state alone.

record Rests (k : Knowledge) (s : CommandRoomState) : Type 0 where
  own : IsNumbered k s
  none : s.under_way ≡ None
  idle : s.plan.stores ≡ []
  stands : StandsFor live_layout (sizes_of k.settings) k.room (words_of s) k.now
  few : s.cells.bank.write_backs + unasked s.cells.bank.lines ≤ k.opened + 4 * length k.history

map_rests : (k : Knowledge) (s : CommandRoomState) → KeepsRoom k (Map s) → IsResting k (Map s) → Rests k s
map_rests k s kept rests =
    let own = map_numbered k s kept in record {
      own = own;
      none = rests.idle.0;
      idle = rests.idle.1;
      stands = rests.stands own.low;
      few =
          let f = rests.write_backs in
          let b = low_bound (sizes_of k.settings) k.epoch k.closings k.room (Map s) own.low in
          let h = ap (λ (ns : List Noted). length ns) kept.history in
          omega (arith, f, b, h);
    }

queue_rests : (k : Knowledge) (s : CommandRoomState) → KeepsRoom k (Queue s) → IsResting k (Queue s) → Rests k s
queue_rests k s kept rests =
    let own = queue_numbered k s kept in record {
      own = own;
      none = rests.idle.0;
      idle = rests.idle.1;
      stands = rests.stands own.low;
      few =
          let f = rests.write_backs in
          let b = low_bound (sizes_of k.settings) k.epoch k.closings k.room (Queue s) own.low in
          let h = ap (λ (ns : List Noted). length ns) kept.history in
          omega (arith, f, b, h);
    }

-- a command's reply by the room is the object's
rests_reply : (k : Knowledge) (s : CommandRoomState) (command : Command) → Rests k s → room_of (sizes_of k.settings) command ≡ k.room
    → reply_to (sizes_in s) (contents_in s) command ≡ reply_to (sizes_of k.settings) k.now command
rests_reply k s command rests here =
    ap (λ (z : Sizes). reply_to z (contents_in s) command) (same_sizes k s rests.own)
    ∙ ap (λ (c : Contents). reply_to (sizes_of k.settings) c command) (part_here k s rests.own k.now rests.stands)
    ∙ sym (ap (λ (r : ℕ). reply_to (sizes_of k.settings) (part_of (sizes_of k.settings) r k.now) command) here)
    ∙ room_reply (sizes_of k.settings) (some_shards k s rests.own) k.now command

-- and what it holds behind the command is its part of what the object does
rests_after : (k : Knowledge) (s : CommandRoomState) (command : Command) → Rests k s → room_of (sizes_of k.settings) command ≡ k.room
    → contents_after (sizes_in s) (contents_in s) command ≡ part_of (sizes_of k.settings) k.room (contents_after (sizes_of k.settings) k.now command)
rests_after k s command rests here =
    ap (λ (z : Sizes). contents_after z (contents_in s) command) (same_sizes k s rests.own)
    ∙ ap (λ (c : Contents). contents_after (sizes_of k.settings) c command) (part_here k s rests.own k.now rests.stands)
    ∙ sym (ap (λ (r : ℕ). contents_after (sizes_of k.settings) (part_of (sizes_of k.settings) r k.now) command) here)
    ∙ sym (own_room (sizes_of k.settings) (some_shards k s rests.own) k.now command)
    ∙ ap (λ (r : ℕ). part_of (sizes_of k.settings) r (contents_after (sizes_of k.settings) k.now command)) here

-- MORE ROOM FOR STORES.

-- lines at which a test says the same are as many that pass it
counted-alike : (p : LineState → Bool) (ls ks : List LineState) → length ks ≡ length ls → ((i : ℕ) → p (line_at ks i) ≡ p (line_at ls i)) → count_by p ks ≡ count_by p ls
counted-alike p [] [] count same = refl
counted-alike p [] (k ∷ ks) count same = absurd (omega arith)
counted-alike p (l ∷ ls) [] count same = absurd (omega arith)
counted-alike p (l ∷ ls) (k ∷ ks) count same =
    let here : p k ≡ p l = same 0 in
    let more : count_by p ks ≡ count_by p ls = counted-alike p ls ks (omega arith) (λ i. same (suc i)) in
    grind (arith, common_steps)

-- a line with the same words has a store that was not asked for where it had one
unasked_line-same : (l k : LineState) → HasSameWords l k → is_unasked k ≡ is_unasked l
unasked_line-same l k same = ap (λ (n : ℕ). nat_lt n (length k.pending)) same.asked ∙ ap (λ (ss : List Store). nat_lt l.asked (length ss)) same.pending

-- as many lines have a store that was not asked for
unasked-same : (old new : BankState) → HasSameCells old new → unasked new.lines ≡ unasked old.lines
unasked-same old new same = counted-alike is_unasked old.lines new.lines same.count (λ i. unasked_line-same (line_at old.lines i) (line_at new.lines i) (same.lines i))

-- and the words of cells stay
words-same : (state : CellState) (old new : BankState) (stores : List PlannedStore) → HasSameCells old new → words_in state new stores ≡ words_in state old stores
words-same (Torn e) old new stores same = more_held e old new same
words-same (Running e) old new stores same = ap (λ (r : RoomWords). stored_in r stores) (loads-same old new same)
words-same (Closing e) old new stores same = ap (λ (r : RoomWords). stored_in r stores) (loads-same old new same)
words-same (Saved e) old new stores same = ap (λ (r : RoomWords). stored_in r stores) (loads-same old new same)

-- A COMMAND THAT BEGINS.

-- a command has at most 22 stores
few_stores : (command : Command) → most_stores command ≤ 22
few_stores (Put key value) = omega arith
few_stores (Get key) = omega arith
few_stores (Del key) = omega arith
few_stores (Enq value) = omega arith
few_stores Deq = omega arith
few_stores Take = omega arith

abbrev under_of : Command → Reply → UnderWay
under_of command reply = record { command = command; reply = reply }

-- what the begin of a command with this reply makes of a room: its stores are planned, and more room may be made
record Begins (s : CommandRoomState) (command : Command) (reply : Reply) (new : CommandRoomState) : Type 0 where
  whole : IsCommandRoom new
  settings : new.settings ≡ s.settings
  number : new.room ≡ s.room
  state : new.cells.state ≡ s.cells.state
  going : new.under_way ≡ Some (under_of command reply)
  stores : new.plan.stores ≡ command_stores live_layout (sizes_in s) (epoch_of s.cells.state) s.room (bank_load s.cells.bank) command
  history : new.history.entries ≡ s.history.entries
  same : HasSameCells s.cells.bank new.cells.bank
  answer : reply_to (sizes_in s) (contents_in s) command ≡ Some reply
  contents : contents_in new ≡ contents_after (sizes_in s) (contents_in s) command

begins : (s new : CommandRoomState) (command : Command) (reply : Reply) → new ≡ with_begun (commanded s command) new.cells.bank new.history.spare command reply
    → IsCommandRoom new → HasSameCells s.cells.bank new.cells.bank → reply_to (sizes_in s) (contents_in s) command ≡ Some reply
    → contents_in new ≡ contents_after (sizes_in s) (contents_in s) command → Begins s command reply new
begins s new command reply is whole same answer contents = record {
  whole = whole;
  settings = ap (λ (r : CommandRoomState). r.settings) is;
  number = ap (λ (r : CommandRoomState). r.room) is;
  state = ap (λ (r : CommandRoomState). r.cells.state) is;
  going = ap (λ (r : CommandRoomState). r.under_way) is;
  stores = ap (λ (r : CommandRoomState). r.plan.stores) is;
  history = ap (λ (r : CommandRoomState). r.history.entries) is;
  same = same;
  answer = answer;
  contents = contents;
}

module _ (k : Knowledge) (s new : CommandRoomState) (command : Command) (reply : Reply) (rests : Rests k s) (running : s.cells.state ≡ Running k.epoch) (here : room_of (sizes_of k.settings) command ≡ k.room) (b : Begins s command reply new) where
  begun_leaves : Leaves k.epoch s new
  begun_leaves = record { settings = b.settings; number = b.number; memory = more_held k.epoch s.cells.bank new.cells.bank b.same; write_backs = b.same.write_backs }

  begun_numbered : IsNumbered k new
  begun_numbered = record { whole = b.whole; low = rests.own.low; number = b.number ∙ rests.own.number; settings = b.settings ∙ rests.own.settings }

  by_loads : words_of s ≡ bank_load s.cells.bank
  by_loads = ap (λ (state : CellState). words_in state s.cells.bank s.plan.stores) running ∙ ap (λ (ss : List PlannedStore). stored_in (bank_load s.cells.bank) ss) rests.idle

  planned : new.plan.stores ≡ command_stores live_layout (sizes_of k.settings) k.epoch k.room (bank_load s.cells.bank) command
  planned = b.stores
      ∙ ap (λ (z : Sizes). command_stores live_layout z (epoch_of s.cells.state) s.room (bank_load s.cells.bank) command) (same_sizes k s rests.own)
      ∙ ap (λ (state : CellState). command_stores live_layout (sizes_of k.settings) (epoch_of state) s.room (bank_load s.cells.bank) command) running
      ∙ ap (λ (r : ℕ). command_stores live_layout (sizes_of k.settings) k.epoch r (bank_load s.cells.bank) command) rests.own.number

  few_pending : newly_pending (is_unasked_in new.cells.bank) new.plan.stores ≤ 4
  few_pending = subst (λ (ss : List PlannedStore). newly_pending (is_unasked_in new.cells.bank) ss ≤ 4) (sym planned)
      (few_lines live_layout (sizes_of k.settings) k.epoch k.room (bank_load s.cells.bank) command (is_unasked_in new.cells.bank))

  few_planned : length new.plan.stores ≤ most_stores command
  few_planned = subst (λ (ss : List PlannedStore). length ss ≤ most_stores command) (sym planned) (store_counts live_layout (sizes_of k.settings) k.epoch k.room (bank_load s.cells.bank) command)

  begun_works : IsWorking (under_of command reply) k new
  begun_works = record {
    running = b.state ∙ running;
    going = b.going;
    here = here;
    reply = sym (rests_reply k s command rests here) ∙ b.answer;
    stands = stands_here k new begun_numbered (contents_after (sizes_of k.settings) k.now command) (b.contents ∙ rests_after k s command rests here);
    before = bank_load s.cells.bank;
    stood = subst (λ (r : RoomWords). StandsFor live_layout (sizes_of k.settings) k.room r k.now) by_loads rests.stands;
    count = 0;
    made = record { loads = loads-same s.cells.bank new.cells.bank b.same; left = planned };
    few_left = let m = few_stores command in let p = few_planned in omega (arith, m, p);
    write_backs = let f = rests.few in let w = b.same.write_backs in omega (arith, f, w);
    owed =
        let f = rests.few in
        let w = b.same.write_backs in
        let u = unasked-same s.cells.bank new.cells.bank b.same in
        let p = few_pending in
        omega (arith, f, w, u, p);
  }

-- A COMMAND THAT IS REFUSED.

-- what it makes of a room: no more than room for stores and entries
record Refuses (s new : CommandRoomState) : Type 0 where
  settings : new.settings ≡ s.settings
  number : new.room ≡ s.room
  state : new.cells.state ≡ s.cells.state
  none : new.under_way ≡ s.under_way
  stores : new.plan.stores ≡ []
  history : new.history.entries ≡ s.history.entries
  same : HasSameCells s.cells.bank new.cells.bank

refuses : (s new : CommandRoomState) → new ≡ refused_behind s new.plan.spare new.cells.bank new.history.spare → HasSameCells s.cells.bank new.cells.bank → Refuses s new
refuses s new is same = record {
  settings = ap (λ (r : CommandRoomState). r.settings) is;
  number = ap (λ (r : CommandRoomState). r.room) is;
  state = ap (λ (r : CommandRoomState). r.cells.state) is;
  none = ap (λ (r : CommandRoomState). r.under_way) is;
  stores = ap (λ (r : CommandRoomState). r.plan.stores) is;
  history = ap (λ (r : CommandRoomState). r.history.entries) is;
  same = same;
}

module _ (k : Knowledge) (s new : CommandRoomState) (rests : Rests k s) (r : Refuses s new) where
  refused_leaves : Leaves k.epoch s new
  refused_leaves = record { settings = r.settings; number = r.number; memory = more_held k.epoch s.cells.bank new.cells.bank r.same; write_backs = r.same.write_backs }

  refused_words : words_of new ≡ words_of s
  refused_words =
      ap (λ (state : CellState). words_in state new.cells.bank new.plan.stores) r.state
      ∙ ap (λ (ss : List PlannedStore). words_in s.cells.state new.cells.bank ss) (r.stores ∙ sym rests.idle)
      ∙ words-same s.cells.state s.cells.bank new.cells.bank s.plan.stores r.same

  refused_few : new.cells.bank.write_backs + unasked new.cells.bank.lines ≤ k.opened + 4 * length k.history
  refused_few = let f = rests.few in let w = r.same.write_backs in let u = unasked-same s.cells.bank new.cells.bank r.same in omega (arith, f, w, u)

map_refused : (k : Knowledge) (s new : CommandRoomState) → KeepsRoom k (Map s) → IsResting k (Map s) → IsMap new → Refuses s new → KeepsRoom k (Map new) × IsResting k (Map new)
map_refused k s new kept was whole r =
    let rests = map_rests k s kept was in (
      map_kept k k.history k.now s new kept whole (refused_leaves k s new rests r) (r.history ∙ kept.history),
      record {
        cells = tt;
        idle = (r.none ∙ rests.none, r.stores);
        stands = λ low. subst (λ (q : RoomWords). StandsFor live_layout (sizes_of k.settings) k.room q k.now) (sym (refused_words k s new rests r)) rests.stands;
        point = λ t is. (ap (point_in live_layout) (refused_words k s new rests r) ∙ (was.point t is).0, (was.point t is).1);
        write_backs =
            let f = refused_few k s new rests r in
            let b = low_bound (sizes_of k.settings) k.epoch k.closings k.room (Map new) rests.own.low in
            let h = ap (λ (ns : List Noted). length ns) (r.history ∙ kept.history) in
            omega (arith, f, b, h);
      },
    )

queue_refused : (k : Knowledge) (s new : CommandRoomState) → KeepsRoom k (Queue s) → IsResting k (Queue s) → IsQueue new → Refuses s new → KeepsRoom k (Queue new) × IsResting k (Queue new)
queue_refused k s new kept was whole r =
    let rests = queue_rests k s kept was in (
      queue_kept k k.history k.now s new kept whole (refused_leaves k s new rests r) (r.history ∙ kept.history),
      record {
        cells = tt;
        idle = (r.none ∙ rests.none, r.stores);
        stands = λ low. subst (λ (q : RoomWords). StandsFor live_layout (sizes_of k.settings) k.room q k.now) (sym (refused_words k s new rests r)) rests.stands;
        point = λ t is. (ap (point_in live_layout) (refused_words k s new rests r) ∙ (was.point t is).0, (was.point t is).1);
        write_backs =
            let f = refused_few k s new rests r in
            let b = low_bound (sizes_of k.settings) k.epoch k.closings k.room (Queue new) rests.own.low in
            let h = ap (λ (ns : List Noted). length ns) (r.history ∙ kept.history) in
            omega (arith, f, b, h);
      },
    )

-- THE CALLS.

-- what an entering and a begin have made of a map room
pub record MapCalls (was s new : CommandRoomState) (epoch : ℕ) : Type 0 where
  pub is : s ≡ entered was epoch
  pub lines : length s.cells.bank.lines ≡ length was.cells.bank.lines
  pub words : HasSameRecords (words_of s) (words_of was)
  pub whole : IsMap s
  pub same : HasSameCells s.cells.bank new.cells.bank
  pub room : IsMap new

module _ (was s new : CommandRoomState) (epoch : ℕ) (calls : MapCalls was s new epoch) where
  map_moves : Moves (Map was) (Map s) (with_state was.cells (Running epoch))
  map_moves = record { has = tt; is = ap Map calls.is; lines = calls.lines; same_words = calls.words; whole = calls.whole }

  module _ (k : Knowledge) (i : IsInHand resting k (Map was)) where
    map_kept_on : KeepsRoom k (Map s)
    map_kept_on = entered_kept (Map was) (Map s) epoch map_moves k i.kept

    map_rests_on : IsResting k (Map s)
    map_rests_on = entered_rests (Map was) (Map s) epoch map_moves k i.used.0

    map_rests_now : Rests k s
    map_rests_now = map_rests k s map_kept_on map_rests_on

    pub map_reply : (command : Command) (reply : Reply) → room_of (sizes_of k.settings) command ≡ k.room → reply_to (sizes_in s) (contents_in s) command ≡ Some reply
        → Some reply ≡ reply_to (sizes_of k.settings) k.now command
    map_reply command reply here answer = sym answer ∙ rests_reply k s command map_rests_now here

    pub map_begun : (command : Command) (reply : Reply) → k.epoch ≡ epoch → room_of (sizes_of k.settings) command ≡ k.room
        → new ≡ with_begun (commanded s command) new.cells.bank new.history.spare command reply → reply_to (sizes_in s) (contents_in s) command ≡ Some reply
        → contents_in new ≡ contents_after (sizes_in s) (contents_in s) command → IsInHand (working (under_of command reply)) k (Map new)
    map_begun command reply at here is answer contents =
        let b = begins s new command reply is calls.room.room calls.same answer contents in
        let running : s.cells.state ≡ Running k.epoch = entered_state (Map was) (Map s) epoch map_moves ∙ ap Running (sym at) in
        record {
          kept = map_kept k k.history k.now s new map_kept_on calls.room (begun_leaves k s new command reply map_rests_now running here b) (b.history ∙ map_kept_on.history);
          used = begun_works k s new command reply map_rests_now running here b;
        }

    pub map_refused_on : k.epoch ≡ epoch → new ≡ refused_behind s new.plan.spare new.cells.bank new.history.spare → IsInHand resting k (Map new)
    map_refused_on at is =
        let r = refuses s new is calls.same in
        let both = map_refused k s new map_kept_on map_rests_on calls.room r in
        record { kept = both.0; used = (both.1, running_free k epoch new.cells.state at (r.state ∙ entered_state (Map was) (Map s) epoch map_moves)) }

-- and of the queue room
pub record QueueCalls (was s new : CommandRoomState) (epoch : ℕ) : Type 0 where
  pub is : s ≡ entered was epoch
  pub lines : length s.cells.bank.lines ≡ length was.cells.bank.lines
  pub words : HasSameRecords (words_of s) (words_of was)
  pub whole : IsQueue s
  pub same : HasSameCells s.cells.bank new.cells.bank
  pub room : IsQueue new

module _ (was s new : CommandRoomState) (epoch : ℕ) (calls : QueueCalls was s new epoch) where
  queue_moves : Moves (Queue was) (Queue s) (with_state was.cells (Running epoch))
  queue_moves = record { has = tt; is = ap Queue calls.is; lines = calls.lines; same_words = calls.words; whole = calls.whole }

  module _ (k : Knowledge) (i : IsInHand resting k (Queue was)) where
    queue_kept_on : KeepsRoom k (Queue s)
    queue_kept_on = entered_kept (Queue was) (Queue s) epoch queue_moves k i.kept

    queue_rests_on : IsResting k (Queue s)
    queue_rests_on = entered_rests (Queue was) (Queue s) epoch queue_moves k i.used.0

    queue_rests_now : Rests k s
    queue_rests_now = queue_rests k s queue_kept_on queue_rests_on

    queue_reply_on : (command : Command) (reply : Option Reply) → room_of (sizes_of k.settings) command ≡ k.room → reply ≡ reply_to (sizes_in s) (contents_in s) command
        → reply ≡ reply_to (sizes_of k.settings) k.now command
    queue_reply_on command reply here answer = answer ∙ rests_reply k s command queue_rests_now here

    queue_begun_on : (command : Command) (reply : Option Reply) → k.epoch ≡ epoch → room_of (sizes_of k.settings) command ≡ k.room
        → new ≡ answered s new.cells.bank new.history.spare command reply → reply ≡ reply_to (sizes_in s) (contents_in s) command
        → contents_in new ≡ contents_after (sizes_in s) (contents_in s) command → IsInHand (begun_command_use command reply) k (Queue new)
    queue_begun_on command None at here is answer contents = subst (λ (r : CommandRoomState). IsInHand resting k (Queue r)) (sym is)
        (record { kept = queue_kept_on; used = (queue_rests_on, running_free k epoch s.cells.state at (entered_state (Queue was) (Queue s) epoch queue_moves)) })
    queue_begun_on command (Some reply) at here is answer contents =
        let b = begins s new command reply is calls.room.room calls.same (sym answer) contents in
        let running : s.cells.state ≡ Running k.epoch = entered_state (Queue was) (Queue s) epoch queue_moves ∙ ap Running (sym at) in
        record {
          kept = queue_kept k k.history k.now s new queue_kept_on calls.room (begun_leaves k s new command reply queue_rests_now running here b) (b.history ∙ queue_kept_on.history);
          used = begun_works k s new command reply queue_rests_now running here b;
        }

    queue_refused_on : k.epoch ≡ epoch → new ≡ refused_behind s new.plan.spare new.cells.bank new.history.spare → IsInHand resting k (Queue new)
    queue_refused_on at is =
        let r = refuses s new is calls.same in
        let both = queue_refused k s new queue_kept_on queue_rests_on calls.room r in
        record { kept = both.0; used = (both.1, running_free k epoch new.cells.state at (r.state ∙ entered_state (Queue was) (Queue s) epoch queue_moves)) }

  module _ {E : Type 0} (command : Command) where
    pub queue_reply : (result : Result (Option Reply) E) → IfOk result (λ reply. reply ≡ reply_to (sizes_in s) (contents_in s) command)
        → IfOk result (λ reply. (k : Knowledge) → room_of (sizes_of k.settings) command ≡ k.room → IsInHand resting k (Queue was) → reply ≡ reply_to (sizes_of k.settings) k.now command)
    queue_reply (Ok reply) answer = λ k here i. queue_reply_on k i command reply here answer
    queue_reply (Err error) answer = tt

    pub queue_begun : (result : Result (Option Reply) E) → IfOk result (λ reply. new ≡ answered s new.cells.bank new.history.spare command reply)
        → IfOk result (λ reply. reply ≡ reply_to (sizes_in s) (contents_in s) command) → OnOk result (contents_in new ≡ contents_after (sizes_in s) (contents_in s) command)
        → IfOk result (λ reply. (k : Knowledge) → k.epoch ≡ epoch → room_of (sizes_of k.settings) command ≡ k.room → IsInHand resting k (Queue was) → IsInHand (begun_command_use command reply) k (Queue new))
    queue_begun (Ok reply) is answer contents = λ k at here i. queue_begun_on k i command reply at here is answer contents
    queue_begun (Err error) is answer contents = tt

    pub queue_kept_refused : (result : Result (Option Reply) E) → OnErr result (new ≡ refused_behind s new.plan.spare new.cells.bank new.history.spare)
        → OnErr result ((k : Knowledge) → k.epoch ≡ epoch → IsInHand resting k (Queue was) → IsInHand resting k (Queue new))
    queue_kept_refused (Ok reply) is = tt
    queue_kept_refused (Err error) is = λ k at i. queue_refused_on k i at is

-- what holds anyhow holds where a result is an error
pub on_err : {T E : Type 0} → (P : Type 0) (r : Result T E) → P → OnErr r P
on_err P (Ok value) p = tt
on_err P (Err error) p = p
