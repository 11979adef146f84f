-- The present clause tried on memories that were worked out by hand.
use Rattle.std.proofs.Common.{◌≡◌, ℕ, ◌+◌, ◌<◌, ◌≤◌, ◌⊎◌, zero, suc, [], ◌∷◌, take, None, refl, sym, subst, inl, inr, ⊎_elim, arith, ap, List, Some, ◌∙◌}
use Rattle.std.specs.Prelude.{slice_index_or}
use Rattle.std.specs.List.{All, Contains}
use Rattle.std.proofs.lemmas.List.Elements.{All-from_recursion}
use Rattle.seq_object.specs.declared.command.Command.TheVariants.{Put, Get, Enq}
use Rattle.seq_object.specs.Object.{Pairs, shard_pairs, room_of}
use Rattle.seq_object.specs.History.{State}
use Rattle.line_memory.specs.Line.{LineState, BankState, quiet_line, bank_load, load_of, stored, written_back, fenced}
use Rattle.room_model.specs.declared.write.PlannedStore.{PlannedStore}
use Rattle.room_model.specs.MapRoom.{live_layout, IsMapRoom}
use Rattle.room_model.specs.Rooms.{StandsFor, point_in}
use Rattle.life_model.specs.declared.life.Outcome.TheVariants.{Finished, Cut}
use Rattle.life_model.specs.Life.{next_command, contents_now, point_after}
use Rattle.life_model.specs.Present.{LoadsFirstStores, IsUnderWay, IsPresent}
use Rattle.life_laws.specs.CutExamples.{small, putting, put_done, put_stores, blank, formatted_from, line_of_epoch, fenced_write, half_put, PresentExamples, getting, enqueuing, getting_twice, got_twice, memory_with, header_line}
use Rattle.life_laws.specs.Examples.{idle}
use Rattle.life_model.specs.declared.life.Life.TheVariants.{Start}
use Rattle.life_laws.proofs.TriedCounts.{count_none, low_count}
use Rattle.life_laws.proofs.Stored.{loads_stored}
use Rattle.life_laws.proofs.Memories.{below_eight, broken, no_nodes, no_items, loads_stand, put_leaves}
use Rattle.seq_object.specs.declared.history.RestartPoint.{RestartPoint}
use Rattle.seq_object.specs.declared.command.Command.{Command}
use Rattle.room_model.specs.Writes.{command_stores, stored_in}
use Rattle.room_model.specs.Chains.{RoomWords}
use Rattle.seq_object.specs.Sizes.{thread_room}

-- the room of the put that was cut stands for no map
half_broken : (line : LineState) (pairs : Pairs) → IsMapRoom live_layout small 0 (load_of (half_put line) 0) pairs → ⊥
half_broken line pairs = broken (load_of (half_put line) 0) pairs refl refl
    (below_eight (λ b. load_of (half_put line) 0 (b + 1) 0 ≡ 0) refl refl refl refl refl refl refl refl)

-- a list of the one number 0 has no other
only_zero : (i room : ℕ) → i < 1 → slice_index_or (0 ∷ []) i (suc room) ≡ suc room → ⊥
only_zero zero room lt e = absurd (omega (arith, e))
only_zero (suc i) room lt e = absurd (omega (arith, lt))

-- the put is under way in that room, with the five stores of its first write
under : IsUnderWay putting [] [] 0 (load_of (half_put blank) 0)
under = record {
  thread = 0;
  command = Put 5 7;
  next = refl;
  here = refl;
  loads = record {
    before = bank_load (formatted_from 9);
    stood = no_nodes (bank_load (formatted_from 9)) refl refl refl
        (below_eight (λ b. bank_load (formatted_from 9) (b + 1) 0 ≡ 0) refl refl refl refl refl refl refl refl);
    made = 5;
    loads = loads_stored (formatted_from 9) (take 5 put_stores) within;
  };
}
  where
    within : All (λ (s : PlannedStore). s.line < 16) (take 5 put_stores)
    within = All-from_recursion (λ s. s.line < 16) (take 5 put_stores) (omega arith, (omega arith, (omega arith, (omega arith, (omega arith, tt)))))

-- a room that is named may be cut within its command
named_present : IsPresent putting [] [] (0 ∷ []) Cut (half_put blank)
named_present = record { home = home; out = out; points = points; ascending = tt; few = omega arith; none = tt }
  where
    home : (room : ℕ) → room ≤ 1 → (Contains (0 ∷ []) room → ⊥)
        → StandsFor live_layout small room (load_of (half_put blank) room) (contents_now putting [])
    home zero le never = absurd (never (0, omega arith, refl))
    home (suc zero) le never = no_items (load_of (half_put blank) 1) refl refl refl refl refl
    home (suc (suc room)) le never = absurd (omega arith)

    out : (room : ℕ) → room ≤ 1 → Contains (0 ∷ []) room → StandsFor live_layout small room (load_of (half_put blank) room) (contents_now putting [])
        ⊎ IsUnderWay putting [] [] room (load_of (half_put blank) room)
    out zero le c = inr under
    out (suc room) le c = absurd (only_zero c.0 room c.1 c.2)

    points : (thread : ℕ) → thread < 1 → (Contains (0 ∷ []) (thread_room small thread) → ⊥)
        → (point_in live_layout (load_of (half_put blank) (thread_room small thread)) ≡ point_after putting [] thread)
        ⊎ (point_in live_layout (load_of (half_put blank) (thread_room small thread)) ≡ point_after putting [] thread)
    points zero lt never = inl refl
    points (suc thread) lt never = absurd (omega arith)

-- by loads all rooms stand for what was put
done_present : IsPresent putting put_done (1 ∷ []) [] Finished fenced_write
done_present = record {
  home = home;
  out = λ room le c. absurd (omega (arith, c.1));
  points = points;
  ascending = tt;
  few = omega arith;
  none =
      refl;
}
  where
    home : (room : ℕ) → room ≤ 1 → (Contains [] room → ⊥)
        → StandsFor live_layout small room (load_of fenced_write room) (contents_now putting put_done)
    home room le never = subst (λ (s : State). StandsFor live_layout small room (load_of fenced_write room) s.contents) (sym put_leaves)
        (loads_stand (fenced (written_back (stored (line_of_epoch 1) 0 2))) room le)

    points : (thread : ℕ) → thread < 1 → (Contains [] (thread_room small thread) → ⊥)
        → (point_in live_layout (load_of fenced_write (thread_room small thread)) ≡ point_after putting (take 1 put_done) thread)
        ⊎ (point_in live_layout (load_of fenced_write (thread_room small thread)) ≡ point_after putting put_done thread)
    points zero lt never = inl refl
    points (suc thread) lt never = absurd (omega arith)

-- no thread has a command after the put
no_next : (thread : ℕ) → next_command putting put_done thread ≡ None
no_next zero = refl
no_next (suc thread) = refl

-- nor has one whose script is empty
no_script : (thread : ℕ) → next_command (idle Start) [] thread ≡ None
no_script zero = refl
no_script (suc thread) = refl

-- formatted memory, but that the map room counts five pairs
abbrev five_counted : List BankState
five_counted = memory_with (quiet_line (0 ∷ 9 ∷ 5 ∷ 0 ∷ 0 ∷ 0 ∷ 0 ∷ 0 ∷ [])) blank (line_of_epoch 1)

-- the put is not under way there, with any number of its stores
never_five : IsUnderWay putting [] [] 0 (load_of five_counted 0) → ⊥
never_five u = by_thread u.thread u.next
  where
    first : LoadsFirstStores small 1 0 (Some u.command) (load_of five_counted 0) (contents_now putting [])
    first = u.loads

    stores : Command → List PlannedStore
    stores command = take first.made (command_stores live_layout small 1 0 first.before command)

    by_thread : (thread : ℕ) → next_command putting [] thread ≡ Some u.command → ⊥
    by_thread zero next =
        let same : Put 5 7 ≡ u.command = cc (next) in
        let here : stored_in first.before (stores (Put 5 7)) 0 2 ≡ 5 =
        ap (λ (c : Command). stored_in first.before (stores c) 0 2) same ∙ sym (first.loads 0 2) in
        absurd (omega (arith, here, low_count first.before first.made first.stood))
    by_thread (suc thread) next = absurd (cc (next))

-- no stores
abbrev no_store : List PlannedStore
no_store = []

-- of no stores a prefix is none
no_stores : (n : ℕ) → take n no_store ≡ []
no_stores zero = refl
no_stores (suc n) = refl

-- the clause that holds or breaks
pub present_tried : PresentExamples
present_tried = record {
  done = done_present;
  named = named_present;
  not_named = λ p. half_broken blank (shard_pairs small 0 (contents_now putting []).pairs)
      (p.home 0 (omega arith) (λ c. absurd (omega (arith, c.1))));
  no_command = λ p. ⊎_elim
      (λ (s : StandsFor live_layout small 0 (load_of (half_put blank) 0) (contents_now putting put_done)). half_broken blank
      (shard_pairs small 0 (contents_now putting put_done).pairs) s)
      (λ (u : IsUnderWay putting put_done [] 0 (load_of (half_put blank) 0)). absurd (cc (no_next u.thread, u.next)))
      (p.out 0 (omega arith) (0, omega arith, refl));
  other_command = λ p. ⊎_elim
      (λ (s : StandsFor live_layout small 0 (load_of (half_put blank) 0) (contents_now enqueuing [])). half_broken blank
      (shard_pairs small 0 (contents_now enqueuing []).pairs) s)
      (λ (u : IsUnderWay enqueuing [] [] 0 (load_of (half_put blank) 0)). no_item u.thread u.command u.next u.here)
      (p.out 0 (omega arith) (0, omega arith, refl));
  other_room = λ u. no_item u.thread u.command u.next u.here;
  no_prefix = λ p. ⊎_elim
      (λ (s : StandsFor live_layout small 0 (load_of (half_put blank) 0) (contents_now getting [])). half_broken blank
      (shard_pairs small 0 (contents_now getting []).pairs) s)
      no_get
      (p.out 0 (omega arith) (0, omega arith, refl));
  nobody = λ p. ⊎_elim
      (λ (s : StandsFor live_layout small 0 (load_of (half_put blank) 0) (contents_now (idle Start) [])). half_broken blank
      (shard_pairs small 0 (contents_now (idle Start) []).pairs) s)
      (λ (u : IsUnderWay (idle Start) [] [] 0 (load_of (half_put blank) 0)). absurd (cc (no_script u.thread, u.next)))
      (p.out 0 (omega arith) (0, omega arith, refl));
  other_count = λ p. ⊎_elim
      (λ (s : StandsFor live_layout small 0 (load_of five_counted 0) (contents_now putting [])). absurd (omega (arith, count_none (load_of five_counted 0) s)))
      never_five
      (p.out 0 (omega arith) (0, omega arith, refl));
  held_at_end = λ p. absurd (cc (p.none));
  held_at_stall = λ p. absurd (cc (p.none));
  falling = λ p. absurd (omega (arith, p.ascending.0));
  two_held = λ p. absurd (omega (arith, p.few));
  other_position = λ p. elsewhere (p.points 0 (omega arith) (λ c. absurd (omega (arith, c.1))));
  recovering = refl;
  recovering_held = λ e. absurd (cc (e));
}
  where
    there : RestartPoint
    there = point_in live_layout (load_of (memory_with header_line (line_of_epoch 1) (line_of_epoch 1)) 2)

    elsewhere : (there ≡ point_after getting_twice [] 0) ⊎ (there ≡ point_after getting_twice got_twice 0) → ⊥
    elsewhere p = ⊎_elim (λ (e : there ≡ point_after getting_twice [] 0). absurd (omega (arith, ap (λ (p : RestartPoint). p.position) e)))
        (λ (e : there ≡ point_after getting_twice got_twice 0). absurd (omega (arith, ap (λ (p : RestartPoint). p.position) e))) p

    -- the item is for the queue room
    no_item : (thread : ℕ) (command : Command) → next_command enqueuing [] thread ≡ Some command → room_of small command ≡ 0 → ⊥
    no_item zero command next here =
        let same : Enq 6 ≡ command = cc (next) in
        absurd (omega (arith, ap (room_of small) same, here))
    no_item (suc thread) command next here = absurd (cc (next))

    -- a get has no stores, so its room stands as it is
    no_get : IsUnderWay getting [] [] 0 (load_of (half_put blank) 0) → ⊥
    no_get u = by_thread u.thread u.next
      where
        first : LoadsFirstStores small 1 0 (Some u.command) (load_of (half_put blank) 0) (contents_now getting [])
        first = u.loads

        stores : Command → List PlannedStore
        stores command = take first.made (command_stores live_layout small 1 0 first.before command)

        as_it_is : Get 5 ≡ u.command → IsMapRoom live_layout small 0 (load_of (half_put blank) 0) (shard_pairs small 0 (contents_now getting []).pairs)
        as_it_is same = subst (λ (r : RoomWords). IsMapRoom live_layout small 0 r (shard_pairs small 0 (contents_now getting []).pairs))
            (λ m line word. sym (first.loads line word ∙ sym (ap (λ (c : Command). stored_in first.before (stores c) line word) same)
            ∙ ap (λ (ss : List PlannedStore). stored_in first.before ss line word) (no_stores first.made)) m) first.stood

        by_thread : (thread : ℕ) → next_command getting [] thread ≡ Some u.command → ⊥
        by_thread zero next = half_broken blank (shard_pairs small 0 (contents_now getting []).pairs) (as_it_is (cc (next)))
        by_thread (suc thread) next = absurd (cc (next))
