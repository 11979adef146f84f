-- The entry of the command under way is noted in a room of commands in hand: the room rests.
use Rattle.std.proofs.Common.{◌≡◌, ℕ, ◌+◌, ◌*◌, ◌≤◌, false, List, [], ◌∷◌, ◌++◌, Some, None, length, refl, ap, sym, ◌∙◌, subst, arith, length-append}
use Rattle.seq_object.specs.declared.history.Entry.{Entry}
use Rattle.seq_object.specs.declared.history.Noted.{Noted}
use Rattle.seq_object.specs.Sizes.{sizes_of}
use Rattle.seq_object.specs.Object.{Contents, contents_after}
use Rattle.line_memory.specs.Line.{unasked, is_unasked_in}
use Rattle.room_model.specs.declared.write.PlannedStore.{PlannedStore}
use Rattle.room_model.specs.Writes.{newly_pending}
use Rattle.command_room.specs.declared.under_way.UnderWay.{UnderWay}
use Rattle.command_room.specs.Room.{CommandRoomState, noted}
use Rattle.locked_map.specs.Room.{IsMap}
use Rattle.locked_queue.specs.Queue.{IsQueue}
use Rattle.rooms.specs.declared.room.Room.TheVariants.{Map, Queue}
use Rattle.yard_model.specs.declared.view.TakenPosition.{TakenPosition}
use Rattle.yard_model.specs.Homes.{IsFreeState}
use Rattle.room_in_hand.specs.Known.{Knowledge, with_noted}
use Rattle.room_in_hand.specs.InHand.{resting, working, IsWorking, IsInHand}
use Rattle.room_in_hand.proofs.CommandRooms.{Leaves, map_numbered, queue_numbered, map_kept, queue_kept, low_bound}

-- a list of no length is empty
none_of : (stores : List PlannedStore) → length stores ≡ 0 → stores ≡ []
none_of [] none = refl
none_of (p ∷ ps) none = absurd (omega (arith, none))

abbrev under_of : Entry → UnderWay
under_of entry = record { command = entry.command; reply = entry.reply }

abbrev noted_at : ℕ → Entry → Noted
noted_at ticket entry = record { ticket = ticket; entry = entry }

abbrev entries_behind : Knowledge → ℕ → Entry → List Noted
entries_behind k ticket entry = k.history ++ noted_at ticket entry ∷ []

abbrev now_behind : Knowledge → Entry → Contents
now_behind k entry = contents_after (sizes_of k.settings) k.now entry.command

-- the write-backs that are owed are the entry's
noted_few : (k : Knowledge) (s : CommandRoomState) (ticket : ℕ) (entry : Entry) → IsWorking (under_of entry) k s → s.plan.stores ≡ []
    → s.cells.bank.write_backs + unasked s.cells.bank.lines ≤ k.opened + 4 * length (entries_behind k ticket entry)
noted_few k s ticket entry was none =
    let f = was.owed in
    let p : newly_pending (is_unasked_in s.cells.bank) s.plan.stores ≡ 0 = ap (newly_pending (is_unasked_in s.cells.bank)) none in
    let l : length (entries_behind k ticket entry) ≡ length k.history + 1 = length-append k.history (noted_at ticket entry ∷ []) in
    omega (arith, f, p, l)

noted_leaves : (epoch : ℕ) (s : CommandRoomState) (ticket : ℕ) (entry : Entry) → Leaves epoch s (noted s ticket entry)
noted_leaves epoch s ticket entry = record { settings = refl; number = refl; memory = refl; write_backs = refl }

no_taken : (k : Knowledge) → k.position ≡ None → (t : TakenPosition) → k.position ≡ Some t → ⊥
no_taken k none t is = let e : None ≡ Some t = sym none ∙ is in cc

module _ (s : CommandRoomState) (ticket : ℕ) (entry : Entry) (none : length s.plan.stores ≡ 0) (k : Knowledge) where
  map_noted_at : IsMap (noted s ticket entry) → IsInHand (working (under_of entry)) k (Map s) → IsInHand resting (with_noted k (noted_at ticket entry)) (Map (noted s ticket entry))
  map_noted_at whole was =
      let h : s.history.entries ++ noted_at ticket entry ∷ [] ≡ entries_behind k ticket entry = ap (λ (ns : List Noted). ns ++ noted_at ticket entry ∷ []) was.kept.history in
      record {
        kept = map_kept k (entries_behind k ticket entry) (now_behind k entry) s (noted s ticket entry) was.kept whole (noted_leaves k.epoch s ticket entry) h;
        used = (
          record {
            cells = tt;
            idle = (refl, none_of s.plan.stores none);
            stands = λ low. was.used.stands;
            point = λ t is. absurd (no_taken k (was.kept.no_position (map_numbered k s was.kept).low) t is);
            write_backs =
                let f = noted_few k s ticket entry was.used (none_of s.plan.stores none) in
                let b = low_bound (sizes_of k.settings) k.epoch k.closings k.room (Map (noted s ticket entry)) (map_numbered k s was.kept).low in
                let l = ap (λ (ns : List Noted). length ns) h in
                omega (arith, f, b, l);
          },
          subst (IsFreeState k.epoch false) (sym was.used.running) refl,
        );
      }

  queue_noted_at : IsQueue (noted s ticket entry) → IsInHand (working (under_of entry)) k (Queue s) → IsInHand resting (with_noted k (noted_at ticket entry)) (Queue (noted s ticket entry))
  queue_noted_at whole was =
      let h : s.history.entries ++ noted_at ticket entry ∷ [] ≡ entries_behind k ticket entry = ap (λ (ns : List Noted). ns ++ noted_at ticket entry ∷ []) was.kept.history in
      record {
        kept = queue_kept k (entries_behind k ticket entry) (now_behind k entry) s (noted s ticket entry) was.kept whole (noted_leaves k.epoch s ticket entry) h;
        used = (
          record {
            cells = tt;
            idle = (refl, none_of s.plan.stores none);
            stands = λ low. was.used.stands;
            point = λ t is. absurd (no_taken k (was.kept.no_position (queue_numbered k s was.kept).low) t is);
            write_backs =
                let f = noted_few k s ticket entry was.used (none_of s.plan.stores none) in
                let b = low_bound (sizes_of k.settings) k.epoch k.closings k.room (Queue (noted s ticket entry)) (queue_numbered k s was.kept).low in
                let l = ap (λ (ns : List Noted). length ns) h in
                omega (arith, f, b, l);
          },
          subst (IsFreeState k.epoch false) (sym was.used.running) refl,
        );
      }

-- of the room that a call made so
pub map_noted : (s new : CommandRoomState) (ticket : ℕ) (entry : Entry) → length s.plan.stores ≡ 0 → new ≡ noted s ticket entry → IsMap new
    → (k : Knowledge) → IsInHand (working (under_of entry)) k (Map s) → IsInHand resting (with_noted k (noted_at ticket entry)) (Map new)
map_noted s new ticket entry none is whole k was =
    subst (λ (r : CommandRoomState). IsMap r → IsInHand resting (with_noted k (noted_at ticket entry)) (Map r)) (sym is) (λ w. map_noted_at s ticket entry none k w was) whole

pub queue_noted : (s new : CommandRoomState) (ticket : ℕ) (entry : Entry) → length s.plan.stores ≡ 0 → new ≡ noted s ticket entry → IsQueue new
    → (k : Knowledge) → IsInHand (working (under_of entry)) k (Queue s) → IsInHand resting (with_noted k (noted_at ticket entry)) (Queue new)
queue_noted s new ticket entry none is whole k was =
    subst (λ (r : CommandRoomState). IsQueue r → IsInHand resting (with_noted k (noted_at ticket entry)) (Queue r)) (sym is) (λ w. queue_noted_at s ticket entry none k w was) whole
