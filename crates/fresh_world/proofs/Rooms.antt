-- What is made of a bank of formatted memory is a room as a start has it.
use Rattle.std.proofs.Common.{◌≡◌, ℕ, zero, suc, ◌<◌, ◌≤◌, ◌==◌, Bool, Result, Ok, Err, IfOk, List, [], length, if◌then◌else◌, refl, sym, ap, ◌∙◌, subst, arith}
use Rattle.std.specs.Prelude.{slice_index}
use Rattle.seq_object.specs.declared.settings.Settings.{Settings}
use Rattle.seq_object.specs.declared.sizes.Sizes.{Sizes}
use Rattle.seq_object.specs.Sizes.{AreValid, sizes_of, thread_room, super_room, line_count}
use Rattle.seq_object.specs.Object.{no_contents}
use Rattle.line_memory.specs.Line.{BankState, line_at, bank_load, bank_with_spare}
use Rattle.room_model.specs.Cell.{tag_of}
use Rattle.room_model.specs.Chains.{HasSameRecords}
use Rattle.room_model.specs.EpochLine.{epoch_line}
use Rattle.room_model.specs.Formatted.{formatted, first_node, formatted_bank, line_bank, line_of_words}
use Rattle.room_model.specs.MapRoom.{live_layout}
use Rattle.room_model.specs.Rooms.{StandsFor}
use Rattle.room_laws.proofs.Formatted.{formatted_room}
use Rattle.room_laws.proofs.MapLaws.{layouts}
use Rattle.room_laws.proofs.Tests.{by_Bool}
use Rattle.room_laws.proofs.Words.{words}
use Rattle.formatting.proofs.ByRoom.{by_kind, formatted_lines, formatted_quiet, no_tag, cells_load}
use Rattle.incll_var.specs.declared.state.CellState.TheVariants.{Saved}
use Rattle.incll_var.specs.Cells.{CellBankState, IsCellBank, IsSavedIn, AreSettled, cells_in}
use Rattle.command_room.specs.Room.{MayBeRoom, new_room, CommandRoomState}
use Rattle.command_room.proofs.FormattedRooms.{formatted_may}
use Rattle.locked_map.specs.Room.{IsMap}
use Rattle.locked_queue.specs.Queue.{IsQueue}
use Rattle.restart_point.specs.Rooms.{ThreadRoomState, IsThreadRoom, with_line_spare}
use Rattle.epoch_word.specs.SuperLine.{HoldsEpoch, IsSuperRoom}
use Rattle.rooms.specs.declared.room.Room.{Room}
use Rattle.rooms.specs.declared.room.Room.TheVariants.{Map, Queue, Thread, Super}
use Rattle.rooms.specs.Rooms.{cells_of, history_of, IsIdle, IsKindOf}
use Rattle.rooms.proofs.Others.{command_lines, one_line}
use Rattle.fresh_world.specs.Rooms.{IsFreshRoom, first_end}

-- what each value has, the value of a result has
pub if_ok : {X E : Type 0} (P Q : X → Type 0) → ((x : X) → P x → Q x) → (r : Result X E) → IfOk r P → IfOk r Q
if_ok P Q f (Ok x) h = f x h
if_ok P Q f (Err e) h = h

-- Rooms of commands.

-- the lines of a formatted bank are settled before the first epoch
pub bank_settled : (z : Sizes) (k : ℕ) (bank : BankState) → AreValid z → bank ≡ formatted_bank z k → AreSettled 0 bank.lines
bank_settled z k bank valid is = subst (λ (b : BankState). AreSettled 0 b.lines) (sym is) (λ line lt.
    let lines = formatted_lines z k in
    let none : tag_of (line_at (formatted_bank z k).lines line).base ≡ 0 = no_tag z k line valid (omega (arith, lt, lines)) in
    record { pending = formatted_quiet z k line; tag = omega (arith, none) })

-- nothing was written back in it
none_written : (z : Sizes) (k : ℕ) → (formatted_bank z k).write_backs ≡ 0
none_written z k = by_kind (λ lines bank words. bank.write_backs ≡ 0) z k refl (λ _. refl) refl

-- a room has its lines up to its first node
node_fits : (z : Sizes) (k : ℕ) → AreValid z → first_node live_layout z k ≤ z.lines
node_fits z k valid = let some = valid.some_lines in by_Bool (λ (b : Bool). (if b then 2 else 9) ≤ z.lines) (k == z.shards) (λ _. omega (arith, some)) (λ _. omega (arith, some))

module _ (settings : Settings) (k : ℕ) (valid : AreValid (sizes_of settings)) (le : k ≤ settings.shards) where
  abbrev z : Sizes
  z = sizes_of settings

  module _ (cells : CellBankState) (is : cells ≡ cells_in (Saved 0) (formatted_bank z k)) where
    lines_are : length cells.bank.lines ≡ line_count z k
    lines_are = ap (λ (c : CellBankState). length c.bank.lines) is ∙ formatted_lines z k

    loads_are : HasSameRecords (bank_load cells.bank) (formatted (first_node live_layout z k))
    loads_are line w few = ap (λ (c : CellBankState). bank_load c.bank line w) is ∙ cells_load z k valid le line w few

    state_is : cells.state ≡ Saved 0
    state_is = ap (λ (c : CellBankState). c.state) is

    stands_for : StandsFor live_layout z k (bank_load cells.bank) no_contents
    stands_for = words live_layout z k (formatted (first_node live_layout z k)) (bank_load cells.bank) no_contents layouts.in_use (formatted_room live_layout z k layouts.in_use (node_fits z k valid)) loads_are

  -- its cells may be a room
  pub may_be : (bank : BankState) (cells : CellBankState) → bank ≡ formatted_bank z k → cells ≡ cells_in (Saved 0) bank → IsCellBank cells → MayBeRoom settings k cells
  may_be bank cells is_bank is_cells whole =
      let is : cells ≡ cells_in (Saved 0) (formatted_bank z k) = is_cells ∙ ap (cells_in (Saved 0)) is_bank in
      subst (MayBeRoom settings k) (sym is) (formatted_may settings k (cells_in (Saved 0) (formatted_bank z k)) valid le (subst IsCellBank is whole)
      (formatted_lines z k ∙ command_lines z k le) tt (loads_are (cells_in (Saved 0) (formatted_bank z k)) refl))

  -- and the room is as a start has it
  pub room_fresh : (x : Room) (lengths : List ℕ) → IsKindOf settings k x → IsIdle x → history_of x ≡ [] → IsCellBank (cells_of x) → cells_of x ≡ cells_in (Saved 0) (formatted_bank z k) → IsFreshRoom settings lengths k x
  room_fresh x lengths kind idle history whole is = record {
    kind = record { kind = kind; lines = lines_are (cells_of x) is };
    idle = idle;
    history = history;
    write_backs = ap (λ (c : CellBankState). c.bank.write_backs) is ∙ none_written z k;
    cells = λ _. whole;
    saved = λ _. subst (IsSavedIn (λ c. c ≡ 0)) (sym (state_is (cells_of x) is)) refl;
    stands = λ _. stands_for (cells_of x) is;
    place = λ i lt at. absurd (omega (arith, le, at));
    told = λ i lt at. absurd (omega (arith, le, at));
    eight = λ at. absurd (omega (arith, le, at));
    nothing_pending = λ at. absurd (omega (arith, le, at));
    epoch = λ at. absurd (omega (arith, le, at));
  }

-- a map room
pub map_fresh : (settings : Settings) (k : ℕ) (bank : BankState) (cells : CellBankState) (x : CommandRoomState) (lengths : List ℕ) → AreValid (sizes_of settings) → k < settings.shards → bank ≡ formatted_bank (sizes_of settings) k
    → cells ≡ cells_in (Saved 0) bank → x ≡ new_room settings k cells → IsMap x → IsFreshRoom settings lengths k (Map x)
map_fresh settings k bank cells x lengths valid lt is_bank is_cells is whole =
    room_fresh settings k valid (omega (arith, lt)) (Map x) lengths (lt, ap (λ (r : CommandRoomState). r.room) is, ap (λ (r : CommandRoomState). r.settings) is)
    (ap (λ (r : CommandRoomState). r.under_way) is, ap (λ (r : CommandRoomState). r.plan.stores) is) (ap (λ (r : CommandRoomState). r.history.entries) is) whole.room.cells
    (ap (λ (r : CommandRoomState). r.cells) is ∙ is_cells ∙ ap (cells_in (Saved 0)) is_bank)

-- the queue room
pub queue_fresh : (settings : Settings) (bank : BankState) (cells : CellBankState) (x : CommandRoomState) (lengths : List ℕ) → AreValid (sizes_of settings) → bank ≡ formatted_bank (sizes_of settings) settings.shards
    → cells ≡ cells_in (Saved 0) bank → x ≡ new_room settings settings.shards cells → IsQueue x → IsFreshRoom settings lengths settings.shards (Queue x)
queue_fresh settings bank cells x lengths valid is_bank is_cells is whole =
    room_fresh settings settings.shards valid (omega arith) (Queue x) lengths (refl, ap (λ (r : CommandRoomState). r.room) is, ap (λ (r : CommandRoomState). r.settings) is)
    (ap (λ (r : CommandRoomState). r.under_way) is, ap (λ (r : CommandRoomState). r.plan.stores) is) (ap (λ (r : CommandRoomState). r.history.entries) is) whole.room.cells
    (ap (λ (r : CommandRoomState). r.cells) is ∙ is_cells ∙ ap (cells_in (Saved 0)) is_bank)

-- Rooms of one line.

-- a line of zeros is settled
zeros_settled : AreSettled 0 (line_bank (line_of_words 0 0)).lines
zeros_settled zero lt = record { pending = refl; tag = omega arith }
zeros_settled (suc i) lt = absurd (omega (arith, lt))

pub line_settled : (bank : BankState) → bank ≡ line_bank (line_of_words 0 0) → AreSettled 0 bank.lines
line_settled bank is = subst (λ (b : BankState). AreSettled 0 b.lines) (sym is) zeros_settled

-- a thread's room
pub thread_fresh : (commands spare : ℕ) (bank : BankState) (cells : CellBankState) (x : ThreadRoomState) → bank ≡ line_bank (line_of_words 0 0) → cells ≡ cells_in (Saved 0) bank → x.cells ≡ with_line_spare cells spare
    → x.plan.stores ≡ [] → x.end ≡ first_end commands → IsThreadRoom x
    → (settings : Settings) (lengths : List ℕ) (i : ℕ) → i < settings.threads → slice_index lengths i ≡ commands → IsFreshRoom settings lengths (thread_room (sizes_of settings) i) (Thread x)
thread_fresh commands spare bank cells x is_bank is_cells is_room idle ends whole settings lengths i lt many =
    let is : x.cells ≡ with_line_spare (cells_in (Saved 0) (line_bank (line_of_words 0 0))) spare = is_room ∙ ap (λ (c : CellBankState). with_line_spare c spare) (is_cells ∙ ap (cells_in (Saved 0)) is_bank) in
    record {
      kind = record { kind = (omega arith, omega (arith, lt)); lines = whole.one ∙ sym (one_line (sizes_of settings) (thread_room (sizes_of settings) i) (omega arith)) };
      idle = idle;
      history = refl;
      write_backs = ap (λ (c : CellBankState). c.bank.write_backs) is;
      cells = λ _. whole.cells;
      saved = λ _. subst (λ (c : CellBankState). IsSavedIn (λ e. e ≡ 0) c.state) (sym is) refl;
      stands = λ le. absurd (omega (arith, le));
      place = λ _ _ _. ap (λ (c : CellBankState). bank_load c.bank 0 0) is;
      told = λ j inside at. let same : i ≡ j = omega (arith, at) in ends ∙ ap first_end (sym many ∙ ap (slice_index lengths) same);
      eight = λ at. absurd (omega (arith, at, lt));
      nothing_pending = λ at. absurd (omega (arith, at, lt));
      epoch = λ at. absurd (omega (arith, at, lt));
    }

-- the bank of the super room holds epoch 1
pub word_holds : (bank : BankState) → bank ≡ line_bank (line_of_words 1 0) → HoldsEpoch bank
word_holds bank is = subst HoldsEpoch (sym is) (record { one = refl; quiet = refl; some = omega arith; fits = omega arith })

-- the super room
pub super_fresh : (bank x : BankState) (spare : ℕ) → bank ≡ line_bank (line_of_words 1 0) → x ≡ bank_with_spare bank 0 spare → IsSuperRoom x
    → (settings : Settings) (lengths : List ℕ) → IsFreshRoom settings lengths (super_room (sizes_of settings)) (Super x)
super_fresh bank x spare is_bank is_room whole settings lengths =
    let is : x ≡ bank_with_spare (line_bank (line_of_words 1 0)) 0 spare = is_room ∙ ap (λ (b : BankState). bank_with_spare b 0 spare) is_bank in
    record {
      kind = record { kind = refl; lines = whole.one ∙ sym (one_line (sizes_of settings) (super_room (sizes_of settings)) (omega arith)) };
      idle = tt;
      history = refl;
      write_backs = ap (λ (b : BankState). b.write_backs) is;
      cells = λ lt. absurd (omega (arith, lt));
      saved = λ lt. absurd (omega (arith, lt));
      stands = λ le. absurd (omega (arith, le));
      place = λ i lt at. absurd (omega (arith, lt, at));
      told = λ i lt at. absurd (omega (arith, lt, at));
      eight = λ _. whole.line.eight;
      nothing_pending = λ _. ap (λ (b : BankState). (epoch_line b).pending) is;
      epoch = λ _. ap (λ (b : BankState). bank_load b 0 0) is;
    }
