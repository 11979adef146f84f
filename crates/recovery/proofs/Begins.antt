-- The rooms with which a recovery begins.
use Rattle.std.proofs.Common.{◌≡◌, ℕ, suc, ◌+◌, ◌*◌, ◌<◌, ◌≤◌, ◌≢◌, ◌==◌, ◌++◌, Bool, true, false, count_by, cond, eq-eqb, Result, Ok, Err, IfOk, List, [], ◌∷◌, length, get_or-set_same, length-set, if◌then◌else◌, refl, sym, ap, ◌∙◌, subst, arith}
use Rattle.std.specs.Prelude.{slice_index}
use Rattle.std.proofs.lemmas.Bool.{ne_eqb}
use Rattle.std.proofs.lemmas.List.Sums.{sum_by-cons}
use Rattle.room_model.specs.Cell.{tag_of}
use Rattle.incll_var.specs.declared.restore.RestoreEvent.{RestoreEvent}
use Rattle.incll_var.specs.declared.restore.RestoreEvent.TheVariants.{Fences}
use Rattle.incll_var.specs.Restore.{tagged_from, restores, asks, restore_events, events_at}
use Rattle.seq_object.specs.declared.settings.Settings.{Settings}
use Rattle.seq_object.specs.Sizes.{AreValid, sizes_of, super_room}
use Rattle.line_memory.specs.Line.{BankState, LineState, with_spare, bank_with_spare, no_line, latest}
use Rattle.line_memory.specs.declared.store.Store.{Store}
use Rattle.room_model.specs.Chains.{RoomWords}
use Rattle.room_model.specs.MapRoom.{live_layout}
use Rattle.room_model.specs.Rooms.{StandsFor, point_in}
use Rattle.room_laws.proofs.OneContents.{stands_itself}
use Rattle.life_model.specs.Life.{Opening, sizes}
use Rattle.incll_var.specs.declared.state.CellState.{CellState}
use Rattle.incll_var.specs.declared.state.CellState.TheVariants.{Torn}
use Rattle.incll_var.specs.Cells.{CellBankState, IsCellBank, IsSaved, HasSameCells, AreSettled}
use Rattle.command_room.specs.Room.{MayBeRoom, new_room, CommandRoomState}
use Rattle.locked_map.specs.Room.{IsMap}
use Rattle.locked_queue.specs.Queue.{IsQueue}
use Rattle.restart_point.specs.Rooms.{ThreadRoomState, IsThreadRoom}
use Rattle.planned_cells.proofs.Loads.{more_held}
use Rattle.rooms.proofs.Others.{command_lines, one_line}
use Rattle.epoch_word.specs.SuperLine.{HoldsEpoch, IsSuperRoom}
use Rattle.rooms.specs.declared.room.Room.{Room}
use Rattle.rooms.specs.declared.room.Room.TheVariants.{Map, Queue, Thread, Super}
use Rattle.rooms.specs.Rooms.{bank_of, state_of, history_of, IsIdle, IsKindOf, IsWhole}
use Rattle.epoch_word.specs.declared.stage.EpochStage.TheVariants.{Before}
use Rattle.recovery.specs.Recovering.{IsInRestore, IsRoomIn, asks_left}
use Rattle.recovery.specs.Banks.{IsBankOf, IsOpeningOf, MayBecome, Becomes, tagged_in, most_in, events_for, bank_events}
use Rattle.recovery.proofs.Events.{no_super, of_commands}
use Rattle.recovery.proofs.EpochEvents.{super_in}
use Rattle.seq_object.specs.declared.sizes.Sizes.{Sizes}
use Rattle.room_model.specs.Banks.{memory_words}
use Rattle.room_model.specs.EpochLine.{epoch_line, loaded_epoch, memory_epoch}
use Rattle.room_model.specs.Walks.{IsRoom}
use Rattle.epoch_word.specs.Stages.{IsAtStage}
use Rattle.planned_cells.specs.Planned.{words_in}
use Rattle.room_laws.proofs.MapLaws.{layouts}

-- what torn cells are of
pub record HasTorn (epoch : ℕ) (bank : BankState) (cells : CellBankState) : Type 0 where
  pub state : cells.state ≡ Torn epoch
  pub held : memory_words epoch cells.bank ≡ memory_words epoch bank
  pub same : HasSameCells bank cells.bank
  pub whole : IsCellBank cells
  pub todo : cells.todo ≡ events_at epoch bank.lines

-- they may be a room
pub may_be : (settings : Settings) (epoch k : ℕ) (bank : BankState) (cells : CellBankState) → k ≤ settings.shards → MayBecome settings epoch k bank → HasTorn epoch bank cells → MayBeRoom settings k cells
may_be settings epoch k bank cells le may torn =
    let o = may.0 in
    let is = may.1 in
    let z : sizes o ≡ sizes_of settings = ap sizes_of is.settings_are in
    let inside : k ≤ o.settings.shards = subst (λ (s : Settings). k ≤ s.shards) (sym is.settings_are) le in
    let stands : StandsFor live_layout (sizes_of settings) k (memory_words epoch bank) o.state.contents =
    subst (λ (e : ℕ). StandsFor live_layout (sizes_of settings) k (memory_words e bank) o.state.contents) is.epoch_is (subst (λ (y : Sizes). StandsFor live_layout y k (memory_words o.epoch bank) o.state.contents) z (may.2.stands inside)) in
    record {
      sizes = subst AreValid z is.valid;
      number = le;
      whole = torn.whole;
      lines = torn.same.count ∙ may.2.lines ∙ command_lines (sizes o) k inside ∙ ap (λ (y : Sizes). y.lines) z;
      stands = subst (λ (state : CellState). IsRoom live_layout (sizes_of settings) k (words_in state cells.bank [])) (sym torn.state)
          (subst (λ (r : RoomWords). IsRoom live_layout (sizes_of settings) k r) (sym torn.held) (stands_itself live_layout (sizes_of settings) k (memory_words epoch bank) o.state.contents layouts.in_use stands));
    }

-- a room of torn cells of a bank
pub room_begun : (o : Opening) (k : ℕ) (bank : BankState) (x : Room) → IsBankOf o k bank → k < super_room (sizes o) → IsKindOf o.settings k x → IsWhole x → IsIdle x → history_of x ≡ []
    → state_of x ≡ Torn o.epoch → HasSameCells bank (bank_of x) → IsRoomIn o Before k x
room_begun o k bank x of lt kind whole idle history state same =
    let held : memory_words o.epoch (bank_of x) ≡ memory_words o.epoch bank = more_held o.epoch bank (bank_of x) same in
    record {
      kind = record { kind = kind; lines = same.count ∙ of.lines };
      whole = whole;
      idle = idle;
      history = history;
      state = λ cell. subst (IsInRestore o.epoch) (sym state) refl;
      done = λ cell done. absurd done;
      stands = λ le. subst (λ (r : RoomWords). StandsFor live_layout (sizes o) k r o.state.contents) (sym held) (of.stands le);
      point = λ i inside at. of.point i inside at ∙ ap (λ (r : RoomWords). point_in live_layout r) (sym held);
      loaded = λ cell saved. absurd (subst IsSaved state saved);
      epoch = λ at. absurd (no_super o.settings k at lt);
    }

-- the super room of a bank with room for a store more
pub word_begun : (epoch : ℕ) (bank new : BankState) → HoldsEpoch bank → memory_epoch bank ≡ epoch → new ≡ bank_with_spare bank 0 (epoch_line new).spare → IsAtStage Before epoch new × (length new.lines ≡ length bank.lines)
word_begun epoch bank new holds at is =
    let one = holds.one in
    let line : epoch_line new ≡ with_spare (epoch_line bank) (epoch_line new).spare = ap epoch_line is ∙ get_or-set_same bank.lines 0 (with_spare (epoch_line bank) (epoch_line new).spare) no_line (omega (arith, one)) in
    let quiet : (epoch_line new).pending ≡ [] = ap (λ (l : LineState). l.pending) line ∙ holds.quiet in
    let held : memory_epoch new ≡ memory_epoch bank = ap (λ (l : LineState). slice_index l.base 0) line in
    let load : loaded_epoch new ≡ memory_epoch new = ap (λ (ss : List Store). latest (slice_index (epoch_line new).base 0) 0 ss) quiet in
    ((record { held = sym load; quiet = quiet }, load ∙ held ∙ at), ap (λ (b : BankState). length b.lines) is ∙ length-set bank.lines 0 _)

-- the write-backs of a restore are as many as the cells that are tagged
asks_restores : (is : List ℕ) (rest : List RestoreEvent) → asks_left (restores is ++ rest) ≡ asks_left rest
asks_restores [] rest = refl
asks_restores (i ∷ is) rest = asks_restores is rest

asks_asks : (is : List ℕ) → asks_left (asks is ++ Fences ∷ []) ≡ length is
asks_asks [] = refl
asks_asks (i ∷ is) = let tail = asks_asks is in omega (arith, tail)

asks_events : (is : List ℕ) → asks_left (restore_events is) ≡ length is
asks_events [] = refl
asks_events (i ∷ is) = asks_restores (i ∷ is) (asks (i ∷ is) ++ Fences ∷ []) ∙ asks_asks (i ∷ is)

tagged-count : (epoch i : ℕ) (ls : List LineState) → length (tagged_from epoch i ls) ≡ count_by (λ (l : LineState). tag_of l.base == epoch) ls
tagged-count epoch i [] = refl
tagged-count epoch i (l ∷ ls) = go (tag_of l.base == epoch) (tagged-count epoch (i + 1) ls) ∙ sym (sum_by-cons (λ (k : LineState). cond (tag_of k.base == epoch) 1 0) l ls)
  where
    go : (b : Bool) → length (tagged_from epoch (i + 1) ls) ≡ count_by (λ (k : LineState). tag_of k.base == epoch) ls
        → length (if b then i ∷ tagged_from epoch (i + 1) ls else tagged_from epoch (i + 1) ls) ≡ cond b 1 0 + count_by (λ (k : LineState). tag_of k.base == epoch) ls
    go true tail = omega (arith, tail)
    go false tail = omega (arith, tail)

few_of_cells : (settings : Settings) (epoch k : ℕ) (bank : BankState) (cells : CellBankState) → k ≢ super_room (sizes_of settings) → HasTorn epoch bank cells → cells.bank.write_backs + asks_left cells.todo ≡ most_in settings epoch k bank
few_of_cells settings epoch k bank cells other torn =
    let made = torn.same.write_backs in
    let left : asks_left cells.todo ≡ tagged_in epoch bank = ap asks_left torn.todo ∙ asks_events (tagged_from epoch 0 bank.lines) ∙ tagged-count epoch 0 bank.lines in
    let which : (if k == super_room (sizes_of settings) then 1 else tagged_in epoch bank) ≡ tagged_in epoch bank = ap (λ (b : Bool). if b then 1 else tagged_in epoch bank) (ne_eqb k (super_room (sizes_of settings)) other) in
    omega (arith, made, left, which)

-- the events of a restore: three and one for each cell that is tagged, and one where there is one
restores_length : (is : List ℕ) (rest : List RestoreEvent) → length (restores is ++ rest) ≡ 3 * length is + length rest
restores_length [] rest = omega arith
restores_length (i ∷ is) rest = let tail = restores_length is rest in omega (arith, tail)

asks_length : (is : List ℕ) → length (asks is ++ Fences ∷ []) ≡ length is + 1
asks_length [] = refl
asks_length (i ∷ is) = let tail = asks_length is in omega (arith, tail)

abbrev events_by : ℕ → Bool → ℕ
events_by n none = 4 * n + (if none then 0 else 1)

events_length : (is : List ℕ) → length (restore_events is) ≡ events_for (length is)
events_length [] = refl
events_length (i ∷ is) =
    let all = restores_length (i ∷ is) (asks (i ∷ is) ++ Fences ∷ []) in
    let last = asks_length (i ∷ is) in
    let tagged : events_for (suc (length is)) ≡ events_by (suc (length is)) false = ap (events_by (suc (length is))) (ne_eqb (suc (length is)) 0 (λ e. omega (arith, e))) in
    omega (arith, all, last, tagged)

events_of_cells : (settings : Settings) (epoch k : ℕ) (bank : BankState) (cells : CellBankState) → k ≢ super_room (sizes_of settings) → HasTorn epoch bank cells → length cells.todo ≡ bank_events settings epoch k bank
events_of_cells settings epoch k bank cells other torn =
    ap (λ (es : List RestoreEvent). length es) torn.todo ∙ events_length (tagged_from epoch 0 bank.lines) ∙ ap events_for (tagged-count epoch 0 bank.lines)
    ∙ sym (ap (λ (b : Bool). if b then 0 else events_for (tagged_in epoch bank)) (ne_eqb k (super_room (sizes_of settings)) other))

events_of_word : (settings : Settings) (epoch k : ℕ) (bank : BankState) → k ≡ super_room (sizes_of settings) → 0 ≡ bank_events settings epoch k bank
events_of_word settings epoch k bank at = sym (ap (λ (b : Bool). if b then 0 else events_for (tagged_in epoch bank)) (eq-eqb k (super_room (sizes_of settings)) at))

few_of_word : (settings : Settings) (epoch k : ℕ) (bank new : BankState) → k ≡ super_room (sizes_of settings) → new.write_backs ≡ bank.write_backs → new.write_backs + 1 ≡ most_in settings epoch k bank
few_of_word settings epoch k bank new at made =
    let which : (if k == super_room (sizes_of settings) then 1 else tagged_in epoch bank) ≡ 1 = ap (λ (b : Bool). if b then 1 else tagged_in epoch bank) (eq-eqb k (super_room (sizes_of settings)) at) in
    omega (arith, made, which)

pub if_ok : {X E : Type 0} (P Q : X → Type 0) → ((x : X) → P x → Q x) → (r : Result X E) → IfOk r P → IfOk r Q
if_ok P Q f (Ok x) h = f x h
if_ok P Q f (Err e) h = h

-- and it is one of the recovery
map_in : (settings : Settings) (epoch k : ℕ) (bank : BankState) (cells : CellBankState) (x : CommandRoomState) → k < settings.shards → HasTorn epoch bank cells → x ≡ new_room settings k cells → IsMap x
    → (o : Opening) → IsOpeningOf o settings epoch → IsBankOf o k bank → IsRoomIn o Before k (Map x)
map_in settings epoch k bank cells x lt torn is whole o of here =
    let inside : k < o.settings.shards = subst (λ (s : Settings). k < s.shards) (sym of.settings_are) lt in
    room_begun o k bank (Map x) here (omega (arith, inside)) (inside, ap (λ (r : CommandRoomState). r.room) is, ap (λ (r : CommandRoomState). r.settings) is ∙ sym of.settings_are) whole
    (ap (λ (r : CommandRoomState). r.under_way) is, ap (λ (r : CommandRoomState). r.plan.stores) is) (ap (λ (r : CommandRoomState). r.history.entries) is)
    (ap (λ (r : CommandRoomState). r.cells.state) is ∙ torn.state ∙ ap Torn (sym of.epoch_is))
    (subst (λ (r : CommandRoomState). HasSameCells bank r.cells.bank) (sym is) torn.same)

-- a map room
pub map_made : (settings : Settings) (epoch k : ℕ) (bank : BankState) (cells : CellBankState) (x : CommandRoomState) → k < settings.shards → HasTorn epoch bank cells → x ≡ new_room settings k cells → IsMap x → Becomes settings epoch k bank (Map x)
map_made settings epoch k bank cells x lt torn is whole = record {
  few = subst (λ (r : CommandRoomState). r.cells.bank.write_backs + asks_left r.cells.todo ≡ most_in settings epoch k bank) (sym is) (few_of_cells settings epoch k bank cells (λ same. omega (arith, lt, same)) torn);
  events = ap (λ (r : CommandRoomState). length r.cells.todo) is ∙ events_of_cells settings epoch k bank cells (λ same. omega (arith, lt, same)) torn;
  about = λ o of here. map_in settings epoch k bank cells x lt torn is whole o of here;
}

queue_in : (settings : Settings) (epoch : ℕ) (bank : BankState) (cells : CellBankState) (x : CommandRoomState) → HasTorn epoch bank cells → x ≡ new_room settings settings.shards cells → IsQueue x
    → (o : Opening) → IsOpeningOf o settings epoch → IsBankOf o settings.shards bank → IsRoomIn o Before settings.shards (Queue x)
queue_in settings epoch bank cells x torn is whole o of here =
    let same : settings.shards ≡ o.settings.shards = ap (λ (s : Settings). s.shards) (sym of.settings_are) in
    room_begun o settings.shards bank (Queue x) here (omega (arith, same)) (same, ap (λ (r : CommandRoomState). r.room) is, ap (λ (r : CommandRoomState). r.settings) is ∙ sym of.settings_are) whole
    (ap (λ (r : CommandRoomState). r.under_way) is, ap (λ (r : CommandRoomState). r.plan.stores) is) (ap (λ (r : CommandRoomState). r.history.entries) is)
    (ap (λ (r : CommandRoomState). r.cells.state) is ∙ torn.state ∙ ap Torn (sym of.epoch_is))
    (subst (λ (r : CommandRoomState). HasSameCells bank r.cells.bank) (sym is) torn.same)

-- the queue room
pub queue_made : (settings : Settings) (epoch : ℕ) (bank : BankState) (cells : CellBankState) (x : CommandRoomState) → HasTorn epoch bank cells → x ≡ new_room settings settings.shards cells → IsQueue x → Becomes settings epoch settings.shards bank (Queue x)
queue_made settings epoch bank cells x torn is whole = record {
  few = subst (λ (r : CommandRoomState). r.cells.bank.write_backs + asks_left r.cells.todo ≡ most_in settings epoch settings.shards bank) (sym is) (few_of_cells settings epoch settings.shards bank cells (λ same. omega (arith, same)) torn);
  events = ap (λ (r : CommandRoomState). length r.cells.todo) is ∙ events_of_cells settings epoch settings.shards bank cells (λ same. omega (arith, same)) torn;
  about = λ o of here. queue_in settings epoch bank cells x torn is whole o of here;
}

-- the cells of a bank that was first made torn and then given room
more_room : (first second third : BankState) → HasSameCells first second → HasSameCells second third → HasSameCells first third
more_room first second third a b = record {
  write_backs = b.write_backs ∙ a.write_backs;
  count = b.count ∙ a.count;
  lines = λ i. record {
    base = (b.lines i).base ∙ (a.lines i).base;
    pending = (b.lines i).pending ∙ (a.lines i).pending;
    asked = (b.lines i).asked ∙ (a.lines i).asked;
    room = let one = (a.lines i).room in let two = (b.lines i).room in omega (arith, one, two);
  };
}

thread_in : (epoch : ℕ) (bank : BankState) (cells : CellBankState) (x : ThreadRoomState) → HasTorn epoch bank cells → x.cells.state ≡ cells.state → HasSameCells cells.bank x.cells.bank → x.plan.stores ≡ [] → IsThreadRoom x
    → (settings : Settings) (k : ℕ) → settings.shards < k → k < super_room (sizes_of settings) → (o : Opening) → IsOpeningOf o settings epoch → IsBankOf o k bank → IsRoomIn o Before k (Thread x)
thread_in epoch bank cells x torn state same idle whole settings k above below o of here =
    let up : o.settings.shards < k = subst (λ (s : Settings). s.shards < k) (sym of.settings_are) above in
    let down : k < super_room (sizes o) = subst (λ (s : Settings). k < super_room (sizes_of s)) (sym of.settings_are) below in
    room_begun o k bank (Thread x) here down (up, down) whole idle refl (state ∙ torn.state ∙ ap Torn (sym of.epoch_is)) (more_room bank cells.bank x.cells.bank torn.same same)

-- a thread's room
pub thread_made : (epoch : ℕ) (bank : BankState) (cells : CellBankState) (x : ThreadRoomState) → HasTorn epoch bank cells → x.cells.state ≡ cells.state → x.cells.todo ≡ cells.todo → HasSameCells cells.bank x.cells.bank → x.plan.stores ≡ [] → IsThreadRoom x
    → (settings : Settings) (k : ℕ) → settings.shards < k → k < super_room (sizes_of settings) → Becomes settings epoch k bank (Thread x)
thread_made epoch bank cells x torn state todo same idle whole settings k above below = record {
  few = ap (λ (n : ℕ). n + asks_left x.cells.todo) same.write_backs ∙ ap (λ (es : List RestoreEvent). cells.bank.write_backs + asks_left es) todo ∙ few_of_cells settings epoch k bank cells (λ at. omega (arith, below, at)) torn;
  events = ap (λ (es : List RestoreEvent). length es) todo ∙ events_of_cells settings epoch k bank cells (λ at. omega (arith, below, at)) torn;
  about = λ o of here. thread_in epoch bank cells x torn state same idle whole settings k above below o of here;
}

word_in : (bank new : BankState) → HoldsEpoch bank → new ≡ bank_with_spare bank 0 (epoch_line new).spare → IsSuperRoom new
    → (settings : Settings) (k epoch : ℕ) → k ≡ super_room (sizes_of settings) → (o : Opening) → IsOpeningOf o settings epoch → IsBankOf o k bank → IsRoomIn o Before k (Super new)
word_in bank new holds is whole settings k epoch at o of here =
    let there : k ≡ super_room (sizes o) = at ∙ ap (λ (s : Settings). super_room (sizes_of s)) (sym of.settings_are) in
    let word = word_begun o.epoch bank new holds (here.word there).1 is in
    super_in o Before k new there (word.1 ∙ here.lines) whole word.0

-- the super room
pub word_made : (bank new : BankState) → HoldsEpoch bank → new ≡ bank_with_spare bank 0 (epoch_line new).spare → IsSuperRoom new
    → (settings : Settings) (k epoch : ℕ) → k ≡ super_room (sizes_of settings) → Becomes settings epoch k bank (Super new)
word_made bank new holds is whole settings k epoch at = record {
  few = few_of_word settings epoch k bank new at (ap (λ (b : BankState). b.write_backs) is);
  events = events_of_word settings epoch k bank at;
  about = λ o of here. word_in bank new holds is whole settings k epoch at o of here;
}

-- what is asked of the bank of a thread's room
pub thread_may : (settings : Settings) (epoch k : ℕ) (bank : BankState) → settings.shards < k → k < super_room (sizes_of settings) → MayBecome settings epoch k bank → (length bank.lines ≡ 1) × AreSettled epoch bank.lines
thread_may settings epoch k bank above below may =
    let o = may.0 in
    let up : o.settings.shards < k = subst (λ (s : Settings). s.shards < k) (sym may.1.settings_are) above in
    let down : k < super_room (sizes o) = subst (λ (s : Settings). k < super_room (sizes_of s)) (sym may.1.settings_are) below in
    (may.2.lines ∙ one_line (sizes o) k up, subst (λ (e : ℕ). AreSettled e bank.lines) may.1.epoch_is (may.2.settled down))

-- of a room of commands
pub commands_may : (settings : Settings) (epoch k : ℕ) (bank : BankState) → k ≤ settings.shards → MayBecome settings epoch k bank → AreSettled epoch bank.lines
commands_may settings epoch k bank le may =
    let o = may.0 in
    let inside : k ≤ o.settings.shards = subst (λ (s : Settings). k ≤ s.shards) (sym may.1.settings_are) le in
    subst (λ (e : ℕ). AreSettled e bank.lines) may.1.epoch_is (may.2.settled (of_commands o.settings k inside))

-- of the super room
pub word_may : (settings : Settings) (epoch k : ℕ) (bank : BankState) → k ≡ super_room (sizes_of settings) → MayBecome settings epoch k bank → HoldsEpoch bank
word_may settings epoch k bank at may = (may.2.word (at ∙ ap (λ (s : Settings). super_room (sizes_of s)) (sym may.1.settings_are))).0
