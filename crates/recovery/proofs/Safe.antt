-- Behind each event of a recovery the memory is safe at a power cut.
use Rattle.std.proofs.Common.{◌≡◌, ℕ, ◌+◌, ◌<◌, ◌⊎◌, [], ◌∷◌, length, refl, sym, ap, ◌∙◌, subst, inl, arith}
use Rattle.std.proofs.Math.ListN.{length-map}
use Rattle.seq_object.specs.declared.settings.Settings.{Settings}
use Rattle.seq_object.specs.Sizes.{sizes_of, thread_room, super_room, room_count}
use Rattle.seq_object.specs.History.{State, after}
use Rattle.line_memory.specs.Line.{BankState, loaded, line_at, bank_at, bank_load, line_of, load_of}
use Rattle.line_memory.proofs.Survivors.{left-length}
use Rattle.room_model.specs.Cell.{IsRecoverable}
use Rattle.room_model.specs.MapRoom.{live_layout}
use Rattle.room_model.specs.Rooms.{StandsFor, point_in}
use Rattle.room_model.specs.Image.{StandsAt}
use Rattle.life_model.specs.Life.{Opening, sizes, IsLegalLife, BeginsRightly}
use Rattle.life_model.specs.declared.life.Life.{Life}
use Rattle.epoch_word.specs.Stages.{IsAtStage, MaySurvive}
use Rattle.life_model.specs.Crash.{epoch_after, IsCrashSafe, HasEpoch, HasNextEpoch}
use Rattle.life_laws.proofs.Safe.{epoch_safe, next_epoch_safe, next_epoch}
use Rattle.life_laws.proofs.Steps.{opening, mark}
use Rattle.life_laws.proofs.Chain.{after_nothing}
use Rattle.room_laws.proofs.Words.{words, point_words}
use Rattle.incll_var.specs.Cells.{IsSaved}
use Rattle.incll_var.proofs.Survivors.{kept_law, saved_pending}
use Rattle.epoch_word.specs.SuperLine.{IsSuperRoom}
use Rattle.epoch_word.proofs.Stages.{surviving_law}
use Rattle.rooms.specs.declared.room.Room.{Room}
use Rattle.rooms.specs.declared.room.Room.TheVariants.{Map, Queue, Thread, Super}
use Rattle.rooms.specs.Rooms.{bank_of, state_of, IsKindOf, IsWhole}
use Rattle.epoch_word.specs.declared.stage.EpochStage.{EpochStage}
use Rattle.epoch_word.specs.declared.stage.EpochStage.TheVariants.{Before, Stored, AskedFor, InMemory}
use Rattle.recovery.specs.Restored.{room_at}
use Rattle.recovery.specs.Recovering.{RecoveryState, IsInRestore, AreDone, IsRoomIn, IsRecovery, marks_at}
use Rattle.recovery.specs.Laws.{RecoverySafeLaw}
use Rattle.recovery.proofs.Events.{epoch_is, no_super, no_map, no_queue, of_commands, of_thread}
use Rattle.recovery.proofs.Lists.{each_at, bank_here}
use Rattle.room_model.specs.Banks.{memory_words}
use Rattle.room_model.specs.EpochLine.{loaded_epoch, surviving_epoch}
use Rattle.room_yard.specs.World.{memory_of}
use Rattle.room_laws.proofs.MapLaws.{layouts}

-- the cells of a room are those of its bank
cells_kept : (s : Settings) (m k : ℕ) (x : Room) → k < super_room (sizes_of s) → IsKindOf s k x → IsWhole x → IsInRestore m (state_of x)
    → (line : ℕ) → line < length (bank_of x).lines → IsRecoverable m (line_at (bank_of x).lines line)
cells_kept s m k (Map x) lt kind whole at line inside = subst (λ (e : ℕ). IsRecoverable e (line_at x.cells.bank.lines line)) (epoch_is m x.cells.state at) (kept_law x.cells whole.room.cells line inside)
cells_kept s m k (Queue x) lt kind whole at line inside = subst (λ (e : ℕ). IsRecoverable e (line_at x.cells.bank.lines line)) (epoch_is m x.cells.state at) (kept_law x.cells whole.room.cells line inside)
cells_kept s m k (Thread x) lt kind whole at line inside = subst (λ (e : ℕ). IsRecoverable e (line_at x.cells.bank.lines line)) (epoch_is m x.cells.state at) (kept_law x.cells whole.cells line inside)
cells_kept s m k (Super x) lt kind whole at line inside = absurd (no_super s k kind lt)

-- nothing is pending on saved cells
room_quiet : (s : Settings) (k : ℕ) (x : Room) → k < super_room (sizes_of s) → IsKindOf s k x → IsWhole x → IsSaved (state_of x) → (line : ℕ) → (line_at (bank_of x).lines line).pending ≡ []
room_quiet s k (Map x) lt kind whole saved = saved_pending x.cells whole.room.cells saved
room_quiet s k (Queue x) lt kind whole saved = saved_pending x.cells whole.room.cells saved
room_quiet s k (Thread x) lt kind whole saved = saved_pending x.cells whole.cells saved
room_quiet s k (Super x) lt kind whole saved = absurd (no_super s k kind lt)

-- the bank of the super room
pub super_whole : (s : Settings) (k : ℕ) (x : Room) → k ≡ super_room (sizes_of s) → IsKindOf s k x → IsWhole x → IsSuperRoom (bank_of x)
super_whole s k (Map x) is kind whole = absurd (no_map s k is kind.0)
super_whole s k (Queue x) is kind whole = absurd (no_queue s k is kind.0)
super_whole s k (Thread x) is kind whole = absurd (no_super s k is kind.1)
super_whole s k (Super x) is kind whole = whole

nothing_after : (o : Opening) → after (sizes o) o.state [] ≡ o.state
nothing_after o = sym (after_nothing (sizes o) o.state)

module _ (o : Opening) (r : RecoveryState) (is : IsRecovery o r) where
  -- a room of the recovery
  pub room_here : (k : ℕ) → k < room_count (sizes o) → IsRoomIn o r.stage k (room_at r.rooms k)
  room_here k lt = let number = is.number in each_at (IsRoomIn o r.stage) 0 k k r.rooms (omega arith) (omega (arith, number, lt)) is.rooms

  -- its bank
  pub bank_is : (k : ℕ) → bank_at (memory_of r.rooms) k ≡ bank_of (room_at r.rooms k)
  bank_is k = bank_here r.rooms k

  last_lt : super_room (sizes o) < room_count (sizes o)
  last_lt = omega arith

  below_last : (k : ℕ) → k < super_room (sizes o) → k < room_count (sizes o)
  below_last k lt = omega (arith, lt)

  -- the super room
  pub last_room : IsRoomIn o r.stage (super_room (sizes o)) (room_at r.rooms (super_room (sizes o)))
  last_room = room_here (super_room (sizes o)) last_lt

  pub last_whole : IsSuperRoom (bank_of (room_at r.rooms (super_room (sizes o))))
  last_whole = super_whole o.settings (super_room (sizes o)) (room_at r.rooms (super_room (sizes o))) refl last_room.kind.kind last_room.whole

  -- at the image's epoch the memory stands for the image's state
  pub stands_here : StandsAt live_layout (sizes o) o.epoch (memory_of r.rooms) o.state
  stands_here = record {
    valid = is.valid;
    some = is.some;
    fits = let fits = is.fits in omega (arith, fits);
    rooms = record { rooms = length-map r.rooms bank_of ∙ is.number; lines = λ k lt. ap (λ (b : BankState). length b.lines) (bank_is k) ∙ (room_here k lt).kind.lines };
    super_words = λ kept. left-length (line_of (memory_of r.rooms) (super_room (sizes o)) 0) kept
        ∙ ap (λ (b : BankState). length (line_at b.lines 0).base) (bank_is (super_room (sizes o))) ∙ last_whole.line.eight;
    cells = λ k line lt inside.
        let room = room_here k (below_last k lt) in
        subst (λ (b : BankState). IsRecoverable o.epoch (line_at b.lines line)) (sym (bank_is k))
        (cells_kept o.settings o.epoch k (room_at r.rooms k) lt room.kind.kind room.whole (room.state lt) line (subst (λ (n : ℕ). line < n) (sym room.kind.lines) inside));
    stands = λ k le. subst (λ (b : BankState). StandsFor live_layout (sizes o) k (memory_words o.epoch b) o.state.contents) (sym (bank_is k))
        ((room_here k (below_last k (of_commands o.settings k le))).stands le);
    threads = is.points;
    points = λ i lt.
        let k = thread_room (sizes o) i in
        (room_here k (below_last k (of_thread o.settings k i lt refl))).point i lt refl ∙ ap (λ (b : BankState). point_in live_layout (memory_words o.epoch b)) (sym (bank_is k));
  }

  module _ (done : AreDone r.stage) where
    -- where the restores are done the loads of a room of cells are what memory holds
    pub loads_here : (k : ℕ) → k < super_room (sizes o) → (line w : ℕ) → w < 3 → memory_words o.epoch (bank_at (memory_of r.rooms) k) line w ≡ load_of (memory_of r.rooms) k line w
    loads_here k lt line w three =
        let room = room_here k (below_last k lt) in
        ap (λ (b : BankState). memory_words o.epoch b line w) (bank_is k)
        ∙ sym (room.loaded lt (room.done lt done) line w three)
        ∙ ap (λ (b : BankState). bank_load b line w) (sym (bank_is k))

    -- at the next epoch it stands for the same state
    pub stands_next : StandsAt live_layout (sizes o) (o.epoch + 1) (memory_of r.rooms) o.state
    stands_next = next_epoch live_layout (sizes o) o.epoch (memory_of r.rooms) o.state o.state layouts.in_use stands_here is.fits
        (λ k line lt.
        let room = room_here k (below_last k lt) in
        ap (λ (b : BankState). (line_at b.lines line).pending) (bank_is k) ∙ room_quiet o.settings k (room_at r.rooms k) lt room.kind.kind room.whole (room.done lt done) line)
        (λ k le. words live_layout (sizes o) k (memory_words o.epoch (bank_at (memory_of r.rooms) k)) (load_of (memory_of r.rooms) k) o.state.contents layouts.in_use (stands_here.stands k le)
        (λ line w three. sym (loads_here k (of_commands o.settings k le) line w three)))
        is.points
        (λ i lt.
        let k = thread_room (sizes o) i in
        stands_here.points i lt ∙ point_words live_layout (load_of (memory_of r.rooms) k) (memory_words o.epoch (bank_at (memory_of r.rooms) k)) (λ line w three. loads_here k (of_thread o.settings k i lt refl) line w three))

  -- the epochs that the super room may keep
  word_at : (stage : EpochStage) → r.stage ≡ stage → IsAtStage stage o.epoch (bank_of (room_at r.rooms (super_room (sizes o))))
  word_at stage at = subst (λ (s : EpochStage). IsAtStage s o.epoch (bank_of (room_at r.rooms (super_room (sizes o))))) at (last_room.epoch refl)

  survives : (stage : EpochStage) → r.stage ≡ stage → (kept : ℕ) → MaySurvive stage o.epoch (surviving_epoch (bank_at (memory_of r.rooms) (super_room (sizes o))) kept)
  survives stage at kept =
      subst (λ (b : BankState). MaySurvive stage o.epoch (surviving_epoch b kept)) (sym (bank_is (super_room (sizes o))))
      (surviving_law stage (bank_of (room_at r.rooms (super_room (sizes o)))) o.epoch kept last_whole (word_at stage at))

  next_of : (stage : EpochStage) → r.stage ≡ stage → ((left : ℕ) → MaySurvive stage o.epoch left → (left ≡ o.epoch) ⊎ (left ≡ o.epoch + 1)) → loaded_epoch (bank_of (room_at r.rooms (super_room (sizes o)))) ≡ o.epoch + 1
      → HasNextEpoch (sizes o) o.epoch (memory_of r.rooms)
  next_of stage at may load = record {
    either = λ kept. may (surviving_epoch (bank_at (memory_of r.rooms) (super_room (sizes o))) kept) (survives stage at kept);
    stored = ap (λ (b : BankState). loaded (line_at b.lines 0) 0) (bank_is (super_room (sizes o))) ∙ load;
  }

  -- a life with no entry is legal, and stays so with the mark of the recovery
  module _ (scripts : length o.scripts ≡ o.settings.threads) where
    begun : IsLegalLife o [] []
    begun = opening o scripts is.points (subst (λ (life : Life). BeginsRightly (record o { life = life }) [] []) (sym is.life) refl)

    marked : IsLegalLife o [] (0 ∷ [])
    marked = mark o [] [] begun (λ thread. inl refl)

    none_marked : epoch_after o [] ≡ o.epoch
    none_marked = omega arith

    safe_before : HasEpoch (sizes o) o.epoch (memory_of r.rooms) → IsCrashSafe o [] [] (memory_of r.rooms)
    safe_before has = epoch_safe o [] [] (memory_of r.rooms)
        (subst (λ (s : State). StandsAt live_layout (sizes o) (epoch_after o []) (memory_of r.rooms) s) (sym (nothing_after o))
        (subst (λ (e : ℕ). StandsAt live_layout (sizes o) e (memory_of r.rooms) o.state) (sym none_marked) stands_here))
        (subst (λ (e : ℕ). HasEpoch (sizes o) e (memory_of r.rooms)) (sym none_marked) has)

    safe_between : AreDone r.stage → HasNextEpoch (sizes o) o.epoch (memory_of r.rooms) → IsCrashSafe o [] [] (memory_of r.rooms)
    safe_between done has = next_epoch_safe o [] [] (memory_of r.rooms)
        (subst (λ (s : State). StandsAt live_layout (sizes o) (epoch_after o []) (memory_of r.rooms) s) (sym (nothing_after o))
        (subst (λ (e : ℕ). StandsAt live_layout (sizes o) e (memory_of r.rooms) o.state) (sym none_marked) stands_here))
        (subst (λ (s : State). StandsAt live_layout (sizes o) (epoch_after o [] + 1) (memory_of r.rooms) s) (sym (nothing_after o))
        (subst (λ (e : ℕ). StandsAt live_layout (sizes o) (e + 1) (memory_of r.rooms) o.state) (sym none_marked) (stands_next done)))
        (subst (λ (e : ℕ). HasNextEpoch (sizes o) e (memory_of r.rooms)) (sym none_marked) has)
        marked

    safe_behind : AreDone r.stage → HasEpoch (sizes o) (o.epoch + 1) (memory_of r.rooms) → IsCrashSafe o [] (0 ∷ []) (memory_of r.rooms)
    safe_behind done has = epoch_safe o [] (0 ∷ []) (memory_of r.rooms)
        (subst (λ (s : State). StandsAt live_layout (sizes o) (o.epoch + 1) (memory_of r.rooms) s) (sym (nothing_after o)) (stands_next done))
        has

    safe_at : (stage : EpochStage) → r.stage ≡ stage → IsCrashSafe o [] (marks_at stage) (memory_of r.rooms)
    safe_at Before at = safe_before (survives Before at)
    safe_at Stored at = safe_between (subst AreDone (sym at) tt) (next_of Stored at (λ left may. may) (word_at Stored at).1)
    safe_at AskedFor at = safe_between (subst AreDone (sym at) tt) (next_of AskedFor at (λ left may. may) (word_at AskedFor at).1)
    safe_at InMemory at = safe_behind (subst AreDone (sym at) tt) (survives InMemory at)

pub recovery_safe : RecoverySafeLaw
recovery_safe o r is scripts = safe_at o r is scripts r.stage refl
