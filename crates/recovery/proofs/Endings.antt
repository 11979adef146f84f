-- The ends that are told, and the memory at a cut.
use Rattle.std.proofs.Common.{add-one, Bool, ◌≡◌, ℕ, suc, ◌+◌, ◌-◌, ◌&&◌, ◌*◌, ◌^◌, ◌<◌, ◌≤◌, List, [], ◌∷◌, length, map, set, refl, sym, ap, ◌∙◌, subst, inl, inr, arith, length-set, get_or-set_same, get_or-set_other}
use Rattle.std.specs.Prelude.{slice_index}
use Rattle.std.proofs.lemmas.Bool.{cases_lt}
use Rattle.line_memory.specs.Line.{BankState, all_lines}
use Rattle.seq_object.specs.declared.settings.Settings.{Settings}
use Rattle.seq_object.specs.Sizes.{AreValid, line_count, super_room}
use Rattle.life_model.specs.Life.{Opening, sizes}
use Rattle.rooms.specs.declared.room.Room.{Room}
use Rattle.rooms.specs.Rooms.{bank_of}
use Rattle.epoch_word.specs.declared.stage.EpochStage.{EpochStage}
use Rattle.recovery.specs.Restored.{no_room, room_at}
use Rattle.recovery.specs.Recovering.{RecoveryState, IsRoomIn, IsRecovery, EachFrom, last_of}
use Rattle.recovery.specs.Ends.{MayBeTold, told, AreTold, is_at_end, are_at_end}
use Rattle.rooms.proofs.Others.{command_lines, one_line}
use Rattle.std.specs.Global.{Vec}
use Rattle.epoch_word.specs.SuperLine.{IsSuperRoom}
use Rattle.recovery.specs.Kept.{IsKeptRecovery}
use Rattle.recovery.proofs.Safe.{last_whole}
use Rattle.recovery.proofs.Events.{goes_on}
use Rattle.recovery.proofs.Lists.{each_at}
use Rattle.seq_object.specs.declared.sizes.Sizes.{Sizes}
use Rattle.room_model.specs.EpochLine.{loaded_epoch}

-- no end is told
pub none_told : (shards : ℕ) (lengths : List ℕ) (rooms : List Room) → AreTold shards lengths 0 rooms rooms
none_told shards lengths rooms = record { count = refl; told_ends = λ i lt. absurd (omega (arith, lt)); others = λ k other. refl }

-- the next room is not told yet
pub not_yet : (shards : ℕ) (lengths : List ℕ) (n : ℕ) (old now : List Room) → AreTold shards lengths n old now → room_at now (shards + 1 + n) ≡ room_at old (shards + 1 + n)
not_yet shards lengths n old now so = so.others (shards + 1 + n) (λ i lt same. omega (arith, lt, same))

-- whether all so far are at their scripts' ends, with one more
pub one_end_more : (shards : ℕ) (lengths : List ℕ) (n : ℕ) (old now : List Room) (x : Room) (is over : Bool) → AreTold shards lengths n old now → room_at now (shards + 1 + n) ≡ x → is ≡ is_at_end (slice_index lengths n) x → over ≡ are_at_end shards lengths old n
    → (is && over) ≡ are_at_end shards lengths old (n + 1)
one_end_more shards lengths n old now x is over so here this before =
    let room : x ≡ room_at old (shards + 1 + n) = sym here ∙ not_yet shards lengths n old now so in
    rw add-one (λ j. (this ∙ ap (is_at_end (slice_index lengths n)) room) j && before j)

-- one end more
pub one_more : (shards : ℕ) (lengths : List ℕ) (n : ℕ) (old now : List Room) (x : Room) → shards + 1 + n < length now → AreTold shards lengths n old now → x ≡ told (slice_index lengths n) (room_at now (shards + 1 + n))
    → AreTold shards lengths (n + 1) old (set now (shards + 1 + n) x)
one_more shards lengths n old now x lt so is = record {
  count = length-set now (shards + 1 + n) x ∙ so.count;
  told_ends = λ i inside. elim (cases_lt i n) [
    | inl less ↦ get_or-set_other now (shards + 1 + n) (shards + 1 + i) x no_room (λ same. omega (arith, less, same)) ∙ so.told_ends i less
    | inr more ↦
        let at : n ≡ i = omega (arith, inside, more) in
        subst (λ (j : ℕ). room_at (set now (shards + 1 + n) x) (shards + 1 + j) ≡ told (slice_index lengths j) (room_at old (shards + 1 + j))) at
        (get_or-set_same now (shards + 1 + n) x no_room lt ∙ is ∙ ap (told (slice_index lengths n)) (not_yet shards lengths n old now so))
  ];
  others = λ k other. get_or-set_other now (shards + 1 + n) k x no_room (other n (omega arith)) ∙ so.others k (λ i less. other i (omega (arith, less)));
}

-- a room has at most so many lines
line_most : (z : Sizes) (k : ℕ) → AreValid z → line_count z k ≤ 65536
line_most z k valid = elim (cases_lt z.shards k) [
  | inl above ↦ let e = one_line z k above in omega (arith, e)
  | inr below ↦ let e = command_lines z k below in let few = valid.few_lines in omega (arith, e, few)
]

lines_few : (o : Opening) (stage : EpochStage) (k : ℕ) (xs : List Room) → AreValid (sizes o) → EachFrom (IsRoomIn o stage) k xs → all_lines (map bank_of xs) ≤ 65536 * length xs
lines_few o stage k [] valid each = omega arith
lines_few o stage k (x ∷ xs) valid each =
    let here = each.0.kind.lines in
    let most = line_most (sizes o) k valid in
    let rest = lines_few o stage (suc k) xs valid each.1 in
    omega (arith, here, most, rest)

pub few_rooms : (o : Opening) (r : RecoveryState) → IsRecovery o r → length r.rooms ≤ 26
few_rooms o r is = let number = is.number in let shards = is.valid.few_shards in let threads = is.valid.few_threads in omega (arith, number, shards, threads)

pub few_lines : (o : Opening) (r : RecoveryState) → IsRecovery o r → all_lines (map bank_of r.rooms) < 2 ^ 32
few_lines o r is = let rooms = few_rooms o r is in let lines = lines_few o r.stage 0 r.rooms is.valid is.rooms in omega (arith, rooms, lines)

-- what tell_ends asks
pub here_in : (o : Opening) (r : RecoveryState) → IsRecovery o r → (k : ℕ) → k < length r.rooms → MayBeTold (room_at r.rooms k)
here_in o r is k lt =
    let on = goes_on o r.stage k (room_at r.rooms k) (each_at (IsRoomIn o r.stage) 0 k k r.rooms (omega arith) lt is.rooms) in
    record { whole = on.whole; may = on.may }

pub record FitsTelling (r : RecoveryState) : Type 0 where
  pub shards : r.settings.shards < 2 ^ 16
  pub threads : r.settings.threads < 2 ^ 16
  pub within : r.settings.shards + 1 + r.settings.threads ≤ length r.rooms

-- the last room is the super room
pub last_super : (o : Opening) (r : RecoveryState) → IsRecovery o r → IsSuperRoom (bank_of (last_of r.rooms))
last_super o r is =
    let number = is.number in
    let last : super_room (sizes o) ≡ length r.rooms - 1 = omega (arith, number) in
    subst (λ (k : ℕ). IsSuperRoom (bank_of (room_at r.rooms k))) last (last_whole o r is)

-- and it has a line
pub last_line : (o : Opening) (r : RecoveryState) → IsRecovery o r → 0 < length (bank_of (last_of r.rooms)).lines
last_line o r is = let one = (last_super o r is).one in omega (arith, one)

pub last_fits : (o : Opening) (r : RecoveryState) → IsRecovery o r → loaded_epoch (bank_of (last_of r.rooms)) < 2 ^ 32
last_fits o r is = (last_super o r is).line.fits

-- there is a queue room
pub queue_within : (o : Opening) (r : RecoveryState) → IsRecovery o r → r.settings.shards < length r.rooms
queue_within o r is =
    let shards_are : r.settings.shards ≡ o.settings.shards = ap (λ (s : Settings). s.shards) is.settings in
    let number = is.number in
    omega (arith, shards_are, number)

-- and it has a line 1
pub queue_line : (o : Opening) (r : RecoveryState) → IsRecovery o r → 1 < length (bank_of (room_at r.rooms r.settings.shards)).lines
queue_line o r is =
    let shards_are : r.settings.shards ≡ o.settings.shards = ap (λ (s : Settings). s.shards) is.settings in
    let number = is.number in
    let here = (each_at (IsRoomIn o r.stage) 0 r.settings.shards r.settings.shards r.rooms (omega arith) (omega (arith, shards_are, number)) is.rooms).kind.lines in
    let lines = command_lines (sizes o) r.settings.shards (omega (arith, shards_are)) in
    let some = is.valid.some_lines in
    omega (arith, here, lines, some)

-- what a recovery keeps stays so where each life's recovery goes on
pub goes_on_kept : (old new : RecoveryState) (spare : Vec BankState) (held : Vec ℕ) → IsKeptRecovery old spare held → ((o : Opening) → IsRecovery o old → IsRecovery o new) → IsKeptRecovery new spare held
goes_on_kept old new spare held kept goes =
    let before = kept.about.number in
    let behind = (goes kept.some kept.about).number in
    let banks = kept.banks in
    let numbers = kept.numbers in
    record {
      some = kept.some;
      about = goes kept.some kept.about;
      no_spare = kept.no_spare;
      no_held = kept.no_held;
      banks = omega (arith, before, behind, banks);
      numbers = omega (arith, before, behind, numbers);
    }
