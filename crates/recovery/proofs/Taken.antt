-- Banks that are taken from a list one after the other, and the facts on the memory that a life resumes from.
use Rattle.std.proofs.Common.{◌≡◌, ℕ, suc, ◌+◌, ◌-◌, ◌^◌, ◌<◌, ◌≤◌, List, [], ◌∷◌, length, get_or, drop, refl, sym, ap, ◌∙◌, subst, inl, inr, arith, add-one}
use Rattle.std.specs.Prelude.{slice_index}
use Rattle.std.proofs.Math.Seq.{drop-cons}
use Rattle.std.proofs.Math.ListN.{drop_of_length-le}
use Rattle.std.proofs.lemmas.Bool.{cases_lt}
use Rattle.seq_object.specs.declared.settings.Settings.{Settings}
use Rattle.seq_object.specs.Sizes.{sizes_of, super_room, room_count, line_count}
use Rattle.line_memory.specs.Line.{BankState, no_bank, bank_at, line_of, IsQuiet}
use Rattle.room_model.specs.Cell.{tag_of, triple_of}
use Rattle.room_model.specs.Chains.{RoomWords}
use Rattle.room_model.specs.MapRoom.{live_layout}
use Rattle.room_model.specs.Rooms.{StandsFor, point_in}
use Rattle.room_model.specs.Image.{image_of, nothing_kept, words_at, epoch_at, recovered_room, IsLawful}
use Rattle.life_model.specs.Life.{Opening, sizes}
use Rattle.life_model.specs.Lives.{ResumesFrom}
use Rattle.life_laws.proofs.Survivors.{words_left, lines_left_here}
use Rattle.incll_var.proofs.Behind.{same_function}
use Rattle.epoch_word.specs.SuperLine.{HoldsEpoch}
use Rattle.life_model.specs.declared.life.Life.TheVariants.{Resume}
use Rattle.rooms.specs.declared.room.Room.{Room}
use Rattle.epoch_word.specs.declared.stage.EpochStage.TheVariants.{Before}
use Rattle.recovery.specs.Recovering.{IsRecovery, IsRoomIn, EachFrom}
use Rattle.rooms.proofs.Others.{one_line}
use Rattle.recovery.specs.Banks.{IsBankOf, AreBanksOf}
use Rattle.room_model.specs.Banks.{memory_words}
use Rattle.room_model.specs.EpochLine.{memory_epoch}

pub record IsTaken (banks rest : List BankState) (bank : BankState) (n : ℕ) : Type 0 where
  pub within : n < length banks
  pub here : bank_at banks n ≡ bank
  pub behind : rest ≡ drop (n + 1) banks

-- the next bank of those that are left
pub taken : (banks rest : List BankState) (bank : BankState) (n : ℕ) → bank ∷ rest ≡ drop n banks → IsTaken banks rest bank n
taken banks rest bank n left = elim (cases_lt n (length banks)) [
  | inl lt ↦
      let both : bank ∷ rest ≡ get_or banks n no_bank ∷ drop (suc n) banks = left ∙ drop-cons banks n no_bank lt in
      let tails : rest ≡ drop (suc n) banks = cc in
      let heads : get_or banks n no_bank ≡ bank = cc in
      record { within = lt; here = heads; behind = rw add-one tails }
  | inr ge ↦
      let none : bank ∷ rest ≡ [] = left ∙ drop_of_length-le banks ge in
      absurd (omega (arith, ap (λ (bs : List BankState). length bs) none))
]

-- Of a memory with nothing pending, and a life that resumes from it.
module _ (o : Opening) (memory : List BankState) (quiet : IsQuiet memory) (from : ResumesFrom (sizes o) (image_of memory nothing_kept) o) where
  -- the words of its image are those that it holds
  words : (room line : ℕ) → words_at (image_of memory nothing_kept) room line ≡ (line_of memory room line).base
  words room line = words_left memory nothing_kept room line

  number : length memory ≡ room_count (sizes o)
  number = sym (lines_left_here memory nothing_kept).0.rooms ∙ from.state.shape.rooms

  counts : (room : ℕ) → room < room_count (sizes o) → length (bank_at memory room).lines ≡ line_count (sizes o) room
  counts room lt = sym ((lines_left_here memory nothing_kept).0.lines room) ∙ from.state.shape.lines room lt

  epoch_here : memory_epoch (bank_at memory (super_room (sizes o))) ≡ o.epoch
  epoch_here = sym (ap (λ (ws : List ℕ). slice_index ws 0) (words (super_room (sizes o)) 0)) ∙ sym from.epoch

  room_words : (room : ℕ) → recovered_room (sizes o) (image_of memory nothing_kept) room ≡ memory_words o.epoch (bank_at memory room)
  room_words room = same_function (recovered_room (sizes o) (image_of memory nothing_kept) room) (memory_words o.epoch (bank_at memory room)) (λ line w.
      ap (λ (ws : List ℕ). slice_index (triple_of (epoch_at (sizes o) (image_of memory nothing_kept)) ws) w) (words room line)
      ∙ ap (λ (e : ℕ). slice_index (triple_of e (line_of memory room line).base) w) (sym from.epoch))

  below : (room : ℕ) → room < super_room (sizes o) → room < room_count (sizes o)
  below room lt = omega (arith, lt)

  pub bank_of_image : (k : ℕ) → k < room_count (sizes o) → IsBankOf o k (bank_at memory k)
  bank_of_image k lt = record {
    lines = counts k lt;
    settled = λ cell line inside. record {
      pending = quiet k line;
      tag = subst (λ (e : ℕ). tag_of (line_of memory k line).base ≤ e) (sym from.epoch)
          (subst (λ (ws : List ℕ). tag_of ws ≤ epoch_at (sizes o) (image_of memory nothing_kept)) (words k line)
          (from.state.tags k line cell (subst (λ (n : ℕ). line < n) (counts k lt) inside)));
    };
    stands = λ le. subst (λ (r : RoomWords). StandsFor live_layout (sizes o) k r o.state.contents) (room_words k) (from.state.rooms k le);
    point = λ i inside at. from.state.points i inside ∙ ap (λ (n : ℕ). point_in live_layout (recovered_room (sizes o) (image_of memory nothing_kept) n)) (sym at) ∙ ap (λ (r : RoomWords). point_in live_layout r) (room_words k);
    word = λ at. (
      record {
        one = counts k lt ∙ one_line_here k at;
        quiet = quiet k 0;
        some = subst (λ (e : ℕ). 1 ≤ e) (epoch_word k at) from.state.epoch;
        fits = subst (λ (e : ℕ). e < 2 ^ 32) (epoch_word k at) from.state.epoch_fits;
      },
      sym (epoch_word k at) ∙ sym from.epoch,
    );
  }
    where
      one_line_here : (j : ℕ) → j ≡ super_room (sizes o) → line_count (sizes o) j ≡ 1
      one_line_here j at = one_line (sizes o) j (omega (arith, at))

      epoch_word : (j : ℕ) → j ≡ super_room (sizes o) → epoch_at (sizes o) (image_of memory nothing_kept) ≡ memory_epoch (bank_at memory j)
      epoch_word j at = ap (λ (ws : List ℕ). slice_index ws 0) (words (super_room (sizes o)) 0) ∙ ap (λ (n : ℕ). memory_epoch (bank_at memory n)) (sym at)

  last_is : length memory - 1 ≡ super_room (sizes o)
  last_is = omega (arith, number)

  pub epoch_last : memory_epoch (bank_at memory (length memory - 1)) ≡ o.epoch
  epoch_last = ap (λ (n : ℕ). memory_epoch (bank_at memory n)) last_is ∙ epoch_here

  -- its last bank is the super room's
  pub some_banks : 0 < length memory
  some_banks = omega (arith, number)

  pub last_holds : HoldsEpoch (bank_at memory (length memory - 1))
  last_holds = subst (λ (n : ℕ). HoldsEpoch (bank_at memory n)) (sym last_is) ((bank_of_image (super_room (sizes o)) (omega arith)).word refl).0

  -- each of its banks may be a room
  pub all_banks : (settings : Settings) → o.settings ≡ settings → AreBanksOf o settings (memory_epoch (bank_at memory (length memory - 1))) memory
  all_banks settings is =
      (record { settings_are = is; epoch_is = sym epoch_last; valid = from.state.valid }, λ k lt. bank_of_image k (subst (λ (n : ℕ). k < n) number lt))

  pub number_is : (settings : Settings) → o.settings ≡ settings → length memory ≡ room_count (sizes_of settings)
  number_is settings is = number ∙ ap (λ (s : Settings). room_count (sizes_of s)) is

  pub few_rooms : length memory < 2 ^ 32
  few_rooms = let shards = from.state.valid.few_shards in let threads = from.state.valid.few_threads in omega (arith, number, shards, threads)

  -- and the rooms are those of a recovery
  pub begins : (settings : Settings) (rooms : List Room) → o.settings ≡ settings → epoch_at (sizes_of settings) (image_of memory nothing_kept) + 1 < 2 ^ 32 → length rooms ≡ length memory → EachFrom (IsRoomIn o Before) 0 rooms
      → IsRecovery o (record { settings = settings; rooms = rooms; stage = Before })
  begins settings rooms is small count each =
      let at = from.epoch in
      let same : epoch_at (sizes o) (image_of memory nothing_kept) ≡ epoch_at (sizes_of settings) (image_of memory nothing_kept) = ap (λ (s : Settings). epoch_at (sizes_of s) (image_of memory nothing_kept)) is in
      let some = from.state.epoch in
      record {
        settings = sym is;
        valid = from.state.valid;
        life = from.life;
        some = omega (arith, at, some);
        fits = omega (arith, at, same, small);
        points = from.state.threads;
        number = count ∙ number;
        rooms = each;
      }

-- some life resumes from a memory whose image is lawful
abbrev pub life_of : (settings : Settings) (memory : List BankState) → IsLawful live_layout (sizes_of settings) (image_of memory nothing_kept) → Opening
life_of settings memory lawful = record { settings = settings; scripts = []; life = Resume; epoch = epoch_at (sizes_of settings) (image_of memory nothing_kept); state = lawful.0 }

pub resumes : (settings : Settings) (memory : List BankState) (lawful : IsLawful live_layout (sizes_of settings) (image_of memory nothing_kept)) → ResumesFrom (sizes (life_of settings memory lawful)) (image_of memory nothing_kept) (life_of settings memory lawful)
resumes settings memory lawful = record { life = refl; epoch = refl; state = lawful.1 }
