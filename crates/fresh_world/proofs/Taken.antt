-- Banks that are taken from formatted memory one after the other, and the rooms that are made of them.
use Rattle.std.proofs.Common.{◌≡◌, ℕ, suc, ◌+◌, ◌<◌, ◌≤◌, List, [], ◌∷◌, ◌++◌, length, drop, ap, ◌∙◌, subst, inl, inr, arith, add-one}
use Rattle.std.proofs.Math.Seq.{drop-cons}
use Rattle.std.proofs.Math.ListN.{drop_of_length-le}
use Rattle.std.proofs.lemmas.Bool.{cases_lt}
use Rattle.std.proofs.lemmas.List.{length-drop}
use Rattle.seq_object.specs.declared.settings.Settings.{Settings}
use Rattle.seq_object.specs.declared.sizes.Sizes.{Sizes}
use Rattle.seq_object.specs.Sizes.{room_count}
use Rattle.line_memory.specs.Line.{BankState, no_bank, bank_at}
use Rattle.room_model.specs.Formatted.{formatted_bank, formatted_memory}
use Rattle.formatting.proofs.Memory.{formatted_rooms, formatted_banks}
use Rattle.rooms.specs.declared.room.Room.{Room}
use Rattle.fresh_world.specs.Rooms.{IsFreshRoom, AreFreshFrom}

-- the next bank of those that are left of formatted memory
pub record IsTaken (z : Sizes) (banks rest : List BankState) (bank : BankState) (n : ℕ) : Type 0 where
  pub within : n < room_count z
  pub inside : n < length banks
  pub here : bank ≡ formatted_bank z n
  pub behind : rest ≡ drop (n + 1) banks

pub taken : (z : Sizes) (banks rest : List BankState) (bank : BankState) (n : ℕ) → banks ≡ formatted_memory z → bank ∷ rest ≡ drop n banks → IsTaken z banks rest bank n
taken z banks rest bank n are left = elim (cases_lt n (length banks)) [
  | inl lt ↦
      let count = formatted_rooms z in
      let same = ap (λ (bs : List BankState). length bs) are in
      let within : n < room_count z = omega (arith, lt, count, same) in
      let both : bank ∷ rest ≡ bank_at banks n ∷ drop (suc n) banks = left ∙ drop-cons banks n no_bank lt in
      let tails : rest ≡ drop (suc n) banks = cc in
      let heads : bank ≡ bank_at banks n = cc in
      record { within = within; inside = lt; here = heads ∙ ap (λ (bs : List BankState). bank_at bs n) are ∙ formatted_banks z n within; behind = rw add-one tails }
  | inr ge ↦
      let none : bank ∷ rest ≡ [] = left ∙ drop_of_length-le banks ge in
      absurd (omega (arith, ap (λ (bs : List BankState). length bs) none))
]

-- behind all of them as many were taken
pub none_left : (banks rest : List BankState) (n : ℕ) → n ≤ length banks → rest ≡ drop n banks → length rest ≡ 0 → n ≡ length banks
none_left banks rest n le are none =
    let left : length rest ≡ length (drop n banks) = ap (λ (bs : List BankState). length bs) are in
    omega (arith, le, left, none, length-drop n banks)

-- formatted memory has few banks, one for each room
pub number_is : (z : Sizes) (banks : List BankState) → banks ≡ formatted_memory z → length banks ≡ room_count z
number_is z banks are = ap (λ (bs : List BankState). length bs) are ∙ formatted_rooms z

-- one room more
pub one_more : (s : Settings) (lengths : List ℕ) (k n : ℕ) (xs : List Room) (x : Room) → n ≡ k + length xs → AreFreshFrom s lengths k xs → IsFreshRoom s lengths n x → AreFreshFrom s lengths k (xs ++ x ∷ [])
one_more s lengths k n [] x is h fresh = let e : n ≡ k = omega (arith, is) in (subst (λ (j : ℕ). IsFreshRoom s lengths j x) e fresh, tt)
one_more s lengths k n (y ∷ ys) x is h fresh = (h.0, one_more s lengths (suc k) n ys x (omega (arith, is)) h.1 fresh)
