-- The lists of a shared yard, as a life opens with it.
use Rattle.std.specs.Prelude.{◌≡◌, ℕ, ◌≤◌, List, [], ◌∷◌, replicate, vec_capacity}
use Rattle.shared_yard.specs.declared.opening.Lists.{Lists}

-- no tick, no entry, the arrival word, and a free lock for each room
abbrev pub opening_words : ℕ → ℕ → List ℕ
opening_words arrival number_of_rooms = 0 ∷ 0 ∷ arrival ∷ replicate number_of_rooms 0

-- the lists of a yard of so many threads and rooms, with this arrival word
pub record AreOpeningLists (number_of_threads number_of_rooms arrival : ℕ) (lists : Lists) : Type 0 where
  pub words : lists.words.items ≡ opening_words arrival number_of_rooms
  pub no_seats : lists.seats.items ≡ []
  pub seats : number_of_threads ≤ vec_capacity lists.seats
  pub no_slots : lists.slots.items ≡ []
  pub slots : number_of_rooms ≤ vec_capacity lists.slots
  pub no_rooms : lists.rooms.items ≡ []
  pub rooms : number_of_rooms ≤ vec_capacity lists.rooms
