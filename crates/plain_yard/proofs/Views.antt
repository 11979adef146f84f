-- The views of a plain yard, one by one, and its words.
use Rattle.std.proofs.Common.{◌≡◌, ℕ, zero, suc, ◌+◌, List, [], ◌∷◌, length, set, get_or, sym, refl, ap, ◌∙◌, arith, Option}
use mathlib.Core.Option.{some, some-injective, some-ne-none}
use lib.ListN.{get_elem?}
use Rattle.seq_object.specs.declared.history.Entry.{Entry}
use Rattle.rooms.specs.declared.room.Room.{Room}
use Rattle.yard_model.specs.declared.view.Beginning.{Beginning}
use Rattle.yard_model.specs.declared.view.View.{View}
use Rattle.yard_model.specs.World.{YardState}
use Rattle.plain_yard.specs.declared.seat.Seat.{Seat}
use Rattle.plain_yard.specs.Meaning.{view_in, views_in}

-- the world of these words, rooms and seats, where so many entries are drawn
abbrev pub world_with : Beginning → List Entry → ℕ → ℕ → ℕ → List ℕ → List (Option Room) → List Seat → YardState
world_with b h n tick arrival locks rooms seats = record { words = tick ∷ n ∷ arrival ∷ locks; rooms = rooms; views = views_in b h 0 seats }

-- the view of a seat
views_from : (b : Beginning) (h : List Entry) (k : ℕ) (ss : List Seat) (i : ℕ) (s : Seat) → get_elem? ss i ≡ some s → get_elem? (views_in b h k ss) i ≡ some (view_in b h (k + i) s)
views_from b h k [] i s at = absurd (some-ne-none s (sym at))
views_from b h k (x ∷ xs) zero s at = let e : k ≡ k + 0 = omega arith in (λ j. some (view_in b h (e j) (some-injective x s at j)))
views_from b h k (x ∷ xs) (suc i) s at = let e : suc k + i ≡ k + suc i = omega arith in views_from b h (suc k) xs i s at ∙ ap (λ (n : ℕ). some (view_in b h n s)) e

pub views_here : (b : Beginning) (h : List Entry) (ss : List Seat) (i : ℕ) (s : Seat) → get_elem? ss i ≡ some s → get_elem? (views_in b h 0 ss) i ≡ some (view_in b h i s)
views_here b h ss i s at = let e : 0 + i ≡ i = omega arith in views_from b h 0 ss i s at ∙ ap (λ (n : ℕ). some (view_in b h n s)) e

-- a seat that changes is a view that changes
set_from : (b : Beginning) (h : List Entry) (k : ℕ) (ss : List Seat) (i : ℕ) (s : Seat) → views_in b h k (set ss i s) ≡ set (views_in b h k ss) i (view_in b h (k + i) s)
set_from b h k [] i s = refl
set_from b h k (x ∷ xs) zero s = let e : k ≡ k + 0 = omega arith in ap (λ (n : ℕ). view_in b h n s ∷ views_in b h (suc k) xs) e
set_from b h k (x ∷ xs) (suc i) s = let e : suc k + i ≡ k + suc i = omega arith in
    ap (λ (vs : List View). view_in b h k x ∷ vs) (set_from b h (suc k) xs i s ∙ ap (λ (n : ℕ). set (views_in b h (suc k) xs) i (view_in b h n s)) e)

pub set_views : (b : Beginning) (h : List Entry) (ss : List Seat) (i : ℕ) (s : Seat) → views_in b h 0 (set ss i s) ≡ set (views_in b h 0 ss) i (view_in b h i s)
set_views b h ss i s = let e : 0 + i ≡ i = omega arith in set_from b h 0 ss i s ∙ ap (λ (n : ℕ). set (views_in b h 0 ss) i (view_in b h n s)) e

pub number_of_views : (b : Beginning) (h : List Entry) (k : ℕ) (ss : List Seat) → length (views_in b h k ss) ≡ length ss
number_of_views b h k [] = refl
number_of_views b h k (s ∷ ss) = ap suc (number_of_views b h (suc k) ss)

-- what is there is what is read
pub read_at : {A : Type 0} → (l : List A) (i : ℕ) (a d : A) → get_elem? l i ≡ some a → get_or l i d ≡ a
read_at [] i a d at = absurd (some-ne-none a (sym at))
read_at (x ∷ xs) zero a d at = some-injective x a at
read_at (x ∷ xs) (suc i) a d at = read_at xs i a d at

-- the words of a yard: three, and the locks
pub set_lock : (a c d r n : ℕ) (ls : List ℕ) → set (a ∷ c ∷ d ∷ ls) (3 + r) n ≡ a ∷ c ∷ d ∷ set ls r n
set_lock a c d r n ls = let e : 3 + r ≡ suc (suc (suc r)) = omega arith in ap (λ (k : ℕ). set (a ∷ c ∷ d ∷ ls) k n) e

pub read_lock : (a c d r z : ℕ) (ls : List ℕ) → get_or (a ∷ c ∷ d ∷ ls) (3 + r) z ≡ get_or ls r z
read_lock a c d r z ls = let e : 3 + r ≡ suc (suc (suc r)) = omega arith in ap (λ (k : ℕ). get_or (a ∷ c ∷ d ∷ ls) k z) e
