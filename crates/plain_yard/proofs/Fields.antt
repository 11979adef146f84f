-- From what contracts see of a plain yard to its fields.
use Rattle.std.proofs.Common.{◌≡◌, ℕ, ◌<◌, ◌≤◌, length, get_or, sym, ap, ◌∙◌, subst, arith, Some}
use Rattle.std.specs.Vec.{vec_len}
use Rattle.std.specs.Global.{Vec}
use Rattle.std.proofs.lemmas.List.{length-map, get_or_default}
use Rattle.std.proofs.lemmas.List.Elements.{All-get_or}
use mathlib.Core.Option.{some}
use lib.ListN.{get_elem?}
use Rattle.seq_object.specs.Sizes.{room_count}
use Rattle.yard_model.specs.declared.view.View.{View}
use Rattle.yard_model.specs.Beginnings.{sizes_at}
use Rattle.yard_model.specs.Opens.{opening_view}
use Rattle.yard_laws.proofs.Knowns.{last_few}
use Rattle.yard_laws.proofs.Arrivals.{few_threads}
use Rattle.yard_laws.proofs.Lists.{at_index, at_inside, there}
use Rattle.room_yard.specs.Told.{IsTold}
use Rattle.plain_yard.specs.declared.seat.Drawn.{Drawn}
use Rattle.plain_yard.specs.declared.seat.Seat.{Seat}
use Rattle.plain_yard.specs.declared.yard.PlainYard.TheInside.{Inside}
use Rattle.plain_yard.specs.Shown.{ShownYard, view_at, IsThread}
use Rattle.plain_yard.specs.Meaning.{entries_in, view_in, views_in}
use Rattle.plain_yard.specs.Kept.{state_in, checkpoints_in, told_in, shown_yard, HasPlaces, WasHeld, IsKeptYard}
use Rattle.plain_yard.proofs.Views.{views_here, number_of_views, read_at}

-- the view of a thread, by its seat
abbrev pub view_of_seat : Inside → ℕ → Seat → View
view_of_seat p i s = view_in p.beginning (entries_in p.log.items) i s

pub shown_here : (p : Inside) (i : ℕ) (s : Seat) → get_elem? p.seats.items i ≡ some s → view_at (shown_yard p) i ≡ view_of_seat p i s
shown_here p i s at = read_at (views_in p.beginning (entries_in p.log.items) 0 p.seats.items) i (view_of_seat p i s) (opening_view p.beginning i)
    (views_here p.beginning (entries_in p.log.items) p.seats.items i s at)

-- the seat of a thread
module _ (p : Inside) (y : ShownYard) (is : shown_yard p ≡ y) (i : ℕ) (thread : IsThread y i) where
  pub has_seat : i < length p.seats.items
  has_seat = let t = subst (λ (z : ShownYard). IsThread z i) (sym is) thread in let n = number_of_views p.beginning (entries_in p.log.items) 0 p.seats.items in omega (arith, t, n)

  pub has_vec : i < vec_len p.seats
  has_vec = let h = has_seat in let o = p.seats.ok.0 in omega (arith, h, o)

  pub seat_at : (s : Seat) → s ≡ get_or p.seats.items i s → get_elem? p.seats.items i ≡ some s
  seat_at s e = at_index p.seats.items i s has_seat e

  pub view_is : (s : Seat) → get_elem? p.seats.items i ≡ some s → view_at y i ≡ view_of_seat p i s
  view_is s at = ap (λ (z : ShownYard). view_at z i) (sym is) ∙ shown_here p i s at

-- the beginning that the thread knows
pub known : (p : Inside) (y : ShownYard) (is : shown_yard p ≡ y) (i : ℕ) (thread : IsThread y i) → (view_at y i).beginning ≡ p.beginning
known p y is i thread = let t = there p.seats.items i (has_seat p y is i thread) in ap (λ (v : View). v.beginning) (view_is p y is i thread t.0 t.1)

-- what a yard keeps
module _ (p : Inside) (kept : IsKeptYard p) where
  pub covers_few : p.covered ≤ length p.log.items
  covers_few = let a = last_few p.beginning (state_in p) (entries_in p.log.items) (checkpoints_in p) kept.lawful in let e = kept.covered in let n = length-map p.log.items (λ (d : Drawn). d.entry) in omega (arith, a, e, n)

  pub few_shards_here : p.beginning.settings.shards ≤ 64
  few_shards_here = let f = kept.lawful.bounds.beginning.settings.sizes.few_shards in omega (arith, f)

  pub few_threads_here : p.beginning.settings.threads ≤ 16
  few_threads_here = kept.lawful.bounds.beginning.settings.sizes.few_threads

  -- each room has a lock and a place
  module _ (r : ℕ) (within : r < room_count (sizes_at p.beginning)) where
    pub has_lock : r < vec_len p.locks
    has_lock = let n = kept.lawful.sized.words in let o = p.locks.ok.0 in omega (arith, within, n, o)

    pub has_place : r < vec_len p.rooms
    has_place = let n = kept.lawful.sized.rooms in let o = p.rooms.ok.0 in omega (arith, within, n, o)

  -- what a seat keeps
  module _ (i : ℕ) (s : Seat) (at : get_elem? p.seats.items i ≡ some s) where
    pub seat_places : HasPlaces s
    seat_places = subst HasPlaces (read_at p.seats.items i s s at) (All-get_or HasPlaces p.seats.items i s (at_inside p.seats.items i s at) kept.places)

    pub seat_held : WasHeld (length p.log.items) s
    seat_held = subst (WasHeld (length p.log.items)) (read_at p.seats.items i s s at) (All-get_or (WasHeld (length p.log.items)) p.seats.items i s (at_inside p.seats.items i s at) kept.held)

    pub told_here : IsTold (Some (told_in p)) (view_of_seat p i s)
    told_here = (kept.lawful, views_here p.beginning (entries_in p.log.items) p.seats.items i s at)

    pub below : i < 16
    below = few_threads p.beginning (state_in p) (entries_in p.log.items) (checkpoints_in p) kept.lawful i (view_of_seat p i s) told_here.1

-- a word that is read
pub word_is : (words : Vec ℕ) (r found : ℕ) → r < vec_len words → found ≡ get_or words.items r found → get_or words.items r 0 ≡ found
word_is words r found lt e = let o = words.ok.0 in get_or_default words.items r 0 found (omega (arith, lt, o)) ∙ sym e
