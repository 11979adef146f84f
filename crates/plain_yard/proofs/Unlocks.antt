-- An unlock of a plain yard.
use Rattle.std.proofs.Common.{◌≡◌, ℕ, ◌+◌, ◌<◌, ◌≤◌, ◌==◌, ◌&&◌, ◌||◌, cond, not, Bool, true, false, List, [], ◌∷◌, ◌++◌, length, set, take, sym, refl, ap, ◌∙◌, subst, arith, Option, Some, None, is_none, length-set, length-take}
use Rattle.std.specs.Prelude.{nat_lt}
use Rattle.std.specs.Vec.{vec_len}
use Rattle.std.proofs.lemmas.List.{take_more_set}
use Rattle.std.proofs.lemmas.Bool.{eqb-true, ltb-true}
use mathlib.Core.Option.{some}
use lib.ListN.{get_elem?}
use Rattle.seq_object.specs.declared.history.Entry.{Entry}
use Rattle.seq_object.specs.declared.settings.Settings.{Settings}
use Rattle.seq_object.specs.Sizes.{room_count}
use Rattle.rooms.specs.declared.room.Room.{Room}
use Rattle.rooms.specs.declared.room.Room.TheVariants.{Map, Queue, Thread, Super}
use Rattle.rooms.specs.Rooms.{IsKindOf, is_empty_queue, end_of}
use Rattle.yard_model.specs.declared.view.Phase.{Phase}
use Rattle.yard_model.specs.declared.view.Phase.TheVariants.{Standing, Running, Closing}
use Rattle.yard_model.specs.declared.view.Beginning.{Beginning}
use Rattle.yard_model.specs.declared.view.View.{View}
use Rattle.yard_model.specs.declared.view.Grip.{Grip}
use Rattle.yard_model.specs.Beginnings.{sizes_at}
use Rattle.yard_model.specs.Knows.{MayHold}
use Rattle.yard_model.specs.Views.{freed, found_after, closed_after, is_thread_room}
use Rattle.room_yard.specs.Told.{Told, IsTold}
use Rattle.room_yard.specs.Calls.{MayReturn}
use Rattle.room_yard.specs.Answers.{Unlocked}
use Rattle.room_yard.specs.Laws.{CanTell}
use Rattle.room_yard.proofs.Told.{unlock_answers}
use Rattle.plain_yard.specs.declared.seat.Holding.{Holding}
use Rattle.plain_yard.specs.declared.seat.Seat.{Seat}
use Rattle.plain_yard.specs.declared.yard.PlainYard.TheInside.{Inside}
use Rattle.plain_yard.specs.Seats.{empty_here, drew_none, found_in, learnt_in, freed_seat, LearnsOneMore}
use Rattle.plain_yard.specs.Shown.{ShownYard, view_at, IsThread}
use Rattle.plain_yard.specs.Meaning.{entries_in, grip_in, closed_in, view_in}
use Rattle.plain_yard.specs.Kept.{told_in, shown_yard, HasPlaces, WasHeld, IsKeptYard}
use Rattle.plain_yard.proofs.Fields.{view_of_seat, view_is, told_here, seat_places, few_threads_here, few_shards_here, has_lock as room_has_lock, has_place as room_has_place}
use Rattle.plain_yard.proofs.Steps.{moved, moved_yard, IsDone}

-- of the queue room it is known whether it is empty
empty_same : (s : Settings) (r : ℕ) (x : Room) → IsKindOf s r x → r ≡ s.shards → empty_here x ≡ is_empty_queue x
empty_same s r (Map x) is here = let k = is.0 in absurd (omega (arith, k, here))
empty_same s r (Queue x) is here = refl
empty_same s r (Thread x) is here = let k = is.0 in absurd (omega (arith, k, here))
empty_same s r (Super x) is here = absurd (omega (arith, is, here))

-- a choice at a number
at_number : {A : Type 0} → (r n : ℕ) (a c d : A) → (r ≡ n → a ≡ c) → cond (r == n) a d ≡ cond (r == n) c d
at_number r n a c d same = by (r == n) (λ e. same (eqb-true r n e))
  where
    by : (q : Bool) → (q ≡ true → a ≡ c) → cond q a d ≡ cond q c d
    by true f = f refl
    by false f = refl

-- a held room drew nothing where its grip has not
pub drew_same : (b : Beginning) (h : List Entry) (g : Grip) (o : Option Holding) → grip_in b h o ≡ Some g → drew_none o ≡ is_none g.drawn
drew_same b h g None is = absurd (cc)
drew_same b h g (Some k) is = ap none_in is
  where
    none_in : Option Grip → Bool
    none_in None = true
    none_in (Some q) = is_none q.drawn

-- the view behind an unlock
module _ (b : Beginning) (h : List Entry) (i : ℕ) (s : Seat) (g : Grip) (x : Room) (kind : IsKindOf b.settings g.room x) (held : grip_in b h s.holding ≡ Some g)
    (places : length s.learnt.ends ≡ 16) (learns : s.phase ≡ Closing → LearnsOneMore b.settings g.room s.learnt) where
  abbrev before : View
  before = view_in b h i s

  empty_now : cond (g.room == b.settings.shards) (empty_here x) false ≡ cond (g.room == b.settings.shards) (is_empty_queue x) false
  empty_now = at_number g.room b.settings.shards (empty_here x) (is_empty_queue x) false (empty_same b.settings g.room x kind)

  found_same : (p : Phase) → found_in p b.settings g.room (drew_none s.holding) (empty_here x) s.found_empty ≡ found_after p before g x
  found_same Standing = refl
  found_same Running = ap (λ (c : Bool). s.found_empty || ((g.room == b.settings.shards) && (c && empty_here x))) (drew_same b h g s.holding held)
      ∙ ap (λ (c : Bool). s.found_empty || c) (shift (g.room == b.settings.shards) (is_none g.drawn) (empty_here x) (is_empty_queue x) empty_now)
    where
      shift : (p q e f : Bool) → cond p e false ≡ cond p f false → (p && (q && e)) ≡ (p && (q && f))
      shift true q e f is = ap (λ (c : Bool). q && c) is
      shift false q e f is = refl
  found_same Closing = refl

  closed_same : (p : Phase) → s.phase ≡ p → closed_in (learnt_in p b.settings g.room (empty_here x) (end_of x) s.learnt) ≡ closed_after p before g x
  closed_same Standing is = refl
  closed_same Running is = refl
  closed_same Closing is = (λ j. record {
    rooms = s.learnt.rooms + 1;
    fed = at_number g.room b.settings.shards (Some (not (empty_here x))) (Some (not (is_empty_queue x))) s.learnt.fed (λ e. ap (λ (c : Bool). Some (not c)) (empty_same b.settings g.room x kind e)) j;
    ends = ends (is_thread_room (sizes_at b) g.room) refl j;
    entries = None;
  })
    where
      ends : (c : Bool) → is_thread_room (sizes_at b) g.room ≡ c → take (cond c (s.learnt.known + 1) s.learnt.known) (cond c (set s.learnt.ends s.learnt.known (end_of x)) s.learnt.ends)
          ≡ cond c (take s.learnt.known s.learnt.ends ++ end_of x ∷ []) (take s.learnt.known s.learnt.ends)
      ends true e = take_more_set s.learnt.ends s.learnt.known (end_of x) (let k = (learns is).known e in omega (arith, k, places))
      ends false e = refl

  freed_view : view_in b h i (freed_seat b.settings i g.room (empty_here x) (end_of x) s) ≡ freed before g x
  freed_view = (λ j. record before { grip = None; wrote = s.wrote || (g.room == b.settings.shards + 1 + i); found_empty = found_same s.phase j; closed = closed_same s.phase refl j })

module _ (p : Inside) (y : ShownYard) (is : shown_yard p ≡ y) (kept : IsKeptYard p) (i : ℕ) (thread : IsThread y i) (s : Seat) (at : get_elem? p.seats.items i ≡ some s)
    (r : ℕ) (x : Room) (may : MayReturn (view_at y i) r x) where
  abbrev b : Beginning
  b = p.beginning

  abbrev h : List Entry
  h = entries_in p.log.items

  abbrev v : View
  v = view_of_seat p i s

  told : IsTold (Some (told_in p)) v
  told = told_here p kept i s at

  may_here : MayReturn v r x
  may_here = subst (λ (z : View). MayReturn z r x) (view_is p y is i thread s at) may

  abbrev g : Grip
  g = may_here.0

  holds_now : MayHold (sizes_at b) i s.phase s.learnt.rooms r × (r < room_count (sizes_at b))
  holds_now = subst (λ (q : ℕ). MayHold (sizes_at b) i s.phase s.learnt.rooms q × (q < room_count (sizes_at b))) may_here.1 ((kept.lawful.locks.views i v told.1).may_hold g may_here.2.held)

  pub has_lock : r < vec_len p.locks
  has_lock = room_has_lock p kept r holds_now.1

  pub has_place : r < vec_len p.rooms
  has_place = room_has_place p kept r holds_now.1

  pub learns : s.phase ≡ Closing → LearnsOneMore b.settings r s.learnt
  learns closing = let f = kept.lawful.bounds.learnt i v told.1 closing in
      let next : r ≡ s.learnt.rooms = subst (λ (q : Phase). MayHold (sizes_at b) i q s.learnt.rooms r) closing holds_now.0 in record {
        rooms = let m = f.rooms in let t = few_threads_here p kept in let q = few_shards_here p kept in omega (arith, m, t, q);
        known = λ e. let low = ltb-true b.settings.shards r (first (nat_lt b.settings.shards r) (nat_lt r (b.settings.shards + 1 + b.settings.threads)) e) in
            let high = ltb-true r (b.settings.shards + 1 + b.settings.threads) (second (nat_lt b.settings.shards r) (nat_lt r (b.settings.shards + 1 + b.settings.threads)) e) in
            let number = length-take s.learnt.known s.learnt.ends ∙ refl in let k = f.number in let t = few_threads_here p kept in let places = seat_places p kept i s at in
            omega (arith, next, low, high, number, k, t, places.0, places.1);
      }
    where
      first : (c d : Bool) → (c && d) ≡ true → c ≡ true
      first true d e = refl
      first false d e = absurd (cc)

      second : (c d : Bool) → (c && d) ≡ true → d ≡ true
      second true d e = e
      second false d e = absurd (cc)

  learns_grip : s.phase ≡ Closing → LearnsOneMore b.settings g.room s.learnt
  learns_grip closing = subst (λ (q : ℕ). LearnsOneMore b.settings q s.learnt) (sym may_here.1) (learns closing)

  -- there are still 16 places, of which no more are known
  learnt_places : (o : Phase) → (o ≡ Closing → LearnsOneMore b.settings r s.learnt)
      → (length (learnt_in o b.settings r (empty_here x) (end_of x) s.learnt).ends ≡ 16) × ((learnt_in o b.settings r (empty_here x) (end_of x) s.learnt).known ≤ 16)
  learnt_places Standing f = seat_places p kept i s at
  learnt_places Running f = seat_places p kept i s at
  learnt_places Closing f = by (is_thread_room (sizes_at b) r) refl
    where
      by : (c : Bool) → is_thread_room (sizes_at b) r ≡ c → (length (cond c (set s.learnt.ends s.learnt.known (end_of x)) s.learnt.ends) ≡ 16) × (cond c (s.learnt.known + 1) s.learnt.known ≤ 16)
      by true e = let k = (f refl).known e in (length-set s.learnt.ends s.learnt.known (end_of x) ∙ (seat_places p kept i s at).0, omega (arith, k))
      by false e = seat_places p kept i s at

  answer : CanTell (λ (w : View) (c : Told). Unlocked v (Some (told_in p)) r x w (Some c))
  answer = unlock_answers (told_in p) v r x told may_here

  view : view_of_seat p i (freed_seat b.settings i r (empty_here x) (end_of x) s) ≡ answer.0
  view = ap (λ (q : ℕ). view_of_seat p i (freed_seat b.settings i q (empty_here x) (end_of x) s)) (sym may_here.1)
      ∙ (freed_view b h i s g x may_here.2.kept.room.kind may_here.2.held (seat_places p kept i s at).0 learns_grip ∙ sym (answer.3.view g may_here.2.held))

  pub unlock_done : (u : Seat) → u ≡ freed_seat b.settings i r (empty_here x) (end_of x) s → IsDone (λ v t w u. Unlocked v t r x w u) y i (moved_yard p i r u (0, Some x))
  unlock_done u e = moved (λ v t w u. Unlocked v t r x w u) p y is kept i thread s at r u (0, Some x) (0, Some x) refl answer.0
      (ap (view_of_seat p i) e ∙ view) answer.1 answer.3.world (answer.2, answer.3)
      (subst HasPlaces (sym e) (learnt_places s.phase learns), subst (WasHeld (length p.log.items)) (sym e) tt)
