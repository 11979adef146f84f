-- A plain yard as a life opens with it.
use Rattle.std.proofs.Common.{◌≡◌, ℕ, zero, suc, replicate, ◌-◌, ◌/◌, ◌^◌, ◌≤◌, List, [], ◌∷◌, map, length, Option, Some, sym, refl, ap, ◌∙◌, subst, arith}
use Rattle.std.specs.List.{All}
use Rattle.std.specs.Vec.{vec_capacity}
use Rattle.std.specs.Global.{Vec}
use Rattle.std.proofs.lemmas.List.{length-map}
use Rattle.std.proofs.lemmas.List.Elements.{All-cons}
use Rattle.rooms.specs.declared.room.Room.{Room}
use Rattle.restart_point.specs.declared.thread_end.ThreadEnd.{ThreadEnd}
use Rattle.restart_point.specs.declared.thread_end.ThreadEnd.TheVariants.{Ready}
use Rattle.restart_point.specs.ArrivalWord.{is_set}
use Rattle.yard_model.specs.declared.view.Checkpoint.{Checkpoint}
use Rattle.yard_model.specs.declared.view.Beginning.{Beginning}
use Rattle.yard_model.specs.declared.view.View.{View}
use Rattle.yard_model.specs.Opens.{opening_view, opening_views_from}
use Rattle.yard_model.specs.Beginnings.{first_epoch, covered_by}
use Rattle.yard_model.specs.Lawful.{Lawful}
use Rattle.yard_laws.proofs.Beginning.{opens_lawful}
use Rattle.room_yard.specs.Told.{Told}
use Rattle.room_yard.specs.World.{WorldState, Opens}
use Rattle.line_memory.specs.Line.{BankState}
use Rattle.plain_yard.specs.declared.opening.Lists.{Lists}
use Rattle.plain_yard.specs.declared.seat.Drawn.{Drawn}
use Rattle.plain_yard.specs.declared.seat.Seat.{Seat}
use Rattle.plain_yard.specs.declared.yard.PlainYard.TheInside.{Inside}
use Rattle.plain_yard.specs.Seats.{opening_seat}
use Rattle.plain_yard.specs.Opening.{commands_in, AreOpeningLists}
use Rattle.plain_yard.specs.Shown.{opening_told}
use Rattle.plain_yard.specs.Meaning.{entries_in, checkpoints_up_to, views_in}
use Rattle.plain_yard.specs.Kept.{checkpoints_in, told_in, shown_yard, HasPlaces, WasHeld, HasRoomFor, IsKeptYard}

-- each of these seats is the same
all_same : (n : ℕ) (s : Seat) (P : Seat → Type 0) → P s → All P (replicate n s)
all_same zero s P is = λ j d lt. absurd (omega (arith, lt))
all_same (suc n) s P is = All-cons P s (replicate n s) is (all_same n s P is)

-- the views of such seats are those of an opening
views_open : (b : Beginning) (ends : List ThreadEnd) (k n : ℕ) → views_in b [] k (replicate n (opening_seat ends)) ≡ opening_views_from b k n
views_open b ends k zero = refl
views_open b ends k (suc n) = ap (λ (vs : List View). opening_view b k ∷ vs) (views_open b ends (suc k) n)

-- the fields of a yard that is made of a world
pub record IsMadeOf (w : WorldState) (ends : List ThreadEnd) (p : Inside) : Type 0 where
  pub tick : p.tick ≡ 0
  pub arrival : p.arrival ≡ w.arrival
  pub covered : p.covered ≡ 0
  pub locks : p.locks.items ≡ replicate (length w.rooms) 0
  pub rooms : p.rooms.items ≡ map Some w.rooms
  pub seats : p.seats.items ≡ replicate p.beginning.settings.threads (opening_seat ends)
  pub number : length ends ≡ 16
  pub log : p.log.items ≡ []
  pub room : commands_in p.beginning.scripts ≤ vec_capacity p.log
  pub lists : HasRoomFor (length w.rooms) p.emptied

module _ (p : Inside) (w : WorldState) (ends : List ThreadEnd) (made : IsMadeOf w ends p) (opens : Opens p.beginning w) where
  abbrev b : Beginning
  b = p.beginning

  none : p.arrival / 2 ^ 32 - first_epoch b ≡ 0
  none = let e = opens.yard.arrival.epoch in let a = ap (λ (n : ℕ). n / 2 ^ 32) made.arrival in omega (arith, e, a)

  no_checkpoints : checkpoints_in p ≡ []
  no_checkpoints = ap (λ (n : ℕ). checkpoints_up_to p.log.items (first_epoch b) (is_set p.arrival 17) n) none

  pub made_told : told_in p ≡ opening_told b w
  made_told = (λ j. record {
    world = record {
      words = made.tick j ∷ length (made.log j) ∷ made.arrival j ∷ made.locks j;
      rooms = made.rooms j;
      views = ((λ k. views_in b (entries_in (made.log k)) 0 (made.seats k)) ∙ views_open b ends 0 b.settings.threads) j;
    };
    history = entries_in (made.log j);
    checkpoints = no_checkpoints j;
  })

  pub made_kept : IsKeptYard p
  made_kept = record {
    lawful = subst (λ (t : Told). Lawful b t.world t.history t.checkpoints) (sym made_told) (opens_lawful b (opening_told b w).world opens.yard);
    covered = made.covered ∙ ap (λ (cs : List Checkpoint). covered_by cs) (sym no_checkpoints);
    epochs = subst (λ (l : List Drawn). All (λ (d : Drawn). d.epoch ≤ p.arrival / 2 ^ 32) l) (sym made.log) (λ j d lt. absurd (omega (arith, lt)));
    places = subst (λ (ss : List Seat). All HasPlaces ss) (sym made.seats) (all_same b.settings.threads (opening_seat ends) HasPlaces (made.number, omega arith));
    held = subst (λ (ss : List Seat). All (WasHeld (length p.log.items)) ss) (sym made.seats) (all_same b.settings.threads (opening_seat ends) (WasHeld (length p.log.items)) tt);
    room = made.room;
    lists = subst (λ (n : ℕ). HasRoomFor n p.emptied) (sym (ap (λ (l : List (Option Room)). length l) made.rooms ∙ length-map w.rooms Some)) made.lists;
  }

-- the yard that is made of a world and lists
abbrev pub made_yard : Beginning → Lists → Vec (Option Room) → ℕ → Vec ℕ → Vec BankState → Inside
made_yard b lists rooms arrival held banks = record {
  beginning = b;
  tick = 0;
  arrival = arrival;
  covered = 0;
  locks = lists.locks;
  rooms = rooms;
  seats = lists.seats;
  log = lists.log;
  emptied = record { rooms = lists.rooms; held = held; banks = banks };
}

module _ (w : WorldState) (b : Beginning) (lists : Lists) (opens : Opens b w) (are : AreOpeningLists b.settings.threads (length w.rooms) (commands_in b.scripts) lists) (rooms : Vec (Option Room)) (placed : rooms.items ≡ map Some w.rooms)
    (arrival : ℕ) (is_arrival : arrival ≡ w.arrival) (held : Vec ℕ) (no_held : held.items ≡ w.held) (numbers : length w.rooms ≤ vec_capacity held) (banks : Vec BankState) (no_banks : banks.items ≡ []) (fits : length w.rooms ≤ vec_capacity banks) where
  abbrev q : Inside
  q = made_yard b lists rooms arrival held banks

  made : IsMadeOf w (replicate 16 Ready) q
  made = record {
    tick = refl;
    arrival = is_arrival;
    covered = refl;
    locks = are.locks;
    rooms = placed;
    seats = are.seats;
    number = refl;
    log = are.log;
    room = are.entries;
    lists = record { no_rooms = are.no_rooms; rooms = are.rooms; no_held = no_held ∙ opens.held; held = numbers; no_banks = no_banks; banks = fits };
  }

  pub yard_kept : IsKeptYard q
  yard_kept = made_kept q w (replicate 16 Ready) made opens

  pub yard_shown : shown_yard q ≡ record { beginning = b; told = opening_told b w }
  yard_shown = ap (λ (t : Told). record { beginning = b; told = t }) (made_told q w (replicate 16 Ready) made opens)
