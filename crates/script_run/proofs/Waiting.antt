-- Whether a thread waits, read off the rooms of a yard; and how its life ends by that.
use Rattle.std.proofs.Common.{◌≡◌, ℕ, zero, suc, ◌+◌, ◌-◌, ◌<◌, Bool, true, false, List, [], ◌∷◌, map, length, Option, Some, None, ◌||◌, sym, refl, ap, ◌∙◌, subst, arith}
use Rattle.std.specs.List.{list_any}
use Rattle.std.proofs.lemmas.List.{length-map}
use mathlib.Core.Option.{some, some-injective, some-ne-none}
use lib.ListN.{get_elem?}
use Rattle.seq_object.specs.Sizes.{sizes_of, thread_room, super_room, room_count}
use Rattle.seq_object.specs.declared.settings.Settings.{Settings}
use Rattle.restart_point.specs.declared.thread_end.ThreadEnd.{ThreadEnd}
use Rattle.restart_point.specs.declared.thread_end.ThreadEnd.TheVariants.{Ready, Waits, Ended}
use Rattle.rooms.specs.declared.room.Room.{Room}
use Rattle.rooms.specs.declared.room.Room.TheVariants.{Map, Queue, Thread, Super}
use Rattle.rooms.specs.Rooms.{end_of, IsKindOf}
use Rattle.yard_model.specs.declared.view.Beginning.{Beginning}
use Rattle.yard_model.specs.declared.view.Checkpoint.{Checkpoint}
use Rattle.yard_model.specs.Beginnings.{sizes_at, is_over}
use Rattle.yard_model.specs.World.{YardState, Home}
use Rattle.yard_model.specs.Outcomes.{NoneWaits, SomeWaits, ShowsEnd}
use Rattle.plain_yard.specs.Shown.{ShownYard, IsLawfulYard, AreAtHome}
use Rattle.script_run.specs.Ends.{is_waiting, waits_in, TellsWaiting, outcome_of}

-- an end that is one of waiting
waits_where : (e : ThreadEnd) → is_waiting e ≡ true → e ≡ Waits
waits_where Ready is = absurd (cc)
waits_where Waits is = refl
waits_where Ended is = absurd (cc)

-- one of these rooms is of a thread that waits
record FoundWaiting (xs : List Room) : Type 0 where
  place : ℕ
  room : Room
  there : get_elem? (map Some xs) place ≡ some (Some room)
  waits : waits_in room ≡ true

found_later : (x : Room) (xs : List Room) → FoundWaiting xs → FoundWaiting (x ∷ xs)
found_later x xs f = record { place = suc f.place; room = f.room; there = f.there; waits = f.waits }

found : (xs : List Room) → list_any waits_in xs ≡ true → FoundWaiting xs
found [] is = absurd (cc)
found (x ∷ xs) is = by (waits_in x) refl is (λ past. found xs past)
  where
    by : (c : Bool) → waits_in x ≡ c → (c || list_any waits_in xs) ≡ true → (list_any waits_in xs ≡ true → FoundWaiting xs) → FoundWaiting (x ∷ xs)
    by true here is past = record { place = 0; room = x; there = refl; waits = here }
    by false here is past = found_later x xs (past is)

-- none of them is
abbrev is_waiting_or : Room → Option Room → Bool
is_waiting_or x (Some y) = waits_in y
is_waiting_or x None = waits_in x

none_found : (xs : List Room) → list_any waits_in xs ≡ false → (r : ℕ) (x : Room) → get_elem? (map Some xs) r ≡ some (Some x) → waits_in x ≡ false
none_found [] is r x at = absurd (some-ne-none (Some x) (sym at))
none_found (y ∷ ys) is zero x at = by (waits_in y) (ap (is_waiting_or y) (some-injective (Some y) (Some x) at)) is
  where
    by : (c : Bool) → c ≡ waits_in x → (c || list_any waits_in ys) ≡ false → waits_in x ≡ false
    by true same is = absurd (cc)
    by false same is = sym same
none_found (y ∷ ys) is (suc r) x at = none_found ys (by (waits_in y) is) r x at
  where
    by : (c : Bool) → (c || list_any waits_in ys) ≡ false → list_any waits_in ys ≡ false
    by true is = absurd (cc)
    by false is = is

-- a room that tells of one that waits is a thread's
abbrev IsThreadNumber : Settings → ℕ → Type 0
IsThreadNumber s r = (s.shards < r) × (r < super_room (sizes_of s))

of_thread : (s : Settings) (r : ℕ) (x : Room) → IsKindOf s r x → waits_in x ≡ true → IsThreadNumber s r
of_thread s r (Map x) kind waits = absurd (cc)
of_thread s r (Queue x) kind waits = absurd (cc)
of_thread s r (Thread x) kind waits = kind
of_thread s r (Super x) kind waits = absurd (cc)

-- WHETHER A THREAD WAITS, where all rooms are at home.
module _ (y : ShownYard) (lawful : IsLawfulYard y) (rooms : List Room) (home : AreAtHome y.told.world rooms) where
  at_home : (r : ℕ) (x : Room) → get_elem? (map Some rooms) r ≡ some (Some x) → Home y.told.world r x
  at_home r x there = ap (λ (l : List (Option Room)). get_elem? l r) (sym home) ∙ there

  -- they are as many as the yard has
  pub as_many : length rooms ≡ room_count (sizes_at y.beginning)
  as_many = sym (length-map rooms Some) ∙ (ap length home ∙ lawful.sized.rooms)

  some_waits : FoundWaiting rooms → SomeWaits y.beginning y.told.world
  some_waits f =
      let here = at_home f.place f.room f.there in
      let number : IsThreadNumber y.beginning.settings f.place = of_thread y.beginning.settings f.place f.room (lawful.sized.kinds f.place f.room here).kind f.waits in
      let above = number.0 in let below = number.1 in
      let is : f.place ≡ thread_room (sizes_at y.beginning) (f.place - (y.beginning.settings.shards + 1)) = omega (arith, above) in
      record {
        thread = f.place - (y.beginning.settings.shards + 1);
        room = f.room;
        within = omega (arith, above, below);
        home = subst (λ (r : ℕ). Home y.told.world r f.room) is here;
        waits = waits_where (end_of f.room) f.waits;
      }

  none_waits : list_any waits_in rooms ≡ false → NoneWaits y.beginning y.told.world
  none_waits none i x lt here waits =
      let q : true ≡ false = ap is_waiting (sym waits) ∙ none_found rooms none (thread_room (sizes_at y.beginning) i) x (ap (λ (l : List (Option Room)). get_elem? l (thread_room (sizes_at y.beginning) i)) home ∙ here) in
      absurd (cc q)

  pub tells_waiting : (waits : Bool) → waits ≡ list_any waits_in rooms → TellsWaiting waits y.beginning y.told.world
  tells_waiting true is = some_waits (found rooms (sym is))
  tells_waiting false is = none_waits (sym is)

-- THE OUTCOME is what the yard shows.
pub shows_end : (dry over waits : Bool) (b : Beginning) (w : YardState) (cs : List Checkpoint) → over ≡ is_over b cs → TellsWaiting waits b w
    → ShowsEnd (outcome_of dry over waits) b w cs
shows_end true over waits b w cs is tells = tt
shows_end false false waits b w cs is tells = sym is
shows_end false true true b w cs is tells = (sym is, tells)
shows_end false true false b w cs is tells = (sym is, tells)
