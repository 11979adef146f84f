-- The loads of a lawful world are what its history leaves, but for rooms that were given back in mid-work.
use Rattle.std.proofs.Common.{◌≡◌, ◌≢◌, ℕ, zero, suc, ◌+◌, ◌<◌, ◌≤◌, ◌⊎◌, ◌==◌, cond, Bool, true, false, List, [], ◌∷◌, length, take, sym, refl, ap, ◌∙◌, subst, ⊎_elim, inl, inr, arith, Option, Some, None, eq-eqb}
use mathlib.Core.Logic.{dite}
use native.Mathlib.Decide.{ℕ_discrete}
use Rattle.std.proofs.lemmas.Bool.{ne_eqb}
use Rattle.std.specs.List.{Contains}
use Rattle.seq_object.specs.declared.command.Command.{Command}
use Rattle.seq_object.specs.declared.history.Entry.{Entry}
use Rattle.seq_object.specs.declared.history.RestartPoint.{RestartPoint}
use Rattle.seq_object.specs.Object.{room_of}
use Rattle.line_memory.specs.Line.{BankState, bank_load, load_of}
use Rattle.room_model.specs.declared.write.PlannedStore.{PlannedStore}
use Rattle.room_model.specs.Chains.{RoomWords}
use Rattle.room_model.specs.MapRoom.{live_layout}
use Rattle.room_model.specs.Rooms.{StandsFor, point_in}
use Rattle.room_model.specs.Writes.{stored_in, stores_behind, writes_of}
use Rattle.room_laws.proofs.MapLaws.{layouts}
use Rattle.life_model.specs.declared.life.Outcome.{Outcome}
use Rattle.life_model.specs.declared.life.Outcome.TheVariants.{Finished, Stalled, Cut, Starved}
use Rattle.life_model.specs.Life.{point_after, next_command, covered, contents_now}
use Rattle.life_model.specs.Present.{stores_here, LoadsFirstStores, IsUnderWay, AreAscending, HoldsNoneAt}
use Rattle.room_laws.proofs.Words.{words as same_words}
use Rattle.rooms.specs.declared.room.Room.{Room}
use Rattle.yard_model.specs.declared.view.Phase.{Phase}
use Rattle.yard_model.specs.declared.view.Phase.TheVariants.{Standing, Running, Closing}
use Rattle.yard_model.specs.declared.view.Beginning.{Beginning}
use Rattle.yard_model.specs.declared.view.View.{View}
use Rattle.yard_model.specs.declared.view.GivenBack.{GivenBack}
use Rattle.yard_model.specs.declared.view.Checkpoint.{Checkpoint}
use Rattle.rooms.specs.Rooms.{loads}
use Rattle.yard_model.specs.Beginnings.{opening_of, sizes_at, marks_of, epoch_now, covered_part, is_over}
use Rattle.yard_model.specs.Knows.{stands, is_closing}
use Rattle.yard_model.specs.World.{YardState, lock_of, dead, Home, total_of}
use Rattle.yard_model.specs.Dead.{begun_by}
use Rattle.yard_model.specs.Lawful.{Lawful}
use Rattle.yard_model.specs.Lives.{IsMemoryOf, NamesDead, LifeIsPresentLaw}
use Rattle.yard_model.specs.Outcomes.{ShowsEnd}
use Rattle.yard_laws.proofs.Lists.{there}
use Rattle.yard_laws.proofs.Views.{total_part, total_few}
use Rattle.yard_laws.proofs.Knowns.{last_same}
use Rattle.yard_laws.proofs.Safe.{epoch_same}
use Rattle.yard_laws.proofs.Arrivals.{stands_gave_none}
use Rattle.seq_object.specs.Sizes.{thread_room, room_count}

-- HOW MANY ROOMS WERE GIVEN BACK

-- whether a view gave back a room
abbrev gives_room : ℕ → Option GivenBack → Bool
gives_room r None = false
gives_room r (Some k) = k.room == r

abbrev one_if : Bool → ℕ
one_if c = cond c 1 0

abbrev gives : ℕ → View → ℕ
gives r v = one_if (gives_room r v.given_back)

-- how many of these rooms it gave back
abbrev count_given : List ℕ → View → ℕ
count_given [] v = 0
count_given (r ∷ rs) v = gives r v + count_given rs v

total_sum : (r : ℕ) (rs : List ℕ) (vs : List View) → total_of (count_given (r ∷ rs)) vs ≡ total_of (gives r) vs + total_of (count_given rs) vs
total_sum r rs [] = refl
total_sum r rs (v ∷ vs) = let f = total_sum r rs vs in omega (arith, f)

-- where each of these rooms was given back, the views gave at least as many
all_given : (held : List ℕ) (vs : List View) → ((r : ℕ) → Contains held r → 1 ≤ total_of (gives r) vs) → length held ≤ total_of (count_given held) vs
all_given [] vs each = omega arith
all_given (r ∷ rs) vs each = let a = each r (0, omega arith, refl) in let c = all_given rs vs (λ q t. each q (suc t.0, (let lt = t.1 in omega (arith, lt)), t.2)) in let s = total_sum r rs vs in omega (arith, a, c, s)

-- a view gave none of rooms above the one that it gave back
none_above : (k : ℕ) (held : List ℕ) (given : Option GivenBack) (v : View) → v.given_back ≡ given → ((g : GivenBack) → given ≡ Some g → g.room ≡ k) → ((r : ℕ) → Contains held r → k < r) → count_given held v ≡ 0
none_above k [] given v is only above = refl
none_above k (r ∷ rs) None v is only above = ap (λ (o : Option GivenBack). one_if (gives_room r o) + count_given rs v) is
    ∙ (let f = none_above k rs None v is only (λ q t. above q (suc t.0, (let lt = t.1 in omega (arith, lt)), t.2)) in omega (arith, f))
none_above k (r ∷ rs) (Some g) v is only above = let lt = above r (0, omega arith, refl) in let n = only g refl in
    ap (λ (o : Option GivenBack). one_if (gives_room r o) + count_given rs v) is
    ∙ (ap (λ (c : Bool). one_if c + count_given rs v) (ne_eqb g.room r (λ e. omega (arith, e, lt, n)))
    ∙ (let f = none_above k rs (Some g) v is only (λ q t. above q (suc t.0, (let lt = t.1 in omega (arith, lt)), t.2)) in omega (arith, f)))

-- the rooms behind the first of an ascending list are above it
above_first : (r : ℕ) (rs : List ℕ) → AreAscending (r ∷ rs) → (q : ℕ) → Contains rs q → r < q
above_first r [] a q t = let lt = t.1 in absurd (omega (arith, lt))
above_first r (x ∷ xs) a q (zero, lt, is) = let f = a.0 in omega (arith, f, is)
above_first r (x ∷ xs) a q (suc k, lt, is) = let f = a.0 in let g = above_first x xs a.1 q (k, omega (arith, lt), is) in omega (arith, f, g)

rest_ascends : (r : ℕ) (rs : List ℕ) → AreAscending (r ∷ rs) → AreAscending rs
rest_ascends r [] a = tt
rest_ascends r (x ∷ xs) a = a.1

-- so it gave at most one of an ascending list
one_given : (held : List ℕ) (v : View) → AreAscending held → count_given held v ≤ 1
one_given [] v a = omega arith
one_given (r ∷ rs) v a = by v.given_back refl (one_given rs v (rest_ascends r rs a))
  where
    by : (o : Option GivenBack) → v.given_back ≡ o → count_given rs v ≤ 1 → gives r v + count_given rs v ≤ 1
    by None is f = let z = ap (λ (o : Option GivenBack). one_if (gives_room r o)) is in omega (arith, f, z)
    by (Some g) is f = dite (ℕ_discrete g.room r)
        (λ e. let z = none_above r rs (Some g) v is (λ k q. let same : g ≡ k = cc in ap (λ (k : GivenBack). k.room) (sym same) ∙ e) (above_first r rs a) in
        let o = ap (λ (o : Option GivenBack). one_if (gives_room r o)) is in let c = ap (λ (c : Bool). one_if c) (eq-eqb g.room r e) in omega (arith, z, o, c))
        (λ n. let o = ap (λ (o : Option GivenBack). one_if (gives_room r o)) is in let c = ap (λ (c : Bool). one_if c) (ne_eqb g.room r n) in omega (arith, f, o, c))

-- THE LOADS

abbrev no_stores : List PlannedStore
no_stores = []

nothing : (n : ℕ) → take n no_stores ≡ no_stores
nothing zero = refl
nothing (suc n) = refl

module _ (b : Beginning) (w : YardState) (h : List Entry) (cs : List Checkpoint) (memory : List BankState) (held : List ℕ) (l : Lawful b w h cs) (m : IsMemoryOf b w memory) (names : NamesDead b w held) where
  home_at : (r : ℕ) (lt : r < room_count (sizes_at b)) → Home w r ((m.rooms r lt).0)
  home_at r lt = (m.rooms r lt).1

  few_held : length held ≤ b.settings.threads
  few_held = let a = all_given held w.views given in let c = total_few (count_given held) w.views (λ v. one_given held v names.ascending) in let n = l.sized.views in omega (arith, a, c, n)
    where
      given : (r : ℕ) → Contains held r → 1 ≤ total_of (gives r) w.views
      given r t = let d = names.are_dead r t in let g = l.locks.giver r d.0 d.1 in let p = total_part (gives r) w.views g.0 g.1 g.2 in
          let o = one g.1 g.3.0 g.3.1 g.3.2 in omega (arith, p, o)
        where
          one : (v : View) (k : GivenBack) → v.given_back ≡ Some k → k.room ≡ r → gives r v ≡ 1
          one v k is same = ap (λ (o : Option GivenBack). one_if (gives_room r o)) is ∙ ap (λ (c : Bool). one_if c) (eq-eqb k.room r same)

  free_or_named : (r : ℕ) → (lt : r < room_count (sizes_at b)) → (Contains held r → ⊥) → lock_of w r ≡ 0
  free_or_named r lt out = ⊎_elim (λ (z : lock_of w r ≡ 0). z) (λ (d : lock_of w r ≡ dead). absurd (out (names.all r lt d))) (l.locks.home r ((m.rooms r lt).0) (home_at r lt))

  -- a room that was given back stands, or a command is under way in it
  began : (k : GivenBack) (i : ℕ) (x : Room) (command : Option Command) → (command ≡ None) ⊎ (command ≡ next_command (opening_of b) h i)
      → LoadsFirstStores (sizes_at b) (epoch_now b cs) k.room command (loads x) (contents_now (opening_of b) h)
      → StandsFor live_layout (sizes_at b) k.room (loads x) (contents_now (opening_of b) h) ⊎ IsUnderWay (opening_of b) h (marks_of b cs) k.room (loads x)
  began k i x None which f = inl (same_words live_layout (sizes_at b) k.room f.before (loads x) (contents_now (opening_of b) h) layouts.in_use f.stood (λ line word lt. f.loads line word ∙ none f.made f.before line word))
    where
      none : (n : ℕ) (before : RoomWords) (line word : ℕ) → stored_in before (take n []) line word ≡ before line word
      none n before line word = ap (λ (ss : List PlannedStore). stored_in before ss line word) (nothing n)
  began k i x (Some command) which f = dite (ℕ_discrete (room_of (sizes_at b) command) k.room) here elsewhere
    where
      here : room_of (sizes_at b) command ≡ k.room → StandsFor live_layout (sizes_at b) k.room (loads x) (contents_now (opening_of b) h) ⊎ IsUnderWay (opening_of b) h (marks_of b cs) k.room (loads x)
      here is = inr (record {
        thread = i;
        command = command;
        next = next which;
        here = is;
        loads = subst (λ (n : ℕ). LoadsFirstStores (sizes_at b) n k.room (Some command) (loads x) (contents_now (opening_of b) h)) (epoch_same b cs) f;
      })
        where
          next : (Some command ≡ None) ⊎ (Some command ≡ next_command (opening_of b) h i) → next_command (opening_of b) h i ≡ Some command
          next (inl e) = absurd (cc)
          next (inr e) = sym e

      none : room_of (sizes_at b) command ≢ k.room → (line word : ℕ) → stored_in f.before (take f.made (stores_here (sizes_at b) (epoch_now b cs) k.room f.before (Some command))) line word ≡ f.before line word
      none n line word = ap (λ (c : Bool). stored_in f.before (take f.made (cond c (stores_behind (epoch_now b cs) f.before [] (writes_of live_layout (sizes_at b) f.before command)) [])) line word) (ne_eqb (room_of (sizes_at b) command) k.room n)
          ∙ ap (λ (ss : List PlannedStore). stored_in f.before ss line word) (nothing f.made)

      elsewhere : room_of (sizes_at b) command ≢ k.room → StandsFor live_layout (sizes_at b) k.room (loads x) (contents_now (opening_of b) h) ⊎ IsUnderWay (opening_of b) h (marks_of b cs) k.room (loads x)
      elsewhere n = inl (same_words live_layout (sizes_at b) k.room f.before (loads x) (contents_now (opening_of b) h) layouts.in_use f.stood (λ line word lt. f.loads line word ∙ none n line word))

  which_command : (drew closing : Bool) (next : Option Command) → (begun_by drew closing next ≡ None) ⊎ (begun_by drew closing next ≡ next)
  which_command true closing next = inl refl
  which_command false true next = inl refl
  which_command false false next = inr refl

  to_memory : (P : RoomWords → Type 0) (r : ℕ) (lt : r < room_count (sizes_at b)) → P (loads ((m.rooms r lt).0)) → P (load_of memory r)
  to_memory P r lt p = subst (λ (bank : BankState). P (bank_load bank)) (sym ((m.rooms r lt).2)) p

  out_loads : (r : ℕ) → r ≤ b.settings.shards → Contains held r → StandsFor live_layout (sizes_at b) r (load_of memory r) (contents_now (opening_of b) h) ⊎ IsUnderWay (opening_of b) h (marks_of b cs) r (load_of memory r)
  out_loads r low t = let d = names.are_dead r t in let g = l.locks.giver r d.0 d.1 in
      to_memory (λ (words : RoomWords). StandsFor live_layout (sizes_at b) r words (contents_now (opening_of b) h) ⊎ IsUnderWay (opening_of b) h (marks_of b cs) r words) r d.0
      (subst (λ (q : ℕ). StandsFor live_layout (sizes_at b) q (loads ((m.rooms r d.0).0)) (contents_now (opening_of b) h) ⊎ IsUnderWay (opening_of b) h (marks_of b cs) q (loads ((m.rooms r d.0).0))) g.3.2
      (began g.3.0 g.0 ((m.rooms r d.0).0) (begun_by g.3.0.drew (is_closing g.1.phase) (next_command (opening_of b) h g.0)) (which_command g.3.0.drew (is_closing g.1.phase) (next_command (opening_of b) h g.0))
      (l.loads.dead_room g.0 g.1 g.2 g.3.0 g.3.1 (let n = g.3.2 in omega (arith, low, n)) ((m.rooms r d.0).0) (subst (λ (q : ℕ). Home w q ((m.rooms r d.0).0)) (sym g.3.2) (home_at r d.0)))))

  point_loads : (i : ℕ) → i < b.settings.threads → (Contains held (thread_room (sizes_at b) i) → ⊥)
      → (point_in live_layout (load_of memory (thread_room (sizes_at b) i)) ≡ point_after (opening_of b) (take (covered (marks_of b cs)) h) i)
      ⊎ (point_in live_layout (load_of memory (thread_room (sizes_at b) i)) ≡ point_after (opening_of b) h i)
  point_loads i few out =
      let lt : thread_room (sizes_at b) i < room_count (sizes_at b) = omega (arith, few) in
      let t = there w.views i (let n = l.sized.views in omega (arith, few, n)) in
      let f = l.positions.views i t.0 t.1 ((m.rooms (thread_room (sizes_at b) i) lt).0) (home_at (thread_room (sizes_at b) i) lt) in
      let z = free_or_named (thread_room (sizes_at b) i) lt out in
      to_memory (λ (words : RoomWords). (point_in live_layout words ≡ point_after (opening_of b) (take (covered (marks_of b cs)) h) i) ⊎ (point_in live_layout words ≡ point_after (opening_of b) h i)) (thread_room (sizes_at b) i) lt
      (subst (λ (es : List Entry). (point_in live_layout (loads ((m.rooms (thread_room (sizes_at b) i) lt).0)) ≡ point_after (opening_of b) es i) ⊎ (point_in live_layout (loads ((m.rooms (thread_room (sizes_at b) i) lt).0)) ≡ point_after (opening_of b) h i)) (ap (λ (d : ℕ). take d h) (sym (last_same b cs)))
      (by t.0 (point_after (opening_of b) h i) (point_after (opening_of b) (covered_part h cs) i) (point_in live_layout (loads ((m.rooms (thread_room (sizes_at b) i) lt).0))) t.0.phase refl t.0.wrote refl (λ s. (f.standing s).point) (λ p s. (f.written z p s).point) (λ p s. f.unwritten z p s)))
    where
      by : (v : View) (now marked load : RestartPoint) (p : Phase) → v.phase ≡ p → (wrote : Bool) → v.wrote ≡ wrote → (stands v.phase ≡ true → load ≡ now)
          → (v.phase ≡ Running → v.wrote ≡ true → load ≡ now) → (v.phase ≡ Running → v.wrote ≡ false → load ≡ marked) → (load ≡ marked) ⊎ (load ≡ now)
      by v now marked load Standing is wrote s f g k = inr (f (ap stands is))
      by v now marked load Running is true s f g k = inr (g is s)
      by v now marked load Running is false s f g k = inl (k is s)
      by v now marked load Closing is wrote s f g k = inr (f (ap stands is))

  -- where the life is over no room was given back
  none_named : is_over b cs ≡ true → held ≡ []
  none_named over = by held names.are_dead
    where
      by : (rs : List ℕ) → ((r : ℕ) → Contains rs r → (r < room_count (sizes_at b)) × (lock_of w r ≡ dead)) → rs ≡ []
      by [] each = refl
      by (r ∷ rs) each = let d = each r (0, omega arith, refl) in let g = l.locks.giver r d.0 d.1 in
          absurd (stands_gave_none b w h cs l g.0 g.1 g.2 (l.arrival.over_stands g.0 g.1 g.2 over) g.3.0 g.3.1)

  none_held : (outcome : Outcome) → ShowsEnd outcome b w cs → HoldsNoneAt outcome held
  none_held Finished o = none_named o.0
  none_held Stalled o = none_named o.0
  none_held Cut o = tt
  none_held Starved o = tt

pub life_is_present : LifeIsPresentLaw
life_is_present b w h cs memory held outcome l m names ends = record {
  home = λ r low out. let lt : r < room_count (sizes_at b) = omega (arith, low) in
      to_memory b w h cs memory held l m names (λ (words : RoomWords). StandsFor live_layout (sizes_at b) r words (contents_now (opening_of b) h)) r lt
      ((l.rooms.free r ((m.rooms r lt).0) ((m.rooms r lt).1) (free_or_named b w h cs memory held l m names r lt out)).stands low);
  out = out_loads b w h cs memory held l m names;
  points = point_loads b w h cs memory held l m names;
  ascending = names.ascending;
  few = few_held b w h cs memory held l m names;
  none = none_held b w h cs memory held l m names outcome ends;
}
