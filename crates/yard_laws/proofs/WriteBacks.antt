-- Write-backs are few, at every turn and at the end.
use Rattle.std.proofs.Common.{◌≡◌, ℕ, zero, suc, ◌+◌, ◌*◌, ◌-◌, ◌^◌, ◌<◌, ◌≤◌, cond, Bool, true, false, List, [], ◌∷◌, length, ap, subst, ◌∙◌, ⊎_elim, inl, inr, arith}
use Rattle.std.specs.Prelude.{nat_le, nat_lt, min}
use Rattle.std.proofs.lemmas.Bool.{le-leb, lt-leb}
use Rattle.std.proofs.lemmas.Bool.Decides.{eqb_tells}
use Rattle.seq_object.specs.declared.history.Entry.{Entry}
use Rattle.seq_object.specs.declared.history.Noted.{Noted}
use Rattle.seq_object.specs.History.{of_room, total}
use Rattle.seq_object.proofs.Totals.{total-le, room_count as count_rooms}
use Rattle.line_memory.specs.Line.{BankState, write_backs_on}
use Rattle.life_model.specs.Life.{closings}
use Rattle.incll_var.specs.declared.state.CellState.{CellState}
use Rattle.incll_var.specs.declared.state.CellState.TheVariants.{Torn, Running, Closing, Saved}
use Rattle.rooms.specs.declared.room.Room.{Room}
use Rattle.yard_model.specs.declared.view.Beginning.{Beginning}
use Rattle.yard_model.specs.declared.view.Checkpoint.{Checkpoint}
use Rattle.yard_model.specs.Entries.{is_for_room}
use Rattle.rooms.specs.Rooms.{bank_of, state_of, history_of}
use Rattle.yard_model.specs.Beginnings.{opening_of, sizes_at, marks_of, epoch_now, write_backs_at}
use Rattle.yard_model.specs.World.{YardState, Home, lock_of, dead, done_in}
use Rattle.yard_model.specs.Homes.{position_bound, free_bound, dead_bound}
use Rattle.yard_model.specs.Lawful.{Lawful}
use Rattle.yard_model.specs.WriteBacks.{rise_of, counts_in, most_write_backs, AreCounts, FewAreWrittenLaw, LifeFlushesLittleLaw, MemoryCountsLaw}
use Rattle.yard_laws.proofs.Knowns.{picked_number}
use Rattle.yard_laws.proofs.Legal.{closings_same}
use Rattle.seq_object.specs.Sizes.{super_room, room_count}

-- ONE ROOM

-- a thread's room that is free has at most one for each checkpoint and one more
position_few : (epoch closings : ℕ) (state : CellState) → position_bound epoch closings state ≤ closings + 1
position_few epoch closings (Torn c) = omega arith
position_few epoch closings (Running c) = omega arith
position_few epoch closings (Closing c) = omega arith
position_few epoch closings (Saved c) = at (nat_lt c epoch)
  where
    at : (b : Bool) → cond b closings (closings + 1) ≤ closings + 1
    at true = omega arith
    at false = omega arith

module _ (b : Beginning) (w : YardState) (h : List Entry) (cs : List Checkpoint) (l : Lawful b w h cs) where
  abbrev most : ℕ → ℕ
  most r = most_write_backs (sizes_at b) h (length cs) r

  entries_same : (r : ℕ) (x : Room) → Home w r x → length (history_of x) ≡ length (of_room (sizes_at b) r h)
  entries_same r x at_home = ap (λ (ns : List Noted). length ns) (l.entries.home r x at_home) ∙ picked_number (is_for_room (sizes_at b) r) 0 h

  -- the bounds of free rooms and of those given back in mid-work are at most the one of a room at any turn
  free_few : (r : ℕ) (x : Room) → Home w r x → free_bound (sizes_at b) (epoch_now b cs) (length cs) (nat_lt r (done_in w.views)) r x ≤ most r
  free_few r x at_home = by (nat_le r (sizes_at b).shards)
    where
      more : (c : Bool) → length cs + cond c 1 0 ≤ length cs + 1
      more true = omega arith
      more false = omega arith

      rest : (c : Bool) → cond c (position_bound (epoch_now b cs) (length cs) (state_of x)) (length cs + cond (nat_lt r (done_in w.views)) 1 0) ≤ length cs + 1
      rest true = position_few (epoch_now b cs) (length cs) (state_of x)
      rest false = more (nat_lt r (done_in w.views))

      by : (c : Bool) → cond c (4 * length (history_of x)) (cond (nat_lt r (super_room (sizes_at b))) (position_bound (epoch_now b cs) (length cs) (state_of x)) (length cs + cond (nat_lt r (done_in w.views)) 1 0))
          ≤ cond c (4 * length (of_room (sizes_at b) r h)) (length cs + 1)
      by true = let same = entries_same r x at_home in omega (arith, same)
      by false = rest (nat_lt r (super_room (sizes_at b)))

  dead_few : (r : ℕ) (x : Room) → Home w r x → dead_bound (sizes_at b) (length cs) r x ≤ most r
  dead_few r x at_home = by (nat_le r (sizes_at b).shards)
    where
      by : (c : Bool) → cond c (4 * length (history_of x)) (length cs + 1) ≤ cond c (4 * length (of_room (sizes_at b) r h)) (length cs + 1)
      by true = let same = entries_same r x at_home in omega (arith, same)
      by false = omega arith

  -- a room at home, free or given back
  home_few : (r : ℕ) (x : Room) → Home w r x → (bank_of x).write_backs ≤ write_backs_at b r + most r
  home_few r x at_home = ⊎_elim
      (λ (z : lock_of w r ≡ 0). let a = (l.rooms.free r x at_home z).write_backs in let m = free_few r x at_home in omega (arith, a, m))
      (λ (d : lock_of w r ≡ dead). let a = (l.rooms.dead_room r x at_home d).write_backs in let m = dead_few r x at_home in omega (arith, a, m))
      (l.locks.home r x at_home)

  -- and no fewer than at the beginning
  no_fewer : (r : ℕ) (x : Room) → Home w r x → write_backs_at b r ≤ (bank_of x).write_backs
  no_fewer r x at_home = ⊎_elim
      (λ (z : lock_of w r ≡ 0). (l.rooms.free r x at_home z).safe.no_fewer)
      (λ (d : lock_of w r ≡ dead). (l.rooms.dead_room r x at_home d).safe.no_fewer)
      (l.locks.home r x at_home)

  -- ALL ROOMS

  front : (n : ℕ) → n ≤ b.settings.shards + 1 → total most n ≡ 4 * total (λ r. length (of_room (sizes_at b) r h)) n
  front zero le = omega arith
  front (suc n) le =
      let rest = front n (omega (arith, le)) in
      let here : most n ≡ 4 * length (of_room (sizes_at b) n h) = ap (λ (c : Bool). cond c (4 * length (of_room (sizes_at b) n h)) (length cs + 1)) (le-leb n b.settings.shards (omega (arith, le))) in
      omega (arith, rest, here)

  behind : (m n : ℕ) → n ≡ b.settings.shards + 1 + m → total most n ≡ 4 * length h + m * (length cs + 1)
  behind zero n e =
      let counted : total (λ r. length (of_room (sizes_at b) r h)) (b.settings.shards + 1) ≡ length h = count_rooms (sizes_at b) l.bounds.beginning.settings.sizes.some_shards h in
      let first = front (b.settings.shards + 1) (omega arith) in
      let same : total most n ≡ total most (b.settings.shards + 1) = let q : n ≡ b.settings.shards + 1 = omega (arith, e) in ap (total most) q in
      omega (arith, counted, first, same)
  behind (suc m) zero e = absurd (omega (arith, e))
  behind (suc m) (suc n) e =
      let rest = behind m n (omega (arith, e)) in
      let here : most n ≡ length cs + 1 = ap (λ (c : Bool). cond c (4 * length (of_room (sizes_at b) n h)) (length cs + 1)) (lt-leb n b.settings.shards (omega (arith, e))) in
      omega (arith, rest, here)

  all_few : (counts : ℕ → ℕ) → ((r : ℕ) → r < room_count (sizes_at b) → counts r ≤ write_backs_at b r + most r)
      → rise_of b counts ≤ 4 * length h + (b.settings.threads + 1) * (length cs + 1)
  all_few counts each =
      let less = total-le (λ r. counts r - write_backs_at b r) most (room_count (sizes_at b)) (λ r lt. let f = each r lt in omega (arith, f)) in
      let sum = behind (b.settings.threads + 1) (room_count (sizes_at b)) (omega arith) in
      omega (arith, less, sum)

  -- each room is at home, or in a thread's hand
  each_few : (counts : ℕ → ℕ) → AreCounts b w h cs counts → (r : ℕ) → r < room_count (sizes_at b) → counts r ≤ write_backs_at b r + most r
  each_few counts are r lt = elim (eqb_tells (lock_of w r) 0) [
    | inl free ↦ at_home (l.locks.free r lt (inl free.1))
    | inr taken ↦ elim (eqb_tells (lock_of w r) dead) [
      | inl is_dead ↦ at_home (l.locks.free r lt (inr is_dead.1))
      | inr alive ↦
          let who = l.locks.holder r (lock_of w r - 1) lt (let t = taken.1 in omega (arith, t)) alive.1 in
          subst (λ (r : ℕ). counts r ≤ write_backs_at b r + most r) who.2.2 (are.hands (lock_of w r - 1) who.0 who.1 who.2.0 who.2.1)
    ]
  ]
    where
      at_home : (x : Room) × Home w r x → counts r ≤ write_backs_at b r + most r
      at_home x = let same = are.home r x.0 x.1 in let f = home_few r x.0 x.1 in omega (arith, same, f)

pub few_are_written : FewAreWrittenLaw
few_are_written b w h cs counts l are = all_few b w h cs l counts (each_few b w h cs l counts are)

pub life_flushes_little : LifeFlushesLittleLaw
life_flushes_little b w h cs memory image l m = (
  λ r lt. let x = m.rooms r lt in let s = ap (λ (k : BankState). k.write_backs) x.2 in let f = no_fewer b w h cs l r x.0 x.1 in omega (arith, s, f),
  let few = all_few b w h cs l (counts_in memory) (λ r lt. let x = m.rooms r lt in let s = ap (λ (k : BankState). k.write_backs) x.2 in let f = home_few b w h cs l r x.0 x.1 in omega (arith, s, f)) in
      let c : (b.settings.threads + 1) * (closings (opening_of b) (marks_of b cs) + 1) ≡ (b.settings.threads + 1) * (length cs + 1) = ap (λ (n : ℕ). (b.settings.threads + 1) * (n + 1)) (closings_same b cs) in
      omega (arith, few, c),
)

-- THE COUNT OF A MEMORY

-- a sum by its first
total_first : (f : ℕ → ℕ) (n : ℕ) → total f (suc n) ≡ f 0 + total (λ k. f (suc k)) n
total_first f zero = omega arith
total_first f (suc n) = let rest = total_first f n in omega (arith, rest)

counted_on : (sum : ℕ) (memory : List BankState) → sum ≤ 2 ^ 64 - 1 → write_backs_on sum memory ≡ min (sum + total (counts_in memory) (length memory)) (2 ^ 64 - 1)
counted_on sum [] le = omega (arith, le)
counted_on sum (x ∷ xs) le =
    let rest = counted_on (min (sum + x.write_backs) (2 ^ 64 - 1)) xs (omega arith) in
    let first = total_first (counts_in (x ∷ xs)) (length xs) in
    omega (arith, rest, first)

pub memory_counts : MemoryCountsLaw
memory_counts memory = let f = counted_on 0 memory (omega arith) in omega (arith, f)
