-- The write-backs of a restore.
use Rattle.std.proofs.Common.{◌≡◌, ℕ, ◌+◌, ◌-◌, ◌^◌, ◌<◌, ◌≤◌, ◌++◌, ◌==◌, Bool, true, false, List, [], ◌∷◌, length, count_by, cond, min, if◌then◌else◌, refl, sym, ap, ◌∙◌, zero-add, arith}
use Rattle.std.proofs.lemmas.List.Sums.{sum_by-cons}
use Rattle.line_memory.specs.Line.{LineState, BankState, counted}
use Rattle.room_model.specs.Cell.{tag_of}
use Rattle.incll_var.specs.declared.restore.RestoreEvent.{RestoreEvent}
use Rattle.incll_var.specs.declared.restore.RestoreEvent.TheVariants.{Restores, Asks, Fences}
use Rattle.incll_var.specs.Restore.{tagged_from, restores, asks, restore_events, events_at, bank_after, bank_behind, is_ask, is_tagged}
use Rattle.incll_var.specs.Laws.{RestoreAsksLaw, RestoreWriteBacksLaw}

-- the write-backs of an event and of those behind it
ask_first : (event : RestoreEvent) (events : List RestoreEvent) → count_by is_ask (event ∷ events) ≡ cond (is_ask event) 1 0 + count_by is_ask events
ask_first event events = sum_by-cons (λ (e : RestoreEvent). cond (is_ask e) 1 0) event events

asks_behind_restores : (is : List ℕ) (rest : List RestoreEvent) → count_by is_ask (restores is ++ rest) ≡ count_by is_ask rest
asks_behind_restores [] rest = refl
asks_behind_restores (i ∷ is) rest =
    let tail = asks_behind_restores is rest in
    let first = ask_first (Restores i 0) (Restores i 1 ∷ Restores i 2 ∷ restores is ++ rest) in
    let second = ask_first (Restores i 1) (Restores i 2 ∷ restores is ++ rest) in
    let third = ask_first (Restores i 2) (restores is ++ rest) in
    omega (arith, tail, first, second, third)

asks_each : (is : List ℕ) → count_by is_ask (asks is ++ Fences ∷ []) ≡ length is
asks_each [] = refl
asks_each (i ∷ is) =
    let tail = asks_each is in
    let first = ask_first (Asks i) (asks is ++ Fences ∷ []) in
    omega (arith, tail, first)

asks_of_events : (is : List ℕ) → count_by is_ask (restore_events is) ≡ length is
asks_of_events [] = refl
asks_of_events (i ∷ is) = asks_behind_restores (i ∷ is) (asks (i ∷ is) ++ Fences ∷ []) ∙ asks_each (i ∷ is)

tagged_count : (epoch i : ℕ) (ls : List LineState) → length (tagged_from epoch i ls) ≡ count_by (is_tagged epoch) ls
tagged_count epoch i [] = refl
tagged_count epoch i (l ∷ ls) = go (is_tagged epoch l) (tagged_count epoch (i + 1) ls) ∙ sym (sum_by-cons (λ (k : LineState). cond (is_tagged epoch k) 1 0) l ls)
  where
    go : (b : Bool) → length (tagged_from epoch (i + 1) ls) ≡ count_by (is_tagged epoch) ls
        → length (if b then i ∷ tagged_from epoch (i + 1) ls else tagged_from epoch (i + 1) ls) ≡ cond b 1 0 + count_by (is_tagged epoch) ls
    go true tail = omega (arith, tail)
    go false tail = omega (arith, tail)

pub restore_asks : RestoreAsksLaw
restore_asks epoch lines = asks_of_events (tagged_from epoch 0 lines) ∙ tagged_count epoch 0 lines

-- behind any events the count is that of before and the write-backs among them
counted_behind : (most : ℕ) (events : List RestoreEvent) (bank : BankState) → most ≡ 2 ^ 64 - 1 → bank.write_backs ≤ most → (bank_behind events bank).write_backs ≡ min (bank.write_backs + count_by is_ask events) (2 ^ 64 - 1)
counted_behind most [] bank is le = let none : count_by is_ask [] ≡ 0 = refl in omega (arith, none, is, le)
counted_behind most (Restores i w ∷ events) bank is le =
    let rest = counted_behind most events (bank_after (Restores i w) bank) is le in
    let here = ask_first (Restores i w) events in
    omega (arith, rest, here)
counted_behind most (Asks i ∷ events) bank is le =
    let rest = counted_behind most events (bank_after (Asks i) bank) is (omega (arith, is)) in
    let here = ask_first (Asks i) events in
    omega (arith, rest, here, is, le)
counted_behind most (Fences ∷ events) bank is le =
    let rest = counted_behind most events (bank_after Fences bank) is le in
    let here = ask_first Fences events in
    omega (arith, rest, here)

pub restore_write_backs : RestoreWriteBacksLaw
restore_write_backs epoch bank few =
    counted_behind (2 ^ 64 - 1) (events_at epoch bank.lines) bank refl (omega (arith, few))
    ∙ ap (λ (n : ℕ). min (bank.write_backs + n) (2 ^ 64 - 1)) (restore_asks epoch bank.lines)
