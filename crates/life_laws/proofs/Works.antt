-- Sums of work over rooms and threads, and rounds.
use Rattle.std.proofs.Common.{◌≡◌, ℕ, ◌/◌, ⊎_elim, ◌+◌, ◌-◌, ◌*◌, ◌%◌, ◌<◌, ◌≤◌, zero, suc, List, ◌∷◌, length, take, drop, refl, sym, ap, ◌∙◌, subst, arith}
use Rattle.std.specs.Prelude.{slice_index_or}
use Rattle.std.proofs.lemmas.Bool.{cases_lt}
use Rattle.std.proofs.Math.Nat.{mul-add-mod_self_left, mod-eq_of_lt, mul-le-mul_left}
use Rattle.seq_object.specs.History.{of_room, total}
use Rattle.seq_object.proofs.Totals.{total-le, room_count as count_rooms}
use Rattle.life_model.specs.Life.{sizes, closings}
use Rattle.life_model.specs.Work.{closing_events, NamesAll, OffersRounds, in_turn, least_done, most_done, one_if, turns_for_rounds}
use Rattle.life_laws.specs.WorkLaws.{FlushedLittleLaw, LeastWorkLaw, MostWorkLaw, RoundRobinLaw, WorkerRoundsLaw}
use Rattle.life_model.specs.declared.life.Life.{Life}
use Rattle.life_model.specs.declared.life.Life.TheVariants.{Start, Resume}
use Rattle.seq_object.specs.Sizes.{room_count, line_total}

-- a sum of sums
pub total-add : (f g : ℕ → ℕ) (n : ℕ) → total (λ k. f k + g k) n ≡ total f n + total g n
total-add f g zero = omega arith
total-add f g (suc n) = let rest = total-add f g n in omega arith

-- a sum of multiples
total-times : (a : ℕ) (f : ℕ → ℕ) (n : ℕ) → total (λ k. a * f k) n ≡ a * total f n
total-times a f zero = omega arith
total-times a f (suc n) = let rest = total-times a f n in omega arith

-- a sum of the same
total-const : (a n : ℕ) → total (λ k. a) n ≡ n * a
total-const a zero = omega arith
total-const a (suc n) = let rest = total-const a n in omega arith

-- a sum in two pieces
total-split : (f : ℕ → ℕ) (a n : ℕ) → total f (a + n) ≡ total f a + total (λ k. f (a + k)) n
total-split f a zero = ap (total f) (same a) ∙ plus (total f a)
  where
    same : (a : ℕ) → a + 0 ≡ a
    same a = omega arith

    plus : (x : ℕ) → x ≡ x + 0
    plus x = omega arith
total-split f a (suc n) =
    let whole : total f (a + suc n) ≡ total f (a + n) + f (a + n) = ap (total f) (next a n) in
    omega (arith, whole, total-split f a n)
  where
    next : (a n : ℕ) → a + suc n ≡ suc (a + n)
    next a n = omega arith

-- the map rooms and the queue room, the threads' rooms, and the super room
pub flushed_little : FlushedLittleLaw
flushed_little o image h marks own pos rooms threads last =
    let z = sizes o in
    let c = closings o marks in
    let first : total own (z.shards + 1) ≤ 4 * length h =
    let each = total-le own (λ room. 4 * length (of_room z room h)) (z.shards + 1) (λ room lt. rooms room (omega arith)) in
    omega (arith, each, total-times 4 (λ room. length (of_room z room h)) (z.shards + 1), count_rooms z pos h) in
    let second : total (λ k. own (z.shards + 1 + k)) z.threads ≤ z.threads * (c + 1) =
    let each = total-le (λ k. own (z.shards + 1 + k)) (λ k. c + 1) z.threads (λ k lt. threads k lt) in
    omega (arith, each, total-const (c + 1) z.threads) in
    let all : total own (room_count z) ≡ total own (z.shards + 1 + z.threads) + own (z.shards + 1 + z.threads) =
    ap (total own) (counted z.shards z.threads) in
    omega (arith, first, second, all, total-split own (z.shards + 1) z.threads, last)
  where
    counted : (shards threads : ℕ) → shards + 2 + threads ≡ suc (shards + 1 + threads)
    counted shards threads = omega arith

-- the least of each, summed up
pub least_done_all : LeastWorkLaw
least_done_all z worked has =
    let k = 2 * room_count z + 16 in
    let each : total (λ t. least_done z (worked t)) z.threads ≤ total (λ t. (worked t).done) z.threads =
    total-le (λ t. least_done z (worked t)) (λ t. (worked t).done) z.threads (λ t lt. (has t lt).0) in
    let sum : total (λ t. least_done z (worked t)) z.threads ≡
    total (λ t. 2 * (worked t).entries) z.threads + total (λ t. k * (worked t).marks) z.threads =
    total-add (λ t. 2 * (worked t).entries) (λ t. k * (worked t).marks) z.threads in
    omega (arith, each, sum, total-times 2 (λ t. (worked t).entries) z.threads, total-times k (λ t. (worked t).marks) z.threads)

-- the most of each, summed up
pub most_done_all : MostWorkLaw
most_done_all z worked closed has marks closing epochs =
    let n = z.threads in
    let c = closing_events z in
    let entries = λ (t : ℕ). (worked t).entries in
    let ran = λ (t : ℕ). (worked t).epochs in
    let marked = λ (t : ℕ). (worked t).marks in
    let closes = λ (t : ℕ). one_if (worked t).closing in
    let each : total (λ t. (worked t).done) n ≤ total (λ t. most_done z (worked t)) n =
    total-le (λ t. (worked t).done) (λ t. most_done z (worked t)) n (λ t lt. (has t lt).1) in
    let parts : total (λ t. most_done z (worked t)) n ≡ total (λ t. 25 * (entries t + 1) + 12 * ran t) n + total (λ t. c * (marked t + closes t)) n =
    total-add (λ t. 25 * (entries t + 1) + 12 * ran t) (λ t. c * (marked t + closes t)) n in
    let front : total (λ t. 25 * (entries t + 1) + 12 * ran t) n ≡ total (λ t. 25 * (entries t + 1)) n + total (λ t. 12 * ran t) n =
    total-add (λ t. 25 * (entries t + 1)) (λ t. 12 * ran t) n in
    let one : total (λ t. 25 * (entries t + 1)) n ≡ 25 * (total entries n + n * 1) =
    total-times 25 (λ t. entries t + 1) n
    ∙ ap (λ (x : ℕ). 25 * x) (total-add entries (λ t. 1) n ∙ ap (λ (x : ℕ). total entries n + x) (total-const 1 n)) in
    let two : total (λ t. 12 * ran t) n ≤ 12 * (n * (closed + 1)) =
    let few = total-le ran (λ t. closed + 1) n epochs in omega (arith, few, total-times 12 ran n, total-const (closed + 1) n) in
    let three : total (λ t. c * (marked t + closes t)) n ≡ c * (total marked n + total closes n) =
    total-times c (λ t. marked t + closes t) n ∙ ap (λ (x : ℕ). c * x) (total-add marked closes n) in
    let four : c * (total marked n + total closes n) ≤ c * (closed + 1) = mul-le-mul_left c (omega arith) in
    omega (arith, each, parts, front, one, two, three, four)

-- rounds

-- the first turns of a schedule in turn
take-round : (threads turn m n : ℕ) → m ≤ n → take m (in_turn threads turn n) ≡ in_turn threads turn m
take-round threads turn zero n le = refl
take-round threads turn (suc m) zero le = absurd (omega arith)
take-round threads turn (suc m) (suc n) le = ap (λ (ts : List ℕ). (turn % threads) ∷ ts) (take-round threads (suc turn) m n (omega arith))

-- the turns behind them
drop-round : (threads turn m n : ℕ) → drop m (in_turn threads turn (m + n)) ≡ in_turn threads (turn + m) n
drop-round threads turn zero n = ap (λ (k : ℕ). in_turn threads turn k) (omega arith) ∙ ap (λ (k : ℕ). in_turn threads k n) (omega arith)
drop-round threads turn (suc m) n =
    ap (λ (k : ℕ). drop (suc m) (in_turn threads turn k)) (next m n) ∙ drop-round threads (suc turn) m n
    ∙ ap (λ (k : ℕ). in_turn threads k n) (omega arith)
  where
    next : (m n : ℕ) → suc m + n ≡ suc (m + n)
    next m n = omega arith

-- as many turns as asked for
length-round : (threads turn n : ℕ) → length (in_turn threads turn n) ≡ n
length-round threads turn zero = refl
length-round threads turn (suc n) = ap suc (length-round threads (suc turn) n)

-- which thread each turn names
round_at : (threads turn n k d : ℕ) → k < n → slice_index_or (in_turn threads turn n) k d ≡ (turn + k) % threads
round_at threads turn zero k d lt = absurd (omega arith)
round_at threads turn (suc n) zero d lt = ap (λ (x : ℕ). x % threads) (omega arith)
round_at threads turn (suc n) (suc k) d lt = round_at threads (suc turn) n k d (omega arith) ∙ ap (λ (x : ℕ). x % threads) (omega arith)

-- from any turn on, each thread is named within as many turns as there are threads
named_within : (threads turn thread : ℕ) → thread < threads → (k : ℕ) × (k < threads) × ((turn + k) % threads ≡ thread)
named_within threads turn thread lt = ⊎_elim
    (λ (later : thread < turn % threads).
    let k = thread + threads - turn % threads in
    let whole : turn + k ≡ threads * suc (turn / threads) + thread = omega (arith, low, split, mul-suc threads (turn / threads), later) in
    (k, omega (arith, low, later), ap (λ (n : ℕ). n % threads) whole ∙ mul-add-mod_self_left threads (suc (turn / threads)) thread ∙ mod-eq_of_lt lt))
    (λ (now : turn % threads ≤ thread).
    let k = thread - turn % threads in
    let whole : turn + k ≡ threads * (turn / threads) + thread = omega (arith, split, now) in
    (k, omega (arith, now), ap (λ (n : ℕ). n % threads) whole ∙ mul-add-mod_self_left threads (turn / threads) thread ∙ mod-eq_of_lt lt))
    (cases_lt thread (turn % threads))
  where
    low : turn % threads < threads
    low = omega arith

    split : threads * (turn / threads) + turn % threads ≡ turn
    split = omega arith

    mul-suc : (a b : ℕ) → a * suc b ≡ a * b + a
    mul-suc a b = omega arith

-- so that many turns name all threads
names_all : (threads turn : ℕ) → NamesAll threads (in_turn threads turn threads)
names_all threads turn thread lt =
    let there = named_within threads turn thread lt in
    (there.0, omega (arith, length-round threads turn threads, there.1), round_at threads turn threads there.0 thread there.1 ∙ there.2)

-- round by round
pub round_robin_rounds : RoundRobinLaw
round_robin_rounds threads turn zero turns pos le = tt
round_robin_rounds threads turn (suc rounds) turns pos le =
    let more : threads + threads * rounds ≤ turns = omega arith in
    let rest : OffersRounds threads rounds (in_turn threads (turn + threads) (turns - threads)) =
    round_robin_rounds threads (turn + threads) rounds (turns - threads) pos (omega arith) in
    let named : NamesAll threads (take threads (in_turn threads turn turns)) =
    subst (NamesAll threads) (sym (take-round threads turn threads turns (omega arith))) (names_all threads turn) in
    let dropped : drop threads (in_turn threads turn turns) ≡ in_turn threads (turn + threads) (turns - threads) =
    ap (λ (n : ℕ). drop threads (in_turn threads turn n)) (omega arith) ∙ drop-round threads turn threads (turns - threads) in
    (threads, named, subst (OffersRounds threads rounds) (sym dropped) rest)

-- all turns at a start, and at a resume those behind recovery's
pub worker_rounds : WorkerRoundsLaw
worker_rounds o rounds turns pos = (all_turns o.life, behind o.life)
  where
    threads : ℕ
    threads = o.settings.threads

    most : ℕ
    most = 5 * line_total (sizes o)

    offers : Life → Type 0
    offers life = OffersRounds threads rounds (turns_for_rounds (record o { life = life }) (in_turn threads 0 turns))

    all_turns : (life : Life) → life ≡ Start → threads * rounds ≤ turns → offers life
    all_turns Start e le = round_robin_rounds threads 0 rounds turns pos le
    all_turns Resume e le = absurd (cc)

    behind : (life : Life) → threads * rounds + most ≤ turns → offers life
    behind Start le = round_robin_rounds threads 0 rounds turns pos (omega arith)
    behind Resume le =
        let dropped : drop most (in_turn threads 0 turns) ≡ in_turn threads (0 + most) (turns - most) =
        ap (λ (n : ℕ). drop most (in_turn threads 0 n)) (omega arith) ∙ drop-round threads 0 most (turns - most) in
        subst (OffersRounds threads rounds) (sym dropped) (round_robin_rounds threads (0 + most) rounds (turns - most) pos (omega arith))
