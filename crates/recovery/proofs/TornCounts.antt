-- How many write-backs a recovery makes: one for each cell that is tagged with the image's epoch, and one for the epoch.
use Rattle.std.proofs.Common.{◌≡◌, ℕ, zero, suc, ◌+◌, ◌*◌, ◌<◌, length, ◌==◌, Bool, cond, count_by, eq-eqb, List, [], ◌∷◌, if◌then◌else◌, refl, sym, ap, ◌∙◌, subst, arith}
use Rattle.std.specs.Prelude.{slice_index_or}
use Rattle.std.proofs.lemmas.Bool.{ne_eqb}
use Rattle.std.proofs.lemmas.List.Sums.{sum_by-cons}
use Rattle.seq_object.specs.Sizes.{sizes_of, super_room, room_count}
use Rattle.seq_object.specs.declared.settings.Settings.{Settings}
use Rattle.seq_object.specs.History.{total}
use Rattle.line_memory.specs.Line.{LineState, BankState, bank_at, no_bank}
use Rattle.room_model.specs.Cell.{tag_of}
use Rattle.room_model.specs.Image.{image_of, nothing_kept, epoch_at, surviving_lines, surviving_rooms}
use Rattle.life_model.specs.Work.{torn_cells_in, torn_cells}
use Rattle.life_laws.proofs.Works.{total-add}
use Rattle.recovery.specs.Banks.{tagged_in, most_at, events_for, bank_events, HasEvents}
use Rattle.rooms.specs.declared.room.Room.{Room}
use Rattle.recovery.specs.Recovering.{recovery_events, events_in, restores_left, EachFrom}
use Rattle.recovery.specs.Laws.{WriteBacksCountLaw}
use Rattle.seq_object.specs.declared.sizes.Sizes.{Sizes}

-- of the lines that are left where nothing is kept
lines_count : (p : List ℕ → Bool) (i : ℕ) (ls : List LineState) → count_by p (surviving_lines (λ (line : ℕ). 0) i ls) ≡ count_by (λ (l : LineState). p l.base) ls
lines_count p i [] = refl
lines_count p i (l ∷ ls) =
    sum_by-cons (λ (ws : List ℕ). cond (p ws) 1 0) l.base (surviving_lines (λ (line : ℕ). 0) (suc i) ls)
    ∙ ap (λ (n : ℕ). cond (p l.base) 1 0 + n) (lines_count p (suc i) ls)
    ∙ sym (sum_by-cons (λ (k : LineState). cond (p k.base) 1 0) l ls)

rooms_count : (p : List ℕ → Bool) (r k : ℕ) (bs : List BankState) → count_by p (slice_index_or (surviving_rooms nothing_kept r bs) k []) ≡ count_by (λ (l : LineState). p l.base) (slice_index_or bs k no_bank).lines
rooms_count p r k [] = refl
rooms_count p r zero (b ∷ bs) = lines_count p 0 b.lines
rooms_count p r (suc k) (b ∷ bs) = rooms_count p (suc r) k bs

torn_here : (z : Sizes) (memory : List BankState) (k : ℕ) → tagged_in (epoch_at z (image_of memory nothing_kept)) (bank_at memory k) ≡ torn_cells_in z (image_of memory nothing_kept) k
torn_here z memory k = sym (rooms_count (λ (ws : List ℕ). tag_of ws == epoch_at z (image_of memory nothing_kept)) 0 k memory)

total-same : (f g : ℕ → ℕ) (n : ℕ) → ((k : ℕ) → k < n → f k ≡ g k) → total f n ≡ total g n
total-same f g zero same = refl
total-same f g (suc n) same =
    let below = total-same f g n (λ k lt. same k (omega (arith, lt))) in
    let here = same n (omega arith) in
    omega (arith, below, here)

-- below the last number one value, at it another
total-last : (v : ℕ) (f : ℕ → ℕ) (n : ℕ) → total (λ k. if k == n then v else f k) (suc n) ≡ v + total f n
total-last v f n =
    let below : total (λ k. if k == n then v else f k) n ≡ total f n = total-same (λ k. if k == n then v else f k) f n (λ k lt. ap (λ (b : Bool). if b then v else f k) (ne_eqb k n (λ same. omega (arith, lt, same)))) in
    let here : (if n == n then v else f n) ≡ v = ap (λ (b : Bool). if b then v else f n) (eq-eqb n n refl) in
    omega (arith, below, here)

pub write_backs_count : WriteBacksCountLaw
write_backs_count settings memory =
    let z = sizes_of settings in
    let n = super_room z in
    let image = image_of memory nothing_kept in
    let own : ℕ → ℕ = λ k. (bank_at memory k).write_backs in
    let torn : ℕ → ℕ = λ k. tagged_in (epoch_at z image) (bank_at memory k) in
    let count : room_count z ≡ suc n = omega arith in
    subst (λ (m : ℕ). total (most_at settings (epoch_at z image) memory) m ≡ total own m + (1 + torn_cells z image)) (sym count)
    (total-add own (λ k. if k == n then 1 else torn k) (suc n)
    ∙ ap (λ (t : ℕ). total own (suc n) + t) (total-last 1 torn n ∙ ap (λ (t : ℕ). 1 + t) (total-same torn (torn_cells_in z image) n (λ k lt. torn_here z memory k))))

-- The events.

-- four for each cell that is tagged, and one for each room that has one
total-events : (t : ℕ → ℕ) (n : ℕ) → total (λ k. events_for (t k)) n ≡ 4 * total t n + total (λ k. if t k == 0 then 0 else 1) n
total-events t zero = refl
total-events t (suc n) = let below = total-events t n in omega (arith, below)

nothing_first : (n : ℕ) → 0 + n ≡ n
nothing_first n = omega arith

pub events_count : (settings : Settings) (memory : List BankState)
    → total (λ k. bank_events settings (epoch_at (sizes_of settings) (image_of memory nothing_kept)) k (bank_at memory k)) (room_count (sizes_of settings)) + 3 ≡ recovery_events (sizes_of settings) (image_of memory nothing_kept)
events_count settings memory =
    let z = sizes_of settings in
    let n = super_room z in
    let image = image_of memory nothing_kept in
    let torn : ℕ → ℕ = λ k. tagged_in (epoch_at z image) (bank_at memory k) in
    let count : room_count z ≡ suc n = omega arith in
    subst (λ (m : ℕ). total (λ k. bank_events settings (epoch_at z image) k (bank_at memory k)) m + 3 ≡ recovery_events z image) (sym count)
    (ap (λ (t : ℕ). t + 3)
    (total-last 0 (λ k. events_for (torn k)) n
    ∙ nothing_first (total (λ k. events_for (torn k)) n)
    ∙ total-same (λ k. events_for (torn k)) (λ k. events_for (torn_cells_in z image k)) n (λ k lt. ap events_for (torn_here z memory k))
    ∙ total-events (torn_cells_in z image) n))

-- the events of rooms, one after the other, are those of their numbers together
pub restores_total : (f : ℕ → ℕ) (k : ℕ) (xs : List Room) → EachFrom (λ j x. events_in x ≡ f j) k xs → total f k + restores_left xs ≡ total f (k + length xs)
restores_total f k [] each = let none : k + 0 ≡ k = omega arith in let more : total f k + 0 ≡ total f k = omega arith in more ∙ ap (total f) (sym none)
restores_total f k (x ∷ xs) each =
    let here = each.0 in
    let rest = restores_total f (suc k) xs each.1 in
    let next : suc k + length xs ≡ k + suc (length xs) = omega arith in
    let sum : total f k + (events_in x + restores_left xs) ≡ total f (suc k) + restores_left xs = omega (arith, here) in
    sum ∙ rest ∙ ap (total f) next

-- so a recovery begins with so many
pub begun_count : (settings : Settings) (memory : List BankState) (rooms : List Room) → length rooms ≡ room_count (sizes_of settings) → EachFrom (HasEvents settings (epoch_at (sizes_of settings) (image_of memory nothing_kept)) memory) 0 rooms
    → restores_left rooms + 3 ≡ recovery_events (sizes_of settings) (image_of memory nothing_kept)
begun_count settings memory rooms number each =
    let f : ℕ → ℕ = λ k. bank_events settings (epoch_at (sizes_of settings) (image_of memory nothing_kept)) k (bank_at memory k) in
    let sum : total f 0 + restores_left rooms ≡ total f (0 + length rooms) = restores_total f 0 rooms each in
    let none : total f 0 ≡ 0 = refl in
    let many : 0 + length rooms ≡ room_count (sizes_of settings) = omega (arith, number) in
    let same : total f (0 + length rooms) ≡ total f (room_count (sizes_of settings)) = ap (total f) many in
    let all : total f (room_count (sizes_of settings)) + 3 ≡ recovery_events (sizes_of settings) (image_of memory nothing_kept) = events_count settings memory in
    let first : restores_left rooms ≡ total f (room_count (sizes_of settings)) = omega (arith, sum, none, same) in
    ap (λ (n : ℕ). n + 3) first ∙ all
