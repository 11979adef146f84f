-- What a choice leaves of a memory, line by line.
use Rattle.std.proofs.Common.{◌≡◌, ℕ, ◌+◌, ◌<◌, ◌≤◌, zero, suc, Bool, false, List, [], ◌∷◌, length, take, if◌then◌else◌, refl, sym, ap, ◌∙◌, subst, ⊎_elim, arith}
use Rattle.std.specs.Prelude.{nat_le, slice_index, slice_index_or}
use Rattle.std.proofs.lemmas.Bool.{cases_lt}
use Rattle.std.proofs.lemmas.Bool.Decides.{nat_tests}
use Rattle.std.proofs.lemmas.List.{get_or_past}
use Rattle.seq_object.specs.Sizes.{thread_room, super_room, room_count, line_count}
use Rattle.seq_object.specs.History.{State}
use Rattle.line_memory.specs.declared.store.Store.{Store}
use Rattle.line_memory.specs.Line.{LineState, BankState, applied, survivor, no_line, no_bank, line_at, bank_at, line_of}
use Rattle.room_model.specs.Cell.{triple_of}
use Rattle.room_model.specs.Chains.{RoomWords}
use Rattle.room_model.specs.MapRoom.{Layout}
use Rattle.room_model.specs.Rooms.{StandsFor, point_in}
use Rattle.room_model.specs.Image.{KeptCounts, nothing_kept, surviving_lines, surviving_rooms, image_of, lines_at, words_at, epoch_at, recovered_room, Recovers, StandsAt}
use Rattle.life_laws.specs.ImageLaws.{LinesLeftLaw, SameChoiceLaw, QuietLaw, StandsLaw}
use Rattle.room_model.specs.Banks.{memory_words}
use Rattle.seq_object.specs.declared.sizes.Sizes.{Sizes}

-- no stores
abbrev pub no_store : List Store
no_store = []

-- of no stores a prefix is none
pub none_taken : (n : ℕ) → take n no_store ≡ []
none_taken zero = refl
none_taken (suc n) = refl

-- of a line that is not there nothing is left
none_left : (n : ℕ) → survivor no_line n ≡ []
none_left n = ap (applied []) (none_taken n)

-- a line of what is left of lines
line_left : (choice : ℕ → ℕ) (i : ℕ) (ls : List LineState) (k : ℕ)
    → slice_index_or (surviving_lines choice i ls) k [] ≡ survivor (slice_index_or ls k no_line) (choice (i + k))
line_left choice i [] k = sym (none_left (choice (i + k)))
line_left choice i (l ∷ ls) zero = ap (λ (n : ℕ). survivor l (choice n)) (omega arith)
line_left choice i (l ∷ ls) (suc k) = line_left choice (suc i) ls k ∙ ap (λ (n : ℕ). survivor (slice_index_or ls k no_line) (choice n)) (omega arith)

-- a room of what is left of banks
room_left : (choice : KeptCounts) (r : ℕ) (bs : List BankState) (k : ℕ)
    → slice_index_or (surviving_rooms choice r bs) k [] ≡ surviving_lines (choice (r + k)) 0 (slice_index_or bs k no_bank).lines
room_left choice r [] k = refl
room_left choice r (b ∷ bs) zero = ap (λ (n : ℕ). surviving_lines (choice n) 0 b.lines) (omega arith)
room_left choice r (b ∷ bs) (suc k) =
    room_left choice (suc r) bs k ∙ ap (λ (n : ℕ). surviving_lines (choice n) 0 (slice_index_or bs k no_bank).lines) (omega arith)

-- 0 adds nothing
nothing_more : (n : ℕ) → 0 + n ≡ n
nothing_more n = omega arith

-- a line of an image is what the choice leaves of that line
pub words_left : (memory : List BankState) (choice : KeptCounts) (room line : ℕ)
    → words_at (image_of memory choice) room line ≡ survivor (line_of memory room line) (choice room line)
words_left memory choice room line =
    ap (λ (ls : List (List ℕ)). slice_index_or ls line []) (room_left choice 0 memory room)
    ∙ line_left (choice (0 + room)) 0 (bank_at memory room).lines line
    ∙ ap (λ (n : ℕ). survivor (line_of memory room line) (choice n (0 + line))) (nothing_more room)
    ∙ ap (λ (n : ℕ). survivor (line_of memory room line) (choice room n)) (nothing_more line)

-- as many lines are left
length-lines_left : (choice : ℕ → ℕ) (i : ℕ) (ls : List LineState) → length (surviving_lines choice i ls) ≡ length ls
length-lines_left choice i [] = refl
length-lines_left choice i (l ∷ ls) = ap suc (length-lines_left choice (suc i) ls)

-- as many rooms are left
length-rooms_left : (choice : KeptCounts) (r : ℕ) (bs : List BankState) → length (surviving_rooms choice r bs) ≡ length bs
length-rooms_left choice r [] = refl
length-rooms_left choice r (b ∷ bs) = ap suc (length-rooms_left choice (suc r) bs)

-- a room of an image has as many lines as its bank
length_at : (memory : List BankState) (choice : KeptCounts) (room : ℕ)
    → length (lines_at (image_of memory choice) room) ≡ length (bank_at memory room).lines
length_at memory choice room = ap length (room_left choice 0 memory room) ∙ length-lines_left (choice (0 + room)) 0 (bank_at memory room).lines

-- one image of two choices

-- lines of which two choices keep the same leave the same
same_lines : (choice other : ℕ → ℕ) (i : ℕ) (ls : List LineState)
    → ((k : ℕ) → survivor (line_at ls k) (choice (i + k)) ≡ survivor (line_at ls k) (other (i + k)))
    → surviving_lines choice i ls ≡ surviving_lines other i ls
same_lines choice other i [] same = refl
same_lines choice other i (l ∷ ls) same =
    let here : survivor l (choice i) ≡ survivor l (other i) = subst (λ (n : ℕ). survivor l (choice n) ≡ survivor l (other n)) (omega arith) (same 0) in
    let rest : surviving_lines choice (suc i) ls ≡ surviving_lines other (suc i) ls =
    same_lines choice other (suc i) ls
    (λ k. subst (λ (n : ℕ). survivor (line_at ls k) (choice n) ≡ survivor (line_at ls k) (other n)) (omega arith) (same (suc k))) in
    λ m. here m ∷ rest m

-- and so do banks
same_rooms : (choice other : KeptCounts) (r : ℕ) (bs : List BankState)
    → ((k line : ℕ) → survivor (line_of bs k line) (choice (r + k) line) ≡ survivor (line_of bs k line) (other (r + k) line))
    → surviving_rooms choice r bs ≡ surviving_rooms other r bs
same_rooms choice other r [] same = refl
same_rooms choice other r (b ∷ bs) same =
    let here : surviving_lines (choice r) 0 b.lines ≡ surviving_lines (other r) 0 b.lines =
    same_lines (choice r) (other r) 0 b.lines
    (λ k. subst (λ (n : ℕ). survivor (line_at b.lines k) (choice r n) ≡ survivor (line_at b.lines k) (other r n)) (omega arith)
    (subst (λ (n : ℕ). survivor (line_at b.lines k) (choice n k) ≡ survivor (line_at b.lines k) (other n k)) (omega arith) (same 0 k))) in
    let rest : surviving_rooms choice (suc r) bs ≡ surviving_rooms other (suc r) bs =
    same_rooms choice other (suc r) bs
    (λ k line. subst (λ (n : ℕ). survivor (line_of bs k line) (choice n line) ≡ survivor (line_of bs k line) (other n line)) (omega arith)
    (same (suc k) line)) in
    λ m. here m ∷ rest m

-- for a whole memory
pub same_choice : SameChoiceLaw
same_choice memory choice other same =
    same_rooms choice other 0 memory
    (λ k line. subst (λ (n : ℕ). survivor (line_of memory k line) (choice n line) ≡ survivor (line_of memory k line) (other n line)) (omega arith)
    (same k line))

-- of a line with nothing pending the base is left
pub quiet_left : (l : LineState) (n : ℕ) → l.pending ≡ [] → survivor l n ≡ l.base
quiet_left l n q = ap (λ (ss : List Store). applied l.base (take n ss)) q ∙ ap (applied l.base) (none_taken n)

-- where nothing is pending each choice keeps nothing
pub quiet : QuietLaw
quiet memory q choice = same_choice memory choice nothing_kept (λ room line. quiet_left (line_of memory room line) (choice room line) (q room line))

-- shape and lines of an image
pub lines_left_here : LinesLeftLaw
lines_left_here memory choice = (record { rooms = length-rooms_left choice 0 memory; lines = length_at memory choice }, words_left memory choice)

-- cells that stand at an epoch

module _ (layout : Layout) (z : Sizes) (epoch : ℕ) (memory : List BankState) (state : State) (s : StandsAt layout z epoch memory state)
    (choice : KeptCounts) (at : epoch_at z (image_of memory choice) ≡ epoch) where
  -- each cell that is left recovers to the triple that memory holds
  same_triple : (room line : ℕ) → room < super_room z
      → triple_of (epoch_at z (image_of memory choice)) (words_at (image_of memory choice) room line) ≡
      triple_of epoch (line_of memory room line).base
  same_triple room line lt =
      ap (λ (e : ℕ). triple_of e (words_at (image_of memory choice) room line)) at ∙ ap (triple_of epoch) (words_left memory choice room line)
      ∙ ⊎_elim (λ (inside : line < line_count z room). (s.cells room line lt inside (choice room line)).recovers)
      (λ (past : line_count z room ≤ line).
      let none : line_of memory room line ≡ no_line =
      get_or_past (bank_at memory room).lines line no_line (omega (arith, s.rooms.lines room (omega (arith, lt)), past)) in
      ap (λ (l : LineState). triple_of epoch (survivor l (choice room line))) none ∙ ap (triple_of epoch) (none_left (choice room line))
      ∙ sym (ap (λ (l : LineState). triple_of epoch l.base) none))
      (cases_lt line (line_count z room))

  -- so each room is recovered as memory holds it
  same_room : (room : ℕ) → room < super_room z → memory_words epoch (bank_at memory room) ≡ recovered_room z (image_of memory choice) room
  same_room room lt = λ m line w. slice_index (sym (same_triple room line lt) m) w

  -- each line that is left has eight words
  eight : (room line : ℕ) → room < room_count z → line < line_count z room → length (words_at (image_of memory choice) room line) ≡ 8
  eight room line lt inside = ap length (words_left memory choice room line) ∙ ⊎_elim
      (λ (below : room < super_room z). (s.cells room line below inside (choice room line)).eight)
      (λ (above : super_room z ≤ room).
      let is : super_room z ≡ room = omega arith in
      let high : nat_le room z.shards ≡ false = grind (arith, nat_tests) in
      let one : line_count z room ≡ 1 = ap (λ (b : Bool). if b then z.lines else 1) high in
      let first : 0 ≡ line = omega (arith, inside, one) in
      subst (λ (i : ℕ). length (survivor (line_of memory room i) (choice room line)) ≡ 8) first
      (subst (λ (i : ℕ). length (survivor (line_of memory i 0) (choice room line)) ≡ 8) is (s.super_words (choice room line))))
      (cases_lt room (super_room z))

  -- and the image recovers to the state
  recovers : Recovers layout z (image_of memory choice) state
  recovers = record {
    valid = s.valid;
    shape = record {
      rooms = length-rooms_left choice 0 memory ∙ s.rooms.rooms;
      lines = λ room lt. length_at memory choice room ∙ s.rooms.lines room lt;
      words = λ room line lt inside. eight room line lt inside;
    };
    epoch = subst (λ (e : ℕ). 1 ≤ e) (sym at) s.some;
    epoch_fits = subst (λ (e : ℕ). e < 4294967296) (sym at) s.fits;
    tags = λ room line lt inside. subst (λ (words : List ℕ). slice_index words 6 ≤ epoch_at z (image_of memory choice))
        (sym (words_left memory choice room line))
        (subst (λ (e : ℕ). slice_index (survivor (line_of memory room line) (choice room line)) 6 ≤ e) (sym at)
        (s.cells room line lt inside (choice room line)).tag);
    rooms = λ room le. subst (λ (r : RoomWords). StandsFor layout z room r state.contents) (same_room room (omega arith)) (s.stands room le);
    threads = s.threads;
    points = λ thread lt. s.points thread lt ∙ ap (point_in layout) (same_room (thread_room z thread) (omega arith));
  }

-- for every layout and memory
pub stands : StandsLaw
stands = recovers
