-- Formatted memory, and lives before their first event.
use Rattle.std.proofs.Common.{◌≡◌, ℕ, ◌+◌, ◌<◌, ◌≤◌, ◌==◌, ◌&&◌, Bool, true, false, List, [], Option, None, if◌then◌else◌, refl, sym, ap, ◌∙◌, subst, ⊎_elim, arith, eq-eqb}
use Rattle.std.specs.Prelude.{slice_index, nat_le, MatchBool}
use Rattle.std.proofs.lemmas.Bool.{ne_eqb, cases_lt}
use Rattle.std.proofs.lemmas.Bool.Decides.{nat_tests}
use Rattle.std.proofs.lemmas.List.{get_or_past}
use Rattle.std.specs.Ordering.{nat_cmp}
use Rattle.std.specs.FinMap.{empty, get, get-empty}
use Rattle.seq_object.specs.Sizes.{AreValid, thread_room, super_room, line_count}
use Rattle.seq_object.specs.Object.{no_contents, shard_of, shard_pairs}
use Rattle.seq_object.specs.History.{first_state, total}
use Rattle.seq_object.proofs.Pairs.{got_kept}
use Rattle.seq_object.proofs.Totals.{total_none}
use Rattle.room_model.specs.Cell.{tag_of, record_of, backup_of}
use Rattle.room_model.specs.Chains.{is_node}
use Rattle.room_model.specs.MapRoom.{Layout, IsLayout, live_layout, head, IsMapRoom}
use Rattle.room_model.specs.QueueRoom.{IsQueueRoom}
use Rattle.room_model.specs.Rooms.{StandsFor}
use Rattle.room_model.specs.Formatted.{formatted, first_node}
use Rattle.room_model.specs.Image.{ImageRooms, image_of, nothing_kept, lines_at, words_at, epoch_at, recovered_room, Recovers, IsFormatted}
use Rattle.life_model.specs.Life.{Opening, sizes}
use Rattle.life_model.specs.Crash.{LeavesCovered}
use Rattle.life_laws.specs.ImageLaws.{FormattedRecoversLaw}
use Rattle.life_laws.specs.LifeLaws.{StartSafeLaw, ResumeSafeLaw}
use Rattle.life_laws.proofs.Chain.{first_at, length-first, after_nothing}
use Rattle.room_laws.proofs.Words.{words}
use Rattle.life_laws.proofs.Safe.{first_three, quiet_safe}
use Rattle.seq_object.specs.declared.sizes.Sizes.{Sizes}

-- no value
abbrev no_value : Option ℕ
no_value = None

-- no pair is in a shard of the empty map
pub no_pairs : (z : Sizes) (shard key : ℕ) → get (shard_pairs z shard (empty {X = ℕ} {R = nat_cmp})) key ≡ None
no_pairs z shard key = got_kept empty (λ k. shard_of z k == shard) key
    ∙ ap (λ (o : Option ℕ). if shard_of z key == shard then o else None) (get-empty nat_cmp key) ∙ none (shard_of z key == shard)
  where
    none : (b : Bool) → (if b then no_value else no_value) ≡ no_value
    none true = refl
    none false = refl

-- none by either way
pub same_none : (b : Bool) → no_value ≡ (if b then no_value else no_value)
same_none true = refl
same_none false = refl

-- where fresh is the first node line no line is a node
pub no_node : (first x n : ℕ) → n ≡ 0 → n + 0 ≡ (if is_node first first x then 1 else 0)
no_node first x n e = grind (arith, nat_tests)

-- a word of a formatted room that is not in line 0 is 0
pub past_header : (first line w : ℕ) → 0 < line → formatted first line w ≡ 0
past_header first line w lt = ap (λ (b : Bool). if b && (w == 1) then first else 0) (ne_eqb line 0 (λ e. omega (arith, e)))

-- no bucket of a formatted room has a node
no_head : (layout : Layout) → IsLayout layout → (b : ℕ) → b < 8 → head layout (formatted layout.first) b ≡ 0
no_head layout is b lt = past_header layout.first (layout.head_line b) (layout.head_word b) (is.low b lt)

-- a formatted map room stands for no pair
pub empty_map : (layout : Layout) → IsLayout layout → (z : Sizes) (shard : ℕ) → layout.first ≤ z.lines
    → IsMapRoom layout z shard (formatted layout.first) (shard_pairs z shard empty)
empty_map layout is z shard fits = record {
  chain = λ b. [];
  free = [];
  low = omega arith;
  high = fits;
  chained = λ b lt. no_head layout is b lt;
  freed = refl;
  each = λ x. no_node layout.first x (total (λ b. 0) 8) (total_none 8);
  keys = λ b lt. tt;
  count = refl;
  keyed = λ key. no_pairs z shard key ∙ same_none (shard_of z key == shard);
}

-- a formatted queue room stands for no item
pub empty_queue : (z : Sizes) → 16 ≤ z.lines → IsQueueRoom z (formatted 2) []
empty_queue z some = record {
  chain = [];
  free = [];
  low = omega arith;
  high = omega arith;
  chained = refl;
  last = refl;
  freed = refl;
  each = λ x. no_node 2 x 0 refl;
  count = refl;
  listed = refl;
}

-- a formatted room stands for nothing
pub empty_stands : (layout : Layout) → IsLayout layout → (z : Sizes) (room : ℕ) → layout.first ≤ z.lines → 16 ≤ z.lines
    → StandsFor layout z room (formatted (first_node layout z room)) no_contents
empty_stands layout is z room fits some = by_test (room == z.shards)
  where
    by_test : (b : Bool) → MatchBool b (IsQueueRoom z (formatted (if b then 2 else layout.first)) [])
        (IsMapRoom layout z room (formatted (if b then 2 else layout.first)) (shard_pairs z room empty))
    by_test true = empty_queue z some
    by_test false = empty_map layout is z room fits

module _ (layout : Layout) (is : IsLayout layout) (z : Sizes) (fits : layout.first ≤ z.lines) (image : ImageRooms) (valid : AreValid z)
    (f : IsFormatted layout z image) where
  -- each room has a line
  some_line : (room : ℕ) → 0 < line_count z room
  some_line room = by_test (nat_le room z.shards)
    where
      by_test : (b : Bool) → 0 < (if b then z.lines else 1)
      by_test true = let some = valid.some_lines in omega arith
      by_test false = omega arith

  -- a word below the super room, lines that are not there included
  word_below : (room line w : ℕ) → room < super_room z → w < 8
      → slice_index (words_at image room line) w ≡ (if nat_le room z.shards then formatted (first_node layout z room) line w else 0)
  word_below room line w lt few = ⊎_elim
      (λ (inside : line < line_count z room). f.words room line w (omega arith) inside few
      ∙ ap (λ (b : Bool). if b then (if w == 0 then 1 else 0) else (if nat_le room z.shards then formatted (first_node layout z room) line w else 0))
      (ne_eqb room (super_room z) (λ e. omega arith)))
      (λ (past : line_count z room ≤ line).
      let none : words_at image room line ≡ [] = get_or_past (lines_at image room) line [] (omega (arith, f.shape.lines room (omega arith), past)) in
      ap (λ (words : List ℕ). slice_index words w) none
      ∙ sym (none_here (nat_le room z.shards) (formatted (first_node layout z room) line w)
      (past_header (first_node layout z room) line w (omega (arith, past, some_line room)))))
      (cases_lt line (line_count z room))
    where
      none_here : (b : Bool) (n : ℕ) → n ≡ 0 → (if b then n else 0) ≡ 0
      none_here true n e = e
      none_here false n e = refl

  -- the epoch is 1
  first_epoch : epoch_at z image ≡ 1
  first_epoch = f.words (super_room z) 0 0 (omega arith) (some_line (super_room z)) (omega arith)
      ∙ ap (λ (b : Bool). if b then 1 else (if nat_le (super_room z) z.shards then formatted (first_node layout z (super_room z)) 0 0 else 0))
      (eq-eqb (super_room z) (super_room z) refl)

  -- a word other than a fresh one is 0
  word_none : (room line w : ℕ) → room < super_room z → w < 8 → (w == 1) ≡ false → slice_index (words_at image room line) w ≡ 0
  word_none room line w lt few ne =
      word_below room line w lt few ∙ ap
      (λ (b : Bool). if nat_le room z.shards then (if (line == 0) && b then first_node layout z room else 0) else 0) ne
      ∙ by_tests (nat_le room z.shards) (line == 0)
    where
      by_tests : (a b : Bool) → (if a then (if b && false then first_node layout z room else 0) else 0) ≡ 0
      by_tests true true = refl
      by_tests true false = refl
      by_tests false b = refl

  -- no cell has a tag
  no_tag : (room line : ℕ) → room < super_room z → tag_of (words_at image room line) ≡ 0
  no_tag room line lt = word_none room line 6 lt (omega arith) refl

  -- each cell recovers to its record
  recovered_word : (room line w : ℕ) → room < super_room z → w < 3 → recovered_room z image room line w ≡ slice_index (words_at image room line) w
  recovered_word room line w lt few =
      ap (λ (b : Bool). slice_index (if b then backup_of (words_at image room line) else record_of (words_at image room line)) w)
      (ne_eqb (tag_of (words_at image room line)) (epoch_at z image) (λ e. omega (arith, e, no_tag room line lt, first_epoch)))
      ∙ first_three (words_at image room line) w few

  -- the room as it is recovered is the formatted one
  as_formatted : (room line w : ℕ) → room ≤ z.shards → w < 3 → formatted (first_node layout z room) line w ≡ recovered_room z image room line w
  as_formatted room line w le few =
      let low : nat_le room z.shards ≡ true = grind (arith, nat_tests) in
      sym (recovered_word room line w (omega arith) few ∙ word_below room line w (omega arith) (omega arith)
      ∙ ap (λ (b : Bool). if b then formatted (first_node layout z room) line w else 0) low)

  -- the image recovers to the first state
  recovers_first : Recovers layout z image (first_state z)
  recovers_first = record {
    valid = valid;
    shape = f.shape;
    epoch = omega (arith, first_epoch);
    epoch_fits = omega (arith, first_epoch);
    tags = λ room line lt inside. omega (arith, no_tag room line lt);
    rooms = λ room le. words layout z room (formatted (first_node layout z room)) (recovered_room z image room) no_contents is
        (empty_stands layout is z room fits valid.some_lines) (λ line w few. sym (as_formatted room line w le few));
    threads = length-first z.threads;
    points = λ thread lt. first_at z.threads thread
        ∙ ap (λ (n : ℕ). record { position = n }) (sym (recovered_word (thread_room z thread) 0 0 (omega arith) (omega arith)
        ∙ word_none (thread_room z thread) 0 0 (omega arith) (omega arith) refl));
  }

-- both facts of a formatted image
pub formatted_recovers : FormattedRecoversLaw
formatted_recovers layout z image is fits valid f = (first_epoch layout is z fits image valid f, recovers_first layout is z fits image valid f)

-- the layout in use is one
pub layout_in_use : IsLayout live_layout
layout_in_use = record {
  low = λ b lt. omega arith;
  high = λ b lt. omega arith;
  word = λ b lt. omega arith;
  apart = λ b c lt lt' line word. omega (arith, line);
}

-- a life before its first event leaves its image as it is
opened : (o : Opening) (image : ImageRooms) → epoch_at (sizes o) image ≡ o.epoch → Recovers live_layout (sizes o) image o.state → LeavesCovered o [] [] image
opened o image epoch recovers = record {
  epoch = omega (arith, epoch);
  recovers =
      subst (Recovers live_layout (sizes o) image) (after_nothing (sizes o) o.state) recovers;
}

-- the formatted image recovers to the state in which a start begins
pub start_safe : StartSafeLaw
start_safe o memory valid quiet is state epoch =
    let few = valid.some_lines in
    let first = formatted_recovers live_layout (sizes o) (image_of memory nothing_kept) layout_in_use (omega arith) valid is in
    quiet_safe o [] [] memory quiet
    (opened o (image_of memory nothing_kept) (first.0 ∙ sym epoch)
    (subst (Recovers live_layout (sizes o) (image_of memory nothing_kept)) (sym state) first.1))

-- the image recovers to the state in which the resume begins
pub resume_safe : ResumeSafeLaw
resume_safe o memory quiet from = quiet_safe o [] [] memory quiet (opened o (image_of memory nothing_kept) (sym from.epoch) from.state)
