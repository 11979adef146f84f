-- A whole image has no fault exactly where it is lawful.
use Rattle.std.proofs.Common.{◌≡◌, ℕ, ◌+◌, ◌<◌, ◌≤◌, ◌≢◌, ◌^◌, ◌&&◌, nat_le, nat_lt, zero, suc, Bool, true, false, cond, Option, Some, None, List, [], ◌∷◌, ◌++◌, map, length, arith, add-one, refl, ap, sym, ◌∙◌, subst, inl, inr, if◌then◌else◌}
use Rattle.std.specs.Prelude.{slice_index, slice_index_or}
use Rattle.std.specs.List.{range_with_len}
use Rattle.std.proofs.lemmas.List.FromFn.{length-map-range_with_len, get_or-map-range_with_len}
use Rattle.std.proofs.lemmas.Bool.Decides.{eqb_tells, nat_tests}
use Rattle.std.proofs.lemmas.Bool.{ne_eqb}
use Rattle.std.specs.Ordering.{nat_cmp, eq_by_cmp}
use Rattle.std.specs.FinMap.{get, find, from_entries, get-from_entries}
use Rattle.std.proofs.lemmas.Cmp.{nat_cmp_total}
use Rattle.seq_object.specs.Sizes.{thread_room, super_room, line_count}
use Rattle.seq_object.specs.Object.{Pairs, shard_of, shard_pairs}
use Rattle.seq_object.proofs.Pairs.{one_map}
use Rattle.room_model.specs.Cell.{tag_of}
use Rattle.room_model.specs.Chains.{RoomWords}
use Rattle.room_model.specs.MapRoom.{Layout, IsLayout, IsMapRoom, found, bucket_of, live_layout}
use Rattle.room_model.specs.Rooms.{StandsFor}
use Rattle.room_model.specs.Image.{ImageRooms as Rooms, HasShape, lines_at, words_at, epoch_at, recovered_room, Recovers, IsLawful, image_of}
use Rattle.room_model.specs.Walks.{map_of, items_of, pairs_below}
use Rattle.room_laws.proofs.Keys.{or_else}
use Rattle.room_laws.proofs.MapLaws.{layouts}
use Rattle.room_laws.proofs.Shards.{get_shard}
use Rattle.room_laws.proofs.Standing.{queue_of, of_queue, map_room_of, of_map_room}
use Rattle.room_laws.proofs.Tests.{by_Bool}
use Rattle.life_model.specs.Life.{sizes}
use Rattle.power_cut.specs.declared.fault.ImageFault.{ImageFault}
use Rattle.power_cut.specs.declared.fault.ImageFault.TheVariants.{Epoch, TagAhead}
use Rattle.power_cut.specs.Image.{AreWhole}
use Rattle.image_check.specs.declared.room_fault.RoomFault.{RoomFault}
use Rattle.image_check.specs.QueueFaults.{queue_fault}
use Rattle.image_check.specs.MapFaults.{map_fault}
use Rattle.image_check.specs.ImageFaults.{or_fault, first_below, epoch_fault, tag_fault, room_tag_fault, tags_fault, with_room, fault_in, map_room_fault, maps_fault, queue_room_fault, image_fault}
use Rattle.image_check.specs.Recovered.{HasAllPairs}
use Rattle.image_check.specs.Laws.{ImageSoundLaw, ImageCompleteLaw, LeftLawfulLaw}
use Rattle.image_check.proofs.QueueChecks.{queue_sound_law, queue_complete_law}
use Rattle.image_check.proofs.MapChecks.{or_none, map_sound_law, map_complete_law}
use Rattle.seq_object.specs.History.{point_at}
use Rattle.seq_object.specs.declared.history.RestartPoint.{RestartPoint}
use Rattle.seq_object.specs.declared.sizes.Sizes.{Sizes}

abbrev is_fault : Option ImageFault → Type 0
is_fault None = ⊥
is_fault (Some f) = Unit {0}

never_none : (f : ImageFault) → Some f ≡ None → ⊥
never_none f e = subst is_fault e tt

-- neither of two is a fault
neither : (a b : Option ImageFault) → or_fault a b ≡ None → (a ≡ None) × (b ≡ None)
neither None b h = (refl, h)
neither (Some f) b h = absurd (never_none f h)

none_of_both : (a b : Option ImageFault) → a ≡ None → b ≡ None → or_fault a b ≡ None
none_of_both a b first second = ap (λ (o : Option ImageFault). or_fault o b) first ∙ second

-- no number below has a fault
none_below : (fault : ℕ → Option ImageFault) (n : ℕ) → first_below fault n ≡ None → (k : ℕ) → k < n → fault k ≡ None
none_below fault zero h k lt = absurd (omega (arith, lt))
none_below fault (suc n) h k lt =
    let parts = neither (first_below fault n) (fault n) h in
    elim (eqb_tells k n) [
      | inl e ↦ ap fault e.1 ∙ parts.1
      | inr e ↦ none_below fault n parts.0 k (omega (arith, lt, e.1))
    ]

pub all_below : (fault : ℕ → Option ImageFault) (n : ℕ) → ((k : ℕ) → k < n → fault k ≡ None) → first_below fault n ≡ None
all_below fault zero none = refl
all_below fault (suc n) none = none_of_both (first_below fault n) (fault n) (all_below fault n (λ k lt. none k (omega (arith, lt)))) (none n (omega arith))

-- the first fault of some numbers is that of all behind them
pub first_stays : (fault : ℕ → Option ImageFault) (n k : ℕ) (found : ImageFault) → first_below fault n ≡ None → fault n ≡ Some found → n < k → first_below fault k ≡ Some found
first_stays fault n zero found before here lt = absurd (omega (arith, lt))
first_stays fault n (suc k) found before here lt = elim (eqb_tells n k) [
  | inl e ↦
      let front : first_below fault k ≡ None = ap (first_below fault) (sym e.1) ∙ before in
      ap (λ (o : Option ImageFault). or_fault o (fault k)) front ∙ ap fault (sym e.1) ∙ here
  | inr e ↦ ap (λ (o : Option ImageFault). or_fault o (fault k)) (first_stays fault n k found before here (omega (arith, lt, e.1)))
]

-- and one more that has none
pub one_more_none : (fault : ℕ → Option ImageFault) (n : ℕ) → first_below fault n ≡ None → fault n ≡ None → first_below fault (suc n) ≡ None
one_more_none fault n before here = none_of_both (first_below fault n) (fault n) before here

-- a test without a fault holds
passed : (b : Bool) (f : ImageFault) → (if b then None else Some f) ≡ None → b ≡ true
passed true f h = refl
passed false f h = absurd (never_none f h)

in_range : (epoch : ℕ) → nat_le 1 epoch && nat_lt epoch (2 ^ 32) ≡ true → (1 ≤ epoch) × (epoch < 2 ^ 32)
in_range epoch h = grind (arith, nat_tests)

in_range_back : (epoch : ℕ) → 1 ≤ epoch → epoch < 2 ^ 32 → nat_le 1 epoch && nat_lt epoch (2 ^ 32) ≡ true
in_range_back epoch low high = grind (arith, nat_tests)

at_most : (a b : ℕ) → nat_le a b ≡ true → a ≤ b
at_most a b h = grind (arith, nat_tests)

at_most_back : (a b : ℕ) → a ≤ b → nat_le a b ≡ true
at_most_back a b h = grind (arith, nat_tests)

no_room_fault : (room : ℕ) (o : Option RoomFault) → fault_in room o ≡ None → o ≡ None
no_room_fault room None h = refl
no_room_fault room (Some f) h = absurd (never_none (with_room room f) h)

-- what an image without a fault has
pub record IsFaultless (layout : Layout) (z : Sizes) (rooms : Rooms) : Type 0 where
  pub epoch : 1 ≤ epoch_at z rooms
  pub epoch_fits : epoch_at z rooms < 2 ^ 32
  pub tags : (room line : ℕ) → room < super_room z → line < line_count z room → tag_of (words_at rooms room line) ≤ epoch_at z rooms
  pub maps : (room : ℕ) → room < z.shards → map_fault layout z room (recovered_room z rooms room) ≡ None
  pub queue : queue_fault z (recovered_room z rooms z.shards) ≡ None

pub faultless : (layout : Layout) (z : Sizes) (rooms : Rooms) → HasShape z rooms → image_fault layout z rooms ≡ None → IsFaultless layout z rooms
faultless layout z rooms shape h =
    let parts = neither (epoch_fault (epoch_at z rooms)) (or_fault (tags_fault z rooms) (or_fault (maps_fault layout z rooms) (queue_room_fault z rooms))) h in
    let others = neither (tags_fault z rooms) (or_fault (maps_fault layout z rooms) (queue_room_fault z rooms)) parts.1 in
    let rest = neither (maps_fault layout z rooms) (queue_room_fault z rooms) others.1 in
    let range = in_range (epoch_at z rooms) (passed (nat_le 1 (epoch_at z rooms) && nat_lt (epoch_at z rooms) (2 ^ 32)) Epoch parts.0) in
    record {
      epoch = range.0;
      epoch_fits = range.1;
      tags = λ room line lt within.
          let lines = lines_at rooms room in
          let size : length lines ≡ line_count z room = shape.lines room (omega (arith, lt)) in
          let here = none_below (λ room. room_tag_fault (epoch_at z rooms) room (lines_at rooms room)) (super_room z) others.0 room lt in
          let one = none_below (tag_fault (epoch_at z rooms) room lines) (length lines) here line (omega (arith, size, within)) in
          at_most (tag_of (words_at rooms room line)) (epoch_at z rooms) (passed (nat_le (tag_of (words_at rooms room line)) (epoch_at z rooms)) (TagAhead room line) one);
      maps = λ room lt. no_room_fault room (map_fault layout z room (recovered_room z rooms room)) (none_below (map_room_fault layout z rooms) z.shards rest.0 room lt);
      queue = no_room_fault z.shards (queue_fault z (recovered_room z rooms z.shards)) rest.1;
    }

pub image_complete_law : ImageCompleteLaw
image_complete_law layout z rooms laid lawful =
    let state = lawful.0 in
    let is = lawful.1 in
    let epoch : epoch_fault (epoch_at z rooms) ≡ None = ap (λ (b : Bool). if b then None else Some Epoch) (in_range_back (epoch_at z rooms) is.epoch is.epoch_fits) in
    let tags : tags_fault z rooms ≡ None = all_below (λ room. room_tag_fault (epoch_at z rooms) room (lines_at rooms room)) (super_room z) (λ room lt. all_below (tag_fault (epoch_at z rooms) room (lines_at rooms room)) (length (lines_at rooms room)) (λ line within.
    let size : length (lines_at rooms room) ≡ line_count z room = is.shape.lines room (omega (arith, lt)) in
    ap (λ (b : Bool). if b then None else Some (TagAhead room line)) (at_most_back (tag_of (words_at rooms room line)) (epoch_at z rooms) (is.tags room line lt (omega (arith, size, within)))))) in
    let maps : maps_fault layout z rooms ≡ None = all_below (map_room_fault layout z rooms) z.shards (λ room lt.
    let r = recovered_room z rooms room in
    let ne : room ≢ z.shards = λ e. omega (arith, e, lt) in
    ap (fault_in room) (map_complete_law layout z room r (shard_pairs z room state.contents.pairs) laid (map_room_of layout z room r state.contents ne (is.rooms room (omega (arith, lt)))))) in
    let queue : queue_room_fault z rooms ≡ None =
    let r = recovered_room z rooms z.shards in
    ap (fault_in z.shards) (queue_complete_law z r state.contents.items (queue_of layout z r state.contents (is.rooms z.shards (omega arith)))) in
    none_of_both (epoch_fault (epoch_at z rooms)) (or_fault (tags_fault z rooms) (or_fault (maps_fault layout z rooms) (queue_room_fault z rooms))) epoch
    (none_of_both (tags_fault z rooms) (or_fault (maps_fault layout z rooms) (queue_room_fault z rooms)) tags
    (none_of_both (maps_fault layout z rooms) (queue_room_fault z rooms) maps queue))

-- an image with a fault is not lawful
pub unlawful : (layout : Layout) (z : Sizes) (rooms : Rooms) (fault : ImageFault) → IsLayout layout → image_fault layout z rooms ≡ Some fault → IsLawful layout z rooms → ⊥
unlawful layout z rooms fault laid found lawful = never_none fault (sym found ∙ image_complete_law layout z rooms laid lawful)

-- a map room has no key of another shard
pub no_other : (layout : Layout) (z : Sizes) (shard : ℕ) (r : RoomWords) (key : ℕ) → IsMapRoom layout z shard r (map_of layout z r) → shard_of z key ≢ shard → get (map_of layout z r) key ≡ None
no_other layout z shard r key room other =
    room.keyed key ∙ ap (λ (b : Bool). if b then found r key (room.chain (bucket_of z key)) else None) (ne_eqb (shard_of z key) shard other)

-- the pairs of all map rooms have in each shard those of its room
own_pairs : (layout : Layout) (z : Sizes) (rooms : Rooms) (pairs : Pairs) → IsFaultless layout z rooms → HasAllPairs layout z rooms pairs → (shard : ℕ) → shard < z.shards
    → map_of layout z (recovered_room z rooms shard) ≡ shard_pairs z shard pairs
own_pairs layout z rooms pairs none all shard lt = one_map (map_of layout z (recovered_room z rooms shard)) (shard_pairs z shard pairs) (λ key. sym (get_shard z shard pairs key ∙ elim (eqb_tells (shard_of z key) shard) [
  | inl e ↦
      ap (λ (b : Bool). cond b (get pairs key) None) e.0 ∙ all key
      ∙ ap (λ (k : ℕ). get (map_of layout z (recovered_room z rooms k)) key) e.1
  | inr e ↦
      ap (λ (b : Bool). cond b (get pairs key) None) e.0
      ∙ sym (no_other layout z shard (recovered_room z rooms shard) key (map_sound_law layout z shard (recovered_room z rooms shard) (none.maps shard lt)) e.1)
]))

-- the restart points of these positions
abbrev pub points_of : List ℕ → List RestartPoint
points_of = map (λ (n : ℕ). record { position = n })

-- their positions are these
pub places_of_points : (positions : List ℕ) → positions ≡ map (λ p. p.position) (points_of positions)
places_of_points [] = refl
places_of_points (n ∷ ns) = ap (λ (more : List ℕ). n ∷ more) (places_of_points ns)

-- each of them is that of its position
point_of : (positions : List ℕ) (thread : ℕ) → point_at (points_of positions) thread ≡ record { position = slice_index positions thread }
point_of [] thread = refl
point_of (n ∷ ns) zero = refl
point_of (n ∷ ns) (suc thread) = point_of ns thread

-- they are as many
length-points : (positions : List ℕ) → length (points_of positions) ≡ length positions
length-points [] = refl
length-points (n ∷ ns) = ap suc (length-points ns)

-- an image without a fault recovers to the pairs of all its map rooms, the items of its queue room and the words of its thread rooms
pub recovers : (layout : Layout) (z : Sizes) (rooms : Rooms) (pairs : Pairs) (positions : List ℕ) → AreWhole z rooms → image_fault layout z rooms ≡ None → HasAllPairs layout z rooms pairs
    → length positions ≡ z.threads → ((thread : ℕ) → thread < z.threads → slice_index positions thread ≡ recovered_room z rooms (thread_room z thread) 0 0)
    → Recovers layout z rooms (record { contents = record { pairs = pairs; items = items_of z (recovered_room z rooms z.shards) }; points = points_of positions })
recovers layout z rooms pairs positions whole fault all many each =
    let none = faultless layout z rooms whole.shape fault in
    record {
      valid = whole.valid;
      shape = whole.shape;
      epoch = none.epoch;
      epoch_fits = none.epoch_fits;
      tags = none.tags;
      rooms = λ room le. elim (eqb_tells room z.shards) [
        | inl e ↦
            subst (λ (k : ℕ). StandsFor layout z k (recovered_room z rooms k) (record { pairs = pairs; items = items_of z (recovered_room z rooms z.shards) })) (sym e.1)
            (of_queue layout z (recovered_room z rooms z.shards) (record { pairs = pairs; items = items_of z (recovered_room z rooms z.shards) }) (queue_sound_law z (recovered_room z rooms z.shards) none.queue))
        | inr e ↦
            let lt : room < z.shards = omega (arith, le, e.1) in
            of_map_room layout z room (recovered_room z rooms room) (record { pairs = pairs; items = items_of z (recovered_room z rooms z.shards) }) e.1
            (subst (IsMapRoom layout z room (recovered_room z rooms room)) (own_pairs layout z rooms pairs none all room lt) (map_sound_law layout z room (recovered_room z rooms room) (none.maps room lt)))
      ];
      threads = length-points positions ∙ many;
      points = λ thread lt. point_of positions thread ∙ ap (λ (n : ℕ). record { position = n }) (each thread lt);
    }

-- the pairs of the first map rooms, one room's after the other
abbrev entries_below : Layout → Sizes → Rooms → ℕ → List (ℕ × ℕ)
entries_below layout z rooms zero = []
entries_below layout z rooms (suc n) = entries_below layout z rooms n ++ pairs_below layout z (recovered_room z rooms n) 8

find-append : (key : ℕ) (es fs : List (ℕ × ℕ)) → find nat_cmp key (es ++ fs) ≡ or_else (find nat_cmp key es) (find nat_cmp key fs)
find-append key [] fs = refl
find-append key (e ∷ es) fs =
    let rest = find-append key es fs in
    by_Bool (λ b. (if b then Some e.1 else find nat_cmp key (es ++ fs)) ≡ or_else (if b then Some e.1 else find nat_cmp key es) (find nat_cmp key fs)) (eq_by_cmp nat_cmp key e.0) (λ same. refl) (λ other. rest)

-- what they have at a key: what the room of its shard has, once it is among them
record AreEntries (layout : Layout) (z : Sizes) (rooms : Rooms) (n : ℕ) : Type 0 where
  pub here : (key : ℕ) → shard_of z key < n → find nat_cmp key (entries_below layout z rooms n) ≡ get (map_of layout z (recovered_room z rooms (shard_of z key))) key
  pub later : (key : ℕ) → n ≤ shard_of z key → find nat_cmp key (entries_below layout z rooms n) ≡ None

entries_are : (layout : Layout) (z : Sizes) (rooms : Rooms) → IsFaultless layout z rooms → (n : ℕ) → n ≤ z.shards → AreEntries layout z rooms n
entries_are layout z rooms none zero le = record { here = λ key lt. absurd (omega (arith, lt)); later = λ key more. refl }
entries_are layout z rooms none (suc n) le =
    let front = entries_are layout z rooms none n (omega arith) in
    let r = recovered_room z rooms n in
    let room = map_sound_law layout z n r (none.maps n (omega arith)) in
    let told : (key : ℕ) → find nat_cmp key (entries_below layout z rooms (suc n)) ≡ or_else (find nat_cmp key (entries_below layout z rooms n)) (get (map_of layout z r) key) = λ key.
    find-append key (entries_below layout z rooms n) (pairs_below layout z r 8)
    ∙ ap (or_else (find nat_cmp key (entries_below layout z rooms n))) (sym (get-from_entries nat_cmp_total (pairs_below layout z r 8) key)) in
    record {
      here = λ key lt. told key ∙ elim (eqb_tells (shard_of z key) n) [
        | inl e ↦
            ap (λ (o : Option ℕ). or_else o (get (map_of layout z r) key)) (front.later key (omega (arith, e.1)))
            ∙ ap (λ (k : ℕ). get (map_of layout z (recovered_room z rooms k)) key) (sym e.1)
        | inr e ↦
            ap (or_else (find nat_cmp key (entries_below layout z rooms n))) (no_other layout z n r key room e.1)
            ∙ or_none (find nat_cmp key (entries_below layout z rooms n)) ∙ front.here key (omega (arith, lt, e.1))
      ];
      later = λ key more. told key
          ∙ ap (or_else (find nat_cmp key (entries_below layout z rooms n))) (no_other layout z n r key room (λ e. omega (arith, e, more)))
          ∙ or_none (find nat_cmp key (entries_below layout z rooms n)) ∙ front.later key (omega (arith, more));
    }

-- each key has a shard
pub shard_below : (z : Sizes) (key : ℕ) → 1 ≤ z.shards → shard_of z key < z.shards
shard_below z key some = omega arith

pub image_sound_law : ImageSoundLaw
image_sound_law layout z rooms whole fault =
    let none = faultless layout z rooms whole.shape fault in
    let entries = entries_below layout z rooms z.shards in
    let are = entries_are layout z rooms none z.shards (omega arith) in
    let word : ℕ → ℕ = λ thread. recovered_room z rooms (thread_room z thread) 0 0 in
    let positions = map word (range_with_len 0 z.threads) in
    let all : HasAllPairs layout z rooms (from_entries entries) = λ key. get-from_entries nat_cmp_total entries key ∙ are.here key (shard_below z key whole.valid.some_shards) in (
      record { contents = record { pairs = from_entries entries; items = items_of z (recovered_room z rooms z.shards) }; points = points_of positions },
      recovers layout z rooms (from_entries entries) positions whole fault all (length-map-range_with_len word 0 z.threads)
          (λ thread lt. get_or-map-range_with_len word 0 z.threads thread thread 0 lt (omega arith)),
    )

pub left_lawful : LeftLawfulLaw
left_lawful o h marks memory safe choice = elim (safe choice) [
  | inl saved ↦ both (_, saved.recovers)
  | inr all ↦ both (_, all.recovers)
]
  where
    both : IsLawful live_layout (sizes o) (image_of memory choice) → IsLawful live_layout (sizes o) (image_of memory choice) × (image_fault live_layout (sizes o) (image_of memory choice) ≡ None)
    both lawful = (lawful, image_complete_law live_layout (sizes o) (image_of memory choice) layouts.in_use lawful)

not_at_most : (a b : ℕ) → b < a → nat_le a b ≡ false
not_at_most a b h = grind (arith, nat_tests)

-- a tag that is ahead, as the first
pub tag_ahead : (epoch room : ℕ) (lines : List (List ℕ)) (line k : ℕ) → first_below (tag_fault epoch room lines) line ≡ None → epoch < tag_of (slice_index_or lines line []) → line < k
    → first_below (tag_fault epoch room lines) k ≡ Some (TagAhead room line)
tag_ahead epoch room lines line k before ahead lt =
    first_stays (tag_fault epoch room lines) line k (TagAhead room line) before (ap (λ (b : Bool). if b then None else Some (TagAhead room line)) (not_at_most (tag_of (slice_index_or lines line [])) epoch ahead)) lt

-- and one that is not
pub tag_fine : (epoch room : ℕ) (lines : List (List ℕ)) (line : ℕ) → first_below (tag_fault epoch room lines) line ≡ None → tag_of (slice_index_or lines line []) ≤ epoch → first_below (tag_fault epoch room lines) (line + 1) ≡ None
tag_fine epoch room lines line before fine =
    ap (first_below (tag_fault epoch room lines)) (add-one line)
    ∙ one_more_none (tag_fault epoch room lines) line before (ap (λ (b : Bool). if b then None else Some (TagAhead room line)) (at_most_back (tag_of (slice_index_or lines line [])) epoch fine))

-- all lines are looked at
pub all_looked_at : (fault : ℕ → Option ImageFault) (n k : ℕ) → first_below fault n ≡ None → n ≡ k → None ≡ first_below fault k
all_looked_at fault n k none same = sym (ap (first_below fault) (sym same) ∙ none)
