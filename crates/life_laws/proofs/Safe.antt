-- When a memory is safe at a power cut.
use Rattle.std.proofs.Common.{◌≡◌, ◌≢◌, ℕ, ◌+◌, ◌<◌, ◌≤◌, zero, suc, Bool, List, [], take, if◌then◌else◌, refl, sym, ap, ◌∙◌, subst, inl, inr, ⊎_elim, arith}
use Rattle.std.specs.Prelude.{slice_index}
use Rattle.std.proofs.lemmas.Bool.{ne_eqb, cases_lt}
use Rattle.std.proofs.lemmas.List.{get_or_past}
use Rattle.seq_object.specs.Sizes.{thread_room, super_room, line_count}
use Rattle.seq_object.specs.History.{State, after}
use Rattle.line_memory.specs.Line.{LineState, BankState, survivor, latest, loaded, no_line, bank_at, line_of, load_of}
use Rattle.room_model.specs.Image.{KeptCounts, image_of, epoch_at, StandsAt}
use Rattle.room_model.specs.MapRoom.{Layout, live_layout}
use Rattle.room_model.specs.Cell.{record_of, backup_of, tag_of, triple_of}
use Rattle.life_model.specs.Life.{sizes, covered}
use Rattle.life_model.specs.Crash.{LeavesCovered, epoch_after}
use Rattle.life_laws.specs.LifeLaws.{QuietSafeLaw, EpochSafeLaw, NextEpochSafeLaw}
use Rattle.life_laws.specs.ImageLaws.{NextEpochLaw}
use Rattle.life_laws.proofs.Survivors.{words_left, stands, quiet_left, quiet}
use Rattle.room_laws.proofs.Words.{words, point_words}
use Rattle.room_model.specs.Banks.{memory_words}
use Rattle.room_model.specs.EpochLine.{epoch_line}
use Rattle.seq_object.specs.declared.sizes.Sizes.{Sizes}

-- the epoch of an image is what the super room's line keeps
pub epoch_left : (z : Sizes) (memory : List BankState) (choice : KeptCounts)
    → epoch_at z (image_of memory choice) ≡ slice_index (survivor (epoch_line (bank_at memory (super_room z))) (choice (super_room z) 0)) 0
epoch_left z memory choice = ap (λ (words : List ℕ). slice_index words 0) (words_left memory choice (super_room z) 0)

-- a memory in which nothing is pending leaves one image
pub quiet_safe : QuietSafeLaw
quiet_safe o h marks memory q leaves choice = inl (subst (LeavesCovered o h marks) (sym (quiet memory q choice)) leaves)

-- each image has the epoch, and recovers to what was covered
pub epoch_safe : EpochSafeLaw
epoch_safe o h marks memory s has choice =
    let epoch = epoch_left (sizes o) memory choice ∙ has (choice (super_room (sizes o)) 0) in
    inl (record {
      epoch = epoch;
      recovers =
          stands live_layout (sizes o) (epoch_after o marks) memory (after (sizes o) o.state (take (covered marks) h)) s choice epoch;
    })

-- each image has the epoch and recovers to what was covered, or has the next and recovers to all
pub next_epoch_safe : NextEpochSafeLaw
next_epoch_safe o h marks memory s n has legal choice = elim (has.either (choice (super_room (sizes o)) 0)) [
  | inl is ↦
      let epoch = epoch_left (sizes o) memory choice ∙ is in
      inl (record {
        epoch = epoch;
        recovers =
            stands live_layout (sizes o) (epoch_after o marks) memory (after (sizes o) o.state (take (covered marks) h)) s choice epoch;
      })
  | inr is ↦
      let epoch = epoch_left (sizes o) memory choice ∙ is in
      inr (record {
        epoch = epoch;
        recovers =
            stands live_layout (sizes o) (epoch_after o marks + 1) memory (after (sizes o) o.state h) n choice epoch;
        stored = has.stored;
        marked =
            legal;
      })
]

-- a load of a line with nothing pending is its base word
quiet_load : (l : LineState) (word : ℕ) → l.pending ≡ [] → loaded l word ≡ slice_index l.base word
quiet_load l word q = ap (latest (slice_index l.base word) word) q

-- the record words of a cell are its words
pub first_three : (words : List ℕ) (w : ℕ) → w < 3 → slice_index (record_of words) w ≡ slice_index words w
first_three words zero lt = refl
first_three words (suc zero) lt = refl
first_three words (suc (suc zero)) lt = refl
first_three words (suc (suc (suc w))) lt = absurd (omega arith)

module _ (layout : Layout) (z : Sizes) (epoch : ℕ) (memory : List BankState) (old : State) (s : StandsAt layout z epoch memory old)
    (quiet : (room line : ℕ) → room < super_room z → (line_of memory room line).pending ≡ []) where
  -- no cell is tagged with the next epoch
  untagged : (room line : ℕ) → room < super_room z → tag_of (line_of memory room line).base ≢ epoch + 1
  untagged room line lt e = ⊎_elim
      (λ (inside : line < line_count z room). let low = (s.cells room line lt inside 0).tag in omega (arith, low, e))
      (λ (past : line_count z room ≤ line).
      let none : line_of memory room line ≡ no_line =
      get_or_past (bank_at memory room).lines line no_line (omega (arith, s.rooms.lines room (omega (arith, lt)), past)) in
      let zero_tag : tag_of (line_of memory room line).base ≡ 0 = ap (λ (l : LineState). tag_of l.base) none in
      omega (arith, zero_tag, e))
      (cases_lt line (line_count z room))

  -- at the next epoch each cell recovers to what its loads say
  by_loads : (room line w : ℕ) → room < super_room z → w < 3 → load_of memory room line w ≡ memory_words (epoch + 1) (bank_at memory room) line w
  by_loads room line w lt few =
      quiet_load (line_of memory room line) w (quiet room line lt) ∙ sym (first_three (line_of memory room line).base w few)
      ∙ sym (ap (λ (b : Bool). slice_index (if b then backup_of (line_of memory room line).base else record_of (line_of memory room line).base) w)
      (ne_eqb (tag_of (line_of memory room line).base) (epoch + 1) (untagged room line lt)))

-- nothing is pending, so each survivor is the base
pub next_epoch : NextEpochLaw
next_epoch layout z epoch memory old new is s fits quiet rooms threads points = record {
  valid = s.valid;
  some = omega arith;
  fits = fits;
  rooms = s.rooms;
  super_words = s.super_words;
  cells = λ room line lt inside n. record {
    eight = (s.cells room line lt inside n).eight;
    tag = let low = (s.cells room line lt inside n).tag in omega (arith, low);
    recovers = ap (triple_of (epoch + 1)) (quiet_left (line_of memory room line) n (quiet room line lt));
  };
  stands = λ room le. words layout z room (load_of memory room) (memory_words (epoch + 1) (bank_at memory room)) new.contents is (rooms room le)
      (λ line w few. sym (by_loads layout z epoch memory old s quiet room line w (omega arith) few));
  threads = threads;
  points = λ thread lt. points thread lt ∙ sym (point_words layout (load_of memory (thread_room z thread))
      (memory_words (epoch + 1) (bank_at memory (thread_room z thread)))
      (λ line w few. sym (by_loads layout z epoch memory old s quiet (thread_room z thread) line w (omega arith) few)));
}
