-- The place in its script from which a thread goes on is read off its line.
use Rattle.std.proofs.Common.{◌≡◌, ℕ, ◌<◌, ◌==◌, Bool, List, length, if◌then◌else◌, refl, sym, ap, ◌∙◌, subst, arith}
use Rattle.std.specs.Prelude.{slice_index}
use Rattle.seq_object.specs.declared.history.RestartPoint.{RestartPoint}
use Rattle.seq_object.specs.declared.settings.Settings.{Settings}
use Rattle.seq_object.specs.Sizes.{sizes_of, thread_room, room_count}
use Rattle.line_memory.specs.Line.{BankState, IsQuiet, bank_at, line_of}
use Rattle.room_model.specs.Cell.{tag_of, backup_of, record_of}
use Rattle.room_model.specs.Image.{image_of, nothing_kept, IsLawful}
use Rattle.room_model.specs.MapRoom.{live_layout}
use Rattle.rooms.proofs.Others.{one_line}
use Rattle.life_model.specs.Life.{Opening, sizes, opening_place}
use Rattle.life_model.specs.Lives.{ResumesFrom}
use Rattle.recovery.proofs.Taken.{bank_of_image, life_of, resumes}

-- its room has a line
pub place_line : (settings : Settings) (memory : List BankState) (lawful : IsLawful live_layout (sizes_of settings) (image_of memory nothing_kept)) → IsQuiet memory → (thread : ℕ) → thread < settings.threads
    → 0 < length (bank_at memory (thread_room (sizes_of settings) thread)).lines
place_line settings memory lawful quiet thread lt =
    let k = thread_room (sizes_of settings) thread in
    let lines = (bank_of_image (life_of settings memory lawful) memory quiet (resumes settings memory lawful) k (omega (arith, lt))).lines in
    let one = one_line (sizes_of settings) k (omega arith) in
    omega (arith, lines, one)

module _ (o : Opening) (settings : Settings) (is : o.settings ≡ settings) (memory : List BankState) (quiet : IsQuiet memory) (from : ResumesFrom (sizes o) (image_of memory nothing_kept) o) (thread : ℕ) (lt : thread < settings.threads) where
  here : thread < o.settings.threads
  here = subst (λ (s : Settings). thread < s.threads) (sym is) lt

  pub place_read : (epoch : ℕ) (words : List ℕ) (tagged : Bool) → epoch ≡ o.epoch → words ≡ (line_of memory (thread_room (sizes_of settings) thread) 0).base → (tag_of words == epoch) ≡ tagged
      → opening_place o thread ≡ slice_index (if tagged then backup_of words else record_of words) 0
  place_read epoch words tagged at base test =
      let k = thread_room (sizes o) thread in
      let inside = here in
      let room : k < room_count (sizes o) = omega (arith, inside) in
      let held : words ≡ (line_of memory k 0).base = base ∙ ap (λ (s : Settings). (line_of memory (thread_room (sizes_of s) thread) 0).base) (sym is) in
      ap (λ (p : RestartPoint). p.position) ((bank_of_image o memory quiet from k room).point thread inside refl)
      ∙ (λ j. slice_index (if tag_of (sym held j) == sym at j then backup_of (sym held j) else record_of (sym held j)) 0)
      ∙ ap (λ (b : Bool). slice_index (if b then backup_of words else record_of words) 0) test
