-- A resume may go on from the memory of an image that was checked.
use Rattle.std.proofs.Common.{◌≡◌, ℕ, ◌<◌, ◌≤◌, List, [], length, sym, ap, ◌∙◌, subst, arith}
use Rattle.std.specs.Prelude.{slice_index}
use Rattle.std.proofs.Math.ListN.{get_or-map}
use Rattle.seq_object.specs.declared.history.RestartPoint.{RestartPoint}
use Rattle.seq_object.specs.declared.settings.Settings.{Settings}
use Rattle.seq_object.specs.declared.sizes.Sizes.{Sizes}
use Rattle.seq_object.specs.Sizes.{sizes_of}
use Rattle.seq_object.specs.History.{Scripts, total, first_point}
use Rattle.seq_object.proofs.Totals.{total_none, total-same}
use Rattle.line_memory.specs.Line.{BankState, IsQuiet, bank_at, quiet_bank, all_write_backs}
use Rattle.room_model.specs.Image.{ImageRooms, image_of, nothing_kept, epoch_at, Recovers, IsLawful}
use Rattle.room_model.specs.MapRoom.{live_layout}
use Rattle.life_model.specs.Life.{Opening, script_of, opening_place}
use Rattle.yard_laws.proofs.WriteBacks.{memory_counts}
use Rattle.power_cut.specs.Cut.{quiet_memory}
use Rattle.power_cut.proofs.Quiet.{image_of-quiet, quiet_memory-quiet}
use Rattle.image_check.specs.declared.recovered.Recovered.{Recovered}
use Rattle.image_check.specs.Recovered.{IsRecovered}
use Rattle.script_run.specs.Jobs.{MayResume}

-- such a memory has counted no write-back
none_counted : (rooms : ImageRooms) → all_write_backs (quiet_memory rooms) ≡ 0
none_counted rooms =
    let memory = quiet_memory rooms in
    let counted = memory_counts memory in
    let none : total (λ k. (bank_at memory k).write_backs) (length memory) ≡ 0 =
    total-same (λ k. 0) (λ k. (bank_at memory k).write_backs) (length memory) (λ k lt. ap (λ (b : BankState). b.write_backs) (get_or-map quiet_bank rooms k [])) ∙ total_none (length memory) in
    omega (arith, counted, none)

module _ (settings : Settings) (scripts : Scripts) (rooms : ImageRooms) (found : Recovered) (checked : IsRecovered live_layout (sizes_of settings) rooms found) where
  -- each thread's place is the one that was found
  place_found : (o : Opening) → Recovers live_layout (sizes_of settings) rooms o.state → (i : ℕ) → i < settings.threads → opening_place o i ≡ slice_index found.positions.items i
  place_found o from i lt =
      ap (λ (p : RestartPoint). p.position) (from.points i lt ∙ sym (checked.lawful.points i lt))
      ∙ sym (ap (λ (ps : List ℕ). slice_index ps i) checked.positions ∙ get_or-map (λ (p : RestartPoint). p.position) checked.state.points i first_point)

  may_resume : (memory : List BankState) → memory ≡ quiet_memory rooms → found.epoch < 4278190080 → ((i : ℕ) → i < settings.threads → slice_index found.positions.items i ≤ length (script_of scripts i))
      → MayResume settings scripts memory
  may_resume memory is early within =
      let image : image_of memory nothing_kept ≡ rooms = ap (λ (m : List BankState). image_of m nothing_kept) is ∙ image_of-quiet rooms nothing_kept in
      record {
        quiet = subst IsQuiet (sym is) (quiet_memory-quiet rooms);
        none = ap all_write_backs is ∙ none_counted rooms;
        lawful = subst (λ (left : ImageRooms). IsLawful live_layout (sizes_of settings) left) (sym image) (checked.state, checked.lawful);
        early = subst (λ (e : ℕ). e < 4278190080) (checked.epoch ∙ ap (epoch_at (sizes_of settings)) (sym image)) early;
        places = λ o over i lt.
            let at = place_found o (subst (λ (left : ImageRooms). Recovers live_layout (sizes_of settings) left o.state) image over.from.state) i lt in
            let low = within i lt in
            omega (arith, at, low);
      }

-- an image of these sizes that was checked, whose epoch leaves room for the checkpoints and whose positions are not past the scripts' ends
pub checked_may_resume : (settings : Settings) (scripts : Scripts) (z : Sizes) (rooms : ImageRooms) (found : Recovered) (memory : List BankState) → IsRecovered live_layout z rooms found → z ≡ sizes_of settings
    → memory ≡ quiet_memory rooms → found.epoch < 4278190080 → ((i : ℕ) → i < settings.threads → slice_index found.positions.items i ≤ length (script_of scripts i)) → MayResume settings scripts memory
checked_may_resume settings scripts z rooms found memory checked same is early within =
    may_resume settings scripts rooms found (subst (λ (y : Sizes). IsRecovered live_layout y rooms found) same checked) memory is early within
