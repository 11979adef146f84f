-- The stages of the write of the next epoch.
use Rattle.std.proofs.Common.{◌≡◌, ℕ, ◌+◌, ◌<◌, List, [], ◌∷◌, ◌++◌, length, get_or, arith, ap, sym, ◌∙◌, inl, inr, ◌⊎◌, get_or-set_same}
use Rattle.std.proofs.lemmas.List.{get_or-map}
use Rattle.line_memory.specs.declared.store.Store.{Store}
use Rattle.line_memory.specs.Line.{BankState, LineState, latest, loaded, stored, written_back, store_to, fenced, no_line, bank_stored, bank_written_back, bank_fenced}
use Rattle.room_model.specs.EpochLine.{epoch_line, loaded_epoch, memory_epoch, surviving_epoch}
use Rattle.epoch_word.specs.declared.stage.EpochStage.TheVariants.{Before, Stored, AskedFor, InMemory}
use Rattle.epoch_word.specs.SuperLine.{IsSuperRoom, IsInMemory}
use Rattle.epoch_word.specs.Stages.{StoreLaw, WriteBackLaw, FenceLaw, SurvivingLaw}
use Rattle.epoch_word.proofs.Epochs.{none_left, survivor_law, fenced_line}

-- a super room has a line
has_line : (bank : BankState) → IsSuperRoom bank → 0 < length bank.lines
has_line bank room = let one = room.one in omega (arith, one)

-- on a line with nothing pending a store is what loads give
stored_loaded : (l : LineState) (value : ℕ) → l.pending ≡ [] → loaded (stored l 0 value) 0 ≡ value
stored_loaded l value none = ap (λ (ss : List Store). latest (get_or l.base 0 0) 0 (ss ++ store_to 0 value ∷ [])) none

pub store_law : StoreLaw
store_law bank epoch room before =
    let l : LineState = epoch_line bank in
    let next : ℕ = loaded_epoch bank + 1 in
    let line : epoch_line (bank_stored bank 0 0 next) ≡ stored l 0 next = get_or-set_same bank.lines 0 (stored l 0 next) no_line (has_line bank room) in (
      ap (λ (k : LineState). get_or k.base 0 0) line ∙ before.0.held ∙ before.1,
      ap (λ (k : LineState). loaded k 0) line ∙ stored_loaded l next before.0.quiet ∙ ap (λ (k : ℕ). k + 1) before.1,
    )

pub write_back_law : WriteBackLaw
write_back_law bank epoch room was =
    let line : epoch_line (bank_written_back bank 0) ≡ written_back (epoch_line bank) = get_or-set_same bank.lines 0 (written_back (epoch_line bank)) no_line (has_line bank room) in (
      ap (λ (k : LineState). get_or k.base 0 0) line ∙ was.0,
      ap (λ (k : LineState). loaded k 0) line ∙ was.1,
      ap (λ (k : LineState). k.asked) line ∙ sym (ap (λ (k : LineState). length k.pending) line),
    )

pub fenced_law : FenceLaw
fenced_law bank epoch room was =
    let within = has_line bank room in
    let l : LineState = epoch_line bank in
    let line : epoch_line (bank_fenced bank) ≡ fenced l = get_or-map fenced bank.lines 0 no_line no_line within in
    let made = fenced_line l (room.lines 0 within) room.line in
    let held = made.held was.2 in (
      record {
        held = ap (λ (k : LineState). get_or k.base 0 0) line ∙ held.0 ∙ sym (ap (λ (k : LineState). loaded k 0) line);
        quiet = ap (λ (k : LineState). k.pending) line ∙ held.1;
      },
      ap (λ (k : LineState). loaded k 0) line ∙ made.load ∙ was.1,
    )

-- with nothing pending a cut leaves the epoch by load
quiet_survives : (bank : BankState) (kept : ℕ) → IsInMemory bank → surviving_epoch bank kept ≡ loaded_epoch bank
quiet_survives bank kept is = ap (λ (ws : List ℕ). get_or ws 0 0) (none_left (epoch_line bank) kept is.quiet) ∙ is.held

-- while the next epoch's store is pending a cut leaves one of the two
pending_survives : (bank : BankState) (epoch kept : ℕ) → IsSuperRoom bank → memory_epoch bank ≡ epoch → loaded_epoch bank ≡ epoch + 1 → (surviving_epoch bank kept ≡ epoch) ⊎ (surviving_epoch bank kept ≡ epoch + 1)
pending_survives bank epoch kept room memory load = elim (survivor_law bank kept room) [
  | inl was ↦ inl (was ∙ memory)
  | inr next ↦ inr (next ∙ load)
]

pub surviving_law : SurvivingLaw
surviving_law Before bank epoch kept room at = quiet_survives bank kept at.0 ∙ at.1
surviving_law Stored bank epoch kept room at = pending_survives bank epoch kept room at.0 at.1
surviving_law AskedFor bank epoch kept room at = pending_survives bank epoch kept room at.0 at.1
surviving_law InMemory bank epoch kept room at = quiet_survives bank kept at.0 ∙ at.1
