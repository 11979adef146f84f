-- A run of a replay in the progress that it shows, and where it ends.
use Rattle.std.proofs.Common.{◌≡◌, ℕ, ◌+◌, ◌*◌, ◌≤◌, List, [], ◌∷◌, length, Some, refl, sym, ap, ◌∙◌, subst, inl, inr, arith}
use Rattle.std.specs.Prelude.{slice_get}
use Rattle.std.specs.List.{All}
use Rattle.std.proofs.lemmas.Bool.{cases_Bool}
use Rattle.std.proofs.lemmas.Option.{slice_get_within, get_or_from_slice_get}
use Rattle.seq_object.specs.declared.command.Command.{Command}
use Rattle.seq_object.specs.Object.{IsTakeless}
use Rattle.seq_object.specs.declared.sizes.Sizes.{Sizes}
use Rattle.life_model.specs.Life.{script_of, place_after}
use Rattle.life_model.specs.Work.{HasNoTake}
use Rattle.yard_model.specs.declared.view.Beginning.{Beginning}
use Rattle.yard_model.specs.declared.view.Checkpoint.{Checkpoint}
use Rattle.yard_model.specs.Beginnings.{opening_of, sizes_at, is_over}
use Rattle.yard_model.specs.WriteBacks.{rise_of}
use Rattle.yard_laws.proofs.Legal.{closings_same, closes_once_per_entry}
use Rattle.replay_model.specs.Replays.{ReplayState, is_over_in}
use Rattle.replay_model.specs.Kept.{IsReplay}
use Rattle.rounds.specs.Progress.{Progress}
use Rattle.rounds.specs.Events.{MakesTurn, Progresses}
use Rattle.rounds.specs.Sound.{IsSound, NoneTakes}
use Rattle.rounds.proofs.Enough.{takeless_ends, takes_ends, closings}
use Rattle.yard_progress.specs.Shown.{all_commands}
use Rattle.yard_progress.proofs.Shown.{sound}
use Rattle.replay_progress.specs.Shown.{activities_of, ends_of, shown_by, GoesOnRight}
use Rattle.replay_progress.specs.Runs.{RunsKept}
use Rattle.replay_progress.specs.Laws.{RunIsShownLaw, TakelessReplayEndsLaw, ReplayEndsLaw, ReplayClosesSeldomLaw}
use Rattle.replay_progress.proofs.Hands.{hands_shown}
use Rattle.replay_progress.proofs.Runs.{over_kept, on_kept}
use Rattle.replay_progress.proofs.Turn.{turn_is_shown}

-- whether a replay is over is what its arrival word shows
over_shown : (s : ReplayState) → IsReplay s → is_over_in s ≡ is_over s.yard.beginning s.yard.told.checkpoints
over_shown s replay = replay.lawful.arrival.word.over

-- THE RUN, of a life that begins so; each state that goes on right shows a progress that meets this.
module _ (b : Beginning) (meets : Progress → Type 0)
    (each : (m : ReplayState) → m.yard.beginning ≡ b → IsReplay m → (right : GoesOnRight m) → meets (shown_by m (rise_of b right.counts))) where
  -- it leads to a replay that goes on right, and its progress runs so
  abbrev Comes : (s : ReplayState) → GoesOnRight s → List ℕ → ReplayState → Type 0
  Comes s right turns t = IsReplay t × (t.yard.beginning ≡ b) × ((right' : GoesOnRight t)
      × Progresses (sizes_at b) b.settings.every meets (shown_by s (rise_of b right.counts)) turns (shown_by t (rise_of b right'.counts)))

  run : (turns : List ℕ) (s t : ReplayState) → s.yard.beginning ≡ b → IsReplay s → (right : GoesOnRight s) → RunsKept turns s t → Comes s right turns t
  run [] s t same replay right kept = subst (λ (u : ReplayState). Comes s right [] u) (sym kept) (replay, same, (right, refl))
  run (i ∷ is) s t same replay right kept = elim (cases_Bool (is_over_in s)) [
    | inl over ↦ subst (λ (u : ReplayState). Comes s right (i ∷ is) u) (sym (over_kept i is s t over kept))
        (replay, same, (right, inl (sym (over_shown s replay) ∙ over, refl)))
    | inr on ↦
        let first = on_kept i is s t on kept in
        let shown = turn_is_shown i s first.1 first.0 replay right on first.2 first.3.0 in
        let begun : first.1.yard.beginning ≡ b = first.2.beginning ∙ same in
        let makes : MakesTurn (sizes_at b) b.settings.every i (shown_by s (rise_of b right.counts)) (shown_by first.1 (rise_of b shown.0.counts)) =
        subst (λ (c : Beginning). MakesTurn (sizes_at c) c.settings.every i (shown_by s (rise_of c right.counts)) (shown_by first.1 (rise_of c shown.0.counts))) same shown.1 in
        let rest = run is first.1 t begun first.3.0 shown.0 first.3.1 in (
          rest.0,
          rest.1,
          (
            rest.2.0,
            inr (
              sym (over_shown s replay) ∙ on,
              (shown_by first.1 (rise_of b shown.0.counts), makes, each first.1 begun first.3.0 shown.0, rest.2.1),
            ),
          ),
        )
  ]

-- EACH STATE shows a sound progress.
state_sound : (b : Beginning) (m : ReplayState) → m.yard.beginning ≡ b → IsReplay m → (right : GoesOnRight m)
    → IsSound (sizes_at b) b.settings.every (all_commands b) (shown_by m (rise_of b right.counts))
state_sound b m same replay right =
    subst (λ (c : Beginning). IsSound (sizes_at c) c.settings.every (all_commands c) (shown_by m (rise_of c right.counts))) same
    (sound m.yard.beginning m.yard.told.world m.yard.told.history m.yard.told.checkpoints (activities_of m) (ends_of m) (rise_of m.yard.beginning right.counts)
    replay.lawful (hands_shown m replay right))

-- a command of a script without a take is none
takeless_at : (script : List Command) (k : ℕ) (command : Command) → All IsTakeless script → slice_get script k ≡ Some command → IsTakeless command
takeless_at script k command all at = subst IsTakeless (get_or_from_slice_get script k command command at) (all k command (slice_get_within script k command at))

-- without a take no next command is one
state_takeless : (b : Beginning) (m : ReplayState) (z : Sizes) (n : ℕ) → m.yard.beginning ≡ b → HasNoTake (opening_of b) → NoneTakes z (shown_by m n)
state_takeless b m z n same takeless i lt command next =
    takeless_at (script_of m.yard.beginning.scripts i) (place_after (opening_of m.yard.beginning) m.yard.told.history i) command
    (subst (λ (c : Beginning). HasNoTake (opening_of c)) (sym same) takeless i) next

pub run_is_shown : RunIsShownLaw
run_is_shown s t turns replay right kept =
    run s.yard.beginning
    (λ (u : Progress). IsSound (sizes_at s.yard.beginning) s.yard.beginning.settings.every (all_commands s.yard.beginning) u
    × (HasNoTake (opening_of s.yard.beginning) → NoneTakes (sizes_at s.yard.beginning) u))
    (λ m same replay' right'. (
      state_sound s.yard.beginning m same replay' right',
      λ takeless. state_takeless s.yard.beginning m (sizes_at s.yard.beginning) (rise_of s.yard.beginning right'.counts) same takeless,
    ))
    turns s t refl replay right kept

-- WHOLE SCHEDULES.
module _ (s t : ReplayState) (turns : List ℕ) (replay : IsReplay s) (right : GoesOnRight s) (opens : s.yard.told.checkpoints ≡ []) (kept : RunsKept turns s t) where
  abbrev b : Beginning
  b = s.yard.beginning

  none_closed : length s.yard.told.checkpoints ≡ 0
  none_closed = ap (λ (cs : List Checkpoint). length cs) opens

  -- with a take
  comes : Comes b (IsSound (sizes_at b) b.settings.every (all_commands b)) (state_sound b) s right turns t
  comes = run b (IsSound (sizes_at b) b.settings.every (all_commands b)) (state_sound b) turns s t refl replay right kept

  -- without one
  module _ (takeless : HasNoTake (opening_of b)) where
    abbrev Meets : Progress → Type 0
    Meets u = IsSound (sizes_at b) b.settings.every (all_commands b) u × NoneTakes (sizes_at b) u

    state_meets : (m : ReplayState) → m.yard.beginning ≡ b → IsReplay m → (right' : GoesOnRight m) → Meets (shown_by m (rise_of b right'.counts))
    state_meets m same replay' right' = (state_sound b m same replay' right', state_takeless b m (sizes_at b) (rise_of b right'.counts) same takeless)

    comes_takeless : Comes b Meets state_meets s right turns t
    comes_takeless = run b Meets state_meets turns s t refl replay right kept

pub takeless_replay_ends : TakelessReplayEndsLaw
takeless_replay_ends s t turns m replay right opens takeless kept offers =
    let b = s.yard.beginning in
    let settings = replay.lawful.bounds.beginning.settings in
    let to = comes_takeless s t turns replay right opens kept takeless in
    over_shown t to.0 ∙ takeless_ends (sizes_at b) b.settings.every (all_commands b) m
    (shown_by s (rise_of b right.counts)) (shown_by t (rise_of b to.2.0.counts)) turns settings.sizes settings.some
    (state_sound b s refl replay right) (state_takeless b s (sizes_at b) (rise_of b right.counts) refl takeless) (none_closed s t turns replay right opens kept) to.2.1 offers

pub replay_ends : ReplayEndsLaw
replay_ends s t turns m replay right opens kept offers =
    let b = s.yard.beginning in
    let settings = replay.lawful.bounds.beginning.settings in
    let to = comes s t turns replay right opens kept in
    over_shown t to.0 ∙ takes_ends (sizes_at b) b.settings.every (all_commands b) m
    (shown_by s (rise_of b right.counts)) (shown_by t (rise_of b to.2.0.counts)) turns settings.sizes settings.some
    (state_sound b s refl replay right) (none_closed s t turns replay right opens kept) to.2.1 offers

pub replay_closes_seldom : ReplayClosesSeldomLaw
replay_closes_seldom s t turns replay right opens kept =
    let b = s.yard.beginning in
    let to = comes s t turns replay right opens kept in
    let few : length t.yard.told.checkpoints ≤ 2 * length t.yard.told.history + b.settings.threads =
    closings (sizes_at b) b.settings.every (all_commands b) (shown_by s (rise_of b right.counts)) (shown_by t (rise_of b to.2.0.counts)) turns
    replay.lawful.bounds.beginning.settings.some (state_sound b s refl replay right) (none_closed s t turns replay right opens kept) to.2.1 in
    let same : t.yard.beginning.settings.threads ≡ b.settings.threads = ap (λ (c : Beginning). c.settings.threads) to.1 in
    let count = closings_same t.yard.beginning t.yard.told.checkpoints in
    (omega (arith, few, same, count), closes_once_per_entry t.yard.beginning t.yard.told.world t.yard.told.history t.yard.told.checkpoints to.0.lawful)
