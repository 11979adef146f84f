-- Runs of a replay of which each state is one.
use Rattle.std.specs.Prelude.{◌≡◌, ℕ, List, [], ◌∷◌}
use Rattle.replay_model.specs.Replays.{ReplayState, is_over_in, RunsBy}
use Rattle.replay_model.specs.Kept.{IsReplay}

-- a run, each turn of which leads to a replay
abbrev pub RunsKept : List ℕ → ReplayState → ReplayState → Type 0
RunsKept [] s t = t ≡ s
RunsKept (i ∷ is) s t = RunsBy (is_over_in s) i (λ (m u : ReplayState). IsReplay m × RunsKept is m u) s t
