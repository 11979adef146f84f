-- A cut inside recovery.
use Rattle.std.specs.Prelude.{ℕ}
use Rattle.std.specs.Global.{Vec}
use Rattle.crash_explorer.specs.declared.answer.CutInside.{CutInside}

-- the cut behind this event of recovery, with these counts
abbrev pub cut_at : ℕ → Vec ℕ → Vec ℕ → CutInside
cut_at event kept pending = record { event = event; kept = kept; pending = pending }
