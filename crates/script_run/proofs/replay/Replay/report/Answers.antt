use Rattle.std.proofs.Common.{◌≡◌, ◌≤◌, length, sym, ap, subst}
use Rattle.std.specs.Prelude.{vec_capacity}
use Rattle.plain_yard.specs.Shown.{ShownYard, NoneHolds}
use Rattle.replay_model.specs.Replays.{ReplayState}
use Rattle.script_run.proofs.Reporting.{has_room, IsReadOff, is_report}
use Rattle.script_run.proofs.replay.Replay.report.Goals as goal

pub drawn-entries-requires-clause-room : goal.drawn-entries-requires-clause-room
drawn-entries-requires-clause-room c =
    subst (λ (y : ShownYard). length y.told.history ≤ vec_capacity c.args.space.entries) (ap (λ (s : ReplayState). s.yard) (sym c.self.view_is))
    (has_room c.args.self.yard c.args.space c.requires.replay.lawful c.requires.space)

pub take_apart-memory-requires-clause-home : goal.take_apart-memory-requires-clause-home
take_apart-memory-requires-clause-home c = subst (λ (y : ShownYard). NoneHolds y) (ap (λ (s : ReplayState). s.yard) (sym c.self.view_is)) c.requires.none

pub returns-clause-report : goal.returns-clause-report
returns-clause-report c =
    let here : IsReadOff c.self.inside.yard c.drawn-entries.result.items c.take_apart-memory.result.held.items c.take_apart-memory.result.waits c.take_apart-memory.result.memory = record {
      entries = c.drawn-entries.ensures;
      memory_of = c.take_apart-memory.ensures.memory;
      held = c.take_apart-memory.ensures.held;
      waits = c.take_apart-memory.ensures.waits;
    } in
    let yard : c.self.inside.yard ≡ c.args.self.yard = ap (λ (s : ReplayState). s.yard) c.self.view_is in
    is_report c.args.self.yard _ c.args.dry c.is_over-over.result c.take_apart-memory.result.waits c.take_apart-memory.result.memory c.requires.replay.lawful
    (record { resumed = c.requires.began.resumed; began = c.requires.began.epoch; marks = c.requires.marks; over = c.is_over-over.ensures; outcome = c.outcome.ensures })
    (subst (λ (y : ShownYard). IsReadOff y c.drawn-entries.result.items c.take_apart-memory.result.held.items c.take_apart-memory.result.waits c.take_apart-memory.result.memory) yard here)
