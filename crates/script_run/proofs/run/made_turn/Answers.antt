use Rattle.std.proofs.Common.{◌++◌, Option, ap, ◌∙◌}
use Rattle.std.specs.Prelude.{option_to_list, slice_get}
use Rattle.life_model.specs.declared.life.Mark.{Mark}
use Rattle.script_run.specs.Steps.{marks_by}
use Rattle.script_run.proofs.Counting.{turn_or_dries, stays_replay, marks_kept}
use Rattle.script_run.proofs.run.made_turn.Goals as goal

pub returns-clause-turn : goal.returns-clause-turn
returns-clause-turn c = turn_or_dries c.args.thread c.args.replay c.turn-replay.result.replay c.turn-replay.result.answer c.is_err.result c.is_err.ensures.value c.turn-replay.ensures.turn

pub returns-clause-stays : goal.returns-clause-stays
returns-clause-stays c = stays_replay c.args.replay c.requires.replay c.args.thread c.turn-replay.result.answer c.turn-replay.result.replay c.turn-replay.ensures.turn c.turn-replay.ensures.replay

pub returns-clause-marks : goal.returns-clause-marks
returns-clause-marks c =
    let s = c.args.replay in
    let t = c.turn-replay.result.replay in
    c.with_mark.ensures
    ∙ (ap (λ (o : Option Mark). c.args.marks.items ++ option_to_list o) (c.mark-mark.ensures ∙ ap (slice_get (marks_by t c.args.thread)) c.released-released.ensures)
    ∙ marks_kept s c.requires.replay c.args.thread c.turn-replay.result.answer t c.turn-replay.ensures.turn c.args.marks.items c.requires.marks)
