use Rattle.std.proofs.Common.{◌≡◌, ◌⊎◌, [], inr}
use Rattle.life_model.specs.declared.life.Outcome.{Outcome}
use Rattle.script_text.specs.Program.{program_of}
use Rattle.script_text.specs.ReportText.{report_of}
use Rattle.drill.specs.Lives.{IsLivedOver}
use Rattle.drill.proofs.NextLives.{life_lived}
use Rattle.drill.proofs.LifeCalls.{of_outcome, at_refusal}
use Rattle.drill.proofs.lives.live.Goals as goal

-- the life that the report tells
lived : (c : goal.After-drop-report-3) → IsLivedOver c.args.n c.args.life c.args.memory.now c.in_ok-report.report.outcome c.replay_job.new.memory
lived c =
    life_lived c.args.n c.args.life c.args.kind (program_of c.args.script.now) c.args.memory.now (report_of c.in_ok-report.report) c.replay_job.new.memory
    c.requires.kind c.requires.program c.requires.ready (record { told = (c.in_ok-report.ensures).told; run = (c.in_ok-report.ensures).run; ends = (c.in_ok-report.ensures).ends; closes = (c.in_ok-report.ensures).closes })

pub returns-clause-lived : goal.returns-clause-lived
returns-clause-lived c =
    of_outcome (λ (outcome : Outcome). IsLivedOver c.args.n c.args.life c.args.memory.now outcome c.replay_job.new.memory) c.in_ok-report.report.outcome c.unless_starved.result (lived c) c.unless_starved.ensures

pub returns-clause-refused : goal.returns-clause-refused
returns-clause-refused c =
    at_refusal ((c.replay_job.new.memory ≡ []) ⊎ ((outcome : Outcome) × IsLivedOver c.args.n c.args.life c.args.memory.now outcome c.replay_job.new.memory)) c.unless_starved.result
    (inr (c.in_ok-report.report.outcome, lived c))
