use Rattle.std.proofs.Common.{◌≡◌, List, map, inr, subst}
use Rattle.std.specs.Global.{Vec}
use Rattle.seq_object.specs.declared.command.Command.{Command}
use Rattle.room_yard.specs.World.{WorldState}
use Rattle.plain_yard.specs.Shown.{ShownYard}
use Rattle.script_text.specs.declared.script.Script.{Script}
use Rattle.script_text.specs.Program.{program_of}
use Rattle.script_text.specs.ReportText.{report_of}
use Rattle.script_run.proofs.RunsIn.{IsYardOf, first_replay, first_none_done, told_so, is_run_in}
use Rattle.script_run.proofs.resuming.run_in.Goals as goal

-- the yard of the sections as a slice is the script's
yard_of : (s : Script) (sections : List (Vec Command)) → sections ≡ s.threads.items → (world : WorldState) (yard : ShownYard) → IsYardOf s.settings (map (λ (x : Vec Command). x.items) sections) world yard
    → IsYardOf s.settings (program_of s).threads world yard
yard_of s sections are world yard made = subst (λ (xs : List (Vec Command)). IsYardOf s.settings (map (λ (x : Vec Command). x.items) xs) world yard) are made

pub run-requires-clause-replay : goal.run-requires-clause-replay
run-requires-clause-replay c =
    first_replay c.args.script.now.settings (program_of c.args.script.now).threads c.args.world c.args.workers.items c.args.marks.items c.args.began c.requires.opened.0 c.requires.opened.1 c.in-Ok.yard (yard_of c.args.script.now c.as_slice.result.now c.as_slice.ensures.value c.args.world c.in-Ok.yard (record { beginning = c.in-Ok.ensures.beginning; opens = c.in-Ok.ensures.opens; told = c.in-Ok.ensures.told }))

pub run-requires-clause-none_done : goal.run-requires-clause-none_done
run-requires-clause-none_done c =
    first_none_done c.args.script.now.settings (program_of c.args.script.now).threads c.args.world c.args.workers.items c.args.marks.items c.args.began c.requires.opened.0 c.requires.opened.1 c.in-Ok.yard (yard_of c.args.script.now c.as_slice.result.now c.as_slice.ensures.value c.args.world c.in-Ok.yard (record { beginning = c.in-Ok.ensures.beginning; opens = c.in-Ok.ensures.opens; told = c.in-Ok.ensures.told }))

pub end-requires-clause-began : goal.end-requires-clause-began
end-requires-clause-began c =
    told_so c.args.script.now.settings (program_of c.args.script.now).threads c.args.world c.args.workers.items c.args.marks.items c.args.began c.requires.opened.0 c.requires.opened.1 c.in-Ok.yard (yard_of c.args.script.now c.as_slice.result.now c.as_slice.ensures.value c.args.world c.in-Ok.yard (record { beginning = c.in-Ok.ensures.beginning; opens = c.in-Ok.ensures.opens; told = c.in-Ok.ensures.told }))
    c.run.result.replay c.run.ensures.beginning

pub returns-in-Ok : goal.returns-in-Ok
returns-in-Ok c =
    inr (is_run_in c.args.script.now.settings (program_of c.args.script.now).threads c.args.world c.args.workers.items c.args.marks.items c.args.began c.requires.opened.0 c.requires.opened.1 c.in-Ok.yard (yard_of c.args.script.now c.as_slice.result.now c.as_slice.ensures.value c.args.world c.in-Ok.yard (record { beginning = c.in-Ok.ensures.beginning; opens = c.in-Ok.ensures.opens; told = c.in-Ok.ensures.told }))
    c.run.result.replay c.run.ensures.beginning c.run.ensures.replay c.run.result.dry c.run.ensures.number (report_of c.end.result.report) c.end.result.memory c.end.ensures.ends c.end.ensures.flushed _ c.run.ensures.runs)
