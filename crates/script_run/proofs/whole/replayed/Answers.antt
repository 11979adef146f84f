use Rattle.std.proofs.Common.{◌≡◌, [], IfOk, Result, Ok, Err, sym, subst}
use Rattle.std.specs.declared.alloc.AllocError.{AllocError}
use Rattle.seq_object.specs.declared.settings.Settings.{Settings}
use Rattle.seq_object.specs.History.{Scripts}
use Rattle.room_model.specs.Image.{ImageRooms, image_of, nothing_kept}
use Rattle.life_model.specs.declared.life.Life.{Life}
use Rattle.life_model.specs.Life.{Opening, start_of}
use Rattle.life_model.specs.Told.{TellsOf}
use Rattle.script_text.specs.Program.{program_of}
use Rattle.script_text.specs.ReportText.{report_of}
use Rattle.script_run.specs.declared.ending.Ended.{Ended}
use Rattle.script_run.specs.Jobs.{OpensOver}
use Rattle.script_run.proofs.StartsTold.{told_of_start}
use Rattle.script_run.proofs.whole.replayed.Goals as goal

-- what is told of a start is told of each life that opens as it does
told_over : (settings : Settings) (scripts : Scripts) (image : ImageRooms) (r : Result Ended AllocError) → IfOk r (λ ended. TellsOf (start_of settings scripts) [] 0 (report_of ended.report) ended.memory)
    → IfOk r (λ ended. (o : Opening) → o ≡ start_of settings scripts → TellsOf o image 0 (report_of ended.report) ended.memory)
told_over settings scripts image (Ok ended) told =
    λ o is. subst (λ (a : Opening). TellsOf a image 0 (report_of ended.report) ended.memory) (sym is) (told_of_start settings scripts [] image 0 (report_of ended.report) ended.memory told)
told_over settings scripts image (Err error) told = tt

pub returns-in-Start-clause-told : goal.returns-in-Start-clause-told
returns-in-Start-clause-told c =
    let s = c.args.script.now in
    subst (λ (life : Life). IfOk c.started.result (λ ended. (o : Opening) → OpensOver life s.settings (program_of s).threads c.args.memory o → TellsOf o (image_of c.args.memory nothing_kept) 0 (report_of ended.report) ended.memory)) (sym c.in-Start.is)
    (told_over s.settings (program_of s).threads (image_of c.args.memory nothing_kept) c.started.result c.started.ensures.told)
