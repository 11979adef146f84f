use Rattle.std.proofs.Common.{◌∷◌, get_or, take}
use Rattle.std.specs.String.{string_bytes}
use Rattle.std.specs.Fmt.{decimal}
use Rattle.script_text.specs.Program.{listed}
use Rattle.script_text.specs.Text.{spaced, turns_words}
use Rattle.script_text.proofs.PrintLaws.{grown, turns_pushed}
use Rattle.script_text.proofs.printing.push_turn_list.Goals as goal

pub loop-thread-preserved : goal.loop-thread-preserved
loop-thread-preserved c =
    grown (string_bytes c.write-in-loop-thread.new.self) (string_bytes c.loop-thread.out) (string_bytes c.args.out.now) (spaced (turns_words (listed (take c.loop-thread.thread-index c.args.threads.now))))
    (32 ∷ decimal (get_or c.args.threads.now c.loop-thread.thread-index 0)) _ c.in_ok-write-2.ensures.bytes c.loop-thread.invariant (turns_pushed c.args.threads.now c.loop-thread.thread-index c.loop-thread-test.true)
