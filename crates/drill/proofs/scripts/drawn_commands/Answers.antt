use Rattle.drill.proofs.Drawing.{threads-more}
use Rattle.drill.proofs.scripts.drawn_commands.Goals as goal

pub loop-thread-preserved : goal.loop-thread-preserved
loop-thread-preserved c = record {
  threads = threads-more c.args.n c.loop-thread.thread c.loop-thread.threads.items c.push.new.self.items c.in_ok-drawn_thread.field-0 (c.in_ok-push.ensures).items c.loop-thread.invariant.threads (c.in_ok-drawn_thread.ensures).commands;
  drawn = (c.in_ok-drawn_thread.ensures).drawn;
}
