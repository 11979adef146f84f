use Rattle.room_model.specs.Image.{nothing_kept}
use Rattle.drill.proofs.NextLives.{lived_lawful}
use Rattle.drill.proofs.LifeCalls.{positions_few}
use Rattle.drill.proofs.LastLife.{all_kept, holds_all}
use Rattle.drill.proofs.lives.run_drill.Goals as goal

pub recovered-requires : goal.recovered-requires
recovered-requires c = lived_lawful c.args.n 8 c.in_ok-outcome.outcome c.live_all.new.memory nothing_kept (c.in_ok-outcome.ensures).lived

pub summary_of-requires : goal.summary_of-requires
summary_of-requires c = positions_few c.args.n 8 c.in_ok-outcome.outcome c.live_all.new.memory c.in_ok-found.found (c.in_ok-outcome.ensures).lived (c.in_ok-found.ensures)

pub returns-clause-told : goal.returns-clause-told
returns-clause-told c = record {
  outcome = c.in_ok-outcome.outcome;
  lived = (c.in_ok-outcome.ensures).lived;
  fed = (c.in_ok-outcome.ensures).fed;
  found = c.in_ok-found.found;
  recovers = c.in_ok-found.ensures;
  is = c.summary_of.ensures;
}

pub returns-clause-kept : goal.returns-clause-kept
returns-clause-kept c =
    all_kept c.args.n c.in_ok-outcome.outcome c.live_all.new.memory c.in_ok-found.found c.summary_of.result (c.in_ok-outcome.ensures).lived (c.in_ok-outcome.ensures).fed c.in_ok-found.ensures c.summary_of.ensures

pub returns-clause-held : goal.returns-clause-held
returns-clause-held c = holds_all c.args.n c.in_ok-outcome.outcome c.live_all.new.memory c.in_ok-found.found (c.in_ok-outcome.ensures).lived (c.in_ok-outcome.ensures).fed c.in_ok-found.ensures
