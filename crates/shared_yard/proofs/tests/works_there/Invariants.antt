use Rattle.shared_yard.proofs.tests.works_there.Given as goal

abbrev pub ghosts-works : goal.ghosts-works
ghosts-works a = record { table = a.yard.now.table.shared.table_id; beginning = a.yard.now.beginning }
