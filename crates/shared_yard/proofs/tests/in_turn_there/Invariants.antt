use Rattle.shared_yard.proofs.tests.in_turn_there.Given as goal

abbrev pub ghosts-in_turn : goal.ghosts-in_turn
ghosts-in_turn g a = record { table = a.yard.now.table.shared.table_id; beginning = a.yard.now.beginning }
