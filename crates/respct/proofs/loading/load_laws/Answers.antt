use Rattle.respct.proofs.Loads.{one_fault_law, faulty_law}
use Rattle.respct.proofs.loading.load_laws.Goals as goal

pub returns-clause-one : goal.returns-clause-one
returns-clause-one c = one_fault_law

pub returns-clause-none : goal.returns-clause-none
returns-clause-none c = faulty_law
