use Rattle.flush_list.proofs.FirstMarks.{first_marks_law, marked_law, once_law}
use Rattle.flush_list.proofs.Giving.{given_law}
use Rattle.flush_list.proofs.laws.flush_list_laws.Goals as goal

pub returns-clause-order : goal.returns-clause-order
returns-clause-order c = first_marks_law

pub returns-clause-marked : goal.returns-clause-marked
returns-clause-marked c = marked_law

pub returns-clause-once : goal.returns-clause-once
returns-clause-once c = once_law

pub returns-clause-given : goal.returns-clause-given
returns-clause-given c = given_law
