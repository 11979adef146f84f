use Rattle.script_text.proofs.Readings.{found_of, only_of}
use Rattle.script_text.proofs.whole.read_script.Goals as goal

pub returns-clause-found : goal.returns-clause-found
returns-clause-found c = found_of c.args.text.now c.read_whole.result c.read_whole.ensures

pub returns-clause-only : goal.returns-clause-only
returns-clause-only c p is = only_of c.args.text.now c.read_whole.result p is c.read_whole.ensures
