use Rattle.std.proofs.Common.{refl}
use Rattle.respct.proofs.Lives.{resuming, resumes_so}
use Rattle.respct.proofs.opening.opening_law.Goals as goal

pub returns : goal.returns
returns c = λ p rooms lawful. (resuming p rooms lawful.0, record { settings_are = refl; scripts_are = refl; from = resumes_so p rooms lawful.0 lawful.1 })
