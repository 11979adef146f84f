use Rattle.std.proofs.Common.{◌≡◌, ◌↔◌, sym, subst}
use Rattle.block_allow.specs.declared.judgement.Verdict.{Verdict}
use Rattle.block_allow.specs.declared.judgement.Verdict.TheVariants.{Goes, Finished}
use Rattle.block_allow.specs.Verdicts.{AreEnded, SomeLeaves}
use Rattle.block_allow.proofs.Judged.{finished_law, goes_law}
use Rattle.block_allow.proofs.ends.verdict.Goals as goal

pub returns-clause-finished : goal.returns-clause-finished
returns-clause-finished c = subst (λ (v : Verdict). (v ≡ Finished) ↔ AreEnded c.args.ends.now) (sym c.judged.ensures) (finished_law c.args.ends.now c.args.fed)

pub returns-clause-goes : goal.returns-clause-goes
returns-clause-goes c = subst (λ (v : Verdict). (v ≡ Goes) ↔ SomeLeaves c.args.ends.now c.args.fed) (sym c.judged.ensures) (goes_law c.args.ends.now c.args.fed)
