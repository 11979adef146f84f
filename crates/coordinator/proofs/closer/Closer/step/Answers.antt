use Rattle.std.proofs.Common.{ap, sym, ◌∙◌}
use Rattle.coordinator.specs.Closers.{CloserState}
use Rattle.coordinator.specs.Events.{are_all_done}
use Rattle.coordinator.proofs.Steps.{may_go_on, may_end_now, if_did, if_released, one}
use Rattle.coordinator.proofs.closer.Closer.step.Goals as goal

pub release_epoch-requires : goal.release_epoch-requires
release_epoch-requires g c = record { closer = c.requires.closer; all_done = may_end_now c.args.self.now (ap (λ (q : CloserState). are_all_done q.hand) (sym c.self.view_is) ∙ sym c.is_all_done.ensures ∙ c.if-is_all_done.true) }

pub go_on-requires : goal.go_on-requires
go_on-requires g c = record { closer = c.requires.closer; event = may_go_on c.args.self.now (g.P.Post.view c.args.post.now) c.requires.closer (ap (λ (q : CloserState). are_all_done q.hand) (sym c.self.view_is) ∙ sym c.is_all_done.ensures ∙ c.if-is_all_done.false) }

pub returns-then-is_all_done-clause-told : goal.returns-then-is_all_done-clause-told
returns-then-is_all_done-clause-told g c = c.release_epoch.ensures.told

pub returns-then-is_all_done-clause-marks : goal.returns-then-is_all_done-clause-marks
returns-then-is_all_done-clause-marks g c = c.release_epoch.ensures.marks

pub returns-then-is_all_done-clause-did : goal.returns-then-is_all_done-clause-did
returns-then-is_all_done-clause-did g c = if_did c.args.self.now (g.P.Post.view c.args.post.now) c.requires.closer c.release_epoch.result (g.P.Post.told c.args.post.now) (g.P.Post.told c.release_epoch.new.post) c.release_epoch.new.self (g.P.Post.view c.release_epoch.new.post) c.release_epoch.ensures.step

pub returns-then-is_all_done-clause-released : goal.returns-then-is_all_done-clause-released
returns-then-is_all_done-clause-released g c = if_released c.args.self.now (g.P.Post.view c.args.post.now) c.requires.closer c.release_epoch.result (g.P.Post.told c.args.post.now) (g.P.Post.told c.release_epoch.new.post) c.release_epoch.new.self (g.P.Post.view c.release_epoch.new.post) c.release_epoch.ensures.step

pub returns-then-is_all_done-clause-least : goal.returns-then-is_all_done-clause-least
returns-then-is_all_done-clause-least g c = (one c.args.self.now (g.P.Post.view c.args.post.now) c.requires.closer c.release_epoch.result (g.P.Post.told c.args.post.now) (g.P.Post.told c.release_epoch.new.post) c.release_epoch.new.self (g.P.Post.view c.release_epoch.new.post) c.release_epoch.ensures.step).least

pub returns-then-is_all_done-clause-most : goal.returns-then-is_all_done-clause-most
returns-then-is_all_done-clause-most g c = (one c.args.self.now (g.P.Post.view c.args.post.now) c.requires.closer c.release_epoch.result (g.P.Post.told c.args.post.now) (g.P.Post.told c.release_epoch.new.post) c.release_epoch.new.self (g.P.Post.view c.release_epoch.new.post) c.release_epoch.ensures.step).most

pub returns-else-is_all_done-clause-told : goal.returns-else-is_all_done-clause-told
returns-else-is_all_done-clause-told g c = c.go_on.ensures.told

pub returns-else-is_all_done-clause-marks : goal.returns-else-is_all_done-clause-marks
returns-else-is_all_done-clause-marks g c = c.go_on.ensures.marks

pub returns-else-is_all_done-clause-did : goal.returns-else-is_all_done-clause-did
returns-else-is_all_done-clause-did g c = if_did c.args.self.now (g.P.Post.view c.args.post.now) c.requires.closer c.go_on.result (g.P.Post.told c.args.post.now) (g.P.Post.told c.go_on.new.post) c.go_on.new.self (g.P.Post.view c.go_on.new.post) c.go_on.ensures.step

pub returns-else-is_all_done-clause-released : goal.returns-else-is_all_done-clause-released
returns-else-is_all_done-clause-released g c = if_released c.args.self.now (g.P.Post.view c.args.post.now) c.requires.closer c.go_on.result (g.P.Post.told c.args.post.now) (g.P.Post.told c.go_on.new.post) c.go_on.new.self (g.P.Post.view c.go_on.new.post) c.go_on.ensures.step

pub returns-else-is_all_done-clause-least : goal.returns-else-is_all_done-clause-least
returns-else-is_all_done-clause-least g c = (one c.args.self.now (g.P.Post.view c.args.post.now) c.requires.closer c.go_on.result (g.P.Post.told c.args.post.now) (g.P.Post.told c.go_on.new.post) c.go_on.new.self (g.P.Post.view c.go_on.new.post) c.go_on.ensures.step).least

pub returns-else-is_all_done-clause-most : goal.returns-else-is_all_done-clause-most
returns-else-is_all_done-clause-most g c = (one c.args.self.now (g.P.Post.view c.args.post.now) c.requires.closer c.go_on.result (g.P.Post.told c.args.post.now) (g.P.Post.told c.go_on.new.post) c.go_on.new.self (g.P.Post.view c.go_on.new.post) c.go_on.ensures.step).most
