use Rattle.std.proofs.Common.{◌≡◌, refl, inl, inr, sum}
use Rattle.crash_explorer.proofs.Finding.{not_fewer, are_fewer}
use Rattle.crash_explorer.proofs.search.better.Goals as goal

pub returns-then-not-is_fewer : goal.returns-then-not-is_fewer
returns-then-not-is_fewer c =
    let total : c.stores-stores.result ≡ sum c.args.kept.now = c.stores-stores.ensures in
    inr (not_fewer c.is_fewer.result c.stores-stores.result (sum c.args.kept.now) c.args.best c.if-not-is_fewer.true c.is_fewer.ensures total, refl)

pub returns : goal.returns
returns c =
    let total : c.stores-stores.result ≡ sum c.args.kept.now = c.stores-stores.ensures in
    inl (are_fewer c.is_fewer.result c.stores-stores.result (sum c.args.kept.now) c.args.best c.if-not-is_fewer.false c.is_fewer.ensures total, (c.in_ok-kept.ensures, total, refl))
