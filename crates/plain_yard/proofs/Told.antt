-- A handle on a lawful yard tells it.
use Rattle.std.proofs.Common.{◌≡◌, ℕ, sym, ap, ◌∙◌, subst, arith, Some}
use mathlib.Core.Option.{some}
use Rattle.yard_model.specs.declared.view.Beginning.{Beginning}
use Rattle.yard_model.specs.World.{ViewIs}
use Rattle.yard_model.specs.Lawful.{Lawful}
use Rattle.yard_model.specs.Opens.{opening_view}
use Rattle.yard_laws.proofs.Lists.{there}
use Rattle.room_yard.specs.Told.{IsTold}
use Rattle.plain_yard.specs.Shown.{ShownYard, ShownPost, view_at, view_of, IsThread, IsLawfulYard, IsLawfulPost}
use Rattle.plain_yard.proofs.Views.{read_at}

view_there : (y : ShownYard) (i : ℕ) → IsLawfulYard y → IsThread y i → ViewIs y.told.world i (view_at y i)
view_there y i l lt = let t = there y.told.world.views i lt in t.1 ∙ ap some (sym (read_at y.told.world.views i t.0 (opening_view y.beginning i) t.1))

pub tells : (y : ShownYard) (i : ℕ) → IsLawfulYard y → IsThread y i → IsTold (Some y.told) (view_at y i)
tells y i l lt = let at = view_there y i l lt in (
  subst (λ (b : Beginning). Lawful b y.told.world y.told.history y.told.checkpoints) (sym (l.sized.beginnings i (view_at y i) at)) l,
  subst (λ (j : ℕ). ViewIs y.told.world j (view_at y i)) (sym (l.sized.threads i (view_at y i) at)) at,
)

-- it has as many threads as before
pub same_threads : (y z : ShownYard) (i : ℕ) → IsLawfulYard y → IsLawfulYard z → z.beginning ≡ y.beginning → IsThread y i → IsThread z i
same_threads y z i l m same lt = let a = l.sized.views in let c = m.sized.views in let e = ap (λ (b : Beginning). b.settings.threads) same in omega (arith, lt, a, c, e)

-- what a handle tells where it changes nothing
pub told_from : (y : ShownYard) (i : ℕ) (q : ShownPost) → record { yard = y; thread = i } ≡ q → IsLawfulPost (record { yard = y; thread = i }) → IsTold (Some q.yard.told) (view_of q)
told_from y i q is l = subst (λ (p : ShownPost). IsTold (Some p.yard.told) (view_of p)) is (tells y i l.lawful l.thread)

pub thread_from : (y : ShownYard) (i : ℕ) (q : ShownPost) → record { yard = y; thread = i } ≡ q → IsLawfulPost (record { yard = y; thread = i }) → i ≡ (view_of q).thread
thread_from y i q is l = sym (l.lawful.sized.threads i (view_at y i) (view_there y i l.lawful l.thread)) ∙ ap (λ (p : ShownPost). (view_of p).thread) is
