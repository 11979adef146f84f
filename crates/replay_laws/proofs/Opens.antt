-- A replay that opens is one.
use Rattle.std.proofs.Common.{◌≡◌, ℕ, ◌<◌, List, length, Some, sym, ◌∙◌, subst, arith}
use Rattle.std.specs.Prelude.{slice_get}
use Rattle.std.proofs.lemmas.Option.{slice_get_within}
use Rattle.yard_model.specs.declared.view.Beginning.{Beginning}
use Rattle.yard_model.specs.Opens.{opening_view}
use Rattle.yard_laws.proofs.Beginning.{opens_lawful}
use Rattle.yard_laws.proofs.Lists.{there}
use Rattle.room_yard.specs.World.{WorldState, Opens, opening_yard}
use Rattle.plain_yard.specs.Shown.{view_at}
use Rattle.plain_yard.proofs.Views.{read_at}
use Rattle.worker_model.specs.Workers.{WorkerState, IsWorker}
use Rattle.replay_model.specs.Kept.{IsReplay}
use Rattle.replay_model.specs.Laws.{opening_replay, OpensReplayLaw}

module _ (b : Beginning) (w : WorldState) (workers : List WorkerState) (opens : Opens b w) (number : length workers ≡ b.settings.threads) where
  -- each thread's view is that of an opening
  pub opening_at : (i : ℕ) → i < length workers → view_at (opening_replay b w workers).yard i ≡ opening_view b i
  opening_at i lt =
      let views = opens.yard.number_of_views in
      let t = there (opening_yard b w).views i (omega (arith, lt, number, views)) in
      read_at (opening_yard b w).views i t.0 (opening_view b i) t.1 ∙ opens.yard.views i t.0 t.1

  replay : ((i : ℕ) (c : WorkerState) → slice_get workers i ≡ Some c → IsWorker c (opening_view b i)) → IsReplay (opening_replay b w workers)
  replay fit = record {
    lawful = opens_lawful b (opening_yard b w) opens.yard;
    number = number ∙ sym opens.yard.number_of_views;
    workers = λ i c at. subst (IsWorker c) (sym (opening_at i (slice_get_within workers i c at))) (fit i c at);
  }

pub opens_replay : OpensReplayLaw
opens_replay b w workers opens number fit = replay b w workers opens number fit
