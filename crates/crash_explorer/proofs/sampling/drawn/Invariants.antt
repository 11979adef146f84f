use Rattle.std.proofs.Common.{◌≡◌, ℕ, ◌<◌, length, slice_index}
use Rattle.store_order.specs.declared.choice.Choice.TheVariants.{Seed}
use Rattle.store_order.specs.Choice.{state_after, kept_by}
use Rattle.crash_explorer.proofs.sampling.drawn.Given as goal

abbrev pub invariant-loop-m : goal.invariant-loop-m
invariant-loop-m l = record {
  words : l.words ≡ state_after l.m-index l.seed;
  many : length l.kept.items ≡ l.m-index;
  each : (i : ℕ) → i < l.m-index → slice_index l.kept.items i ≡ kept_by (Seed l.seed) i (slice_index l.most i);
}
