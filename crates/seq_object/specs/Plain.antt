-- The object as a value of a program, and the counters that are kept beside its pairs.
use Rattle.std.specs.Prelude.{◌≡◌, ℕ, ◌<◌, Bool, true, false, List, map, slice_index, refl}
use Rattle.std.specs.Coded.{Coded, code_by, coded×, coded_ℕ, coded_list}
use Rattle.std.specs.FinMap.{from_entries, entries, len}
use Rattle.std.specs.FinMap as finite
use Rattle.seq_object.specs.declared.command.Command.{Command}
use Rattle.seq_object.specs.declared.command.Command.TheVariants.{Put, Get, Del, Enq, Deq, Take}
use Rattle.seq_object.specs.declared.history.Pair.{Pair}
use Rattle.seq_object.specs.declared.settings.Settings.{Settings}
use Rattle.seq_object.specs.Sizes.{AreValid, sizes_of}
use Rattle.seq_object.specs.Object.{Pairs, Contents, no_contents, contents_after, shard_pairs}
use Rattle.seq_object.specs.declared.sizes.Sizes.{Sizes}

-- the sizes of an object, and what it holds
pub record PlainState : Type 0 where
  pub sizes : Sizes
  pub contents : Contents

-- such a state is stored as the tuple of its parts
abbrev pub plain_code : Coded PlainState
plain_code = code_by ((ℕ × (ℕ × ℕ)) × (Pairs × List ℕ)) (coded× (coded× coded_ℕ (coded× coded_ℕ coded_ℕ)) (coded× (finite.code coded_ℕ coded_ℕ) (coded_list coded_ℕ)))
    (λ s. ((s.sizes.threads, (s.sizes.shards, s.sizes.lines)), (s.contents.pairs, s.contents.items)))
    (λ t. record { sizes = record { threads = t.0.0; shards = t.0.1.0; lines = t.0.1.1 }; contents = record { pairs = t.1.0; items = t.1.1 } })
    (λ _. refl)

-- the object of these settings as it begins
abbrev pub new_plain : Settings → PlainState
new_plain s = record { sizes = sizes_of s; contents = no_contents }

-- the object after a command
abbrev pub plain_after : PlainState → Command → PlainState
plain_after s command = record s { contents = contents_after s.sizes s.contents command }

-- whether a command may make what the object holds grow
abbrev pub may_grow : Command → Bool
may_grow (Put key value) = true
may_grow (Get key) = false
may_grow (Del key) = false
may_grow (Enq value) = true
may_grow Deq = false
may_grow Take = false

-- a key with its value, as a pair
abbrev pub pair_of : ℕ × ℕ → Pair
pair_of e = record { key = e.0; value = e.1 }

-- the pairs of a map, in the order of their keys
abbrev pub listed : Pairs → List Pair
listed pairs = map pair_of (entries pairs)

-- what is kept as settings, entries of a tree and items, as the object's value
abbrev pub plain_state : Settings → List (ℕ × ℕ) → List ℕ → PlainState
plain_state s es items = record { sizes = sizes_of s; contents = record { pairs = from_entries es; items = items } }

-- each shard's counter has the number of its keys
abbrev pub AreCounts : Sizes → Pairs → List ℕ → Type 0
AreCounts z pairs counts = (shard : ℕ) → shard < z.shards → slice_index counts shard ≡ len (shard_pairs z shard pairs)

-- the sizes are within their limits, and the counters are right
pub record IsKept (s : Settings) (es : List (ℕ × ℕ)) (counts : List ℕ) : Type 0 where
  pub sizes : AreValid (sizes_of s)
  pub counts_keys : AreCounts (sizes_of s) (from_entries es) counts
