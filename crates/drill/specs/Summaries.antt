-- The summary of a drill, and its one text.
use Rattle.std.specs.Prelude.{ℕ, ◌+◌, ◌%◌, ◌^◌, List, [], ◌∷◌, ◌++◌, codes, length, sum, sum_by}
use Rattle.std.specs.Fmt.{decimal}
use Rattle.life_model.specs.declared.life.Outcome.{Outcome}
use Rattle.image_check.specs.declared.recovered.Recovered.{Recovered}
use Rattle.script_text.specs.Text.{ended}
use Rattle.script_text.specs.ReportText.{end_line}
use Rattle.drill.specs.declared.summary.Summary.{Summary}

-- the sum of all values of pairs and items
abbrev pub all_values : Recovered → ℕ
all_values found = sum_by (λ p. p.value) found.pairs.items + sum found.items.items

-- the summary of the drill of this number whose last life ended so, over what its image recovers to
abbrev pub summary_over : ℕ → Outcome → Recovered → Summary
summary_over n outcome found = record {
  number = n;
  kept = sum found.positions.items;
  epoch = found.epoch;
  pairs = length found.pairs.items;
  items = length found.items.items;
  values = all_values found % 2 ^ 64;
  outcome = outcome;
}

-- the lines of what is left
abbrev pub count_lines : Summary → List (List ℕ)
count_lines s =
    (codes "kept " ++ decimal s.kept) ∷
    (codes "epoch " ++ decimal s.epoch) ∷
    (codes "pairs " ++ decimal s.pairs) ∷
    (codes "items " ++ decimal s.items) ∷
    (codes "sum " ++ decimal s.values) ∷ []

-- the lines of a summary
abbrev pub summary_lines : Summary → List (List ℕ)
summary_lines s = (codes "drill " ++ decimal s.number) ∷ codes "lives 9" ∷ (count_lines s ++ end_line s.outcome ∷ [])

-- the text of a summary
abbrev pub summary_bytes : Summary → List ℕ
summary_bytes s = ended (summary_lines s)
