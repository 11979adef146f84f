-- The place of a key, as the walk along its bucket finds it.
use Rattle.std.proofs.Common.{◌≡◌, ℕ, ◌<◌, sym, ap, ◌∙◌, subst, length}
use Rattle.line_memory.specs.Line.{bank_load}
use Rattle.room_model.specs.declared.layout.Heads.{Heads}
use Rattle.room_model.specs.declared.layout.Heads.TheVariants.{OneALine, ThreeALine}
use Rattle.room_model.specs.Chains.{RoomWords}
use Rattle.room_model.specs.MapRoom.{Layout, IsLayout, layout_of, head, bucket_of}
use Rattle.room_model.specs.Writes.{line_with, line_before}
use Rattle.room_model.specs.Walks.{IsWalk}
use Rattle.room_laws.specs.Stocks.{MapBounds}
use Rattle.room_laws.proofs.MapLaws.{layouts}
use Rattle.room_laws.proofs.StockLaws.{walk_law, map_bounds_law}
use Rattle.incll_var.specs.Cells.{CellBankState}
use Rattle.locked_map.specs.declared.find.Place.{Place}
use Rattle.locked_map.specs.Plans.{MayPlan, IsPlace}
use Rattle.seq_object.specs.declared.sizes.Sizes.{Sizes}

-- wherever the heads lie, it is a layout
pub laid : (heads : Heads) → IsLayout (layout_of heads)
laid OneALine = layouts.one_head
laid ThreeALine = layouts.three_heads

-- the walk for a key stays in the room, and ends
pub walk_from : (layout : Layout) (z : Sizes) (cells : CellBankState) (key : ℕ) → IsLayout layout → MayPlan layout z cells
    → IsWalk (bank_load cells.bank) (length cells.bank.lines) (length cells.bank.lines) (head layout (bank_load cells.bank) (bucket_of z key))
walk_from layout z cells key is may =
    let r = bank_load cells.bank in
    subst (λ (n : ℕ). IsWalk r n n (head layout r (bucket_of z key))) (sym may.lines) (walk_law layout z may.shard r may.pairs key is may.stands)

-- what a key leads to lies in the room
pub bounds : (layout : Layout) (z : Sizes) (cells : CellBankState) (key : ℕ) → IsLayout layout → MayPlan layout z cells → MapBounds layout z (bank_load cells.bank) key
bounds layout z cells key is may = map_bounds_law layout z may.shard (bank_load cells.bank) may.pairs key is may.stands

-- the first node of a key's bucket, as it is loaded
pub first_loaded : (layout : Layout) (z : Sizes) (r : RoomWords) (key bucket line word node : ℕ) → bucket ≡ bucket_of z key → line ≡ layout.head_line bucket → word ≡ layout.head_word bucket → node ≡ r line word
    → node ≡ head layout r (bucket_of z key)
first_loaded layout z r key bucket line word node is line_is word_is loaded =
    loaded ∙ ap (λ (k : ℕ). r k word) line_is ∙ ap (r (layout.head_line bucket)) word_is ∙ ap (head layout r) is

-- the place of a key, from where the walk from its head ends
pub place_law : (layout : Layout) (z : Sizes) (cells : CellBankState) (key : ℕ) (place : Place) → IsLayout layout → MayPlan layout z cells → bucket_of z key < 8 → place.head_line ≡ layout.head_line (bucket_of z key)
    → place.head_word ≡ layout.head_word (bucket_of z key) → place.first ≡ head layout (bank_load cells.bank) (bucket_of z key)
    → place.node ≡ line_with (bank_load cells.bank) key (length cells.bank.lines) place.first → place.before ≡ line_before (bank_load cells.bank) key (length cells.bank.lines) 0 place.first
    → IsPlace layout z (bank_load cells.bank) key place
place_law layout z cells key place is may below head_is word_is first_is node_is before_is =
    let r = bank_load cells.bank in
    record {
      head_is = head_is;
      word_is = word_is;
      first_is = first_is;
      node_is = node_is ∙ ap (λ (k : ℕ). line_with r key k place.first) may.lines ∙ ap (line_with r key z.lines) first_is;
      before_is = before_is ∙ ap (λ (k : ℕ). line_before r key k 0 place.first) may.lines ∙ ap (line_before r key z.lines 0) first_is;
      bounds = bounds layout z cells key is may;
      word_fits = subst (λ (k : ℕ). k < 3) (sym word_is) (is.word (bucket_of z key) below);
    }
