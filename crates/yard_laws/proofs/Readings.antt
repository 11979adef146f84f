-- What a room stands for: of saved cells memory holds, at a later epoch, what they load; and by its own entries and by all entries a room
-- stands for the same.
use Rattle.std.proofs.Common.{◌≡◌, ℕ, ◌<◌, ◌==◌, not, Bool, true, false, eq-eqb, List, [], ◌∷◌, length, map, sym, refl, ap, ◌∙◌, subst, inl, inr}
use Rattle.std.proofs.lemmas.Bool.{ne_eqb}
use Rattle.seq_object.specs.declared.history.Entry.{Entry}
use Rattle.seq_object.specs.Object.{Contents, part_of}
use Rattle.seq_object.specs.History.{of_room, contents_at}
use Rattle.seq_object.proofs.Rooms.{room_after}
use Rattle.line_memory.specs.Line.{BankState, line_at, bank_load}
use Rattle.room_model.specs.Chains.{RoomWords, IsChain}
use Rattle.room_model.specs.MapRoom.{live_layout}
use Rattle.room_model.specs.Rooms.{StandsFor, point_in}
use Rattle.room_laws.proofs.MapLaws.{layouts}
use Rattle.room_laws.proofs.OneContents.{parts}
use Rattle.room_laws.proofs.Standing.{queue_of}
use Rattle.room_laws.proofs.Words.{words as same_words, point_words}
use Rattle.life_laws.proofs.Parts.{room_stands}
use Rattle.incll_var.specs.declared.state.CellState.{CellState}
use Rattle.incll_var.specs.declared.state.CellState.TheVariants.{Torn, Running, Closing, Saved}
use Rattle.incll_var.specs.Cells.{CellBankState, IsCellBank, IsCellIn, IsSavedIn, IsRunning}
use Rattle.incll_var.proofs.Survivors.{saved_room}
use Rattle.rooms.specs.declared.room.Room.{Room}
use Rattle.rooms.specs.declared.room.Room.TheVariants.{Map, Queue, Thread, Super}
use Rattle.rooms.specs.Rooms.{bank_of, cells_of, state_of, loads, is_empty_queue}
use Rattle.yard_model.specs.Beginnings.{has_items}
use Rattle.room_model.specs.Banks.{memory_words}
use Rattle.yard_model.specs.Homes.{IsFreeState, IsDeadState}
use Rattle.seq_object.specs.declared.sizes.Sizes.{Sizes}

pub same_bank : (x : Room) → (cells_of x).bank ≡ bank_of x
same_bank (Map x) = refl
same_bank (Queue x) = refl
same_bank (Thread x) = refl
same_bank (Super x) = refl

-- STATES

pub earlier : (P Q : ℕ → Type 0) (state : CellState) → ((c : ℕ) → P c → Q c) → IsSavedIn P state → IsSavedIn Q state
earlier P Q (Torn c) f s = s
earlier P Q (Running c) f s = s
earlier P Q (Closing c) f s = s
earlier P Q (Saved c) f s = f c s

pub not_running : (P : ℕ → Type 0) (state : CellState) → IsSavedIn P state → IsRunning state → ⊥
not_running P (Torn c) s r = s
not_running P (Running c) s r = s
not_running P (Closing c) s r = s
not_running P (Saved c) s r = r

pub free_state : (epoch : ℕ) (done : Bool) (state : CellState) → IsSavedIn (λ c. c < epoch) state → IsFreeState epoch done state
free_state epoch done (Torn c) s = absurd s
free_state epoch done (Running c) s = absurd s
free_state epoch done (Closing c) s = absurd s
free_state epoch done (Saved c) s = inl s

-- where a thread closes, no fewer states are lawful
pub dead_more : (epoch : ℕ) (a b : Bool) (state : CellState) → (a ≡ true → b ≡ true) → IsDeadState epoch a state → IsDeadState epoch b state
dead_more epoch a b (Torn c) f s = s
dead_more epoch a b (Running c) f s = s
dead_more epoch a b (Closing c) f s = s
dead_more epoch a b (Saved c) f (inl s) = inl s
dead_more epoch a b (Saved c) f (inr s) = inr (s.0, f s.1)

-- a free room that does not run was saved in an epoch before, or is done
pub free_saved : (epoch : ℕ) (state : CellState) → IsFreeState epoch false state → (IsRunning state → ⊥) → IsSavedIn (λ c. c < epoch) state
free_saved epoch (Torn c) s n = absurd s
free_saved epoch (Running c) s n = absurd (n tt)
free_saved epoch (Closing c) s n = absurd s
free_saved epoch (Saved c) (inl s) n = s
free_saved epoch (Saved c) (inr s) n = let f = s.1 in absurd (cc)

-- READINGS

-- saved cells have nothing pending
pub nothing_pending : (P : ℕ → Type 0) (b : CellBankState) (state : CellState) → b.state ≡ state → IsCellBank b → IsSavedIn P state → (i : ℕ) → i < length b.bank.lines → (line_at b.bank.lines i).pending ≡ []
nothing_pending P b (Torn c) is cells s i lt = absurd s
nothing_pending P b (Running c) is cells s i lt = absurd s
nothing_pending P b (Closing c) is cells s i lt = absurd s
nothing_pending P b (Saved c) is cells s i lt = (subst (λ (state : CellState). IsCellIn state (line_at b.bank.lines i)) is (cells.cells i lt)).pending

-- saved cells, as memory holds them at a later epoch and by their loads
cells_as_loaded : (epoch : ℕ) (b : CellBankState) (state : CellState) → b.state ≡ state → IsCellBank b → IsSavedIn (λ c. c < epoch) state → (line word : ℕ) → word < 3
    → memory_words epoch b.bank line word ≡ bank_load b.bank line word
cells_as_loaded epoch b (Torn c) is cells s line word lt = absurd s
cells_as_loaded epoch b (Running c) is cells s line word lt = absurd s
cells_as_loaded epoch b (Closing c) is cells s line word lt = absurd s
cells_as_loaded epoch b (Saved c) is cells s line word lt = saved_room b c epoch (λ _. 0) cells is s line word lt

pub saved_as_loaded : (epoch : ℕ) (x : Room) → IsCellBank (cells_of x) → IsSavedIn (λ c. c < epoch) (state_of x) → (line word : ℕ) → word < 3 → memory_words epoch (bank_of x) line word ≡ loads x line word
saved_as_loaded epoch x cells saved line word lt = subst (λ (b : BankState). memory_words epoch b line word ≡ bank_load b line word) (same_bank x) (cells_as_loaded epoch (cells_of x) (state_of x) refl cells saved line word lt)

-- so memory has the restart point that such a room loads
pub point_as_loaded : (epoch : ℕ) (x : Room) → IsCellBank (cells_of x) → IsSavedIn (λ c. c < epoch) (state_of x) → point_in live_layout (memory_words epoch (bank_of x)) ≡ point_in live_layout (loads x)
point_as_loaded epoch x cells saved = point_words live_layout (loads x) (memory_words epoch (bank_of x)) (λ line w lt. saved_as_loaded epoch x cells saved line w lt)

-- and such a room stands at the later epoch for what it stands for by its loads
pub stands_held : (z : Sizes) (r epoch : ℕ) (x : Room) (c : Contents) → IsCellBank (cells_of x) → IsSavedIn (λ c. c < epoch) (state_of x) → StandsFor live_layout z r (loads x) c → StandsFor live_layout z r (memory_words epoch (bank_of x)) c
stands_held z r epoch x c cells saved s = same_words live_layout z r (loads x) (memory_words epoch (bank_of x)) c layouts.in_use s (λ line w lt. saved_as_loaded epoch x cells saved line w lt)

-- by its own entries from its part of the beginning, and by all entries
pub stands_whole : (z : Sizes) (c : Contents) (h : List Entry) (r : ℕ) (words : RoomWords) → 0 < z.shards → StandsFor live_layout z r words (contents_at z (part_of z r c) (of_room z r h)) → StandsFor live_layout z r words (contents_at z c h)
stands_whole z c h r words some s = room_stands live_layout z c h r words some s

pub stands_alone : (z : Sizes) (c : Contents) (h : List Entry) (r : ℕ) (words : RoomWords) → 0 < z.shards → StandsFor live_layout z r words (contents_at z c h) → StandsFor live_layout z r words (contents_at z (part_of z r c) (of_room z r h))
stands_alone z c h r words some s = subst (λ (d : Contents). StandsFor live_layout z r words d) (room_after z some c h r) (parts.part live_layout z r words (contents_at z c h) s)

-- the queue room has a first line exactly where the list has an item
chain_items : (next value : ℕ → ℕ) (start : ℕ) (lines : List ℕ) → IsChain next start lines → (start == 0) ≡ not (has_items (map value lines))
chain_items next value start [] c = eq-eqb start 0 c
chain_items next value start (x ∷ xs) c = ne_eqb start 0 (λ e. c.1 (sym c.0 ∙ e))

pub queue_empty : (z : Sizes) (x : Room) (c : Contents) → StandsFor live_layout z z.shards (loads x) c → is_empty_queue x ≡ not (has_items c.items)
queue_empty z x c s = let q = queue_of live_layout z (loads x) c s in
    chain_items (λ y. loads x y 1) (λ y. loads x y 0) (loads x 1 0) q.chain q.chained ∙ ap (λ (items : List ℕ). not (has_items items)) (sym q.listed)
