-- The memories that were worked out by hand stand at their epochs for their states.
use Rattle.std.proofs.Common.{◌≡◌, ◌≢◌, ℕ, ◌+◌, ◌<◌, ◌≤◌, ◌==◌, ◌&&◌, zero, suc, Bool, true, false, cond, List, [], ◌∷◌, length, Option, Some, None, if◌then◌else◌, refl, sym, ap, ◌∙◌, subst, inl, inr, ⊎_elim, arith, eq-eqb}
use Rattle.std.specs.Prelude.{nat_le}
use Rattle.std.specs.Ordering.{nat_cmp}
use Rattle.std.specs.FinMap.{empty, get, insert, len, get-empty, len-empty}
use Rattle.std.proofs.lemmas.Bool.{ne_eqb, cases_lt}
use Rattle.std.proofs.lemmas.Bool.Decides.{eqb_tells, nat_tests}
use Rattle.std.proofs.lemmas.List.{get_or_past}
use Rattle.seq_object.specs.declared.command.Reply.TheVariants.{New}
use Rattle.seq_object.specs.Sizes.{AreValid, line_count}
use Rattle.seq_object.specs.Object.{Pairs, no_contents, shard_of, shard_pairs, is_shard_full, put_reply, put_pairs}
use Rattle.seq_object.specs.History.{first_state, after, total, point_at}
use Rattle.seq_object.proofs.Pairs.{one_map, got_put, got_key}
use Rattle.seq_object.proofs.Totals.{total_none, total-same}
use Rattle.line_memory.specs.declared.store.Store.{Store}
use Rattle.line_memory.specs.Line.{LineState, survivor, no_line, line_at, bank_at, line_of, load_of, IsQuiet}
use Rattle.room_model.specs.Cell.{tag_of, triple_of}
use Rattle.room_model.specs.Chains.{RoomWords, IsChain, times, is_node}
use Rattle.room_model.specs.MapRoom.{live_layout, bucket_of, found, AreKeys, IsMapRoom}
use Rattle.room_model.specs.QueueRoom.{IsQueueRoom}
use Rattle.room_model.specs.Rooms.{StandsFor, point_in}
use Rattle.room_model.specs.Image.{StandsAt}
use Rattle.life_laws.specs.CutExamples.{small, put_done, put_state, line_of_epoch, closed_with}
use Rattle.life_laws.proofs.Survivors.{quiet_left}
use Rattle.life_laws.proofs.Safe.{next_epoch}
use Rattle.life_laws.proofs.Formats.{no_pairs, same_none, no_node, layout_in_use}
use Rattle.room_model.specs.Banks.{memory_words}

-- what holds of each bucket's number
pub below_eight : (P : ℕ → Type 0) → P 0 → P 1 → P 2 → P 3 → P 4 → P 5 → P 6 → P 7 → (b : ℕ) → b < 8 → P b
below_eight P p0 p1 p2 p3 p4 p5 p6 p7 zero lt = p0
below_eight P p0 p1 p2 p3 p4 p5 p6 p7 (suc zero) lt = p1
below_eight P p0 p1 p2 p3 p4 p5 p6 p7 (suc (suc zero)) lt = p2
below_eight P p0 p1 p2 p3 p4 p5 p6 p7 (suc (suc (suc zero))) lt = p3
below_eight P p0 p1 p2 p3 p4 p5 p6 p7 (suc (suc (suc (suc zero)))) lt = p4
below_eight P p0 p1 p2 p3 p4 p5 p6 p7 (suc (suc (suc (suc (suc zero))))) lt = p5
below_eight P p0 p1 p2 p3 p4 p5 p6 p7 (suc (suc (suc (suc (suc (suc zero)))))) lt = p6
below_eight P p0 p1 p2 p3 p4 p5 p6 p7 (suc (suc (suc (suc (suc (suc (suc zero))))))) lt = p7
below_eight P p0 p1 p2 p3 p4 p5 p6 p7 (suc (suc (suc (suc (suc (suc (suc (suc b)))))))) lt = absurd (omega arith)

-- a map room without a node, by its header and heads
pub no_nodes : (r : RoomWords) → r 0 0 ≡ 0 → r 0 1 ≡ 9 → r 0 2 ≡ 0 → ((b : ℕ) → b < 8 → r (b + 1) 0 ≡ 0)
    → IsMapRoom live_layout small 0 r (shard_pairs small 0 empty)
no_nodes r free fresh count heads = record {
  chain = λ b. [];
  free = [];
  low = omega (arith, fresh);
  high = omega (arith, fresh);
  chained = λ b lt. heads b lt;
  freed = free;
  each = λ x. no_node 9 x (total (λ b. 0) 8) (total_none 8) ∙ ap (λ (n : ℕ). if is_node 9 n x then 1 else 0) (sym fresh);
  keys = λ b lt. tt;
  count = count;
  keyed = λ key. no_pairs small 0 key ∙ same_none (shard_of small key == 0);
}

-- a queue room without a node, by its header and ends
pub no_items : (r : RoomWords) → r 0 0 ≡ 0 → r 0 1 ≡ 2 → r 0 2 ≡ 0 → r 1 0 ≡ 0 → r 1 1 ≡ 0 → IsQueueRoom small r []
no_items r free fresh count first last = record {
  chain = [];
  free = [];
  low = omega (arith, fresh);
  high = omega (arith, fresh);
  chained = first;
  last = last;
  freed = free;
  each = λ x. no_node 2 x 0 refl ∙ ap (λ (n : ℕ). if is_node 2 n x then 1 else 0) (sym fresh);
  count = count;
  listed = refl;
}

-- a chain from 0 has no line
pub chain_none : (next : ℕ → ℕ) (start : ℕ) (xs : List ℕ) → IsChain next start xs → start ≡ 0 → xs ≡ []
chain_none next start [] c e = refl
chain_none next start (x ∷ xs) c e = absurd (c.1 (sym c.0 ∙ e))

-- a room whose fresh line was moved and whose new line is in no chain stands for no map
pub broken : (r : RoomWords) (pairs : Pairs) → r 0 0 ≡ 0 → r 0 1 ≡ 10 → ((b : ℕ) → b < 8 → r (b + 1) 0 ≡ 0)
    → IsMapRoom live_layout small 0 r pairs → ⊥
broken r pairs free fresh heads a =
    let chained : total (λ b. times 9 (a.chain b)) 8 ≡ 0 =
    total-same (λ b. 0) (λ b. times 9 (a.chain b)) 8
    (λ b lt. ap (times 9) (chain_none (λ x. r x 2) (r (b + 1) 0) (a.chain b) (a.chained b lt) (heads b lt))) ∙ total_none 8 in
    let freed : times 9 a.free ≡ 0 = ap (times 9) (chain_none (λ x. r x 0) (r 0 0) a.free a.freed free) in
    let one : total (λ b. times 9 (a.chain b)) 8 + times 9 a.free ≡ 1 =
    a.each 9 ∙ ap (λ (n : ℕ). node_count n) fresh in
    omega (arith, chained, freed, one)
  where
    node_count : ℕ → ℕ
    node_count n = if is_node 9 n 9 then 1 else 0

-- the map room with one pair

-- the chains: the node in bucket 5
abbrev one_chain : ℕ → List ℕ
one_chain b = if b == 5 then 9 ∷ [] else []

-- each bucket's chain is met by loads
loaded_chains : (line : LineState) (b : ℕ) → b < 8
    → IsChain (λ x. load_of (closed_with line) 0 x 2) (load_of (closed_with line) 0 (b + 1) 0) (one_chain b)
loaded_chains line = below_eight (λ b. IsChain (λ x. load_of (closed_with line) 0 x 2) (load_of (closed_with line) 0 (b + 1) 0) (one_chain b))
    refl refl refl refl refl (refl, (λ e. absurd (cc (e))), refl) refl refl

-- another line is in none of them
not_in : (x : ℕ) (b : Bool) → (9 == x) ≡ false → times x (if b then 9 ∷ [] else []) ≡ 0
not_in x true ne = ap (λ (t : Bool). (if t then 1 else 0) + 0) ne
not_in x false ne = refl

-- line 9 is the one node where fresh is 10
no_other_node : (x n : ℕ) → 9 ≢ x → n ≡ 0 → n + 0 ≡ (if is_node 9 10 x then 1 else 0)
no_other_node x n ne e = grind (arith, nat_tests)

-- line 9 stands once in the chains, and no other line does
one_of_nine : (x : ℕ) → total (λ b. times x (one_chain b)) 8 + times x [] ≡ (if is_node 9 10 x then 1 else 0)
one_of_nine x = elim (eqb_tells 9 x) [
  | inl h ↦ subst (λ (n : ℕ). total (λ b. times n (one_chain b)) 8 + times n [] ≡ (if is_node 9 10 n then 1 else 0)) h.1 refl
  | inr h ↦ no_other_node x (total (λ b. times x (one_chain b)) 8) h.1
      (total-same (λ b. 0) (λ b. times x (one_chain b)) 8 (λ b lt. not_in x (b == 5) h.0) ∙ total_none 8)
]

-- each key is of the one shard
pub one_shard : (key : ℕ) → shard_of small key ≡ 0
one_shard key = omega arith

-- the value of a key in the map of one pair
pub got_five : (key : ℕ) → get (insert (empty {X = ℕ} {R = nat_cmp}) 5 7) key ≡ (if key == 5 then Some 7 else None)
got_five key = got_put empty 5 7 key ∙ ap (λ (o : Option ℕ). cond (key == 5) (Some 7) o) (get-empty nat_cmp key)

-- no value
abbrev no_value : Option ℕ
no_value = None

-- another key is not in a chain of the one node
absent : (line : LineState) (key : ℕ) (b : Bool) → key ≢ 5 → found (load_of (closed_with line) 0) key (if b then 9 ∷ [] else []) ≡ None
absent line key true ne = ap (λ (b : Bool). if b then Some 7 else no_value) (ne_eqb 5 key (λ e. ne (sym e)))
absent line key false ne = refl

-- in the chain of its bucket each key is found as the map has it
found_five : (line : LineState) (key : ℕ)
    → found (load_of (closed_with line) 0) key (one_chain (bucket_of small key)) ≡ (if key == 5 then Some 7 else None)
found_five line key = elim (eqb_tells key 5) [
  | inl h ↦ subst (λ (k : ℕ). found (load_of (closed_with line) 0) k (one_chain (bucket_of small k)) ≡ (if k == 5 then Some 7 else None))
      (sym h.1) refl
  | inr h ↦ absent line key (bucket_of small key == 5) h.1 ∙ sym (ap (λ (b : Bool). if b then Some 7 else no_value) h.0)
]

-- the key of the node has this shard and bucket
one_key : (line : LineState) (b : ℕ) → b < 8 → AreKeys small 0 b (load_of (closed_with line) 0) (one_chain b)
one_key line b lt = elim (eqb_tells b 5) [
  | inl h ↦ subst (λ (k : ℕ). AreKeys small 0 k (load_of (closed_with line) 0) (one_chain k)) (sym h.1) (refl, refl, refl, tt)
  | inr h ↦ subst (λ (t : Bool). AreKeys small 0 b (load_of (closed_with line) 0) (if t then 9 ∷ [] else [])) (sym h.0) tt
]

-- by loads the map room stands for the one pair
pub one_pair : (line : LineState) → IsMapRoom live_layout small 0 (load_of (closed_with line) 0) (shard_pairs small 0 (insert empty 5 7))
one_pair line = record {
  chain = one_chain;
  free = [];
  low = omega arith;
  high = omega arith;
  chained = loaded_chains line;
  freed = refl;
  each = one_of_nine;
  keys = one_key line;
  count = refl;
  keyed = λ key. got_key (insert empty 5 7) (λ k. shard_of small k == 0) key (eq-eqb (shard_of small key) 0 (one_shard key)) ∙ got_five key
      ∙ sym (found_five line key)
      ∙ sym (ap (λ (b : Bool). if b then found (load_of (closed_with line) 0) key (one_chain (bucket_of small key)) else None)
      (eq-eqb (shard_of small key) 0 (one_shard key)));
}

-- cells

-- a line of eight words with nothing pending, and with a tag of at most 1
abbrev pub is_cell : LineState → Bool
is_cell l = (length l.pending == 0) && ((length l.base == 8) && nat_le (tag_of l.base) 1)

-- whether each of these lines is such a one
abbrev pub are_cells : List LineState → Bool
are_cells [] = true
are_cells (l ∷ ls) = is_cell l && are_cells ls

-- then each of them is
pub cell_at : (ls : List LineState) (k : ℕ) → are_cells ls ≡ true → k < length ls → is_cell (line_at ls k) ≡ true
cell_at [] k all lt = absurd (omega arith)
cell_at (l ∷ ls) zero all lt = and_first (is_cell l) (are_cells ls) all
  where
    and_first : (a b : Bool) → (a && b) ≡ true → a ≡ true
    and_first true b e = refl
    and_first false b e = e
cell_at (l ∷ ls) (suc k) all lt = cell_at ls k (and_second (is_cell l) (are_cells ls) all) (omega arith)
  where
    and_second : (a b : Bool) → (a && b) ≡ true → b ≡ true
    and_second true b e = e
    and_second false b e = absurd (cc (e))

-- a list of no length is empty
empty_list : (ss : List Store) → length ss ≡ 0 → ss ≡ []
empty_list [] e = refl
empty_list (s ∷ ss) e = absurd (omega (arith, e))

pub record IsQuietCell (l : LineState) : Type 0 where
  pub pending : l.pending ≡ []
  pub eight : length l.base ≡ 8
  pub tag : tag_of l.base ≤ 1

-- what the test says
pub quiet_cell : (l : LineState) → is_cell l ≡ true → IsQuietCell l
quiet_cell l e = record {
  pending = empty_list l.pending (grind (arith, nat_tests));
  eight = grind (arith, nat_tests);
  tag = grind (arith, nat_tests);
}

-- each cell of these memories
quiet_cells : (line : LineState) (room i : ℕ) → room < 3 → i < line_count small room → IsQuietCell (line_of (closed_with line) room i)
quiet_cells line zero i lt inside = quiet_cell (line_of (closed_with line) 0 i) (cell_at (bank_at (closed_with line) 0).lines i refl inside)
quiet_cells line (suc zero) i lt inside = quiet_cell (line_of (closed_with line) 1 i) (cell_at (bank_at (closed_with line) 1).lines i refl inside)
quiet_cells line (suc (suc zero)) i lt inside =
    quiet_cell (line_of (closed_with line) 2 i) (cell_at (bank_at (closed_with line) 2).lines i refl inside)
quiet_cells line (suc (suc (suc room))) i lt inside = absurd (omega arith)

-- each room has its number of lines
line_counts : (line : LineState) (room : ℕ) → room < 4 → length (bank_at (closed_with line) room).lines ≡ line_count small room
line_counts line zero lt = refl
line_counts line (suc zero) lt = refl
line_counts line (suc (suc zero)) lt = refl
line_counts line (suc (suc (suc zero))) lt = refl
line_counts line (suc (suc (suc (suc room)))) lt = absurd (omega arith)

-- nothing is pending in a cell, those that are not there included
none_pending : (line : LineState) (room i : ℕ) → room < 3 → (line_of (closed_with line) room i).pending ≡ []
none_pending line room i lt = ⊎_elim
    (λ (inside : i < line_count small room). (quiet_cells line room i lt inside).pending)
    (λ (past : line_count small room ≤ i).
    let none : line_of (closed_with line) room i ≡ no_line =
    get_or_past (bank_at (closed_with line) room).lines i no_line (omega (arith, line_counts line room (omega arith), past)) in
    ap (λ (l : LineState). l.pending) none)
    (cases_lt i (line_count small room))

-- nothing is pending at all where the super room's line has its epoch in memory
pub quiet_all : (epoch : ℕ) → IsQuiet (closed_with (line_of_epoch epoch))
quiet_all epoch room i = ⊎_elim (λ (lt : room < 3). none_pending (line_of_epoch epoch) room i lt) (λ (le : 3 ≤ room). above room i le) (cases_lt room 3)
  where
    above : (room i : ℕ) → 3 ≤ room → (line_of (closed_with (line_of_epoch epoch)) room i).pending ≡ []
    above zero i le = absurd (omega arith)
    above (suc zero) i le = absurd (omega arith)
    above (suc (suc zero)) i le = absurd (omega arith)
    above (suc (suc (suc zero))) zero le = refl
    above (suc (suc (suc zero))) (suc i) le = refl
    above (suc (suc (suc (suc room)))) i le = refl

-- the sizes are within their limits
pub small_valid : AreValid small
small_valid = record {
  some_threads = omega arith;
  few_threads = omega arith;
  some_shards = omega arith;
  few_shards = omega arith;
  some_lines =
      omega arith;
  few_lines = omega arith;
}

-- the cells stand at epoch 1 for the state before the put
pub stands_first : (line : LineState) → ((kept : ℕ) → length (survivor line kept) ≡ 8)
    → StandsAt live_layout small 1 (closed_with line) (first_state small)
stands_first line eight = record {
  valid = small_valid;
  some = omega arith;
  fits = omega arith;
  rooms = record { rooms = refl; lines = line_counts line };
  super_words = eight;
  cells = λ room i lt inside kept.
      let cell = quiet_cells line room i lt inside in
      let same : survivor (line_of (closed_with line) room i) kept ≡ (line_of (closed_with line) room i).base =
      quiet_left (line_of (closed_with line) room i) kept cell.pending in
      record {
        eight = ap length same ∙ cell.eight;
        tag = subst (λ (words : List ℕ). tag_of words ≤ 1) (sym same) cell.tag;
        recovers = ap (triple_of 1) same;
      };
  stands = stands;
  threads = refl;
  points = points;
}
  where
    stands : (room : ℕ) → room ≤ 1 → StandsFor live_layout small room (memory_words 1 (bank_at (closed_with line) room)) no_contents
    stands zero le = no_nodes (memory_words 1 (bank_at (closed_with line) 0)) refl refl refl
        (below_eight (λ b. memory_words 1 (bank_at (closed_with line) 0) (b + 1) 0 ≡ 0) refl refl refl refl refl refl refl refl)
    stands (suc zero) le = no_items (memory_words 1 (bank_at (closed_with line) 1)) refl refl refl refl refl
    stands (suc (suc room)) le = absurd (omega arith)

    points : (thread : ℕ) → thread < 1
        → point_at (first_state small).points thread ≡ point_in live_layout (memory_words 1 (bank_at (closed_with line) (1 + 1 + thread)))
    points zero lt = refl
    points (suc thread) lt = absurd (omega arith)

-- the loads of the rooms stand for the state after the put
pub loads_stand : (line : LineState) (room : ℕ) → room ≤ 1 → StandsFor live_layout small room (load_of (closed_with line) room) put_state.contents
loads_stand line zero le = one_pair line
loads_stand line (suc zero) le = no_items (load_of (closed_with line) 1) refl refl refl refl refl
loads_stand line (suc (suc room)) le = absurd (omega arith)

-- the cells stand at epoch 2 for it
pub stands_next : (line : LineState) → ((kept : ℕ) → length (survivor line kept) ≡ 8) → StandsAt live_layout small 2 (closed_with line) put_state
stands_next line eight =
    next_epoch live_layout small 1 (closed_with line) (first_state small) put_state layout_in_use (stands_first line eight) (omega arith)
    (λ room i lt. none_pending line room i lt)
    (loads_stand line) refl points
  where
    points : (thread : ℕ) → thread < 1 → point_at put_state.points thread ≡ point_in live_layout (load_of (closed_with line) (1 + 1 + thread))
    points zero lt = refl
    points (suc thread) lt = absurd (omega arith)

-- and at epoch 3
pub stands_third : (line : LineState) → ((kept : ℕ) → length (survivor line kept) ≡ 8) → StandsAt live_layout small 3 (closed_with line) put_state
stands_third line eight =
    next_epoch live_layout small 2 (closed_with line) put_state put_state layout_in_use (stands_next line eight) (omega arith)
    (λ room i lt. none_pending line room i lt)
    (loads_stand line) refl points
  where
    points : (thread : ℕ) → thread < 1 → point_at put_state.points thread ≡ point_in live_layout (load_of (closed_with line) (1 + 1 + thread))
    points zero lt = refl
    points (suc thread) lt = absurd (omega arith)

-- the object

-- a shard of the empty map is the empty map
pub no_shard_pairs : shard_pairs small 0 empty ≡ empty
no_shard_pairs = one_map (shard_pairs small 0 empty) empty (λ key. no_pairs small 0 key ∙ sym (get-empty nat_cmp key))

-- the shard has room
room_for_five : is_shard_full small 5 empty ≡ false
room_for_five = ap (λ (m : Pairs). nat_le 7 (len m)) no_shard_pairs ∙ ap (nat_le 7) (len-empty nat_cmp ℕ)

-- the reply to the put
pub new_key : put_reply (get (empty {X = ℕ} {R = nat_cmp}) 5) (is_shard_full small 5 empty) ≡ New
new_key = ap (λ (o : Option ℕ). put_reply o (is_shard_full small 5 empty)) (get-empty nat_cmp 5) ∙ ap (put_reply None) room_for_five

-- the state after it
pub put_leaves : after small (first_state small) put_done ≡ put_state
put_leaves = ap (λ (m : Pairs). record { contents = record { pairs = m; items = [] }; points = record { position = 1 } ∷ [] })
    (ap (λ (o : Option ℕ). put_pairs empty 5 7 o (is_shard_full small 5 empty)) (get-empty nat_cmp 5)
    ∙ ap (λ (b : Bool). put_pairs empty 5 7 None b) room_for_five)
