-- The rows of the queue.
use Rattle.std.proofs.Common.{◌≡◌, ℕ, ◌+◌, ◌-◌, ◌<◌, ◌≤◌, ◌≢◌, ◌==◌, Bool, true, false, List, [], ◌∷◌, ◌++◌, map, length, arith, refl, ap, sym, ◌∙◌, subst, inl, inr, if◌then◌else◌, length-append}
use Rattle.std.proofs.lemmas.Bool.Decides.{eqb_tells, nat_tests}
use Rattle.std.proofs.lemmas.List.{map-append}
use Rattle.seq_object.specs.Object.{rest_of}
use Rattle.room_model.specs.declared.write.Write.{Write}
use Rattle.room_model.specs.Chains.{IsChain, times, is_node, with_word, RoomWords}
use Rattle.room_model.specs.Writes.{write, written, taken_line, is_full, take_write, give_writes, enq_room, deq_item}
use Rattle.room_model.specs.QueueRoom.{last_line, IsQueueRoom}
use Rattle.room_laws.proofs.Totals.{one_where}
use Rattle.room_laws.proofs.Lists.{times-append, times-here, other_than, chain_one, chain_same, chain_more, last_line-more}
use Rattle.room_laws.proofs.Stock.{IsStock, IsTaken, TakesLine, take_written, take, free_after, fresh_after, held_node, free_node, at_most_one}
use Rattle.room_laws.proofs.Dels.{last_in}
use Rattle.seq_object.specs.declared.sizes.Sizes.{Sizes}

-- the room's lines as held and free ones
pub stock_of_queue : (z : Sizes) (r : RoomWords) (items : List ℕ) (room : IsQueueRoom z r items) → IsStock 2 z room.chain room.free r
stock_of_queue z r items room = record { positive = omega arith; low = room.low; high = room.high; freed = room.freed; each = room.each }

-- where no line of a list has its value changed, the values are the same
pub map_same : (f g : ℕ → ℕ) (xs : List ℕ) → ((x : ℕ) → 0 < times x xs → g x ≡ f x) → map g xs ≡ map f xs
map_same f g [] same = refl
map_same f g (x ∷ xs) same =
    let one = times-here x xs in
    let here : g x ≡ f x = same x (omega (arith, one)) in
    let rest : map g xs ≡ map f xs = map_same f g xs (λ y t. same y (omega arith)) in
    rw (here, rest) refl

-- a value is put behind the last, in line n
pub record PutsLast (n value : ℕ) (r r' : RoomWords) : Type 0 where
  pub free : r' 0 0 ≡ free_after r
  pub fresh : r' 0 1 ≡ fresh_after r
  pub count : r' 0 2 ≡ r 0 2 + 1
  pub value_of : r' n 0 ≡ value
  pub next_of : r' n 1 ≡ 0
  pub last : r' 1 1 ≡ n
  pub first_of_empty : r 1 0 ≡ 0 → r' 1 0 ≡ n
  pub first_same : r 1 0 ≢ 0 → r' 1 0 ≡ r 1 0
  pub link : r 1 0 ≢ 0 → r' (r 1 1) 1 ≡ n
  pub nodes : (x w : ℕ) → 2 ≤ x → x ≢ n → (x ≡ r 1 1 → w ≢ 1) → r' x w ≡ r x w

-- the same over plain numbers, behind the write that takes n
record LastWritten (n value first last count : ℕ) (q r' : RoomWords) : Type 0 where
  free : r' 0 0 ≡ q 0 0
  fresh : r' 0 1 ≡ q 0 1
  count_of : r' 0 2 ≡ count
  value_of : r' n 0 ≡ value
  next_of : r' n 1 ≡ 0
  last_is : r' 1 1 ≡ n
  first_of_empty : first ≡ 0 → r' 1 0 ≡ n
  first_same : first ≢ 0 → r' 1 0 ≡ q 1 0
  link : first ≢ 0 → r' last 1 ≡ n
  nodes : (x w : ℕ) → 2 ≤ x → x ≢ n → (x ≡ last → w ≢ 1) → r' x w ≡ q x w

-- the writes of an item at the back, behind the one that takes line n
abbrev last_writes : ℕ → ℕ → ℕ → ℕ → ℕ → List Write
last_writes n value first last count = write n 0 value ∷ write n 1 0 ∷ (if first == 0 then write 1 0 n ∷ write 1 1 n ∷ [] else write last 1 n ∷ write 1 1 n ∷ []) ++ write 0 2 count ∷ []

-- what these writes change
last_written : (n value first last count : ℕ) (q : RoomWords) → 2 ≤ n → (first ≢ 0 → (2 ≤ last) × (last ≢ n)) → LastWritten n value first last count q (written q (last_writes n value first last count))
last_written n value first last count q low far = elim (eqb_tells first 0) [
  | inl h ↦ subst (λ (b : Bool). LastWritten n value first last count q (written q (write n 0 value ∷ write n 1 0 ∷ (if b then write 1 0 n ∷ write 1 1 n ∷ [] else write last 1 n ∷ write 1 1 n ∷ []) ++ write 0 2 count ∷ []))) (sym h.0) (record {
    free = grind (arith, nat_tests);
    fresh = grind (arith, nat_tests);
    count_of = grind (arith, nat_tests);
    value_of = grind (arith, nat_tests);
    next_of = grind (arith, nat_tests);
    last_is = grind (arith, nat_tests);
    first_of_empty = λ e. grind (arith, nat_tests);
    first_same = λ ne. absurd (ne h.1);
    link = λ ne. absurd (ne h.1);
    nodes = λ x w a b c. grind (arith, nat_tests);
  })
  | inr h ↦ let two = (far h.1).0 in let apart : last ≢ n = (far h.1).1 in subst (λ (b : Bool). LastWritten n value first last count q (written q (write n 0 value ∷ write n 1 0 ∷ (if b then write 1 0 n ∷ write 1 1 n ∷ [] else write last 1 n ∷ write 1 1 n ∷ []) ++ write 0 2 count ∷ []))) (sym h.0) (record {
    free = grind (arith, nat_tests);
    fresh = grind (arith, nat_tests);
    count_of = grind (arith, nat_tests);
    value_of = grind (arith, nat_tests);
    next_of = grind (arith, nat_tests);
    last_is = grind (arith, nat_tests);
    first_of_empty = λ e. absurd (h.1 e);
    first_same = λ ne. grind (arith, nat_tests);
    link = λ ne. grind (arith, nat_tests);
    nodes = λ x w a b c. grind (arith, nat_tests);
  })
]

-- what the writes of an item at the back change
pub puts_last : (value : ℕ) (r : RoomWords) → 2 ≤ taken_line r → (r 1 0 ≢ 0 → (2 ≤ r 1 1) × (r 1 1 ≢ taken_line r)) → PutsLast (taken_line r) value r (written r (enq_room r value))
puts_last value r low far =
    let n = taken_line r in
    let q = with_word r (take_write r).line (take_write r).word (take_write r).value in
    let takes : TakesLine r q = take_written r in
    let l = last_written n value (r 1 0) (r 1 1) (r 0 2 + 1) q low far in
    record {
      free = l.free ∙ takes.free;
      fresh = l.fresh ∙ takes.fresh;
      count = l.count_of;
      value_of = l.value_of;
      next_of = l.next_of;
      last = l.last_is;
      first_of_empty = l.first_of_empty;
      first_same = λ ne. l.first_same ne ∙ takes.others 1 0 (omega arith);
      link = l.link;
      nodes = λ x w two ne other. l.nodes x w two ne other ∙ takes.others x w (omega (arith, two));
    }

-- where a chain begins, it is not empty, and its last line is a node
pub last_node : (z : Sizes) (r : RoomWords) (items : List ℕ) (room : IsQueueRoom z r items) (n : ℕ) → times n room.chain ≡ 0 → r 1 0 ≢ 0 → (2 ≤ r 1 1) × (r 1 1 ≢ n)
last_node z r items room n out some = go room.chain room.chained room.last (held_node 2 z room.chain room.free r (stock_of_queue z r items room)) out
  where
    go : (xs : List ℕ) → IsChain (λ x. r x 1) (r 1 0) xs → r 1 1 ≡ last_line 0 xs → ((x : ℕ) → 0 < times x xs → (2 ≤ x) × (x < r 0 1)) → times n xs ≡ 0 → (2 ≤ r 1 1) × (r 1 1 ≢ n)
    go [] chain last node out = absurd (some chain)
    go (x ∷ xs) chain last node out =
        let there : 1 ≤ times (last_line x xs) ((x ∷ xs) ++ []) = last_in x xs [] in
        let nothing = times-append (last_line x xs) (x ∷ xs) [] in
        let in_chain : 0 < times (r 1 1) (x ∷ xs) = let e = ap (λ (k : ℕ). times k (x ∷ xs)) last in omega (arith, there, nothing, e) in
        ((node (r 1 1) in_chain).0, other_than n (r 1 1) (x ∷ xs) out in_chain)

-- the line that the queue room takes
pub enq_taken : (z : Sizes) (r : RoomWords) (items : List ℕ) (room : IsQueueRoom z r items) → is_full z.lines r ≡ false → IsTaken 2 z room.chain r (taken_line r) (fresh_after r) (free_after r)
enq_taken z r items room space = take 2 z room.chain room.free r (stock_of_queue z r items room) space

-- what the writes of an item at the back change, in a queue room
pub enq_puts_last : (z : Sizes) (r : RoomWords) (items : List ℕ) (value : ℕ) (room : IsQueueRoom z r items) → is_full z.lines r ≡ false → PutsLast (taken_line r) value r (written r (enq_room r value))
enq_puts_last z r items value room space =
    let taken = enq_taken z r items room space in
    puts_last value r taken.line_low (last_node z r items room (taken_line r) taken.held_apart)

-- the chain with line n behind it
chain_with : (n value : ℕ) (r r' : RoomWords) (xs : List ℕ) → PutsLast n value r r' → n ≢ 0 → times n xs ≡ 0 → ((x : ℕ) → 0 < times x xs → 2 ≤ x) → ((x : ℕ) → times x xs ≤ 1) → r 1 1 ≡ last_line 0 xs
    → IsChain (λ x. r x 1) (r 1 0) xs → IsChain (λ x. r' x 1) (r' 1 0) (xs ++ n ∷ [])
chain_with n value r r' [] put some out far once last h = (put.first_of_empty h, some, put.next_of)
chain_with n value r r' (x ∷ xs) put some out far once last h =
    let begins : r 1 0 ≢ 0 = λ e. h.1 (sym h.0 ∙ e) in
    let there : 1 ≤ times (last_line x xs) ((x ∷ xs) ++ []) = last_in x xs [] in
    let nothing = times-append (last_line x xs) (x ∷ xs) [] in
    let one : times (last_line x xs) (x ∷ xs) ≡ 1 = let o = once (last_line x xs) in omega (arith, o, there, nothing) in
    let link : r' (last_line x xs) 1 ≡ n = ap (λ (k : ℕ). r' k 1) (sym last) ∙ put.link begins in
    let more = chain_more (λ y. r y 1) (λ y. r' y 1) (r 1 0) x n xs some put.next_of link out one (λ y t ne other. put.nodes y 1 (far y t) ne (λ e. absurd (other (e ∙ last)))) h in
    subst (λ (s : ℕ). IsChain (λ y. r' y 1) s ((x ∷ xs) ++ n ∷ [])) (sym (put.first_same begins)) more

-- a room with a value behind the last stands for the items with it at the back
pub enq_room_law : (z : Sizes) (r r' : RoomWords) (items : List ℕ) (value : ℕ) → IsQueueRoom z r items → is_full z.lines r ≡ false → PutsLast (taken_line r) value r r' → IsQueueRoom z r' (items ++ value ∷ [])
enq_room_law z r r' items value room space put =
    let n = taken_line r in
    let taken = enq_taken z r items room space in
    let stock = stock_of_queue z r items room in
    let far : (x : ℕ) → 0 < times x room.chain → 2 ≤ x = λ x t. (held_node 2 z room.chain room.free r stock x t).0 in
    let once : (x : ℕ) → times x room.chain ≤ 1 = λ x. let o = at_most_one (is_node 2 (r 0 1) x) (times x room.chain + times x room.free) (room.each x) in omega (arith, o) in
    let some : n ≢ 0 = λ e. let low = taken.line_low in omega (arith, e, low) in
    let key_same : (x : ℕ) → 0 < times x room.chain → r' x 0 ≡ r x 0 = λ x t. put.nodes x 0 (far x t) (other_than n x room.chain taken.held_apart t) (λ e. λ (z : 0 ≡ 1). omega (arith, z)) in
    let rest_same : (x : ℕ) → 0 < times x taken.rest → r' x 0 ≡ r x 0 = λ x t.
    put.nodes x 0 (rest_node (fresh_after r) x (times x (n ∷ room.chain)) (times x taken.rest) t (taken.each x)) (other_than n x taken.rest taken.rest_apart t) (λ e. λ (z : 0 ≡ 1). omega (arith, z)) in
    record {
      chain = room.chain ++ n ∷ [];
      free = taken.rest;
      low = let e = put.fresh in let l = taken.fresh_low in omega (arith, e, l);
      high = let e = put.fresh in let l = taken.fresh_high in omega (arith, e, l);
      chained = chain_with n value r r' room.chain put some taken.held_apart far once room.last room.chained;
      last = put.last ∙ sym (last_line-more 0 n room.chain);
      freed = subst (λ (s : ℕ). IsChain (λ x. r' x 0) s taken.rest) (sym put.free) (chain_same (λ x. r x 0) (λ x. r' x 0) (free_after r) taken.rest rest_same taken.freed);
      each = λ x. let a = times-append x room.chain (n ∷ []) in let b = taken.each x in let f = ap (λ (k : ℕ). one_where (is_node 2 k x)) put.fresh in omega (arith, a, b, f);
      count = let a : length (room.chain ++ n ∷ []) ≡ length room.chain + 1 = length-append room.chain (n ∷ []) in let e = put.count in let c = room.count in omega (arith, a, e, c);
      listed = ap (λ (xs : List ℕ). xs ++ value ∷ []) (room.listed ∙ sym (map_same (λ x. r x 0) (λ x. r' x 0) room.chain key_same))
          ∙ ap (λ (v : ℕ). map (λ x. r' x 0) room.chain ++ v ∷ []) (sym put.value_of) ∙ sym (map-append (λ x. r' x 0) room.chain (n ∷ []));
    }
  where
    rest_node : (fresh x h t : ℕ) → 0 < t → h + t ≡ one_where (is_node 2 fresh x) → 2 ≤ x
    rest_node fresh x h t pos e = grind (arith, nat_tests)

-- the first node is taken off, and is the first free line
pub record TakesFirst (n : ℕ) (r r' : RoomWords) : Type 0 where
  pub free : r' 0 0 ≡ n
  pub fresh : r' 0 1 ≡ r 0 1
  pub count : r' 0 2 ≡ r 0 2 - 1
  pub next_free : r' n 0 ≡ r 0 0
  pub first : r' 1 0 ≡ r n 1
  pub last_of_empty : r n 1 ≡ 0 → r' 1 1 ≡ 0
  pub last_same : r n 1 ≢ 0 → r' 1 1 ≡ r 1 1
  pub nodes : (x w : ℕ) → 2 ≤ x → x ≢ n → r' x w ≡ r x w

-- the writes that take node n off, by whether it is the last
abbrev off_writes : RoomWords → ℕ → Bool → List Write
off_writes r n b = (if b then write 1 0 (r n 1) ∷ write 1 1 0 ∷ [] else write 1 0 (r n 1) ∷ []) ++ write n 0 (r 0 0) ∷ write 0 0 n ∷ write 0 2 (r 0 2 - 1) ∷ []

-- what these writes change
off_written : (n : ℕ) (r : RoomWords) → 2 ≤ n → TakesFirst n r (written r (off_writes r n (r n 1 == 0)))
off_written n r low = elim (eqb_tells (r n 1) 0) [
  | inl h ↦ subst (λ (b : Bool). TakesFirst n r (written r (off_writes r n b))) (sym h.0) (record {
    free = grind (arith, nat_tests);
    fresh = grind (arith, nat_tests);
    count = grind (arith, nat_tests);
    next_free = grind (arith, nat_tests);
    first = grind (arith, nat_tests);
    last_of_empty = λ e. grind (arith, nat_tests);
    last_same = λ ne. absurd (ne h.1);
    nodes = λ x w a b. grind (arith, nat_tests);
  })
  | inr h ↦ subst (λ (b : Bool). TakesFirst n r (written r (off_writes r n b))) (sym h.0) (record {
    free = grind (arith, nat_tests);
    fresh = grind (arith, nat_tests);
    count = grind (arith, nat_tests);
    next_free = grind (arith, nat_tests);
    first = grind (arith, nat_tests);
    last_of_empty = λ e. absurd (h.1 e);
    last_same = λ ne. grind (arith, nat_tests);
    nodes = λ x w a b. grind (arith, nat_tests);
  })
]

-- what the writes of the front item taken off change
pub takes_first : (r : RoomWords) → 2 ≤ r 1 0 → TakesFirst (r 1 0) r (written r (deq_item r))
takes_first r low = both (r (r 1 0) 1 == 0) (off_written (r 1 0) r low)
  where
    both : (b : Bool) → TakesFirst (r 1 0) r (written r (off_writes r (r 1 0) b)) → TakesFirst (r 1 0) r (written r ((if b then write 1 0 (r (r 1 0) 1) ∷ write 1 1 0 ∷ [] else write 1 0 (r (r 1 0) 1) ∷ []) ++ give_writes r (r 1 0) ++ write 0 2 (r 0 2 - 1) ∷ []))
    both true h = h
    both false h = h

-- where the first is 0, there is no item
pub no_first : (z : Sizes) (r : RoomWords) (items : List ℕ) → IsQueueRoom z r items → r 1 0 ≡ 0 → items ≡ []
no_first z r items room none = room.listed ∙ ap (map (λ x. r x 0)) (chain_one (λ x. r x 1) (r 1 0) room.chain [] room.chained none)

-- where it is not, it is a node, and the first of the chain
pub record HasFirst (z : Sizes) (r : RoomWords) (items : List ℕ) (room : IsQueueRoom z r items) : Type 0 where
  pub rest : List ℕ
  pub is : room.chain ≡ r 1 0 ∷ rest
  pub low : 2 ≤ r 1 0
  pub high : r 1 0 < r 0 1

-- the first line, where there is one
pub has_first : (z : Sizes) (r : RoomWords) (items : List ℕ) (room : IsQueueRoom z r items) → r 1 0 ≢ 0 → HasFirst z r items room
has_first z r items room some = go room.chain refl room.chained
  where
    go : (xs : List ℕ) → room.chain ≡ xs → IsChain (λ x. r x 1) (r 1 0) xs → HasFirst z r items room
    go [] is chain = absurd (some chain)
    go (x ∷ xs) is chain =
        let here = times-here x xs in
        let there : 0 < times x room.chain = let e = ap (times x) is in omega (arith, here, e) in
        let node = held_node 2 z room.chain room.free r (stock_of_queue z r items room) x there in
        let first : r 1 0 ≡ x = chain.0 in
        record { rest = xs; is = is ∙ ap (λ (y : ℕ). y ∷ xs) (sym first); low = omega (arith, first, node.0); high = omega (arith, first, node.1) }

-- the last of the rest, where the first is taken off
last_behind : (next : ℕ → ℕ) (n last last' : ℕ) (rest : List ℕ) → IsChain next (next n) rest → last ≡ last_line n rest → (next n ≡ 0 → last' ≡ 0) → (next n ≢ 0 → last' ≡ last) → last' ≡ last_line 0 rest
last_behind next n last last' [] chain is empty more = empty chain
last_behind next n last last' (y ∷ ys) chain is empty more = more (λ e. chain.1 (sym chain.0 ∙ e)) ∙ is

-- a room whose first node is taken off stands for the rest of the items
pub deq_item_law : (z : Sizes) (r r' : RoomWords) (items : List ℕ) → IsQueueRoom z r items → r 1 0 ≢ 0 → TakesFirst (r 1 0) r r' → IsQueueRoom z r' (rest_of items) × (items ≡ r (r 1 0) 0 ∷ rest_of items)
deq_item_law z r r' items room some off =
    let n = r 1 0 in
    let f = has_first z r items room some in
    let chain : IsChain (λ x. r x 1) (r 1 0) (n ∷ f.rest) = subst (IsChain (λ x. r x 1) (r 1 0)) f.is room.chained in
    let all : items ≡ r n 0 ∷ map (λ x. r x 0) f.rest = room.listed ∙ ap (map (λ x. r x 0)) f.is in
    let behind : rest_of items ≡ map (λ x. r x 0) f.rest = ap rest_of all in
    let count : (x : ℕ) → times x room.chain ≡ times x (n ∷ f.rest) = λ x. ap (times x) f.is in
    let far : (x : ℕ) → 0 < times x f.rest → 2 ≤ x = λ x t. (held_node 2 z room.chain room.free r (stock_of_queue z r items room) x (let c = count x in omega (arith, c, t))).0 in
    let out : (times n f.rest ≡ 0) × (times n room.free ≡ 0) = let c = count n in let h = times-here n f.rest in let o = at_most_one (is_node 2 (r 0 1) n) (times n room.chain + times n room.free) (room.each n) in (omega (arith, c, h, o), omega (arith, c, h, o)) in
    let words : (x w : ℕ) → 0 < times x f.rest → r' x w ≡ r x w = λ x w t. off.nodes x w (far x t) (other_than n x f.rest out.0 t) in
    let free_word : (x : ℕ) → 0 < times x room.free → r' x 0 ≡ r x 0 = λ x t. off.nodes x 0 (free_node 2 z room.chain room.free r (stock_of_queue z r items room) x t).0 (other_than n x room.free out.1 t) in
    let next : ℕ → ℕ = λ x. r x 1 in
    let rest_chain : IsChain (λ x. r' x 1) (r n 1) f.rest = chain_same (λ x. r x 1) (λ x. r' x 1) (r n 1) f.rest (λ x t. words x 1 t) chain.2 in
    let new : IsQueueRoom z r' (rest_of items) = record {
      chain = f.rest;
      free = n ∷ room.free;
      low = let e = off.fresh in let l = room.low in omega (arith, e, l);
      high = let e = off.fresh in let l = room.high in omega (arith, e, l);
      chained = subst (λ (s : ℕ). IsChain (λ x. r' x 1) s f.rest) (sym off.first) rest_chain;
      last = last_behind (λ x. r x 1) n (r 1 1) (r' 1 1) f.rest chain.2 (room.last ∙ ap (last_line 0) f.is) off.last_of_empty off.last_same;
      freed = (off.free, some, subst (λ (s : ℕ). IsChain (λ x. r' x 0) s room.free) (sym off.next_free) (chain_same (λ x. r x 0) (λ x. r' x 0) (r 0 0) room.free free_word room.freed));
      each = λ x. let c = count x in let e = room.each x in let g = ap (λ (k : ℕ). one_where (is_node 2 k x)) off.fresh in omega (arith, c, e, g);
      count = let e = off.count in let c = room.count in let l : length room.chain ≡ length (n ∷ f.rest) = ap (λ (xs : List ℕ). length xs) f.is in omega (arith, e, c, l);
      listed = behind ∙ sym (map_same (λ x. r x 0) (λ x. r' x 0) f.rest (λ x t. words x 0 t));
    } in
    (new, all ∙ ap (λ (ys : List ℕ). r n 0 ∷ ys) (sym behind))
