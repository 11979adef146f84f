-- No prefix of a put's stores makes the count of an empty map room more than 1.
use Rattle.std.proofs.Common.{◌≡◌, ◌≢◌, ℕ, ◌+◌, ◌≤◌, ◌==◌, ◌&&◌, ◌||◌, zero, suc, List, [], ◌∷◌, ◌++◌, take, if◌then◌else◌, ap, ◌∙◌, arith, sym}
use Rattle.std.specs.Ordering.{nat_cmp}
use Rattle.std.specs.FinMap.{empty, len, len-empty}
use Rattle.std.proofs.lemmas.Bool.Decides.{nat_tests}
use Rattle.seq_object.specs.declared.command.Command.TheVariants.{Put}
use Rattle.seq_object.specs.Object.{shard_pairs}
use Rattle.room_model.specs.declared.write.Write.{Write}
use Rattle.room_model.specs.declared.write.PlannedStore.{PlannedStore}
use Rattle.room_model.specs.Chains.{RoomWords, with_word}
use Rattle.room_model.specs.MapRoom.{live_layout, IsMapRoom}
use Rattle.room_model.specs.Writes.{write, store, stored_in, touches, write_stores, stores_behind, taken_line, is_full, node_of, put_writes, put_absent, put_present, command_stores}
use Rattle.room_laws.proofs.Tests.{by_test, by_Bool}
use Rattle.room_laws.proofs.StockLaws.{map_header_law}
use Rattle.life_laws.specs.CutExamples.{small}
use Rattle.life_laws.proofs.Formats.{layout_in_use}
use Rattle.life_laws.proofs.Memories.{no_shard_pairs}

-- an empty map room counts no pair
pub count_none : (r : RoomWords) → IsMapRoom live_layout small 0 r (shard_pairs small 0 empty) → r 0 2 ≡ 0
count_none r room = (map_header_law live_layout small 0 r (shard_pairs small 0 empty) layout_in_use room).count ∙ ap len no_shard_pairs ∙ len-empty nat_cmp ℕ

-- each of these stores that goes to the count stores at most 1
abbrev AreLow : List PlannedStore → Type 0
AreLow [] = Unit {0}
AreLow (s ∷ ss) = (s.line ≡ 0 → s.word ≡ 2 → s.value ≤ 1) × AreLow ss

-- and so does each of these writes
abbrev AreLowWrites : List Write → Type 0
AreLowWrites [] = Unit {0}
AreLowWrites (x ∷ xs) = (x.line ≡ 0 → x.word ≡ 2 → x.value ≤ 1) × AreLowWrites xs

-- two lists of such stores
low-append : (ss ts : List PlannedStore) → AreLow ss → AreLow ts → AreLow (ss ++ ts)
low-append [] ts a b = b
low-append (s ∷ ss) ts a b = (a.0, low-append ss ts a.1 b)

-- the stores of one write
write_low : (epoch : ℕ) (r : RoomWords) (before : List PlannedStore) (x : Write) → (x.line ≡ 0 → x.word ≡ 2 → x.value ≤ 1)
    → AreLow (write_stores epoch r before x)
write_low epoch r before x low =
    by_Bool (λ b. AreLow (if b then store x.line x.word x.value ∷ [] else store x.line 3 (r x.line 0) ∷ store x.line 4 (r x.line 1) ∷ store x.line 5 (r x.line 2) ∷ store x.line 6 epoch ∷ store x.line x.word x.value ∷ []))
    ((r x.line 6 == epoch) || touches x.line before)
    (λ _. (low, tt))
    (λ _. (
      (λ line word. absurd (omega (arith, word))),
      (
        (λ line word. absurd (omega (arith, word))),
        (
          (λ line word. absurd (omega (arith, word))),
          ((λ line word. absurd (omega (arith, word))), (low, tt)),
        ),
      ),
    ))

-- the stores of all writes
stores_low : (epoch : ℕ) (r : RoomWords) (before : List PlannedStore) (xs : List Write) → AreLow before → AreLowWrites xs
    → AreLow (stores_behind epoch r before xs)
stores_low epoch r before [] a low = a
stores_low epoch r before (x ∷ xs) a low = stores_low epoch r (before ++ write_stores epoch r before x) xs
    (low-append before (write_stores epoch r before x) a (write_low epoch r before x low.0)) low.1

-- the count behind one store
with_low : (r : RoomWords) (line word value : ℕ) → (line ≡ 0 → word ≡ 2 → value ≤ 1) → r 0 2 ≤ 1 → with_word r line word value 0 2 ≤ 1
with_low r line word value low le = by_test (λ b. (if b && (2 == word) then value else r 0 2) ≤ 1) 0 line
    (λ here. by_test (λ b. (if b then value else r 0 2) ≤ 1) 2 word (λ count. low (sym here) (sym count)) (λ _. le)) (λ _. le)

-- the count behind a prefix of the stores
prefix_low : (r : RoomWords) (ss : List PlannedStore) (n : ℕ) → AreLow ss → r 0 2 ≤ 1 → stored_in r (take n ss) 0 2 ≤ 1
prefix_low r [] zero a le = le
prefix_low r [] (suc n) a le = le
prefix_low r (s ∷ ss) zero a le = le
prefix_low r (s ∷ ss) (suc n) a le = prefix_low (with_word r s.line s.word s.value) ss n a.1 (with_low r s.line s.word s.value a.0 le)

-- the line that is taken is not the header
not_header : (r : RoomWords) → 9 ≤ r 0 1 → taken_line r ≢ 0
not_header r low = λ e. absurd (grind (arith, nat_tests))

-- the writes of a put of an absent key
absent_low : (r : RoomWords) → r 0 2 ≡ 0 → 9 ≤ r 0 1 → AreLowWrites (put_absent live_layout small r 5 7)
absent_low r none low = (
  (λ line word. absurd (by_Bool (λ b. (if b then write 0 1 (r 0 1 + 1) else write 0 0 (r (r 0 0) 0)).word ≢ 2) (r 0 0 == 0)
      (λ _ e. omega (arith, e)) (λ _ e. omega (arith, e)) word)),
  (
    (λ line word. absurd (omega (arith, word))),
    (
      (λ line word. absurd (omega (arith, word))),
      ((λ line word. absurd (not_header r low line)), ((λ line word. absurd (omega (arith, line))), ((λ line word. omega (arith, none)), tt))),
    ),
  ),
)

-- the writes of the put
put_low : (r : RoomWords) → r 0 2 ≡ 0 → 9 ≤ r 0 1 → AreLowWrites (put_writes live_layout small r 5 7)
put_low r none low =
    by_Bool (λ b. AreLowWrites (if b then (if is_full small.lines r then [] else put_absent live_layout small r 5 7) else put_present (node_of live_layout small r 5) 7))
    (node_of live_layout small r 5 == 0)
    (λ _. by_Bool (λ b. AreLowWrites (if b then [] else put_absent live_layout small r 5 7)) (is_full small.lines r) (λ _. tt) (λ _. absent_low r none low))
    (λ _. ((λ line word. absurd (omega (arith, word))), tt))

-- after each prefix of the put's stores the count is at most 1
pub low_count : (r : RoomWords) (made : ℕ) → IsMapRoom live_layout small 0 r (shard_pairs small 0 empty)
    → stored_in r (take made (command_stores live_layout small 1 0 r (Put 5 7))) 0 2 ≤ 1
low_count r made room = let none = count_none r room in
    prefix_low r (command_stores live_layout small 1 0 r (Put 5 7)) made (stores_low 1 r [] (put_writes live_layout small r 5 7) tt (put_low r none room.low))
    (omega (arith, none))
