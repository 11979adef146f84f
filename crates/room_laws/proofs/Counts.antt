-- How many stores the writes of a command come to: a line's first write has four more than one, and each other write has one.
use Rattle.std.proofs.Common.{◌≡◌, ℕ, ◌+◌, ◌-◌, ◌≤◌, ◌==◌, ◌||◌, Bool, true, false, List, [], ◌∷◌, ◌++◌, length, refl, sym, ap, ◌∙◌, subst, inl, inr, arith, if◌then◌else◌, eq-eqb, length-append}
use Rattle.std.proofs.lemmas.Bool.Decides.{eqb_tells}
use Rattle.seq_object.specs.declared.command.Command.{Command}
use Rattle.seq_object.specs.declared.command.Command.TheVariants.{Put, Get, Del, Enq, Deq, Take}
use Rattle.seq_object.specs.Object.{room_of}
use Rattle.room_model.specs.declared.write.Write.{Write}
use Rattle.room_model.specs.declared.write.PlannedStore.{PlannedStore}
use Rattle.room_model.specs.Chains.{RoomWords}
use Rattle.room_model.specs.MapRoom.{Layout, bucket_of}
use Rattle.room_model.specs.Writes.{write, writes_of, store, touches, write_stores, stores_behind, taken_line, is_full, take_write, give_writes, node_of, node_before, put_absent, put_present, put_writes, unlink_write, del_present, del_writes, enq_room, enq_writes, deq_item, deq_writes}
use Rattle.room_laws.specs.Stores.{most_stores, StoreCountsLaw}
use Rattle.room_laws.proofs.Tests.{by_test, by_Bool}
use Rattle.seq_object.specs.declared.sizes.Sizes.{Sizes}

-- whether a line is one of these
abbrev is_in : ℕ → List ℕ → Bool
is_in line [] = false
is_in line (y ∷ ys) = (y == line) || is_in line ys

-- the most stores of writes to these lines, in order, where those other lines were written before
abbrev cost : List ℕ → List ℕ → ℕ
cost seen [] = 0
cost seen (y ∷ ys) = (if is_in y seen then 1 else 5) + cost (y ∷ seen) ys

-- the lines of writes
abbrev lines_of : List Write → List ℕ
lines_of [] = []
lines_of (x ∷ xs) = x.line ∷ lines_of xs

-- each of these lines has a store
abbrev AreTouched : List ℕ → List PlannedStore → Type 0
AreTouched seen before = (line : ℕ) → is_in line seen ≡ true → touches line before ≡ true

-- a store more leaves a touched line touched
touches-append : (line : ℕ) (ss ts : List PlannedStore) → touches line ss ≡ true → touches line (ss ++ ts) ≡ true
touches-append line [] ts h = absurd (cc h)
touches-append line (s ∷ ss) ts h = by_Bool (λ b. (b || touches line ss) ≡ true → (b || touches line (ss ++ ts)) ≡ true) (s.line == line) (λ _ q. refl) (λ _ q. touches-append line ss ts q) h

-- stores behind that touch a line
touches-behind : (line : ℕ) (ss ts : List PlannedStore) → touches line ts ≡ true → touches line (ss ++ ts) ≡ true
touches-behind line [] ts h = h
touches-behind line (s ∷ ss) ts h = by_Bool (λ b. (b || touches line (ss ++ ts)) ≡ true) (s.line == line) (λ _. refl) (λ _. touches-behind line ss ts h)

-- the stores of a write touch its line
write_touches : (epoch : ℕ) (r : RoomWords) (before : List PlannedStore) (x : Write) → touches x.line (write_stores epoch r before x) ≡ true
write_touches epoch r before x =
    by_Bool (λ b. touches x.line (if b then store x.line x.word x.value ∷ [] else store x.line 3 (r x.line 0) ∷ store x.line 4 (r x.line 1) ∷ store x.line 5 (r x.line 2) ∷ store x.line 6 epoch ∷ store x.line x.word x.value ∷ []) ≡ true)
    ((r x.line 6 == epoch) || touches x.line before)
    (λ _. ap (λ (b : Bool). b || false) (eq-eqb x.line x.line refl))
    (λ _. ap (λ (b : Bool). b || touches x.line (store x.line 4 (r x.line 1) ∷ store x.line 5 (r x.line 2) ∷ store x.line 6 epoch ∷ store x.line x.word x.value ∷ [])) (eq-eqb x.line x.line refl))

-- the stores of a write, by whether its line was touched
abbrev stores_by : ℕ → RoomWords → Write → Bool → List PlannedStore
stores_by epoch r x b = if b then store x.line x.word x.value ∷ [] else store x.line 3 (r x.line 0) ∷ store x.line 4 (r x.line 1) ∷ store x.line 5 (r x.line 2) ∷ store x.line 6 epoch ∷ store x.line x.word x.value ∷ []

-- how many stores a write has
write_length : (epoch : ℕ) (r : RoomWords) (before : List PlannedStore) (x : Write) (seen : List ℕ) → AreTouched seen before → length (write_stores epoch r before x) ≤ (if is_in x.line seen then 1 else 5)
write_length epoch r before x seen touched =
    by_Bool (λ b. (b ≡ true → touches x.line before ≡ true) → length (write_stores epoch r before x) ≤ (if b then 1 else 5)) (is_in x.line seen)
    (λ _ t. again (t refl)) (λ _ t. at_most) (touched x.line)
  where
    again : touches x.line before ≡ true → length (stores_by epoch r x ((r x.line 6 == epoch) || touches x.line before)) ≤ 1
    again t = subst (λ (q : Bool). length (stores_by epoch r x ((r x.line 6 == epoch) || q)) ≤ 1) (sym t) (by_Bool (λ b. length (stores_by epoch r x (b || true)) ≤ 1) (r x.line 6 == epoch) (λ _. omega arith) (λ _. omega arith))

    at_most : length (stores_by epoch r x ((r x.line 6 == epoch) || touches x.line before)) ≤ 5
    at_most = by_Bool (λ b. length (stores_by epoch r x b) ≤ 5) ((r x.line 6 == epoch) || touches x.line before) (λ _. omega arith) (λ _. omega arith)

-- the stores of writes behind these are at most the cost more
behind_cost : (epoch : ℕ) (r : RoomWords) (before : List PlannedStore) (ws : List Write) (seen : List ℕ) → AreTouched seen before → length (stores_behind epoch r before ws) ≤ length before + cost seen (lines_of ws)
behind_cost epoch r before [] seen touched = omega arith
behind_cost epoch r before (x ∷ xs) seen touched =
    let here = write_length epoch r before x seen touched in
    let all : length (before ++ write_stores epoch r before x) ≡ length before + length (write_stores epoch r before x) = length-append before (write_stores epoch r before x) in
    let rest = behind_cost epoch r (before ++ write_stores epoch r before x) xs (x.line ∷ seen) more in
    omega (arith, here, all, rest)
  where
    more : (line : ℕ) → ((x.line == line) || is_in line seen) ≡ true → touches line (before ++ write_stores epoch r before x) ≡ true
    more line h = elim (eqb_tells x.line line) [
      | inl e ↦ subst (λ (n : ℕ). touches n (before ++ write_stores epoch r before x) ≡ true) e.1 (touches-behind x.line before (write_stores epoch r before x) (write_touches epoch r before x))
      | inr e ↦ touches-append line before (write_stores epoch r before x) (touched line (sym (ap (λ (b : Bool). b || is_in line seen) e.0) ∙ h))
    ]

-- the stores of writes are at most their cost
pub stores_cost : (epoch : ℕ) (r : RoomWords) (ws : List Write) → length (stores_behind epoch r [] ws) ≤ cost [] (lines_of ws)
stores_cost epoch r ws = let c = behind_cost epoch r [] ws [] (λ line h. absurd (cc h)) in omega (arith, c)

-- a line that was written before
seen_before : (line : ℕ) (front back : List ℕ) → is_in line (front ++ line ∷ back) ≡ true
seen_before line [] back = ap (λ (b : Bool). b || is_in line back) (eq-eqb line line refl)
seen_before line (y ∷ ys) back = by_Bool (λ b. (b || is_in line (ys ++ line ∷ back)) ≡ true) (y == line) (λ _. refl) (λ _. seen_before line ys back)

-- the most stores of a write, by whether its line was written before
abbrev one_or_five : Bool → ℕ
one_or_five b = if b then 1 else 5

-- a first or a later write
any : (b : Bool) → one_or_five b ≤ 5
any true = omega arith
any false = omega arith

-- a later write
later : (b : Bool) → b ≡ true → one_or_five b ≡ 1
later true h = refl
later false h = absurd (cc h)

-- the lines of a put of an absent key
put_cost : (a n h : ℕ) → cost [] (a ∷ n ∷ n ∷ n ∷ h ∷ a ∷ []) ≤ 18
put_cost a n h =
    let second = any (is_in n (a ∷ [])) in
    let third = later (is_in n (n ∷ a ∷ [])) (seen_before n [] (a ∷ [])) in
    let fourth = later (is_in n (n ∷ n ∷ a ∷ [])) (seen_before n [] (n ∷ a ∷ [])) in
    let fifth = any (is_in h (n ∷ n ∷ n ∷ a ∷ [])) in
    let sixth = later (is_in a (h ∷ n ∷ n ∷ n ∷ a ∷ [])) (seen_before a (h ∷ n ∷ n ∷ n ∷ []) []) in
    omega (arith, second, third, fourth, fifth, sixth)

-- the lines of a removal of a key that is there
del_cost : (u n a : ℕ) → cost [] (u ∷ n ∷ a ∷ a ∷ []) ≤ 16
del_cost u n a =
    let second = any (is_in n (u ∷ [])) in
    let third = any (is_in a (n ∷ u ∷ [])) in
    let fourth = later (is_in a (a ∷ n ∷ u ∷ [])) (seen_before a [] (n ∷ u ∷ [])) in
    omega (arith, second, third, fourth)

-- the lines of an item at the back
enq_cost : (a n l e : ℕ) → cost [] (a ∷ n ∷ n ∷ l ∷ e ∷ a ∷ []) ≤ 22
enq_cost a n l e =
    let second = any (is_in n (a ∷ [])) in
    let third = later (is_in n (n ∷ a ∷ [])) (seen_before n [] (a ∷ [])) in
    let fourth = any (is_in l (n ∷ n ∷ a ∷ [])) in
    let fifth = any (is_in e (l ∷ n ∷ n ∷ a ∷ [])) in
    let sixth = later (is_in a (e ∷ l ∷ n ∷ n ∷ a ∷ [])) (seen_before a (e ∷ l ∷ n ∷ n ∷ []) []) in
    omega (arith, second, third, fourth, fifth, sixth)

-- the lines of the last item taken off
last_cost : (e n a : ℕ) → cost [] (e ∷ e ∷ n ∷ a ∷ a ∷ []) ≤ 17
last_cost e n a =
    let second = later (is_in e (e ∷ [])) (seen_before e [] []) in
    let third = any (is_in n (e ∷ e ∷ [])) in
    let fourth = any (is_in a (n ∷ e ∷ e ∷ [])) in
    let fifth = later (is_in a (a ∷ n ∷ e ∷ e ∷ [])) (seen_before a [] (n ∷ e ∷ e ∷ [])) in
    omega (arith, second, third, fourth, fifth)

-- the line of the write that takes a line
take_line : (r : RoomWords) → (take_write r).line ≡ 0
take_line r = by_Bool (λ b. (if b then write 0 1 (r 0 1 + 1) else write 0 0 (r (r 0 0) 0)).line ≡ 0) (r 0 0 == 0) (λ _. refl) (λ _. refl)

-- the costs of the writes of each command
put_writes_cost : (layout : Layout) (z : Sizes) (r : RoomWords) (key value : ℕ) → cost [] (lines_of (put_writes layout z r key value)) ≤ 18
put_writes_cost layout z r key value =
    by_test (λ b. cost [] (lines_of (if b then (if is_full z.lines r then [] else put_absent layout z r key value) else put_present (node_of layout z r key) value)) ≤ 18) (node_of layout z r key) 0
    (λ _. by_Bool (λ b. cost [] (lines_of (if b then [] else put_absent layout z r key value)) ≤ 18) (is_full z.lines r) (λ _. omega arith)
    (λ _. subst (λ (a : ℕ). cost [] (a ∷ taken_line r ∷ taken_line r ∷ taken_line r ∷ layout.head_line (bucket_of z key) ∷ 0 ∷ []) ≤ 18) (sym (take_line r)) (put_cost 0 (taken_line r) (layout.head_line (bucket_of z key)))))
    (λ _. omega arith)

-- a removal
del_writes_cost : (layout : Layout) (z : Sizes) (r : RoomWords) (key : ℕ) → cost [] (lines_of (del_writes layout z r key)) ≤ 16
del_writes_cost layout z r key =
    by_test (λ b. cost [] (lines_of (if b then [] else del_present layout r (bucket_of z key) (node_before layout z r key) (node_of layout z r key))) ≤ 16) (node_of layout z r key) 0
    (λ _. omega arith) (λ _. del_cost (unlink_write layout r (bucket_of z key) (node_before layout z r key) (node_of layout z r key)).line (node_of layout z r key) 0)

-- an item at the back
enq_writes_cost : (z : Sizes) (r : RoomWords) (value : ℕ) → cost [] (lines_of (enq_writes z r value)) ≤ 22
enq_writes_cost z r value =
    by_Bool (λ b. cost [] (lines_of (if b then [] else enq_room r value)) ≤ 22) (is_full z.lines r) (λ _. omega arith)
    (λ _. by_Bool (λ b. cost [] ((take_write r).line ∷ taken_line r ∷ taken_line r ∷ lines_of ((if b then write 1 0 (taken_line r) ∷ write 1 1 (taken_line r) ∷ [] else write (r 1 1) 1 (taken_line r) ∷ write 1 1 (taken_line r) ∷ []) ++ write 0 2 (r 0 2 + 1) ∷ [])) ≤ 22)
    (r 1 0 == 0)
    (λ _. subst (λ (a : ℕ). cost [] (a ∷ taken_line r ∷ taken_line r ∷ 1 ∷ 1 ∷ 0 ∷ []) ≤ 22) (sym (take_line r)) (enq_cost 0 (taken_line r) 1 1))
    (λ _. subst (λ (a : ℕ). cost [] (a ∷ taken_line r ∷ taken_line r ∷ r 1 1 ∷ 1 ∷ 0 ∷ []) ≤ 22) (sym (take_line r)) (enq_cost 0 (taken_line r) (r 1 1) 1)))

-- the front item taken off
deq_writes_cost : (r : RoomWords) → cost [] (lines_of (deq_writes r)) ≤ 17
deq_writes_cost r =
    by_test (λ b. cost [] (lines_of (if b then [] else deq_item r)) ≤ 17) (r 1 0) 0 (λ _. omega arith)
    (λ _. by_Bool (λ b. cost [] (lines_of ((if b then write 1 0 (r (r 1 0) 1) ∷ write 1 1 0 ∷ [] else write 1 0 (r (r 1 0) 1) ∷ []) ++ give_writes r (r 1 0) ++ write 0 2 (r 0 2 - 1) ∷ [])) ≤ 17) (r (r 1 0) 1 == 0)
    (λ _. last_cost 1 (r 1 0) 0) (λ _. let c = del_cost 1 (r 1 0) 0 in omega (arith, c)))

-- the cost of a command
command_cost : (layout : Layout) (z : Sizes) (r : RoomWords) (command : Command) → cost [] (lines_of (writes_of layout z r command)) ≤ most_stores command
command_cost layout z r (Put key value) = put_writes_cost layout z r key value
command_cost layout z r (Get key) = omega arith
command_cost layout z r (Del key) = del_writes_cost layout z r key
command_cost layout z r (Enq value) = enq_writes_cost z r value
command_cost layout z r Deq = deq_writes_cost r
command_cost layout z r Take = deq_writes_cost r

-- the law on the number of stores
pub store_counts : StoreCountsLaw
store_counts layout z epoch room r command =
    by_test (λ b. length (if b then stores_behind epoch r [] (writes_of layout z r command) else []) ≤ most_stores command) (room_of z command) room
    (λ _. let a = stores_cost epoch r (writes_of layout z r command) in let c = command_cost layout z r command in omega (arith, a, c))
    (λ _. omega arith)
