-- How many lines the stores of a command make pending: those of its writes that were not pending before.
-- What a store does to the lines of a bank that have a store that was not asked for.
use Rattle.std.proofs.Common.{◌≡◌, ℕ, ◌+◌, ◌-◌, ◌<◌, ◌≤◌, ◌==◌, ◌||◌, zero, suc, Bool, true, false, List, [], ◌∷◌, ◌++◌, length, if◌then◌else◌, count_by, set, refl, sym, ap, ◌∙◌, subst, inl, inr, arith, eq-eqb, get_or-set_same, get_or-set_other}
use Rattle.std.specs.Prelude.{slice_set}
use Rattle.std.proofs.lemmas.Bool.{or_left, or_right}
use Rattle.std.proofs.Math.Bool.{or_assoc, or_comm}
use Rattle.std.proofs.lemmas.Bool.Decides.{eqb_tells, nat_tests}
use Rattle.std.proofs.lemmas.Grind.{common_steps}
use Rattle.seq_object.specs.declared.command.Command.{Command}
use Rattle.seq_object.specs.declared.command.Command.TheVariants.{Put, Get, Del, Enq, Deq, Take}
use Rattle.seq_object.specs.Object.{room_of}
use Rattle.line_memory.specs.Line.{LineState, BankState, AreLines, IsLine, no_line, line_at, stored, bank_stored, is_unasked, unasked, is_unasked_in}
use Rattle.room_model.specs.declared.write.Write.{Write}
use Rattle.room_model.specs.declared.write.PlannedStore.{PlannedStore}
use Rattle.room_model.specs.Chains.{RoomWords}
use Rattle.room_model.specs.MapRoom.{Layout, bucket_of}
use Rattle.room_model.specs.Writes.{write, writes_of, store, touches, write_stores, stores_behind, taken_line, is_full, take_write, give_writes, node_of, node_before, put_absent, put_present, put_writes, unlink_write, del_present, del_writes, enq_writes, deq_writes, newly_pending}
use Rattle.life_laws.specs.WorkLaws.{FewLinesLaw, NewlyPendingLaw}
use Rattle.seq_object.specs.declared.sizes.Sizes.{Sizes}

-- one where a line is new, and none where it was pending before
abbrev new_one : Bool → ℕ
new_one before = if before then 0 else 1

-- how many of these lines are new, where these are pending before
abbrev new_lines : (ℕ → Bool) → List ℕ → ℕ
new_lines pending [] = 0
new_lines pending (n ∷ ns) = new_one (pending n) + new_lines (λ line. (n == line) || pending line) ns

-- the lines of writes
abbrev lines_of : List Write → List ℕ
lines_of [] = []
lines_of (x ∷ xs) = x.line ∷ lines_of xs

-- lines that are pending alike leave as many to be made pending
pub newly_pending-same : (p q : ℕ → Bool) → ((line : ℕ) → p line ≡ q line) → (ss : List PlannedStore) → newly_pending p ss ≡ newly_pending q ss
newly_pending-same p q same ss = ap (λ (f : ℕ → Bool). newly_pending f ss) (λ i line. same line i)

-- so it is with lines by their numbers
new_lines-same : (p q : ℕ → Bool) → ((line : ℕ) → p line ≡ q line) → (ns : List ℕ) → new_lines p ns ≡ new_lines q ns
new_lines-same p q same ns = ap (λ (f : ℕ → Bool). new_lines f ns) (λ i line. same line i)

-- the stores of a write

-- the stores of a write, by whether it needs no backup
abbrev stores_by : ℕ → RoomWords → Write → Bool → List PlannedStore
stores_by epoch r x b = if b then store x.line x.word x.value ∷ [] else store x.line 3 (r x.line 0) ∷ store x.line 4 (r x.line 1) ∷ store x.line 5 (r x.line 2) ∷ store x.line 6 epoch ∷ store x.line x.word x.value ∷ []

-- they are to the write's line alone
touches-by : (epoch : ℕ) (r : RoomWords) (x : Write) (line : ℕ) (b : Bool) → touches line (stores_by epoch r x b) ≡ (x.line == line)
touches-by epoch r x line true = one (x.line == line)
  where
    one : (t : Bool) → (t || false) ≡ t
    one true = refl
    one false = refl
touches-by epoch r x line false = five (x.line == line)
  where
    five : (t : Bool) → (t || (t || (t || (t || (t || false))))) ≡ t
    five true = refl
    five false = refl

-- they make that line pending
newly_pending-by : (epoch : ℕ) (r : RoomWords) (x : Write) (pending : ℕ → Bool) (b : Bool)
    → newly_pending pending (stores_by epoch r x b) ≡ new_one (pending x.line)
newly_pending-by epoch r x pending true = omega arith
newly_pending-by epoch r x pending false = five (x.line == x.line) (pending x.line) (eq-eqb x.line x.line refl)
  where
    five : (t p : Bool) → t ≡ true
        → new_one p + (new_one (t || p) + (new_one (t || (t || p)) + (new_one (t || (t || (t || p))) + (new_one (t || (t || (t || (t || p)))) + 0)))) ≡ new_one p
    five true p h = omega arith
    five false p h = absurd (cc h)

-- stores behind others

-- lines that are touched
touches-append : (line : ℕ) (ss ts : List PlannedStore) → touches line (ss ++ ts) ≡ (touches line ss || touches line ts)
touches-append line [] ts = refl
touches-append line (s ∷ ss) ts =
    ap (λ (b : Bool). (s.line == line) || b) (touches-append line ss ts) ∙ sym (or_assoc (s.line == line) (touches line ss) (touches line ts))

-- lines that are made pending
newly_pending-append : (p : ℕ → Bool) (ss ts : List PlannedStore)
    → newly_pending p (ss ++ ts) ≡ newly_pending p ss + newly_pending (λ line. touches line ss || p line) ts
newly_pending-append p [] ts = omega arith
newly_pending-append p (s ∷ ss) ts =
    let rest : newly_pending (λ line. (s.line == line) || p line) (ss ++ ts)
    ≡ newly_pending (λ line. (s.line == line) || p line) ss + newly_pending (λ line. touches line ss || ((s.line == line) || p line)) ts =
    newly_pending-append (λ line. (s.line == line) || p line) ss ts in
    let alike : newly_pending (λ line. touches line ss || ((s.line == line) || p line)) ts
    ≡ newly_pending (λ line. ((s.line == line) || touches line ss) || p line) ts =
    newly_pending-same (λ line. touches line ss || ((s.line == line) || p line)) (λ line. ((s.line == line) || touches line ss) || p line)
    (λ line. sym (or_assoc (touches line ss) (s.line == line) (p line))
    ∙ ap (λ (b : Bool). b || p line) (or_comm (touches line ss) (s.line == line))) ts in
    omega (arith, rest, alike)

-- behind a write its line is touched too
touches-behind : (epoch : ℕ) (r : RoomWords) (before : List PlannedStore) (x : Write) (line : ℕ)
    → touches line (before ++ write_stores epoch r before x) ≡ ((x.line == line) || touches line before)
touches-behind epoch r before x line =
    touches-append line before (write_stores epoch r before x)
    ∙ ap (λ (b : Bool). touches line before || b) (touches-by epoch r x line ((r x.line 6 == epoch) || touches x.line before))
    ∙ or_comm (touches line before) (x.line == line)

-- writes make as many lines pending as are new among theirs
newly_pending-behind : (epoch : ℕ) (r : RoomWords) (before : List PlannedStore) (xs : List Write) (p : ℕ → Bool)
    → newly_pending p (stores_behind epoch r before xs) ≡ newly_pending p before + new_lines (λ line. touches line before || p line) (lines_of xs)
newly_pending-behind epoch r before [] p = omega arith
newly_pending-behind epoch r before (x ∷ xs) p =
    let all = before ++ write_stores epoch r before x in
    let rest : newly_pending p (stores_behind epoch r all xs) ≡ newly_pending p all + new_lines (λ line. touches line all || p line) (lines_of xs) =
    newly_pending-behind epoch r all xs p in
    let joined : newly_pending p all ≡ newly_pending p before + newly_pending (λ line. touches line before || p line) (write_stores epoch r before x) =
    newly_pending-append p before (write_stores epoch r before x) in
    let here : newly_pending (λ line. touches line before || p line) (write_stores epoch r before x) ≡ new_one (touches x.line before || p x.line) =
    newly_pending-by epoch r x (λ line. touches line before || p line) ((r x.line 6 == epoch) || touches x.line before) in
    let alike : new_lines (λ line. touches line all || p line) (lines_of xs)
    ≡ new_lines (λ line. (x.line == line) || (touches line before || p line)) (lines_of xs) =
    new_lines-same (λ line. touches line all || p line) (λ line. (x.line == line) || (touches line before || p line))
    (λ line. ap (λ (b : Bool). b || p line) (touches-behind epoch r before x line) ∙ or_assoc (x.line == line) (touches line before) (p line))
    (lines_of xs) in
    omega (arith, rest, joined, here, alike)

-- the lines of each command

-- whether a line was pending before or is one of these
abbrev met : (ℕ → Bool) → List ℕ → ℕ → Bool
met pending [] line = pending line
met pending (y ∷ ys) line = (y == line) || met pending ys line

-- a line that is one of them
met_again : (pending : ℕ → Bool) (line : ℕ) (front back : List ℕ) → met pending (front ++ line ∷ back) line ≡ true
met_again pending line [] back = or_left (line == line) (met pending back line) (eq-eqb line line refl)
met_again pending line (y ∷ ys) back = or_right (y == line) (met pending (ys ++ line ∷ back) line) (met_again pending line ys back)

-- a line, whether new or not
any : (b : Bool) → new_one b ≤ 1
any true = omega arith
any false = omega arith

-- a line that was met
again : (b : Bool) → b ≡ true → new_one b ≡ 0
again true h = refl
again false h = absurd (cc h)

-- four lines at most, whichever are pending before
abbrev AreFew : List Write → Type 0
AreFew xs = (pending : ℕ → Bool) → new_lines pending (lines_of xs) ≤ 4

-- the lines of a put of an absent key
put_lines : (pending : ℕ → Bool) (a n h : ℕ) → new_lines pending (a ∷ n ∷ n ∷ n ∷ h ∷ a ∷ []) ≤ 4
put_lines pending a n h =
    let first = any (pending a) in
    let second = any (met pending (a ∷ []) n) in
    let third = again (met pending (n ∷ a ∷ []) n) (met_again pending n [] (a ∷ [])) in
    let fourth = again (met pending (n ∷ n ∷ a ∷ []) n) (met_again pending n [] (n ∷ a ∷ [])) in
    let fifth = any (met pending (n ∷ n ∷ n ∷ a ∷ []) h) in
    let sixth = again (met pending (h ∷ n ∷ n ∷ n ∷ a ∷ []) a) (met_again pending a (h ∷ n ∷ n ∷ n ∷ []) []) in
    omega (arith, first, second, third, fourth, fifth, sixth)

-- the lines of a removal of a key that is there, and of an item taken off
del_lines : (pending : ℕ → Bool) (u n a : ℕ) → new_lines pending (u ∷ n ∷ a ∷ a ∷ []) ≤ 4
del_lines pending u n a =
    let first = any (pending u) in
    let second = any (met pending (u ∷ []) n) in
    let third = any (met pending (n ∷ u ∷ []) a) in
    let fourth = any (met pending (a ∷ n ∷ u ∷ []) a) in
    omega (arith, first, second, third, fourth)

-- the lines of an item at the back
enq_lines : (pending : ℕ → Bool) (a n l e : ℕ) → new_lines pending (a ∷ n ∷ n ∷ l ∷ e ∷ a ∷ []) ≤ 4
enq_lines pending a n l e =
    let first = any (pending a) in
    let second = any (met pending (a ∷ []) n) in
    let third = again (met pending (n ∷ a ∷ []) n) (met_again pending n [] (a ∷ [])) in
    let fourth = any (met pending (n ∷ n ∷ a ∷ []) l) in
    let fifth = any (met pending (l ∷ n ∷ n ∷ a ∷ []) e) in
    let sixth = again (met pending (e ∷ l ∷ n ∷ n ∷ a ∷ []) a) (met_again pending a (e ∷ l ∷ n ∷ n ∷ []) []) in
    omega (arith, first, second, third, fourth, fifth, sixth)

-- the lines of the last item taken off
last_lines : (pending : ℕ → Bool) (e n a : ℕ) → new_lines pending (e ∷ e ∷ n ∷ a ∷ a ∷ []) ≤ 4
last_lines pending e n a =
    let first = any (pending e) in
    let second = again (met pending (e ∷ []) e) (met_again pending e [] []) in
    let third = any (met pending (e ∷ e ∷ []) n) in
    let fourth = any (met pending (n ∷ e ∷ e ∷ []) a) in
    let fifth = any (met pending (a ∷ n ∷ e ∷ e ∷ []) a) in
    omega (arith, first, second, third, fourth, fifth)

-- no write
none_few : AreFew []
none_few pending = omega arith

-- the line of the write that takes a line
take_line : (r : RoomWords) → (take_write r).line ≡ 0
take_line r = go (r 0 0 == 0)
  where
    go : (b : Bool) → (if b then write 0 1 (r 0 1 + 1) else write 0 0 (r (r 0 0) 0)).line ≡ 0
    go true = refl
    go false = refl

-- a put
put_few : (layout : Layout) (z : Sizes) (r : RoomWords) (key value : ℕ) → AreFew (put_writes layout z r key value)
put_few layout z r key value = go (node_of layout z r key == 0) (is_full z.lines r)
  where
    go : (absent full : Bool)
        → AreFew (if absent then (if full then [] else put_absent layout z r key value) else put_present (node_of layout z r key) value)
    go true true = none_few
    go true false =
        λ pending. subst
        (λ (a : ℕ). new_lines pending (a ∷ taken_line r ∷ taken_line r ∷ taken_line r ∷ layout.head_line (bucket_of z key) ∷ 0 ∷ []) ≤ 4)
        (sym (take_line r)) (put_lines pending 0 (taken_line r) (layout.head_line (bucket_of z key)))
    go false full = λ pending. let first = any (pending (node_of layout z r key)) in omega (arith, first)

-- a removal
del_few : (layout : Layout) (z : Sizes) (r : RoomWords) (key : ℕ) → AreFew (del_writes layout z r key)
del_few layout z r key = go (node_of layout z r key == 0)
  where
    go : (absent : Bool)
        → AreFew (if absent then [] else del_present layout r (bucket_of z key) (node_before layout z r key) (node_of layout z r key))
    go true = none_few
    go false =
        λ pending. del_lines pending
        (unlink_write layout r (bucket_of z key) (node_before layout z r key) (node_of layout z r key)).line (node_of layout z r key) 0

-- an item at the back
enq_few : (z : Sizes) (r : RoomWords) (value : ℕ) → AreFew (enq_writes z r value)
enq_few z r value = go (is_full z.lines r) (r 1 0 == 0)
  where
    n : ℕ
    n = taken_line r

    go : (full empty : Bool) → AreFew (if full then [] else take_write r ∷ write n 0 value ∷ write n 1 0
        ∷ (if empty then write 1 0 n ∷ write 1 1 n ∷ [] else write (r 1 1) 1 n ∷ write 1 1 n ∷ []) ++ write 0 2 (r 0 2 + 1) ∷ [])
    go true empty = none_few
    go false true =
        λ pending. subst (λ (a : ℕ). new_lines pending (a ∷ n ∷ n ∷ 1 ∷ 1 ∷ 0 ∷ []) ≤ 4)
        (sym (take_line r)) (enq_lines pending 0 n 1 1)
    go false false =
        λ pending. subst (λ (a : ℕ). new_lines pending (a ∷ n ∷ n ∷ r 1 1 ∷ 1 ∷ 0 ∷ []) ≤ 4)
        (sym (take_line r)) (enq_lines pending 0 n (r 1 1) 1)

-- the front item taken off
deq_few : (r : RoomWords) → AreFew (deq_writes r)
deq_few r = go (r 1 0 == 0) (r (r 1 0) 1 == 0)
  where
    go : (empty last : Bool) → AreFew (if empty then [] else (if last then write 1 0 (r (r 1 0) 1) ∷ write 1 1 0 ∷ [] else write 1 0 (r (r 1 0) 1) ∷ [])
        ++ give_writes r (r 1 0) ++ write 0 2 (r 0 2 - 1) ∷ [])
    go true last = none_few
    go false true = λ pending. last_lines pending 1 (r 1 0) 0
    go false false = λ pending. del_lines pending 1 (r 1 0) 0

-- the writes of a command
writes_few : (layout : Layout) (z : Sizes) (r : RoomWords) (command : Command) → AreFew (writes_of layout z r command)
writes_few layout z r (Put key value) = put_few layout z r key value
writes_few layout z r (Get key) = none_few
writes_few layout z r (Del key) = del_few layout z r key
writes_few layout z r (Enq value) = enq_few z r value
writes_few layout z r Deq = deq_few r
writes_few layout z r Take = deq_few r

-- the lines of the stores are those of the writes
pub few_lines : FewLinesLaw
few_lines layout z epoch room r command pending = go (room_of z command == room)
  where
    go : (b : Bool) → newly_pending pending (if b then stores_behind epoch r [] (writes_of layout z r command) else []) ≤ 4
    go true =
        let xs = writes_of layout z r command in
        let all : newly_pending pending (stores_behind epoch r [] xs) ≡ 0 + new_lines pending (lines_of xs) = newly_pending-behind epoch r [] xs pending in
        omega (arith, all, writes_few layout z r command pending)
    go false = omega arith

-- a store in a bank

-- a line that the test holds of now is one more, unless the test held of it before
counted_more : (p : LineState → Bool) (lines : List LineState) (i : ℕ) (k : LineState) → i < length lines → p k ≡ true
    → count_by p (set lines i k) ≡ count_by p lines + new_one (p (line_at lines i))
counted_more p [] i k lt now = absurd (omega arith)
counted_more p (l ∷ lines) zero k lt now = grind (arith, common_steps)
counted_more p (l ∷ lines) (suc i) k lt now =
    let more : count_by p (set lines i k) ≡ count_by p lines + new_one (p (line_at lines i)) = counted_more p lines i k (omega arith) now in
    grind (arith, common_steps)

-- a line with one more store has a store that was not asked for
stored_unasked : (l : LineState) (word value : ℕ) → IsLine l → is_unasked (stored l word value) ≡ true
stored_unasked l word value is =
    let asked = is.asked in grind (arith, nat_tests, common_steps)

-- after a store the lines with such a store are the line that it went to, and those that had one
unasked_stored : (bank : BankState) (i word value : ℕ) → AreLines bank.lines → i < length bank.lines → (line : ℕ)
    → is_unasked_in (bank_stored bank i word value) line ≡ ((i == line) || is_unasked_in bank line)
unasked_stored bank i word value are lt line =
    let k = stored (line_at bank.lines i) word value in
    elim (eqb_tells i line) [
      | inl h ↦
          ap (λ (n : ℕ). is_unasked (line_at (slice_set bank.lines i k) n)) (sym h.1)
          ∙ ap is_unasked (get_or-set_same bank.lines i k no_line lt)
          ∙ stored_unasked (line_at bank.lines i) word value (are i lt)
          ∙ sym (ap (λ (b : Bool). b || is_unasked_in bank line) h.0)
      | inr h ↦
          ap is_unasked (get_or-set_other bank.lines i line k no_line (λ e. h.1 (sym e)))
          ∙ sym (ap (λ (b : Bool). b || is_unasked_in bank line) h.0)
    ]

-- the store's line is counted once, before or behind
pub newly_pending_moves : NewlyPendingLaw
newly_pending_moves bank s ss are lt =
    let k = stored (line_at bank.lines s.line) s.word s.value in
    let more : unasked (bank_stored bank s.line s.word s.value).lines ≡ unasked bank.lines + new_one (is_unasked_in bank s.line) =
    counted_more is_unasked bank.lines s.line k lt (stored_unasked (line_at bank.lines s.line) s.word s.value (are s.line lt)) in
    let rest : newly_pending (is_unasked_in (bank_stored bank s.line s.word s.value)) ss
    ≡ newly_pending (λ line. (s.line == line) || is_unasked_in bank line) ss =
    newly_pending-same (is_unasked_in (bank_stored bank s.line s.word s.value)) (λ line. (s.line == line) || is_unasked_in bank line)
    (unasked_stored bank s.line s.word s.value are lt) ss in
    omega (arith, more, rest)
