-- Records as a list: of rooms with the same records, behind writes, and of rooms read from lists.
use Rattle.std.proofs.Common.{◌≡◌, ℕ, zero, suc, ◌<◌, ◌==◌, true, if◌then◌else◌, map, List, [], ◌∷◌, length, slice_index, get_or, set, refl, ap, sym, ◌∙◌, arith, inl, inr, length-set, get_or-set_same, get_or-set_other}
use Rattle.std.proofs.Math.ListN.{length-map}
use Rattle.std.proofs.lemmas.List.FromFn.{length-map-range_with_len, get_or-map-range_with_len, fill_by_all}
use Rattle.std.proofs.lemmas.Bool.Decides.{eqb_tells}
use Rattle.room_model.specs.declared.write.Write.{Write}
use Rattle.room_model.specs.Chains.{RoomWords, with_word, HasSameRecords}
use Rattle.room_model.specs.Writes.{written, AreWithin}
use Rattle.epoch_cells.specs.Cells.{record_in, records_in, record_at, after_write, after_writes, column, column_after}

-- there are as many records as lines
pub count : (r : RoomWords) (n : ℕ) → length (records_in r n) ≡ n
count r n = length-map-range_with_len (record_in r) 0 n

-- the record of a line
pub at : (r : RoomWords) (n k : ℕ) → k < n → get_or (records_in r n) k [] ≡ record_in r k
at r n k lt = get_or-map-range_with_len (record_in r) 0 n k k [] lt (omega arith)

-- a list with these records
pub these : (r : RoomWords) (n : ℕ) (rs : List (List ℕ)) → length rs ≡ n → ((k : ℕ) → k < n → get_or rs k [] ≡ record_in r k) → rs ≡ records_in r n
these r n rs many each = fill_by_all (record_in r) rs n [] many each

-- a record by its three words
three : (a b c x y z : ℕ) → a ≡ x → b ≡ y → c ≡ z → a ∷ b ∷ c ∷ [] ≡ x ∷ y ∷ z ∷ []
three a b c x y z p q s = cc

-- rooms with the same records have the same records as a list
pub same_records : (r q : RoomWords) (n : ℕ) → HasSameRecords r q → records_in r n ≡ records_in q n
same_records r q n same = these q n (records_in r n) (count r n) (λ k lt. at r n k lt ∙ three (r k 0) (r k 1) (r k 2) (q k 0) (q k 1) (q k 2) (same k 0 (omega arith)) (same k 1 (omega arith)) (same k 2 (omega arith)))

-- the record of a line behind a write of one of its words
written_here : (r : RoomWords) (line word value : ℕ) → word < 3 → record_in (with_word r line word value) line ≡ set (record_in r line) word value
written_here r line zero value lt = elim (eqb_tells line line) [
  | inl h ↦ simp h.0
  | inr h ↦ absurd (h.1 refl)
]
written_here r line (suc zero) value lt = elim (eqb_tells line line) [
  | inl h ↦ simp h.0
  | inr h ↦ absurd (h.1 refl)
]
written_here r line (suc (suc zero)) value lt = elim (eqb_tells line line) [
  | inl h ↦ simp h.0
  | inr h ↦ absurd (h.1 refl)
]
written_here r line (suc (suc (suc w))) value lt = absurd (omega (arith, lt))

-- and of another line
written_there : (r : RoomWords) (line word value k : ℕ) → (k ≡ line → ⊥) → record_in (with_word r line word value) k ≡ record_in r k
written_there r line word value k other = elim (eqb_tells k line) [
  | inl h ↦ absurd (other h.1)
  | inr h ↦ simp h.0
]

-- behind a write
written_records : (r : RoomWords) (n : ℕ) (x : Write) → x.line < n → x.word < 3 → records_in (with_word r x.line x.word x.value) n ≡ after_write (records_in r n) x
written_records r n x within low = sym (these (with_word r x.line x.word x.value) n (after_write (records_in r n) x) (length-set (records_in r n) x.line changed ∙ count r n) each)
  where
    changed : List ℕ
    changed = set (record_at (records_in r n) x.line) x.word x.value

    each : (k : ℕ) → k < n → get_or (set (records_in r n) x.line changed) k [] ≡ record_in (with_word r x.line x.word x.value) k
    each k lt = elim (eqb_tells k x.line) [
      | inl h ↦
          let many = count r n in
          let inside : x.line < length (records_in r n) = omega (arith, many, within) in
          ap (λ (j : ℕ). get_or (set (records_in r n) x.line changed) j []) h.1 ∙ get_or-set_same (records_in r n) x.line changed [] inside
          ∙ ap (λ (words : List ℕ). set words x.word x.value) (at r n x.line within) ∙ sym (written_here r x.line x.word x.value low)
          ∙ ap (λ (j : ℕ). record_in (with_word r x.line x.word x.value) j) (sym h.1)
      | inr h ↦ get_or-set_other (records_in r n) x.line k changed [] h.1 ∙ at r n k lt ∙ sym (written_there r x.line x.word x.value k h.1)
    ]

-- behind writes
pub behind : (r : RoomWords) (n : ℕ) (xs : List Write) → AreWithin n xs → records_in (written r xs) n ≡ after_writes (records_in r n) xs
behind r n [] within = refl
behind r n (x ∷ xs) within =
    behind (with_word r x.line x.word x.value) n xs within.2 ∙ ap (λ (rs : List (List ℕ)). after_writes rs xs) (written_records r n x within.0 within.1)

-- ---- columns

-- a column has a word of each record
pub column_count : (r : RoomWords) (n word : ℕ) → length (column word (records_in r n)) ≡ n
column_count r n word = length-map (records_in r n) (λ (words : List ℕ). slice_index words word) ∙ count r n

-- a word of a record
in_record : (r : RoomWords) (line word : ℕ) → word < 3 → slice_index (record_in r line) word ≡ r line word
in_record r line zero lt = refl
in_record r line (suc zero) lt = refl
in_record r line (suc (suc zero)) lt = refl
in_record r line (suc (suc (suc word))) lt = absurd (omega (arith, lt))

-- an element of a list's image
in_image : (f : List ℕ → ℕ) (rs : List (List ℕ)) (k : ℕ) → k < length rs → slice_index (map f rs) k ≡ f (get_or rs k [])
in_image f [] k lt = absurd (omega (arith, lt))
in_image f (words ∷ rs) zero lt = refl
in_image f (words ∷ rs) (suc k) lt = in_image f rs k (omega (arith, lt))

-- a word of a column
pub in_column : (r : RoomWords) (n line word : ℕ) → line < n → word < 3 → slice_index (column word (records_in r n)) line ≡ r line word
in_column r n line word within low =
    let many = count r n in
    let inside : line < length (records_in r n) = omega (arith, many, within) in
    in_image (λ (words : List ℕ). slice_index words word) (records_in r n) line inside ∙ ap (λ (words : List ℕ). slice_index words word) (at r n line within) ∙ in_record r line word low

-- a list whose elements are a column's
pub this_column : (r : RoomWords) (n word : ℕ) (vs : List ℕ) → word < 3 → length vs ≡ n → ((k : ℕ) → k < n → get_or vs k 0 ≡ r k word) → vs ≡ column word (records_in r n)
this_column r n word vs low many each =
    fill_by_all (λ (line : ℕ). r line word) vs n 0 many each
    ∙ sym (fill_by_all (λ (line : ℕ). r line word) (column word (records_in r n)) n 0 (column_count r n word) (λ k lt. in_column r n k word lt low))

-- a column behind a write
column_written : (r : RoomWords) (n word : ℕ) (x : Write) → x.line < n → word < 3
    → column word (records_in (with_word r x.line x.word x.value) n) ≡ (if x.word == word then set (column word (records_in r n)) x.line x.value else column word (records_in r n))
column_written r n word x within low = elim (eqb_tells x.word word) [
  | inl h ↦
      simp h.0 (sym (this_column (with_word r x.line x.word x.value) n word (set (column word (records_in r n)) x.line x.value) low (length-set (column word (records_in r n)) x.line x.value ∙ column_count r n word) (here h.1)))
  | inr h ↦
      simp h.0 (sym (this_column (with_word r x.line x.word x.value) n word (column word (records_in r n)) low (column_count r n word) (λ k lt. in_column r n k word lt low ∙ sym (other h.1 k))))
]
  where
    changed : x.word ≡ word → (k : ℕ) → (k == x.line) ≡ true → with_word r x.line x.word x.value k word ≡ x.value
    changed same k is = elim (eqb_tells word x.word) [
      | inl h ↦ simp (is, h.0)
      | inr h ↦ absurd (h.1 (sym same))
    ]

    here : x.word ≡ word → (k : ℕ) → k < n → get_or (set (column word (records_in r n)) x.line x.value) k 0 ≡ with_word r x.line x.word x.value k word
    here same k lt = elim (eqb_tells k x.line) [
      | inl h ↦
          let many = column_count r n word in
          let inside : x.line < length (column word (records_in r n)) = omega (arith, many, within) in
          ap (λ (j : ℕ). get_or (set (column word (records_in r n)) x.line x.value) j 0) h.1 ∙ get_or-set_same (column word (records_in r n)) x.line x.value 0 inside ∙ sym (changed same k h.0)
      | inr h ↦ get_or-set_other (column word (records_in r n)) x.line k x.value 0 h.1 ∙ in_column r n k word lt low ∙ sym (simp h.0)
    ]

    other : (x.word ≡ word → ⊥) → (k : ℕ) → with_word r x.line x.word x.value k word ≡ r k word
    other apart k = elim (eqb_tells word x.word) [
      | inl h ↦ absurd (apart (sym h.1))
      | inr h ↦ elim (eqb_tells k x.line) [
        | inl g ↦ simp (g.0, h.0)
        | inr g ↦ simp (g.0, h.0)
      ]
    ]

-- a column behind writes
column_behind : (r : RoomWords) (n word : ℕ) (xs : List Write) → AreWithin n xs → word < 3 → column word (records_in (written r xs) n) ≡ column_after word (column word (records_in r n)) xs
column_behind r n word [] within low = refl
column_behind r n word (x ∷ xs) within low =
    column_behind (with_word r x.line x.word x.value) n word xs within.2 low ∙ ap (λ (vs : List ℕ). column_after word vs xs) (column_written r n word x within.0 low)

-- the law
pub column_writes : (r : RoomWords) (n word : ℕ) (xs : List Write) → AreWithin n xs → word < 3 → column word (after_writes (records_in r n) xs) ≡ column_after word (column word (records_in r n)) xs
column_writes r n word xs within low = ap (column word) (sym (behind r n xs within)) ∙ column_behind r n word xs within low
