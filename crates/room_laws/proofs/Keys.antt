-- The keys of a bucket's lines, and what a key is found to have.
use Rattle.std.proofs.Common.{◌≡◌, ℕ, ◌+◌, ◌-◌, ◌<◌, ◌≤◌, ◌≢◌, ◌==◌, zero, suc, Bool, true, false, Option, Some, None, is_some, List, [], ◌∷◌, ◌++◌, length, arith, refl, ap, sym, ◌∙◌, subst, inl, inr, if◌then◌else◌, eq-eqb, length-append}
use Rattle.std.proofs.lemmas.Bool.Decides.{eqb_tells}
use Rattle.std.proofs.lemmas.Bool.{ne_eqb}
use Rattle.std.specs.Ordering.{nat_cmp}
use Rattle.std.specs.FinMap.{get, remove, len, len-remove, len-empty, get-empty, same_map, empty, nat_cmp-IsAntisymmetric, empty_of_len}
use Rattle.std.proofs.lemmas.Cmp.{nat_cmp_total}
use Rattle.seq_object.specs.History.{total}
use Rattle.seq_object.specs.Object.{shard_of, Pairs}
use Rattle.seq_object.proofs.Pairs.{got_removed}
use Rattle.room_model.specs.Chains.{times, RoomWords}
use Rattle.room_model.specs.MapRoom.{found, AreKeys, bucket_of}
use Rattle.room_laws.proofs.Totals.{total-positive}
use Rattle.room_laws.proofs.Lists.{times-append, times-here, times-there}
use Rattle.seq_object.specs.declared.sizes.Sizes.{Sizes}

-- the first line's key is found there
pub found-here : (r : RoomWords) (key x : ℕ) (xs : List ℕ) → r x 0 ≡ key → found r key (x ∷ xs) ≡ Some (r x 1)
found-here r key x xs is = ap (λ (b : Bool). if b then Some (r x 1) else found r key xs) (eq-eqb (r x 0) key is)

-- another key is found in the rest
pub found-there : (r : RoomWords) (key x : ℕ) (xs : List ℕ) → r x 0 ≢ key → found r key (x ∷ xs) ≡ found r key xs
found-there r key x xs ne = ap (λ (b : Bool). if b then Some (r x 1) else found r key xs) (ne_eqb (r x 0) key ne)

-- a value is not none
pub some_none : (value : ℕ) → Some value ≡ None → ⊥
some_none value e = cc

-- the front's answer where it has one
abbrev pub or_else : Option ℕ → Option ℕ → Option ℕ
or_else (Some value) other = Some value
or_else None other = other

-- what is found in two lists
pub found-append : (r : RoomWords) (key : ℕ) (xs ys : List ℕ) → found r key (xs ++ ys) ≡ or_else (found r key xs) (found r key ys)
found-append r key [] ys = refl
found-append r key (x ∷ xs) ys = go (r x 0 == key) (found-append r key xs ys)
  where
    go : (b : Bool) → found r key (xs ++ ys) ≡ or_else (found r key xs) (found r key ys) → (if b then Some (r x 1) else found r key (xs ++ ys)) ≡ or_else (if b then Some (r x 1) else found r key xs) (found r key ys)
    go true rest = refl
    go false rest = rest

-- where no line of the list has its key or its value changed
pub found-same : (r r' : RoomWords) (key : ℕ) (xs : List ℕ) → ((x w : ℕ) → 0 < times x xs → w < 2 → r' x w ≡ r x w) → found r' key xs ≡ found r key xs
found-same r r' key [] same = refl
found-same r r' key (x ∷ xs) same =
    let one = times-here x xs in
    let rest : found r' key xs ≡ found r key xs = found-same r r' key xs (λ y w t. same y w (omega arith)) in
    let k : r' x 0 ≡ r x 0 = same x 0 (omega (arith, one)) (omega arith) in
    let v : r' x 1 ≡ r x 1 = same x 1 (omega (arith, one)) (omega arith) in
    rw (k, v, rest) refl

-- where no line has its key changed, an absent key stays absent
pub found-still_none : (r r' : RoomWords) (key : ℕ) (xs : List ℕ) → ((x : ℕ) → 0 < times x xs → r' x 0 ≡ r x 0) → found r key xs ≡ None → found r' key xs ≡ None
found-still_none r r' key [] same none = refl
found-still_none r r' key (x ∷ xs) same none =
    let one = times-here x xs in
    let k : r' x 0 ≡ r x 0 = same x (omega (arith, one)) in
    let ne : r x 0 ≢ key = λ e. some_none (r x 1) (sym (found-here r key x xs e) ∙ none) in
    found-there r' key x xs (λ e. ne (sym k ∙ e)) ∙ found-still_none r r' key xs (λ y t. same y (omega arith)) (sym (found-there r key x xs ne) ∙ none)

-- where no key is changed, the keys are as before
pub keys-same : (r r' : RoomWords) (z : Sizes) (shard b : ℕ) (xs : List ℕ) → ((x : ℕ) → 0 < times x xs → r' x 0 ≡ r x 0) → AreKeys z shard b r xs → AreKeys z shard b r' xs
keys-same r r' z shard b [] same h = tt
keys-same r r' z shard b (x ∷ xs) same h =
    let one = times-here x xs in
    let k : r' x 0 ≡ r x 0 = same x (omega (arith, one)) in
    let rest : (y : ℕ) → 0 < times y xs → r' y 0 ≡ r y 0 = λ y t. same y (omega arith) in
    rw k (h.0, h.1, found-still_none r r' (r x 0) xs rest h.2, keys-same r r' z shard b xs rest h.3)

-- the shard and the bucket of a line's key
pub key_place : (r : RoomWords) (z : Sizes) (shard b : ℕ) (xs : List ℕ) → AreKeys z shard b r xs → (x : ℕ) → 0 < times x xs → (shard_of z (r x 0) ≡ shard) × (bucket_of z (r x 0) ≡ b)
key_place r z shard b [] h x t = absurd (omega arith)
key_place r z shard b (y ∷ ys) h x t = elim (eqb_tells y x) [
  | inl e ↦ subst (λ (w : ℕ). (shard_of z (r w 0) ≡ shard) × (bucket_of z (r w 0) ≡ b)) e.1 (h.0, h.1)
  | inr e ↦ key_place r z shard b ys h.3 x (let d = times-there x y ys e.1 in omega (arith, d))
]

-- a key of another place is not found
pub found-elsewhere : (r : RoomWords) (z : Sizes) (shard b key : ℕ) (xs : List ℕ) → AreKeys z shard b r xs → ((shard_of z key ≡ shard) → (bucket_of z key ≡ b) → ⊥) → found r key xs ≡ None
found-elsewhere r z shard b key [] h away = refl
found-elsewhere r z shard b key (x ∷ xs) h away =
    let ne : r x 0 ≢ key = λ e. away (ap (shard_of z) (sym e) ∙ h.0) (ap (bucket_of z) (sym e) ∙ h.1) in
    found-there r key x xs ne ∙ found-elsewhere r z shard b key xs h.3 away

-- one line's key is taken out
pub found-cut : (r : RoomWords) (key n : ℕ) (front back : List ℕ) → r n 0 ≢ key → found r key (front ++ n ∷ back) ≡ found r key (front ++ back)
found-cut r key n front back ne = found-append r key front (n ∷ back) ∙ ap (or_else (found r key front)) (found-there r key n back ne) ∙ sym (found-append r key front back)

-- one line's key is taken out of a bucket's
pub keys-cut : (r : RoomWords) (z : Sizes) (shard b n : ℕ) (front back : List ℕ) → AreKeys z shard b r (front ++ n ∷ back) → AreKeys z shard b r (front ++ back)
keys-cut r z shard b n [] back h = h.3
keys-cut r z shard b n (x ∷ front) back h =
    let ne : r n 0 ≢ r x 0 = λ e. found_in r (r x 0) n front back e h.2 in
    (h.0, h.1, sym (found-cut r (r x 0) n front back ne) ∙ h.2, keys-cut r z shard b n front back h.3)
  where
    found_in : (r : RoomWords) (key n : ℕ) (front back : List ℕ) → r n 0 ≡ key → found r key (front ++ n ∷ back) ≡ None → ⊥
    found_in r key n [] back is none = let some = found-here r key n back is in cc
    found_in r key n (y ∷ ys) back is none = elim (eqb_tells (r y 0) key) [
      | inl e ↦ let some = found-here r key y (ys ++ n ∷ back) e.1 in cc
      | inr e ↦ found_in r key n ys back is (sym (found-there r key y (ys ++ n ∷ back) e.1) ∙ none)
    ]

-- the key of a line that is taken out is gone
pub found-cut_none : (r : RoomWords) (z : Sizes) (shard b n : ℕ) (front back : List ℕ) → AreKeys z shard b r (front ++ n ∷ back) → found r (r n 0) front ≡ None → found r (r n 0) (front ++ back) ≡ None
found-cut_none r z shard b n front back h none =
    found-append r (r n 0) front back ∙ ap (λ (o : Option ℕ). or_else o (found r (r n 0) back)) none ∙ behind front h
  where
    behind : (front : List ℕ) → AreKeys z shard b r (front ++ n ∷ back) → found r (r n 0) back ≡ None
    behind [] h = h.2
    behind (x ∷ front) h = behind front h.3

-- the chains one behind the other
abbrev pub joined : (ℕ → List ℕ) → ℕ → List ℕ
joined chain zero = []
joined chain (suc n) = joined chain n ++ chain n

-- how often a line stands in the chains
pub times-joined : (x : ℕ) (chain : ℕ → List ℕ) (n : ℕ) → times x (joined chain n) ≡ total (λ b. times x (chain b)) n
times-joined x chain zero = refl
times-joined x chain (suc n) = let a = times-append x (joined chain n) (chain n) in let h = times-joined x chain n in omega (arith, a, h)

-- how many lines the chains have
pub length-joined : (chain : ℕ → List ℕ) (n : ℕ) → length (joined chain n) ≡ total (λ b. length (chain b)) n
length-joined chain zero = refl
length-joined chain (suc n) =
    let a : length (joined chain n ++ chain n) ≡ length (joined chain n) + length (chain n) = length-append (joined chain n) (chain n) in
    let h = length-joined chain n in omega (arith, a, h)

-- no key stands twice in the list
abbrev pub HaveOwnKeys : RoomWords → List ℕ → Type 0
HaveOwnKeys r [] = Unit {0}
HaveOwnKeys r (x ∷ xs) = (found r (r x 0) xs ≡ None) × HaveOwnKeys r xs

-- two lists of keys of their own that share none
apart-append : (r : RoomWords) (xs ys : List ℕ) → HaveOwnKeys r xs → HaveOwnKeys r ys → ((x : ℕ) → 0 < times x xs → found r (r x 0) ys ≡ None) → HaveOwnKeys r (xs ++ ys)
apart-append r [] ys a b away = b
apart-append r (x ∷ xs) ys a b away =
    let one = times-here x xs in
    let front : found r (r x 0) (xs ++ ys) ≡ None = found-append r (r x 0) xs ys ∙ ap (λ (o : Option ℕ). or_else o (found r (r x 0) ys)) a.0 ∙ away x (omega (arith, one)) in
    (front, apart-append r xs ys a.1 b (λ y t. away y (omega arith)))

-- the keys of a bucket are each a line's own
of_keys : (r : RoomWords) (z : Sizes) (shard b : ℕ) (xs : List ℕ) → AreKeys z shard b r xs → HaveOwnKeys r xs
of_keys r z shard b [] h = tt
of_keys r z shard b (x ∷ xs) h = (h.2, of_keys r z shard b xs h.3)

-- the keys of all buckets are each a line's own
pub apart-joined : (r : RoomWords) (z : Sizes) (shard : ℕ) (chain : ℕ → List ℕ) (n : ℕ) → ((b : ℕ) → b < n → AreKeys z shard b r (chain b)) → HaveOwnKeys r (joined chain n)
apart-joined r z shard chain zero keys = tt
apart-joined r z shard chain (suc n) keys =
    apart-append r (joined chain n) (chain n) (apart-joined r z shard chain n (λ b lt. keys b (omega arith))) (of_keys r z shard n (chain n) (keys n (omega arith)))
    (λ x t. let p = total-positive (λ b. times x (chain b)) n (let e = times-joined x chain n in omega (arith, e)) in
    let place = key_place r z shard p.at (chain p.at) (keys p.at (let l = p.below in omega (arith, l))) x p.positive in
    found-elsewhere r z shard n (r x 0) (chain n) (keys n (omega arith)) (λ s b. let l = p.below in let q = place.1 in omega (arith, l, q, b)))

-- in all chains a key is found where its bucket has it
pub found-joined : (r : RoomWords) (z : Sizes) (shard : ℕ) (chain : ℕ → List ℕ) (n key : ℕ) → ((b : ℕ) → b < n → AreKeys z shard b r (chain b)) → bucket_of z key < n → found r key (joined chain n) ≡ found r key (chain (bucket_of z key))
found-joined r z shard chain zero key keys lt = absurd (omega arith)
found-joined r z shard chain (suc n) key keys lt =
    let split = found-append r key (joined chain n) (chain n) in
    elim (eqb_tells (bucket_of z key) n) [
      | inl h ↦
          split ∙ ap (λ (o : Option ℕ). or_else o (found r key (chain n))) (before n (λ b l. keys b (omega arith)) (omega (arith, h.1))) ∙ ap (λ (b : ℕ). found r key (chain b)) (sym h.1)
      | inr h ↦
          let front = found-joined r z shard chain n key (λ b l. keys b (omega arith)) (omega (arith, h.1)) in
          let none = found-elsewhere r z shard n key (chain n) (keys n (omega arith)) (λ s b. h.1 b) in
          split ∙ ap (or_else (found r key (joined chain n))) none ∙ plain (found r key (joined chain n)) ∙ front
    ]
  where
    plain : (o : Option ℕ) → or_else o None ≡ o
    plain (Some v) = refl
    plain None = refl

    before : (n : ℕ) → ((b : ℕ) → b < n → AreKeys z shard b r (chain b)) → n ≤ bucket_of z key → found r key (joined chain n) ≡ None
    before zero keys le = refl
    before (suc n) keys le =
        found-append r key (joined chain n) (chain n) ∙ ap (λ (o : Option ℕ). or_else o (found r key (chain n))) (before n (λ b l. keys b (omega arith)) (omega arith))
        ∙ found-elsewhere r z shard n key (chain n) (keys n (omega arith)) (λ s b. omega arith)

-- and nowhere where it is of another shard
pub found-joined_none : (r : RoomWords) (z : Sizes) (shard : ℕ) (chain : ℕ → List ℕ) (n key : ℕ) → ((b : ℕ) → b < n → AreKeys z shard b r (chain b)) → shard_of z key ≢ shard → found r key (joined chain n) ≡ None
found-joined_none r z shard chain zero key keys ne = refl
found-joined_none r z shard chain (suc n) key keys ne =
    found-append r key (joined chain n) (chain n) ∙ ap (λ (o : Option ℕ). or_else o (found r key (chain n))) (found-joined_none r z shard chain n key (λ b l. keys b (omega arith)) ne)
    ∙ found-elsewhere r z shard n key (chain n) (keys n (omega arith)) (λ s b. ne s)

-- pairs have as many keys as a list of lines that has its keys, each once
pub len-lines : (r : RoomWords) (xs : List ℕ) (pairs : Pairs) → HaveOwnKeys r xs → ((key : ℕ) → get pairs key ≡ found r key xs) → len pairs ≡ length xs
len-lines r [] pairs apart same =
    let none : pairs ≡ empty = same_map nat_cmp_total nat_cmp-IsAntisymmetric pairs empty (λ q. same q ∙ sym (get-empty nat_cmp q)) in
    ap len none ∙ len-empty nat_cmp ℕ
len-lines r (x ∷ xs) pairs apart same =
    let key = r x 0 in
    let has : get pairs key ≡ Some (r x 1) = same key ∙ found-here r key x xs refl in
    let less : len (remove pairs key) ≡ length xs = len-lines r xs (remove pairs key) apart.1 (rest has) in
    let counted : len (remove pairs key) ≡ len pairs - 1 = len-remove nat_cmp_total pairs key ∙ ap (λ (o : Option ℕ). if is_some o then len pairs - 1 else len pairs) has in
    let some : 0 < len pairs = positive has in
    omega (arith, less, counted, some)
  where
    rest : get pairs (r x 0) ≡ Some (r x 1) → (k : ℕ) → get (remove pairs (r x 0)) k ≡ found r k xs
    rest has k = elim (eqb_tells k (r x 0)) [
      | inl h ↦ got_removed pairs (r x 0) k ∙ ap (λ (b : Bool). if b then None else get pairs k) h.0 ∙ sym apart.0 ∙ ap (λ (q : ℕ). found r q xs) (sym h.1)
      | inr h ↦ got_removed pairs (r x 0) k ∙ ap (λ (b : Bool). if b then None else get pairs k) h.0 ∙ same k ∙ found-there r k x xs (λ e. h.1 (sym e))
    ]

    positive : get pairs (r x 0) ≡ Some (r x 1) → 0 < len pairs
    positive has = elim (eqb_tells (len pairs) 0) [
      | inl h ↦ absurd (let none = ap (λ (n : Pairs). get n (r x 0)) (empty_of_len pairs h.1) ∙ get-empty nat_cmp (r x 0) in some_none (r x 1) (sym has ∙ none))
      | inr h ↦ omega (arith, h.1)
    ]
