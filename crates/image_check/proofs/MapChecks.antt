-- A map room has no fault exactly where it is a map room.
use Rattle.std.proofs.Common.{◌≡◌, ℕ, ◌+◌, ◌<◌, ◌≤◌, ◌≢◌, ◌==◌, ◌&&◌, zero, suc, Bool, true, false, Option, Some, None, is_none, List, [], ◌∷◌, length, arith, refl, ap, sym, ◌∙◌, subst, inl, inr, if◌then◌else◌, eq-eqb}
use Rattle.std.proofs.lemmas.Bool.Decides.{eqb_tells}
use Rattle.std.proofs.lemmas.Bool.{ne_eqb}
use Rattle.std.specs.Ordering.{nat_cmp}
use Rattle.std.specs.FinMap.{get, find, len, get-from_entries}
use Rattle.std.proofs.lemmas.Cmp.{nat_cmp_total}
use Rattle.seq_object.specs.Object.{Pairs, shard_of}
use Rattle.seq_object.specs.History.{total}
use Rattle.room_model.specs.Chains.{RoomWords, IsChain, times, is_node}
use Rattle.room_model.specs.MapRoom.{Layout, IsLayout, head, bucket_of, found, AreKeys, IsMapRoom}
use Rattle.room_model.specs.Walks.{pairs_below, map_of}
use Rattle.room_laws.proofs.Totals.{one_where, total-positive}
use Rattle.room_laws.proofs.Lists.{times-here, times-there}
use Rattle.room_laws.proofs.Tests.{by_test}
use Rattle.room_laws.proofs.Stock.{stock_size}
use Rattle.room_laws.proofs.Keys.{joined, or_else, length-joined, found-there, found-here, found-elsewhere, some_none, found-joined, found-joined_none, key_place}
use Rattle.room_laws.proofs.Maps.{bucket_below, stock_of, chain_length}
use Rattle.room_laws.proofs.StockLaws.{map_header_law}
use Rattle.room_laws.proofs.Pairs.{all_walked, find-pairs}
use Rattle.image_check.specs.declared.room_fault.RoomFault.TheVariants.{BadHeader, BadChain, BadCount}
use Rattle.image_check.specs.Meeting.{is_new, met_from}
use Rattle.image_check.specs.QueueFaults.{header_of, is_header, met_free, fault_of_free}
use Rattle.image_check.specs.MapFaults.{is_placed, is_new_key, may_join, met_bucket, met_chains, fault_of_chains}
use Rattle.image_check.specs.Laws.{MapSoundLaw, MapCompleteLaw}
use Rattle.image_check.proofs.MetLines.{false_true, none_some, same_list, behind, AllMay, IsMet, met_tells, met_chain, behind_keeps, times-behind, length-behind, AreNodes, nodes_more, all_new, all_nodes}
use Rattle.image_check.proofs.QueueChecks.{some_fault, no_fault, both, same_number, header_tells, header_is, free_tells}
use Rattle.seq_object.specs.declared.sizes.Sizes.{Sizes}

-- the lines from start, over at most so many
abbrev lines_from : (ℕ → ℕ) → ℕ → ℕ → List ℕ
lines_from next zero start = []
lines_from next (suc n) start = if start == 0 then [] else start ∷ lines_from next n (next start)

lines_are : (next : ℕ → ℕ) (n start : ℕ) (xs : List ℕ) → IsChain next start xs → length xs ≤ n → lines_from next n start ≡ xs
lines_are next zero start [] chain fits = refl
lines_are next zero start (x ∷ xs) chain fits = absurd (omega arith)
lines_are next (suc n) start [] chain fits = ap (λ (b : Bool). if b then [] else start ∷ lines_from next n (next start)) (eq-eqb start 0 chain)
lines_are next (suc n) start (x ∷ xs) chain fits =
    ap (lines_from next (suc n)) chain.0 ∙ ap (λ (b : Bool). if b then [] else x ∷ lines_from next n (next x)) (ne_eqb x 0 chain.1) ∙ ap (λ (ys : List ℕ). x ∷ ys) (lines_are next n (next x) xs chain.2 (omega arith))

-- the chain of a bucket, as a function of the room
abbrev pub chain_of : Layout → Sizes → RoomWords → ℕ → List ℕ
chain_of layout z r b = lines_from (λ x. r x 2) z.lines (head layout r b)

no_value : (o : Option ℕ) → is_none o ≡ true → o ≡ None
no_value None h = refl
no_value (Some value) h = absurd (false_true h)

-- a line that may join is new, and so is its key, which has this place
joins : (first : ℕ) (r : RoomWords) (z : Sizes) (shard b : ℕ) (met : List ℕ) (x : ℕ) → may_join first r z shard b met x ≡ true
    → (is_new first (r 0 1) met x ≡ true) × (shard_of z (r x 0) ≡ shard) × (bucket_of z (r x 0) ≡ b) × (found r (r x 0) met ≡ None)
joins first r z shard b met x h =
    let test = both (is_new first (r 0 1) met x) (is_new_key r z shard b met (r x 0)) h in
    let key = both (is_placed z shard b (r x 0)) (is_none (found r (r x 0) met)) test.1 in
    let place = both (shard_of z (r x 0) == shard) (bucket_of z (r x 0) == b) key.0 in
    (test.0, same_number (shard_of z (r x 0)) shard place.0, same_number (bucket_of z (r x 0)) b place.1, no_value (found r (r x 0) met) key.1)

all_join_new : (first : ℕ) (r : RoomWords) (z : Sizes) (shard b : ℕ) (met xs : List ℕ) → AllMay (may_join first r z shard b) met xs → AllMay (is_new first (r 0 1)) met xs
all_join_new first r z shard b met [] all = tt
all_join_new first r z shard b met (x ∷ xs) all = ((joins first r z shard b met x all.0).0, all_join_new first r z shard b (x ∷ met) xs all.1)

-- a key that was met is no key of a line that joins later
not_later : (first : ℕ) (r : RoomWords) (z : Sizes) (shard b key : ℕ) (met xs : List ℕ) → AllMay (may_join first r z shard b) met xs → is_none (found r key met) ≡ false → found r key xs ≡ None
not_later first r z shard b key met [] all has = refl
not_later first r z shard b key met (y ∷ ys) all has =
    let no = (joins first r z shard b met y all.0).3 in
    let ne : r y 0 ≢ key = λ e. false_true (sym has ∙ ap (λ (q : ℕ). is_none (found r q met)) (sym e) ∙ ap is_none no) in
    found-there r key y ys ne ∙ not_later first r z shard b key (y ∷ met) ys all.1 (ap is_none (found-there r key y met ne) ∙ has)

all_join_keys : (first : ℕ) (r : RoomWords) (z : Sizes) (shard b : ℕ) (met xs : List ℕ) → AllMay (may_join first r z shard b) met xs → AreKeys z shard b r xs
all_join_keys first r z shard b met [] all = tt
all_join_keys first r z shard b met (x ∷ xs) all =
    let join = joins first r z shard b met x all.0 in
    let here : is_none (found r (r x 0) (x ∷ met)) ≡ false = ap is_none (found-here r (r x 0) x met refl) in
    (join.1, join.2, not_later first r z shard b (r x 0) (x ∷ met) xs all.1 here, all_join_keys first r z shard b (x ∷ met) xs all.1)

-- what lines have at a key is what those met last have, or else those before
found-behind : (r : RoomWords) (z : Sizes) (shard b key : ℕ) (met xs : List ℕ) → AreKeys z shard b r xs → found r key (behind met xs) ≡ or_else (found r key xs) (found r key met)
found-behind r z shard b key met [] keys = refl
found-behind r z shard b key met (x ∷ xs) keys =
    found-behind r z shard b key (x ∷ met) xs keys.3 ∙ elim (eqb_tells (r x 0) key) [
      | inl h ↦
          ap (λ (o : Option ℕ). or_else o (found r key (x ∷ met))) (sym (ap (λ (q : ℕ). found r q xs) h.1) ∙ keys.2)
          ∙ found-here r key x met h.1
          ∙ sym (ap (λ (o : Option ℕ). or_else o (found r key met)) (found-here r key x xs h.1))
      | inr h ↦
          ap (or_else (found r key xs)) (found-there r key x met h.1)
          ∙ sym (ap (λ (o : Option ℕ). or_else o (found r key met)) (found-there r key x xs h.1))
    ]

-- what the walks over the first buckets met
pub record AreMet (layout : Layout) (z : Sizes) (shard : ℕ) (r : RoomWords) (n : ℕ) (met : List ℕ) : Type 0 where
  pub chained : (b : ℕ) → b < n → IsChain (λ x. r x 2) (head layout r b) (chain_of layout z r b)
  pub keys : (b : ℕ) → b < n → AreKeys z shard b r (chain_of layout z r b)
  pub short : (b : ℕ) → b < n → length (chain_of layout z r b) ≤ z.lines
  pub counts : (x : ℕ) → times x met ≡ total (λ b. times x (chain_of layout z r b)) n
  pub size : length met ≡ total (λ b. length (chain_of layout z r b)) n
  pub nodes : AreNodes layout.first (r 0 1) met
  pub here : (key : ℕ) → bucket_of z key < n → shard_of z key ≡ shard → found r key met ≡ found r key (chain_of layout z r (bucket_of z key))
  pub later : (key : ℕ) → n ≤ bucket_of z key → found r key met ≡ None

record HasMetBefore (layout : Layout) (z : Sizes) (shard : ℕ) (r : RoomWords) (b : ℕ) (o : Option (List ℕ)) (met : List ℕ) : Type 0 where
  pub before : List ℕ
  pub is : o ≡ Some before
  pub walk : met_from (λ x. r x 2) (may_join layout.first r z shard b) before z.lines (head layout r b) ≡ Some met

bucket_tells : (layout : Layout) (z : Sizes) (shard : ℕ) (r : RoomWords) (b : ℕ) (o : Option (List ℕ)) (met : List ℕ) → met_bucket layout z shard r b o ≡ Some met → HasMetBefore layout z shard r b o met
bucket_tells layout z shard r b None met h = absurd (none_some met h)
bucket_tells layout z shard r b (Some before) met h = record { before = before; is = refl; walk = h }

pub or_none : (o : Option ℕ) → or_else o None ≡ o
or_none None = refl
or_none (Some value) = refl

-- one more bucket
one_more : (layout : Layout) (z : Sizes) (shard : ℕ) (r : RoomWords) (n : ℕ) (before met : List ℕ) → AreMet layout z shard r n before
    → IsMet (λ x. r x 2) (may_join layout.first r z shard n) before z.lines (head layout r n) met → AreMet layout z shard r (suc n) met
one_more layout z shard r n before met front last =
    let is : chain_of layout z r n ≡ last.chain = lines_are (λ x. r x 2) z.lines (head layout r n) last.chain last.chained last.short in
    let keys_last : AreKeys z shard n r last.chain = all_join_keys layout.first r z shard n before last.chain last.may_be in
    let new_last : AllMay (is_new layout.first (r 0 1)) before last.chain = all_join_new layout.first r z shard n before last.chain last.may_be in
    let keeps : (xs : List ℕ) (y : ℕ) → is_new layout.first (r 0 1) xs y ≡ true → AreNodes layout.first (r 0 1) xs → AreNodes layout.first (r 0 1) (y ∷ xs) = λ xs y. nodes_more layout.first (r 0 1) xs y in
    let told : (key : ℕ) → found r key met ≡ or_else (found r key last.chain) (found r key before) = λ key. ap (found r key) last.all_is ∙ found-behind r z shard n key before last.chain keys_last in
    record {
      chained = each (λ b. IsChain (λ x. r x 2) (head layout r b) (chain_of layout z r b)) front.chained (subst (IsChain (λ x. r x 2) (head layout r n)) (sym is) last.chained);
      keys = each (λ b. AreKeys z shard b r (chain_of layout z r b)) front.keys (subst (AreKeys z shard n r) (sym is) keys_last);
      short = each (λ b. length (chain_of layout z r b) ≤ z.lines) front.short (subst (λ (xs : List ℕ). length xs ≤ z.lines) (sym is) last.short);
      counts = λ x.
          let a : times x met ≡ times x last.chain + times x before = ap (λ (ys : List ℕ). times x ys) last.all_is ∙ times-behind x before last.chain in
          let c : times x (chain_of layout z r n) ≡ times x last.chain = ap (λ (ys : List ℕ). times x ys) is in
          let f = front.counts x in
          omega (arith, a, c, f);
      size =
          let a : length met ≡ length last.chain + length before = ap (λ (ys : List ℕ). length ys) last.all_is ∙ length-behind before last.chain in
          let c : length (chain_of layout z r n) ≡ length last.chain = ap (λ (ys : List ℕ). length ys) is in
          let f = front.size in
          omega (arith, a, c, f);
      nodes = subst (AreNodes layout.first (r 0 1)) (sym last.all_is) (behind_keeps (AreNodes layout.first (r 0 1)) (is_new layout.first (r 0 1)) keeps before last.chain new_last front.nodes);
      here = λ key lt mine. told key ∙ elim (eqb_tells (bucket_of z key) n) [
        | inl e ↦
            ap (or_else (found r key last.chain)) (front.later key (omega (arith, e.1))) ∙ or_none (found r key last.chain)
            ∙ ap (found r key) (sym is) ∙ ap (λ (b : ℕ). found r key (chain_of layout z r b)) (sym e.1)
        | inr e ↦
            ap (λ (o : Option ℕ). or_else o (found r key before)) (found-elsewhere r z shard n key last.chain keys_last (λ s b. e.1 b))
            ∙ front.here key (omega (arith, lt, e.1)) mine
      ];
      later = λ key le. told key
          ∙ ap (λ (o : Option ℕ). or_else o (found r key before)) (found-elsewhere r z shard n key last.chain keys_last (λ s b. omega (arith, le, b)))
          ∙ front.later key (omega arith);
    }
  where
    each : (P : ℕ → Type 0) → ((b : ℕ) → b < n → P b) → P n → (b : ℕ) → b < suc n → P b
    each P below at b lt = elim (eqb_tells b n) [ inl e ↦ subst P (sym e.1) at | inr e ↦ below b (omega (arith, lt, e.1)) ]

pub chains_met : (layout : Layout) (z : Sizes) (shard : ℕ) (r : RoomWords) (n : ℕ) (met : List ℕ) → met_chains layout z shard r n ≡ Some met → AreMet layout z shard r n met
chains_met layout z shard r zero met h = subst (AreMet layout z shard r zero) (same_list [] met h) (record {
  chained = λ b lt. absurd (omega (arith, lt));
  keys = λ b lt. absurd (omega (arith, lt));
  short = λ b lt. absurd (omega (arith, lt));
  counts = λ x. refl;
  size = refl;
  nodes = λ x. omega arith;
  here = λ key lt mine. absurd (omega (arith, lt));
  later = λ key le. refl;
})
chains_met layout z shard r (suc n) met h =
    let told = bucket_tells layout z shard r n (met_chains layout z shard r n) met h in
    let front = chains_met layout z shard r n told.before told.is in
    one_more layout z shard r n told.before met front (met_tells (λ x. r x 2) (may_join layout.first r z shard n) told.before z.lines (head layout r n) met told.walk)

-- what the map of the walks has at a key
pub map_has : (layout : Layout) (z : Sizes) (shard : ℕ) (r : RoomWords) (met : List ℕ) → AreMet layout z shard r 8 met
    → (key : ℕ) → get (map_of layout z r) key ≡ (if shard_of z key == shard then found r key (chain_of layout z r (bucket_of z key)) else None)
map_has layout z shard r met h key =
    let chain = chain_of layout z r in
    let all : get (map_of layout z r) key ≡ found r key (joined chain 8) = get-from_entries nat_cmp_total (pairs_below layout z r 8) key
    ∙ ap (find nat_cmp key) (all_walked layout z r chain 8 h.chained h.short) ∙ find-pairs r key (joined chain 8) in
    all ∙ by_test (λ b. found r key (joined chain 8) ≡ (if b then found r key (chain (bucket_of z key)) else None)) (shard_of z key) shard
    (λ same. found-joined r z shard chain 8 key h.keys (bucket_below z key)) (λ other. found-joined_none r z shard chain 8 key h.keys other)

record HasNoChainsFault (first : ℕ) (z : Sizes) (r : RoomWords) (o : Option (List ℕ)) : Type 0 where
  pub met : List ℕ
  pub is : o ≡ Some met
  pub rest : fault_of_free first r (length met) (met_free first z r met) ≡ None

chains_tell : (first : ℕ) (z : Sizes) (r : RoomWords) (o : Option (List ℕ)) → fault_of_chains first z r o ≡ None → HasNoChainsFault first z r o
chains_tell first z r None h = absurd (some_fault BadChain h)
chains_tell first z r (Some met) h = record { met = met; is = refl; rest = h }

pub map_sound_law : MapSoundLaw
map_sound_law layout z shard r h =
    let first = layout.first in
    let test = no_fault (is_header first z (header_of r)) (fault_of_chains first z r (met_chains layout z shard r 8)) BadHeader h in
    let header = header_tells first z r test.0 in
    let told = chains_tell first z r (met_chains layout z shard r 8) test.1 in
    let met = told.met in
    let free = free_tells first r (length met) (met_free first z r met) told.rest in
    let held = chains_met layout z shard r 8 met told.is in
    let walk = met_tells (λ x. r x 0) (is_new first (r 0 1)) met z.lines (r 0 0) free.all free.is in
    let keeps : (xs : List ℕ) (y : ℕ) → is_new first (r 0 1) xs y ≡ true → AreNodes first (r 0 1) xs → AreNodes first (r 0 1) (y ∷ xs) = λ xs y. nodes_more first (r 0 1) xs y in
    let nodes : AreNodes first (r 0 1) free.all = subst (AreNodes first (r 0 1)) (sym walk.all_is) (behind_keeps (AreNodes first (r 0 1)) (is_new first (r 0 1)) keeps met walk.chain walk.may_be held.nodes) in
    let times_all : (x : ℕ) → times x free.all ≡ times x walk.chain + times x met = λ x. ap (λ (ys : List ℕ). times x ys) walk.all_is ∙ times-behind x met walk.chain in
    record {
      chain = chain_of layout z r;
      free = walk.chain;
      low = header.0;
      high = header.1;
      chained = held.chained;
      freed = walk.chained;
      each = λ x. (let a = held.counts x in let b = times_all x in omega (arith, a, b)) ∙ all_nodes first (r 0 1) free.all header.0 nodes free.size x;
      keys = held.keys;
      count = free.count ∙ held.size;
      keyed = map_has layout z shard r met held;
    }

-- no line of these has the key
no_key : (r : RoomWords) (key : ℕ) (met : List ℕ) → ((y : ℕ) → 0 < times y met → r y 0 ≢ key) → found r key met ≡ None
no_key r key [] other = refl
no_key r key (x ∷ xs) other =
    let here = times-here x xs in
    found-there r key x xs (other x (omega (arith, here))) ∙ no_key r key xs (λ y t. other y (omega arith))

-- a key that is not found is no line's
not_found : (r : RoomWords) (key : ℕ) (xs : List ℕ) → found r key xs ≡ None → (y : ℕ) → 0 < times y xs → r y 0 ≢ key
not_found r key [] none y pos e = omega arith
not_found r key (x ∷ xs) none y pos e = elim (eqb_tells (r x 0) key) [
  | inl h ↦ some_none (r x 1) (sym (found-here r key x xs h.1) ∙ none)
  | inr h ↦
      let ne : x ≢ y = λ q. h.1 (ap (λ (z : ℕ). r z 0) q ∙ e) in
      let there = times-there y x xs ne in
      not_found r key xs (sym (found-there r key x xs h.1) ∙ none) y (omega (arith, there, pos)) e
]

-- the lines of a chain of the room may join
all_join : (first : ℕ) (r : RoomWords) (z : Sizes) (shard b : ℕ) (met xs : List ℕ) → AreKeys z shard b r xs → AllMay (is_new first (r 0 1)) met xs
    → ((y : ℕ) → 0 < times y xs → found r (r y 0) met ≡ None) → AllMay (may_join first r z shard b) met xs
all_join first r z shard b met [] keys new apart = tt
all_join first r z shard b met (x ∷ xs) keys new apart =
    let here = times-here x xs in
    let no : found r (r x 0) met ≡ None = apart x (omega (arith, here)) in
    let test : may_join first r z shard b met x ≡ true = ap (λ (t : Bool). t && is_new_key r z shard b met (r x 0)) new.0
    ∙ ap (λ (t : Bool). t && (bucket_of z (r x 0) == b) && is_none (found r (r x 0) met)) (eq-eqb (shard_of z (r x 0)) shard keys.0)
    ∙ ap (λ (t : Bool). t && is_none (found r (r x 0) met)) (eq-eqb (bucket_of z (r x 0)) b keys.1)
    ∙ ap is_none no in (
      test,
      all_join first r z shard b (x ∷ met) xs keys.3 new.1 (λ y t.
          let other : r x 0 ≢ r y 0 = λ e. not_found r (r x 0) xs keys.2 y t (sym e) in
          found-there r (r y 0) x met other ∙ apart y (omega arith)),
    )

total-front : (f : ℕ → ℕ) (a b : ℕ) → a ≤ b → total f a ≤ total f b
total-front f a zero le = let e : a ≡ 0 = omega arith in let s : total f a ≡ total f 0 = ap (total f) e in omega (arith, s)
total-front f a (suc b) le = elim (eqb_tells a (suc b)) [
  | inl h ↦ let s : total f a ≡ total f (suc b) = ap (total f) h.1 in omega (arith, s)
  | inr h ↦ let front = total-front f a b (omega (arith, h.1, le)) in omega (arith, front)
]

-- the chains of a room are met
record HasMetChains (layout : Layout) (z : Sizes) (shard : ℕ) (r : RoomWords) (chain : ℕ → List ℕ) (n : ℕ) : Type 0 where
  pub met : List ℕ
  pub is : met_chains layout z shard r n ≡ Some met
  pub counts : (x : ℕ) → times x met ≡ total (λ b. times x (chain b)) n
  pub size : length met ≡ total (λ b. length (chain b)) n

meet_chains : (layout : Layout) (z : Sizes) (shard : ℕ) (r : RoomWords) (m : Pairs) → IsLayout layout → (room : IsMapRoom layout z shard r m) → (n : ℕ) → n ≤ 8 → HasMetChains layout z shard r room.chain n
meet_chains layout z shard r m laid room zero le = record { met = []; is = refl; counts = λ x. refl; size = refl }
meet_chains layout z shard r m laid room (suc n) le =
    let front = meet_chains layout z shard r m laid room n (omega arith) in
    let lt : n < 8 = omega arith in
    let xs = room.chain n in
    let few : (x : ℕ) → times x xs + times x front.met ≤ one_where (is_node layout.first (r 0 1) x) = λ x.
    let each : total (λ b. times x (room.chain b)) 8 + times x room.free ≡ one_where (is_node layout.first (r 0 1) x) = room.each x in
    let more = total-front (λ b. times x (room.chain b)) (suc n) 8 le in
    let c = front.counts x in
    omega (arith, each, more, c) in
    let new = all_new layout.first (r 0 1) front.met xs few in
    let apart : (y : ℕ) → 0 < times y xs → found r (r y 0) front.met ≡ None = λ y t. no_key r (r y 0) front.met (λ x u e.
    let c = front.counts x in
    let p = total-positive (λ b. times x (room.chain b)) n (omega (arith, c, u)) in
    let below = p.below in
    let there = (key_place r z shard p.at (room.chain p.at) (room.keys p.at (omega (arith, below, lt))) x p.positive).1 in
    let here = (key_place r z shard n xs (room.keys n lt) y t).1 in
    let same : bucket_of z (r x 0) ≡ bucket_of z (r y 0) = ap (bucket_of z) e in
    let at_n : p.at ≡ n = sym there ∙ same ∙ here in
    omega (arith, below, at_n)) in
    let all = all_join layout.first r z shard n front.met xs (room.keys n lt) new apart in
    record {
      met = behind front.met xs;
      is = ap (met_bucket layout z shard r n) front.is ∙ met_chain (λ x. r x 2) (may_join layout.first r z shard n) front.met z.lines (head layout r n) xs (room.chained n lt) all (chain_length layout z shard r m laid room n lt);
      counts = λ x. let b = times-behind x front.met xs in let c = front.counts x in omega (arith, b, c);
      size = let b = length-behind front.met xs in let c = front.size in omega (arith, b, c);
    }

pub map_complete_law : MapCompleteLaw
map_complete_law layout z shard r m laid room =
    let first = layout.first in
    let held = meet_chains layout z shard r m laid room 8 (omega arith) in
    let met = held.met in
    let size : length (joined room.chain 8) + length room.free + first ≡ r 0 1 = stock_size first z (joined room.chain 8) room.free r (stock_of layout z shard r m laid room) in
    let joins : length (joined room.chain 8) ≡ total (λ b. length (room.chain b)) 8 = length-joined room.chain 8 in
    let high = room.high in
    let met_size = held.size in
    let count_is = room.count in
    let header = header_is first z (len m) r room.low (map_header_law layout z shard r m laid room) in
    let may_free : AllMay (is_new first (r 0 1)) met room.free = all_new first (r 0 1) met room.free (λ x. let a : total (λ b. times x (room.chain b)) 8 + times x room.free ≡ one_where (is_node first (r 0 1) x) = room.each x in let b = held.counts x in omega (arith, a, b)) in
    let free : met_free first z r met ≡ Some (behind met room.free) = met_chain (λ x. r x 0) (is_new first (r 0 1)) met z.lines (r 0 0) room.free room.freed may_free (omega (arith, size, high)) in
    let all_size = length-behind met room.free in
    let count : (r 0 2 == length met) ≡ true = eq-eqb (r 0 2) (length met) (count_is ∙ sym met_size) in
    let sum : (length (behind met room.free) + first == r 0 1) ≡ true = eq-eqb (length (behind met room.free) + first) (r 0 1) (omega (arith, met_size, all_size, size, joins)) in
    ap (λ (b : Bool). if b then fault_of_chains first z r (met_chains layout z shard r 8) else Some BadHeader) header
    ∙ ap (fault_of_chains first z r) held.is
    ∙ ap (fault_of_free first r (length met)) free
    ∙ ap (λ (b : Bool). if b && (length (behind met room.free) + first == r 0 1) then None else Some BadCount) count
    ∙ ap (λ (b : Bool). if b then None else Some BadCount) sum
