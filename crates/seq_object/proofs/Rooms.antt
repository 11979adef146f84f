-- Each command belongs to one room, whose part of the object alone it reads and changes.
use Rattle.std.proofs.Common.{◌≡◌, ◌≢◌, ℕ, ◌<◌, ◌≤◌, ◌==◌, ◌++◌, Bool, true, cond, if◌then◌else◌, List, [], ◌∷◌, Option, Some, refl, sym, ap, ◌∙◌, subst, inl, inr, arith, eq-eqb}
use Rattle.std.proofs.lemmas.Bool.{ne_eqb}
use Rattle.std.proofs.lemmas.Bool.Decides.{eqb_tells}
use Rattle.std.specs.Prelude.{nat_le}
use Rattle.std.specs.FinMap.{empty, get, remove, len}
use Rattle.seq_object.specs.declared.command.Command.TheVariants.{Put, Get, Del, Enq, Deq, Take}
use Rattle.seq_object.specs.declared.history.Entry.{Entry}
use Rattle.seq_object.specs.Sizes.{map_capacity}
use Rattle.seq_object.specs.Object.{Pairs, Contents, shard_of, shard_pairs, is_shard_full, is_queue_full, put_pairs, put_reply, get_reply, del_reply, rest_of, reply_to, contents_after, room_of, part_of}
use Rattle.seq_object.specs.History.{of_room, contents_at, IsLegal}
use Rattle.seq_object.specs.Laws.{RoomReplyLaw, OwnRoomLaw, OtherRoomLaw, RoomAfterLaw, RoomByRoomLaw, RoomBoundLaw, OneWholeLaw}
use Rattle.seq_object.proofs.Pairs.{one_map, got_key, kept_twice, kept_put_pairs, lost_put_pairs, kept_removed, lost_removed}
use Rattle.seq_object.specs.declared.sizes.Sizes.{Sizes}

-- contents of pairs alone
abbrev pub only_pairs : Pairs → Contents
only_pairs m = record { pairs = m; items = [] }

-- contents of items alone
abbrev pub only_items : List ℕ → Contents
only_items l = record { pairs = empty; items = l }

-- the queue's part is the items
queue_part : (z : Sizes) (c : Contents) → part_of z z.shards c ≡ only_items c.items
queue_part z c = ap (λ (b : Bool). if b then only_items c.items else only_pairs (shard_pairs z z.shards c.pairs)) (eq-eqb z.shards z.shards refl)

-- a shard's part is its pairs
map_part : (z : Sizes) (room : ℕ) (c : Contents) → room ≢ z.shards → part_of z room c ≡ only_pairs (shard_pairs z room c.pairs)
map_part z room c ne = ap (λ (b : Bool). if b then only_items c.items else only_pairs (shard_pairs z room c.pairs)) (ne_eqb room z.shards ne)

-- a key's room is not the queue's
no_queue : (z : Sizes) (key : ℕ) → 0 < z.shards → shard_of z key ≢ z.shards
no_queue z key pos e = omega arith

-- a key is in its own shard
mine : (z : Sizes) (key : ℕ) → (shard_of z key == shard_of z key) ≡ true
mine z key = eq-eqb (shard_of z key) (shard_of z key) refl

-- what a shard's own part says of a key
own_pair : (z : Sizes) (key : ℕ) (m : Pairs) → get (shard_pairs z (shard_of z key) m) key ≡ get m key
own_pair z key m = got_key m (λ k. shard_of z k == shard_of z key) key (mine z key)

-- a shard is full by its own pairs where it is by all
own_full : (z : Sizes) (key : ℕ) (m : Pairs) → is_shard_full z key (shard_pairs z (shard_of z key) m) ≡ is_shard_full z key m
own_full z key m = ap (λ (n : Pairs). nat_le (map_capacity z) (len n)) (kept_twice m (λ k. shard_of z k == shard_of z key))

-- the pairs of a key's shard after a put
own_put : (z : Sizes) (key value : ℕ) (m : Pairs) → shard_pairs z (shard_of z key) (put_pairs m key value (get m key) (is_shard_full z key m))
    ≡ put_pairs (shard_pairs z (shard_of z key) m) key value (get (shard_pairs z (shard_of z key) m) key) (is_shard_full z key (shard_pairs z (shard_of z key) m))
own_put z key value m =
    kept_put_pairs m (λ k. shard_of z k == shard_of z key) key value (get m key) (is_shard_full z key m) (mine z key)
    ∙ ap (λ (o : Option ℕ). put_pairs (shard_pairs z (shard_of z key) m) key value o (is_shard_full z key m)) (sym (own_pair z key m))
    ∙ ap (λ (b : Bool). put_pairs (shard_pairs z (shard_of z key) m) key value (get (shard_pairs z (shard_of z key) m) key) b) (sym (own_full z key m))

-- a command has its reply by its room's part
pub room_reply : RoomReplyLaw
room_reply z pos c (Put key value) = ap (λ (d : Contents). reply_to z d (Put key value)) (map_part z (shard_of z key) c (no_queue z key pos))
    ∙ ap (λ (o : Option ℕ). Some (put_reply o (is_shard_full z key (shard_pairs z (shard_of z key) c.pairs)))) (own_pair z key c.pairs)
    ∙ ap (λ (b : Bool). Some (put_reply (get c.pairs key) b)) (own_full z key c.pairs)
room_reply z pos c (Get key) = ap (λ (d : Contents). reply_to z d (Get key)) (map_part z (shard_of z key) c (no_queue z key pos)) ∙ ap (λ (o : Option ℕ). Some (get_reply o)) (own_pair z key c.pairs)
room_reply z pos c (Del key) = ap (λ (d : Contents). reply_to z d (Del key)) (map_part z (shard_of z key) c (no_queue z key pos)) ∙ ap (λ (o : Option ℕ). Some (del_reply o)) (own_pair z key c.pairs)
room_reply z pos c (Enq value) = ap (λ (d : Contents). reply_to z d (Enq value)) (queue_part z c)
room_reply z pos c Deq = ap (λ (d : Contents). reply_to z d Deq) (queue_part z c)
room_reply z pos c Take = ap (λ (d : Contents). reply_to z d Take) (queue_part z c)

-- a command changes its own room's part as it would alone
pub own_room : OwnRoomLaw
own_room z pos c (Put key value) = map_part z (shard_of z key) (contents_after z c (Put key value)) (no_queue z key pos) ∙ ap only_pairs (own_put z key value c.pairs)
    ∙ sym (ap (λ (d : Contents). contents_after z d (Put key value)) (map_part z (shard_of z key) c (no_queue z key pos)))
own_room z pos c (Get key) = refl
own_room z pos c (Del key) = map_part z (shard_of z key) (contents_after z c (Del key)) (no_queue z key pos) ∙ ap only_pairs (kept_removed c.pairs (λ k. shard_of z k == shard_of z key) key (mine z key))
    ∙ sym (ap (λ (d : Contents). contents_after z d (Del key)) (map_part z (shard_of z key) c (no_queue z key pos)))
own_room z pos c (Enq value) = queue_part z (contents_after z c (Enq value)) ∙ sym (ap (λ (d : Contents). contents_after z d (Enq value)) (queue_part z c))
own_room z pos c Deq = queue_part z (contents_after z c Deq) ∙ sym (ap (λ (d : Contents). contents_after z d Deq) (queue_part z c))
own_room z pos c Take = queue_part z (contents_after z c Take) ∙ sym (ap (λ (d : Contents). contents_after z d Take) (queue_part z c))

-- a change of the pairs that this shard does not see
other_pairs : (z : Sizes) (room : ℕ) (c : Contents) (m : Pairs) → (room ≢ z.shards → shard_pairs z room m ≡ shard_pairs z room c.pairs) → part_of z room (record c { pairs = m }) ≡ part_of z room c
other_pairs z room c m same = elim (eqb_tells room z.shards) [
  | inl h ↦ ap (λ (b : Bool). if b then only_items c.items else only_pairs (shard_pairs z room m)) h.0 ∙ sym (ap (λ (b : Bool). if b then only_items c.items else only_pairs (shard_pairs z room c.pairs)) h.0)
  | inr h ↦ map_part z room (record c { pairs = m }) h.1 ∙ ap only_pairs (same h.1) ∙ sym (map_part z room c h.1)
]

-- a change of the items, which no shard sees
other_items : (z : Sizes) (room : ℕ) (c : Contents) (l : List ℕ) → z.shards ≢ room → part_of z room (record c { items = l }) ≡ part_of z room c
other_items z room c l ne = map_part z room (record c { items = l }) (λ e. ne (sym e)) ∙ sym (map_part z room c (λ e. ne (sym e)))

-- a command leaves each other room's part
pub other_room : OtherRoomLaw
other_room z pos c (Put key value) room ne = other_pairs z room c (put_pairs c.pairs key value (get c.pairs key) (is_shard_full z key c.pairs)) (λ _. lost_put_pairs c.pairs (λ k. shard_of z k == room) key value (get c.pairs key) (is_shard_full z key c.pairs) (ne_eqb (shard_of z key) room ne))
other_room z pos c (Get key) room ne = refl
other_room z pos c (Del key) room ne = other_pairs z room c (remove c.pairs key) (λ _. lost_removed c.pairs (λ k. shard_of z k == room) key (ne_eqb (shard_of z key) room ne))
other_room z pos c (Enq value) room ne = other_items z room c (if is_queue_full z c.items then c.items else c.items ++ value ∷ []) ne
other_room z pos c Deq room ne = other_items z room c (rest_of c.items) ne
other_room z pos c Take room ne = other_items z room c (rest_of c.items) ne

-- one room's entries, by its first
own_first : (z : Sizes) (e : Entry) (es : List Entry) (room : ℕ) → room_of z e.command ≡ room → of_room z room (e ∷ es) ≡ e ∷ of_room z room es
own_first z e es room same = ap (λ (b : Bool). cond b (e ∷ of_room z room es) (of_room z room es)) (eq-eqb (room_of z e.command) room same)

-- an entry of another room is not among the entries of a room
other_first : (z : Sizes) (e : Entry) (es : List Entry) (room : ℕ) → room_of z e.command ≢ room → of_room z room (e ∷ es) ≡ of_room z room es
other_first z e es room ne = ap (λ (b : Bool). cond b (e ∷ of_room z room es) (of_room z room es)) (ne_eqb (room_of z e.command) room ne)

-- what a history leaves in a room is what the room's entries leave there
pub room_after : RoomAfterLaw
room_after z pos c [] room = refl
room_after z pos c (e ∷ es) room = elim (eqb_tells (room_of z e.command) room) [
  | inl h ↦ room_after z pos (contents_after z c e.command) es room
      ∙ ap (λ (d : Contents). contents_at z d (of_room z room es)) (subst (λ (r : ℕ). part_of z r (contents_after z c e.command) ≡ contents_after z (part_of z r c) e.command) h.1 (own_room z pos c e.command))
      ∙ sym (ap (contents_at z (part_of z room c)) (own_first z e es room h.1))
  | inr h ↦ room_after z pos (contents_after z c e.command) es room
      ∙ ap (λ (d : Contents). contents_at z d (of_room z room es)) (other_room z pos c e.command room h.1)
      ∙ sym (ap (contents_at z (part_of z room c)) (other_first z e es room h.1))
]

-- a history that is legal room by room is legal
together : (z : Sizes) → 0 < z.shards → (c : Contents) (h : List Entry) → ((room : ℕ) → IsLegal z (part_of z room c) (of_room z room h)) → IsLegal z c h
together z pos c [] f = tt
together z pos c (e ∷ es) f =
    let own : IsLegal z (part_of z (room_of z e.command) c) (e ∷ of_room z (room_of z e.command) es) = subst (IsLegal z (part_of z (room_of z e.command) c)) (own_first z e es (room_of z e.command) refl) (f (room_of z e.command)) in (
      sym (room_reply z pos c e.command) ∙ own.0,
      together z pos (contents_after z c e.command) es (λ room. elim (eqb_tells (room_of z e.command) room) [
        | inl h ↦ subst (λ (r : ℕ). IsLegal z (part_of z r (contents_after z c e.command)) (of_room z r es)) h.1 (subst (λ (d : Contents). IsLegal z d (of_room z (room_of z e.command) es)) (sym (own_room z pos c e.command)) own.1)
        | inr h ↦ subst (λ (d : Contents). IsLegal z d (of_room z room es)) (sym (other_room z pos c e.command room h.1)) (subst (IsLegal z (part_of z room c)) (other_first z e es room h.1) (f room))
      ]),
    )

-- a legal history is legal room by room
apart : (z : Sizes) → 0 < z.shards → (c : Contents) (h : List Entry) → IsLegal z c h → (room : ℕ) → IsLegal z (part_of z room c) (of_room z room h)
apart z pos c [] l room = tt
apart z pos c (e ∷ es) l room = elim (eqb_tells (room_of z e.command) room) [
  | inl h ↦ subst (λ (r : ℕ). IsLegal z (part_of z r c) (of_room z r (e ∷ es))) h.1
      (subst (IsLegal z (part_of z (room_of z e.command) c)) (sym (own_first z e es (room_of z e.command) refl))
      (room_reply z pos c e.command ∙ l.0, subst (λ (d : Contents). IsLegal z d (of_room z (room_of z e.command) es)) (own_room z pos c e.command) (apart z pos (contents_after z c e.command) es l.1 (room_of z e.command))))
  | inr h ↦ subst (IsLegal z (part_of z room c)) (sym (other_first z e es room h.1)) (subst (λ (d : Contents). IsLegal z d (of_room z room es)) (other_room z pos c e.command room h.1) (apart z pos (contents_after z c e.command) es l.1 room))
]

-- a history is legal exactly where it is legal room by room
pub room_by_room : RoomByRoomLaw
room_by_room z pos c h = (together z pos c h, apart z pos c h)

-- a command's room is a shard's or the queue's
pub room_bound : RoomBoundLaw
room_bound z pos (Put key value) = omega arith
room_bound z pos (Get key) = omega arith
room_bound z pos (Del key) = omega arith
room_bound z pos (Enq value) = omega arith
room_bound z pos Deq = omega arith
room_bound z pos Take = omega arith

-- contents with the same parts have the same pairs
one_pairs : (z : Sizes) → 0 < z.shards → (c d : Contents) → ((room : ℕ) → room ≤ z.shards → part_of z room c ≡ part_of z room d) → c.pairs ≡ d.pairs
one_pairs z pos c d same = one_map c.pairs d.pairs (λ key.
    sym (own_pair z key c.pairs)
    ∙ ap (λ (p : Contents). get p.pairs key) (sym (map_part z (shard_of z key) c (no_queue z key pos)) ∙ same (shard_of z key) (omega arith) ∙ map_part z (shard_of z key) d (no_queue z key pos))
    ∙ own_pair z key d.pairs)

-- contents with the same parts are the same
pub one_whole : OneWholeLaw
one_whole z pos c d same =
    let pairs = one_pairs z pos c d same in
    let items : c.items ≡ d.items = ap (λ (p : Contents). p.items) (sym (queue_part z c) ∙ same z.shards (omega arith) ∙ queue_part z d) in
    λ m. record { pairs = pairs m; items = items m }
