-- A line of a bucket's chain that is refused, or is met and noted.
use Rattle.std.proofs.Common.{◌≡◌, ℕ, ◌==◌, ◌&&◌, Bool, true, false, cond, Option, Some, None, is_none, List, ◌∷◌, refl, ap, sym, ◌∙◌, subst, inl, inr, if◌then◌else◌}
use Rattle.std.proofs.lemmas.Bool.Decides.{eqb_tells}
use Rattle.std.specs.FinMap.{get, insert}
use Rattle.seq_object.specs.Object.{Pairs, shard_of}
use Rattle.seq_object.proofs.Pairs.{got_put}
use Rattle.room_model.specs.Chains.{RoomWords}
use Rattle.room_model.specs.MapRoom.{found, bucket_of}
use Rattle.room_laws.proofs.Keys.{found-here, found-there}
use Rattle.image_check.specs.declared.walking.Met.{Met}
use Rattle.image_check.specs.Meeting.{is_new}
use Rattle.image_check.specs.MapFaults.{is_placed, is_new_key, may_join}
use Rattle.image_check.specs.Keyed.{IsKeyed, IsNoted, HasNoted}
use Rattle.image_check.specs.Marks.{HasMarksOf}
use Rattle.image_check.proofs.QueueChecks.{both}
use Rattle.image_check.proofs.Walks.{HasEnded}
use Rattle.seq_object.specs.declared.sizes.Sizes.{Sizes}

pub noted_none : (r : RoomWords) (z : Sizes) (shard : ℕ) (others : Pairs) (marks : List Bool) (pairs : Pairs) (o : Option (List ℕ)) → o ≡ None → HasNoted r z shard others None marks pairs o
noted_none r z shard others marks pairs o e = subst (HasNoted r z shard others None marks pairs) (sym e) tt

pub noted_some : (r : RoomWords) (z : Sizes) (shard : ℕ) (others : Pairs) (now : Met) (marks : List Bool) (pairs : Pairs) (o : Option (List ℕ)) → HasEnded (IsNoted r z shard others marks now pairs) o → HasNoted r z shard others (Some now) marks pairs o
noted_some r z shard others now marks pairs o h = subst (HasNoted r z shard others (Some now) marks pairs) (sym h.is) h.kept

and_false : (a b : Bool) → b ≡ false → a && b ≡ false
and_false true b h = h
and_false false b h = refl

-- the pairs have at a key of this place what the lines met have
key_of : (r : RoomWords) (z : Sizes) (shard b key : ℕ) (others pairs : Pairs) (met : List ℕ) → true ≡ is_placed z shard b key → IsKeyed r z shard others pairs met → get pairs key ≡ found r key met
key_of r z shard b key others pairs met placed keyed =
    keyed key ∙ ap (λ (t : Bool). if t then found r key met else get others key) ((both (shard_of z key == shard) (bucket_of z key == b) (sym placed)).0)

-- a line that is not new
pub refuse_line : (first : ℕ) (r : RoomWords) (z : Sizes) (shard b : ℕ) (met : List ℕ) (x : ℕ) → is_new first (r 0 1) met x ≡ false → may_join first r z shard b met x ≡ false
refuse_line first r z shard b met x h = ap (λ (t : Bool). t && is_new_key r z shard b met (r x 0)) h

-- a key of another place
pub refuse_place : (first : ℕ) (r : RoomWords) (z : Sizes) (shard b : ℕ) (met : List ℕ) (x key : ℕ) → key ≡ r x 0 → false ≡ is_placed z shard b key → may_join first r z shard b met x ≡ false
refuse_place first r z shard b met x key is h =
    and_false (is_new first (r 0 1) met x) (is_new_key r z shard b met (r x 0))
    (subst (λ (k : ℕ). is_new_key r z shard b met k ≡ false) is (ap (λ (t : Bool). t && is_none (found r key met)) (sym h)))

-- a key that was met
pub refuse_key : (first : ℕ) (r : RoomWords) (z : Sizes) (shard b : ℕ) (met : List ℕ) (x key : ℕ) (others pairs : Pairs) (new : Bool) → key ≡ r x 0 → true ≡ is_placed z shard b key
    → new ≡ is_none (get pairs key) → new ≡ false → IsKeyed r z shard others pairs met → may_join first r z shard b met x ≡ false
refuse_key first r z shard b met x key others pairs new is placed tells old keyed =
    let has : is_none (found r key met) ≡ false = ap is_none (sym (key_of r z shard b key others pairs met placed keyed)) ∙ sym tells ∙ old in
    and_false (is_new first (r 0 1) met x) (is_new_key r z shard b met (r x 0))
    (subst (λ (k : ℕ). is_new_key r z shard b met k ≡ false) is (and_false (is_placed z shard b key) (is_none (found r key met)) has))

-- one more pair
pub keyed_more : (r : RoomWords) (z : Sizes) (shard b x key value : ℕ) (others pairs pairs' : Pairs) (met : List ℕ) → key ≡ r x 0 → value ≡ r x 1 → true ≡ is_placed z shard b key → pairs' ≡ insert pairs key value
    → IsKeyed r z shard others pairs met → IsKeyed r z shard others pairs' (x ∷ met)
keyed_more r z shard b x key value others pairs pairs' met is_key is_value placed put keyed q =
    ap (λ (p : Pairs). get p q) put ∙ got_put pairs key value q ∙ elim (eqb_tells q key) [
      | inl e ↦
          let mine : (shard_of z q == shard) ≡ true = ap (λ (k : ℕ). shard_of z k == shard) e.1 ∙ (both (shard_of z key == shard) (bucket_of z key == b) (sym placed)).0 in
          ap (λ (t : Bool). cond t (Some value) (get pairs q)) e.0 ∙ ap (λ (v : ℕ). Some v) is_value
          ∙ sym (ap (λ (t : Bool). if t then found r q (x ∷ met) else get others q) mine ∙ found-here r q x met (sym is_key ∙ sym e.1))
      | inr e ↦
          ap (λ (t : Bool). cond t (Some value) (get pairs q)) e.0 ∙ keyed q
          ∙ ap (λ (o : Option ℕ). if shard_of z q == shard then o else get others q) (sym (found-there r q x met (λ h. e.1 (sym h ∙ sym is_key))))
    ]

-- a line that is met and noted
pub note_line : (first : ℕ) (r : RoomWords) (z : Sizes) (shard b : ℕ) (met : List ℕ) (marks marks' : List Bool) (now now' : Met) (x key value : ℕ) (others pairs pairs' : Pairs) (new : Bool) → is_new first (r 0 1) met x ≡ true
    → HasMarksOf marks' now' (x ∷ met) → key ≡ r x 0 → value ≡ r x 1 → true ≡ is_placed z shard b key → new ≡ is_none (get pairs key) → new ≡ true → pairs' ≡ insert pairs key value → IsNoted r z shard others marks now pairs met
    → (may_join first r z shard b met x ≡ true) × IsNoted r z shard others marks' now' pairs' (x ∷ met)
note_line first r z shard b met marks marks' now now' x key value others pairs pairs' new fresh marked is_key is_value placed tells is_new_one put noted =
    let no : is_none (found r key met) ≡ true = ap is_none (sym (key_of r z shard b key others pairs met placed noted.keyed)) ∙ sym tells ∙ is_new_one in
    let new_key : is_new_key r z shard b met key ≡ true = ap (λ (t : Bool). t && is_none (found r key met)) (sym placed) ∙ no in (
      ap (λ (t : Bool). t && is_new_key r z shard b met (r x 0)) fresh ∙ subst (λ (k : ℕ). is_new_key r z shard b met k ≡ true) is_key new_key,
      record {
        marked = marked;
        keyed = keyed_more r z shard b x key value others pairs pairs' met is_key is_value placed put noted.keyed;
      },
    )
