-- The walks over the buckets, one after the other.
use Rattle.std.proofs.Common.{◌≡◌, ℕ, ◌≤◌, zero, suc, Bool, Option, Some, None, List, [], length, arith, refl, ap, sym, ◌∙◌, subst, inl, inr, if◌then◌else◌}
use Rattle.std.proofs.lemmas.Bool.Decides.{eqb_tells}
use Rattle.std.specs.FinMap.{get}
use Rattle.seq_object.specs.Object.{Pairs, shard_of}
use Rattle.room_model.specs.Chains.{RoomWords}
use Rattle.room_model.specs.MapRoom.{Layout, head, found, bucket_of}
use Rattle.room_model.specs.Walks.{map_of}
use Rattle.room_laws.proofs.Maps.{bucket_below}
use Rattle.image_check.specs.declared.room_fault.RoomFault.{RoomFault}
use Rattle.image_check.specs.declared.walking.Met.{Met}
use Rattle.image_check.specs.Meeting.{met_from}
use Rattle.image_check.specs.Marks.{HasMarksOf, IsClear}
use Rattle.image_check.specs.QueueFaults.{met_free, fault_of_free}
use Rattle.image_check.specs.MapFaults.{may_join, met_bucket, met_chains, fault_of_chains}
use Rattle.image_check.specs.Keyed.{IsKeyed, IsNoted, HasNoted, HasShardPairs}
use Rattle.image_check.proofs.MapChecks.{chain_of, chains_met, map_has}
use Rattle.seq_object.specs.declared.sizes.Sizes.{Sizes}

-- the chains of the first buckets are met and noted
pub record AreNoted (layout : Layout) (z : Sizes) (shard : ℕ) (r : RoomWords) (others : Pairs) (n : ℕ) (marks : List Bool) (now : Met) (pairs : Pairs) : Type 0 where
  pub met : List ℕ
  pub is : met_chains layout z shard r n ≡ Some met
  pub noted : IsNoted r z shard others marks now pairs met

-- with clear marks and no pair of the shard nothing is met yet
pub none_noted : (layout : Layout) (z : Sizes) (shard : ℕ) (r : RoomWords) (pairs : Pairs) (marks : List Bool) → IsClear marks → ((key : ℕ) → shard_of z key ≡ shard → get pairs key ≡ None)
    → AreNoted layout z shard r pairs 0 marks (record { count = 0; latest = 0 }) pairs
none_noted layout z shard r pairs marks clear others = record {
  met = [];
  is = refl;
  noted = record { marked = record { marked = clear; count = refl; latest_is = refl }; keyed = keyed };
}
  where
    keyed : IsKeyed r z shard pairs pairs []
    keyed key = elim (eqb_tells (shard_of z key) shard) [
      | inl e ↦ others key e.1 ∙ sym (ap (λ (b : Bool). if b then None else get pairs key) e.0)
      | inr e ↦ sym (ap (λ (b : Bool). if b then None else get pairs key) e.0)
    ]

-- where a bucket's walk was refused, so are all
stays_none : (layout : Layout) (z : Sizes) (shard : ℕ) (r : RoomWords) (n k : ℕ) → met_chains layout z shard r n ≡ None → n ≤ k → met_chains layout z shard r k ≡ None
stays_none layout z shard r n zero none le = let e : n ≡ 0 = omega arith in ap (met_chains layout z shard r) (sym e) ∙ none
stays_none layout z shard r n (suc k) none le = elim (eqb_tells n (suc k)) [
  | inl e ↦ ap (met_chains layout z shard r) (sym e.1) ∙ none
  | inr e ↦ ap (met_bucket layout z shard r k) (stays_none layout z shard r n k none (omega (arith, e.1, le)))
]

noted_is_none : (r : RoomWords) (z : Sizes) (shard : ℕ) (others : Pairs) (marks : List Bool) (pairs : Pairs) (o : Option (List ℕ)) → HasNoted r z shard others None marks pairs o → o ≡ None
noted_is_none r z shard others marks pairs None h = refl
noted_is_none r z shard others marks pairs (Some met) h = absurd h

pub bucket_refused : (layout : Layout) (z : Sizes) (shard : ℕ) (r : RoomWords) (others : Pairs) (n first start : ℕ) (marks marks' : List Bool) (now : Met) (pairs pairs' : Pairs)
    → suc n ≤ 8 → first ≡ layout.first → start ≡ head layout r n → AreNoted layout z shard r others n marks now pairs
    → ((before : List ℕ) → IsNoted r z shard others marks now pairs before → HasNoted r z shard others None marks' pairs' (met_from (λ x. r x 2) (may_join first r z shard n) before z.lines start))
    → HasNoted r z shard others None marks' pairs' (met_chains layout z shard r 8)
bucket_refused layout z shard r others n first start marks marks' now pairs pairs' le is_first is_head h walked =
    let none : met_from (λ x. r x 2) (may_join first r z shard n) h.met z.lines start ≡ None = noted_is_none r z shard others marks' pairs' (met_from (λ x. r x 2) (may_join first r z shard n) h.met z.lines start) (walked h.met h.noted) in
    let here : met_chains layout z shard r (suc n) ≡ None = ap (met_bucket layout z shard r n) h.is
    ∙ ap (λ (k : ℕ). met_from (λ x. r x 2) (may_join k r z shard n) h.met z.lines (head layout r n)) (sym is_first)
    ∙ ap (met_from (λ x. r x 2) (may_join first r z shard n) h.met z.lines) (sym is_head) ∙ none in
    subst (HasNoted r z shard others None marks' pairs') (sym (stays_none layout z shard r (suc n) 8 here le)) tt

record HasNotedSome (r : RoomWords) (z : Sizes) (shard : ℕ) (others : Pairs) (now : Met) (marks : List Bool) (pairs : Pairs) (o : Option (List ℕ)) : Type 0 where
  pub met : List ℕ
  pub is : o ≡ Some met
  pub noted : IsNoted r z shard others marks now pairs met

noted_is_some : (r : RoomWords) (z : Sizes) (shard : ℕ) (others : Pairs) (now : Met) (marks : List Bool) (pairs : Pairs) (o : Option (List ℕ)) → HasNoted r z shard others (Some now) marks pairs o → HasNotedSome r z shard others now marks pairs o
noted_is_some r z shard others now marks pairs None h = absurd h
noted_is_some r z shard others now marks pairs (Some met) h = record { met = met; is = refl; noted = h }

pub bucket_noted : (layout : Layout) (z : Sizes) (shard : ℕ) (r : RoomWords) (others : Pairs) (n first start : ℕ) (marks marks' : List Bool) (now now' : Met) (pairs pairs' : Pairs)
    → first ≡ layout.first → start ≡ head layout r n → AreNoted layout z shard r others n marks now pairs
    → ((before : List ℕ) → IsNoted r z shard others marks now pairs before → HasNoted r z shard others (Some now') marks' pairs' (met_from (λ x. r x 2) (may_join first r z shard n) before z.lines start))
    → AreNoted layout z shard r others (suc n) marks' now' pairs'
bucket_noted layout z shard r others n first start marks marks' now now' pairs pairs' is_first is_head h walked =
    let some = noted_is_some r z shard others now' marks' pairs' (met_from (λ x. r x 2) (may_join first r z shard n) h.met z.lines start) (walked h.met h.noted) in
    record {
      met = some.met;
      is = ap (met_bucket layout z shard r n) h.is
          ∙ ap (λ (k : ℕ). met_from (λ x. r x 2) (may_join k r z shard n) h.met z.lines (head layout r n)) (sym is_first)
          ∙ ap (met_from (λ x. r x 2) (may_join first r z shard n) h.met z.lines) (sym is_head) ∙ some.is;
      noted = some.noted;
    }

pub map_free_fault : (layout : Layout) (z : Sizes) (shard : ℕ) (r : RoomWords) (others : Pairs) (first : ℕ) (marks : List Bool) (pairs : Pairs) (now : Met) (result : Option RoomFault) → first ≡ layout.first
    → HasNoted r z shard others (Some now) marks pairs (met_chains layout z shard r 8) → ((before : List ℕ) → HasMarksOf marks now before → result ≡ fault_of_free first r (length before) (met_free first z r before))
    → result ≡ fault_of_chains layout.first z r (met_chains layout z shard r 8)
map_free_fault layout z shard r others first marks pairs now result is_first noted free =
    let told = noted_is_some r z shard others now marks pairs (met_chains layout z shard r 8) noted in
    free told.met told.noted.marked ∙ ap (λ (k : ℕ). fault_of_free k r (length told.met) (met_free k z r told.met)) is_first
    ∙ sym (ap (fault_of_chains layout.first z r) told.is)

-- where the room has no fault, its pairs are kept beside the others
pub map_kept : (layout : Layout) (z : Sizes) (shard : ℕ) (r : RoomWords) (others : Pairs) (marks : List Bool) (pairs : Pairs) (now : Met) → HasNoted r z shard others (Some now) marks pairs (met_chains layout z shard r 8)
    → HasShardPairs layout z shard r others pairs
map_kept layout z shard r others marks pairs now noted key =
    let told = noted_is_some r z shard others now marks pairs (met_chains layout z shard r 8) noted in
    let held = chains_met layout z shard r 8 told.met told.is in
    told.noted.keyed key ∙ elim (eqb_tells (shard_of z key) shard) [
      | inl e ↦
          ap (λ (b : Bool). if b then found r key told.met else get others key) e.0 ∙ held.here key (bucket_below z key) e.1
          ∙ sym (ap (λ (b : Bool). if b then get (map_of layout z r) key else get others key) e.0 ∙ map_has layout z shard r told.met held key ∙ ap (λ (b : Bool). if b then found r key (chain_of layout z r (bucket_of z key)) else None) e.0)
      | inr e ↦
          ap (λ (b : Bool). if b then found r key told.met else get others key) e.0
          ∙ sym (ap (λ (b : Bool). if b then get (map_of layout z r) key else get others key) e.0)
    ]
