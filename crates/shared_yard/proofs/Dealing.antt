-- What is known at the first seat is dealt out, a thread at a time.
use Rattle.std.proofs.Common.{◌≡◌, ℕ, suc, ◌+◌, ◌<◌, List, [], ◌∷◌, ◌++◌, length, None, false, sym, refl, ap, ◌∙◌, subst, ⊎_elim}
use Rattle.std.proofs.lemmas.List.{length_push}
use Rattle.atomic_table.specs.Seated.{TableId}
use Rattle.yard_model.specs.declared.view.Beginning.{Beginning}
use Rattle.yard_model.specs.declared.view.Phase.TheVariants.{Standing}
use Rattle.seq_object.specs.Sizes.{IsValid}
use Rattle.shared_yard.specs.declared.known.Known.{Known}
use Rattle.shared_yard.specs.declared.seat.YardSeat.{YardSeat}
use Rattle.shared_yard.specs.Rule.{one_view, opening_from}
use Rattle.shared_yard.specs.Plays.{SeatState}
use Rattle.shared_yard.specs.Hands.{IsHand}
use Rattle.shared_yard.specs.Seats.{first_known, rest_knowns, known_at, opening_known, AreDealt}
use Rattle.shared_yard.proofs.Parting.{at_end}

-- what is dealt next, and what stays
pub dealt_next : (b : Beginning) (i m n : ℕ) (ks : List Known) → m ≡ suc n → ks ≡ opening_from b i m → (first_known ks ≡ opening_known b i ∷ []) × (rest_knowns ks ≡ opening_from b (suc i) n)
dealt_next b i m n ks e is = let f : ks ≡ opening_from b i (suc n) = is ∙ ap (opening_from b i) e in (ap first_known f, ap rest_knowns f)

-- a seat at which is known what a thread knows as a life opens
pub opening_hand : (b : Beginning) (i : ℕ) (m : SeatState) → IsValid b.settings → i < b.settings.threads → m.0 ≡ opening_known b i ∷ [] → m.1 ≡ [] → IsHand m (one_view m.0).beginning i Standing None 0 false
opening_hand b i m valid lt known slots = subst (λ (ks : List Known). IsHand (ks, m.1) (one_view ks).beginning i Standing None 0 false) (sym known) (record {
  one = refl;
  begins = refl;
  few_threads = valid.sizes.few_threads;
  thread_is = refl;
  is_thread = lt;
  phase_is = refl;
  room_is = refl;
  within = λ g e. absurd (cc);
  ran_is = refl;
  off_is = refl;
  own_are = refl;
  slots = slots;
})

-- one more seat is dealt
pub dealt_more : (t : TableId) (b : Beginning) (n : ℕ) (seats : List YardSeat) (s : YardSeat) → AreDealt t b n seats → s.seat.table_id ≡ t → known_at s ≡ opening_known b n → AreDealt t b (n + 1) (seats ++ s ∷ [])
dealt_more t b n seats s are table known = record {
  number = length_push seats s ∙ ap (λ (n : ℕ). n + 1) are.number;
  each = λ i q e. ⊎_elim (are.each i q) (λ (z : (i ≡ length seats) × (s ≡ q)). subst (λ (k : ℕ × YardSeat). (k.1.seat.table_id ≡ t) × (known_at k.1 ≡ opening_known b k.0)) (λ j. (sym (z.0 ∙ are.number) j, z.1 j)) (table, known)) (at_end seats s q i e);
}
