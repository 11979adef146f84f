-- A word that is found allows a step, or forbids it; and the word with which an epoch begins.
use Rattle.std.specs.Prelude.{IsBitSet, bit_and}
use Rattle.std.proofs.Common.{leb, nat_lt, ◌-◌, ◌==◌, ap, ◌∙◌, ◌≡◌, ◌≢◌, ◌^◌, ℕ, zero, suc, ◌<◌, ◌≤◌, ◌⊎◌, inl, inr, ⊎_elim, Bool, true, false, refl, sym, subst, arith}
use Rattle.std.proofs.lemmas.Bool.Decides.{leb_tells}
use Rattle.std.proofs.lemmas.Nat.Bits.{bit_at_ones, bit_at_ones_above}
use Rattle.std.proofs.Math.Pow.{pow_mono}
use Rattle.std.proofs.lemmas.Nat.{pow_pos}
use mathlib.Core.Logic.{dite}
use native.Mathlib.Decide.{ℕ_discrete}
use Rattle.restart_point.specs.declared.arrival.Arrival.{Arrival}
use Rattle.restart_point.specs.ArrivalWord.{is_set, arrival_of, AllStand}
use Rattle.block_allow.specs.Verdicts.{leaves}
use Rattle.yard_model.specs.Conditions.{MayLeave, MayClaim}
use Rattle.yard_model.specs.World.{Shows}
use Rattle.yard_laws.proofs.Bits.{arrival_shows}
use Rattle.room_yard.specs.Answers.{next_word}
use Rattle.room_yard.specs.Calls.{ForbidsLeave, ForbidsClaim}
use Rattle.room_yard.specs.Laws.{LeaveIsDecidedLaw, ClaimIsDecidedLaw, NextWordShowsLaw}

pub leave_is_decided : LeaveIsDecidedLaw
leave_is_decided v end word may = decide (arrival_of word).closing (arrival_of word).over (leaves end (arrival_of word).fed) refl refl refl
  where
    decide : (c o f : Bool) → (arrival_of word).closing ≡ c → (arrival_of word).over ≡ o → leaves end (arrival_of word).fed ≡ f → MayLeave v end word ⊎ ForbidsLeave v end word
    decide true o f p q r = inr (inl p)
    decide false true f p q r = inr (inr (inl q))
    decide false false false p q r = inr (inr (inr (inr r)))
    decide false false true p q r = ⊎_elim
        (λ (t : (leb (arrival_of word).epoch v.ran ≡ true) × ((arrival_of word).epoch ≤ v.ran)). inr (inr (inr (inl t.1))))
        (λ (t : (leb (arrival_of word).epoch v.ran ≡ false) × (v.ran < (arrival_of word).epoch)).
        inl (record { on = may.on; phase = may.phase; not_ended = may.not_ended; next = may.next; not_closing = p; not_over = q; later = t.1; allowed = r }))
        (leb_tells (arrival_of word).epoch v.ran)

-- each thread of so many stands, or not each
all_stand : (mask n : ℕ) → AllStand mask n ⊎ (AllStand mask n → ⊥)
all_stand mask zero = inl (λ i lt. absurd (omega (arith, lt)))
all_stand mask (suc n) = ⊎_elim
    (λ (all : AllStand mask n). dite (ℕ_discrete (bit_and mask (2 ^ n)) 0)
    (λ (zero : bit_and mask (2 ^ n) ≡ 0). inr (λ every. every n (omega arith) zero))
    (λ (is : bit_and mask (2 ^ n) ≢ 0). inl (λ i lt. dite (ℕ_discrete i n) (λ e. subst (IsBitSet mask) (sym e) is) (λ ne. all i (omega (arith, lt, ne))))))
    (λ (fails : AllStand mask n → ⊥). inr (λ every. fails (λ i lt. every i (omega (arith, lt)))))
    (all_stand mask n)

pub claim_is_decided : ClaimIsDecidedLaw
claim_is_decided v word may = decide (arrival_of word).closing (arrival_of word).over refl refl
  where
    decide : (c o : Bool) → (arrival_of word).closing ≡ c → (arrival_of word).over ≡ o → MayClaim v word ⊎ ForbidsClaim v word
    decide true o p q = inr (inr (inl p))
    decide false true p q = inr (inr (inr (inl q)))
    decide false false p q = ⊎_elim
        (λ (all : AllStand (arrival_of word).mask v.beginning.settings.threads). dite (ℕ_discrete (arrival_of word).epoch v.ran)
        (λ e. inl (record { on = may.on; phase = may.phase; few_checkpoints = may.few_checkpoints; all_stand = all; not_closing = p; not_over = q; epoch = e }))
        (λ ne. inr (inr (inr (inr ne)))))
        (λ (fails : AllStand (arrival_of word).mask v.beginning.settings.threads → ⊥). inr (inl fails))
        (all_stand (arrival_of word).mask v.beginning.settings.threads)

-- the mask of the first threads
first_threads : (n i : ℕ) → is_set (2 ^ n - 1) i ≡ nat_lt i n
first_threads n i = ⊎_elim
    (λ (t : (leb (suc i) n ≡ true) × (suc i ≤ n)). let lt = t.1 in ap (λ (k : ℕ). k == 1) (bit_at_ones n i (omega (arith, lt))) ∙ sym t.0)
    (λ (t : (leb (suc i) n ≡ false) × (n < suc i)). let ge = t.1 in ap (λ (k : ℕ). k == 1) (bit_at_ones_above n i (omega (arith, ge))) ∙ sym t.0)
    (leb_tells (suc i) n)

pub next_word_shows : NextWordShowsLaw
next_word_shows threads over fed epoch few early = record { standing = λ i lt. s.standing i lt ∙ first_threads threads i; closing = s.closing; over = s.over; fed = s.fed; zeros = s.zeros; epoch = s.epoch }
  where
    begins : Arrival
    begins = record { mask = 2 ^ threads - 1; closing = false; over = over; fed = fed; epoch = epoch }

    small : 2 ^ threads - 1 < 2 ^ 16
    small = let p : 2 ^ threads ≤ 2 ^ 16 = pow_mono few in let q : 0 < 2 ^ threads = pow_pos threads in omega (arith, p, q)

    s : Shows (next_word threads over fed epoch) (is_set (2 ^ threads - 1)) false over fed epoch
    s = arrival_shows begins (record { mask = small; epoch = early })
