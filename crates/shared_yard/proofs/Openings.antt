-- The table of a yard with which a life opens keeps the rule, and what is known at its first seat is split among its threads.
use Rattle.std.proofs.Common.{◌≡◌, ◌≢◌, ℕ, zero, suc, ◌+◌, ◌<◌, ◌≤◌, true, List, [], ◌∷◌, map, length, sym, refl, ap, ◌∙◌, subst, arith, Option, Some}
use mathlib.Core.Option.{some, some-injective, some-ne-none}
use lib.ListN.{get_elem?}
use Rattle.atomic_table.specs.Table.{opening}
use Rattle.rooms.specs.declared.room.Room.{Room}
use Rattle.yard_model.specs.declared.view.Beginning.{Beginning}
use Rattle.yard_model.specs.declared.view.View.{View}
use Rattle.yard_model.specs.Beginnings.{is_over}
use Rattle.yard_model.specs.Lawful.{Lawful}
use Rattle.yard_model.specs.Opens.{opening_view, opening_views, opening_views_from}
use Rattle.yard_laws.proofs.Beginning.{opens_lawful}
use Rattle.room_yard.specs.World.{WorldState, Opens, opening_yard}
use Rattle.shared_yard.specs.declared.known.Known.{Known}
use Rattle.shared_yard.specs.Rule.{home_of, SitsAt, Each, AllApart, AreSeated, SawOver, IsLawfulTable, opening_from, opening_knowns}
use Rattle.shared_yard.specs.Openings.{opening_words}
use Rattle.shared_yard.proofs.Seated.{Each-weaker}

all_home : (rooms : List (Option Room)) → map home_of (map some rooms) ≡ rooms
all_home [] = refl
all_home (x ∷ rooms) = ap (λ (l : List (Option Room)). x ∷ l) (all_home rooms)

there : (b : Beginning) (i n d : ℕ) → d < n → get_elem? (opening_views_from b i n) d ≡ some (opening_view b (i + d))
there b i zero d lt = absurd (omega (arith, lt))
there b i (suc n) zero lt = ap (λ (i : ℕ). some (opening_view b i)) (omega arith)
there b i (suc n) (suc d) lt = there b (suc i) n d (omega (arith, lt)) ∙ ap (λ (i : ℕ). some (opening_view b i)) (let e : suc i + d ≡ i + suc d = omega arith in e)

sits_from : (views : List View) (b : Beginning) (i n : ℕ) → ((d : ℕ) → d < n → get_elem? views (i + d) ≡ some (opening_view b (i + d))) → Each (SitsAt views [] (λ _. 0) 0) (opening_from b i n)
sits_from views b i zero f = tt
sits_from views b i (suc n) f = (
  record { view = subst (λ (j : ℕ). get_elem? views j ≡ some (opening_view b j)) (let e : i + 0 ≡ i = omega arith in e) (f 0 (omega arith)); own = refl; sits = refl },
  sits_from views b (suc i) n (λ d lt. subst (λ (j : ℕ). get_elem? views j ≡ some (opening_view b j)) (let e : i + suc d ≡ suc i + d = omega arith in e) (f (suc d) (omega (arith, lt)))),
)

apart_from : (b : Beginning) (i n : ℕ) → Each (λ (u : Known). i ≤ u.view.thread) (opening_from b i n) × AllApart (opening_from b i n)
apart_from b i zero = (tt, tt)
apart_from b i (suc n) = let t = apart_from b (suc i) n in (
  (omega arith, Each-weaker (λ (u : Known). suc i ≤ u.view.thread) (λ (u : Known). i ≤ u.view.thread) (λ u le. omega (arith, le)) (opening_from b (suc i) n) t.0),
  (Each-weaker (λ (u : Known). suc i ≤ u.view.thread) (λ (u : Known). i ≢ u.view.thread) (λ u le e. omega (arith, le, e)) (opening_from b (suc i) n) t.0, t.1),
)

-- the table of a world with which a life opens
pub opens_table : (b : Beginning) (w : WorldState) (ws : List ℕ) (slots : List (Option Room)) → Opens b w → ws ≡ opening_words w.arrival (length w.rooms) → slots ≡ map Some w.rooms → IsLawfulTable (opening ws slots (opening_knowns b))
opens_table b w ws slots o e f = subst (λ (z : List ℕ × List (Option Room)). IsLawfulTable (opening z.0 z.1 (opening_knowns b))) (λ j. (sym e j, sym f j)) (record {
  beginning = b;
  views = opening_views b;
  history = [];
  releases = [];
  seat_of = λ _. 0;
  lawful = subst (λ (l : List (Option Room)). Lawful b (record { words = opening_words w.arrival (length w.rooms); rooms = l; views = opening_views b }) [] []) (sym (all_home (map Some w.rooms))) (opens_lawful b (opening_yard b w) o.yard);
  seated = seated;
  seen = seen;
})
  where
    first : AreSeated (opening_views b) [] (λ _. 0) 0 (opening_knowns b)
    first = (
      sits_from (opening_views b) b 0 b.settings.threads (λ d lt. subst (λ (j : ℕ). get_elem? (opening_views b) j ≡ some (opening_view b (0 + d))) (let e : d ≡ 0 + d = omega arith in e) (there b 0 b.settings.threads d lt)),
      (apart_from b 0 b.settings.threads).1,
    )

    seated : (j : ℕ) (ks : List Known) → get_elem? (opening_knowns b ∷ []) j ≡ some ks → AreSeated (opening_views b) [] (λ _. 0) j ks
    seated zero ks e = subst (λ (ks : List Known). AreSeated (opening_views b) [] (λ _. 0) 0 ks) (some-injective (opening_knowns b) ks e) first
    seated (suc j) ks e = absurd (some-ne-none ks (sym e))

    -- none has looked
    seen_from : (i n j : ℕ) (v : View) → get_elem? (opening_views_from b i n) j ≡ some v → SawOver v → is_over b [] ≡ true
    seen_from i zero j v e saw = absurd (some-ne-none v (sym e))
    seen_from i (suc n) zero v e saw = let f : 0 ≡ 2 = ap (λ (v : View). v.look.word) (some-injective (opening_view b i) v e) ∙ saw.word in absurd (omega (arith, f))
    seen_from i (suc n) (suc j) v e saw = seen_from (suc i) n j v e saw

    seen : (j : ℕ) (v : View) → get_elem? (opening_views b) j ≡ some v → SawOver v → is_over b [] ≡ true
    seen = seen_from 0 b.settings.threads
