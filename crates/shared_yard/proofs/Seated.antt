-- A step of one thread leaves every thread at its seat, with its view and its own checkpoints.
use Rattle.std.proofs.Common.{◌≡◌, ◌≢◌, ℕ, suc, ◌+◌, eqb, eq-eqb, ne_eqb, if◌then◌else◌, Bool, true, false, List, [], ◌∷◌, ◌++◌, length, set, sym, refl, ap, ◌∙◌, subst, arith, Option, Some}
use Rattle.std.proofs.lemmas.List.{map-append, length-map}
use mathlib.Core.Option.{some}
use mathlib.Core.Option as maybe
use lib.ListN.{get_elem?}
use Rattle.seq_object.specs.declared.history.Entry.{Entry}
use Rattle.restart_point.specs.ArrivalWord.{arrival_of}
use Rattle.rooms.specs.declared.room.Room.{Room}
use Rattle.yard_model.specs.declared.view.Beginning.{Beginning}
use Rattle.yard_model.specs.declared.view.View.{View}
use Rattle.yard_model.specs.declared.view.Look.{Look}
use Rattle.yard_model.specs.declared.view.Checkpoint.{Checkpoint}
use Rattle.yard_model.specs.declared.view.OwnMark.{OwnMark}
use Rattle.yard_model.specs.Beginnings.{first_epoch, epoch_now, is_over}
use Rattle.yard_model.specs.Lawful.{Lawful}
use Rattle.yard_model.specs.Shares.{Release, checkpoints_of, own_mark, own_from, AreOwnOf}
use Rattle.yard_laws.proofs.Lists.{each_set, set_here, set_else, at_inside}
use Rattle.room_yard.specs.Told.{Told, IsTold}
use Rattle.shared_yard.specs.declared.known.Known.{Known}
use Rattle.shared_yard.specs.Rule.{TableState, yard_of, Each, SitsAt, AreSeated, SawOver, IsLawfulTable, with_view_of}

pub Each-weaker : {A : Type 0} (P Q : A → Type 0) → ((x : A) → P x → Q x) → (l : List A) → Each P l → Each Q l
Each-weaker P Q f [] a = tt
Each-weaker P Q f (x ∷ xs) a = (f x a.0, Each-weaker P Q f xs a.1)

-- OWN CHECKPOINTS of a thread, once one more is released: by it, or by another thread

module _ (i : ℕ) (c : Checkpoint) where
  own_here : (epoch : ℕ) (rs : List Release) → own_from i epoch (rs ++ record { thread = i; checkpoint = c } ∷ []) ≡ own_from i epoch rs ++ own_mark (epoch + length rs) c ∷ []
  own_here epoch [] = ap (λ (b : Bool). if b then own_mark epoch c ∷ [] else []) (eq-eqb i i refl) ∙ ap (λ (q : ℕ). own_mark q c ∷ []) (let e : epoch ≡ epoch + 0 = omega arith in e)
  own_here epoch (r ∷ rs) = by (eqb r.thread i) (own_here (suc epoch) rs ∙ ap (λ (q : ℕ). own_from i (suc epoch) rs ++ own_mark q c ∷ []) (let e : suc epoch + length rs ≡ epoch + suc (length rs) = omega arith in e))
    where
      by : (b : Bool) → own_from i (suc epoch) (rs ++ record { thread = i; checkpoint = c } ∷ []) ≡ own_from i (suc epoch) rs ++ own_mark (epoch + suc (length rs)) c ∷ []
          → (if b then own_mark epoch r.checkpoint ∷ own_from i (suc epoch) (rs ++ record { thread = i; checkpoint = c } ∷ []) else own_from i (suc epoch) (rs ++ record { thread = i; checkpoint = c } ∷ []))
          ≡ (if b then own_mark epoch r.checkpoint ∷ own_from i (suc epoch) rs else own_from i (suc epoch) rs) ++ own_mark (epoch + suc (length rs)) c ∷ []
      by true e = ap (λ (o : List OwnMark). own_mark epoch r.checkpoint ∷ o) e
      by false e = e

  own_else : (j epoch : ℕ) (rs : List Release) → i ≢ j → own_from j epoch (rs ++ record { thread = i; checkpoint = c } ∷ []) ≡ own_from j epoch rs
  own_else j epoch [] n = ap (λ (b : Bool). if b then own_mark epoch c ∷ [] else []) (ne_eqb i j n)
  own_else j epoch (r ∷ rs) n = ap (λ (o : List OwnMark). if eqb r.thread j then own_mark epoch r.checkpoint ∷ o else o) (own_else j (suc epoch) rs n)

-- what is told of a table that keeps the rule
abbrev pub told_of : (s : TableState) → IsLawfulTable s → Told
told_of s l = record { world = yard_of s.words s.homes l.views; history = l.history; checkpoints = checkpoints_of l.releases }

module _ (s : TableState) (l : IsLawfulTable s) (id : ℕ) (k : Known) (at : get_elem? s.views id ≡ some (k ∷ [])) where
  here : SitsAt l.views l.releases l.seat_of id k
  here = (l.seated id (k ∷ []) at).0.0

  pub is_told : IsTold (Some (told_of s l)) k.view
  is_told = (
    subst (λ (b : Beginning). Lawful b (yard_of s.words s.homes l.views) l.history (checkpoints_of l.releases)) (sym (l.lawful.sized.beginnings k.view.thread k.view here.view)) l.lawful,
    here.view,
  )

  -- the one view of the seat is w now
  abbrev now_views : View → List View
  now_views w = set l.views k.view.thread w

  -- who sits at another seat is another thread
  is_other : (j : ℕ) (u : Known) → j ≢ id → SitsAt l.views l.releases l.seat_of j u → u.view.thread ≢ k.view.thread
  is_other j u n t p = n (sym t.sits ∙ (ap l.seat_of p ∙ here.sits))

  -- the life that each thread knows
  same_life : l.beginning ≡ k.view.beginning
  same_life = sym (l.lawful.sized.beginnings k.view.thread k.view here.view)

  -- what the thread saw before
  pub saw_before : (w : View) → w.beginning ≡ k.view.beginning → w.look ≡ k.view.look → SawOver w → is_over w.beginning (checkpoints_of l.releases) ≡ true
  saw_before w begins look saw = ap (λ (b : Beginning). is_over b (checkpoints_of l.releases)) (begins ∙ sym same_life)
      ∙ l.seen k.view.thread k.view here.view (record { word = ap (λ (q : Look). q.word) (sym look) ∙ saw.word; shown = ap (λ (q : Look). (arrival_of q.found).over) (sym look) ∙ saw.shown })

  -- a step of this thread
  pub reseat : (w : View) (ws : List ℕ) (hs : List (maybe.Option (Option Room))) (h : List Entry) → w.thread ≡ k.view.thread → w.beginning ≡ k.view.beginning
      → (SawOver w → is_over w.beginning (checkpoints_of l.releases) ≡ true)
      → Lawful w.beginning (yard_of ws hs (now_views w)) h (checkpoints_of l.releases) → IsLawfulTable (record { words = ws; homes = hs; views = set s.views id (with_view_of k w ∷ []) })
  reseat w ws hs h same begins saw lawful = record {
    beginning = w.beginning;
    views = now_views w;
    history = h;
    releases = l.releases;
    seat_of = l.seat_of;
    lawful = lawful;
    seated = each_set (λ (j : ℕ) (ks : List Known). AreSeated (now_views w) l.releases l.seat_of j ks) s.views id (with_view_of k w ∷ []) (
      (
        record {
          view = ap (get_elem? (now_views w)) same ∙ set_here l.views k.view.thread w (at_inside l.views k.view.thread k.view here.view);
          own = here.own ∙ (λ j. own_from (sym same j) (first_epoch (sym begins j) + 1) l.releases);
          sits = ap l.seat_of same ∙ here.sits;
        },
        tt,
      ),
      (tt, tt),
    )
        (λ j ks n e. let old = l.seated j ks e in (
          Each-weaker (SitsAt l.views l.releases l.seat_of j) (SitsAt (now_views w) l.releases l.seat_of j)
              (λ u t. record { view = set_else l.views k.view.thread u.view.thread w (is_other j u n t) ∙ t.view; own = t.own; sits = t.sits }) ks old.0,
          old.1,
        ));
    seen = each_set (λ (j : ℕ) (u : View). SawOver u → is_over w.beginning (checkpoints_of l.releases) ≡ true) l.views k.view.thread w saw
        (λ j u n e t. ap (λ (b : Beginning). is_over b (checkpoints_of l.releases)) (begins ∙ sym same_life) ∙ l.seen j u e t);
  }

  -- and one that adds a checkpoint of it, where the life is not over
  pub rerelease : (w : View) (c : Checkpoint) (ws : List ℕ) (epoch : ℕ) → epoch ≡ epoch_now k.view.beginning (checkpoints_of l.releases) + 1 → w.thread ≡ k.view.thread → w.beginning ≡ k.view.beginning
      → w.look ≡ k.view.look → (is_over k.view.beginning (checkpoints_of l.releases) ≡ true → ⊥)
      → Lawful w.beginning (yard_of ws s.homes (now_views w)) l.history (checkpoints_of l.releases ++ c ∷ [])
      → IsLawfulTable (record { words = ws; homes = s.homes; views = set s.views id (record { view = w; own = k.own ++ own_mark epoch c ∷ [] } ∷ []) })
  rerelease w c ws epoch is same begins look goes_on lawful = record {
    beginning = w.beginning;
    views = now_views w;
    history = l.history;
    releases = more;
    seat_of = l.seat_of;
    lawful = subst (Lawful w.beginning (yard_of ws s.homes (now_views w)) l.history) (sym (map-append (λ (r : Release). r.checkpoint) l.releases (record { thread = k.view.thread; checkpoint = c } ∷ []))) lawful;
    seated = each_set (λ (j : ℕ) (ks : List Known). AreSeated (now_views w) more l.seat_of j ks) s.views id (record { view = w; own = k.own ++ own_mark epoch c ∷ [] } ∷ []) (
      (
        record {
          view = ap (get_elem? (now_views w)) same ∙ set_here l.views k.view.thread w (at_inside l.views k.view.thread k.view here.view);
          own = grown ∙ (λ j. own_from (sym same j) (first_epoch (sym begins j) + 1) more);
          sits = ap l.seat_of same ∙ here.sits;
        },
        tt,
      ),
      (tt, tt),
    )
        (λ j ks n e. let old = l.seated j ks e in (
          Each-weaker (SitsAt l.views l.releases l.seat_of j) (SitsAt (now_views w) more l.seat_of j)
              (λ u t. record {
                view = set_else l.views k.view.thread u.view.thread w (is_other j u n t) ∙ t.view;
                own = t.own ∙ sym (own_else k.view.thread c u.view.thread (first_epoch u.view.beginning + 1) l.releases (λ p. is_other j u n t (sym p)));
                sits = t.sits;
              }) ks old.0,
          old.1,
        ));
    seen = each_set (λ (j : ℕ) (u : View). SawOver u → is_over w.beginning (checkpoints_of more) ≡ true) l.views k.view.thread w
        (λ t. absurd (goes_on (ap (λ (b : Beginning). is_over b (checkpoints_of l.releases)) (sym begins) ∙ saw_before w begins look t)))
        (λ j u n e t. absurd (goes_on (ap (λ (b : Beginning). is_over b (checkpoints_of l.releases)) (sym same_life) ∙ l.seen j u e t)));
  }
    where
      more : List Release
      more = l.releases ++ record { thread = k.view.thread; checkpoint = c } ∷ []

      epoch_is : epoch ≡ (first_epoch k.view.beginning + 1) + length l.releases
      epoch_is = let n = length-map l.releases (λ (r : Release). r.checkpoint) in omega (arith, is, n)

      grown : AreOwnOf k.view.beginning more k.view.thread (k.own ++ own_mark epoch c ∷ [])
      grown = (λ j. here.own j ++ own_mark (epoch_is j) c ∷ []) ∙ sym (own_here k.view.thread c (first_epoch k.view.beginning + 1) l.releases)
