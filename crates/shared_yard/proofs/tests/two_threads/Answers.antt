use Rattle.std.proofs.Common.{rules, arith, ◌≡◌, ◌≢◌, ℕ, zero, suc, ◌<◌, List, [], ◌∷◌, map, Some, None, refl, sym, subst}
use Rattle.std.specs.Global.{Vec}
use Rattle.seq_object.specs.declared.command.Command.{Command}
use Rattle.seq_object.specs.declared.command.Command.TheVariants.{Get}
use Rattle.seq_object.specs.declared.settings.Settings.{Settings}
use Rattle.life_model.specs.Life.{Opening, start_of, next_at}
use Rattle.restart_point.specs.declared.thread_end.ThreadEnd.TheVariants.{Ready}
use Rattle.yard_model.specs.declared.view.Beginning.{Beginning}
use Rattle.yard_model.specs.Beginnings.{opening_of}
use Rattle.yard_model.specs.Opens.{opening_view}
use Rattle.room_yard.specs.Calls.{MayTryLeave}
use Rattle.fresh_world.specs.Start.{start_beginning}
use Rattle.shared_yard.proofs.tests.two_threads.Goals as goal

abbrev the_settings : Settings
the_settings = record { threads = 2; shards = 1; lines = 16; every = 1 }

abbrev the_scripts : List (List Command)
the_scripts = (Get 5 ∷ []) ∷ (Get 5 ∷ []) ∷ []

some_next : (i : ℕ) → i < 2 → next_at (start_of the_settings the_scripts) i [] ≢ None
some_next zero lt e = let f : Some (Get 5) ≡ None = e in absurd (cc)
some_next (suc zero) lt e = let f : Some (Get 5) ≡ None = e in absurd (cc)
some_next (suc (suc i)) lt e = absurd (omega (arith, lt))

may_leave : (b : Beginning) → opening_of b ≡ start_of the_settings the_scripts → (i : ℕ) → i < 2 → MayTryLeave (opening_view b i) Ready
may_leave b is i lt = record {
  on = refl;
  phase = refl;
  not_ended = λ e. absurd (cc);
  next = subst (λ (o : Opening). next_at o i [] ≢ None) (sym is) (some_next i lt);
}

pub returns-in-Ok-clause-may : goal.returns-in-Ok-clause-may
returns-in-Ok-clause-may c = let same : map (λ (s : Vec Command). s.items) c.deref.result.now ≡ the_scripts = search (rules, c.deref.ensures.value, c.in_ok-push.ensures.items, c.in_ok-push-2.ensures.items, c.in_ok-one_get.ensures, c.in_ok-one_get-2.ensures, c.new-scripts.ensures.items) in
    may_leave c.in-Ok.made.0.beginning ((c.in-Ok.ensures.opens (start_beginning the_settings the_scripts 1000) (record { settings_are = refl; scripts_are = sym same; limit_is = refl })
    (c.in_ok-world.ensures.opens the_scripts 1000 (record { are = refl; short = search rules }) (omega arith))).0)
