use Rattle.std.proofs.Common.{ℕ, ◌<◌, ◌≤◌, List, length, map, sym, ◌∙◌, subst, arith}
use Rattle.std.specs.Prelude.{slice_index}
use Rattle.std.specs.Global.{Vec}
use Rattle.std.proofs.lemmas.Simd.{map-map}
use Rattle.seq_object.specs.declared.command.Command.{Command}
use Rattle.life_model.specs.Life.{script_of}
use Rattle.script_run.specs.Starts.{IsAtPlaces}
use Rattle.script_run.proofs.Placed.{places_within, at_places}
use Rattle.script_run.proofs.resuming.make_ready.Goals as goal

pub first_workers-requires-clause-within : goal.first_workers-requires-clause-within
first_workers-requires-clause-within c =
    let scripts = map (λ (s : Vec Command). s.items) c.args.scripts.now in
    subst (λ (places : List ℕ). (i : ℕ) → i < c.args.settings.threads → slice_index places i ≤ length (script_of scripts i)) (sym c.as_slice.ensures.value)
    (places_within c.args.settings scripts c.args.memory c.requires.ready c.in_ok-places.places.items c.in_ok-places.ensures.places)

pub returns : goal.returns
returns c =
    let scripts = map (λ (s : Vec Command). s.items) c.args.scripts.now in
    let capacity = c.in_ok-marks.ensures.capacity in
    record {
      space = c.in_ok-space.ensures;
      no_mark = c.in_ok-marks.ensures.items;
      room = omega (arith, capacity);
      lengths = c.in_ok-lengths.ensures ∙ sym (map-map (λ (script : List Command). length script) (λ (s : Vec Command). s.items) c.args.scripts.now);
      workers = λ o over. c.in_ok-workers.ensures o (subst (λ (places : List ℕ). IsAtPlaces c.args.settings scripts places o) (sym c.as_slice.ensures.value)
          (at_places c.args.settings scripts c.args.memory c.in_ok-places.places.items c.in_ok-places.ensures.places o over));
      recovery = record { settings_are = c.in_ok-recovery.ensures.settings; about = c.in_ok-recovery.ensures.about; events = c.in_ok-recovery.ensures.count };
      stage = c.in_ok-recovery.ensures.stage;
      few = c.in_ok-recovery.ensures.few;
    }
