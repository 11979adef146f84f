use Rattle.std.proofs.Common.{◌^◌, List, map, refl, ◌∙◌, arith}
use Rattle.std.specs.Global.{Vec}
use Rattle.seq_object.specs.declared.command.Command.{Command}
use Rattle.life_model.specs.Life.{start_of}
use Rattle.fresh_world.specs.Start.{start_beginning}
use Rattle.script_run.proofs.Openings.{HasOpened, lengths_are, start_places, start_counts, is_start, is_replay, goes_on_right, none_done}
use Rattle.script_run.proofs.replay.Replay.start.Goals as goal

-- the commands of each script
abbrev scripts_of : List (Vec Command) → List (List Command)
scripts_of scripts = map (λ (s : Vec Command). s.items) scripts

pub first_yard-requires : goal.first_yard-requires
first_yard-requires c = record { opens = c.in_ok-world.ensures.can_open (scripts_of c.args.scripts.now) (2 ^ 63) (lengths_are c.args.scripts.now c.deref.result.now (c.deref.ensures.value ∙ c.in_ok-lengths.ensures) c.requires.short) (omega arith) }

opened : (c : goal.After-drop-lengths-2) → HasOpened (start_beginning c.args.settings (scripts_of c.args.scripts.now) (2 ^ 63)) c.in_ok-world.world (record { yard = c.in_ok-yard.yard; workers = c.in_ok-workers.workers.items })
opened c =
    let settings = c.args.settings in
    let scripts = scripts_of c.args.scripts.now in
    let begins = c.in_ok-world.ensures.opens scripts (2 ^ 63) (lengths_are c.args.scripts.now c.deref.result.now (c.deref.ensures.value ∙ c.in_ok-lengths.ensures) c.requires.short) (omega arith) in
    let both = c.in_ok-yard.ensures.opens (start_beginning settings scripts (2 ^ 63)) (record { settings_are = refl; scripts_are = refl; limit_is = refl }) begins in
    record {
      begins = begins;
      opening = both.0;
      opens = both.1;
      beginning = c.in_ok-yard.ensures.beginning;
      told = c.in_ok-yard.ensures.told;
      workers = c.in_ok-workers.ensures (start_of settings scripts) (start_places settings scripts c.as_slice.result.now (c.as_slice.ensures.value ∙ c.in_ok-places.ensures));
    }

pub returns-clause-start : goal.returns-clause-start
returns-clause-start c = is_start _ _ _ _ (opened c)

pub returns-clause-replay : goal.returns-clause-replay
returns-clause-replay c = is_replay _ _ _ (opened c)

pub returns-clause-right : goal.returns-clause-right
returns-clause-right c = goes_on_right _ _ _ (opened c) (start_counts c.args.settings (scripts_of c.args.scripts.now) (2 ^ 63))

pub returns-clause-none_done : goal.returns-clause-none_done
returns-clause-none_done c = none_done _ _ _ (opened c)
