-- What a holder knows of the room in its hands, by its view.
use Rattle.std.specs.Prelude.{ℕ, ◌++◌, ◌∷◌, List, [], take, Option}
use Rattle.seq_object.specs.declared.history.Noted.{Noted}
use Rattle.seq_object.specs.declared.settings.Settings.{Settings}
use Rattle.seq_object.specs.Sizes.{sizes_of}
use Rattle.seq_object.specs.Object.{Contents, contents_after}
use Rattle.yard_model.specs.declared.view.TakenPosition.{TakenPosition}
use Rattle.yard_model.specs.declared.view.View.{View}
use Rattle.yard_model.specs.declared.view.Grip.{Grip}
use Rattle.yard_model.specs.Beginnings.{write_backs_at}
use Rattle.yard_model.specs.Knows.{closings_known}
use Rattle.yard_model.specs.Locks.{drawn_of}
use Rattle.yard_model.specs.Conditions.{behind}

pub record Knowledge : Type 0 where
  pub settings : Settings
  pub room : ℕ  -- its number
  pub epoch : ℕ
  pub history : List Noted  -- the entries of its commands that are done
  pub covered : Contents  -- what memory has of it at the epoch
  pub now : Contents  -- what its history leaves
  pub opened : ℕ  -- its write-backs at the life's beginning
  pub closings : ℕ  -- how many checkpoints came since
  pub position : Option TakenPosition  -- where it is a thread's room: what was known of it as it was taken

-- by the history as it was taken, and the entry drawn since
abbrev pub knows : View → Grip → Knowledge
knows v g = record {
  settings = v.beginning.settings;
  room = g.room;
  epoch = v.ran;
  history = g.history ++ drawn_of g;
  covered = behind v g.room (take g.covered g.history);
  now = behind v g.room (g.history ++ drawn_of g);
  opened = write_backs_at v.beginning g.room;
  closings = closings_known v;
  position = g.position;
}

-- what is known once an entry of the room is drawn
abbrev pub with_noted : Knowledge → Noted → Knowledge
with_noted k n = record k { history = k.history ++ n ∷ []; now = contents_after (sizes_of k.settings) k.now n.entry.command }
