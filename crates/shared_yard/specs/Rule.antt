-- The rule of the table: its words and slots, and the views at its seats, make a lawful yard.
use Rattle.std.specs.Prelude.{◌≡◌, ◌≢◌, ℕ, zero, suc, true, List, [], ◌∷◌, map, Option, None}
use mathlib.Core.Option.{some, none}
use mathlib.Core.Option as maybe
use lib.ListN.{get_elem?}
use Rattle.atomic_table.specs.Table.{State}
use Rattle.seq_object.specs.declared.history.Entry.{Entry}
use Rattle.life_model.specs.declared.life.Life.TheVariants.{Start}
use Rattle.restart_point.specs.ArrivalWord.{arrival_of}
use Rattle.rooms.specs.declared.room.Room.{Room}
use Rattle.yard_model.specs.declared.view.Beginning.{Beginning}
use Rattle.yard_model.specs.declared.view.View.{View}
use Rattle.yard_model.specs.Beginnings.{is_over}
use Rattle.yard_model.specs.World.{YardState}
use Rattle.yard_model.specs.Lawful.{Lawful}
use Rattle.yard_model.specs.Opens.{opening_view}
use Rattle.yard_model.specs.Shares.{Release, checkpoints_of, AreOwnOf}
use Rattle.shared_yard.specs.declared.known.Known.{Known}

-- a state of the table: its words, what lies in its slots at home, and for each seat what is known there
abbrev pub TableState : Type 0
TableState = State (Option Room) (List Known)

-- the room that a slot has at home: none where the slot is out, or empty
abbrev pub home_of : maybe.Option (Option Room) → Option Room
home_of none = None
home_of (some x) = x

-- the yard of these words, slots and views
abbrev pub yard_of : List ℕ → List (maybe.Option (Option Room)) → List View → YardState
yard_of words slots views = record { words = words; rooms = map home_of slots; views = views }

-- the fact holds of each
abbrev pub Each : {A : Type 0} → (A → Type 0) → List A → Type 0
Each P [] = Unit {0}
Each P (x ∷ xs) = P x × Each P xs

-- what is known at a seat is the view of its thread, the thread's own checkpoints among those released, and the thread sits there
pub record SitsAt (views : List View) (releases : List Release) (seat_of : ℕ → ℕ) (seat : ℕ) (k : Known) : Type 0 where
  pub view : get_elem? views k.view.thread ≡ some k.view
  pub own : AreOwnOf k.view.beginning releases k.view.thread k.own
  pub sits : seat_of k.view.thread ≡ seat

-- they are of different threads
abbrev pub AreApart : Known → Known → Type 0
AreApart k l = k.view.thread ≢ l.view.thread

abbrev pub AllApart : List Known → Type 0
AllApart [] = Unit {0}
AllApart (k ∷ ks) = Each (AreApart k) ks × AllApart ks

-- what is known at a seat is so of different threads that sit there
abbrev pub AreSeated : List View → List Release → (ℕ → ℕ) → ℕ → List Known → Type 0
AreSeated views releases seat_of seat ks = Each (SitsAt views releases seat_of seat) ks × AllApart ks

-- a thread's last look found an arrival word that shows the life over
pub record SawOver (v : View) : Type 0 where
  pub word : v.look.word ≡ 2
  pub shown : (arrival_of v.look.found).over ≡ true

-- the rule: with some history and released checkpoints, each with its thread, the yard is lawful, each seat has what its threads know, and
-- where a thread saw that the life is over it is
pub record IsLawfulTable (s : TableState) : Type 0 where
  pub beginning : Beginning
  pub views : List View
  pub history : List Entry
  pub releases : List Release
  pub seat_of : ℕ → ℕ
  pub lawful : Lawful beginning (yard_of s.words s.homes views) history (checkpoints_of releases)
  pub seated : (seat : ℕ) (ks : List Known) → get_elem? s.views seat ≡ some ks → AreSeated views releases seat_of seat ks
  pub seen : (i : ℕ) (v : View) → get_elem? views i ≡ some v → SawOver v → is_over beginning (checkpoints_of releases) ≡ true

-- what so many threads know as a life opens, the first of them thread i: their opening views, and no checkpoint
abbrev pub opening_from : Beginning → ℕ → ℕ → List Known
opening_from b i zero = []
opening_from b i (suc n) = record { view = opening_view b i; own = [] } ∷ opening_from b (suc i) n

-- what all threads know
abbrev pub opening_knowns : Beginning → List Known
opening_knowns b = opening_from b 0 b.settings.threads

-- what stands for a view where a seat has none
abbrev pub no_beginning : Beginning
no_beginning = record {
  settings = record { threads = 0; shards = 0; lines = 0; every = 0 };
  scripts = [];
  life = Start;
  epoch = 0;
  pairs = [];
  items = [];
  points = [];
  limit = 0;
  write_backs = [];
}

abbrev pub no_known : Known
no_known = record { view = opening_view no_beginning 0; own = [] }

-- what is known at a seat of one thread
abbrev pub one_known : List Known → Known
one_known [] = no_known
one_known (k ∷ ks) = k

-- its view
abbrev pub one_view : List Known → View
one_view ks = (one_known ks).view

-- with another view
abbrev pub with_view_of : Known → View → Known
with_view_of k w = record k { view = w }
