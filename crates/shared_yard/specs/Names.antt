-- The name of a yard.
use Rattle.std.specs.Prelude.{◌≡◌, []}
use Rattle.atomic_table.specs.Seated.{TableId}
use Rattle.yard_model.specs.declared.view.Beginning.{Beginning}
use Rattle.shared_yard.specs.declared.seat.YardSeat.{YardSeat}
use Rattle.shared_yard.specs.declared.yard.SharedYard.{SharedYard}
use Rattle.shared_yard.specs.Seats.{known_at}

-- what stands for a table where none is named
abbrev pub no_table : TableId
no_table = record { words = 0; slots = 0; views_name = 0; atom = 0; block = 0; offset = 0; slot_names = [] }

-- this table and this beginning are those of the yard
pub record AreOfYard (y : SharedYard) (table : TableId) (beginning : Beginning) : Type 0 where
  pub table_is : table ≡ y.table.shared.table_id
  pub begins : beginning ≡ y.beginning

-- a seat is at this table, and its thread knows that the life began so
pub record IsSeatAt (table : TableId) (beginning : Beginning) (s : YardSeat) : Type 0 where
  pub table_is : s.seat.table_id ≡ table
  pub begins : (known_at s).view.beginning ≡ beginning
