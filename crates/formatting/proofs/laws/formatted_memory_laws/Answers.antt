use Rattle.formatting.proofs.Memory.{formatted_rooms, formatted_banks, formatted_memory_quiet, formatted_write_backs}
use Rattle.formatting.proofs.Images.{formatted_image}
use Rattle.formatting.proofs.laws.formatted_memory_laws.Goals as goal

pub returns-clause-rooms : goal.returns-clause-rooms
returns-clause-rooms c = formatted_rooms

pub returns-clause-banks : goal.returns-clause-banks
returns-clause-banks c = formatted_banks

pub returns-clause-quiet : goal.returns-clause-quiet
returns-clause-quiet c = formatted_memory_quiet

pub returns-clause-flushed : goal.returns-clause-flushed
returns-clause-flushed c = formatted_write_backs

pub returns-clause-image : goal.returns-clause-image
returns-clause-image c = formatted_image
