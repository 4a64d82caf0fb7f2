-- The bytes of a prelude and of a record, computed. Assumes nothing.
use mathlib.Core.Path.{refl}
use Rattle.fields.specs.Le.{le_bytes, put}
use Rattle.prelude.specs.Built.{prelude_bytes}
use Rattle.chunk_index.specs.Entry.{entry_bytes}
use Rattle.cases.specs.Built.{filled, Built}

pub built : Built
unfolding le_bytes put prelude_bytes entry_bytes filled
built = record { prelude = refl; entry = refl }
