-- What a record that is handed out leaves of all records.
use Rattle.std.specs.Prelude.{ℕ}
use Rattle.std.specs.Borrow.{Lends, Fml, MutBor, RattleType}
use Rattle.linked_records.specs.View.{RecordsView, written}
use Rattle.linked_records.specs.Places.{with_value}
use Rattle.linked_records.specs.declared.place.Place.{Place}
use Rattle.linked_records.specs.contracts.place.Place as place
use Rattle.linked_records.specs.contracts.records.Records as records

-- what is last written through r ends up in the place
abbrev pub LendsValue : (T : RattleType) → MutBor (Place T.Denot) → MutBor T.Denot → Fml
LendsValue T old r = Lends (place.the_row T) T old r (with_value old.now)

-- the records with another one at an index
abbrev pub with_written : {T : Type 0} → RecordsView T → ℕ → T → RecordsView T
with_written old item value = record old { lists = written item value old.lists }

-- what is last written through r ends up as the record at an index, and the rest stays
abbrev pub LendsRecord : (T : RattleType) → MutBor (RecordsView T.Denot) → ℕ → MutBor T.Denot → Fml
LendsRecord T old item r = Lends (records.the_row T) T old r (with_written old.now item)
