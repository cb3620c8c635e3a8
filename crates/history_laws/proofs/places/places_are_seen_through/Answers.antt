use Rattle.history_laws.proofs.Tables as tables
use Rattle.history_laws.proofs.places.places_are_seen_through.Goals as goal

pub returns-clause-held : goal.returns-clause-held
returns-clause-held c f places handle none = tables.held f places handle none

pub returns-clause-count : goal.returns-clause-count
returns-clause-count c f places all = tables.count f places all

pub returns-clause-full : goal.returns-clause-full
returns-clause-full c f places all = tables.full f places all

pub returns-clause-least : goal.returns-clause-least
returns-clause-least c f places all = tables.least f places all

pub returns-clause-next : goal.returns-clause-next
returns-clause-next c f places all = tables.next f places all

pub returns-clause-put : goal.returns-clause-put
returns-clause-put c f g x y places same all at = tables.put f g x y places same all at

pub returns-clause-without : goal.returns-clause-without
returns-clause-without c f g places handle none nothing there here same =
    tables.without f g places handle none nothing there here same
