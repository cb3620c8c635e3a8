use Rattle.std.proofs.Common.{◌≡◌, drop}
use Rattle.device_spec.specs.Slots.{older, oldest_saved}
use Rattle.device_slots.specs.Views.{places_of}
use Rattle.device_slots.proofs.sessions.oldest_saved.Given as goal

-- the oldest so far, with that of the places that are left, is the oldest
abbrev pub invariant-loop-place : goal.invariant-loop-place
invariant-loop-place l = older l.oldest (oldest_saved (places_of (drop l.place-index l.places))) ≡ oldest_saved (places_of l.places)
