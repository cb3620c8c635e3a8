-- What comes of serving the connections that an acceptor hands out, by the journal at the end.
use Rattle.std.specs.Prelude.{◌≡◌, ◌≤◌, ◌⊎◌, ℕ, Bool, cond, List, [], length, map, All, Option, Some}
use Rattle.std.specs.List.{sum_by}
use Rattle.history_spec.specs.Entry.{Entry}
use Rattle.broker_lock.specs.Known.{Fixed, knows}
use Rattle.accept_loop.specs.Connections.{AreFirst, IsLinkDone, links_of}
use Rattle.link_pool.specs.declared.done.Service.{Service}
use Rattle.link_pool.specs.Endings.{lacks_memory}

-- ---- one connection

-- its two ends, as they were accepted
abbrev pub given_of : {S K : Type 0} → Service S K → S × K
given_of s = s.given.value

abbrev pub client_of : {S K : Type 0} → Service S K → Option ℕ
client_of s = s.link.client

-- whether it ended for want of memory
abbrev pub is_lacking : {S K : Type 0} → Service S K → Bool
is_lacking s = lacks_memory s.link.ending

-- what became of it, by what its ends tell. `wrong` is whether the device gave a wrong answer
abbrev pub IsServed : {S K : Type 0} → (left : S → Option (List ℕ)) → (written : K → Option (List ℕ)) → (source_faults : S → ℕ) → (sink_faults : K → ℕ) → Fixed → (wrong : Bool) → List Entry → Service S K → Type 0
IsServed left written source_faults sink_faults fixed wrong journal s = IsLinkDone left written
    source_faults sink_faults fixed wrong journal s.given.value s.link

-- ---- all of them

-- The first connections that came were served, and no others: each as often as it came, however they are weighed. Each client of
-- the journal is that of one connection alone, and so no two connections have one client.
pub record AreServedOnce {L M : Type 0} (is_link : M → Type 0) (given_of : M → L) (client_of : M → Option ℕ) (journal : List Entry) (coming coming_new : Option (List L)) (most : ℕ) (served : List M) : Type 0 where
  pub accepted : List L
  pub first : AreFirst coming coming_new accepted
  pub within : length accepted ≤ most
  pub each : All is_link served
  pub once : (h : L → ℕ) → sum_by h (map given_of served) ≡ sum_by h accepted
  pub clients : (client : ℕ) → links_of client_of client served ≡ cond (knows journal client) 1 0

-- as many as were asked for, or all that came
abbrev pub IsEnough : {L : Type 0} → (most count : ℕ) (coming_new : Option (List L)) → Type 0
IsEnough {L} most count coming_new = (count ≡ most) ⊎ ((rest : List L) → coming_new ≡ Some rest → rest ≡ [])
