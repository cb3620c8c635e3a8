-- What is seen of a device behind a byte stream, and what one transmission does at its two ends.
use Rattle.std.specs.Prelude.{◌≡◌, ◌↔◌, ◌<◌, ℕ, ◌||◌, ◌&&◌, nat_lt, Bool, true, false, List, [], ◌++◌, length, take, Option, Some, None, IfSome}
use Rattle.std.specs.Prelude.{Result, IsErr, IsTrue, OnOk, OnErr}
use Rattle.tab_spec.specs.Count.{Rose, one_more}
use Rattle.tab_spec.specs.Frame.{is_frame, is_size, size_of}
use Rattle.link_port.specs.Port.{at_end, with_more}
use Rattle.device_port.specs.Device.{Seen, Transmission}
use Rattle.device_link.specs.declared.fault.LinkFault.{LinkFault}
use Rattle.device_link.specs.declared.fault.LinkFault.TheVariants as causes

-- a device at a link: its two ends, the first cause of a failure, how often a transmission has failed, and what was
-- sent to it
pub record DeviceAtLink (S K : Type 0) : Type 0 where
  pub source : S
  pub sink : K
  pub fault : LinkFault
  pub faults : ℕ
  pub trace : List Transmission

-- one before its first transmission
abbrev pub new_device : {S K : Type 0} → S → K → DeviceAtLink S K
new_device source sink = record { source = source; sink = sink; fault = causes.Absent; faults = 0; trace = [] }

-- what it tells as a device: it shows no state
abbrev pub told_by : {S K : Type 0} → DeviceAtLink S K → Seen
told_by device = record { base = None; state = None; faults = device.faults; trace = device.trace }

-- whether there is a cause of a failure
abbrev pub has_failed : LinkFault → Bool
has_failed causes.Absent = false
has_failed causes.Source = true
has_failed causes.Sink = true
has_failed causes.End = true
has_failed (causes.Size size) = true

-- both ends and the cause are as they were
pub record EndsRest {S K : Type 0} (old new : DeviceAtLink S K) : Type 0 where
  pub source : new.source ≡ old.source
  pub sink : new.sink ≡ old.sink
  pub fault : new.fault ≡ old.fault

-- what the two ends tell: the bytes that are still to come, the bytes that were written, and how often each end has
-- failed
pub record DeviceEnds : Type 0 where
  pub left : Option (List ℕ)
  pub source_faults : ℕ
  pub written : Option (List ℕ)
  pub sink_faults : ℕ

abbrev pub ends_of : {S K : Type 0} → (S → Option (List ℕ)) → (S → ℕ) → (K → Option (List ℕ)) → (K → ℕ) → S → K → DeviceEnds
ends_of left source_faults written sink_faults source sink = record {
  left = left source;
  source_faults = source_faults source;
  written = written sink;
  sink_faults = sink_faults sink;
}

-- ---- the command

-- the whole command was written, and no write failed
pub record Sends (old : DeviceEnds) (command : List ℕ) (new : DeviceEnds) : Type 0 where
  pub written : new.written ≡ with_more old.written command
  pub quiet : new.sink_faults ≡ old.sink_faults

-- a write failed, and only so many of the command's first bytes were written
pub record SendsPart (old : DeviceEnds) (command : List ℕ) (new : DeviceEnds) : Type 0 where
  pub count : ℕ
  pub part : count < length command
  pub written : new.written ≡ with_more old.written (take count command)
  pub rose : Rose old.sink_faults new.sink_faults

-- ---- the response

-- what is still to come where these bytes come first, if the source tells it
abbrev pub with_front : List ℕ → Option (List ℕ) → Option (List ℕ)
with_front front None = None
with_front front (Some rest) = Some (front ++ rest)

-- no byte is still to come, if the source tells it
abbrev pub IsEndOfSource : Option (List ℕ) → Type 0
IsEndOfSource left = IfSome left (λ bytes. bytes ≡ [])

-- a part of a response, which lacks one byte at least: its size field isn't whole, or its size may be that of a frame
abbrev pub is_part : List ℕ → Bool
is_part bytes = nat_lt (length bytes) 6 || (is_size (size_of bytes) && nat_lt (length bytes) (size_of bytes))

-- the first six bytes of a response that has this size, which no frame may have
pub record IsBadStart (size : ℕ) (bytes : List ℕ) : Type 0 where
  pub six : length bytes ≡ 6
  pub size_is : size_of bytes ≡ size
  pub bad : is_size size ≡ false

-- these bytes were read, and no others
abbrev pub Reads : DeviceEnds → List ℕ → DeviceEnds → Type 0
Reads old bytes new = old.left ≡ with_front bytes new.left

-- only a part of a response was read
pub record ReadsPart (old new : DeviceEnds) : Type 0 where
  pub bytes : List ℕ
  pub read : Reads old bytes new
  pub part : is_part bytes ≡ true

-- only a response up to a bad size was read, and no read failed
pub record ReadsBadStart (old : DeviceEnds) (size : ℕ) (new : DeviceEnds) : Type 0 where
  pub bytes : List ℕ
  pub read : Reads old bytes new
  pub start : IsBadStart size bytes
  pub quiet : new.source_faults ≡ old.source_faults

-- ---- both

-- the whole command was written, and the response was read, which is one whole frame
pub record Exchanges (old : DeviceEnds) (command response : List ℕ) (new : DeviceEnds)
    : Type 0 where
  pub sent : Sends old command new
  pub read : Reads old response new
  pub frame : is_frame response ≡ true
  pub quiet : new.source_faults ≡ old.source_faults

-- what the first transmission that failed did, by its cause. Where a write failed, nothing is read: a clause beside
-- this one says that of the source itself
abbrev pub FailsBy : LinkFault → DeviceEnds → List ℕ → DeviceEnds → Type 0
FailsBy causes.Absent old command new = ⊥
FailsBy causes.Sink old command new = SendsPart old command new
FailsBy causes.Source old command new = Sends old command new × ReadsPart old new × Rose old.source_faults new.source_faults
FailsBy causes.End old command new = Sends old command new × ReadsPart old new × IsEndOfSource new.left × (new.source_faults ≡ old.source_faults)
FailsBy (causes.Size size) old command new = Sends old command new × ReadsBadStart old size new

-- what one transmission does to a device whose ends tell this, and whose sink tells whether it was ended
pub record TransmitsAtLink {S K E : Type 0} (ends : S → K → DeviceEnds) (ended : K → Option Bool) (old : DeviceAtLink S K) (command : List ℕ) (result : Result (Unit {0}) E) (reply : List ℕ) (new : DeviceAtLink S K) : Type 0 where
  pub fails : IsErr result ↔ IsTrue (has_failed new.fault)
  pub rests : IsTrue (has_failed old.fault) → EndsRest old new
  pub ok : OnOk result (Exchanges (ends old.source old.sink) command reply (ends new.source new.sink))
  pub err : OnErr result (old.fault ≡ causes.Absent → FailsBy new.fault (ends old.source old.sink) command (ends new.source new.sink))
  pub unread : new.fault ≡ causes.Sink → new.source ≡ old.source
  pub stays_open : OnOk result (ended new.sink ≡ ended old.sink)
  -- after the first failure nobody else need wait for the link's end
  pub closes : OnErr result (old.fault ≡ causes.Absent → ended new.sink ≡ at_end (ended old.sink))
  pub faults_ok : OnOk result (new.faults ≡ old.faults)
  pub faults_err : OnErr result (new.faults ≡ one_more old.faults)
