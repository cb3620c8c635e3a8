-- What words came to over the device of a target.
use Rattle.std.specs.Prelude.{◌≡◌, ◌≤◌, ◌<◌, ℕ, List, Option, None, IfNone, IsSomeAnd}
use Rattle.history_spec.specs.Entry.{Entry}
use Rattle.device_port.specs.Device.{Seen}
use Rattle.device_link.specs.Carried.{HasCarried}
use Rattle.device_link.specs.Link.{DeviceEnds as LinkEnds}
use Rattle.device_link.specs.declared.fault.LinkFault.{LinkFault}
use Rattle.accept_loop.specs.Connections.{ConnectionEnds}
use Rattle.accept_loop.specs.declared.serving.LinkDone.{LinkDone}
use Rattle.link_pool.specs.Services.{IsServed, client_of, given_of}
use Rattle.link_pool.specs.declared.done.Service.{Service}
use Rattle.command_line.specs.Words.{IsServe}
use Rattle.command_line.specs.declared.words.Plan.{Plan}
use Rattle.tab_server.specs.Done.{LeavesPlan}
use Rattle.tab_server.specs.Run.{After, Before, after_of, before_of}
use Rattle.tab_server.specs.Serving.{IsLinkDone, LeavesPool, LeavesServe}
use Rattle.tab_server.specs.Status.{EndsStart}
use Rattle.tab_server.specs.declared.serving.TheConstants.{LINKS_MOST}
use Rattle.broker_lock.specs.Known.{Fixed}
use Rattle.daemon_ends.specs.declared.finished.Finished.{Finished}
use Rattle.daemon_ends.specs.declared.target.Target.{Target}
use Rattle.daemon_ends.specs.declared.target.Target.TheVariants as targets
use Rattle.tabrmd.specs.Found.{contexts_of, origin_at, seen_at}

-- what is told around the device: by the input and the output, and by the acceptor, the connections
-- that are still to come and how often it has failed
pub record Around (L : Type 0) : Type 0 where
  pub ends : ConnectionEnds
  pub coming : Option (List L)
  pub accept : ℕ

abbrev pub around : {A I O L : Type 0} → (ends : I → O → ConnectionEnds)
    → (coming : A → Option (List L))
    → (accept : A → ℕ) → A → I → O → Around L
around ends coming accept acceptor input output = record {
  ends = ends input output;
  coming = coming acceptor;
  accept = accept acceptor;
}

-- what there was before, over the device of this target
abbrev pub before_at : {S K L : Type 0} → Target S K → Around L → Before
before_at target old = before_of (contexts_of target) (origin_at target)
    (seen_at target).faults old.ends.left old.ends.source_faults old.ends.written
    old.ends.sink_faults

-- what there is after it, where the device tells this
abbrev pub after_at : {L : Type 0} → Seen → Around L → After
after_at seen new = after_of seen new.ends.left new.ends.source_faults new.ends.written
    new.ends.sink_faults

-- what stays as it is while connections are served over it
abbrev pub fixed_at : {S K : Type 0} → Target S K → Plan → Fixed
fixed_at target plan = record {
  base = origin_at target;
  limit = plan.limit;
  began = (seen_at target).faults;
  contexts = contexts_of target;
}

-- The two ends of a link come back. By what they told at first and tell now, just the commands that
-- the device was sent and its responses went over them, up to a first failure.
abbrev pub IsCarriedSince : {S K : Type 0} → (link : S → K → LinkEnds) → (began : LinkEnds) → Seen
    → Option (S × K) → Type 0
IsCarriedSince link began seen ends = IsSomeAnd ends (λ pair. (fault : LinkFault)
    × HasCarried fault began seen.faults seen.trace (link pair.0 pair.1))

-- the same by the target: where it has no link, no ends come back
abbrev pub IsCarried : {S K : Type 0} → (link : S → K → LinkEnds) → Target S K → Seen
    → Option (S × K) → Type 0
IsCarried link (targets.Memory seed) seen ends = ends ≡ None
IsCarried link (targets.Link source sink) seen ends =
    IsCarriedSince link (link source sink) seen ends
IsCarried link (targets.Tpm source sink) seen ends =
    IsCarriedSince link (link source sink) seen ends
IsCarried link targets.Unreachable seen ends = ends ≡ None

-- What a plan came to is what the top call leaves over the device of this target. `left`,
-- `written`, `source_faults` and `sink_faults` are what the two ends of a connection tell, `link`
-- what those of the link to the device tell, and `old` and `new` what is told around the device
-- before and after.
pub record IsOver {S K In Out : Type 0} (target : Target S K) (plan : Plan)
    (left : In → Option (List ℕ)) (written : Out → Option (List ℕ))
    (source_faults : In → ℕ) (sink_faults : Out → ℕ) (link : S → K → LinkEnds)
    (old new : Around (In × Out)) (finished : Finished S K) : Type 0 where
  -- What the device tells at the end, the journal, and the connections.
  pub seen : Seen
  pub journal : Option (List Entry)
  pub links : List (LinkDone In Out)
  pub served : List (Service In Out)
  -- Words of `run` and `workload`, those of `serve`, and those of `serve` where nothing is kept of
  -- a connection that is over.
  pub leaves : (IsServe plan.job → ⊥) → LeavesPlan plan (before_at target old)
      (after_at seen new) finished.status finished.detail journal
  pub serves : IsServe plan.job → plan.connections ≤ LINKS_MOST
      → LeavesServe (IsLinkDone left written source_faults sink_faults (fixed_at target plan))
      (λ link. link.client) (λ link. link.ending) plan.audit plan.connections
      (before_at target old) (after_at seen new)
      old.coming new.coming old.accept new.accept finished.status finished.detail journal links
  pub pool : IsServe plan.job → LINKS_MOST < plan.connections
      → LeavesPool (IsServed left written source_faults sink_faults (fixed_at target plan))
      given_of client_of (λ s. s.link.ending) plan.audit plan.connections (before_at target old)
      (after_at seen new)
      old.coming new.coming old.accept new.accept finished.status finished.detail journal served
  -- Words of `run` and `workload` accept nobody.
  pub accepts : (IsServe plan.job → ⊥) → (new.coming ≡ old.coming) × (new.accept ≡ old.accept)
  -- Where the broker didn't begin, the status tells how far the start came, and all around the
  -- device is as it was.
  pub none : IfNone journal (EndsStart (contexts_of target) (λ s. s) finished.status
      finished.detail (seen_at target) seen × (new ≡ old))
  -- Over a link, what went over the two ends of the target is what this device was sent and
  -- answered, as far as the ends tell. Those of a socket tell no bytes.
  pub carried : IsCarried link target seen finished.ends
