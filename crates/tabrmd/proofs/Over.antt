-- What the top call left over a device is what the words came to over that of a target.
use Rattle.std.proofs.Common.{◌≡◌, ◌≤◌, ◌<◌, ℕ, List, Option, Some, None, inl, inr, ⊎_elim, ap, sym}
use Rattle.std.proofs.Common.{subst}
use Rattle.std.specs.Prelude.{IfNone, IfSome}
use Rattle.std.specs.Option.{option_map}
use Rattle.tab_spec.specs.declared.contexts.ContextLimits.{ContextLimits}
use Rattle.history_spec.specs.Entry.{Entry}
use Rattle.broker_lock.specs.Known.{Fixed}
use Rattle.broker_core.specs.Broker.{told_origin}
use Rattle.device_port.specs.Device.{Seen}
use Rattle.device_link.specs.Carried.{HasCarried}
use Rattle.device_link.specs.Link.{DeviceEnds as LinkEnds}
use Rattle.device_link.specs.declared.fault.LinkFault.{LinkFault}
use Rattle.accept_loop.specs.Connections.{ConnectionEnds}
use Rattle.accept_loop.specs.declared.serving.LinkDone.{LinkDone}
use Rattle.link_pool.specs.Services.{IsServed, client_of, given_of}
use Rattle.link_pool.specs.declared.done.Service.{Service}
use Rattle.command_line.specs.Words.{IsServe}
use Rattle.command_line.specs.declared.words.Plan.{Plan}
use Rattle.tab_server.specs.Done.{LeavesPlan}
use Rattle.tab_server.specs.Run.{Before, before_of}
use Rattle.tab_server.specs.Serving.{IsLinkDone, LeavesPool, LeavesServe}
use Rattle.tab_server.specs.Status.{EndsStart}
use Rattle.tab_server.specs.declared.serving.TheConstants.{LINKS_MOST}
use Rattle.daemon_ends.specs.declared.finished.Finished.{Finished}
use Rattle.daemon_ends.specs.declared.target.Target.{Target}
use Rattle.tabrmd.specs.Found.{contexts_of, seen_at}
use Rattle.tabrmd.specs.Over.{Around, IsCarriedSince, IsCarried, IsOver, after_at, around}

-- how far a start came is told by what the device tells
start_told : {D : Type 0} (contexts : ContextLimits) (seen : D
    → Seen) (status detail : ℕ) (old new : D)
    → EndsStart contexts seen status detail old new
    → EndsStart contexts (λ (s : Seen). s) status detail (seen old) (seen new)
start_told contexts seen status detail old new it = record {
  of_start = it.of_start;
  memory = λ is. ⊎_elim (λ same. inl (ap seen same)) (λ lacked. inr lacked) (it.memory is);
  unanswered = it.unanswered;
  failed = it.failed;
  number = it.number;
  few = it.few;
}

-- where a call leaves its arguments, what is told around the device stays
around_stays : {A I O L : Type 0} (ends : I → O → ConnectionEnds) (coming : A
    → Option (List L)) (accept : A → ℕ) (acceptor acceptor' : A) (input input' : I)
    (output output' : O)
    → acceptor' ≡ acceptor → input' ≡ input → output' ≡ output
    → around ends coming accept acceptor' input' output' ≡ around ends coming accept acceptor input
    output
around_stays ends coming accept acceptor acceptor' input input' output output' a b c =
    λ i. around ends coming accept (a i) (b i) (c i)

if_none : {J X P Q : Type 0} (f : J → X) (o : Option J) → (P → Q) → IfNone o P
    → IfNone (option_map f o) Q
if_none f None to p = to p
if_none f (Some x) to p = tt

-- what the top call left without a journal
pub none_told : {J D A I O L : Type 0} (Q : Type 0) (entries : J
    → List Entry) (journal : Option J) (contexts : ContextLimits) (seen : D
    → Seen) (status detail : ℕ) (device device' : D)
    (ends : I → O → ConnectionEnds) (coming : A → Option (List L)) (accept : A
    → ℕ) (acceptor acceptor' : A) (input input' : I) (output output' : O)
    → IfNone journal (EndsStart contexts seen status detail device device' ×
    (acceptor' ≡ acceptor) × (input' ≡ input) × (output' ≡ output) × Q)
    → IfNone (option_map entries journal) (EndsStart contexts (λ (s : Seen). s) status detail
    (seen device) (seen device')
    × (around ends coming accept acceptor' input' output' ≡ around ends coming accept acceptor
    input output))
none_told Q entries journal contexts seen status detail device device' ends coming accept acceptor
    acceptor' input input' output output' none =
    if_none entries journal (λ it. (
      start_told contexts seen status detail device device' it.0,
      around_stays ends coming accept acceptor acceptor' input input' output output' it.1 it.2 it.3,
    ))
    none

-- what there was before, and what stays as it is, over a device that tells this at first
abbrev before_told : {L : Type 0} → ContextLimits → Seen → Around L → Before
before_told contexts first old =
    before_of contexts (told_origin first.base first.state) first.faults old.ends.left
    old.ends.source_faults old.ends.written old.ends.sink_faults

abbrev fixed_told : ContextLimits → Seen → Plan → Fixed
fixed_told contexts first plan = record {
  base = told_origin first.base first.state;
  limit = plan.limit;
  began = first.faults;
  contexts = contexts;
}

-- by what the three kinds of words left
is_over : {S K In Out A : Type 0} (Q R : Type 0) (plans : Option Plan) (target : Target S K)
    (left : In → Option (List ℕ)) (written : Out → Option (List ℕ))
    (source_faults : In → ℕ) (sink_faults : Out → ℕ) (coming : A
    → Option (List (In × Out))) (accept : A
    → ℕ) (acceptor acceptor' : A) (ends ends' : ConnectionEnds) (link : S → K → LinkEnds)
    (status detail : ℕ) (back : Option (S × K)) (first seen : Seen)
    (journal : Option (List Entry)) (links : List (LinkDone In Out))
    (served : List (Service In Out))
    → first ≡ seen_at target → IsCarried link target seen back
    → (let old : Around (In × Out) = record {
      ends = ends;
      coming = coming acceptor;
      accept = accept acceptor;
    } in
    let new : Around (In × Out) = record {
      ends = ends';
      coming = coming acceptor';
      accept = accept acceptor';
    } in
    IfSome plans (λ plan. (IsServe plan.job → ⊥)
    → LeavesPlan plan (before_told (contexts_of target) first old)
    (after_at seen new) status detail journal × (acceptor' ≡ acceptor) × Q)
    → IfSome plans (λ plan. IsServe plan.job → plan.connections ≤ LINKS_MOST
    → LeavesServe (IsLinkDone left written source_faults sink_faults (fixed_told
    (contexts_of target) first plan)) (λ link. link.client) (λ link. link.ending)
    plan.audit plan.connections (before_told (contexts_of target) first old)
    (after_at seen new) old.coming new.coming old.accept new.accept status detail journal links)
    → IfSome plans (λ plan. IsServe plan.job → LINKS_MOST < plan.connections
    → R × LeavesPool (IsServed left written source_faults sink_faults (fixed_told
    (contexts_of target) first plan)) given_of client_of (λ s. s.link.ending)
    plan.audit plan.connections (before_told (contexts_of target) first old)
    (after_at seen new) old.coming new.coming old.accept new.accept status detail journal served)
    → IfNone journal (EndsStart (contexts_of target) (λ (s : Seen). s) status detail first seen ×
    (new ≡ old))
    → IfSome plans (λ plan. IsOver target plan left written source_faults sink_faults link old new
    (record { status = status; detail = detail; ends = back })))
is_over _ _ None _ _ _ _ _ _ _ _ _ _ _ _ _ _ _ _ _ _ _ _ at_first over played serves pool none =
    tt
is_over _ _ (Some plan) target left written source_faults sink_faults coming accept acceptor
    acceptor' ends ends' link status detail back first seen journal links served at_first over
    played serves pool none =
    let old : Around _ = record { ends = ends; coming = coming acceptor; accept = accept acceptor }
    in
    let new : Around _ = record {
      ends = ends';
      coming = coming acceptor';
      accept = accept acceptor';
    } in
    record {
      seen = seen;
      journal = journal;
      links = links;
      served = served;
      leaves = λ other. subst (λ (f : Seen). LeavesPlan plan (before_told
          (contexts_of target) f old) (after_at seen new) status detail journal) at_first
          (played other).0;
      serves = λ serve few. subst (λ (f : Seen). LeavesServe
          (IsLinkDone left written source_faults sink_faults (fixed_told
          (contexts_of target) f plan)) (λ link. link.client) (λ link. link.ending)
          plan.audit plan.connections (before_told (contexts_of target) f old)
          (after_at seen new) old.coming new.coming old.accept new.accept status detail journal
          links) at_first (serves serve few);
      pool = λ serve many. subst (λ (f : Seen). LeavesPool
          (IsServed left written source_faults sink_faults (fixed_told
          (contexts_of target) f plan)) given_of client_of (λ s. s.link.ending)
          plan.audit plan.connections (before_told (contexts_of target) f old)
          (after_at seen new) old.coming new.coming old.accept new.accept status detail journal
          served) at_first (pool serve many).1;
      accepts = λ other. (ap coming (played other).1, ap accept (played other).1);
      none = subst (λ (f : Seen). IfNone journal (EndsStart (contexts_of target) (λ
          (s : Seen). s) status detail f seen × (new ≡ old))) at_first none;
      carried = over;
    }

-- the same by the target that was found, and as it is told on
pub handed : {S K In Out A : Type 0} (Q R : Type 0) (plans : Option Plan)
    (target found : Target S K) (left : In → Option (List ℕ)) (written : Out → Option (List ℕ))
    (source_faults : In → ℕ) (sink_faults : Out → ℕ) (coming : A
    → Option (List (In × Out))) (accept : A
    → ℕ) (acceptor acceptor' : A) (ends ends' : ConnectionEnds)
    (link : S → K → LinkEnds) (status detail : ℕ) (back : Option (S × K)) (finished : Finished S K)
    (first seen : Seen) (journal : Option (List Entry)) (links : List (LinkDone In Out))
    (served : List (Service In Out))
    → first ≡ seen_at target → IsCarried link target seen back → found ≡ target
    → finished ≡ record { status = status; detail = detail; ends = back }
    → (let old : Around (In × Out) = record {
      ends = ends;
      coming = coming acceptor;
      accept = accept acceptor;
    } in
    let new : Around (In × Out) = record {
      ends = ends';
      coming = coming acceptor';
      accept = accept acceptor';
    } in
    IfSome plans (λ plan. (IsServe plan.job → ⊥)
    → LeavesPlan plan (before_told (contexts_of target) first old)
    (after_at seen new) status detail journal × (acceptor' ≡ acceptor) × Q)
    → IfSome plans (λ plan. IsServe plan.job → plan.connections ≤ LINKS_MOST
    → LeavesServe (IsLinkDone left written source_faults sink_faults (fixed_told
    (contexts_of target) first plan)) (λ link. link.client) (λ link. link.ending)
    plan.audit plan.connections (before_told (contexts_of target) first old)
    (after_at seen new) old.coming new.coming old.accept new.accept status detail journal links)
    → IfSome plans (λ plan. IsServe plan.job → LINKS_MOST < plan.connections
    → R × LeavesPool (IsServed left written source_faults sink_faults (fixed_told
    (contexts_of target) first plan)) given_of client_of (λ s. s.link.ending)
    plan.audit plan.connections (before_told (contexts_of target) first old)
    (after_at seen new) old.coming new.coming old.accept new.accept status detail journal served)
    → IfNone journal (EndsStart (contexts_of target) (λ (s : Seen). s) status detail first seen ×
    (new ≡ old))
    → IfSome plans (λ plan. IsOver found plan left written source_faults sink_faults link old new
    finished))
handed Q R plans target found left written source_faults sink_faults coming accept acceptor
    acceptor' ends ends' =
    λ link status detail back finished first seen journal links served at_first over same
    same_finished played serves pool none.
    let old : Around _ = record { ends = ends; coming = coming acceptor; accept = accept acceptor }
    in
    let new : Around _ = record {
      ends = ends';
      coming = coming acceptor';
      accept = accept acceptor';
    } in
    subst (λ (f : Finished _ _). IfSome plans (λ plan. IsOver found plan left written source_faults
    sink_faults link old new f)) (sym same_finished)
    (subst (λ (t : Target _ _). IfSome plans
    (λ plan. IsOver t plan left written source_faults sink_faults link old new
    (record { status = status; detail = detail; ends = back })))
    (sym same)
    (is_over Q R plans target left written source_faults sink_faults coming accept acceptor
    acceptor' ends ends' link status detail back first seen journal links served
    at_first over played serves pool none))

-- the ends of a link that came back carried what its device was sent, since they told this
pub carried_since : {S K : Type 0} (link : S → K → LinkEnds) (began : Option LinkEnds)
    (first : LinkEnds) (fault : LinkFault) (seen : Seen) (pair : S × K)
    → began ≡ Some first
    → IfSome began (λ b. HasCarried fault b seen.faults seen.trace (link pair.0 pair.1))
    → IsCarriedSince link first seen (Some pair)
carried_since link began first fault seen pair is carried =
    let at_first : IfSome (Some first) (λ b. HasCarried fault b seen.faults seen.trace
    (link pair.0 pair.1)) =
    subst (λ (o : Option LinkEnds). IfSome o (λ b. HasCarried fault b seen.faults seen.trace
    (link pair.0 pair.1))) is carried in
    (fault, at_first)
