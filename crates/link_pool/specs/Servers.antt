-- What servers know of the connections that they served, and what serving all that come leaves.
use Rattle.std.specs.Prelude.{◌≡◌, ◌<◌, ◌≤◌, ℕ, ◌+◌, ◌-◌, ◌*◌, Bool, cond, List, [], ◌∷◌, ◌++◌}
use Rattle.std.specs.Prelude.{length, map, All, Option, Result, Err, OnOk}
use Rattle.std.specs.List.{list_any}
use Rattle.atomic_table.specs.Seated.{TableId}
use Rattle.crossbeam_channel.specs.Claims.{IsSeatAt, view}
use Rattle.crossbeam_channel.specs.Ends.{sends_on}
use Rattle.tab_spec.specs.Count.{Rose}
use Rattle.history_spec.specs.Entry.{Entry, clients_of}
use Rattle.broker_lock.specs.Known.{Fixed, HasJustKnown, IsLegalOver, Origin, knows}
use Rattle.broker_lock.specs.Pass.{PassView}
use Rattle.accept_loop.specs.Connections.{links_of}
use Rattle.accept_loop.specs.declared.serving.AcceptError.{AcceptError}
use Rattle.accept_loop.specs.declared.serving.AcceptError.TheVariants as errors
use Rattle.link_pool.specs.declared.server.Server.{Server}
use Rattle.link_pool.specs.declared.serving.ServedAll.{ServedAll}
use Rattle.link_pool.specs.declared.way.Way.{Way}
use Rattle.link_pool.specs.Hands.{HandView, HasNoTurn, WeighAlike}
use Rattle.link_pool.specs.Services.{AreServedOnce, IsEnough, IsServed, client_of, given_of, is_lacking}

-- a pass that knows nobody, beside this one
abbrev pub one_part : PassView → PassView
one_part pass = record pass { known = []; parts = 1 }

-- what a pass knows of the connections that were served with it
pub record Knows {M : Type 0} (legal : Origin → List Entry → Type 0) (is_link : Fixed → Bool → List Entry → M → Type 0) (client_of : M → Option ℕ) (pass : PassView) (served : List M) : Type 0 where
  pub is_legal : IsLegalOver legal pass.fixed.base pass.front
  pub own_is : HasJustKnown pass.known pass.front
  pub each : All (is_link pass.fixed pass.wrong pass.front) served
  pub clients : (client : ℕ) → links_of client_of client served ≡ cond (knows pass.known client) 1 0

-- a server that has not the turn, with those that it served. `waiting` are those that it accepted and hasn't served
pub record IsServer {L M : Type 0} (legal : Origin → List Entry → Type 0) (is_link : Fixed → Bool → List Entry → M → Type 0) (given_of : M → L) (client_of : M → Option ℕ) (is_lacking : M → Bool)
    (hand : HandView L) (pass : PassView) (served : List M) (lacked : Bool) (waiting : List L) : Type 0 where
  pub rests : HasNoTurn hand
  pub mine : hand.mine ≡ map given_of served ++ waiting
  pub known : Knows legal is_link client_of pass served
  pub lacked_is : lacked ≡ list_any is_lacking served

-- the same of connections of these sources and sinks
abbrev pub IsServerOfLinks : {B A S K : Type 0} → (legal : Origin → List Entry → Type 0)
    → (left : S → Option (List ℕ)) → (written : K → Option (List ℕ)) → (source_faults : S → ℕ)
    → (sink_faults : K → ℕ) → Server B A S K → List (S × K) → Type 0
IsServerOfLinks legal left written source_faults sink_faults server =
    IsServer legal (IsServed left written source_faults sink_faults) given_of client_of is_lacking
    (view server.hand) server.pass server.served.value server.lacked

-- and its hand is of this way
pub record IsOn {B A J S K : Type 0} (legal : Origin → List Entry → Type 0)
    (left : S → Option (List ℕ)) (written : K → Option (List ℕ)) (source_faults : S → ℕ)
    (sink_faults : K → ℕ) (way : Way A J S K) (server : Server B A S K)
    (waiting : List (S × K)) : Type 0 where
  pub hand : IsSeatAt (sends_on way.sender) server.hand
  pub stands : IsServerOfLinks legal left written source_faults sink_faults server waiting

-- a server has the parts that it had, and some more of the lock's
pub record HasParts {L : Type 0} (hand hand_new : HandView L) (pass pass_new : PassView) (more : ℕ) : Type 0 where
  pub hand_parts : hand_new.parts ≡ hand.parts
  pub parts : pass_new.parts ≡ pass.parts + more
  pub lock_is : pass_new.lock ≡ pass.lock
  pub fixed_is : pass_new.fixed ≡ pass.fixed

abbrev pub KeepsParts : {B A S K : Type 0} → (server server_new : Server B A S K) → (more : ℕ)
    → Type 0
KeepsParts server server_new = HasParts (view server.hand) (view server_new.hand) server.pass
    server_new.pass

-- a server that has served all that it accepted
pub record ServesOn {B A J S K : Type 0} (legal : Origin → List Entry → Type 0)
    (left : S → Option (List ℕ)) (written : K → Option (List ℕ)) (source_faults : S → ℕ)
    (sink_faults : K → ℕ) (way : Way A J S K) (server server_new : Server B A S K)
    (more : ℕ) : Type 0 where
  pub on : IsOn legal left written source_faults sink_faults way server_new []
  pub leaves : KeepsParts server server_new more

-- a server that accepted this connection, and a pass for it beside the server's
pub record MayServePool {B A J S K : Type 0} (legal : Origin → List Entry → Type 0)
    (left : S → Option (List ℕ)) (written : K → Option (List ℕ)) (source_faults : S → ℕ)
    (sink_faults : K → ℕ) (way : Way A J S K) (lock : TableId) (server : Server B A S K)
    (beside : PassView) (link : S × K) : Type 0 where
  pub on : IsOn legal left written source_faults sink_faults way server (link ∷ [])
  pub lock_is : server.pass.lock ≡ lock
  pub parts : 0 < server.pass.parts
  pub beside_is : beside ≡ one_part server.pass

-- a server that has served nobody, and the parts for so many more
pub record MayGrow {B A J S K : Type 0} (legal : Origin → List Entry → Type 0)
    (left : S → Option (List ℕ)) (written : K → Option (List ℕ)) (source_faults : S → ℕ)
    (sink_faults : K → ℕ) (way : Way A J S K) (lock : TableId) (more : ℕ)
    (server : Server B A S K) : Type 0 where
  pub on : IsOn legal left written source_faults sink_faults way server []
  pub lock_is : server.pass.lock ≡ lock
  pub hand_parts : more < (view server.hand).parts
  pub parts : 2 * more + 1 < server.pass.parts
  pub unserved : server.served.value ≡ []

-- A further server is made from one that accepted a connection, and has the connection then. The one that it is made from has the
-- parts for one server less, and `beside` is for the connection, beside the pass of the further one.
pub record IsParted {L : Type 0} (more : ℕ) (lock : TableId) (hand hand_new given : HandView L) (pass pass_new given_pass beside : PassView) : Type 0 where
  pub hand_room : more - 1 < hand_new.parts
  pub room : 2 * (more - 1) + 1 < pass_new.parts
  pub hand_parts : hand_new.parts + 1 ≡ hand.parts
  pub parts : pass_new.parts + 2 ≡ pass.parts
  pub fixed_is : pass_new.fixed ≡ pass.fixed
  pub lock_is : pass_new.lock ≡ lock
  pub given_hand : given.parts ≡ 1
  pub given_parts : given_pass.parts ≡ 1
  pub given_some : 0 < given_pass.parts
  pub given_fixed : given_pass.fixed ≡ pass.fixed
  pub given_lock : given_pass.lock ≡ lock
  pub beside_is : beside ≡ one_part given_pass

-- a server that has the parts of two
pub record HasBoth {L : Type 0} (hand other hand_new : HandView L) (pass other_pass pass_new : PassView) : Type 0 where
  pub hand_parts : hand_new.parts ≡ hand.parts + other.parts
  pub parts : pass_new.parts ≡ pass.parts + other_pass.parts
  pub fixed_is : pass_new.fixed ≡ pass.fixed
  pub lock_is : pass_new.lock ≡ pass.lock

-- what all servers together know, once nobody more is accepted
pub record HasEnded {L M : Type 0} (legal : Origin → List Entry → Type 0) (is_link : Fixed → Bool → List Entry → M → Type 0) (given_of : M → L) (client_of : M → Option ℕ) (is_lacking : M → Bool)
    (pass pass_new : PassView) (accepted : List L) (served : List M) (lacked : Bool) : Type 0 where
  pub lock_is : pass_new.lock ≡ pass.lock
  pub parts : pass_new.parts ≡ pass.parts
  pub fixed_is : pass_new.fixed ≡ pass.fixed
  pub known : Knows legal is_link client_of pass_new served
  pub once : WeighAlike (map given_of served) accepted
  pub lacked_is : lacked ≡ list_any is_lacking served

-- what serving all that come leaves. `wrong` is whether the device gave a wrong answer
pub record PoolServesAll {L M : Type 0} (legal : Origin → List Entry → Type 0) (is_link : Fixed → Bool → List Entry → M → Type 0) (given_of : M → L) (client_of : M → Option ℕ) (is_lacking : M → Bool)
    (fixed fixed_new : Fixed) (wrong : Bool) (history : List Entry) (coming coming_new : Option (List L)) (faults faults_new most : ℕ) (accepted : Result (Unit {0}) AcceptError) (count : ℕ) (lacked : Bool) (served : List M) : Type 0 where
  pub fixed_is : fixed_new ≡ fixed
  pub is_legal : IsLegalOver legal fixed.base history
  pub served_is : AreServedOnce (is_link fixed wrong history) given_of client_of history coming coming_new most served
  pub closed : (clients_of history).present ≡ []
  pub enough : OnOk accepted (IsEnough most count coming_new)
  pub quiet : OnOk accepted (faults_new ≡ faults)
  pub failed : accepted ≡ Err errors.Failed → Rose faults faults_new
  pub count_is : count ≡ length served
  pub lacked_is : lacked ≡ list_any is_lacking served

-- a value that has no history yet, what may be its history, and so many servers for it
pub record MayServeAll (legal : Origin → List Entry → Type 0) (fixed : Fixed) (history : List Entry)
    (servers : ℕ) : Type 0 where
  pub empty : history ≡ []
  pub is_legal : IsLegalOver legal fixed.base history
  pub some : 0 < servers
  pub few : servers ≤ 256

-- what serving all that come leaves, over a value that keeps a history. Where memory lacked, nobody
-- was accepted
pub record PoolServesLinks {A B S K : Type 0} (legal : Origin → List Entry → Type 0)
    (fixed : B → Fixed)
    (wrong : B → Bool) (history : B → List Entry) (coming : A → Option (List (S × K)))
    (faults : A → ℕ) (left : S → Option (List ℕ)) (written : K → Option (List ℕ))
    (source_faults : S → ℕ) (sink_faults : K → ℕ) (most : ℕ) (value : B)
    (acceptor acceptor_new : A) (all : ServedAll B S K) : Type 0 where
  pub served : PoolServesAll legal (IsServed left written source_faults sink_faults) given_of
      client_of
      is_lacking (fixed value) (fixed all.value) (wrong all.value) (history all.value)
      (coming acceptor) (coming acceptor_new) (faults acceptor) (faults acceptor_new) most
      all.accepted all.count all.lacked all.served.value
  pub memory : all.accepted ≡ Err errors.Memory
      → (acceptor_new ≡ acceptor) × (all.served.value ≡ []) × (all.value ≡ value)
