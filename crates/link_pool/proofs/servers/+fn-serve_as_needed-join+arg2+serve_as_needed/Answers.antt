use Rattle.std.proofs.Common.{arith, sym, ◌∙◌}
use denote.Param.{param}
use denote.Param.Send.{AllSync, IsSend, IsSync, recorded_sync, sendable, shr_send, struct_sync}
use denote.Struct.Declared.{fields, shape}
use denote.Struct.Struct.{Struct}
use Rattle.std.proofs.Crossing.{crosses}
use Rattle.broker_lock.specs.contracts.pass.Shared as lock
use Rattle.broker_lock.proofs.pass.Shared.TheSendSync as shared
use Rattle.link_pool.specs.contracts.server.Server as server
use Rattle.link_pool.specs.contracts.way.Way as way
use Rattle.link_pool.proofs.Parting.{leaves_both}
use Rattle.link_pool.proofs.Sending.{channel_sends, closure_send, fork_sync, heap_send, number_send, result_send, server_send, turn_send}
use Rattle.link_pool.proofs.servers.+fn-serve_as_needed-join+arg2+serve_as_needed.Given.{Over}
use Rattle.link_pool.proofs.servers.+fn-serve_as_needed-join+arg2+serve_as_needed.Goals as goal

pub returns : goal.returns
returns g t c = record {
  on = c.join_servers.ensures.on;
  leaves = leaves_both _ _ _ _ _ _ _ _ _ _ _ _ _ _ c.accept_one.ensures.leaves
      c.part-first.ensures.parted.hand_parts c.part-first.ensures.parted.parts
      c.part-first.ensures.parted.fixed_is
      (c.part-first.ensures.parted.lock_is
      ∙ sym (c.accept_one.ensures.leaves.lock_is ∙ c.requires.may_grow.lock_is))
      c.part-first.ensures.parted.given_hand c.part-first.ensures.parted.given_parts
      c.join-server.ensures.first.leaves c.join-server.ensures.second.leaves
      c.join_servers.ensures.both.hand_parts c.join_servers.ensures.both.parts
      c.join_servers.ensures.both.fixed_is c.join_servers.ensures.both.lock_is;
}

pub part-first-requires-clause-lock : goal.part-first-requires-clause-lock
part-first-requires-clause-lock g t c κs lives = c.accept_one.ensures.leaves.lock_is
    ∙ c.requires.may_grow.lock_is

pub part-first-requires-clause-served : goal.part-first-requires-clause-served
part-first-requires-clause-served g t c κs lives = c.accept_one.ensures.served
    ∙ c.requires.may_grow.unserved

pub join_servers-requires-clause-lock : goal.join_servers-requires-clause-lock
join_servers-requires-clause-lock g t c κs lives = c.join-server.ensures.first.leaves.lock_is
    ∙ c.part-first.ensures.parted.lock_is

pub join_servers-requires-clause-ended_lock : goal.join_servers-requires-clause-ended_lock
join_servers-requires-clause-ended_lock g t c κs lives = c.join-server.ensures.second.leaves.lock_is
    ∙ c.part-first.ensures.parted.given_lock

pub join_servers-requires-clause-fixed : goal.join_servers-requires-clause-fixed
join_servers-requires-clause-fixed g t c κs lives =
    c.join-server.ensures.second.leaves.fixed_is
    ∙ (c.part-first.ensures.parted.given_fixed
    ∙ sym (c.join-server.ensures.first.leaves.fixed_is ∙ c.part-first.ensures.parted.fixed_is))

pub part-first-requires-clause-room : goal.part-first-requires-clause-room
part-first-requires-clause-room g t c κs lives = (
  omega (arith, c.if-more-eq0.false),
  omega
      (arith, c.requires.may_grow.hand_parts, c.accept_one.ensures.leaves.hand_parts),
  omega
      (arith, c.requires.may_grow.parts, c.accept_one.ensures.leaves.parts),
)

-- What goes to another thread may do so. `search` stops at its bounds here: the bounds of the function are given by their places.
lock_sync : (g : Over) → IsSend (param 0 g.row.B) → IsSync (lock.the_row (param 0 g.row.B) g.B.Recorded)
lock_sync g value = search (sendable, shared.the_sync)

way_sync : (g : Over) → IsSend (param 1 g.row.A)
    → IsSync (way.the_row (param 1 g.row.A) (param 2 g.row.J) (param 5 g.row.A-In) (param 6 g.row.A-Out) g.A.Passed g.A.Acceptor g.A.In.Source g.A.Out.Sink g.J.Begins)
way_sync g acceptor =
    let T = way.the_type (param 1 g.row.A) (param 2 g.row.J) (param 5 g.row.A-In) (param 6 g.row.A-Out) g.A.Passed g.A.Acceptor g.A.In.Source g.A.Out.Sink g.J.Begins in
    let parts : AllSync (fields T) = (search (channel_sends, turn_send) depth 10, (search (channel_sends, turn_send) depth 10, (search (sendable, crosses) depth 20, tt))) in
    recorded_sync (Struct (shape T)) T.D T.to T.to_one (struct_sync (shape T) parts)

pub join-server-requires-send-F : goal.join-server-requires-send-F
join-server-requires-send-F g t c κs within =
    let value : IsSend (param 0 g.row.B) = c.requires-raw.1.1.1.1.1.1.1.1.0 in
    let acceptor : IsSend (param 1 g.row.A) = c.requires-raw.1.1.1.1.1.1.1.1.1.0 in
    let gate : IsSync (param 3 g.row.G) = c.requires-raw.1.1.1.1.1.1.1.1.1.1.1.1.1.1.0 in
    let rt : IsSync (param 4 g.row.R) = c.requires-raw.1.1.1.1.1.1.1.1.1.1.1.1.1.1.1.0 in
    let both = lock_sync g value in
    let turns = way_sync g acceptor in
    let server : IsSend (server.the_row (param 0 g.row.B) (param 1 g.row.A) (param 5 g.row.A-In) (param 6 g.row.A-Out)) = server_send (param 0 g.row.B) (param 1 g.row.A) (param 5 g.row.A-In) (param 6 g.row.A-Out) value in
    closure_send 1 _ _ _ _ _ _ _ _ _ _ (shr_send _ _ _ rt) heap_send (shr_send _ _ _ both) (shr_send _ _ _ gate) (shr_send _ _ _ turns) (shr_send _ _ _ fork_sync) number_send server

pub join-server-requires-send-A : goal.join-server-requires-send-A
join-server-requires-send-A g t c κs within =
    let value : IsSend (param 0 g.row.B) = c.requires-raw.1.1.1.1.1.1.1.1.0 in
    result_send 3 _ _ (server_send (param 0 g.row.B) (param 1 g.row.A) (param 5 g.row.A-In) (param 6 g.row.A-Out) value)
