-- What may go to another thread.
use denote.RattleType.{RattleType}
use Prim.Native.Nat.{ℕ}
use mathlib.Core.List.{[], ◌∷◌}
use mir.Syntax.{Sym, Ty}
use denote.Exit.{no}
use denote.Param.{arg, param}
use denote.Param.Send.{AllSend, IsSend, IsSync, arg_send, param_send, recorded_send, sendable, struct_send}
use denote.Struct.Declared.{fields, row, shape}
use denote.Struct.Field.{u32-field}
use denote.Struct.Struct.{Struct}
use denote.Struct.Tuple.{TupleAt, type_at}
use Rattle.std.proofs.Crossing.{crosses}
use Rattle.std.specs.contracts.alloc.Global as heap
use Rattle.std.specs.contracts.impls.GlobalAllocator.TheImpl.{ghosts}
use Rattle.std.specs.contracts.option.Option as option
use Rattle.atomic_table.proofs.shared.Seat.TheSendSync as seat
use Rattle.atomic_table.proofs.shared.Shared.TheSendSync as table
use Rattle.atomic_table.proofs.send_lease.SendLease.TheSendSync as lease
use Rattle.atomic_table.specs.contracts.badge.Badge as badge_row
use Rattle.atomic_table.proofs.badge.Badge.TheSendSync as badge
use Rattle.broker_lock.proofs.pass.Pass.TheSendSync as pass
use Rattle.crossbeam_channel.specs.contracts.flavors.array.ruled.Sending as sending
use Rattle.crossbeam_channel.specs.contracts.flavors.array.ruled.Receiving as receiving
use Rattle.crossbeam_channel.specs.contracts.flavors.array.Rows as rows
use Rattle.link_pool.specs.contracts.idle.Fork as fork
use Rattle.link_pool.specs.contracts.server.Server as server
use Rattle.link_pool.specs.contracts.turn.Turn as turn

-- ---- a closure with what it captures, and its result

pub closure_send : (i : ℕ) (τ : Ty) (n : Sym) (A B C D E F G H : RattleType) → IsSend A → IsSend B → IsSend C → IsSend D → IsSend E → IsSend F → IsSend G → IsSend H
    → IsSend (param i (arg τ no (TupleAt n (A ∷ B ∷ C ∷ D ∷ E ∷ F ∷ G ∷ H ∷ []))))
closure_send i τ n A B C D E F G H a b c d e f g h =
    let T = type_at n (A ∷ B ∷ C ∷ D ∷ E ∷ F ∷ G ∷ H ∷ []) in
    let all : AllSend (fields T) = (a, (b, (c, (d, (e, (f, (g, (h, tt)))))))) in
    param_send i (arg τ no (row T)) (arg_send τ no (row T) (recorded_send (Struct (shape T)) T.D T.to T.to_one (struct_send (shape T) all)))

pub fork_sync : IsSync fork.the_row
fork_sync = search (sendable, crosses) depth 20

pub number_send : IsSend u32-field.row
number_send = search sendable

pub heap_send : IsSend heap.the_row
heap_send = search (sendable, crosses)

pub result_send : (i : ℕ) (τ : Ty) (R : RattleType) → IsSend R → IsSend (param i (arg τ no R))
result_send i τ R s = param_send i (arg τ no R) (arg_send τ no R s)

-- ---- a server, and the turn

pub server_send : (B A S K : RattleType) → IsSend B → IsSend (server.the_row B A S K)
server_send B A S K b =
    let T = server.the_type B A S K in
    let parts : AllSend (fields (server.the_type B A S K)) = (search (sendable, seat.the_send, badge.the_send), (pass.the_send B b, (search (sendable, crosses), (search sendable, tt)))) in
    recorded_send (Struct (shape T)) T.D T.to T.to_one (struct_send (shape T) parts)

pub turn_send : (A S K : RattleType) → IsSend A → IsSend (turn.the_row A S K)
turn_send A S K a =
    let T = turn.the_type A S K in
    let parts : AllSend (fields (turn.the_type A S K)) = (search sendable, (search sendable, (search sendable, (search (sendable, crosses), tt)))) in
    recorded_send (Struct (shape T)) T.D T.to T.to_one (struct_send (shape T) parts)

-- ---- the ends of a channel

pub rows_send : (S D Q M K L : RattleType) (p : _) (q : _) → IsSend S → IsSend M → IsSend (rows.the_row S D Q M K L heap.the_row p q ghosts)
rows_send S D Q M K L p q s m = search (sendable, crosses, table.the_send, lease.the_send) depth 40

pub rows_sync : (S D Q M K L : RattleType) (p : _) (q : _) → IsSend S → IsSend M → IsSync (rows.the_row S D Q M K L heap.the_row p q ghosts)
rows_sync S D Q M K L p q s m = search (sendable, crosses, table.the_sync, lease.the_sync) depth 40

pub sending_sync : (C : RattleType) → IsSend C → IsSync C → IsSync (Struct (shape (sending.the_type C heap.the_row ghosts)))
sending_sync C s y = search (sendable, crosses) depth 40

pub receiving_sync : (C : RattleType) → IsSend C → IsSync C → IsSync (Struct (shape (receiving.the_type C heap.the_row ghosts)))
receiving_sync C s y = search (sendable, crosses) depth 40

pub option_send : (T : RattleType) → IsSend T → IsSend (option.the_row T)
option_send T t = search sendable depth 20

pub badge_send : (V : RattleType) → IsSend (badge_row.the_row V)
badge_send V = badge.the_send V

pub ruleset channel_sends = (rows_send, rows_sync, sending_sync, receiving_sync, option_send, badge_send)
