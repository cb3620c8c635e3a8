use Rattle.std.proofs.Common.{◌≡◌, ◌+◌, ◌-◌, ◌≤◌, ◌++◌, List, ℕ, length, take, drop, sym, subst, arith}
use borrow.Rule.Slice.PartMut.{put_mid}
use Rattle.tab_fields.proofs.Writing.{front_written}
use Rattle.tab_fields.proofs.small_bytes.SmallBytes.write.Goals as goal

pub returns : goal.returns
returns g c =
    let at = c.args.at in
    let new = c.args.bytes.now in
    let all = c.self.inside.bytes in
    let len = c.self.inside.len in
    let room = subst (λ (v : List ℕ). at + length new ≤ length v) (sym c.self.view_is) c.requires in
    subst (λ (v : List ℕ). take len (put_mid at (at + length new - at) all c.copy_from_slice.new.self) ≡ take at v ++ new ++ drop (at + length new) v) c.self.view_is
    (rw c.copy_from_slice.ensures.after (front_written at len (at + length new - at) all new room (omega (arith, c.self.told, c.self.invariant)) (omega arith)))
