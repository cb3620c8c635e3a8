use Rattle.std.proofs.Common.{◌≡◌, ◌⊎◌, ◌<◌, inl, inr, take, ap, ◌∙◌}
use Rattle.tab_spec.specs.Frame.{size_of, item_of, cancel, command}
use Rattle.tab_frame.proofs.Giving.{kept_is, not_yet_sized, not_yet_whole, bad_size, gave_frame}
use Rattle.tab_frame.proofs.framer.Framer.next.Goals as goal

pub returns-then-kept-lt-SIZED_BYTES : goal.returns-then-kept-lt-SIZED_BYTES
returns-then-kept-lt-SIZED_BYTES c =
    let kept = kept_is c.deref.result.now _ _ c.self.inside.at c.deref.ensures.value c.self.view_is in
    not_yet_sized c.args.self.now c.args.out.now (rw kept at c.if-kept-lt-SIZED_BYTES.true)

pub returns-then-size-lt-HEADER_BYTES : goal.returns-then-size-lt-HEADER_BYTES
returns-then-size-lt-HEADER_BYTES c =
    let kept = kept_is c.deref.result.now _ _ c.self.inside.at c.deref.ensures.value c.self.view_is in
    let size : c.size_of-size.result ≡ size_of c.args.self.now = c.size_of-size.ensures ∙ ap size_of kept in
    let wrong : (c.size_of-size.result < 10) ⊎ (4096 < c.size_of-size.result) = elim c.then-size-lt-HEADER_BYTES.either [ inl less ↦ inl less | inr more ↦ inr more.1 ] in
    bad_size c.args.self.now c.args.out.now c.size_of-size.result size wrong (rw kept at c.if-kept-lt-SIZED_BYTES.false)

pub returns-then-kept-size : goal.returns-then-kept-size
returns-then-kept-size c =
    let kept = kept_is c.deref.result.now _ _ c.self.inside.at c.deref.ensures.value c.self.view_is in
    let size : c.size_of-size.result ≡ size_of c.args.self.now = c.size_of-size.ensures ∙ ap size_of kept in
    not_yet_whole c.args.self.now c.args.out.now c.size_of-size.result size c.if-size-lt-HEADER_BYTES.false c.if-size-gt-MOST_BYTES.false
    (rw kept at c.if-kept-lt-SIZED_BYTES.false) (rw kept at c.if-kept-size.true)

pub returns-then-is_cancel : goal.returns-then-is_cancel
returns-then-is_cancel c =
    let kept = kept_is c.deref.result.now _ _ c.self.inside.at c.deref.ensures.value c.self.view_is in
    let size : c.size_of-size.result ≡ size_of c.args.self.now = c.size_of-size.ensures ∙ ap size_of kept in
    let out : c.put_bytes.new.self ≡ take c.size_of-size.result c.args.self.now = rw (c.clear.ensures, kept) at (rw c.unwrap.ensures at c.put_bytes.ensures.ok) in
    let item : item_of c.put_bytes.new.self ≡ cancel = rw (c.as_slice.ensures.value, c.if-is_cancel.true) at c.is_cancel.ensures in
    gave_frame cancel c.self.inside.bytes.items c.args.self.now _ c.self.inside.at c.size_of-size.result c.self.view_is size
    c.if-size-lt-HEADER_BYTES.false c.if-size-gt-MOST_BYTES.false (rw kept at c.if-kept-size.false) out item

pub returns : goal.returns
returns c =
    let kept = kept_is c.deref.result.now _ _ c.self.inside.at c.deref.ensures.value c.self.view_is in
    let size : c.size_of-size.result ≡ size_of c.args.self.now = c.size_of-size.ensures ∙ ap size_of kept in
    let out : c.put_bytes.new.self ≡ take c.size_of-size.result c.args.self.now = rw (c.clear.ensures, kept) at (rw c.unwrap.ensures at c.put_bytes.ensures.ok) in
    let item : item_of c.put_bytes.new.self ≡ command c.put_bytes.new.self = rw (c.as_slice.ensures.value, c.if-is_cancel.false) at c.is_cancel.ensures in
    gave_frame (command c.put_bytes.new.self) c.self.inside.bytes.items c.args.self.now _ c.self.inside.at c.size_of-size.result c.self.view_is size
    c.if-size-lt-HEADER_BYTES.false c.if-size-gt-MOST_BYTES.false (rw kept at c.if-kept-size.false) out item
