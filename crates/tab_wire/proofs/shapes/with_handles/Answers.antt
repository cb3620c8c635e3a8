use Rattle.std.proofs.Common.{◌≡◌, ◌++◌, arith, ◌∙◌, ap, List, ℕ, length, take, drop, length-take}
use Rattle.tab_spec.specs.Shape.{handle_bytes}
use Rattle.tab_wire.proofs.Shaped.{Shaped, shaped, handle_bytes_taken}
use Rattle.tab_wire.proofs.shapes.with_handles.Goals as goal

pub slice_bounds-handles-end : goal.slice_bounds-handles-end
slice_bounds-handles-end c =
    let s : Shaped c.args.bytes.now c.args.shape.now = shaped c.args.bytes.now c.args.shape.now c.requires in
    omega arith

pub slice_bounds-given-end : goal.slice_bounds-given-end
slice_bounds-given-end c =
    let s : Shaped c.args.bytes.now c.args.shape.now = shaped c.args.bytes.now c.args.shape.now c.requires in
    omega (arith, length-take c.from.result c.args.handles)

pub join-requires : goal.join-requires
join-requires c =
    let s : Shaped c.args.bytes.now c.args.shape.now = shaped c.args.bytes.now c.args.shape.now c.requires in
    record { rest = omega (arith, length-take c.from.result c.args.handles); within = s.within; most = s.most }

pub returns : goal.returns
returns c =
    let s : Shaped c.args.bytes.now c.args.shape.now = shaped c.args.bytes.now c.args.shape.now c.requires in
    let taken : length (take c.from.result c.args.handles) ≡ c.args.shape.now.count = omega (arith, length-take c.from.result c.args.handles) in
    let given = take c.from.result c.args.handles in
    c.join.ensures
    ∙ ap (λ (n : ℕ). take 10 c.args.bytes.now ++ handle_bytes n given ++ drop c.args.shape.now.rest c.args.bytes.now) taken
    ∙ ap (λ (n : ℕ). take 10 c.args.bytes.now ++ handle_bytes c.args.shape.now.count (take n c.args.handles) ++ drop c.args.shape.now.rest c.args.bytes.now) c.from.ensures
    ∙ ap (λ (h : List ℕ). take 10 c.args.bytes.now ++ h ++ drop c.args.shape.now.rest c.args.bytes.now) (handle_bytes_taken c.args.shape.now.count c.args.handles)
