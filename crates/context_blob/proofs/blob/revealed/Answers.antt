use Rattle.std.proofs.Common.{◌∙◌, List, ℕ, ap, sym, Some}
use Rattle.tab_spec.specs.Values.{sized}
use Rattle.tab_spec.specs.declared.TheConstants.{RC_SIZE}
use Rattle.tab_values.specs.Contexts.{context_of}
use Rattle.context_blob.proofs.Opening.{code_read, other_code, same_code, none_fits, too_long}
use Rattle.context_blob.proofs.blob.revealed.Goals as goal

pub returns-then-ne : goal.returns-then-ne
returns-then-ne c plain =
    let blob = c.args.context.now.blob.now in
    let code = c.in-Ok.code.now in
    let bytes = c.rest-bytes.result.now in
    let read = code_read blob c.new-reader.result code c.read_sized.new.r bytes c.new-reader.ensures c.in-Ok.ensures.took c.rest-bytes.ensures in
    none_fits _ plain
    (other_code c.args.keys.now (context_of c.args.context.now) (sized RC_SIZE blob) code bytes c.as_slice.result.now read
    (c.as_slice.ensures ∙ c.integrity_value-wanted.ensures) (sym c.if-ne.true ∙ c.ne.ensures))

pub returns-then-bytes-gt-MOST_PLAIN : goal.returns-then-bytes-gt-MOST_PLAIN
returns-then-bytes-gt-MOST_PLAIN c plain =
    let blob = c.args.context.now.blob.now in
    let code = c.in-Ok.code.now in
    let bytes = c.rest-bytes.result.now in
    let read = code_read blob c.new-reader.result code c.read_sized.new.r bytes c.new-reader.ensures c.in-Ok.ensures.took c.rest-bytes.ensures in
    too_long c.args.keys.now c.args.context.now.sequence c.args.context.now.saved_handle bytes plain _
    (same_code c.args.keys.now (context_of c.args.context.now) (sized RC_SIZE blob) code bytes c.as_slice.result.now read
    (c.as_slice.ensures ∙ c.integrity_value-wanted.ensures) (sym c.if-ne.false ∙ c.ne.ensures)) c.if-bytes-gt-MOST_PLAIN.true

pub returns : goal.returns
returns c =
    let blob = c.args.context.now.blob.now in
    let code = c.in-Ok.code.now in
    let bytes = c.rest-bytes.result.now in
    let read = code_read blob c.new-reader.result code c.read_sized.new.r bytes c.new-reader.ensures c.in-Ok.ensures.took c.rest-bytes.ensures in
    same_code c.args.keys.now (context_of c.args.context.now) (sized RC_SIZE blob) code bytes c.as_slice.result.now read
    (c.as_slice.ensures ∙ c.integrity_value-wanted.ensures) (sym c.if-ne.false ∙ c.ne.ensures) ∙ ap (λ (plain : List ℕ). Some plain) (sym c.encrypted.ensures.bytes)
