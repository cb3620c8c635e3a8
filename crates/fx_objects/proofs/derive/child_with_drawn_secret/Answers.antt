use Rattle.std.proofs.Common.{◌≡◌, ◌∙◌, refl, ap, take, drop}
use Rattle.tab_values.specs.Views.{object_of}
use Rattle.fx_objects.specs.Views.{template_of}
use Rattle.fx_objects.proofs.Drawing.{child_drawn}
use Rattle.fx_objects.proofs.derive.child_with_drawn_secret.Goals as goal

pub returns-clause-row : goal.returns-clause-row
returns-clause-row c =
    let bytes = c.in_ok-bytes.bytes in
    let seed : c.seed_of-seed.result ≡ take 32 bytes = c.seed_of-seed.ensures ∙ ap (take 32) c.as_slice.ensures.same in
    let secret : c.secret_of-secret.result ≡ drop 32 bytes = c.secret_of-secret.ensures ∙ ap (drop 32) c.as_slice-2.ensures.same in
    child_drawn c.args.p.now (object_of c.args.parent.now) (template_of c.args.t.now) c.secret_size.result bytes c.draw_bytes.new.p c.requires c.secret_size.ensures.size c.in_ok-bytes.ensures.row
    ∙ rw (c.new_object.ensures, seed, secret) refl
