use Rattle.std.proofs.Common.{◌≡◌, ◌≤◌, ◌∙◌, refl, sym, ap, length, take, arith}
use Rattle.std.proofs.lemmas.List.{take_all}
use Rattle.tab_values.specs.Views.{object_of}
use Rattle.fx_objects.specs.Views.{template_of}
use Rattle.fx_objects.proofs.Drawing.{child_given}
use Rattle.fx_objects.proofs.derive.child.Goals as goal

pub returns-clause-row : goal.returns-clause-row
returns-clause-row c =
    let bytes = c.in_ok-bytes.bytes in
    let most : length bytes ≤ 32 = omega (arith, c.in_ok-bytes.ensures.size) in
    let seed : c.seed_of-seed.result ≡ bytes = c.seed_of-seed.ensures ∙ ap (take 32) c.as_slice.ensures.same ∙ take_all 32 bytes most in
    child_given c.args.p.now (object_of c.args.parent.now) (template_of c.args.t.now) bytes c.draw_bytes.new.p (sym c.makes_secret.ensures ∙ c.if-makes_secret.false) c.in_ok-bytes.ensures.row
    ∙ rw (c.new_object.ensures, seed, c.copied-secret.ensures) refl
