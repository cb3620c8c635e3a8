use Rattle.std.proofs.Common.{◌≡◌, ◌++◌, ◌∙◌, sym, ap}
use Rattle.std.specs.Prelude.{Ok}
use Rattle.effect_spec.specs.Objects as objects
use Rattle.tab_spec.specs.Values.{sized_bytes}
use Rattle.tab_values.specs.Taking.{Unread}
use Rattle.tab_values.specs.Views.{object_of}
use Rattle.fx_objects.specs.Views.{parentage_of, template_of}
use Rattle.fx_objects.proofs.Created.{create_row_made, both_appended}
use Rattle.fx_objects.proofs.create_object.create.Goals as goal

pub returns-clause-row : goal.returns-clause-row
returns-clause-row c =
    let p = c.args.p.now in
    let q = c.child.new.p in
    let parent = object_of c.args.parent.now in
    let t = template_of c.in_ok-template.template in
    let o = object_of c.in_ok-object.object in
    let private = sized_bytes (objects.private_bytes parent o) in
    let read : objects.template_of c.args.params.now ≡ Ok (t, c.read_template.new.given.bytes) = sym (ap (λ (u : Unread). objects.template_of u.bytes) c.new-given.ensures) ∙ c.in_ok-template.ensures in
    let parentage = parentage_of c.object_parentage.result in (
      private ++ objects.created p (objects.under parent) t o.public,
      create_row_made p q parent o t c.args.params.now c.read_template.new.given.bytes (sym c.is_parent.ensures ∙ c.if-not-is_parent.false) read c.in_ok-end.ensures (sym c.data_fits.ensures ∙ c.if-not-data_fits.false) c.in_ok-object.ensures.row,
      both_appended p q parentage (objects.under parent) t o.public c.args.reply.now c.put_private.new.reply c.put_creation.new.reply private c.object_parentage.ensures c.child.ensures.seed c.child.ensures.pcrs c.put_private.ensures.put c.put_creation.ensures.put,
    )
