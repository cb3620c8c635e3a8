use Rattle.std.proofs.Common.{◌≡◌, rules, sym}
use Rattle.std.specs.Prelude.{Ok}
use Rattle.tab_spec.specs.declared.Admitted.{Admitted}
use Rattle.tab_spec.specs.Admission.{admitted_by}
use Rattle.tab_laws.proofs.Admissions.{admitted_is_shape}
use Rattle.tab_wire.proofs.FirstAuth.{first_within}
use Rattle.tab_wire.proofs.admission.admit.Goals as goal

pub returns-clause-shape : goal.returns-clause-shape
returns-clause-shape g c =
    let admitted : Admitted = record { shape = c.in_ok-shape.shape; auths = c.in_ok-auths.auths } in
    let is : admitted_by (g.T.Tables.tables c.args.tables.now) (Ok c.args.row) c.args.bytes.now ≡ Ok admitted = search rules in
    admitted_is_shape (g.T.Tables.tables c.args.tables.now) c.args.row c.args.bytes.now admitted c.requires.known is

pub returns-clause-within : goal.returns-clause-within
returns-clause-within g c = first_within c.args.bytes.now c.in_ok-shape.shape c.in_ok-auths.auths (sym c.in_ok-auths.ensures.value)
