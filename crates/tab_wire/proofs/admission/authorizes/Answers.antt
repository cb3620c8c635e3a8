use Rattle.std.proofs.Common.{◌==◌, rules, tests}
use Rattle.std.proofs.lemmas.Iterator.{YieldsList-from_slice}
use Rattle.std.proofs.lemmas.Iterator.Search.{any_from_yields_List}
use Rattle.tab_spec.specs.declared.Auth.{Auth}
use Rattle.tab_wire.proofs.admission.authorizes.Goals as goal

pub returns : goal.returns
returns c =
    any_from_yields_List (λ (auth : Auth). auth.session == c.args.session) _ _ _ c.any.ensures.ran (YieldsList-from_slice c.args.auths.now cc)
    (λ x b q k. search (rules, tests))
