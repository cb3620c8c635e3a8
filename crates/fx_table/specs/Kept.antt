-- What has to be known before a row is run whose response is authorized after it.
use Rattle.std.specs.Prelude.{ℕ, ◌==◌, ◌||◌, length, Bool, true, Option, Some, None, is_ok}
use Rattle.tab_spec.specs.declared.TheConstants.{CC_PCR_EXTEND, CC_NV_DEFINE_SPACE, CC_NV_UNDEFINE_SPACE, CC_NV_WRITE, CC_NV_INCREMENT}
use Rattle.tab_spec.specs.Persist.{Persist, drawn}
use Rattle.tab_spec.specs.Session.{Session}
use Rattle.effect_spec.specs.Operands.{Operands, named_session}

-- a command that changes more of what is kept than the place in the random stream
abbrev pub changes_kept : ℕ → Bool
changes_kept code =
    code == CC_PCR_EXTEND || code == CC_NV_DEFINE_SPACE || code == CC_NV_UNDEFINE_SPACE || code == CC_NV_WRITE
    || code == CC_NV_INCREMENT

-- whether the next nonceTPM can be drawn
abbrev pub has_nonce : Persist → Option Session → Bool
has_nonce persist None = true
has_nonce persist (Some s) = is_ok (drawn persist (length s.nonce))

abbrev pub can_draw_nonce : Persist → Operands → Bool
can_draw_nonce persist operands = has_nonce persist (named_session operands.session)
