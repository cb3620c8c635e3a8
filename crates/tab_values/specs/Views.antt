-- Which value a struct is.
use Rattle.tab_spec.specs.Values as values
use Rattle.tab_spec.specs.NvIndex as nv_index
use Rattle.tab_spec.specs.Object as object
use Rattle.tab_spec.specs.Session as session
pub use Rattle.tab_fields.specs.Taking.{TookValue}
use Rattle.tab_values.specs.declared.public.Public.{Public}
use Rattle.tab_values.specs.declared.public.NvPublic.{NvPublic}
use Rattle.tab_values.specs.declared.public.Sensitive.{Sensitive}
use Rattle.tab_values.specs.declared.nv_index.NvIndex.{NvIndex}
use Rattle.tab_values.specs.declared.object.Object.{Object}
use Rattle.tab_values.specs.declared.session.Session.{Session}
use Rattle.tab_values.specs.declared.selection.PcrSelection.{PcrSelection}

abbrev pub public_of : Public → values.Public
public_of p = record { form = p.form; attributes = p.attributes; policy = p.policy; unique = p.unique }

abbrev pub nv_public_of : NvPublic → values.NvPublic
nv_public_of p = record { index = p.index; attributes = p.attributes; policy = p.policy; size = p.size }

abbrev pub nv_index_of : NvIndex → nv_index.NvIndex
nv_index_of i = record { public = nv_public_of i.public; auth = i.auth; bytes = i.bytes }

abbrev pub object_of : Object → object.Object
object_of o = record { public = public_of o.public; auth = o.auth; seed = o.seed; secret = o.secret; qualified_name = o.qualified_name }

abbrev pub session_of : Session → session.Session
session_of s = record {
  kind = s.kind;
  nonce = s.nonce;
  digest = s.digest;
  command_code = s.command_code;
  needed = s.needed;
  pcr_updates = s.pcr_updates;
}

abbrev pub sensitive_of : Sensitive → values.Sensitive
sensitive_of s = record { auth = s.auth; content = s.content }

abbrev pub selection_of : PcrSelection → values.PcrSelection
selection_of s = record { bits = s.bits }
