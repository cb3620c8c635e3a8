-- Which value the fields of a context are.
use Rattle.effect_spec.specs.Contexts as contexts
use Rattle.tab_fields.specs.declared.context.Context.{Context}

abbrev pub context_of : Context → contexts.Context
context_of c = record { sequence = c.sequence; saved_handle = c.saved_handle; hierarchy = c.hierarchy; blob = c.blob.now }
