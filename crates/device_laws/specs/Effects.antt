-- Which commands of a device are answered by effects on what it keeps and on what its slots hold.
use Rattle.std.specs.Prelude.{ℕ, ◌==◌, ◌||◌, not, Bool}
use Rattle.tab_spec.specs.declared.TheConstants.{CC_STARTUP, CC_CONTEXT_SAVE, CC_CONTEXT_LOAD, CC_FLUSH_CONTEXT, CC_GET_CAPABILITY, CC_START_AUTH_SESSION}

-- none of those that the machine answers itself, and none that needs a place for a session
abbrev pub is_of_effects : ℕ → Bool
is_of_effects code =
    not (code == CC_STARTUP || code == CC_CONTEXT_SAVE || code == CC_CONTEXT_LOAD || code == CC_FLUSH_CONTEXT || code == CC_GET_CAPABILITY
    || code == CC_START_AUTH_SESSION)

-- the commands of clients that a resource manager carries out by itself: it moves objects and sessions by them, or says which there
-- are
abbrev pub is_managed : ℕ → Bool
is_managed code = code == CC_CONTEXT_SAVE || code == CC_CONTEXT_LOAD || code == CC_FLUSH_CONTEXT || code == CC_GET_CAPABILITY
