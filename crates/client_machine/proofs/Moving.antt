-- What is moved before a client's command, and what was used then, where there are no orphans and no renewal is due.
use mir.Val.{bool_byte}
use Rattle.std.proofs.Common.{◌≡◌, ◌+◌, ◌≤◌, ℕ, Bool, List, ap, ◌∙◌, subst, arith}
use Rattle.std.specs.Prelude.{Option}
use Rattle.tab_spec.specs.declared.Admitted.{Admitted}
use Rattle.tab_spec.specs.Shape.{needs_slot}
use Rattle.tab_spec.specs.declared.contexts.ContextLimits.{ContextLimits}
use Rattle.device_port.specs.Device.{Seen, sent_of}
use Rattle.device_port.specs.Use.{all_used, without_first}
use Rattle.client_laws.specs.Ready.{named_sessions}
use Rattle.object_swap.specs.Items as objects
use Rattle.object_swap.specs.Items.{ObjectsView}
use Rattle.session_swap.specs.Items as sessions
use Rattle.session_swap.specs.Items.{SessionsView}
use Rattle.client_machine.specs.declared.held.Held.{Held}
use Rattle.client_machine.specs.Costs.{SendsUpTo}
use Rattle.client_machine.specs.Moves.{UsesNamed, first_handle, listed, moves_for, named_by, named_objects, places_needed, slots_of}
use Rattle.client_machine.proofs.Loading.{byte_is}

-- ---- sums

pub sent_both : {D : Type 0} (seen : D → Seen) (n m : ℕ) (old mid new : D) → SendsUpTo seen n old mid → SendsUpTo seen m mid new
    → SendsUpTo seen (n + m) old new
sent_both seen n m old mid new first second = omega (arith, first, second)

pub sent_more : {D : Type 0} (seen : D → Seen) (n m : ℕ) (old new : D) → SendsUpTo seen n old new → SendsUpTo seen (n + m) old new
sent_more seen n m old new sent = omega (arith, sent)

pub sent_one_more : {D : Type 0} (seen : D → Seen) (n : ℕ) (old new : D) → SendsUpTo seen 1 old new → SendsUpTo seen (n + 1) old new
sent_one_more seen n old new sent = omega (arith, sent)

-- a command after those
pub sent_then : {D : Type 0} (seen : D → Seen) (n : ℕ) (old mid new : D) → SendsUpTo seen n old mid → sent_of (seen new) ≤ sent_of (seen mid) + 1
    → SendsUpTo seen (n + 1) old new
sent_then seen n old mid new sent once = omega (arith, sent, once)

-- ---- what is moved

abbrev pub session_moves : Admitted → SessionsView → ℕ
session_moves a view = sessions.moves_of (named_sessions a) (places_needed view a) view

-- as many sessions as from what was held
pub sessions_moved_from : {D : Type 0} (seen : D → Seen) (old between new : D) (held cleared : Held) (a : Admitted)
    → (between ≡ old) × (cleared ≡ held) → SendsUpTo seen (session_moves a cleared.sessions) between new
    → SendsUpTo seen (session_moves a held.sessions) old new
sessions_moved_from seen old between new held cleared a still sent =
    subst (λ (h : Held). SendsUpTo seen (session_moves a h.sessions) old new) still.1
    (subst (λ d. SendsUpTo seen (session_moves a cleared.sessions) d new) still.0 sent)

-- so many slots are asked for as it needs
pub slots_are : (contexts : ContextLimits) (a : Admitted) (bytes : List ℕ) (needs : Bool) (slots : ℕ) → slots ≡ bool_byte needs → needs ≡ needs_slot contexts a.shape bytes
    → slots ≡ slots_of contexts a bytes
slots_are contexts a bytes needs slots is so = is ∙ ap bool_byte so ∙ byte_is (needs_slot contexts a.shape bytes)

-- and as many objects
pub objects_moved_from : (contexts : ContextLimits) {D : Type 0} (seen : D → Seen) (old new : D) (held cleared loaded : Held) (table : List (Option ℕ)) (a : Admitted) (bytes : List ℕ)
    (named : Option ℕ) (slots : ℕ) → cleared ≡ held → loaded.objects ≡ cleared.objects → named ≡ named_by table (first_handle a) → slots ≡ slots_of contexts a bytes
    → SendsUpTo seen (objects.moves_of (listed named) slots loaded.objects) old new
    → SendsUpTo seen (objects.moves_of (named_objects table a) (slots_of contexts a bytes) held.objects) old new
objects_moved_from contexts seen old new held cleared loaded table a bytes named slots cleared_is objects_are named_is slots_is sent =
    let from : loaded.objects ≡ held.objects = objects_are ∙ ap (λ (h : Held). h.objects) cleared_is in
    subst (λ (n : ℕ). SendsUpTo seen n old new) (λ i. objects.moves_of (listed (named_is i)) (slots_is i) (from i)) sent

-- both
pub moved_from : (contexts : ContextLimits) {D : Type 0} (seen : D → Seen) (old mid new : D) (held : Held) (table : List (Option ℕ)) (a : Admitted) (bytes : List ℕ)
    → SendsUpTo seen (session_moves a held.sessions) old mid
    → SendsUpTo seen (objects.moves_of (named_objects table a) (slots_of contexts a bytes) held.objects) mid new
    → SendsUpTo seen (moves_for contexts held table a bytes) old new
moved_from contexts seen old mid new held table a bytes first second =
    sent_both seen (session_moves a held.sessions) (objects.moves_of (named_objects table a) (slots_of contexts a bytes) held.objects) old mid new first second

-- ---- what is used

abbrev sessions_used : Admitted → SessionsView → List ℕ
sessions_used a view = all_used
    (without_first (sessions.evictions (named_sessions a) (places_needed view a) view) (sessions.numbers_of (named_sessions a)) view.order)
    (sessions.numbers_of (named_sessions a))

abbrev objects_used : List ℕ → ℕ → ObjectsView → List ℕ
objects_used needed slots view = all_used (without_first (objects.evictions needed slots view) needed view.order) needed

pub used_from : {contexts : ContextLimits} (held cleared loaded new_held : Held) (table : List (Option ℕ)) (a : Admitted) (bytes : List ℕ) (named : Option ℕ) (slots : ℕ)
    → cleared ≡ held → loaded.objects ≡ cleared.objects → new_held.sessions ≡ loaded.sessions → named ≡ named_by table (first_handle a)
    → slots ≡ slots_of contexts a bytes → loaded.sessions.order ≡ sessions_used a cleared.sessions
    → new_held.objects.order ≡ objects_used (listed named) slots loaded.objects → UsesNamed contexts held new_held table a bytes
used_from held cleared loaded new_held table a bytes named slots cleared_is objects_are sessions_are named_is slots_is loaded_order brought_order =
    let from : loaded.objects ≡ held.objects = objects_are ∙ ap (λ (h : Held). h.objects) cleared_is in
    record {
      objects = brought_order ∙ (λ i. objects_used (listed (named_is i)) (slots_is i) (from i));
      sessions = ap (λ (v : SessionsView). v.order) sessions_are ∙ loaded_order ∙ ap (λ (h : Held). sessions_used a h.sessions) cleared_is;
    }
