-- An open client by its place among the open ones.
use Rattle.std.proofs.Common.{◌≡◌, ◌+◌, ◌<◌, ℕ, zero, suc, Bool, true, false, List, [], ◌∷◌, Option, length, set, get_or, refl, ◌∙◌, ap, sym, subst, arith}
use Rattle.std.specs.Prelude.{◌==◌, ◌||◌, ◌↔◌, Some, None, is_some, Result, Ok, Err, OnOk, if◌then◌else◌}
use Rattle.std.specs.List.{remove}
use Rattle.std.proofs.lemmas.Bool.{eqb-true}
use Rattle.tab_spec.specs.Object.{Object}
use Rattle.history_spec.specs.declared.Pick.{Pick}
use Rattle.world_spec.specs.World.{Client, ClientState, ClientStep, World, client_step, new_client, plain_step, step_in, table_in, with_table, without_client, world_with_state}
use Rattle.plain_machine.specs.Clients.{is_open_in, place_in}
use Rattle.plain_machine.specs.declared.step_error.StepError.{StepError}
use Rattle.plain_machine.specs.declared.step_error.StepError.TheVariants.{PickRefused, Memory}
use Rattle.plain_machine.specs.Views.{StepRan}

one_more : (n : ℕ) → 1 + n ≡ suc n
one_more n = omega arith

-- ---- an open client is among them

within_by : (here others : Bool) (rest len : ℕ) → (here || others) ≡ true → (others ≡ true → rest < len) → (if here then 0 else 1 + rest) < 1 + len
within_by true others rest len is later = omega arith
within_by false others rest len is later = omega (arith, later is)

pub open_within : (clients : List Client) (client : ℕ) → is_open_in clients client ≡ true → place_in clients client < length clients
open_within [] client is = absurd cc
open_within (c ∷ clients) client is =
    let here = within_by (c.number == client) (is_open_in clients client) (place_in clients client) (length clients) is (open_within clients client) in
    omega (arith, here)

-- ---- its table

table_by : (here : Bool) (c : Client) (clients : List Client) (rest : ℕ) (later : List (Option Object))
    → later ≡ (get_or clients rest (new_client 0)).objects
    → (if here then c.objects else later) ≡ (get_or (c ∷ clients) (if here then 0 else 1 + rest) (new_client 0)).objects
table_by true c clients rest later is = refl
table_by false c clients rest later is = rw (one_more rest) is

table_at : (clients : List Client) (client : ℕ) → table_in clients client ≡ (get_or clients (place_in clients client) (new_client 0)).objects
table_at [] client = refl
table_at (c ∷ clients) client =
    table_by (c.number == client) c clients (place_in clients client) (table_in clients client) (table_at clients client)

-- ---- another table

with_by : (here : Bool) (c e : Client) (clients later : List Client) (rest : ℕ)
    → e.number ≡ (get_or (c ∷ clients) (if here then 0 else 1 + rest) (new_client 0)).number
    → (e.number ≡ (get_or clients rest (new_client 0)).number → later ≡ set clients rest e)
    → (if here then record c { objects = e.objects } ∷ clients else c ∷ later) ≡ set (c ∷ clients) (if here then 0 else 1 + rest) e
with_by true c e clients later rest same next =
    ap (λ (n : ℕ). let d : Client = record { number = n; objects = e.objects } in d ∷ clients) (sym same)
with_by false c e clients later rest same next =
    rw (one_more rest) (ap (λ (cs : List Client). c ∷ cs) (next (rw (one_more rest) at same)))

with_table_at : (clients : List Client) (client : ℕ) (e : Client) → e.number ≡ (get_or clients (place_in clients client) (new_client 0)).number
    → with_table client e.objects clients ≡ set clients (place_in clients client) e
with_table_at [] client e same = refl
with_table_at (c ∷ clients) client e same =
    with_by (c.number == client) c e clients (with_table client e.objects clients) (place_in clients client) same (with_table_at clients client e)

-- ---- without it

without_by : (here : Bool) (c : Client) (clients later : List Client) (rest : ℕ) → later ≡ remove clients rest
    → (if here then clients else c ∷ later) ≡ remove (c ∷ clients) (if here then 0 else 1 + rest)
without_by true c clients later rest is = refl
without_by false c clients later rest is = rw (one_more rest) (ap (λ (cs : List Client). c ∷ cs) is)

pub without_at : (clients : List Client) (client : ℕ) → without_client client clients ≡ remove clients (place_in clients client)
without_at [] client = refl
without_at (c ∷ clients) client =
    without_by (c.number == client) c clients (without_client client clients) (place_in clients client) (without_at clients client)

-- ---- after a step

same_at : (clients : List Client) (place : ℕ) (c other : Client) → place < length clients → get_or clients place c ≡ get_or clients place other
same_at [] place c other within = absurd (omega (arith, within))
same_at (d ∷ clients) zero c other within = refl
same_at (d ∷ clients) (suc place) c other within = same_at clients place c other (omega (arith, within))

-- an open client by its place, with whatever stands for one beyond the end
found_at : (clients : List Client) (client place : ℕ) (c : Client) → is_open_in clients client ≡ true → place ≡ place_in clients client
    → c ≡ get_or clients place c → c ≡ get_or clients (place_in clients client) (new_client 0)
found_at clients client place c is at found =
    found ∙ ap (λ (n : ℕ). get_or clients n c) at ∙ same_at clients (place_in clients client) c (new_client 0) (open_within clients client is)

-- the same clients are open
open_after : (clients : List Client) (place other : ℕ) (e : Client) → e.number ≡ (get_or clients place (new_client 0)).number
    → is_open_in (set clients place e) other ≡ is_open_in clients other
open_after [] place other e same = refl
open_after (c ∷ clients) zero other e same = ap (λ (n : ℕ). n == other || is_open_in clients other) same
open_after (c ∷ clients) (suc place) other e same = ap (λ (rest : Bool). c.number == other || rest) (open_after clients place other e same)

pub same_open : (clients : List Client) (client place other : ℕ) (c e : Client) → is_open_in clients client ≡ true → place ≡ place_in clients client
    → c ≡ get_or clients place c → e.number ≡ c.number → is_open_in (set clients place e) other ≡ is_open_in clients other
same_open clients client place other c e is at found same =
    open_after clients place other e (same ∙ ap (λ (d : Client). d.number) (found ∙ same_at clients place c (new_client 0)
    (omega (arith, at, open_within clients client is))))

-- its number
number_by : (here others : Bool) (c : Client) (clients : List Client) (rest client : ℕ) → (c.number == client) ≡ here → (here || others) ≡ true
    → (others ≡ true → (get_or clients rest (new_client 0)).number ≡ client)
    → (get_or (c ∷ clients) (if here then 0 else 1 + rest) (new_client 0)).number ≡ client
number_by true others c clients rest client is some later = eqb-true c.number client is
number_by false others c clients rest client is some later = rw (one_more rest) (later some)

number_at : (clients : List Client) (client : ℕ) → is_open_in clients client ≡ true → (get_or clients (place_in clients client) (new_client 0)).number ≡ client
number_at [] client is = absurd cc
number_at (c ∷ clients) client is =
    number_by (c.number == client) (is_open_in clients client) c clients (place_in clients client) client refl is (number_at clients client)

-- what a command of a client with these objects is run over, and the world that a step leaves where these are the clients
abbrev pub state_with : World → List (Option Object) → ClientState
state_with world objects = record {
  persist = world.persist;
  most = world.most;
  objects = objects;
  sessions = world.sessions;
  left = world.left;
  object_sequence = world.object_sequence;
  session_sequence = world.session_sequence;
}

abbrev pub world_left : World → ClientState → List Client → World
world_left world state clients = record world {
  persist = state.persist;
  most = state.most;
  clients = clients;
  sessions = state.sessions;
  left = state.left;
  object_sequence = state.object_sequence;
  session_sequence = state.session_sequence;
}

-- the world's step is that of the open client
stepped : (world : World) (client place : ℕ) (command : List ℕ) (pick : Pick) (c : Client) → is_open_in world.clients client ≡ true
    → place ≡ place_in world.clients client → c ≡ get_or world.clients place c
    → plain_step world client command pick ≡ step_in world client (client_step c.number (state_with world c.objects) command pick)
unfolding plain_step
stepped world client place command pick c is at found =
    let clients = world.clients in
    let there : c ≡ get_or clients (place_in clients client) (new_client 0) = found_at clients client place c is at found in
    let number : client ≡ c.number = sym (ap (λ (d : Client). d.number) there ∙ number_at clients client is) in
    let table : table_in clients client ≡ c.objects = table_at clients client ∙ ap (λ (d : Client). d.objects) (sym there) in
    λ i. step_in world client (client_step (number i) (state_with world (table i)) command pick)

-- and what it leaves
left_world : (world : World) (client place : ℕ) (after : ClientState) (c e : Client) → is_open_in world.clients client ≡ true
    → place ≡ place_in world.clients client → c ≡ get_or world.clients place c → e.number ≡ c.number → after.objects ≡ e.objects
    → world_with_state world client after ≡ world_left world after (set world.clients place e)
left_world world client place after c e is at found same held =
    let clients = world.clients in
    let there : c ≡ get_or clients (place_in clients client) (new_client 0) = found_at clients client place c is at found in
    let set_there : with_table client after.objects clients ≡ set clients place e =
    ap (λ (objects : List (Option Object)). with_table client objects clients) held
    ∙ with_table_at clients client e (same ∙ ap (λ (d : Client). d.number) there) ∙ ap (λ (n : ℕ). set clients n e) (sym at) in
    ap (world_left world after) set_there

still_some : (world : World) (client : ℕ) (step : Option ClientStep) → is_some step ≡ true → is_some (step_in world client step) ≡ true
still_some world client None is = absurd cc
still_some world client (Some step) is = refl

ran_in : {A : Type 0} (result : Result A StepError) (world : World) (client : ℕ) (step : Option ClientStep) (after : ClientStep) (left : World × List ℕ)
    → (world_with_state world client after.0, after.1) ≡ left → StepRan result step after → StepRan result (step_in world client step) left
ran_in (Ok done) world client step after left is ran =
    ap (λ (s : Option ClientStep). step_in world client s) ran ∙ ap (λ (w : World × List ℕ). Some w) is
ran_in (Err PickRefused) world client step after left is ran = ap (λ (s : Option ClientStep). step_in world client s) ran
ran_in (Err Memory) world client step after left is ran = still_some world client step ran

-- what comes of a command of an open client
pub ran_of : {A : Type 0} (result : Result A StepError) (world : World) (client place : ℕ) (command : List ℕ) (pick : Pick) (after : ClientState)
    (c e : Client) (reply : List ℕ) → is_open_in world.clients client ≡ true → place ≡ place_in world.clients client
    → c ≡ get_or world.clients place c → e.number ≡ c.number → after.objects ≡ e.objects
    → StepRan result (client_step c.number (state_with world c.objects) command pick) (after, reply)
    → StepRan result (plain_step world client command pick) (world_left world after (set world.clients place e), reply)
ran_of result world client place command pick after c e reply is at found same held ran =
    let left : World = world_left world after (set world.clients place e) in
    subst (λ (step : Option (World × List ℕ)). StepRan result step (left, reply)) (sym (stepped world client place command pick c is at found))
    (ran_in result world client (client_step c.number (state_with world c.objects) command pick) (after, reply) (left, reply)
    (ap (λ (w : World). let step : World × List ℕ = (w, reply) in step) (left_world world client place after c e is at found same held)) ran)

-- ---- what a call tells of it

pub told_ok : {A S : Type 0} (result : Result A StepError) (step : Option S) (after : S) → StepRan result step after → OnOk result (step ≡ Some after)
told_ok (Ok done) step after ran = ran
told_ok (Err error) step after ran = tt

not_both : {S : Type 0} (step : Option S) → is_some step ≡ true → step ≡ None → ⊥
not_both None some none = absurd cc
not_both (Some s) some none = absurd cc

pub told_refused : {A S : Type 0} (result : Result A StepError) (step : Option S) (after : S) → StepRan result step after
    → (result ≡ Err PickRefused) ↔ (step ≡ None)
told_refused {A} {S} (Ok done) step after ran =
    ((λ is. absurd cc), (λ none. absurd (not_both step (ap (λ (s : Option S). is_some s) ran) none)))
told_refused {A} {S} (Err PickRefused) step after ran = ((λ is. ran), (λ none. refl))
told_refused {A} {S} (Err Memory) step after ran = ((λ is. absurd cc), (λ none. absurd (not_both step ran none)))
