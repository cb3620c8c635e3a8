-- The open clients of a history, by their numbers and with their tables.
use Rattle.std.proofs.Common.{◌≡◌, ◌+◌, ◌≤◌, ◌<◌, ℕ, Bool, true, false, cond, List, [], ◌∷◌, ◌++◌, Option, map, refl, ◌∙◌, ap, sym, arith}
use Rattle.std.specs.Prelude.{◌==◌, ◌||◌, Some, None, if◌then◌else◌}
use Rattle.std.specs.List.{AllByRecursion, count_by, list_any}
use Rattle.std.proofs.lemmas.Bool.{cond-false, cond-true, eqb-true, ne_eqb, or_from}
use Rattle.std.proofs.lemmas.List.Sums.{sum_by_push}
use Rattle.tab_spec.specs.Object.{Object}
use Rattle.tab_spec.specs.Persist.{Persist}
use Rattle.history_spec.specs.declared.EntryKind.{EntryKind}
use Rattle.history_spec.specs.declared.EntryKind.TheVariants.{Open, Command, Canceled, Fault, Close}
use Rattle.history_spec.specs.declared.Pick.{Pick}
use Rattle.history_spec.specs.Entry.{Clients, Entry, clients_by, clients_from, clients_of, opened_by, present_by, without}
use Rattle.world_spec.specs.World.{Client, ClientStep, World, after_step, client_step, empty_world, new_client, plain_step, state_in, step_in, table_in, with_table, without_client, world_after, world_by, world_from, world_of}
use Rattle.history_laws.proofs.Counts.{count_cons, list_none, one_false, one_if}

-- ---- tables

nothing_by : (here : Bool) → (if here then (new_client 0).objects else (new_client 0).objects) ≡ (new_client 0).objects
nothing_by true = refl
nothing_by false = refl

pub opened_table : (clients : List Client) (number client : ℕ) → table_in (clients ++ new_client number ∷ []) client ≡ table_in clients client
opened_table [] number client = nothing_by (number == client)
opened_table (c ∷ clients) number client =
    ap (λ (rest : List (Option Object)). if c.number == client then c.objects else rest) (opened_table clients number client)

own_by : (here others : Bool) (c : Client) (clients later : List Client) (client : ℕ) (objects : List (Option Object)) → (c.number == client) ≡ here
    → (here || others) ≡ true → (others ≡ true → table_in later client ≡ objects)
    → table_in (if here then record c { objects = objects } ∷ clients else c ∷ later) client ≡ objects
own_by true others c clients later client objects is some rest = cond-true (c.number == client) objects (table_in clients client) is
own_by false others c clients later client objects is some rest =
    cond-false (c.number == client) c.objects (table_in later client) is ∙ rest some

pub own_table : (clients : List Client) (client : ℕ) (objects : List (Option Object)) → list_any (λ (c : Client). c.number == client) clients ≡ true
    → table_in (with_table client objects clients) client ≡ objects
own_table [] client objects some = absurd cc
own_table (c ∷ clients) client objects some =
    own_by (c.number == client) (list_any (λ (d : Client). d.number == client) clients) c clients (with_table client objects clients) client objects refl
    some (own_table clients client objects)

-- one number isn't two
pub apart_from : (n client other : ℕ) → (n == client) ≡ true → (client == other) ≡ false → (n == other) ≡ false
apart_from n client other is apart = ap (λ (k : ℕ). k == other) (eqb-true n client is) ∙ apart

other_by : (here : Bool) (c : Client) (clients later : List Client) (client other : ℕ) (objects : List (Option Object)) → (c.number == client) ≡ here
    → (client == other) ≡ false → table_in later other ≡ table_in clients other
    → table_in (if here then record c { objects = objects } ∷ clients else c ∷ later) other ≡ table_in (c ∷ clients) other
other_by true c clients later client other objects is apart rest =
    let not_other : (c.number == other) ≡ false = apart_from c.number client other is apart in
    cond-false (c.number == other) objects (table_in clients other) not_other
    ∙ sym (cond-false (c.number == other) c.objects (table_in clients other) not_other)
other_by false c clients later client other objects is apart rest =
    ap (λ (after : List (Option Object)). if c.number == other then c.objects else after) rest

pub other_table : (clients : List Client) (client other : ℕ) (objects : List (Option Object)) → (client == other) ≡ false
    → table_in (with_table client objects clients) other ≡ table_in clients other
other_table [] client other objects apart = refl
other_table (c ∷ clients) client other objects apart =
    other_by (c.number == client) c clients (with_table client objects clients) client other objects refl apart
    (other_table clients client other objects apart)

other_without_by : (here : Bool) (c : Client) (clients later : List Client) (client other : ℕ) → (c.number == client) ≡ here
    → (client == other) ≡ false → table_in later other ≡ table_in clients other
    → table_in (if here then clients else c ∷ later) other ≡ table_in (c ∷ clients) other
other_without_by true c clients later client other is apart rest =
    sym (cond-false (c.number == other) c.objects (table_in clients other) (apart_from c.number client other is apart))
other_without_by false c clients later client other is apart rest =
    ap (λ (after : List (Option Object)). if c.number == other then c.objects else after) rest

pub other_without : (clients : List Client) (client other : ℕ) → (client == other) ≡ false
    → table_in (without_client client clients) other ≡ table_in clients other
other_without [] client other apart = refl
other_without (c ∷ clients) client other apart =
    other_without_by (c.number == client) c clients (without_client client clients) client other refl apart (other_without clients client other apart)

-- who isn't open has no table
no_table_by : (here : Bool) (c : Client) (clients : List Client) (client : ℕ) → (c.number == client) ≡ here
    → one_if here + count_by (λ (d : Client). d.number == client) clients ≡ 0
    → (count_by (λ (d : Client). d.number == client) clients ≡ 0 → table_in clients client ≡ [])
    → table_in (c ∷ clients) client ≡ []
no_table_by true c clients client is none rest = absurd (omega arith)
no_table_by false c clients client is none rest =
    cond-false (c.number == client) c.objects (table_in clients client) is ∙ rest (omega arith)

pub no_table : (clients : List Client) (client : ℕ) → count_by (λ (c : Client). c.number == client) clients ≡ 0 → table_in clients client ≡ []
no_table [] client none = refl
no_table (c ∷ clients) client none =
    no_table_by (c.number == client) c clients client refl (omega (arith, count_cons (λ (d : Client). d.number == client) c clients))
    (no_table clients client)

own_without_by : (here : Bool) (c : Client) (clients later : List Client) (client : ℕ) → (c.number == client) ≡ here
    → one_if here + count_by (λ (d : Client). d.number == client) clients ≤ 1
    → (count_by (λ (d : Client). d.number == client) clients ≤ 1 → table_in later client ≡ [])
    → table_in (if here then clients else c ∷ later) client ≡ []
own_without_by true c clients later client is once rest = no_table clients client (omega arith)
own_without_by false c clients later client is once rest =
    cond-false (c.number == client) c.objects (table_in later client) is ∙ rest (omega arith)

pub own_without : (clients : List Client) (client : ℕ) → count_by (λ (c : Client). c.number == client) clients ≤ 1
    → table_in (without_client client clients) client ≡ []
own_without [] client once = refl
own_without (c ∷ clients) client once =
    own_without_by (c.number == client) c clients (without_client client clients) client refl
    (omega (arith, count_cons (λ (d : Client). d.number == client) c clients)) (own_without clients client)

-- ---- numbers

count_without_by : (here : Bool) (n m k : ℕ) (ms : List ℕ)
    → count_by (λ (i : ℕ). i == m) (without n ms) ≤ count_by (λ (i : ℕ). i == m) ms
    → count_by (λ (i : ℕ). i == m) (if here then ms else k ∷ without n ms) ≤ count_by (λ (i : ℕ). i == m) (k ∷ ms)
count_without_by true n m k ms rest = omega (arith, count_cons (λ (i : ℕ). i == m) k ms)
count_without_by false n m k ms rest =
    omega (arith, rest, count_cons (λ (i : ℕ). i == m) k ms, count_cons (λ (i : ℕ). i == m) k (without n ms))

pub count_without : (n m : ℕ) (ms : List ℕ) → count_by (λ (k : ℕ). k == m) (without n ms) ≤ count_by (λ (k : ℕ). k == m) ms
count_without n m [] = omega arith
count_without n m (k ∷ ms) = count_without_by (k == n) n m k ms (count_without n m ms)

gone_by : (here : Bool) (n k : ℕ) (ms : List ℕ) → (k == n) ≡ here → one_if here + count_by (λ (i : ℕ). i == n) ms ≤ 1
    → (count_by (λ (i : ℕ). i == n) ms ≤ 1 → list_any (λ (i : ℕ). i == n) (without n ms) ≡ false)
    → list_any (λ (i : ℕ). i == n) (if here then ms else k ∷ without n ms) ≡ false
gone_by true n k ms is once rest = list_none (λ (i : ℕ). i == n) ms (omega arith)
gone_by false n k ms is once rest = or_from (k == n) (list_any (λ (i : ℕ). i == n) (without n ms)) is (rest (omega arith))

pub gone : (n : ℕ) (ms : List ℕ) → count_by (λ (k : ℕ). k == n) ms ≤ 1 → list_any (λ (k : ℕ). k == n) (without n ms) ≡ false
gone n [] once = refl
gone n (k ∷ ms) once = gone_by (k == n) n k ms refl (omega (arith, count_cons (λ (i : ℕ). i == n) k ms)) (gone n ms)

stay_by : (here : Bool) (n m k : ℕ) (ms : List ℕ) → (k == n) ≡ here → (n == m) ≡ false
    → list_any (λ (i : ℕ). i == m) (without n ms) ≡ list_any (λ (i : ℕ). i == m) ms
    → list_any (λ (i : ℕ). i == m) (if here then ms else k ∷ without n ms) ≡ list_any (λ (i : ℕ). i == m) (k ∷ ms)
stay_by true n m k ms is apart rest = sym (ap (λ (b : Bool). b || list_any (λ (i : ℕ). i == m) ms) (apart_from k n m is apart))
stay_by false n m k ms is apart rest = ap (λ (b : Bool). k == m || b) rest

pub stay : (n m : ℕ) (ms : List ℕ) → (n == m) ≡ false → list_any (λ (k : ℕ). k == m) (without n ms) ≡ list_any (λ (k : ℕ). k == m) ms
stay n m [] apart = refl
stay n m (k ∷ ms) apart = stay_by (k == n) n m k ms refl apart (stay n m ms apart)

pub new : (opened : ℕ) (ms : List ℕ) → AllByRecursion (λ (k : ℕ). k < opened) ms → count_by (λ (k : ℕ). k == opened) ms ≡ 0
new opened [] all = refl
new opened (k ∷ ms) all =
    let here : (k == opened) ≡ false = ne_eqb k opened (λ e. omega (arith, all.0, e)) in
    omega (arith, count_cons (λ (i : ℕ). i == opened) k ms, one_false (k == opened) here, new opened ms all.1)

pub pushed : (n m : ℕ) (ms : List ℕ) → count_by (λ (k : ℕ). k == m) (ms ++ n ∷ []) ≡ count_by (λ (k : ℕ). k == m) ms + cond (n == m) 1 0
pushed n m ms = sum_by_push (λ (k : ℕ). cond (k == m) 1 0) ms n

-- ---- a world and the clients of one history

abbrev pub numbers : List Client → List ℕ
numbers clients = map (λ (c : Client). c.number) clients

numbers_opened : (clients : List Client) (number : ℕ) → numbers (clients ++ new_client number ∷ []) ≡ numbers clients ++ number ∷ []
numbers_opened [] number = refl
numbers_opened (c ∷ clients) number = ap (λ (rest : List ℕ). c.number ∷ rest) (numbers_opened clients number)

numbers_with_by : (here : Bool) (c : Client) (objects : List (Option Object)) (clients later : List Client) → numbers later ≡ numbers clients
    → numbers (if here then record c { objects = objects } ∷ clients else c ∷ later) ≡ numbers (c ∷ clients)
numbers_with_by true c objects clients later rest = refl
numbers_with_by false c objects clients later rest = ap (λ (after : List ℕ). c.number ∷ after) rest

numbers_with : (clients : List Client) (client : ℕ) (objects : List (Option Object)) → numbers (with_table client objects clients) ≡ numbers clients
numbers_with [] client objects = refl
numbers_with (c ∷ clients) client objects =
    numbers_with_by (c.number == client) c objects clients (with_table client objects clients) (numbers_with clients client objects)

numbers_without_by : (here : Bool) (c : Client) (clients later : List Client) (rest : List ℕ) → numbers later ≡ rest
    → numbers (if here then clients else c ∷ later) ≡ (if here then numbers clients else c.number ∷ rest)
numbers_without_by true c clients later rest is = refl
numbers_without_by false c clients later rest is = ap (λ (after : List ℕ). c.number ∷ after) is

numbers_without : (clients : List Client) (client : ℕ) → numbers (without_client client clients) ≡ without client (numbers clients)
numbers_without [] client = refl
numbers_without (c ∷ clients) client =
    numbers_without_by (c.number == client) c clients (without_client client clients) (without client (numbers clients))
    (numbers_without clients client)

record Agrees (world : World) (clients : Clients) : Type 0 where
  opened : world.opened ≡ clients.opened
  present : numbers world.clients ≡ clients.present

agrees_left : (world : World) (clients : Clients) (client : ℕ) (step : Option ClientStep) → Agrees world clients
    → Agrees (after_step world (step_in world client step)) clients
agrees_left world clients client None agrees = agrees
agrees_left world clients client (Some step) agrees =
    record { opened = agrees.opened; present = numbers_with world.clients client step.0.objects ∙ agrees.present }

agrees_stepped : (world : World) (clients : Clients) (client : ℕ) (command : List ℕ) (pick : Pick) → Agrees world clients
    → Agrees (after_step world (plain_step world client command pick)) clients
unfolding plain_step
agrees_stepped world clients client command pick agrees =
    agrees_left world clients client (client_step client (state_in world client) command pick) agrees

agrees_by : (kind : EntryKind) (world : World) (clients : Clients) (e : Entry) → Agrees world clients
    → Agrees (world_after kind world e) (record { opened = opened_by kind clients.opened; present = present_by kind e.client clients.present })
agrees_by Open world clients e agrees = record {
  opened = ap (λ (n : ℕ). n + 1) agrees.opened;
  present = numbers_opened world.clients e.client ∙ ap (λ (ns : List ℕ). ns ++ e.client ∷ []) agrees.present;
}
agrees_by Command world clients e agrees = agrees_stepped world clients e.client e.command e.pick agrees
agrees_by (Canceled upto) world clients e agrees = agrees
agrees_by Fault world clients e agrees = agrees
agrees_by Close world clients e agrees = record {
  opened = agrees.opened;
  present = numbers_without world.clients e.client ∙ ap (λ (ns : List ℕ). without e.client ns) agrees.present;
}

agrees_from : (world : World) (clients : Clients) (history : List Entry) → Agrees world clients
    → Agrees (world_from world history) (clients_from clients history)
agrees_from world clients [] agrees = agrees
agrees_from world clients (e ∷ history) agrees =
    agrees_from (world_by world e) (clients_by clients e) history (agrees_by e.kind world clients e agrees)

agrees_of : (base : Persist) (most : ℕ) (history : List Entry) → Agrees (world_of base most history) (clients_of history)
agrees_of base most history =
    agrees_from (empty_world base most) (record { opened = 0; present = [] }) history (record { opened = refl; present = refl })

pub opened : (base : Persist) (most : ℕ) (history : List Entry) → (world_of base most history).opened ≡ (clients_of history).opened
opened base most history = (agrees_of base most history).opened

pub present : (base : Persist) (most : ℕ) (history : List Entry)
    → map (λ (c : Client). c.number) (world_of base most history).clients ≡ (clients_of history).present
present base most history = (agrees_of base most history).present

any_number : (clients : List Client) (client : ℕ)
    → list_any (λ (c : Client). c.number == client) clients ≡ list_any (λ (n : ℕ). n == client) (numbers clients)
any_number [] client = refl
any_number (c ∷ clients) client = ap (λ (b : Bool). c.number == client || b) (any_number clients client)

count_number : (clients : List Client) (client : ℕ)
    → count_by (λ (c : Client). c.number == client) clients ≡ count_by (λ (n : ℕ). n == client) (numbers clients)
count_number [] client = refl
count_number (c ∷ clients) client =
    omega (
      arith,
      count_cons (λ (d : Client). d.number == client) c clients,
      count_cons (λ (n : ℕ). n == client) c.number (numbers clients),
      count_number clients client,
    )

pub is_open : (base : Persist) (most : ℕ) (history : List Entry) (client : ℕ)
    → list_any (λ (c : Client). c.number == client) (world_of base most history).clients ≡ list_any (λ (n : ℕ). n == client) (clients_of history).present
is_open base most history client =
    any_number (world_of base most history).clients client
    ∙ ap (λ (ns : List ℕ). list_any (λ (n : ℕ). n == client) ns) (present base most history)

pub once : (base : Persist) (most : ℕ) (history : List Entry) (client : ℕ)
    → count_by (λ (c : Client). c.number == client) (world_of base most history).clients ≡ count_by (λ (n : ℕ). n == client) (clients_of history).present
once base most history client =
    count_number (world_of base most history).clients client
    ∙ ap (λ (ns : List ℕ). count_by (λ (n : ℕ). n == client) ns) (present base most history)
