-- Which clients a history leaves open, by each client's own entries.
use Rattle.std.proofs.Common.{◌≡◌, ◌+◌, ◌-◌, ℕ, Bool, true, false, cond, true≢false, List, [], ◌∷◌, refl, sym, ap, ◌∙◌, arith}
use Rattle.std.specs.Prelude.{◌==◌}
use Rattle.std.specs.List.{count_by}
use Rattle.std.proofs.lemmas.Bool.{eq-eqb, eqb-true}
use Rattle.std.proofs.lemmas.List.Sums.{sum_by_push}
use Rattle.history_spec.specs.declared.EntryKind.{EntryKind}
use Rattle.history_spec.specs.declared.EntryKind.TheVariants.{Open, Command, Canceled, Fault, Close}
use Rattle.history_spec.specs.Entry.{Clients, Entry, clients_by, clients_from, clients_of, own, present_by, without}
use Rattle.history_laws.proofs.Counts.{count_cons, one_false, one_if, one_true}

-- how often a client stands in a list
abbrev pub times : ℕ → List ℕ → ℕ
times client clients = count_by (λ (n : ℕ). n == client) clients

-- how often it stands among the open ones after one more entry of its own
abbrev pub times_by : EntryKind → ℕ → ℕ
times_by Open count = count + 1
times_by Command count = count
times_by (Canceled upto) count = count
times_by Fault count = count
times_by Close count = count - 1

-- and after all of these
abbrev pub times_after : ℕ → List Entry → ℕ
times_after count [] = count
times_after count (e ∷ entries) = times_after (times_by e.kind count) entries

-- ---- one entry

without_this_by : (here : Bool) (client n : ℕ) (clients : List ℕ) → (n == client) ≡ here
    → times client (without client clients) ≡ times client clients - 1
    → times client (cond here clients (n ∷ without client clients)) ≡ one_if here + times client clients - 1
without_this_by true client n clients is rest = omega arith
without_this_by false client n clients is rest =
    omega (arith, rest, count_cons (λ (m : ℕ). m == client) n (without client clients), one_false (n == client) is)

without_this : (client : ℕ) (clients : List ℕ) → times client (without client clients) ≡ times client clients - 1
without_this client [] = refl
without_this client (n ∷ clients) =
    without_this_by (n == client) client n clients refl (without_this client clients)
    ∙ ap (λ (k : ℕ). k - 1) (sym (count_cons (λ (m : ℕ). m == client) n clients))

apart_by : (client other : ℕ) → (other == client) ≡ false → (n : ℕ) → (n == other) ≡ true → (b : Bool) → (n == client) ≡ b → b ≡ false
apart_by client other apart n is false here = refl
apart_by client other apart n is true here =
    absurd (true≢false (sym (eq-eqb other client (sym (eqb-true n other is) ∙ eqb-true n client here)) ∙ apart))

without_other_by : (here : Bool) (client other n : ℕ) (clients : List ℕ) → (other == client) ≡ false → (n == other) ≡ here
    → times client (without other clients) ≡ times client clients
    → times client (cond here clients (n ∷ without other clients)) ≡ times client (n ∷ clients)
without_other_by true client other n clients apart is rest =
    omega (arith, count_cons (λ (m : ℕ). m == client) n clients, one_false (n == client) (apart_by client other apart n is (n == client) refl))
without_other_by false client other n clients apart is rest =
    omega (arith, rest, count_cons (λ (m : ℕ). m == client) n clients, count_cons (λ (m : ℕ). m == client) n (without other clients))

without_other : (client other : ℕ) (clients : List ℕ) → (other == client) ≡ false → times client (without other clients) ≡ times client clients
without_other client other [] apart = refl
without_other client other (n ∷ clients) apart =
    without_other_by (n == other) client other n clients apart refl (without_other client other clients apart)

own_entry : (kind : EntryKind) (client other : ℕ) (clients : List ℕ) → (other == client) ≡ true
    → times client (present_by kind other clients) ≡ times_by kind (times client clients)
own_entry Open client other clients is =
    omega (arith, sum_by_push (λ (n : ℕ). one_if (n == client)) clients other, one_true (other == client) is)
own_entry Command client other clients is = refl
own_entry (Canceled upto) client other clients is = refl
own_entry Fault client other clients is = refl
own_entry Close client other clients is =
    ap (λ (n : ℕ). times client (without n clients)) (eqb-true other client is) ∙ without_this client clients

other_entry : (kind : EntryKind) (client other : ℕ) (clients : List ℕ) → (other == client) ≡ false
    → times client (present_by kind other clients) ≡ times client clients
other_entry Open client other clients apart =
    omega (arith, sum_by_push (λ (n : ℕ). one_if (n == client)) clients other, one_false (other == client) apart)
other_entry Command client other clients apart = refl
other_entry (Canceled upto) client other clients apart = refl
other_entry Fault client other clients apart = refl
other_entry Close client other clients apart = without_other client other clients apart

-- ---- all entries

times_from_by : (here : Bool) (client : ℕ) (clients : List ℕ) (e : Entry) (entries : List Entry) → (e.client == client) ≡ here
    → times_after (times client (present_by e.kind e.client clients)) entries ≡ times_after (times client clients) (cond here (e ∷ entries) entries)
times_from_by true client clients e entries is =
    ap (λ (n : ℕ). times_after n entries) (own_entry e.kind client e.client clients is)
times_from_by false client clients e entries is =
    ap (λ (n : ℕ). times_after n entries) (other_entry e.kind client e.client clients is)

times_from : (client : ℕ) (clients : Clients) (history : List Entry)
    → times client (clients_from clients history).present ≡ times_after (times client clients.present) (own history client)
times_from client clients [] = refl
times_from client clients (e ∷ history) =
    times_from client (clients_by clients e) history
    ∙ times_from_by (e.client == client) client clients.present e (own history client) refl

pub times_of : (client : ℕ) (history : List Entry) → times client (clients_of history).present ≡ times_after 0 (own history client)
times_of client history = times_from client (record { opened = 0; present = [] }) history

-- ---- nobody

pub nobody_left : (clients : List ℕ) → ((client : ℕ) → times client clients ≡ 0) → clients ≡ []
nobody_left [] none = refl
nobody_left (n ∷ clients) none =
    absurd (omega (arith, none n, count_cons (λ (m : ℕ). m == n) n clients, one_true (n == n) (eq-eqb n n refl)))
