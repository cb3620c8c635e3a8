-- Which clients are known by some entries, and what a history has of them.
use Rattle.std.proofs.Common.{◌≡◌, ◌⊎◌, ℕ, Bool, true, false, cond, true≢false, List, [], ◌∷◌, ◌++◌, length, refl, sym, ap, ◌∙◌, inl, inr, ⊎_elim, append_assoc, arith, length-append}
use Rattle.std.specs.Prelude.{◌==◌, ◌||◌}
use Rattle.std.specs.List.{filter, list_any}
use Rattle.std.proofs.lemmas.Bool.{eqb-true, eq-eqb}
use Rattle.std.proofs.lemmas.List.{append-nil}
use Rattle.std.proofs.lemmas.List.Elements.{filter-append}
use Rattle.std.proofs.lemmas.List.Folds.{list_any-append}
use mathlib.Core.Bool.{or-false}
use mathlib.Core.List.{IsPrefix}
use Rattle.history_spec.specs.Entry.{Entry, own}
use Rattle.broker_lock.specs.Known.{HasJustKnown, knows, of_known}

-- ---- filters

module _ {X : Type 0} where
  abbrev pub is_any : List X → Bool
  is_any [] = false
  is_any (x ∷ xs) = true

  pub by_test : (b : Bool) (x : X) (xs ys : List X) → xs ≡ ys → cond b (x ∷ xs) xs ≡ cond b (x ∷ ys) ys
  by_test b x xs ys e = λ i. cond b (x ∷ e i) (e i)

  any_by : (b : Bool) (x : X) (xs : List X) (rest : Bool) → rest ≡ is_any xs → (b || rest) ≡ is_any (cond b (x ∷ xs) xs)
  any_by true x xs rest e = refl
  any_by false x xs rest e = e

  list_any-filter : (p : X → Bool) (xs : List X) → list_any p xs ≡ is_any (filter p xs)
  list_any-filter p [] = refl
  list_any-filter p (x ∷ xs) = any_by (p x) x (filter p xs) (list_any p xs) (list_any-filter p xs)

  -- what passes a test passes a weaker one before it
  weaker_by : (p q : X → Bool) (b : Bool) (x : X) (xs : List X) → q x ≡ b → (p x ≡ true → q x ≡ true) → filter p (cond b (x ∷ xs) xs) ≡ cond (p x) (x ∷ filter p xs) (filter p xs)
  weaker_by p q true x xs is weaker = refl
  weaker_by p q false x xs is weaker = not_by (p x) (λ e. true≢false (sym (weaker e) ∙ is))
    where
      not_by : (c : Bool) → (c ≡ true → ⊥) → filter p xs ≡ cond c (x ∷ filter p xs) (filter p xs)
      not_by true differs = absurd (differs refl)
      not_by false differs = refl

  pub filter-weaker : (p q : X → Bool) → ((x : X) → p x ≡ true → q x ≡ true) → (xs : List X) → filter p (filter q xs) ≡ filter p xs
  filter-weaker p q weaker [] = refl
  filter-weaker p q weaker (x ∷ xs) =
      weaker_by p q (q x) x (filter q xs) refl (weaker x)
      ∙ by_test (p x) x (filter p (filter q xs)) (filter p xs) (filter-weaker p q weaker xs)

  none_by : (p q : X → Bool) (b : Bool) (x : X) (xs : List X) → q x ≡ b → (p x ≡ true → q x ≡ false) → filter p xs ≡ [] → filter p (cond b (x ∷ xs) xs) ≡ []
  none_by p q true x xs is apart rest = not_by (p x) (λ e. true≢false (sym is ∙ apart e))
    where
      not_by : (c : Bool) → (c ≡ true → ⊥) → cond c (x ∷ filter p xs) (filter p xs) ≡ []
      not_by true differs = absurd (differs refl)
      not_by false differs = rest
  none_by p q false x xs is apart rest = rest

  pub filter-apart : (p q : X → Bool) → ((x : X) → p x ≡ true → q x ≡ false) → (xs : List X) → filter p (filter q xs) ≡ []
  filter-apart p q apart [] = refl
  filter-apart p q apart (x ∷ xs) = none_by p q (q x) x (filter q xs) refl (apart x) (filter-apart p q apart xs)

-- ---- one client

pub same_is : (n : ℕ) → (n == n) ≡ true
same_is n = eq-eqb n n refl

-- what two histories have the same of a client tells both whether it is known
pub knows_same : (client : ℕ) (xs ys : List Entry) → own xs client ≡ own ys client → knows xs client ≡ knows ys client
knows_same client xs ys e =
    list_any-filter (λ (x : Entry). x.client == client) xs ∙ ap is_any e ∙ sym (list_any-filter (λ (x : Entry). x.client == client) ys)

pub knows-append : (client : ℕ) (xs ys : List Entry) → knows (xs ++ ys) client ≡ (knows xs client || knows ys client)
knows-append client xs ys = list_any-append (λ (x : Entry). x.client == client) xs ys

pub own-append : (client : ℕ) (xs ys : List Entry) → own (xs ++ ys) client ≡ own xs client ++ own ys client
own-append client xs ys = filter-append (λ (x : Entry). x.client == client) xs ys

pub own_none : (client : ℕ) (xs : List Entry) → knows xs client ≡ false → own xs client ≡ []
own_none client xs k = none (own xs client) (sym (list_any-filter (λ (x : Entry). x.client == client) xs) ∙ k)
  where
    none : (ys : List Entry) → is_any ys ≡ false → ys ≡ []
    none [] e = refl
    none (y ∷ ys) e = absurd (true≢false e)

pub knows_none : (client : ℕ) (xs : List Entry) → own xs client ≡ [] → knows xs client ≡ false
knows_none client xs e = list_any-filter (λ (x : Entry). x.client == client) xs ∙ ap is_any e

pub own_here : (client : ℕ) (x : Entry) (xs : List Entry) → x.client ≡ client → own (x ∷ xs) client ≡ x ∷ own xs client
own_here client x xs e =
    ap (λ (b : Bool). cond b (x ∷ own xs client) (own xs client)) (eq-eqb x.client client e)

-- what is there of a client stays where more comes
pub knows_left : (client : ℕ) (xs ys : List Entry) → knows xs client ≡ true → knows (xs ++ ys) client ≡ true
knows_left client xs ys k = knows-append client xs ys ∙ ap (λ (b : Bool). b || knows ys client) k

pub or_true : (b : Bool) → (b || true) ≡ true
or_true true = refl
or_true false = refl

pub knows_right : (client : ℕ) (xs ys : List Entry) → knows ys client ≡ true → knows (xs ++ ys) client ≡ true
knows_right client xs ys k =
    knows-append client xs ys ∙ ap (λ (b : Bool). knows xs client || b) k ∙ or_true (knows xs client)

or_cases : (a b : Bool) → (a || b) ≡ true → (a ≡ true) ⊎ (b ≡ true)
or_cases true b e = inl refl
or_cases false b e = inr e

pub knows_either : (client : ℕ) (xs ys : List Entry) → knows (xs ++ ys) client ≡ true → (knows xs client ≡ true) ⊎ (knows ys client ≡ true)
knows_either client xs ys k = or_cases (knows xs client) (knows ys client) (sym (knows-append client xs ys) ∙ k)

pub decided : (b : Bool) → (b ≡ true) ⊎ (b ≡ false)
decided true = inl refl
decided false = inr refl

-- who made one entry
pub knows_one : (client : ℕ) (e : Entry) → knows (e ∷ []) client ≡ true → e.client ≡ client
knows_one client e k =
    ⊎_elim (λ (t : (e.client == client) ≡ true). eqb-true e.client client t) (λ f. absurd (true≢false (sym f))) (or_cases (e.client == client) false k)

pub knows_its_own : (e : Entry) (es : List Entry) → knows (e ∷ es) e.client ≡ true
knows_its_own e es = ap (λ (b : Bool). b || knows es e.client) (same_is e.client)

-- ---- two histories

-- what is between two histories that have the same of a client has it too
pub nothing_more : {X : Type 0} (xs ys : List X) → xs ++ ys ≡ xs → ys ≡ []
nothing_more xs [] e = refl
nothing_more xs (y ∷ ys) e = absurd (omega (arith, ap length e, length-append xs (y ∷ ys)))

pub own_rest : (client : ℕ) (xs ys : List Entry) → own (xs ++ ys) client ≡ own xs client → own ys client ≡ []
own_rest client xs ys e = nothing_more (own xs client) (own ys client) (sym (own-append client xs ys) ∙ e)

pub own_between : (client : ℕ) (xs ys zs : List Entry) → IsPrefix xs ys → IsPrefix ys zs → own zs client ≡ own xs client → own ys client ≡ own xs client
own_between client xs ys zs one two e =
    let whole : own (xs ++ (one.0 ++ two.0)) client ≡ own xs client = ap (λ (l : List Entry). own l client) (sym (append_assoc xs one.0 two.0) ∙ ap (λ (l : List Entry). l ++ two.0) one.1 ∙ two.1) ∙ e in
    let none : own one.0 client ++ own two.0 client ≡ [] = sym (own-append client one.0 two.0) ∙ own_rest client xs (one.0 ++ two.0) whole in
    let first : own one.0 client ≡ [] = front_none (own one.0 client) (own two.0 client) none in
    ap (λ (l : List Entry). own l client) (sym one.1) ∙ own-append client xs one.0 ∙ ap (λ (l : List Entry). own xs client ++ l) first ∙ append-nil (own xs client)
  where
    front_none : (one other : List Entry) → one ++ other ≡ [] → one ≡ []
    front_none [] other n = refl
    front_none (a ∷ one) other n = absurd (omega (arith, ap length n))

pub own_left : (client : ℕ) (one other : List Entry) → knows other client ≡ false → own (one ++ other) client ≡ own one client
own_left client one other unknown =
    own-append client one other ∙ ap (λ (l : List Entry). own one client ++ l) (own_none client other unknown) ∙ append-nil (own one client)

pub own_right : (client : ℕ) (one other : List Entry) → knows one client ≡ false → own (one ++ other) client ≡ own other client
own_right client one other unknown =
    own-append client one other ∙ ap (λ (l : List Entry). l ++ own other client) (own_none client one unknown)

-- ---- the clients that are known

by_client : (known : List Entry) (client : ℕ) (x : Entry) → (x.client == client) ≡ true → knows known x.client ≡ knows known client
by_client known client x e = ap (knows known) (eqb-true x.client client e)

pub own_of_known : (known history : List Entry) (client : ℕ) → knows known client ≡ true → own (of_known known history) client ≡ own history client
own_of_known known history client k =
    filter-weaker (λ (x : Entry). x.client == client) (λ (x : Entry). knows known x.client) (λ x e. by_client known client x e ∙ k) history

pub none_of_known : (known history : List Entry) (client : ℕ) → knows known client ≡ false → own (of_known known history) client ≡ []
none_of_known known history client k =
    filter-apart (λ (x : Entry). x.client == client) (λ (x : Entry). knows known x.client) (λ x e. by_client known client x e ∙ k) history

-- where a history has the known entries of each client, what it has of all of them tells the same clients
pub knows_of_known : (known history : List Entry) → HasJustKnown known history → (client : ℕ) → knows (of_known known history) client ≡ knows known client
knows_of_known known history own_is client =
    ⊎_elim
    (λ (k : knows known client ≡ true). knows_same client (of_known known history) known (own_of_known known history client k ∙ own_is client k))
    (λ (k : knows known client ≡ false). knows_none client (of_known known history) (none_of_known known history client k) ∙ sym k)
    (decided (knows known client))

pub of_known-append : (known xs ys : List Entry) → of_known known (xs ++ ys) ≡ of_known known xs ++ of_known known ys
of_known-append known xs ys = filter-append (λ (x : Entry). knows known x.client) xs ys

-- a history without entries of known clients
pub of_known_none : (known xs : List Entry) → ((client : ℕ) → knows known client ≡ true → own xs client ≡ []) → of_known known xs ≡ []
of_known_none known [] none = refl
of_known_none known (x ∷ xs) none =
    ⊎_elim
    (λ (k : knows known x.client ≡ true). absurd (omega (arith, ap length (sym (own_here x.client x xs refl) ∙ none x.client k))))
    (λ (k : knows known x.client ≡ false). ap (λ (b : Bool). cond b (x ∷ of_known known xs) (of_known known xs)) k
    ∙ of_known_none known xs (λ client l. tail_none client x xs (none client l)))
    (decided (knows known x.client))
  where
    tail_by : (b : Bool) (e : Entry) (es : List Entry) → cond b (e ∷ es) es ≡ [] → es ≡ []
    tail_by true e es n = absurd (omega (arith, ap length n))
    tail_by false e es n = n

    tail_none : (client : ℕ) (e : Entry) (es : List Entry) → own (e ∷ es) client ≡ [] → own es client ≡ []
    tail_none client e es n = tail_by (e.client == client) e (own es client) n

-- a history that goes on without entries of known clients
pub of_known_stays : (known xs ys : List Entry) → IsPrefix xs ys → HasJustKnown known xs → HasJustKnown known ys → of_known known ys ≡ of_known known xs
of_known_stays known xs ys pre before after =
    ap (of_known known) (sym pre.1) ∙ of_known-append known xs pre.0
    ∙ ap (λ (l : List Entry). of_known known xs ++ l) (of_known_none known pre.0 (λ client k. own_rest client xs pre.0 (ap (λ (l : List Entry). own l client) pre.1 ∙ after client k ∙ sym (before client k))))
    ∙ append-nil (of_known known xs)

known_by : (known added : List Entry) (x : Entry) → (knows added x.client ≡ true → knows known x.client ≡ true) → knows (known ++ added) x.client ≡ knows known x.client
known_by known added x same =
    ⊎_elim
    (λ (k : knows added x.client ≡ true). knows_left x.client known added (same k) ∙ sym (same k))
    (λ (k : knows added x.client ≡ false). knows-append x.client known added ∙ ap (λ (b : Bool). knows known x.client || b) k ∙ or-false (knows known x.client))
    (decided (knows added x.client))

-- more entries add no client of this history, where those of its clients are known
pub of_known_more : (known added xs : List Entry) → ((client : ℕ) → knows xs client ≡ true → knows added client ≡ true → knows known client ≡ true)
    → of_known (known ++ added) xs ≡ of_known known xs
of_known_more known added [] same = refl
of_known_more known added (x ∷ xs) same =
    let rest = of_known_more known added xs (λ client k l. same client (ap (λ (b : Bool). x.client == client || b) k ∙ or_true (x.client == client)) l) in
    λ i. cond (known_by known added x (same x.client (knows_its_own x xs)) i) (x ∷ rest i) (rest i)

-- what is known in order is what the history has of each client
pub own_in_order : (known history : List Entry) → known ≡ of_known known history → HasJustKnown known history
own_in_order known history order client k = sym (ap (λ (l : List Entry). own l client) order ∙ own_of_known known history client k)

-- a history all of whose clients are known
pub of_known_all : (known history : List Entry) → ((client : ℕ) → knows history client ≡ true → knows known client ≡ true) → of_known known history ≡ history
of_known_all known [] all = refl
of_known_all known (x ∷ history) all =
    ap (λ (b : Bool). cond b (x ∷ of_known known history) (of_known known history)) (all x.client (knows_its_own x history))
    ∙ ap (λ (l : List Entry). x ∷ l) (of_known_all known history (λ client k. all client (ap (λ (b : Bool). x.client == client || b) k ∙ or_true (x.client == client))))
