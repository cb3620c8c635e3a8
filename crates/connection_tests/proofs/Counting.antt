-- The counts of the tests' value, after one more entry.
use Rattle.std.proofs.Common.{◌≡◌, ℕ, ◌+◌, ◌-◌, ◌*◌, ◌^◌, ◌<◌, ◌≤◌, Bool, true, false, cond, eqb, List, [], ◌∷◌, ◌++◌, length, map, Some, None, refl, sym, ap, ◌∙◌, subst, arith, length-append, inl}
use Rattle.std.specs.Prelude.{◌==◌, ◌||◌, not}
use Rattle.std.specs.Str.{bytes_eq}
use Rattle.std.proofs.lemmas.Slice.Eq.{bytes_eq-Decides}
use Rattle.std.specs.List.{list_any}
use Rattle.std.proofs.lemmas.List.{map_push}
use Rattle.std.proofs.lemmas.List.Sums.{sum_by_push}
use Rattle.tab_spec.specs.declared.TheConstants.{RC_CANCELED}
use Rattle.tab_spec.specs.Reply.{error_reply}
use Rattle.tab_spec.specs.declared.contexts.TheConstants.{PROFILE_CONTEXTS}
use Rattle.history_spec.specs.declared.EntryKind.TheVariants.{Open, Command, Canceled, Close}
use Rattle.history_spec.specs.Entry.{Clients, Entry, HasRoomForClient, canceled_entry, clients_of, command_entry, kept_by, reserved, without, IsOpen}
use Rattle.history_spec.specs.declared.Pick.TheVariants.{Nothing}
use Rattle.broker_lock.specs.Serves.{IsEntered, IsEnteredCanceled}
use Rattle.connection_tests.specs.Book.{BookView, IsCounted, answer, asked, book_entry}
use Rattle.broker_lock.proofs.Orderly.{clients_of-push}

length-without : (n : ℕ) (ms : List ℕ) → list_any (λ (m : ℕ). m == n) ms ≡ true → length (without n ms) + 1 ≡ length ms
length-without n [] e = absurd cc
length-without n (m ∷ ms) e =
    elim (eqb m n) as (λ b. (b || list_any (λ (k : ℕ). k == n) ms) ≡ true → length (cond b ms (m ∷ without n ms)) + 1 ≡ length (m ∷ ms)) [
      | true ↦ λ _. omega arith
      | false ↦ λ h. omega (arith, length-without n ms h)
    ] e

pub counted_at_first : (limit : ℕ) → IsCounted [] 0 0 0 limit
counted_at_first limit = record { opened_is = refl; present_is = refl; kept_is = refl; fewer = omega arith; within = omega arith }

pub counted_open : (h : List Entry) (opened present bytes limit : ℕ) → IsCounted h opened present bytes limit → bytes + 64 * present + 128 ≤ limit
    → IsCounted (h ++ book_entry opened 0 Open None ∷ []) (opened + 1) (present + 1) (bytes + 64) limit
counted_open h opened present bytes limit c room =
    let now = clients_of-push h (book_entry opened 0 Open None) in record {
      opened_is = ap (λ (n : ℕ). n + 1) c.opened_is ∙ ap (λ (k : Clients). k.opened) (sym now);
      present_is = omega (arith, c.present_is, ap (λ (k : Clients). length k.present) now, length-append (clients_of h).present (opened ∷ []));
      kept_is = omega (arith, c.kept_is, sum_by_push kept_by h (book_entry opened 0 Open None));
      fewer = omega (arith, c.fewer);
      within = omega (arith, c.within);
    }

pub counted_command : (h : List Entry) (opened present bytes limit client number : ℕ) (place : ℕ) → IsCounted h opened present bytes limit → bytes + 64 * present + 96 ≤ limit
    → IsCounted (h ++ book_entry client number Command (Some place) ∷ []) opened present (bytes + 96) limit
counted_command h opened present bytes limit client number place c room =
    let now = clients_of-push h (book_entry client number Command (Some place)) in record {
      opened_is = c.opened_is ∙ ap (λ (k : Clients). k.opened) (sym now);
      present_is = c.present_is ∙ ap (λ (k : Clients). length k.present) (sym now);
      kept_is = omega (arith, c.kept_is, sum_by_push kept_by h (book_entry client number Command (Some place)));
      fewer = omega (arith, c.fewer);
      within = omega (arith, c.within);
    }

-- a header alone has ten bytes
ten_bytes : length (error_reply RC_CANCELED) ≡ 10
ten_bytes = refl

pub counted_canceled : (h : List Entry) (opened present bytes limit client number upto place : ℕ) → IsCounted h opened present bytes limit → bytes + 64 * present + 86 ≤ limit
    → IsCounted (h ++ book_entry client number (Canceled upto) (Some place) ∷ []) opened present (bytes + 86) limit
counted_canceled h opened present bytes limit client number upto place c room =
    let now = clients_of-push h (book_entry client number (Canceled upto) (Some place)) in record {
      opened_is = c.opened_is ∙ ap (λ (k : Clients). k.opened) (sym now);
      present_is = c.present_is ∙ ap (λ (k : Clients). length k.present) (sym now);
      kept_is = omega (arith, c.kept_is, sum_by_push kept_by h (book_entry client number (Canceled upto) (Some place)), ten_bytes);
      fewer = omega (arith, c.fewer);
      within = omega (arith, c.within);
    }

pub counted_close : (h : List Entry) (opened present bytes limit client : ℕ) → IsCounted h opened present bytes limit → IsOpen h client
    → IsCounted (h ++ book_entry client 0 Close None ∷ []) opened (present - 1) (bytes + 64) limit
counted_close h opened present bytes limit client c open_now =
    let now = clients_of-push h (book_entry client 0 Close None) in
    let fewer_open = length-without client (clients_of h).present open_now in record {
      opened_is = c.opened_is ∙ ap (λ (k : Clients). k.opened) (sym now);
      present_is = omega (arith, c.present_is, ap (λ (k : Clients). length k.present) now, fewer_open);
      kept_is = omega (arith, c.kept_is, sum_by_push kept_by h (book_entry client 0 Close None));
      fewer = omega (arith, c.fewer);
      within = omega (arith, c.within, c.present_is, fewer_open);
    }

-- who is open is counted
pub some_present : (h : List Entry) (opened present bytes limit client : ℕ) → IsCounted h opened present bytes limit → IsOpen h client → 1 ≤ present
some_present h opened present bytes limit client c open_now = omega (arith, c.present_is, length-without client (clients_of h).present open_now)

-- what is reserved
pub reserved_is : (h : List Entry) (opened present bytes limit : ℕ) → IsCounted h opened present bytes limit → reserved h ≡ bytes + 64 * present
reserved_is h opened present bytes limit c = omega (arith, c.kept_is, c.present_is)

-- whether there is room for another client
pub room_for_client : (h : List Entry) (opened present bytes limit : ℕ) → IsCounted h opened present bytes limit → bytes + 64 * present + 128 ≤ limit → limit < 2 ^ 32 → HasRoomForClient limit h
room_for_client h opened present bytes limit c room small =
    record { bytes = omega (arith, reserved_is h opened present bytes limit c, room); number = omega (arith, c.opened_is, c.fewer, room, small) }

pub no_room_for_client : (h : List Entry) (opened present bytes limit : ℕ) → IsCounted h opened present bytes limit → limit < bytes + 64 * present + 128 → HasRoomForClient limit h → ⊥
no_room_for_client h opened present bytes limit c lacks has = absurd (omega (arith, reserved_is h opened present bytes limit c, lacks, has.bytes))

-- ---- a list of items, one of which was pushed

pub counted_with : {X : Type 0} (f : X → Entry) (old between new : List X) (x : X) (opened present bytes limit : ℕ) → new ≡ between ++ x ∷ [] → between ≡ old
    → IsCounted (map f old ++ f x ∷ []) opened present bytes limit → IsCounted (map f new) opened present bytes limit
counted_with f old between new x opened present bytes limit pushed same counted =
    subst (λ (l : List Entry). IsCounted l opened present bytes limit) (sym (ap (map f) (pushed ∙ ap (λ l. l ++ x ∷ []) same) ∙ map_push f old x)) counted

-- a command that isn't refused is the one that is known
pub is_asked : (refused : Bool) (bytes known : List ℕ) → refused ≡ not (bytes_eq bytes known) → refused ≡ false → known ≡ asked → bytes ≡ asked
is_asked refused bytes known is passes same = (bytes_eq-Decides bytes known).0 (not_not (bytes_eq bytes known) (sym is ∙ passes)) ∙ same
  where
    not_not : (b : Bool) → not b ≡ false → b ≡ true
    not_not true e = refl
    not_not false e = absurd cc

-- the command is entered with the place that it is answered with
pub entered_as : {X : Type 0} (f : X → Entry) (view : BookView) (bad : Bool) (old between new : List X) (x : X) (opened present bytes limit client number place : ℕ) (command reply : List ℕ)
    → new ≡ between ++ x ∷ [] → between ≡ old → record { entries = map f old; limit = limit; wrong = bad } ≡ view → f x ≡ book_entry client number Command (Some place) → command ≡ asked → reply ≡ answer place
    → IsCounted (map f old) opened present bytes limit → bytes + 64 * present + 4172 ≤ limit
    → IsEntered (record { base = None; limit = view.limit; began = 0; contexts = PROFILE_CONTEXTS }) view.entries (map f new) client number command reply
entered_as f view bad old between new x opened present bytes limit client number place command reply pushed same is entry command_is reply_is counted room =
    subst (λ (v : BookView). IsEntered (record { base = None; limit = v.limit; began = 0; contexts = PROFILE_CONTEXTS }) v.entries (map f new) client number command reply) is (record {
      e = book_entry client number Command (Some place);
      entered = ap (map f) (pushed ∙ ap (λ l. l ++ x ∷ []) same) ∙ map_push f old x ∙ ap (λ (e : Entry). map f old ++ e ∷ []) entry;
      cause = inl (ap (λ (c : List ℕ). command_entry client number Nothing c (answer place)) (sym command_is));
      reply_is = reply_is;
      room = omega (arith, reserved_is (map f old) opened present bytes limit counted, room, ap length command_is);
    })

-- the command is entered as a canceled one
pub canceled_as : {X : Type 0} (f : X → Entry) (view : BookView) (bad : Bool) (old between new : List X) (x : X) (opened present bytes limit client number upto place : ℕ) (command reply : List ℕ)
    → new ≡ between ++ x ∷ [] → between ≡ old → record { entries = map f old; limit = limit; wrong = bad } ≡ view → f x ≡ book_entry client number (Canceled upto) (Some place) → command ≡ asked → reply ≡ error_reply RC_CANCELED
    → IsCounted (map f old) opened present bytes limit → bytes + 64 * present + 4172 ≤ limit
    → IsEnteredCanceled view.limit view.entries (map f new) client number upto command reply
canceled_as f view bad old between new x opened present bytes limit client number upto place command reply pushed same is entry command_is reply_is counted room =
    subst (λ (v : BookView). IsEnteredCanceled v.limit v.entries (map f new) client number upto command reply) is (record {
      entered = ap (map f) (pushed ∙ ap (λ l. l ++ x ∷ []) same) ∙ map_push f old x ∙ ap (λ (e : Entry). map f old ++ e ∷ []) entry
          ∙ (λ i. map f old ++ canceled_entry client number upto (sym command_is i) (sym reply_is i) ∷ []);
      reply_is = reply_is;
      room = omega (arith, reserved_is (map f old) opened present bytes limit counted, room, ap length command_is);
    })
