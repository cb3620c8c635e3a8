-- What a push leaves of a journal's region.
use Rattle.std.proofs.Common.{◌≡◌, ◌∙◌, ◌≤◌, ◌+◌, ◌-◌, ℕ, List, [], ◌∷◌, ◌++◌, length, drop, map, ap, refl, arith, length-append, length-drop}
use Rattle.std.proofs.lemmas.List.{drop-append-le, take-append-le, append_assoc, map-append, drop_at, take_at, take_all}
use Rattle.std.proofs.lemmas.List.Elements.{All-head, All-tail, All-push, All-weaker}
use Rattle.std.proofs.lemmas.List.Sums.{sum_by_push}
use Rattle.std.specs.List.{All, between}
use Rattle.history_spec.specs.Entry.{Entry, kept, kept_by}
use Rattle.audit_journal.specs.declared.record.Record.{Record}
use Rattle.audit_journal.specs.Region.{HasKept, LiesIn, entry_of}

-- bytes that come behind leave a part as it was
between-append : (bytes more : List ℕ) (from to : ℕ) → from ≤ to → to ≤ length bytes → between from to (bytes ++ more) ≡ between from to bytes
between-append bytes more from to order inside =
    let rest : from ≤ length bytes = omega arith in
    let part : to - from ≤ length (drop from bytes) = omega (arith, length-drop from bytes) in
    rw (drop-append-le from bytes more rest, take-append-le (to - from) (drop from bytes) more part)

-- and a kept entry too
entry_of-append : (bytes more : List ℕ) (r : Record) → LiesIn (length bytes) r → entry_of (bytes ++ more) r ≡ entry_of bytes r
entry_of-append bytes more r lies =
    rw (between-append bytes more r.start r.middle lies.command (omega arith), between-append bytes more r.middle r.end lies.reply lies.inside)

-- nor do they change the other entries
pub map-entry_of-append : (bytes more : List ℕ) (records : List Record) → All (LiesIn (length bytes)) records → map (entry_of (bytes ++ more)) records ≡ map (entry_of bytes) records
map-entry_of-append bytes more [] each = refl
map-entry_of-append bytes more (r ∷ records) each =
    let head = entry_of-append bytes more r (All-head (LiesIn (length bytes)) r records each) in
    let tail = map-entry_of-append bytes more records (All-tail (LiesIn (length bytes)) r records each) in
    cc

-- a record whose bytes came last
pub record IsLast (bytes command reply : List ℕ) (r : Record) : Type 0 where
  pub start : r.start ≡ length bytes
  pub middle : r.middle ≡ length bytes + length command
  pub end : r.end ≡ length bytes + length command + length reply

-- the command and the reply that came last
command_is : (bytes command reply : List ℕ) (r : Record) → IsLast bytes command reply r → between r.start r.middle ((bytes ++ command) ++ reply) ≡ command
command_is bytes command reply r last =
    let n : r.middle - r.start ≡ length command = omega (arith, last.start, last.middle) in
    rw (append_assoc bytes command reply, last.start, drop_at bytes (command ++ reply) (length bytes) refl)
    (rw (← last.start, n, take_at command reply (length command) refl))

reply_is : (bytes command reply : List ℕ) (r : Record) → IsLast bytes command reply r → between r.middle r.end ((bytes ++ command) ++ reply) ≡ reply
reply_is bytes command reply r last =
    let front : length (bytes ++ command) ≡ r.middle = omega (arith, last.middle, length-append bytes command) in
    let all : length reply ≤ r.end - r.middle = omega (arith, last.middle, last.end) in
    rw (drop_at (bytes ++ command) reply r.middle front) (take_all (r.end - r.middle) reply all)

-- the entry that a record is of whose bytes came last
abbrev pub last_entry : Record → List ℕ → List ℕ → Entry
last_entry r command reply = record { client = r.client; number = r.number; kind = r.kind; pick = r.pick; faults = r.faults; command = command; reply = reply }

-- the entries after a push
pub map-entry_of-push : (bytes command reply : List ℕ) (records : List Record) (r : Record) → HasKept bytes records → IsLast bytes command reply r
    → map (entry_of ((bytes ++ command) ++ reply)) (records ++ r ∷ []) ≡ map (entry_of bytes) records ++ last_entry r command reply ∷ []
map-entry_of-push bytes command reply records r has last =
    let before : map (entry_of ((bytes ++ command) ++ reply)) records ≡ map (entry_of bytes) records =
    rw (append_assoc bytes command reply) (map-entry_of-append bytes (command ++ reply) records has.each) in
    let c = command_is bytes command reply r last in
    let p = reply_is bytes command reply r last in
    rw (map-append (entry_of ((bytes ++ command) ++ reply)) records (r ∷ []), before) (rw (c, p) refl)

-- what is kept after a push
pub kept_push : (bytes command reply : List ℕ) (records : List Record) (r : Record) → HasKept bytes records → IsLast bytes command reply r
    → HasKept ((bytes ++ command) ++ reply) (records ++ r ∷ [])
kept_push bytes command reply records r has last =
    let all = (bytes ++ command) ++ reply in
    let size : length all ≡ length bytes + length command + length reply = omega (arith, length-append (bytes ++ command) reply, length-append bytes command) in
    let wider : (x : Record) → LiesIn (length bytes) x → LiesIn (length all) x = λ x lies. record { command = lies.command; reply = lies.reply; inside = omega (arith, lies.inside) } in
    let last_lies : LiesIn (length all) r = record { command = omega (arith, last.start, last.middle); reply = omega (arith, last.middle, last.end); inside = omega (arith, last.end) } in
    let more : kept (map (entry_of all) (records ++ r ∷ [])) ≡ kept (map (entry_of bytes) records) + kept_by (last_entry r command reply) =
    ap kept (map-entry_of-push bytes command reply records r has last) ∙ sum_by_push kept_by (map (entry_of bytes) records) (last_entry r command reply) in
    record {
      each = All-push (LiesIn (length all)) records r (All-weaker (LiesIn (length bytes)) (LiesIn (length all)) wider records has.each) last_lies;
      kept_is = omega (arith, more, has.kept_is, size, length-append records (r ∷ []));
    }
