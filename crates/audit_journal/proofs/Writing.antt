-- Several writes, one after the other, and what a failed one leaves.
use Rattle.std.proofs.Common.{◌≡◌, ℕ, zero, suc, ◌+◌, ◌<◌, ◌≤◌, List, [], ◌∷◌, ◌++◌, length, take, drop, refl, sym, ◌∙◌, ap, arith, add-one, append_assoc, eqb-true, length-append, Bool, true, false}
use Rattle.std.specs.Prelude.{◌==◌, Option, None, Some, Result, Ok, Err}
use Rattle.std.proofs.Math.Seq.{take-append-add}
use Rattle.std.proofs.lemmas.List.{append-nil, nil_from_length, take-append-drop, take-append-le}
use Rattle.std.specs.Fmt.{decimal}
use Rattle.hex.specs.Hex.{encode_lower, encode_with}
use Rattle.history_spec.specs.Entry.{Entry}
use Rattle.history_spec.specs.AuditText.{audit_line, audit_text, bytes_word, kind_word, pick_word}
use Rattle.link_port.specs.Port.{with_more}
use Rattle.link_port.specs.declared.port.Failed.{Failed}
use Rattle.audit_journal.specs.Text.{WroteFrontOf, Writes, line_at}

-- a front of the bytes was written, the rest is to come, and no write failed
pub record FrontWritten (whole rest : List ℕ) (old now : Option (List ℕ)) (faults faults_now : ℕ) : Type 0 where
  pub front : List ℕ
  pub whole_is : whole ≡ front ++ rest
  pub written : now ≡ with_more old front
  pub quiet : faults_now ≡ faults

with_more-nil : (old : Option (List ℕ)) → old ≡ with_more old []
with_more-nil None = refl
with_more-nil (Some bytes) = ap Some (sym (append-nil bytes))

with_more-append : (old : Option (List ℕ)) (xs ys : List ℕ) → with_more (with_more old xs) ys ≡ with_more old (xs ++ ys)
with_more-append None xs ys = refl
with_more-append (Some bytes) xs ys = ap Some (append_assoc bytes xs ys)

-- before the first write
pub nothing_written : {whole rest : List ℕ} {old : Option (List ℕ)} {faults : ℕ} → whole ≡ rest → FrontWritten whole rest old old faults faults
nothing_written {old = old} is = record { front = []; whole_is = is; written = with_more-nil old; quiet = refl }

-- the rest in other words
pub rest_is : {whole rest rest' : List ℕ} {old now : Option (List ℕ)} {faults faults_now : ℕ}
    → rest ≡ rest' → FrontWritten whole rest old now faults faults_now → FrontWritten whole rest' old now faults faults_now
rest_is is before = record {
  front = before.front;
  whole_is = before.whole_is ∙ ap (λ (xs : List ℕ). before.front ++ xs) is;
  written = before.written;
  quiet = before.quiet;
}

-- one write more
pub wrote_more : {whole piece rest : List ℕ} {old now new : Option (List ℕ)} {faults faults_now faults_new : ℕ}
    → FrontWritten whole (piece ++ rest) old now faults faults_now → Writes (Ok tt) piece now new faults_now faults_new
    → FrontWritten whole rest old new faults faults_new
wrote_more {piece = piece} {rest = rest} {old = old} before more = record {
  front = before.front ++ piece;
  whole_is = before.whole_is ∙ sym (append_assoc before.front piece rest);
  written = more.ok ∙ ap (λ (w : Option (List ℕ)). with_more w piece) before.written ∙ with_more-append old before.front piece;
  quiet = more.quiet ∙ before.quiet;
}

-- the write that failed left a front of its piece, and so of the whole
front_after : (whole piece rest : List ℕ) (old now new : Option (List ℕ)) (faults faults_now : ℕ)
    → FrontWritten whole (piece ++ rest) old now faults faults_now → WroteFrontOf piece now new → WroteFrontOf whole old new
front_after whole piece rest old now new faults faults_now before cut =
    let k = cut.0 in
    let within : k ≤ length piece = omega (arith, cut.1) in
    let part : take (length before.front + k) whole ≡ before.front ++ take k piece =
    ap (take (length before.front + k)) before.whole_is ∙ take-append-add before.front (piece ++ rest) k
    ∙ ap (λ (xs : List ℕ). before.front ++ xs) (take-append-le k piece rest within) in (
      length before.front + k,
      omega (arith, cut.1, ap length before.whole_is, length-append before.front (piece ++ rest), length-append piece rest),
      cut.2 ∙ ap (λ (w : Option (List ℕ)). with_more w (take k piece)) before.written ∙ with_more-append old before.front (take k piece)
          ∙ ap (with_more old) (sym part),
    )

-- the whole ends with a write that failed
pub failed_in : {r : Result (Unit {0}) Failed} {e e' : Failed} {whole piece : List ℕ} (rest : List ℕ) {old now new : Option (List ℕ)} {faults faults_now faults_new : ℕ}
    → r ≡ Err e' → FrontWritten whole (piece ++ rest) old now faults faults_now → Writes (Err e) piece now new faults_now faults_new
    → Writes r whole old new faults faults_new
failed_in rest is before failed = rw is (record {
  ok = tt;
  front = front_after _ _ rest _ _ _ _ _ before failed.front;
  cause = rw before.quiet at failed.cause;
  quiet = tt;
  count = omega (arith, before.quiet, failed.count);
})

-- the whole ends with this write, whatever comes of it
pub last_in : (r : Result (Unit {0}) Failed) {whole piece : List ℕ} {old now new : Option (List ℕ)} {faults faults_now faults_new : ℕ}
    → FrontWritten whole piece old now faults faults_now → Writes r piece now new faults_now faults_new → Writes r whole old new faults faults_new
last_in (Ok done) {piece = piece} {old = old} before last = record {
  ok = last.ok ∙ ap (λ (w : Option (List ℕ)). with_more w piece) before.written ∙ with_more-append old before.front piece ∙ ap (with_more old) (sym before.whole_is);
  front = tt;
  cause = tt;
  quiet = last.quiet ∙ before.quiet;
  count = omega (arith, before.quiet, last.count);
}
last_in (Err e) {whole = whole} {piece = piece} {old = old} {now = now} {faults = faults} {faults_now = faults_now} before last =
    let before_nil : FrontWritten whole (piece ++ []) old now faults faults_now = rw (append-nil piece) before in
    failed_in [] refl before_nil last

-- nothing is left to write
pub all_written : {whole : List ℕ} {old now : Option (List ℕ)} {faults faults_now : ℕ}
    → FrontWritten whole [] old now faults faults_now → Writes (Ok tt) whole old now faults faults_now
all_written {old = old} before = record {
  ok = before.written ∙ ap (with_more old) (sym (before.whole_is ∙ append-nil before.front));
  front = tt;
  cause = tt;
  quiet = before.quiet;
  count = omega (arith, before.quiet);
}

-- ---- what the pieces are

-- the line of an entry in pieces, each with the byte behind its word
pub audit_line-pieces : (e : Entry) (client : ℕ) → client ≡ e.client
    → audit_line e ≡ (decimal client ++ 32 ∷ []) ++ ((decimal e.number ++ 32 ∷ []) ++ ((kind_word e.kind ++ 32 ∷ []) ++ ((pick_word e.pick ++ 32 ∷ [])
    ++ ((decimal e.faults ++ 32 ∷ []) ++ ((bytes_word e.command ++ 32 ∷ []) ++ (bytes_word e.reply ++ 10 ∷ []))))))
unfolding audit_line
audit_line-pieces e client client_is = rw client_is (simp append_assoc)

audit_text-drop-suc : (history : List Entry) (place : ℕ) → place < length history
    → audit_text (drop place history) ≡ line_at history place ++ audit_text (drop (suc place) history)
audit_text-drop-suc [] place h = absurd (omega arith)
audit_text-drop-suc (e ∷ history) zero h = refl
audit_text-drop-suc (e ∷ history) (suc place) h = audit_text-drop-suc history place (omega arith)

-- the text from an entry on begins with the line of that entry
pub audit_text-drop : (history : List Entry) (place : ℕ) → place < length history
    → audit_text (drop place history) ≡ line_at history place ++ audit_text (drop (place + 1) history)
audit_text-drop history place h = rw (add-one place) (audit_text-drop-suc history place h)

-- the word of some bytes is their digits
pub bytes_word-some : (bytes : List ℕ) (empty : Bool) → empty ≡ (length bytes == 0) → empty ≡ false → bytes_word bytes ≡ encode_lower bytes
bytes_word-some [] empty is test = absurd cc
bytes_word-some (byte ∷ bytes) empty is test = refl

-- no bytes have no digits
pub encode_lower-none : (bytes : List ℕ) (empty : Bool) → empty ≡ (length bytes == 0) → empty ≡ true → encode_lower bytes ≡ []
unfolding encode_with
encode_lower-none bytes empty is test = ap encode_lower (nil_from_length bytes (eqb-true (length bytes) 0 (sym is ∙ test)))

encode_lower-append : (xs ys : List ℕ) → encode_lower (xs ++ ys) ≡ encode_lower xs ++ encode_lower ys
unfolding encode_with
encode_lower-append [] ys = refl
encode_lower-append (x ∷ xs) ys = let rest = encode_lower-append xs ys in cc

-- the digits of some bytes are those of a front of them, and of the others
pub encode_lower-cut : (bytes front rest : List ℕ) (n : ℕ) → front ≡ take n bytes → rest ≡ drop n bytes
    → encode_lower bytes ≡ encode_lower front ++ encode_lower rest
encode_lower-cut bytes front rest n front_is rest_is =
    ap encode_lower (sym (take-append-drop n bytes)) ∙ encode_lower-append (take n bytes) (drop n bytes) ∙ (λ i. encode_lower (sym front_is i) ++ encode_lower (sym rest_is i))
