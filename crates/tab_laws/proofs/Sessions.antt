-- What is written of a session is read again, whatever follows; what is read is a session, and it has one spelling.
use Rattle.std.proofs.Common.{◌≡◌, ℕ, zero, suc, ◌^◌, ◌<◌, ◌≤◌, ◌+◌, ◌*◌, Bool, true, false, true≢false, List, [], ◌∷◌, ◌++◌, length, Option, Some, None, Ok, refl, ap, sym, ◌∙◌, arith}
use Rattle.std.specs.Prelude.{IfSome, is_some, bit_and, nat_lt, nat_le, ◌==◌, ◌||◌, not, if◌then◌else◌}
use Rattle.std.specs.Int.{w32, to_be_bytes, from_be_bytes}
use Rattle.std.proofs.Math.ListN.{get_or}
use Rattle.std.proofs.lemmas.Bool.{ltb-true, leb-true, eqb-true, cond_both, and_parts}
use Rattle.std.proofs.lemmas.Bool.Decides.{nat_tests}
use Rattle.std.proofs.lemmas.Nat.{be_bytes_4}
use Rattle.tab_spec.specs.declared.TheConstants.{RC_SIZE}
use Rattle.tab_spec.specs.declared.SessionKind.{SessionKind}
use Rattle.tab_spec.specs.declared.SessionKind.TheVariants as kinds
use Rattle.tab_spec.specs.declared.AuthNeeded.{AuthNeeded}
use Rattle.tab_spec.specs.declared.AuthNeeded.TheVariants as needs
use Rattle.tab_spec.specs.Session.{Session, kind_number, kind_of, is_kind_number, needed_flags, needed_of, flags_of, are_flags, or_0, unless_0, session_bytes, is_nonce, updates_fit, session_of, IsSession}
use Rattle.tab_spec.specs.Values.{AreBytes, Reading, fixed_bytes, number8, number32, sized, sized_bytes}
use Rattle.tab_laws.proofs.ReadBack.{fixed_bytes_again, number8_again, number32_again, where_true, sized_again, nv_parts}
use Rattle.tab_laws.proofs.OneSpelling.{byte_at, Leaves, Fronts, left_so, leaves_next, leaves_where, then_front, Cut, fixed_bytes_cut, number8_fronts, sized_fronts}
use Rattle.tab_laws.proofs.Objects.{length-sized, parts_length, Takes, fixed_bytes_take, number32_takes, TakesSized, sized_takes}

-- ---- a session by the numbers that are written of it

abbrev session_from : ℕ → List ℕ → List ℕ → ℕ → ℕ → ℕ → Session
session_from kind nonce digest code flags updates = record {
  kind = kind_of kind;
  nonce = nonce;
  digest = digest;
  command_code = unless_0 code;
  needed = needed_of flags;
  pcr_updates = if bit_and 4 flags == 4 then Some updates else None;
}

nonce_short : (nonce : List ℕ) → is_nonce nonce ≡ true → length nonce ≤ 32
nonce_short nonce known = leb-true (length nonce) 32 (and_parts (nat_le 16 (length nonce)) (nat_le (length nonce) 32) known).1

-- ---- the numbers of a session

kind_again : (kind : SessionKind) → kind_of (kind_number kind) ≡ kind
kind_again kinds.Hmac = refl
kind_again kinds.Policy = refl
kind_again kinds.Trial = refl

kind_known : (kind : SessionKind) → is_kind_number (kind_number kind) ≡ true
kind_known kinds.Hmac = refl
kind_known kinds.Policy = refl
kind_known kinds.Trial = refl

above_0 : (number : ℕ) → (number == 0) ≡ false → 0 < number
above_0 number some = grind (arith, nat_tests)

-- a number above 0 isn't taken for none
some_again : (number : ℕ) → 0 < number → unless_0 number ≡ Some number
some_again number above =
    let Same : Option ℕ → Type 0 = λ read. read ≡ Some number in
    cond_both (number == 0) None (Some number) Same (λ none. absurd (omega (arith, eqb-true number 0 none))) (λ some. refl)

code_again : (code : Option ℕ) → IfSome code (λ code. (0 < code) × (code < 2 ^ 32)) → unless_0 (or_0 code) ≡ code
code_again None fits = refl
code_again (Some code) fits = some_again code fits.0

code_small : (code : Option ℕ) → IfSome code (λ code. (0 < code) × (code < 2 ^ 32)) → or_0 code < 2 ^ 32
code_small None fits = omega arith
code_small (Some code) fits = fits.1

updates_small : (updates : Option ℕ) → IfSome updates (λ updates. updates < 2 ^ 32) → or_0 updates < 2 ^ 32
updates_small None fits = omega arith
updates_small (Some updates) fits = fits

-- the flags of a session, by what they are made of
abbrev flags_with : AuthNeeded → Option ℕ → ℕ
flags_with needed updates = needed_flags needed + (if is_some updates then 4 else 0)

flags_known : (needed : AuthNeeded) (updates : Option ℕ) → are_flags (flags_with needed updates) ≡ true
flags_known needs.Nothing None = refl
flags_known needs.Nothing (Some updates) = refl
flags_known needs.AuthValue None = refl
flags_known needs.AuthValue (Some updates) = refl
flags_known needs.Password None = refl
flags_known needs.Password (Some updates) = refl

needed_again : (needed : AuthNeeded) (updates : Option ℕ) → needed_of (flags_with needed updates) ≡ needed
needed_again needs.Nothing None = refl
needed_again needs.Nothing (Some updates) = refl
needed_again needs.AuthValue None = refl
needed_again needs.AuthValue (Some updates) = refl
needed_again needs.Password None = refl
needed_again needs.Password (Some updates) = refl

updates_known : (needed : AuthNeeded) (updates : Option ℕ) → updates_fit (flags_with needed updates) (or_0 updates) ≡ true
updates_known needs.Nothing None = refl
updates_known needs.Nothing (Some updates) = refl
updates_known needs.AuthValue None = refl
updates_known needs.AuthValue (Some updates) = refl
updates_known needs.Password None = refl
updates_known needs.Password (Some updates) = refl

updates_again : (needed : AuthNeeded) (updates : Option ℕ)
    → (if bit_and 4 (flags_with needed updates) == 4 then Some (or_0 updates) else None) ≡ updates
updates_again needs.Nothing None = refl
updates_again needs.Nothing (Some updates) = refl
updates_again needs.AuthValue None = refl
updates_again needs.AuthValue (Some updates) = refl
updates_again needs.Password None = refl
updates_again needs.Password (Some updates) = refl

-- ---- what is written of a session is read again

numbers_again : (kind : ℕ) (nonce digest : List ℕ) (code flags updates : ℕ) (more : List ℕ)
    → is_kind_number kind ≡ true → is_nonce nonce ≡ true → length digest ≡ 32 → code < 2 ^ 32
    → are_flags flags ≡ true → updates < 2 ^ 32 → updates_fit flags updates ≡ true
    → session_of (kind ∷ sized_bytes nonce ++ digest ++ to_be_bytes w32 code ++ flags ∷ to_be_bytes w32 updates ++ more)
    ≡ Ok (session_from kind nonce digest code flags updates, more)
numbers_again kind nonce digest code flags updates more kind_is nonce_is digest_is code_fits flags_are updates_are_small updates_are =
    let updates_on = to_be_bytes w32 updates ++ more in
    let flags_on = flags ∷ updates_on in
    let code_on = to_be_bytes w32 code ++ flags_on in
    let digest_on = digest ++ code_on in
    let nonce_on = sized_bytes nonce ++ digest_on in
    let short = nonce_short nonce nonce_is in
    let kind_read = where_true is_kind_number RC_SIZE (number8 RC_SIZE (kind ∷ nonce_on)) kind nonce_on
    (number8_again RC_SIZE kind nonce_on) kind_is in
    let nonce_read = where_true is_nonce RC_SIZE (sized RC_SIZE nonce_on) nonce digest_on
    (sized_again RC_SIZE nonce digest_on (omega arith)) nonce_is in
    let digest_read = fixed_bytes_again 32 RC_SIZE digest code_on digest_is in
    let code_read = number32_again RC_SIZE code flags_on code_fits in
    let flags_read = where_true are_flags RC_SIZE (number8 RC_SIZE flags_on) flags updates_on
    (number8_again RC_SIZE flags updates_on) flags_are in
    let updates_read = where_true (updates_fit flags) RC_SIZE (number32 RC_SIZE updates_on) updates more
    (number32_again RC_SIZE updates more updates_are_small) updates_are in
    ap session_of (nv_parts (kind ∷ []) (sized_bytes nonce) digest (to_be_bytes w32 code) (flags ∷ to_be_bytes w32 updates) more)
    ∙ rw (kind_read, nonce_read, digest_read, code_read, flags_read, updates_read) refl

same_again : (s : Session) → IsSession s
    → session_from (kind_number s.kind) s.nonce s.digest (or_0 s.command_code) (flags_of s) (or_0 s.pcr_updates) ≡ s
same_again s is =
    rw (kind_again s.kind, code_again s.command_code is.command_code, needed_again s.needed s.pcr_updates, updates_again s.needed s.pcr_updates) refl

pub session_again : (s : Session) (more : List ℕ) → IsSession s → session_of (session_bytes s ++ more) ≡ Ok (s, more)
session_again s more is =
    let read : Session → Reading Session = λ s. Ok (s, more) in
    numbers_again (kind_number s.kind) s.nonce s.digest (or_0 s.command_code) (flags_of s) (or_0 s.pcr_updates) more
    (kind_known s.kind) is.nonce is.digest (code_small s.command_code is.command_code) (flags_known s.needed s.pcr_updates)
    (updates_small s.pcr_updates is.pcr_updates) (updates_known s.needed s.pcr_updates)
    ∙ ap read (same_again s is)

-- ---- how many bytes it takes

pub session_small : (s : Session) → IsSession s → length (session_bytes s) ≤ 76
session_small s is =
    let short = nonce_short s.nonce is.nonce in
    let digest = is.digest in
    omega (
      arith,
      parts_length (kind_number s.kind ∷ []) (sized_bytes s.nonce) s.digest (to_be_bytes w32 (or_0 s.command_code))
          (flags_of s ∷ to_be_bytes w32 (or_0 s.pcr_updates)),
      length-sized s.nonce,
    )

-- ---- what is read is as it was written

is_three : (kind : ℕ) → is_kind_number kind ≡ true → (kind == 0) ≡ false → (kind == 1) ≡ false → kind ≡ 3
is_three kind known not_0 not_1 = grind (arith, nat_tests)

kind_spelled : (kind : ℕ) → is_kind_number kind ≡ true → kind_number (kind_of kind) ≡ kind
kind_spelled kind known =
    let Same : SessionKind → Type 0 = λ read. kind_number read ≡ kind in
    cond_both (kind == 0) kinds.Hmac (if kind == 1 then kinds.Policy else kinds.Trial) Same (λ is_0. sym (eqb-true kind 0 is_0))
    (λ not_0. cond_both (kind == 1) kinds.Policy kinds.Trial Same (λ is_1. sym (eqb-true kind 1 is_1))
    (λ not_1. sym (is_three kind known not_0 not_1)))

code_spelled : (code : ℕ) → or_0 (unless_0 code) ≡ code
code_spelled code =
    let Same : Option ℕ → Type 0 = λ read. or_0 read ≡ code in
    cond_both (code == 0) None (Some code) Same (λ none. sym (eqb-true code 0 none)) (λ some. refl)

-- what holds of each number below 8
below_8 : (P : ℕ → Type 0) (n : ℕ) → n < 8 → P 0 → P 1 → P 2 → P 3 → P 4 → P 5 → P 6 → P 7 → P n
below_8 P zero small p0 p1 p2 p3 p4 p5 p6 p7 = p0
below_8 P (suc zero) small p0 p1 p2 p3 p4 p5 p6 p7 = p1
below_8 P (suc (suc zero)) small p0 p1 p2 p3 p4 p5 p6 p7 = p2
below_8 P (suc (suc (suc zero))) small p0 p1 p2 p3 p4 p5 p6 p7 = p3
below_8 P (suc (suc (suc (suc zero)))) small p0 p1 p2 p3 p4 p5 p6 p7 = p4
below_8 P (suc (suc (suc (suc (suc zero))))) small p0 p1 p2 p3 p4 p5 p6 p7 = p5
below_8 P (suc (suc (suc (suc (suc (suc zero)))))) small p0 p1 p2 p3 p4 p5 p6 p7 = p6
below_8 P (suc (suc (suc (suc (suc (suc (suc zero))))))) small p0 p1 p2 p3 p4 p5 p6 p7 = p7
below_8 P (suc (suc (suc (suc (suc (suc (suc (suc n)))))))) small p0 p1 p2 p3 p4 p5 p6 p7 = absurd (omega arith)

flags_spelled : (kind : ℕ) (nonce digest : List ℕ) (code flags updates : ℕ) → are_flags flags ≡ true
    → flags_of (session_from kind nonce digest code flags updates) ≡ flags
flags_spelled kind nonce digest code flags updates known =
    let Same : ℕ → Type 0 = λ flags. are_flags flags ≡ true → flags_of (session_from kind nonce digest code flags updates) ≡ flags in
    let small = ltb-true flags 8 (and_parts (nat_lt flags 8) (not (bit_and 3 flags == 3)) known).0 in
    below_8 Same flags small (λ are. refl) (λ are. refl) (λ are. refl) (λ are_not. absurd (true≢false (sym are_not)))
    (λ are. refl) (λ are. refl) (λ are. refl) (λ are_not. absurd (true≢false (sym are_not))) known

updates_spelled : (is_kept : Bool) (updates : ℕ) → (is_kept || updates == 0) ≡ true → or_0 (if is_kept then Some updates else None) ≡ updates
updates_spelled true updates fit = refl
updates_spelled false updates fit = sym (eqb-true updates 0 fit)

bytes_spelled : (kind : ℕ) (nonce digest : List ℕ) (code flags updates : ℕ)
    → is_kind_number kind ≡ true → are_flags flags ≡ true → updates_fit flags updates ≡ true
    → session_bytes (session_from kind nonce digest code flags updates)
    ≡ kind ∷ sized_bytes nonce ++ digest ++ to_be_bytes w32 code ++ flags ∷ to_be_bytes w32 updates
bytes_spelled kind nonce digest code flags updates kind_is flags_are updates_are =
    let same_kind = kind_spelled kind kind_is in
    let same_code = code_spelled code in
    let same_flags = flags_spelled kind nonce digest code flags updates flags_are in
    let same_updates = updates_spelled (bit_and 4 flags == 4) updates updates_are in
    λ i. same_kind i ∷ sized_bytes nonce ++ digest ++ to_be_bytes w32 (same_code i) ++ same_flags i ∷ to_be_bytes w32 (same_updates i)

-- ---- what is read is a session, and it has one spelling

code_is : (code : ℕ) → code < 2 ^ 32 → IfSome (unless_0 code) (λ code. (0 < code) × (code < 2 ^ 32))
code_is code fits =
    let Fits : Option ℕ → Type 0 = λ read. IfSome read (λ code. (0 < code) × (code < 2 ^ 32)) in
    cond_both (code == 0) None (Some code) Fits (λ none. tt) (λ some. (above_0 code some, fits))

kept_updates : (is_kept : Bool) (updates : ℕ) → updates < 2 ^ 32
    → IfSome (if is_kept then Some updates else None) (λ updates. updates < 2 ^ 32)
kept_updates true updates fits = fits
kept_updates false updates fits = tt

session_is : (kind : ℕ) (nonce digest : List ℕ) (code flags updates : ℕ) → is_nonce nonce ≡ true → length digest ≡ 32
    → code < 2 ^ 32 → updates < 2 ^ 32 → IsSession (session_from kind nonce digest code flags updates)
session_is kind nonce digest code flags updates nonce_is digest_is code_fits updates_fits = record {
  nonce = nonce_is;
  digest = digest_is;
  command_code = code_is code code_fits;
  pcr_updates = kept_updates (bit_and 4 flags == 4) updates updates_fits;
}

-- a number of four bytes has its bounds
worth_small : (a b c d n : ℕ) → a < 256 → b < 256 → c < 256 → d < 256 → n ≡ a + b * 256 + c * 65536 + d * 16777216 → n < 2 ^ 32
worth_small a b c d n a_small b_small c_small d_small is = omega arith

pub number_small : (bytes : List ℕ) (n : ℕ) → ((i : ℕ) → get_or bytes i 0 < 256) → n ≡ from_be_bytes w32 bytes → n < 2 ^ 32
number_small bytes n small is =
    worth_small (get_or bytes 3 0) (get_or bytes 2 0) (get_or bytes 1 0) (get_or bytes 0 0) n (small 3) (small 2) (small 1) (small 0) (omega arith)

abbrev Number : List ℕ → ℕ → List ℕ → Type 0
Number bytes n rest = (n < 2 ^ 32) × Fronts (to_be_bytes w32) bytes n rest

number32_reads : (lacking : ℕ) (bytes : List ℕ) → AreBytes bytes → Leaves (Number bytes) (number32 lacking bytes)
number32_reads lacking bytes all =
    leaves_next (Cut 4 bytes) (Number bytes) (fixed_bytes 4 lacking bytes) _ (fixed_bytes_cut 4 lacking bytes all) (λ read rest cut.
    let small = byte_at read cut.1.1.0 in
    let back : to_be_bytes w32 (from_be_bytes w32 read) ≡ read = be_bytes_4 read (from_be_bytes w32 read) cut.1.0 small refl in
    (number_small read (from_be_bytes w32 read) small refl, (cut.0 ∙ ap (λ front. front ++ rest) (sym back), cut.1.1.1)))

abbrev Reads : List ℕ → Session → List ℕ → Type 0
Reads bytes s rest = IsSession s × Fronts session_bytes bytes s rest

session_reads : (bytes : List ℕ) → AreBytes bytes → Leaves (Reads bytes) (session_of bytes)
session_reads bytes all =
    let Ends = Reads bytes in
    leaves_where (Fronts (λ n. n ∷ []) bytes) Ends is_kind_number RC_SIZE (number8 RC_SIZE bytes) _
    (number8_fronts RC_SIZE bytes all) (λ kind on1 kind_front kind_is.
    leaves_where (Fronts sized_bytes on1) Ends is_nonce RC_SIZE (sized RC_SIZE on1) _
    (sized_fronts RC_SIZE on1 kind_front.1) (λ nonce on2 nonce_front nonce_is.
    leaves_next (Cut 32 on2) Ends (fixed_bytes 32 RC_SIZE on2) _
    (fixed_bytes_cut 32 RC_SIZE on2 nonce_front.1) (λ digest on3 digest_cut.
    leaves_next (Number on3) Ends (number32 RC_SIZE on3) _
    (number32_reads RC_SIZE on3 digest_cut.1.1.1) (λ code on4 code_front.
    leaves_where (Fronts (λ n. n ∷ []) on4) Ends are_flags RC_SIZE (number8 RC_SIZE on4) _
    (number8_fronts RC_SIZE on4 code_front.1.1) (λ flags on5 flags_front flags_are.
    leaves_where (Number on5) Ends (updates_fit flags) RC_SIZE (number32 RC_SIZE on5) _
    (number32_reads RC_SIZE on5 flags_front.1) (λ updates rest updates_front fit. (
      session_is kind nonce digest code flags updates nonce_is digest_cut.1.0 code_front.0 updates_front.0,
      (
        then_front bytes (kind ∷ []) on1 _ kind_front.0
            (then_front on1 (sized_bytes nonce) on2 _ nonce_front.0
            (then_front on2 digest on3 _ digest_cut.0
            (then_front on3 (to_be_bytes w32 code) on4 _ code_front.1.0
            (then_front on4 (flags ∷ []) on5 _ flags_front.0 updates_front.1.0))))
            ∙ sym (nv_parts (kind ∷ []) (sized_bytes nonce) digest (to_be_bytes w32 code) (flags ∷ to_be_bytes w32 updates) rest)
            ∙ ap (λ front. front ++ rest) (sym (bytes_spelled kind nonce digest code flags updates kind_is flags_are fit)),
        updates_front.1.1,
      ),
    )))))))

session_left : (bytes : List ℕ) (s : Session) (rest : List ℕ) → AreBytes bytes → session_of bytes ≡ Ok (s, rest) → Reads bytes s rest
session_left bytes s rest all is = left_so (Reads bytes) (session_of bytes) s rest (session_reads bytes all) is

pub session_read : (bytes : List ℕ) (s : Session) (rest : List ℕ) → AreBytes bytes → session_of bytes ≡ Ok (s, rest) → IsSession s
session_read bytes s rest all is = (session_left bytes s rest all is).0

pub session_spelling : (bytes : List ℕ) (s : Session) (rest : List ℕ) → AreBytes bytes → session_of bytes ≡ Ok (s, rest)
    → bytes ≡ session_bytes s ++ rest
session_spelling bytes s rest all is = (session_left bytes s rest all is).1.0

-- ---- how many bytes are read of a session

number8_takes : (lacking : ℕ) (bytes : List ℕ) → Leaves (Takes 1 bytes) (number8 lacking bytes)
number8_takes lacking bytes =
    leaves_next (λ read rest. (length read ≡ 1) × (length bytes ≤ 1 + length rest)) (Takes 1 bytes) (fixed_bytes 1 lacking bytes) _
    (fixed_bytes_take 1 lacking bytes) (λ read rest cut. cut.1)

session_takes : (bytes : List ℕ) → Leaves (Takes 76 bytes) (session_of bytes)
session_takes bytes =
    let Ends = Takes 76 bytes in
    leaves_where (Takes 1 bytes) Ends is_kind_number RC_SIZE (number8 RC_SIZE bytes) _
    (number8_takes RC_SIZE bytes) (λ kind on1 kind_takes kind_is.
    leaves_where (TakesSized on1) Ends is_nonce RC_SIZE (sized RC_SIZE on1) _
    (sized_takes RC_SIZE on1) (λ nonce on2 nonce_takes nonce_is.
    leaves_next (λ read rest. (length read ≡ 32) × (length on2 ≤ 32 + length rest)) Ends (fixed_bytes 32 RC_SIZE on2) _
    (fixed_bytes_take 32 RC_SIZE on2) (λ digest on3 digest_takes.
    leaves_next (Takes 4 on3) Ends (number32 RC_SIZE on3) _
    (number32_takes RC_SIZE on3) (λ code on4 code_takes.
    leaves_where (Takes 1 on4) Ends are_flags RC_SIZE (number8 RC_SIZE on4) _
    (number8_takes RC_SIZE on4) (λ flags on5 flags_take flags_are.
    leaves_where (Takes 4 on5) Ends (updates_fit flags) RC_SIZE (number32 RC_SIZE on5) _
    (number32_takes RC_SIZE on5) (λ updates rest updates_take fit.
    let digest_taken = digest_takes.1 in omega (arith, nonce_short nonce nonce_is)))))))

pub session_short : (bytes : List ℕ) (s : Session) → session_of bytes ≡ Ok (s, []) → length bytes ≤ 76
session_short bytes s is =
    let takes : length bytes ≤ 76 + 0 = left_so (Takes 76 bytes) (session_of bytes) s [] (session_takes bytes) is in omega arith
