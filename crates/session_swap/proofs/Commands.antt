-- The contexts of sessions, and what the response to ContextSave has.
use Rattle.std.proofs.Common.{◌≡◌, ◌-◌, ◌<◌, ◌≤◌, ◌^◌, ℕ, Bool, true, false, List, [], ◌++◌, length, take, drop, refl, ap, subst, sym, ◌∙◌, arith, length-drop}
use Rattle.std.specs.Prelude.{◌==◌, ◌||◌, ◌&&◌, nat_le, nat_lt, Option, Some, None, Ok, Err, if◌then◌else◌}
use Rattle.std.specs.Int.{w32, w64, from_be_bytes}
use Rattle.std.proofs.lemmas.Bool.{and_parts, cond_both, eqb-true, leb-true, le-ltb}
use Rattle.std.proofs.lemmas.Nat.{from_be_bytes-to_be_bytes_4}
use Rattle.std.proofs.lemmas.List.{take_rest}
use Rattle.tab_spec.specs.declared.TheConstants.{CC_CONTEXT_LOAD, HT_TRANSIENT, MOST_CONTEXT_BYTES, RC_INSUFFICIENT, ST_NO_SESSIONS}
use Rattle.tab_spec.specs.Frame.{tag_of}
use Rattle.tab_spec.specs.Shape.{octet_of}
use Rattle.tab_spec.specs.Admission.{is_session_handle}
use Rattle.tab_spec.specs.Values.{Reading, number32, sized, then_read}
use Rattle.tab_spec.specs.declared.contexts.ContextLimits.{ContextLimits}
use Rattle.tab_spec.specs.Contexts.{are_short, is_saved_object}
use Rattle.tab_laws.proofs.ReadBack.{Gives, gives_next}
use Rattle.effect_spec.specs.Contexts.{Context, context_of}
use Rattle.device_spec.specs.ContextCommands.{context_load_command, context_save_command}
use Rattle.device_spec.specs.Answers.{is_context, is_context_of, is_word, word_at}
use Rattle.device_laws.proofs.Frames.{response_is_frame}
use Rattle.device_laws.proofs.Moves.{HasHandle, handle_read}
use Rattle.device_laws.proofs.SessionSteps.{not_transient}
use Rattle.device_port.specs.Own.{IsOwn, Succeeds}
use Rattle.session_swap.specs.Records.{IsContext, sequence_of}

-- ---- contexts

-- the number of a context stands in its first field
abbrev HasNumber : List ℕ → Context → Type 0
HasNumber bytes c = c.sequence ≡ from_be_bytes w64 (take 8 bytes)

abbrev behind_hierarchy : ℕ → ℕ → ℕ → List ℕ → Reading Context
behind_hierarchy sequence handle hierarchy rest =
    then_read (sized RC_INSUFFICIENT rest) (λ blob rest.
    Ok (record { sequence = sequence; saved_handle = handle; hierarchy = hierarchy; blob = blob }, rest))

abbrev behind_handle : ℕ → ℕ → List ℕ → Reading Context
behind_handle sequence handle rest = then_read (number32 RC_INSUFFICIENT rest) (behind_hierarchy sequence handle)

abbrev behind_number : ℕ → List ℕ → Reading Context
behind_number sequence rest = then_read (number32 RC_INSUFFICIENT rest) (behind_handle sequence)

number_kept : (bytes rest : List ℕ) → Gives (HasNumber bytes) (behind_number (from_be_bytes w64 (take 8 bytes)) rest)
number_kept bytes rest =
    let sequence : ℕ = from_be_bytes w64 (take 8 bytes) in
    let Has = HasNumber bytes in
    gives_next Has (number32 RC_INSUFFICIENT rest) (behind_handle sequence) (λ handle rest.
    gives_next Has (number32 RC_INSUFFICIENT rest) (behind_hierarchy sequence handle) (λ hierarchy rest.
    gives_next Has (sized RC_INSUFFICIENT rest) (λ blob rest.
    Ok (record { sequence = sequence; saved_handle = handle; hierarchy = hierarchy; blob = blob }, rest)) (λ blob rest. refl)))

number_read : (bytes : List ℕ) → Gives (HasNumber bytes) (context_of bytes)
number_read bytes =
    cond_both (nat_lt (length bytes) 8) (Err RC_INSUFFICIENT) (Ok (take 8 bytes, drop 8 bytes))
    (λ (read : Reading (List ℕ)).
    Gives (HasNumber bytes) (then_read (then_read read (λ read rest. Ok (from_be_bytes w64 read, rest))) behind_number))
    (λ few. tt) (λ eight. number_kept bytes (drop 8 bytes))

-- what is known of the context of a session
pub record IsSaved (contexts : ContextLimits) (handle number : ℕ) (context : List ℕ) : Type 0 where
  pub long : 12 ≤ length context
  pub most : length context ≤ contexts.session_bytes
  pub handle_is : from_be_bytes w32 (take 4 (drop 8 context)) ≡ handle
  pub number_is : from_be_bytes w64 (take 8 context) ≡ number

session_by : (transient object session : Bool) → transient ≡ false → (if transient then object else session) ≡ session
session_by transient object session is = rw is refl

saved_by : (contexts : ContextLimits) (handle number : ℕ) (context : List ℕ) (r : Reading Context) → is_session_handle handle ≡ true
    → Gives (HasHandle context) r → Gives (HasNumber context) r → is_context_of contexts handle context r ≡ true → sequence_of r ≡ number
    → IsSaved contexts handle number context
saved_by contexts handle number context (Err code) session handled numbered is sequence = absurd cc
saved_by contexts handle number context (Ok read) session handled numbered is sequence =
    let fits = nat_le (length context) contexts.session_bytes in
    let object = is_saved_object contexts read.0.saved_handle && nat_le (length context) contexts.object_bytes in
    let its = read.0.saved_handle == handle && fits in
    let parts = and_parts (length read.1 == 0) (if octet_of handle == HT_TRANSIENT then object else its) is in
    let both = and_parts (read.0.saved_handle == handle) fits
    (sym (session_by (octet_of handle == HT_TRANSIENT) object its (not_transient handle session)) ∙ parts.1) in
    record {
      long = handled.0;
      most = leb-true (length context) contexts.session_bytes both.1;
      handle_is = sym handled.1 ∙ eqb-true read.0.saved_handle handle both.0;
      number_is = sym numbered ∙ sequence;
    }

pub is_saved : (contexts : ContextLimits) (handle number : ℕ) (context : List ℕ) → is_session_handle handle ≡ true → IsContext contexts handle number context
    → IsSaved contexts handle number context
is_saved contexts handle number context session is =
    saved_by contexts handle number context (context_of context) session (handle_read context) (number_read context) is.whole is.number_is

-- it isn't longer than a broker can keep
pub few_bytes : (contexts : ContextLimits) (handle number : ℕ) (context : List ℕ) → are_short contexts ≡ true → is_session_handle handle ≡ true
    → IsContext contexts handle number context → length context ≤ MOST_CONTEXT_BYTES
few_bytes contexts handle number context short session is =
    let bound = leb-true contexts.session_bytes MOST_CONTEXT_BYTES
    (and_parts (nat_le contexts.object_bytes MOST_CONTEXT_BYTES) (nat_le contexts.session_bytes MOST_CONTEXT_BYTES) short).1 in
    omega (arith, (is_saved contexts handle number context session is).most, bound)

-- ---- ContextLoad

word_of_load : (contexts : ContextLimits) (handle number : ℕ) (context : List ℕ) → IsSaved contexts handle number context
    → word_at 18 (context_load_command context) ≡ Some handle
word_of_load contexts handle number context is =
    let word : ℕ = from_be_bytes w32 (take 4 (drop 8 context)) in
    let enough = le-ltb (length (context_load_command context)) 22 (omega (arith, is.long)) in
    ap (λ (short : Bool). if short then None else Some word) enough ∙ ap (λ (word : ℕ). Some word) is.handle_is

own_by : (session object : Bool) → session ≡ true → ((session || (object && true)) || false) ≡ true
own_by session object is = rw is refl

-- it is a command of the broker's own
pub load_is_own : (contexts : ContextLimits) (handle number : ℕ) (context asked : List ℕ) → are_short contexts ≡ true → is_session_handle handle ≡ true
    → IsContext contexts handle number context → asked ≡ context_load_command context → IsOwn contexts asked
load_is_own contexts handle number context asked short session is same =
    let known = is_saved contexts handle number context session is in
    subst (IsOwn contexts) (sym same)
    (record {
      frame = response_is_frame ST_NO_SESSIONS CC_CONTEXT_LOAD context (omega (arith, few_bytes contexts handle number context short session is));
      own = ap (λ (word : Option ℕ).
          (is_word is_session_handle word || (is_word (is_saved_object contexts) word && true)) || false)
          (word_of_load contexts handle number context known) ∙ own_by (is_session_handle handle) (is_saved_object contexts handle) session;
      later = refl;
      starts_none = refl;
    })

-- ---- ContextSave

word_of_save : (handle : ℕ) → handle < 2 ^ 32 → word_at 10 (context_save_command handle) ≡ Some handle
word_of_save handle fits = ap (λ (word : ℕ). Some word) (from_be_bytes-to_be_bytes_4 handle fits)

asked_context : (contexts : ContextLimits) (handle : ℕ) (context : List ℕ) → handle < 2 ^ 32
    → is_context contexts (context_save_command handle) context ≡ is_context_of contexts handle context (context_of context)
asked_context contexts handle context fits =
    ap (is_word (λ handle. is_context_of contexts handle context (context_of context))) (word_of_save handle fits)

numbered_by : (contexts : ContextLimits) (handle : ℕ) (context : List ℕ) (r : Reading Context) → Gives (HasNumber context) r
    → is_context_of contexts handle context r ≡ true → sequence_of r ≡ from_be_bytes w64 (take 8 context)
numbered_by contexts handle context (Err code) numbered is = absurd cc
numbered_by contexts handle context (Ok read) numbered is = numbered

-- the number that the context of a response begins with
abbrev pub number_in : List ℕ → ℕ
number_in last = from_be_bytes w64 (take 8 (drop 10 last))

saved_context : (contexts : ContextLimits) (handle : ℕ) (last : List ℕ) → handle < 2 ^ 32 → Succeeds contexts (context_save_command handle) last
    → IsContext contexts handle (number_in last) (drop 10 last)
saved_context contexts handle last fits succeeds =
    let context = drop 10 last in
    let asked = context_save_command handle in
    let form = and_parts (tag_of last == ST_NO_SESSIONS && true && true) (is_context contexts asked context) succeeds.form in
    let whole = sym (asked_context contexts handle context fits) ∙ form.1 in
    record { whole = whole; number_is = numbered_by contexts handle context (context_of context) (number_read context) whole }

-- a response, and its bytes: they have a header and a context of this handle, with the number that it begins with
pub record Reply (contexts : ContextLimits) (handle : ℕ) (last reply : List ℕ) : Type 0 where
  pub context : IsContext contexts handle (number_in last) (drop 10 last)
  pub known : IsSaved contexts handle (number_in last) (drop 10 last)
  pub long : 10 ≤ length reply
  pub rest : take (length reply - 10) (drop 10 reply) ≡ drop 10 last

pub save_reply : (contexts : ContextLimits) (handle : ℕ) (asked last reply : List ℕ) → handle < 2 ^ 32 → is_session_handle handle ≡ true
    → asked ≡ context_save_command handle → Succeeds contexts asked last → reply ≡ last → Reply contexts handle last reply
save_reply contexts handle asked last reply fits session same succeeds is =
    let context = saved_context contexts handle last fits (subst (λ (bytes : List ℕ). Succeeds contexts bytes last) same succeeds) in
    let known = is_saved contexts handle (number_in last) (drop 10 last) session context in
    record {
      context = context;
      known = known;
      long = omega (arith, ap length is, known.long, length-drop 10 last);
      rest = take_rest reply 10 ∙ ap (drop 10) is;
    }

-- the bytes that were appended to none
pub copied : (ok : Bool) (none new added : List ℕ) → ok ≡ true → new ≡ (if ok then none ++ added else none) → none ≡ []
    → new ≡ added
copied true none new added ok is empty = is ∙ ap (λ (l : List ℕ). l ++ added) empty
copied false none new added ok is empty = absurd cc
