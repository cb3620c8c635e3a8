-- The commands that move objects, and what their responses tell.
use Rattle.std.proofs.Common.{◌≡◌, ◌-◌, ◌<◌, ◌≤◌, ◌^◌, ℕ, Bool, true, false, List, [], ◌++◌, length, take, drop, refl, ap, subst, sym, ◌∙◌, arith, length-drop}
use Rattle.std.specs.Prelude.{◌==◌, ◌||◌, ◌&&◌, nat_le, nat_lt, Option, Some, None, Ok, Err, if◌then◌else◌}
use Rattle.std.specs.Int.{w32, w64, to_be_bytes, from_be_bytes}
use Rattle.std.proofs.lemmas.Bool.{eqb-true, and_parts, leb-true, le-ltb, ltb-false}
use Rattle.std.proofs.lemmas.Nat.{from_be_bytes-to_be_bytes_4}
use Rattle.std.proofs.lemmas.List.{take_rest}
use Rattle.tab_spec.specs.declared.TheConstants.{CC_CONTEXT_LOAD, CC_CONTEXT_SAVE, CC_FLUSH_CONTEXT, HT_TRANSIENT, MOST_CONTEXT_BYTES, RC_INSUFFICIENT, ST_NO_SESSIONS, TRANSIENT_FIRST, TRANSIENT_ST_CLEAR}
use Rattle.tab_spec.specs.Frame.{tag_of}
use Rattle.tab_spec.specs.Shape.{octet_of}
use Rattle.tab_spec.specs.Admission.{is_session_handle}
use Rattle.tab_spec.specs.Values.{Reading, number32, sized, then_read}
use Rattle.tab_spec.specs.declared.contexts.ContextLimits.{ContextLimits}
use Rattle.tab_spec.specs.Contexts.{are_short, is_saved_object}
use Rattle.effect_spec.specs.Contexts.{Context, context_of}
use Rattle.device_spec.specs.ContextCommands.{context_load_command, context_save_command, flush_context_command}
use Rattle.device_spec.specs.Answers.{fits_handle, is_context, is_context_of, is_word, word_at}
use Rattle.device_laws.proofs.Frames.{response_is_frame}
use Rattle.device_port.specs.Own.{IsOwn, Succeeds}
use Rattle.object_swap.specs.Moves.{IsLastContext, IsLastHandle}
use Rattle.object_swap.specs.Records.{IsContext}

-- ---- the broker's own commands

pub save_is_own : (contexts : ContextLimits) (handle : ℕ) → IsOwn contexts (context_save_command handle)
save_is_own contexts handle = record {
  frame = response_is_frame ST_NO_SESSIONS CC_CONTEXT_SAVE (to_be_bytes w32 handle) (omega arith);
  own = refl;
  later = refl;
  starts_none = refl;
}

pub flush_is_own : (contexts : ContextLimits) (handle : ℕ) → IsOwn contexts (flush_context_command handle)
flush_is_own contexts handle = record {
  frame = response_is_frame ST_NO_SESSIONS CC_FLUSH_CONTEXT (to_be_bytes w32 handle) (omega arith);
  own = refl;
  later = refl;
  starts_none = refl;
}

-- ---- contexts

-- its handle is that of objects, and it isn't longer than one may be
abbrev IsSaved : ContextLimits → ℕ → List ℕ → Type 0
IsSaved contexts saved context = (is_saved_object contexts saved ≡ true) × (length context ≤ contexts.object_bytes)

handle_with : (contexts : ContextLimits) (saved sequence hierarchy : ℕ) (context : List ℕ) (blob : Reading (List ℕ))
    → is_context_of contexts TRANSIENT_FIRST context (then_read blob (λ blob rest. Ok (record { sequence = sequence; saved_handle = saved; hierarchy = hierarchy; blob = blob }, rest))) ≡ true
    → IsSaved contexts saved context
handle_with contexts saved sequence hierarchy context (Err code) is = absurd cc
handle_with contexts saved sequence hierarchy context (Ok read) is =
    let fits = nat_le (length context) contexts.object_bytes in
    let parts = and_parts (length read.1 == 0) (is_saved_object contexts saved && fits) is in
    let both = and_parts (is_saved_object contexts saved) fits parts.1 in
    (both.0, leb-true (length context) contexts.object_bytes both.1)

handle_in : (contexts : ContextLimits) (saved sequence : ℕ) (context : List ℕ) (hierarchy : Reading ℕ)
    → is_context_of contexts TRANSIENT_FIRST context (then_read hierarchy (λ hierarchy rest. then_read (sized RC_INSUFFICIENT rest) (λ blob rest. Ok (record { sequence = sequence; saved_handle = saved; hierarchy = hierarchy; blob = blob }, rest)))) ≡ true
    → IsSaved contexts saved context
handle_in contexts saved sequence context (Err code) is = absurd cc
handle_in contexts saved sequence context (Ok read) is = handle_with contexts saved sequence read.0 context (sized RC_INSUFFICIENT read.1) is

-- what is read where its number was, and where its handle was
abbrev with_handle : Bool → ℕ → List ℕ → Reading Context
with_handle short sequence rest =
    then_read (then_read (if short then Err RC_INSUFFICIENT else Ok (take 4 rest, drop 4 rest)) (λ read rest. Ok (from_be_bytes w32 read, rest))) (λ saved_handle rest.
    then_read (number32 RC_INSUFFICIENT rest) (λ hierarchy rest.
    then_read (sized RC_INSUFFICIENT rest) (λ blob rest.
    Ok (record { sequence = sequence; saved_handle = saved_handle; hierarchy = hierarchy; blob = blob }, rest))))

abbrev with_sequence : Bool → List ℕ → Reading Context
with_sequence short context =
    then_read (then_read (if short then Err RC_INSUFFICIENT else Ok (take 8 context, drop 8 context)) (λ read rest. Ok (from_be_bytes w64 read, rest))) (λ sequence rest.
    with_handle (nat_lt (length rest) 4) sequence rest)

-- the handle in it
abbrev saved_handle : List ℕ → ℕ
saved_handle context = from_be_bytes w32 (take 4 (drop 8 context))

pub record Saved (contexts : ContextLimits) (context : List ℕ) : Type 0 where
  pub long : 12 ≤ length context
  pub most : length context ≤ contexts.object_bytes
  pub handle : is_saved_object contexts (saved_handle context) ≡ true

saved_second : (contexts : ContextLimits) (context : List ℕ) (short : Bool) → 8 ≤ length context → nat_lt (length (drop 8 context)) 4 ≡ short
    → is_context_of contexts TRANSIENT_FIRST context (with_handle short (from_be_bytes w64 (take 8 context)) (drop 8 context)) ≡ true → Saved contexts context
saved_second contexts context true first short_is is = absurd cc
saved_second contexts context false first short_is is =
    let found = handle_in contexts (saved_handle context) (from_be_bytes w64 (take 8 context)) context (number32 RC_INSUFFICIENT (drop 4 (drop 8 context))) is in
    let second = ltb-false (length (drop 8 context)) 4 short_is in
    record { long = omega (arith, length-drop 8 context); most = found.1; handle = found.0 }

saved_first : (contexts : ContextLimits) (context : List ℕ) (short : Bool) → nat_lt (length context) 8 ≡ short
    → is_context_of contexts TRANSIENT_FIRST context (with_sequence short context) ≡ true → Saved contexts context
saved_first contexts context true short_is is = absurd cc
saved_first contexts context false short_is is =
    saved_second contexts context (nat_lt (length (drop 8 context)) 4) (ltb-false (length context) 8 short_is) refl is

pub saved : (contexts : ContextLimits) (context : List ℕ) → IsContext contexts context → Saved contexts context
saved contexts context is = saved_first contexts context (nat_lt (length context) 8) refl is

-- the response that it follows has a header
pub long_reply : (contexts : ContextLimits) (reply : List ℕ) → IsContext contexts (drop 10 reply) → 10 ≤ length reply
long_reply contexts reply is = omega (arith, (saved contexts (drop 10 reply) is).long, length-drop 10 reply)

-- one isn't longer than a broker can keep
pub few_bytes : (contexts : ContextLimits) (context : List ℕ) → are_short contexts ≡ true → IsContext contexts context → length context ≤ MOST_CONTEXT_BYTES
few_bytes contexts context short is =
    let bound = leb-true contexts.object_bytes MOST_CONTEXT_BYTES
    (and_parts (nat_le contexts.object_bytes MOST_CONTEXT_BYTES) (nat_le contexts.session_bytes MOST_CONTEXT_BYTES) short).0 in
    omega (arith, (saved contexts context is).most, bound)

word_of_load : (contexts : ContextLimits) (context : List ℕ) → Saved contexts context → word_at 18 (context_load_command context) ≡ Some (saved_handle context)
word_of_load contexts context saved =
    let word = saved_handle context in
    ap (λ (short : Bool). if short then None else Some word) (le-ltb (length (context_load_command context)) 22 (omega (arith, saved.long)))

-- such a handle is no session's
either_first : (by first : Bool) (handle : ℕ) → (handle == TRANSIENT_ST_CLEAR) ≡ by → (handle == TRANSIENT_FIRST) ≡ first → (by || first) ≡ true
    → is_session_handle handle ≡ false
either_first true first handle by_is first_is either = ap is_session_handle (eqb-true handle TRANSIENT_ST_CLEAR by_is)
either_first false true handle by_is first_is either = ap is_session_handle (eqb-true handle TRANSIENT_FIRST first_is)
either_first false false handle by_is first_is either = absurd cc

not_session_by : (st_clear : Bool) (handle : ℕ) → ((st_clear && handle == TRANSIENT_ST_CLEAR) || handle == TRANSIENT_FIRST) ≡ true → is_session_handle handle ≡ false
not_session_by true handle is = either_first (handle == TRANSIENT_ST_CLEAR) (handle == TRANSIENT_FIRST) handle refl refl is
not_session_by false handle is = ap is_session_handle (eqb-true handle TRANSIENT_FIRST is)

pub not_session : (contexts : ContextLimits) (handle : ℕ) → is_saved_object contexts handle ≡ true → is_session_handle handle ≡ false
not_session contexts handle is = not_session_by contexts.st_clear handle is

pub load_is_own : (contexts : ContextLimits) (context : List ℕ) → are_short contexts ≡ true → IsContext contexts context → IsOwn contexts (context_load_command context)
load_is_own contexts context short is =
    let saved = saved contexts context is in
    let handle = saved_handle context in
    record {
      frame = response_is_frame ST_NO_SESSIONS CC_CONTEXT_LOAD context (omega (arith, few_bytes contexts context short is));
      own = ap (λ (word : Option ℕ). (is_word is_session_handle word || (is_word (is_saved_object contexts) word && true)) || false) (word_of_load contexts context saved)
          ∙ (λ i. (not_session contexts handle saved.handle i || (saved.handle i && true)) || false);
      later = refl;
      starts_none = refl;
    }

-- ---- what a response has

context_as : (contexts : ContextLimits) (handle : ℕ) (context : List ℕ) (r : Reading Context) → (octet_of handle == HT_TRANSIENT) ≡ true
    → is_context_of contexts handle context r ≡ is_context_of contexts TRANSIENT_FIRST context r
context_as contexts handle context (Err code) transient = refl
context_as contexts handle context (Ok read) transient = rw transient refl

word_of_save : (handle : ℕ) → handle < 2 ^ 32 → word_at 10 (context_save_command handle) ≡ Some handle
word_of_save handle fits = ap (λ (word : ℕ). Some word) (from_be_bytes-to_be_bytes_4 handle fits)

-- the response to ContextSave has a context
pub asked_context : (contexts : ContextLimits) (handle : ℕ) (context : List ℕ) → handle < 2 ^ 32 → (octet_of handle == HT_TRANSIENT) ≡ true
    → is_context contexts (context_save_command handle) context ≡ is_context_of contexts TRANSIENT_FIRST context (context_of context)
asked_context contexts handle context fits transient =
    ap (λ (word : Option ℕ). is_word (λ handle. is_context_of contexts handle context (context_of context)) word) (word_of_save handle fits)
    ∙ context_as contexts handle context (context_of context) transient

pub saved_context : (contexts : ContextLimits) (handle : ℕ) (last : List ℕ) → handle < 2 ^ 32 → (octet_of handle == HT_TRANSIENT) ≡ true
    → Succeeds contexts (context_save_command handle) last → IsContext contexts (drop 10 last)
saved_context contexts handle last fits transient succeeds =
    sym (asked_context contexts handle (drop 10 last) fits transient)
    ∙ (and_parts (tag_of last == ST_NO_SESSIONS && true && true) (is_context contexts (context_save_command handle) (drop 10 last)) succeeds.form).1

word_by : (test : ℕ → Bool) (short : Bool) (word : ℕ) → is_word test (if short then None else Some word) ≡ true → (short ≡ false) × (test word ≡ true)
word_by test true word is = absurd cc
word_by test false word is = (refl, is)

pub record Handled (last : List ℕ) : Type 0 where
  pub long : 14 ≤ length last
  pub transient : (octet_of (from_be_bytes w32 (take 4 (drop 10 last))) == HT_TRANSIENT) ≡ true

pub fits_load : (contexts : ContextLimits) (context : List ℕ) (handle : ℕ) → Saved contexts context
    → fits_handle true (context_load_command context) handle ≡ (octet_of handle == HT_TRANSIENT)
fits_load contexts context handle saved =
    ap (λ (word : Option ℕ). if is_word is_session_handle word then is_word (λ saved. saved == handle) word else octet_of handle == HT_TRANSIENT)
    (word_of_load contexts context saved)
    ∙ ap (λ (session : Bool). if session then saved_handle context == handle else octet_of handle == HT_TRANSIENT)
    (not_session contexts (saved_handle context) saved.handle)

-- the response to ContextLoad has the handle of an object
pub loaded_handle : (contexts : ContextLimits) (context last : List ℕ) → IsContext contexts context → Succeeds contexts (context_load_command context) last → Handled last
loaded_handle contexts context last is succeeds =
    let asked = context_load_command context in
    let word : ℕ = from_be_bytes w32 (take 4 (drop 10 last)) in
    let rest = (and_parts (tag_of last == ST_NO_SESSIONS && is_word (fits_handle true asked) (word_at 10 last) && true) true succeeds.form).0 in
    let first = (and_parts (tag_of last == ST_NO_SESSIONS && is_word (fits_handle true asked) (word_at 10 last)) true rest).0 in
    let handled = (and_parts (tag_of last == ST_NO_SESSIONS) (is_word (fits_handle true asked) (word_at 10 last)) first).1 in
    let found = word_by (fits_handle true asked) (nat_lt (length last) 14) word handled in
    record { long = ltb-false (length last) 14 found.0; transient = sym (fits_load contexts context word (saved contexts context is)) ∙ found.1 }

-- ---- what is kept of it

-- the handle of the last response
pub last_handle : (last : Option (List ℕ)) (reply : List ℕ) (handle : ℕ) → last ≡ Some reply → 14 ≤ length reply
    → handle ≡ from_be_bytes w32 (take 4 (drop 10 reply)) → IsLastHandle last handle
last_handle last reply handle is long same =
    let word : ℕ = from_be_bytes w32 (take 4 (drop 10 reply)) in
    subst (λ (last : Option (List ℕ)). IsLastHandle last handle) (sym is)
    (ap (λ (short : Bool). if short then None else Some word) (le-ltb (length reply) 14 long) ∙ ap (λ (word : ℕ). Some word) (sym same))

-- its context
pub last_context : (last : Option (List ℕ)) (reply context : List ℕ) → last ≡ Some reply → context ≡ drop 10 reply → IsLastContext last context
last_context last reply context is same = subst (λ (last : Option (List ℕ)). IsLastContext last context) (sym is) same

-- the bytes after the header, where they were appended to none
pub copied : (ok : Bool) (none new reply : List ℕ) → ok ≡ true → new ≡ (if ok then none ++ take (length reply - 10) (drop 10 reply) else none) → none ≡ []
    → new ≡ drop 10 reply
copied true none new reply ok is empty = is ∙ ap (λ (l : List ℕ). l ++ take (length reply - 10) (drop 10 reply)) empty ∙ take_rest reply 10
copied false none new reply ok is empty = absurd cc
