-- NV indexes and their commands (Part 1, "NV Memory"; Part 3, "Non-volatile Storage"). The order of the faults is this project's own profile.
use Rattle.std.specs.Prelude.{ℕ, ◌+◌, ◌-◌, ◌*◌, ◌^◌, ◌==◌, ◌&&◌, not, nat_lt, nat_le, Bool, List, [], ◌∷◌, ◌++◌, length, take, drop, replicate, bit_and, is_some, Option, Some, None, Result, Ok, Err, if◌then◌else◌}
use Rattle.std.specs.Int.{w64, from_be_bytes, to_be_bytes}
use Rattle.tab_spec.specs.declared.TheConstants.{HT_NV_INDEX, RH_OWNER, NV_INDEXES, MOST_NV_BYTES, NV_OWNERWRITE, NV_AUTHWRITE, NV_OWNERREAD, NV_AUTHREAD, NV_WRITTEN, RC_1, RC_HANDLE, RC_ATTRIBUTES, RC_SIZE, RC_INSUFFICIENT, RC_NV_RANGE, RC_NV_AUTHORIZATION, RC_NV_UNINITIALIZED, RC_NV_SPACE, RC_NV_DEFINED}
use Rattle.tab_spec.specs.NvIndex.{NvIndex, index_in, has_bits, is_index, without_index, is_counter, with_bytes, with_index, is_written}
use Rattle.tab_spec.specs.Shape.{octet_of}
use Rattle.tab_spec.specs.Values.{NvPublic, Reading, auth_of, enclosed, nv_public_of, ◌>>=◌, require, nv_public_bytes, sized_bytes, number16, sized}
use Rattle.tab_spec.specs.Admission.{unless_fault}
use Rattle.tab_spec.specs.Parameters.{in_parameter, when_read, nothing_of}
use Rattle.tab_spec.specs.Persist.{Persist}
use Rattle.tab_spec.specs.Hash.{name_of}

-- ---- which indexes there are

abbrev pub is_undefined : List NvIndex → ℕ → Bool
is_undefined nv handle = octet_of handle == HT_NV_INDEX && not (is_some (index_in handle nv))

-- the first of these handles, counted from this number, that names an index which isn't defined
abbrev pub undefined_index : List NvIndex → ℕ → List ℕ → Option ℕ
undefined_index nv number [] = None
undefined_index nv number (handle ∷ handles) =
    if is_undefined nv handle then Some (RC_HANDLE + RC_1 * number)
    else undefined_index nv (number + 1) handles

-- ---- attributes (Part 2, "TPMA_NV")

-- by whom it is written: OWNERWRITE and AUTHWRITE; and read: OWNERREAD and AUTHREAD
abbrev pub is_allowed : ℕ → ℕ → ℕ → NvIndex → Bool
is_allowed owner_bit auth_bit by item = if by == RH_OWNER then has_bits owner_bit item else is_index by item && has_bits auth_bit item

abbrev pub may_write : ℕ → NvIndex → Bool
may_write by item = is_allowed NV_OWNERWRITE NV_AUTHWRITE by item

abbrev pub may_read : ℕ → NvIndex → Bool
may_read by item = is_allowed NV_OWNERREAD NV_AUTHREAD by item

-- ---- the rows: what is kept afterwards, or the parameters of the response; first each index that is named has to be there

-- what is done with an index that is there
abbrev pub when_there : {Y : Type 0} → Option NvIndex → (NvIndex → Result Y ℕ) → Result Y ℕ
when_there None next = Err (RC_HANDLE + RC_1)
when_there (Some item) next = next item

-- NV_DefineSpace: an auth value, and a public area that doesn't say WRITTEN
abbrev pub definition_of : List ℕ → Reading (List ℕ × NvPublic)
definition_of params = do
  (auth, rest) ← in_parameter 1 (auth_of RC_INSUFFICIENT params)
  (public, rest) ← in_parameter 2 (require (λ public. bit_and NV_WRITTEN public.attributes == 0) RC_ATTRIBUTES (enclosed nv_public_of RC_INSUFFICIENT rest))
  Ok ((auth, public), rest)

abbrev pub defined : Persist → List ℕ × NvPublic → Result Persist ℕ
defined persist given =
    if is_some (index_in given.1.index persist.nv) then Err RC_NV_DEFINED
    else if nat_le NV_INDEXES (length persist.nv) then Err RC_NV_SPACE
    else Ok (record persist { nv = persist.nv ++ record { public = given.1; auth = given.0; bytes = replicate given.1.size 0 } ∷ [] })

abbrev pub nv_define_row : Persist → List ℕ → Result Persist ℕ
nv_define_row persist params = when_read (definition_of params) (defined persist)

-- NV_UndefineSpace
abbrev pub nv_undefine_row : Persist → ℕ → List ℕ → Result Persist ℕ
nv_undefine_row persist index params =
    unless_fault (undefined_index persist.nv 2 (index ∷ []))
    (when_read (nothing_of params) (λ none. Ok (record persist { nv = without_index index persist.nv })))

-- NV_ReadPublic: the public area and the Name
abbrev pub nv_read_public_row : Persist → ℕ → List ℕ → Result (List ℕ) ℕ
nv_read_public_row persist index params =
    unless_fault (undefined_index persist.nv 1 (index ∷ [])) (when_read (nothing_of params) (λ none.
    when_there (index_in index persist.nv) (λ item.
    Ok (sized_bytes (nv_public_bytes item.public) ++ sized_bytes (name_of (nv_public_bytes item.public))))))

-- NV_Write: bytes and an offset
abbrev pub writing_of : List ℕ → Reading (List ℕ × ℕ)
writing_of params = do
  (bytes, rest) ← in_parameter 1 (require (λ bytes. nat_le (length bytes) MOST_NV_BYTES) RC_SIZE (sized RC_INSUFFICIENT params))
  (offset, rest) ← in_parameter 2 (number16 RC_INSUFFICIENT rest)
  Ok ((bytes, offset), rest)

abbrev pub written : ℕ → List ℕ × ℕ → NvIndex → Result NvIndex ℕ
written by given item =
    if not (may_write by item) then Err RC_NV_AUTHORIZATION
    else if is_counter item then Err (RC_ATTRIBUTES + RC_1 * 2)
    else if nat_lt item.public.size (given.1 + length given.0) then Err RC_NV_RANGE
    else Ok (with_bytes item (take given.1 item.bytes ++ given.0 ++ drop (given.1 + length given.0) item.bytes))

-- an index that changed is kept
abbrev pub keeping_index : Persist → ℕ → Result NvIndex ℕ → Result Persist ℕ
keeping_index persist index changed = do
  item ← changed
  Ok (record persist { nv = with_index index item persist.nv })

abbrev pub nv_write_row : Persist → ℕ → ℕ → List ℕ → Result Persist ℕ
nv_write_row persist by index params =
    unless_fault (undefined_index persist.nv 1 (by ∷ index ∷ []))
    (when_read (writing_of params) (λ given. when_there (index_in index persist.nv) (λ item. keeping_index persist index (written by given item))))

-- NV_Increment: a counter rises by one
abbrev pub incremented : ℕ → NvIndex → Result NvIndex ℕ
incremented by item =
    let number = from_be_bytes w64 item.bytes in
    if not (may_write by item) then Err RC_NV_AUTHORIZATION
    else if not (is_counter item) then Err (RC_ATTRIBUTES + RC_1 * 2)
    else if number == 2 ^ 64 - 1 then Err RC_NV_RANGE
    else Ok (with_bytes item (to_be_bytes w64 (number + 1)))

abbrev pub nv_increment_row : Persist → ℕ → ℕ → List ℕ → Result Persist ℕ
nv_increment_row persist by index params =
    unless_fault (undefined_index persist.nv 1 (by ∷ index ∷ []))
    (when_read (nothing_of params) (λ none. when_there (index_in index persist.nv) (λ item. keeping_index persist index (incremented by item))))

-- NV_Read: a size and an offset
abbrev pub part_of : List ℕ → Reading (ℕ × ℕ)
part_of params = do
  (size, rest) ← in_parameter 1 (number16 RC_INSUFFICIENT params)
  (offset, rest) ← in_parameter 2 (number16 RC_INSUFFICIENT rest)
  Ok ((size, offset), rest)

abbrev pub read_part : ℕ → ℕ × ℕ → NvIndex → Result (List ℕ) ℕ
read_part by part item =
    if not (may_read by item) then Err RC_NV_AUTHORIZATION
    else if not (is_written item) then Err RC_NV_UNINITIALIZED
    else if nat_lt item.public.size (part.1 + part.0) then Err RC_NV_RANGE
    else Ok (sized_bytes (take part.0 (drop part.1 item.bytes)))

abbrev pub nv_read_row : Persist → ℕ → ℕ → List ℕ → Result (List ℕ) ℕ
nv_read_row persist by index params =
    unless_fault (undefined_index persist.nv 1 (by ∷ index ∷ []))
    (when_read (part_of params) (λ part. when_there (index_in index persist.nv) (read_part by part)))
