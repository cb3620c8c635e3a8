-- Platform configuration registers (Part 1, "PCR Operations"; Part 3, "Integrity Collection (PCR)").
use Rattle.std.specs.Prelude.{ℕ, ◌/◌, ◌%◌, ◌^◌, ◌==◌, nat_le, List, [], ◌∷◌, ◌++◌, length, get_or, take, set, bit_or, fold, flat_map, Option, Some, None, Result, Ok, if◌then◌else◌}
use Rattle.std.specs.Int.{w32, to_be_bytes}
use Rattle.sha2.specs.Sha256.{sha256}
use Rattle.tab_spec.specs.declared.TheConstants.{PCRS, MOST_PCRS_READ, ALG_SHA256, RC_HASH, RC_SIZE, RC_INSUFFICIENT}
use Rattle.tab_spec.specs.Values.{selected_below, PcrSelection, sized_bytes, selection_bytes, selection_of, Reading, number16, fixed_bytes, ◌>>=◌, then_read, require, number32}
use Rattle.tab_spec.specs.Persist.{Persist, with_pcr}
use Rattle.tab_spec.specs.Parameters.{in_parameter, when_read}

-- ---- which PCRs are selected

-- a selection with one PCR more
abbrev pub with_selected : List ℕ → ℕ → List ℕ
with_selected bits pcr = set bits (pcr / 8) (bit_or (get_or bits (pcr / 8) 0) (2 ^ (pcr % 8)))

-- the selection of these PCRs
abbrev pub selecting : List ℕ → List ℕ
selecting pcrs = fold with_selected (0 ∷ 0 ∷ 0 ∷ []) pcrs

-- ---- PCR_Read

-- the first of the selected PCRs, as many as are read at once
abbrev pub answered_pcrs : Option (List ℕ) → List ℕ
answered_pcrs None = []
answered_pcrs (Some bits) = take MOST_PCRS_READ (selected_below bits PCRS)

-- the selection of just those
abbrev pub answered_selection : Option (List ℕ) → PcrSelection
answered_selection None = record { bits = None }
answered_selection (Some bits) = record { bits = Some (selecting (answered_pcrs (Some bits))) }

-- the values of these PCRs, each a TPM2B
abbrev pub digests : List (List ℕ) → List ℕ → List ℕ
digests values pcrs = flat_map (λ pcr. sized_bytes (get_or values pcr [])) pcrs

-- the update count, the selection of what is read, and its digests
abbrev pub pcr_values : Persist → PcrSelection → List ℕ
pcr_values persist selection =
    let pcrs = answered_pcrs selection.bits in
    to_be_bytes w32 persist.updates ++ selection_bytes (answered_selection selection.bits) ++ to_be_bytes w32 (length pcrs) ++ digests persist.pcrs pcrs

abbrev pub pcr_read_row : Persist → List ℕ → Result (List ℕ) ℕ
pcr_read_row persist params = when_read (in_parameter 1 (selection_of params)) (λ selection. Ok (pcr_values persist selection))

-- ---- PCR_Extend

abbrev pub digest_with : ℕ → List ℕ → Reading (Option (List ℕ))
digest_with count bytes =
    if count == 0 then Ok (None, bytes)
    else do
      (hash, rest) ← require (λ hash. hash == ALG_SHA256) RC_HASH (number16 RC_INSUFFICIENT bytes)
      (digest, rest) ← fixed_bytes 32 RC_INSUFFICIENT rest
      Ok (Some digest, rest)

-- a list of at most one digest (Part 2, "TPML_DIGEST_VALUES")
abbrev pub digest_of : List ℕ → Reading (Option (List ℕ))
digest_of bytes = then_read (require (λ count. nat_le count 1) RC_SIZE (number32 RC_INSUFFICIENT bytes)) digest_with

-- the hash of the old value and the digest; without a digest nothing changes
abbrev pub extended : Persist → ℕ → Option (List ℕ) → Persist
extended persist pcr None = persist
extended persist pcr (Some digest) = with_pcr persist pcr (sha256 (get_or persist.pcrs pcr [] ++ digest))

abbrev pub pcr_extend_row : Persist → ℕ → List ℕ → Result Persist ℕ
pcr_extend_row persist pcr params = when_read (in_parameter 1 (digest_of params)) (λ digest. Ok (extended persist pcr digest))
