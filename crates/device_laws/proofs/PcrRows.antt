-- What GetRandom, SelfTest and the commands of PCRs leave, and how long their responses are; and the same of all commands whose handles stand
-- for themselves.
use Rattle.std.proofs.Common.{◌≡◌, ◌+◌, ◌*◌, ◌/◌, ◌%◌, ◌^◌, ◌≤◌, ℕ, zero, suc, min, List, [], ◌∷◌, ◌++◌, length, get_or, set, refl, ◌∙◌, arith, length-take, length-append, length-set}
use Rattle.std.specs.Prelude.{Option, Some, None, Result, Ok, Err, bit_or, fold, nat_le, ◌==◌, if◌then◌else◌}
use Rattle.std.specs.List.{AllByRecursion}
use Rattle.std.specs.Int.{w32, to_be_bytes}
use Rattle.std.proofs.lemmas.Bool.{leb-true, cond_both}
use Rattle.sha2.specs.Sha256.{sha256}
use Rattle.sha2.proofs.Facts256.{length-sha256}
use Rattle.tab_spec.specs.declared.TheConstants.{LAST_PLACE, PCRS, MOST_PCRS_READ, MOST_RANDOM_BYTES, CC_SELF_TEST, CC_GET_RANDOM, CC_PCR_READ, CC_PCR_EXTEND, CC_NV_DEFINE_SPACE, CC_NV_UNDEFINE_SPACE, CC_NV_READ_PUBLIC, CC_NV_WRITE, CC_NV_INCREMENT, CC_NV_READ, RC_COMMAND_CODE, RC_SIZE, RC_FAILURE, RC_INSUFFICIENT, RC_VALUE, RC_P, RC_1}
use Rattle.tab_spec.specs.Values.{Reading, number8, number16, sized_bytes, PcrSelection, selection_of, selection_bytes, selected_below}
use Rattle.tab_spec.specs.Parameters.{in_parameter, when_read}
use Rattle.tab_spec.specs.Persist.{Persist, IsPersist, stream_bytes, random_bytes, words_for, drawn}
use Rattle.effect_spec.specs.Pcr.{with_selected, answered_pcrs, answered_selection, digests, pcr_values, pcr_read_row, digest_of, extended, pcr_extend_row}
use Rattle.effect_spec.specs.Nv.{nv_define_row, nv_undefine_row, nv_read_public_row, nv_write_row, nv_increment_row, nv_read_row}
use Rattle.effect_spec.specs.Effect.{row_with, nv_row, random_row, random_row_drawn, self_test_row, keeping, silent}
use Rattle.device_laws.proofs.NvRows.{Short, Kept, kept_define, kept_undefine, kept_write, kept_increment, short_read, short_read_public}
use Rattle.device_laws.proofs.ObjectRows.{KeptWell}

drawn_few : (persist : Persist) (n : ℕ) → length (random_bytes persist.seed persist.place n) ≤ n
drawn_few persist n = omega (arith, length-take n (stream_bytes persist.seed persist.place (words_for n)))

sized_small : (bytes : List ℕ) (n : ℕ) → length bytes ≤ n → n ≤ 32 → length (sized_bytes bytes) ≤ 4000
sized_small bytes n within few = omega arith

fitting_draw : (persist : Persist) (n : ℕ) → IsPersist persist → n ≤ 32 → KeptWell (random_row_drawn (drawn persist n))
fitting_draw persist n sound few =
    cond_both (nat_le (persist.place + words_for n) LAST_PLACE)
    (Ok (random_bytes persist.seed persist.place n, record persist { place = persist.place + words_for n })) (Err RC_FAILURE)
    (λ draw. KeptWell (random_row_drawn draw))
    (λ there. (
      sized_small (random_bytes persist.seed persist.place n) n (drawn_few persist n) few,
      record {
        seed = sound.seed;
        place = leb-true (persist.place + words_for n) LAST_PLACE there;
        owner_auth = sound.owner_auth;
        nv_count = sound.nv_count;
        indexes = sound.indexes;
        pcr_count = sound.pcr_count;
        pcr_sizes = sound.pcr_sizes;
        updates = sound.updates;
      },
    ))
    (λ past. tt)

-- what comes of parameters that are read
pub fitting_read : {X Y : Type 0} (P : Result Y ℕ → Type 0) (reading : Reading X) (next : X → Result Y ℕ) → ((code : ℕ) → P (Err code)) → ((x : X) → P (next x)) → P (when_read reading next)
fitting_read P (Err code) next fails goes = fails code
fitting_read P (Ok read) next fails goes = cond_both (length read.1 == 0) (next read.0) (Err RC_SIZE) P (λ whole. goes read.0) (λ more. fails RC_SIZE)

fitting_random : (persist : Persist) (params : List ℕ) → IsPersist persist → KeptWell (random_row persist params)
fitting_random persist params sound =
    fitting_read KeptWell (in_parameter 1 (number16 RC_INSUFFICIENT params)) (λ requested. random_row_drawn (drawn persist (min requested MOST_RANDOM_BYTES)))
    (λ code. tt) (λ requested. fitting_draw persist (min requested MOST_RANDOM_BYTES) sound (omega arith))

-- a row that changes nothing
pub fitting_keeping : (persist : Persist) (row : Result (List ℕ) ℕ) → IsPersist persist → Short row → KeptWell (keeping persist row)
fitting_keeping persist (Err code) sound short = tt
fitting_keeping persist (Ok params) sound short = (short, sound)

short_self_test : (params : List ℕ) → Short (self_test_row params)
short_self_test params =
    fitting_read Short (in_parameter 1 (number8 RC_INSUFFICIENT params)) (λ full_test. if nat_le full_test 1 then Ok [] else Err (RC_VALUE + RC_P + RC_1))
    (λ code. tt) (λ full_test. cond_both (nat_le full_test 1) (Ok []) (Err (RC_VALUE + RC_P + RC_1)) Short (λ good. omega arith) (λ bad. tt))

-- ---- PCRs

pcr_small : (values : List (List ℕ)) (pcr : ℕ) → AllByRecursion (λ value. length value ≡ 32) values → length (get_or values pcr []) ≤ 32
pcr_small [] pcr sizes = omega arith
pcr_small (value ∷ values) zero sizes = omega (arith, sizes.0)
pcr_small (value ∷ values) (suc pcr) sizes = pcr_small values pcr sizes.1

digests_few : (values : List (List ℕ)) (pcrs : List ℕ) → AllByRecursion (λ value. length value ≡ 32) values → length (digests values pcrs) ≤ 34 * length pcrs
digests_few values [] sizes = omega arith
digests_few values (pcr ∷ pcrs) sizes =
    omega (arith, length-append (sized_bytes (get_or values pcr [])) (digests values pcrs), pcr_small values pcr sizes, digests_few values pcrs sizes)

length-selecting : (bits pcrs : List ℕ) → length (fold with_selected bits pcrs) ≡ length bits
length-selecting bits [] = refl
length-selecting bits (pcr ∷ pcrs) = length-selecting (with_selected bits pcr) pcrs ∙ length-set bits (pcr / 8) (bit_or (get_or bits (pcr / 8) 0) (2 ^ (pcr % 8)))

answered_few : (bits : Option (List ℕ)) → length (answered_pcrs bits) ≤ 8
answered_few None = omega arith
answered_few (Some bits) = omega (arith, length-take MOST_PCRS_READ (selected_below bits PCRS))

selection_small : (bits : Option (List ℕ)) → length (selection_bytes (answered_selection bits)) ≤ 10
selection_small None = omega arith
selection_small (Some bits) = omega (arith, length-selecting (0 ∷ 0 ∷ 0 ∷ []) (answered_pcrs (Some bits)))

parts_small : (updates count : ℕ) (selection values : List ℕ) → length selection ≤ 10 → length values ≤ 272
    → length (to_be_bytes w32 updates ++ selection ++ to_be_bytes w32 count ++ values) ≤ 4000
parts_small updates count selection values few small =
    omega (
      arith,
      length-append (to_be_bytes w32 updates ++ selection ++ to_be_bytes w32 count) values,
      length-append (to_be_bytes w32 updates ++ selection) (to_be_bytes w32 count),
      few,
      small,
    )

short_values : (persist : Persist) (selection : PcrSelection) → IsPersist persist → length (pcr_values persist selection) ≤ 4000
short_values persist selection sound =
    let pcrs = answered_pcrs selection.bits in
    let few : length pcrs ≤ 8 = answered_few selection.bits in
    let small : length (digests persist.pcrs pcrs) ≤ 34 * length pcrs = digests_few persist.pcrs pcrs sound.pcr_sizes in
    parts_small persist.updates (length pcrs) (selection_bytes (answered_selection selection.bits)) (digests persist.pcrs pcrs) (selection_small selection.bits)
    (omega (arith, few, small))

short_pcr_read : (persist : Persist) (params : List ℕ) → IsPersist persist → Short (pcr_read_row persist params)
short_pcr_read persist params sound =
    fitting_read Short (in_parameter 1 (selection_of params)) (λ selection. Ok (pcr_values persist selection)) (λ code. tt) (λ selection. short_values persist selection sound)

all_set : (values : List (List ℕ)) (pcr : ℕ) (value : List ℕ) → length value ≡ 32 → AllByRecursion (λ v. length v ≡ 32) values → AllByRecursion (λ v. length v ≡ 32) (set values pcr value)
all_set [] pcr value is sizes = tt
all_set (v ∷ values) zero value is sizes = (is, sizes.1)
all_set (v ∷ values) (suc pcr) value is sizes = (sizes.0, all_set values pcr value is sizes.1)

sound_extended : (persist : Persist) (pcr : ℕ) (digest : Option (List ℕ)) → IsPersist persist → IsPersist (extended persist pcr digest)
sound_extended persist pcr None sound = sound
sound_extended persist pcr (Some digest) sound =
    let value = sha256 (get_or persist.pcrs pcr [] ++ digest) in
    record {
      seed = sound.seed;
      place = sound.place;
      owner_auth = sound.owner_auth;
      nv_count = sound.nv_count;
      indexes = sound.indexes;
      pcr_count = length-set persist.pcrs pcr value ∙ sound.pcr_count;
      pcr_sizes = all_set persist.pcrs pcr value (length-sha256 (get_or persist.pcrs pcr [] ++ digest)) sound.pcr_sizes;
      updates = omega arith;
    }

fitting_silent : (row : Result Persist ℕ) → Kept row → KeptWell (silent row)
fitting_silent (Err code) sound = tt
fitting_silent (Ok kept) sound = (omega arith, sound)

kept_extend : (persist : Persist) (pcr : ℕ) (params : List ℕ) → IsPersist persist → Kept (pcr_extend_row persist pcr params)
kept_extend persist pcr params sound =
    fitting_read Kept (in_parameter 1 (digest_of params)) (λ digest. Ok (extended persist pcr digest)) (λ code. tt) (λ digest. sound_extended persist pcr digest sound)

-- ---- effects

fitting_nv : (code : ℕ) (persist : Persist) (first second : ℕ) (params : List ℕ) → IsPersist persist → KeptWell (nv_row code persist first second params)
fitting_nv code persist first second params sound =
    cond_both (code == CC_NV_DEFINE_SPACE) _ _ KeptWell (λ is. fitting_silent (nv_define_row persist params) (kept_define persist params sound)) (λ not.
    cond_both (code == CC_NV_UNDEFINE_SPACE) _ _ KeptWell (λ is. fitting_silent (nv_undefine_row persist second params) (kept_undefine persist second params sound)) (λ not.
    cond_both (code == CC_NV_READ_PUBLIC) _ _ KeptWell (λ is. fitting_keeping persist (nv_read_public_row persist first params) sound (short_read_public persist first params sound)) (λ not.
    cond_both (code == CC_NV_WRITE) _ _ KeptWell (λ is. fitting_silent (nv_write_row persist first second params) (kept_write persist first second params sound)) (λ not.
    cond_both (code == CC_NV_INCREMENT) _ _ KeptWell (λ is. fitting_silent (nv_increment_row persist first second params) (kept_increment persist first second params sound)) (λ not.
    cond_both (code == CC_NV_READ) (keeping persist (nv_read_row persist first second params)) (Err RC_COMMAND_CODE) KeptWell
    (λ is. fitting_keeping persist (nv_read_row persist first second params) sound (short_read persist first second params sound)) (λ not. tt))))))

pub fitting_row : (code : ℕ) (persist : Persist) (first second : ℕ) (params : List ℕ) → IsPersist persist → KeptWell (row_with code persist first second params)
fitting_row code persist first second params sound =
    cond_both (code == CC_SELF_TEST) _ _ KeptWell (λ is. fitting_keeping persist (self_test_row params) sound (short_self_test params)) (λ not.
    cond_both (code == CC_GET_RANDOM) _ _ KeptWell (λ is. fitting_random persist params sound) (λ not.
    cond_both (code == CC_PCR_READ) _ _ KeptWell (λ is. fitting_keeping persist (pcr_read_row persist params) sound (short_pcr_read persist params sound)) (λ not.
    cond_both (code == CC_PCR_EXTEND) (silent (pcr_extend_row persist first params)) (nv_row code persist first second params) KeptWell
    (λ is. fitting_silent (pcr_extend_row persist first params) (kept_extend persist first params sound))
    (λ not. fitting_nv code persist first second params sound))))
