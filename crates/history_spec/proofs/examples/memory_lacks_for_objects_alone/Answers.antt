use Rattle.std.proofs.Common.{◌≡◌, refl, inl, inr}
use Rattle.std.specs.Prelude.{◌⊎◌, true}
use Rattle.tab_spec.specs.Shape.{makes_object, shape_of}
use Rattle.tab_spec.specs.declared.contexts.TheConstants.{PROFILE_CONTEXTS}
use Rattle.history_spec.specs.Told.{IsToldFull, IsToldMemory}
use Rattle.history_spec.specs.Examples.{full_reply, get_random, memory_reply, two_clients, load_st_clear}
use Rattle.history_spec.specs.Entry.{part_before}
use Rattle.history_spec.proofs.examples.memory_lacks_for_objects_alone.Goals as goal

pub returns-clause-no_entry : goal.returns-clause-no_entry
unfolding shape_of
returns-clause-no_entry c = inl (record { reply_is = refl; makes = refl })

told_no_memory : IsToldMemory PROFILE_CONTEXTS (get_random 4) memory_reply ⊎ IsToldFull 538 (part_before 0 3 two_clients) (get_random 4) memory_reply → ⊥
unfolding shape_of
told_no_memory (inl memory) = let makes : makes_object PROFILE_CONTEXTS (get_random 4) ≡ true = memory.makes in absurd (cc makes)
told_no_memory (inr full) = let same : memory_reply ≡ full_reply = full.reply_is in absurd (cc same)

pub returns-clause-makes_none : goal.returns-clause-makes_none
returns-clause-makes_none c = told_no_memory

no_object : IsToldMemory PROFILE_CONTEXTS load_st_clear memory_reply ⊎ IsToldFull 538 (part_before 0 3 two_clients) load_st_clear memory_reply → ⊥
unfolding shape_of
no_object (inl memory) = let makes : makes_object PROFILE_CONTEXTS load_st_clear ≡ true = memory.makes in absurd (cc makes)
no_object (inr full) = let same : memory_reply ≡ full_reply = full.reply_is in absurd (cc same)

pub returns-clause-no_object : goal.returns-clause-no_object
returns-clause-no_object c = no_object

pub returns-clause-tpm : goal.returns-clause-tpm
unfolding shape_of
returns-clause-tpm c = inl (record { reply_is = refl; makes = refl })
