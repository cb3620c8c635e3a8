use Rattle.std.proofs.Common.{◌≡◌, refl, inl, inr, arith}
use Rattle.std.specs.Prelude.{◌⊎◌}
use Rattle.tab_spec.specs.declared.contexts.TheConstants.{PROFILE_CONTEXTS}
use Rattle.history_spec.specs.Told.{IsToldFull, IsToldMemory}
use Rattle.history_spec.specs.Examples.{full_reply, get_random, memory_reply, two_clients}
use Rattle.history_spec.specs.Entry.{part_before}
use Rattle.history_spec.proofs.examples.a_journal_is_told_to_be_full.Goals as goal

pub returns-clause-full : goal.returns-clause-full
returns-clause-full c = inr (record { reply_is = refl; lacks = omega arith })

not_full : IsToldMemory PROFILE_CONTEXTS (get_random 4) full_reply ⊎ IsToldFull 4710 (part_before 0 3 two_clients) (get_random 4) full_reply → ⊥
not_full (inl memory) = let same : full_reply ≡ memory_reply = memory.reply_is in absurd (cc same)
not_full (inr told) = absurd (omega (arith, told.lacks))

pub returns-clause-not_full : goal.returns-clause-not_full
returns-clause-not_full c = not_full

pub returns-clause-full_before : goal.returns-clause-full_before
returns-clause-full_before c = refl
