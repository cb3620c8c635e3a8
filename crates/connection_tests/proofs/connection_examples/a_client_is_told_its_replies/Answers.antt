use Rattle.std.proofs.Common.{◌≡◌, false, true, List, None, inl, inr}
use Rattle.tab_spec.specs.declared.TheConstants.{RC_DEVICE_ANSWER, RC_JOURNAL_FULL, RC_MEMORY}
use Rattle.tab_spec.specs.Reply.{error_reply}
use Rattle.tab_spec.specs.Shape.{makes_object, shape_of}
use Rattle.tab_spec.specs.declared.contexts.TheConstants.{PROFILE_CONTEXTS}
use Rattle.connection_core.specs.Links.{IsTold}
use Rattle.connection_tests.specs.Book.{asked, one_client, with_limit}
use Rattle.connection_tests.proofs.connection_examples.a_client_is_told_its_replies.Goals as goal

told_memory : IsTold (with_limit None 4408) false one_client 0 2 asked (error_reply RC_MEMORY) → ⊥
unfolding shape_of
told_memory (inl (inl memory)) = let makes : makes_object PROFILE_CONTEXTS asked ≡ true = memory.makes in absurd (cc makes)
told_memory (inl (inr full)) = let same : error_reply RC_MEMORY ≡ error_reply RC_JOURNAL_FULL = full.reply_is in absurd (cc same)
told_memory (inr answer) = let same : error_reply RC_MEMORY ≡ error_reply RC_DEVICE_ANSWER = answer.1 in absurd (cc same)

pub returns-clause-memory : goal.returns-clause-memory
returns-clause-memory c = told_memory
