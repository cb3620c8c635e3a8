use Rattle.std.proofs.Common.{◌≡◌, ℕ, List, [], ◌∷◌, refl, ap, arith}
use Rattle.rand_core.specs.Steps.{u32_at}
use Rattle.rand_chacha.specs.Block.{quarter_round, column_round, diagonal_round, double_rounds, block_word}
use Rattle.tab_spec.specs.Persist.{stream_bytes}
use Rattle.effect_spec.specs.Effect.{effect_of}
use Rattle.tab_spec.specs.Auths.{auths_of}
use Rattle.tab_spec.specs.Admission.{admitted}
use Rattle.history_spec.specs.declared.EntryKind.{EntryKind}
use Rattle.history_spec.specs.declared.EntryKind.TheVariants.{Open, Command, Canceled, Fault, Close}
use Rattle.history_spec.specs.Entry.{Entry}
use Rattle.world_spec.specs.World.{client_step, new_client, plain_step}
use Rattle.history_spec.specs.Examples.{zero_persist}
use Rattle.world_examples.specs.Examples.{world_with}
use Rattle.world_examples.proofs.commands_are_canceled.Goals as goal

pub returns-clause-legal : goal.returns-clause-legal
unfolding plain_step client_step admitted auths_of effect_of stream_bytes u32_at quarter_round column_round diagonal_round double_rounds block_word
returns-clause-legal c = (
  refl,
  (
    record {
      upto = 1;
      form = refl;
      is_open = refl;
      number = record { positive = omega arith; above = (omega arith, tt) };
      covers = omega arith;
    },
    (
      record {
        form = refl;
        is_open = refl;
        number = record { positive = omega arith; above = (omega arith, (omega arith, tt)) };
        after = world_with (zero_persist 5) 1 (new_client 0 ∷ []);
        stepped = refl;
      },
      tt,
    ),
  ),
)

pub returns-clause-above : goal.returns-clause-above
returns-clause-above c = (
  refl,
  (
    record {
      upto = 2;
      form = refl;
      is_open = refl;
      number = record { positive = omega arith; above = (omega arith, tt) };
      covers = omega arith;
    },
    tt,
  ),
)

-- up to which number commands were canceled
abbrev upto_of : EntryKind → ℕ
upto_of Open = 0
upto_of Command = 0
upto_of (Canceled upto) = upto
upto_of Fault = 0
upto_of Close = 0

pub returns-clause-below : goal.returns-clause-below
returns-clause-below c = λ legal.
    let canceled = legal.1.0 in
    let upto_is : ◌≡◌ {A = ℕ} 1 canceled.upto = ap (λ (e : Entry). upto_of e.kind) canceled.form in
    absurd (omega (arith, upto_is, canceled.covers))

abbrev last_of : List ℕ → ℕ
last_of [] = 0
last_of (byte ∷ []) = byte
last_of (byte ∷ next ∷ bytes) = last_of (next ∷ bytes)

pub returns-clause-other_reply : goal.returns-clause-other_reply
returns-clause-other_reply c = λ legal.
    let same : ◌≡◌ {A = ℕ} 3 9 = ap (λ (e : Entry). last_of e.reply) legal.1.0.form in
    absurd (omega (arith, same))
