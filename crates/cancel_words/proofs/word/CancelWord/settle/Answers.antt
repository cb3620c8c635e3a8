use Rattle.std.proofs.Common.{rules, ap, ◌∙◌}
use Rattle.cancel_words.specs.View.{WordView}
use Rattle.cancel_words.proofs.Steps.{settles_it}
use Rattle.cancel_words.proofs.word.CancelWord.settle.Goals as goal

pub load-requires : goal.load-requires
load-requires c = (
  search rules,
  search rules,
  settles_it _ c.seat.inside.seat.id c.seat.inside.seat.me (ap (λ (v : WordView). v.role) c.seat.view_is ∙ c.requires.role),
)
