use Rattle.std.proofs.Common.{rules, ap, ◌∙◌}
use Rattle.cancel_words.specs.View.{WordView}
use Rattle.cancel_words.proofs.Steps.{joins_it}
use Rattle.cancel_words.proofs.word.CancelWord.join.Goals as goal

pub join_seat-requires : goal.join_seat-requires
join_seat-requires c = (
  search rules,
  search rules,
  search rules,
  search rules,
  joins_it c.seat.inside.seat.id c.into_seat.result.id c.seat.inside.seat.me.0 c.into_seat.result.me.0 (ap (λ (v : WordView). v.role) c.seat.view_is ∙ c.requires.roles.0)
      (ap (λ (v : WordView). v.role) c.into_seat.ensures.view ∙ c.requires.roles.1),
)
