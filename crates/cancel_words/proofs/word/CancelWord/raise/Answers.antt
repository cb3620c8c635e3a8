use Rattle.std.proofs.Common.{ℕ, ◌≤◌, All, rules, sym, ap, ◌∙◌, subst}
use Rattle.cancel_words.specs.View.{WordView}
use Rattle.cancel_words.proofs.Steps.{raises_it}
use Rattle.cancel_words.proofs.word.CancelWord.raise.Goals as goal

pub store-requires : goal.store-requires
store-requires c = (
  search rules,
  search rules,
  raises_it _ c.seat.inside.seat.id c.seat.inside.seat.me c.args.upto (ap (λ (v : WordView). v.role) c.seat.view_is ∙ c.requires.role)
      (subst (λ (v : WordView). All (λ (n : ℕ). n ≤ c.args.upto) v.raised) (sym c.seat.view_is) c.requires.rises),
)
