use Rattle.std.proofs.Common.{◌∙◌, List, ap, subst, sym}
use Rattle.std.proofs.lemmas.Bool.{eq-eqb, false≢true}
use Rattle.tab_spec.specs.declared.TheConstants.{SESSION_NUMBERS}
use Rattle.session_swap.specs.Records.{HasFirst, names_in}
use Rattle.session_swap.proofs.Threads.{Entry, has_moved, moved_back, moved_others, number_listed}
use Rattle.session_swap.proofs.order.carry.Goals as goal

pub carry-requires-clause-listed : goal.carry-requires-clause-listed
carry-requires-clause-listed g c = number_listed c.args.lists.now.lists c.args.number c.requires.all c.requires.number

pub returns-clause-all : goal.returns-clause-all
returns-clause-all g c =
    let lists = c.args.lists.now.lists in
    let at = number_listed lists c.args.number c.requires.all c.requires.number in
    subst (λ (l : List (List Entry)). HasFirst SESSION_NUMBERS l) (sym (c.carry.ensures.lists at))
    (has_moved SESSION_NUMBERS lists c.requires.all c.args.number at c.args.list c.requires.list)

pub returns-clause-back : goal.returns-clause-back
returns-clause-back g c =
    let lists = c.args.lists.now.lists in
    let at = number_listed lists c.args.number c.requires.all c.requires.number in
    ap (λ (l : List (List Entry)). names_in l c.args.list) (c.carry.ensures.lists at)
    ∙ moved_back SESSION_NUMBERS lists c.requires.all c.args.number at c.args.list c.requires.list

pub returns-clause-others : goal.returns-clause-others
returns-clause-others g c other apart =
    let lists = c.args.lists.now.lists in
    let at = number_listed lists c.args.number c.requires.all c.requires.number in
    ap (λ (l : List (List Entry)). names_in l other) (c.carry.ensures.lists at)
    ∙ moved_others SESSION_NUMBERS lists c.requires.all c.args.number at c.args.list c.requires.list other
    (λ same. false≢true (sym apart ∙ eq-eqb other c.args.list same))
