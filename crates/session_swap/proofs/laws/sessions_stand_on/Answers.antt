use Rattle.session_swap.proofs.Standing.{sessions_behind, sessions_disowned, stands_begun, stands_behind, stands_changed, stands_disowned, stands_ended}
use Rattle.session_swap.proofs.laws.sessions_stand_on.Goals as goal

pub returns-clause-changed : goal.returns-clause-changed
returns-clause-changed c =
    λ slots new view others stand started sound counter seed numbers alike.
    stands_changed slots new view others stand started sound counter seed numbers alike

pub returns-clause-begun : goal.returns-clause-begun
returns-clause-begun c =
    λ slots new view others client handle s stand started sound counter seed numbers none is fits unused sessions.
    stands_begun slots new view others client handle s stand started sound counter seed numbers none is fits unused sessions

pub returns-clause-ended : goal.returns-clause-ended
returns-clause-ended c =
    λ slots new view others handle stand started sound counter seed numbers named sessions.
    stands_ended slots new view others handle stand started sound counter seed numbers named sessions

pub returns-clause-disowned : goal.returns-clause-disowned
returns-clause-disowned c = λ slots view left others handle stand named. stands_disowned slots view left others handle stand named

pub returns-clause-stays : goal.returns-clause-stays
returns-clause-stays c = λ slots items number. sessions_disowned slots items number

pub returns-clause-left : goal.returns-clause-left
returns-clause-left c = λ slots view left others handle stand named. stands_behind slots view left others handle stand named

pub returns-clause-left_stays : goal.returns-clause-left_stays
returns-clause-left_stays c = λ slots items number. sessions_behind slots items number
