-- What is known of the turn at an acceptor.
use Rattle.std.specs.Prelude.{◌≡◌, ◌⊎◌, ℕ, ◌+◌, Bool, true, false, List, [], length, Option, Some}
use Rattle.tab_spec.specs.Count.{Rose}
use Rattle.accept_loop.specs.Connections.{AreFirst}
use Rattle.link_pool.specs.declared.turn.Stage.{Stage}
use Rattle.link_pool.specs.declared.turn.Stage.TheVariants as stages
use Rattle.link_pool.specs.declared.turn.Turn.{Turn}
use Rattle.link_pool.specs.Starts.{PoolStart}

abbrev pub accepted_of : {A S K : Type 0} → Turn A S K → List (S × K)
accepted_of turn = turn.accepted.value

-- as many were accepted as were asked for, or all that came
abbrev pub IsAll : {L : Type 0} → (left : ℕ) → Option (List L) → Type 0
IsAll {L} left coming = (left ≡ 0) ⊎ ((rest : List L) → coming ≡ Some rest → rest ≡ [])

-- by how far accepting has come
abbrev pub HasCome : {L : Type 0} → Stage → (faults faults_new left : ℕ) → Option (List L) → Type 0
HasCome stages.Going faults faults_new left coming = faults_new ≡ faults
HasCome stages.Over faults faults_new left coming = (faults_new ≡ faults) × IsAll left coming
HasCome stages.Failed faults faults_new left coming = Rose faults faults_new

-- whether nobody more is accepted
abbrev pub is_over : Stage → Bool
is_over stages.Going = false
is_over stages.Over = true
is_over stages.Failed = true

-- the first connections that came were accepted: by which acceptor it is, what it tells, and how far accepting has come
pub record AcceptedSince {L : Type 0} (start : PoolStart L) (name faults : ℕ) (coming : Option (List L)) (left : ℕ) (stage : Stage) (accepted : List L) : Type 0 where
  pub same : name ≡ start.name
  pub first : AreFirst start.coming coming accepted
  pub count : length accepted + left ≡ start.most
  pub come : HasCome stage start.faults faults left coming

abbrev pub TurnAcceptedSince : {A S K : Type 0} → (coming : A → Option (List (S × K))) → (faults name : A → ℕ) → PoolStart (S × K) → Turn A S K → Type 0
TurnAcceptedSince coming faults name start turn =
    AcceptedSince start (name turn.acceptor) (faults turn.acceptor) (coming turn.acceptor) turn.left turn.stage turn.accepted.value
