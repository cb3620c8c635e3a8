-- Each move keeps the rule of a way.
use Rattle.std.proofs.Common.{ℕ, Bool, List, [], All, Option}
use Rattle.std.specs.Prelude.{⊤}
use Rattle.std.proofs.lemmas.List.Elements.{All-head, All-nil, All-push, All-tail}
use Rattle.crossbeam_channel.specs.Fifo.{Pops, Pushes}
use Rattle.history_spec.specs.Entry.{Entry}
use Rattle.broker_lock.specs.Known.{Origin}
use Rattle.connection_core.specs.declared.way.Handed.{Handed}
use Rattle.connection_core.specs.Handing.{KeepsHanded}
use Rattle.connection_core.specs.Keeps.{Start}

-- the rule
abbrev pub AreKept : {B K : Type 0} → (legal : Origin → List Entry → Type 0) → (written : K → Option (List ℕ)) → (ended : K → Option Bool) → (faults : K → ℕ) → Option Start → List (Handed B K) → List ⊤ → Type 0
AreKept legal written ended faults begun items views = All (KeepsHanded legal written ended faults begun) items

pub begins_kept : {B K : Type 0} (legal : Origin → List Entry → Type 0) (written : K → Option (List ℕ)) (ended : K → Option Bool) (faults : K → ℕ) (begun : Option Start) (views : List ⊤) → AreKept {B = B} {K = K} legal written ended faults begun [] views
begins_kept legal written ended faults begun views = All-nil (KeepsHanded legal written ended faults begun)

pub gives_kept : {B K : Type 0} (legal : Origin → List Entry → Type 0) (written : K → Option (List ℕ)) (ended : K → Option Bool) (faults : K → ℕ) (begun : Option Start) (room place : ℕ) (v : ⊤) (x : Handed B K)
    → KeepsHanded legal written ended faults begun x → Pushes (AreKept {B = B} {K = K} legal written ended faults begun) room place v x (λ w. KeepsHanded legal written ended faults begun x)
gives_kept legal written ended faults begun room place v x kept items views _ h at = (v, All-push (KeepsHanded legal written ended faults begun) items x h kept, kept)

pub takes_kept : {B K : Type 0} (legal : Origin → List Entry → Type 0) (written : K → Option (List ℕ)) (ended : K → Option Bool) (faults : K → ℕ) (begun : Option Start) (place : ℕ) (v : ⊤)
    → Pops (AreKept {B = B} {K = K} legal written ended faults begun) place v (λ x w. KeepsHanded legal written ended faults begun x)
takes_kept legal written ended faults begun place v x items views h at =
    (v, All-tail (KeepsHanded legal written ended faults begun) x items h, All-head (KeepsHanded legal written ended faults begun) x items h)
