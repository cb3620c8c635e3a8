-- What a standard stream holds.
use Rattle.std.specs.Prelude.{ℕ}

-- a reader or a writer, and how often it has failed
pub record Counted (S : Type 0) : Type 0 where
  pub stream : S
  pub faults : ℕ

-- one that hasn't failed yet
abbrev pub new_counted : {S : Type 0} → S → Counted S
new_counted stream = record { stream = stream; faults = 0 }
