-- The observable state of a source, a sink and a keeper, and the number of times each has failed.
use Rattle.std.specs.Prelude.{ℕ, List, Option}
use Rattle.audit_model.specs.Pair.{Pair}
use Rattle.audit_model.specs.Attempts.{Try}

-- the bytes of a source or a sink, if it is observable, and its count of faults
pub record Stream : Type 0 where
  pub bytes : Option (List ℕ)
  pub faults : ℕ

-- the number of failed loads, and of those that failed because another process holds the slots
pub record LoadFaults : Type 0 where
  pub all : ℕ
  pub taken : ℕ

-- the slots of a keeper and all save attempts, if it is observable, and the numbers of failed loads and saves
pub record KeeperState : Type 0 where
  pub slots : Option Pair
  pub attempted : Option (List Try)
  pub load_faults : LoadFaults
  pub save_faults : ℕ

-- the slots and all save attempts of an observable keeper
pub record SureSlots : Type 0 where
  pub slots : Pair
  pub attempted : List Try
