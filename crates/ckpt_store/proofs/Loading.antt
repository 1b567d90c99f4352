-- A slot with more bytes than a checkpoint can have.
use Rattle.std.proofs.Common.{ℕ, ◌+◌, ◌<◌, List, length, Option, Some, None, refl, sym, arith}
use Rattle.std.specs.Prelude.{Err, replicate}
use Rattle.std.proofs.lemmas.List.{length-replicate}
use Rattle.audit_model.specs.Pair.{Pair, stored}
use Rattle.audit_model.specs.Observed.{IfObserved}
use Rattle.audit_io.specs.Loads.{Loads}
use Rattle.audit_io.specs.declared.keeper.LoadError.TheVariants as load
use Rattle.audit_statement.specs.Slots.{checkpoint_limit}
use Rattle.ckpt_store.specs.Holding.{HasLoaded}
use Rattle.ckpt_store.specs.declared.slot_content.Loaded.TheVariants as loaded

-- for each limit there is a longer list of bytes
longer : (n : ℕ) → (bytes : List ℕ) × (n < length bytes)
longer n = (replicate (n + 1) 0, omega (arith, length-replicate {A = ℕ} (n + 1) 0))

pub loaded_long : (observed : Option Pair) (number : ℕ) (room : List ℕ) (n : ℕ) → IfObserved observed (λ p. Loads (stored p number) checkpoint_limit room (Err (load.Long n)))
    → HasLoaded observed number loaded.Long
loaded_long None number room n h = (let some_bytes = longer checkpoint_limit in record { slot = Some some_bytes.0; same = tt; is = (some_bytes.0, refl, some_bytes.1) })
loaded_long (Some p) number room n h = record { slot = Some h.0; same = sym h.1; is = (h.0, refl, h.2) }
