-- The bytes that a hasher has taken in, part by part.
use Rattle.std.specs.Prelude.{ℕ, ◌&&◌, List, ◌++◌, flat_map, length, nat_lt}
use Rattle.std.specs.Int.{w32, to_be_bytes}
use Rattle.sha2.specs.Hashers.{Holds256}
use Rattle.sha2.specs.declared.Sha256.{Sha256}
use Rattle.audit_model.specs.declared.setting.Ask.{Ask}
use Rattle.audit_model.specs.declared.setting.Setting.{Setting}
use Rattle.audit_model.specs.Below.{filter_below}
use Rattle.audit_model.specs.Graph.{Graph, adjacent}
use Rattle.audit_statement.specs.Checkpoint.{score_code, tail_code}

-- the hasher took in these bytes
pub record Hashes (old new : Sha256) (bytes : List ℕ) : Type 0 where
  pub taken : (before : List ℕ) → Holds256 old before → Holds256 new (before ++ bytes)

-- the bytes of an edge between two units
abbrev pub pair_bytes : ℕ → ℕ → List ℕ
pair_bytes u v = to_be_bytes w32 u ++ to_be_bytes w32 v

-- the edges from a unit to greater ones
abbrev pub edges_from : Graph → ℕ → List ℕ
edges_from g u = flat_map (pair_bytes u) (filter_below g.units (λ v. nat_lt u v && adjacent g u v))

-- the bytes between the name of the format and the edges
abbrev pub counts_bytes : ℕ → ℕ → ℕ → List ℕ
counts_bytes units edges districts = to_be_bytes w32 units ++ to_be_bytes w32 edges ++ to_be_bytes w32 districts

abbrev pub ask_bytes : Ask → List ℕ
ask_bytes ask = to_be_bytes w32 (score_code ask.score) ++ to_be_bytes w32 (tail_code ask.tail)

-- the bytes after the units
abbrev pub setting_bytes : Setting → List ℕ
setting_bytes s =
    to_be_bytes w32 s.slack ++ s.key
    ++ to_be_bytes w32 s.walks ++ to_be_bytes w32 s.steps ++ to_be_bytes w32 s.ends ++ to_be_bytes w32 s.hub_steps
    ++ to_be_bytes w32 (length s.asks) ++ flat_map ask_bytes s.asks
