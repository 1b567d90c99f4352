use Rattle.std.proofs.Common.{◌∙◌}
use Rattle.claim_counter.proofs.Keeping.{join_keeps}
use Rattle.atomic_table.proofs.Lists.{set_else}
use Rattle.claim_counter.specs.Records.{joined_passes}
use Rattle.claim_counter.proofs.laws.join_keeps.Goals as goal

pub returns : goal.returns
returns c = λ limit count word ps i p j q h other at live. join_keeps limit count word ps i p j q h.counted h.at other (set_else ps i j (joined_passes p q) other ∙ at) h.weighs live
