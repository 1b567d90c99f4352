use Rattle.std.proofs.Common.{Bool, false}
use Rattle.std.proofs.lemmas.List.{get_or-replicate, length-replicate}
use Rattle.report.proofs.rules.used_regions.Goals as goal

pub loop-region-init : goal.loop-region-init
loop-region-init c = record {
  width = length-replicate {A = Bool} 5000 false;
  seen = λ r l. get_or-replicate {A = Bool} 5000 r false false l;
}
