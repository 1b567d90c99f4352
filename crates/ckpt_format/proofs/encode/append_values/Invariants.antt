use Rattle.std.proofs.Common.{take}
use Rattle.std.specs.Prelude.{flat_map, FitsSigned}
use Rattle.std.specs.List.{All}
use Rattle.std.specs.Int.{w64, to_be_bytes, cast_unsigned}
use Rattle.ckpt_format.specs.Written.{AppendsBytes}
use Rattle.ckpt_format.proofs.encode.append_values.Given as goal

abbrev pub invariant-loop-value : goal.invariant-loop-value
invariant-loop-value l = record {
  bytes : AppendsBytes l.fn.piece l.piece (flat_map (λ v. to_be_bytes w64 (cast_unsigned w64 v)) (take l.value-index l.values));
  sound : All (FitsSigned w64) (take l.value-index l.values);
}
