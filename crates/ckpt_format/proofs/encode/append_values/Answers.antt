use Rattle.std.proofs.Common.{ℤ, pos, SFits, w64, get_or, take, refl, subst, rules, to_z, of_z, arith}
use Rattle.std.proofs.lemmas.Int.{to_z-of_z}
use Rattle.std.proofs.lemmas.List.{take_all}
use Rattle.std.proofs.lemmas.List.Elements.{All-more, recursion_from_All}
use Rattle.std.specs.Prelude.{FitsSigned}
use Rattle.std.specs.List.{All}
use Rattle.std.specs.Int.{to_be_bytes, cast_unsigned}
use Rattle.ckpt_format.specs.Written.{AppendsBytes}
use Rattle.ckpt_format.proofs.Appending.{appends_more}
use Rattle.ckpt_format.proofs.Sizes.{length-even_pieces, room_for_next}
use Rattle.ckpt_format.proofs.encode.append_values.Goals as goal

pub append_i64-requires : goal.append_i64-requires
append_i64-requires c =
    let values = c.args.values.now in
    let i = c.loop-value.value-index in
    let even = length-even_pieces (λ v. to_be_bytes w64 (cast_unsigned w64 v)) 8 (take i values) (λ v. refl) in
    room_for_next (λ v. to_be_bytes w64 (cast_unsigned w64 v)) 8 values i c.args.piece.now c.loop-value.piece c.loop-value-test.true even c.requires c.loop-value.invariant.bytes

pub loop-value-preserved : goal.loop-value-preserved
loop-value-preserved c =
    let values = c.args.values.now in
    let i = c.loop-value.value-index in
    let v : ℤ = get_or values i (pos 0) in
    let fits : SFits w64 v = search rules in
    let appended : AppendsBytes c.loop-value.piece c.append_i64.new.piece (to_be_bytes w64 (cast_unsigned w64 (to_z w64 (of_z w64 v)))) = c.append_i64.ensures in
    let this : AppendsBytes c.loop-value.piece c.append_i64.new.piece (to_be_bytes w64 (cast_unsigned w64 v)) =
    subst (λ z. AppendsBytes c.loop-value.piece c.append_i64.new.piece (to_be_bytes w64 (cast_unsigned w64 z))) (to_z-of_z w64 v fits) appended in
    record {
      bytes = appends_more (λ v. to_be_bytes w64 (cast_unsigned w64 v)) values i (pos 0) c.args.piece.now c.loop-value.piece c.append_i64.new.piece c.loop-value-test.true c.loop-value.invariant.bytes this;
      sound = All-more (FitsSigned w64) values i (pos 0) c.loop-value-test.true c.loop-value.invariant.sound fits;
    }

pub returns-clause-sound : goal.returns-clause-sound
returns-clause-sound c =
    let values = c.args.values.now in
    recursion_from_All (FitsSigned w64) values (subst (All (FitsSigned w64)) (take_all c.loop-value.value-index values (omega arith)) c.loop-value.invariant.sound)
