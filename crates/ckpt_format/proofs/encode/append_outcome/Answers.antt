use Rattle.std.proofs.Common.{◌≡◌, ap, refl, rules, arith}
use Rattle.std.specs.Int.{w64, to_be_bytes, cast_unsigned}
use Rattle.ckpt_format.proofs.Appending.{appends_piece, appends_then, piece_length}
use Rattle.ckpt_format.proofs.Sizes.{length-bytes_of, length-even_pieces}
use Rattle.ckpt_format.proofs.encode.append_outcome.Goals as goal

pub append_histogram-requires : goal.append_histogram-requires
append_histogram-requires c =
    λ written.
    let values = length-even_pieces (λ v. to_be_bytes w64 (cast_unsigned w64 v)) 8 c.args.outcome.now.values (λ v. refl) in
    let room : c.new-piece.result.spare ≡ 80 = ap (λ r. r.spare) c.new-piece.ensures in
    omega (arith, room, values, c.append_u32.ensures.spare, c.append_u64.ensures.spare, c.append_values.ensures.bytes.spare)

pub append-requires : goal.append-requires
append-requires c =
    let whole = appends_then _ _ _ _ _ (appends_then _ _ _ _ _ (appends_then _ _ _ _ _ c.append_u32.ensures c.append_u64.ensures) c.append_values.ensures.bytes) c.append_histogram.ensures.bytes in
    let long = piece_length _ _ _ _ c.new-piece.ensures whole c.as_slice.ensures in
    omega (arith, long, length-bytes_of c.args.with_histogram c.args.outcome.now (search rules) (search rules), c.requires)

pub returns-clause-bytes : goal.returns-clause-bytes
returns-clause-bytes c =
    let whole = appends_then _ _ _ _ _ (appends_then _ _ _ _ _ (appends_then _ _ _ _ _ c.append_u32.ensures c.append_u64.ensures) c.append_values.ensures.bytes) c.append_histogram.ensures.bytes in
    appends_piece _ _ _ _ _ _ c.new-piece.ensures whole c.as_slice.ensures c.append.ensures
