use Rattle.std.proofs.Common.{subst, rules, arith}
use Rattle.ckpt_format.specs.Written.{AppendsBytes, head_bytes}
use Rattle.ckpt_format.proofs.Appending.{appends_piece, appends_then, piece_length}
use Rattle.ckpt_format.proofs.Sizes.{length-head_bytes}
use Rattle.ckpt_format.proofs.encode.append_head.Goals as goal

pub append-requires-3 : goal.append-requires-3
append-requires-3 c =
    let whole = appends_then _ _ _ _ _
    (appends_then _ _ _ _ _ (appends_then _ _ _ _ _ (appends_then _ _ _ _ _ c.append.ensures c.append_u32.ensures) c.append-2.ensures) c.append_u32-2.ensures)
    c.append_u32-3.ensures in
    let long = piece_length _ _ _ _ c.new-piece.ensures whole c.as_slice.ensures in
    omega (arith, long, length-head_bytes c.args.version c.args.digest.now c.args.generation c.args.count (search rules), c.requires)

pub returns : goal.returns
returns c =
    let whole = appends_then _ _ _ _ _
    (appends_then _ _ _ _ _ (appends_then _ _ _ _ _ (appends_then _ _ _ _ _ c.append.ensures c.append_u32.ensures) c.append-2.ensures) c.append_u32-2.ensures)
    c.append_u32-3.ensures in
    subst (λ n. AppendsBytes c.args.out.now c.append-3.new.out (head_bytes c.args.version c.args.digest.now n c.args.count)) c.from.ensures
    (appends_piece _ _ _ _ _ _ c.new-piece.ensures whole c.as_slice.ensures c.append-3.ensures)
