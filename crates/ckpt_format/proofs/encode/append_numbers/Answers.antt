use Rattle.std.proofs.Common.{take, refl}
use Rattle.std.specs.Int.{w32, to_be_bytes}
use Rattle.ckpt_format.proofs.Appending.{appends_more}
use Rattle.ckpt_format.proofs.Sizes.{length-even_pieces, room_for_next}
use Rattle.ckpt_format.proofs.encode.append_numbers.Goals as goal

pub append_u32-requires : goal.append_u32-requires
append_u32-requires c =
    let numbers = c.args.numbers.now in
    let i = c.loop-number.number-index in
    let even = length-even_pieces (to_be_bytes w32) 4 (take i numbers) (λ n. refl) in
    room_for_next (to_be_bytes w32) 4 numbers i c.args.piece.now c.loop-number.piece c.loop-number-test.true even c.requires c.loop-number.invariant

pub loop-number-preserved : goal.loop-number-preserved
loop-number-preserved c =
    let numbers = c.args.numbers.now in
    appends_more (to_be_bytes w32) numbers c.loop-number.number-index 0 c.args.piece.now c.loop-number.piece c.append_u32.new.piece c.loop-number-test.true c.loop-number.invariant c.append_u32.ensures
