use Rattle.std.proofs.Common.{ap}
use Rattle.std.specs.Int.{w32, to_be_bytes}
use Rattle.std.specs.List.{flat_map}
use Rattle.ckpt_format.specs.Hashed.{Hashes, ask_bytes}
use Rattle.ckpt_format.proofs.Hashing.{hashes_same, hashes_then}
use Rattle.ckpt_format.proofs.digest.hash_setting.Goals as goal

pub returns : goal.returns
returns c =
    let key : Hashes c.hash_u32.new.hasher c.update.new.self c.args.setting.now.key = record { taken = λ before hashed. c.update.ensures before hashed } in
    let count = hashes_same _ _ _ _ (ap (to_be_bytes w32) c.len.ensures) c.hash_u32-6.ensures in
    let asks = hashes_same _ _ _ _ (ap (flat_map ask_bytes) c.as_slice.ensures) c.hash_asks.ensures in
    let two = hashes_then _ _ _ _ _ c.hash_u32.ensures key in
    let three = hashes_then _ _ _ _ _ two c.hash_u32-2.ensures in
    let four = hashes_then _ _ _ _ _ three c.hash_u32-3.ensures in
    let five = hashes_then _ _ _ _ _ four c.hash_u32-4.ensures in
    let six = hashes_then _ _ _ _ _ five c.hash_u32-5.ensures in
    hashes_then _ _ _ _ _ (hashes_then _ _ _ _ _ six count) asks
