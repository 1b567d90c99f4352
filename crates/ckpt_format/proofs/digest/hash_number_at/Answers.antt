use Rattle.std.proofs.Common.{ℕ, List, get_or, ap}
use Rattle.std.specs.Int.{w64, to_be_bytes}
use Rattle.ckpt_format.proofs.Hashing.{hashes_same}
use Rattle.ckpt_format.proofs.digest.hash_number_at.Goals as goal

pub returns : goal.returns
returns c = hashes_same _ _ _ _ (ap (λ (numbers : List ℕ). to_be_bytes w64 (get_or numbers c.args.index 0)) c.as_slice.ensures) c.hash_u64.ensures
