use Rattle.std.proofs.Common.{arith, string_bytes}
use Rattle.std.proofs.lemmas.List.{length-map}
use Rattle.audit_words.specs.ArgumentBytes.{argument_bytes}
use Rattle.audit_words.proofs.Pairing.{pairs-lower, pairs-upper}
use Rattle.audit_words.proofs.pairs.count.Goals as goal

pub returns : goal.returns
returns c = omega (arith, pairs-lower (argument_bytes c.args.words.now), pairs-upper (argument_bytes c.args.words.now), length-map c.args.words.now string_bytes, c.div_ceil.ensures)
