use Rattle.std.proofs.Common.{refl}
use Rattle.std.specs.Fmt.{digits}
use Rattle.hex.specs.Hex.{decode_pairs}
use Rattle.audit_statement.specs.Words.{setting_of}
use Rattle.audit_laws.proofs.examples.formats.accepted_words.Goals as goal

pub returns : goal.returns
unfolding setting_of digits decode_pairs
returns c = refl
