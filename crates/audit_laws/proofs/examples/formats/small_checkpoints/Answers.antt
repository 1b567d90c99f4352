use Rattle.std.proofs.Common.{refl}
use Rattle.audit_statement.specs.Checkpoint.{checkpoint, checkpoint_fault}
use Rattle.sha2.specs.Sha256.{compress, digest_bytes, first_words, hash_after, rounds, schedule, sha256}
use Rattle.audit_laws.proofs.examples.formats.small_checkpoints.Goals as goal

pub returns-clause-length : goal.returns-clause-length
unfolding checkpoint checkpoint_fault first_words schedule rounds compress hash_after digest_bytes sha256
returns-clause-length c = refl

pub returns-clause-old_length : goal.returns-clause-old_length
unfolding checkpoint checkpoint_fault first_words schedule rounds compress hash_after digest_bytes sha256
returns-clause-old_length c = refl

pub returns-clause-none : goal.returns-clause-none
unfolding checkpoint checkpoint_fault first_words schedule rounds compress hash_after digest_bytes sha256
returns-clause-none c = refl

pub returns-clause-old_none : goal.returns-clause-old_none
unfolding checkpoint checkpoint_fault first_words schedule rounds compress hash_after digest_bytes sha256
returns-clause-old_none c = refl

pub returns-clause-short : goal.returns-clause-short
unfolding checkpoint checkpoint_fault first_words schedule rounds compress hash_after digest_bytes sha256
returns-clause-short c = refl

pub returns-clause-version : goal.returns-clause-version
unfolding checkpoint checkpoint_fault first_words schedule rounds compress hash_after digest_bytes sha256
returns-clause-version c = refl

pub returns-clause-generation : goal.returns-clause-generation
unfolding checkpoint checkpoint_fault first_words schedule rounds compress hash_after digest_bytes sha256
returns-clause-generation c = refl

pub returns-clause-order : goal.returns-clause-order
unfolding checkpoint checkpoint_fault first_words schedule rounds compress hash_after digest_bytes sha256
returns-clause-order c = refl

pub returns-clause-longer : goal.returns-clause-longer
unfolding checkpoint checkpoint_fault first_words schedule rounds compress hash_after digest_bytes sha256
returns-clause-longer c = refl
