use Rattle.std.proofs.Common.{refl}
use Rattle.std.specs.Fmt.{digits}
use Rattle.audit_laws.proofs.examples.pairs.spelled_weights.Goals as goal

pub returns-clause-least : goal.returns-clause-least
unfolding digits
returns-clause-least c = refl

pub returns-clause-quarter : goal.returns-clause-quarter
unfolding digits
returns-clause-quarter c = refl

pub returns-clause-half : goal.returns-clause-half
unfolding digits
returns-clause-half c = refl

pub returns-clause-greatest : goal.returns-clause-greatest
unfolding digits
returns-clause-greatest c = refl

pub returns-clause-too_great : goal.returns-clause-too_great
unfolding digits
returns-clause-too_great c = refl

pub returns-clause-too_small : goal.returns-clause-too_small
unfolding digits
returns-clause-too_small c = refl

pub returns-clause-zero : goal.returns-clause-zero
unfolding digits
returns-clause-zero c = refl

pub returns-clause-zero_behind : goal.returns-clause-zero_behind
unfolding digits
returns-clause-zero_behind c = refl

pub returns-clause-zero_in_front : goal.returns-clause-zero_in_front
unfolding digits
returns-clause-zero_in_front c = refl

pub returns-clause-no_digits : goal.returns-clause-no_digits
unfolding digits
returns-clause-no_digits c = refl
