use Rattle.audit_model.proofs.Weighing as weighing
use Rattle.audit_model.proofs.laws.ways_follow_the_weight.Goals as goal

pub returns-clause-ratio : goal.returns-clause-ratio
returns-clause-ratio c = λ job from to d small legal_from legal_to rise. weighing.ratio job from to d legal_from legal_to rise small

pub returns-clause-far : goal.returns-clause-far
returns-clause-far c = λ job from to d weighed legal_from legal_to rise beyond. weighing.far job from to d legal_from legal_to rise weighed beyond

pub returns-clause-balance : goal.returns-clause-balance
returns-clause-balance c = weighing.balance
