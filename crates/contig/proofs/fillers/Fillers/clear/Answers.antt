use Rattle.contig.proofs.ShortLists.{none_listed}
use Rattle.contig.proofs.fillers.Fillers.clear.Goals as goal

pub returns-clause-none : goal.returns-clause-none
returns-clause-none c = none_listed c.fill.new.self.items _ c.new.result (c.fill.ensures.items (λ y e. e)) c.new.ensures
