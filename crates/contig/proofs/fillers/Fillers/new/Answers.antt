use Rattle.contig.proofs.ShortLists.{none_listed}
use Rattle.contig.proofs.fillers.Fillers.new.Goals as goal

pub returns-clause-none : goal.returns-clause-none
returns-clause-none c = none_listed c.in_ok-vec.field-0.items _ c.new.result (c.in_ok-vec.ensures.items_if_clones_equal (λ y e. e)) c.new.ensures
