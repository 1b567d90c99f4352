use Rattle.std.proofs.Common.{arith, length, ap}
use Rattle.outcome_book.specs.Gathered.{Gathered}
use Rattle.outcome_book.proofs.Tables.{few_there}
use Rattle.outcome_book.proofs.gathering.Gathering.to_list.Goals as goal

pub copy_into-requires : goal.copy_into-requires
copy_into-requires c =
    omega (
      arith,
      few_there c.self.inside.places.items,
      ap (λ (g : Gathered). length g.outcomes) c.self.view_is,
      c.in_ok-out.ensures.spare,
    )
