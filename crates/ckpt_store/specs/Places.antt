-- The places that a checkpoint may go to.
use Rattle.std.specs.Prelude.{◌<◌}
use Rattle.audit_model.specs.declared.place.Place.{Place}

-- one of the two slots, and one of the three generations
pub record IsPlace (p : Place) : Type 0 where
  pub slot : p.slot < 2
  pub generation : p.generation < 3
