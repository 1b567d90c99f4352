use Rattle.contig.proofs.Parting.{classes_part}
use Rattle.contig.proofs.laws.classes_part_mates.Goals as goal

pub returns : goal.returns
returns c = λ g faces inside u x y class simple are connected in_set holes classing ix near_x iy near_y differ path.
    classes_part g simple inside u class x faces are connected in_set holes classing ix near_x y iy near_y differ path
