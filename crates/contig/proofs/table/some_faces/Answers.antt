use Rattle.std.proofs.Common.{length, ap, arith}
use Rattle.contig.specs.Faces.{SparedFace}
use Rattle.contig.proofs.Adding.{listed_length}
use Rattle.contig.proofs.table.some_faces.Goals as goal

pub returns-clause-few : goal.returns-clause-few
returns-clause-few c =
    let as_many = listed_length c.faces.result.now in
    let same = ap (length {A = SparedFace}) c.faces.ensures in
    omega (arith, as_many, same, c.if-faces-gt-MOST.false)
