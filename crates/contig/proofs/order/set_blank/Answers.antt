use Rattle.std.proofs.Common.{◌∷◌, [], ◌++◌, List, get_or, map, take, sym, ap, ◌∙◌, arith}
use Rattle.std.proofs.lemmas.List.{map_push, take_all, take_more}
use Rattle.contig.specs.declared.sector.Sector.{Sector}
use Rattle.contig.specs.Order.{blank_at}
use Rattle.contig.proofs.order.set_blank.Goals as goal

pub loop-unit-preserved : goal.loop-unit-preserved
loop-unit-preserved c =
    let row = c.args.row.now in
    let k = c.loop-unit.unit-index in
    c.in_ok-push.ensures.items ∙ ap (λ (t : List Sector). t ++ blank_at (get_or row k 0) ∷ []) c.loop-unit.invariant
    ∙ sym (ap (map blank_at) (take_more row k 0 c.loop-unit-test.true) ∙ map_push blank_at (take k row) (get_or row k 0))

pub returns : goal.returns
returns c = c.loop-unit.invariant ∙ ap (map blank_at) (take_all c.loop-unit.unit-index c.args.row.now (omega (arith, c.loop-unit-test.false)))
