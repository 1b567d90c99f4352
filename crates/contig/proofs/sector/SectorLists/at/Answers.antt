use Rattle.std.proofs.Common.{◌+◌, List, [], length, get_or, sym, ap, ◌∙◌, arith}
use Rattle.std.specs.Prelude.{slice_range}
use Rattle.std.proofs.lemmas.List.{get_or_default}
use Rattle.contig.specs.declared.sector.Sector.{Sector}
use Rattle.contig.proofs.Starting.{ends_too, list_at}
use Rattle.contig.proofs.sector.SectorLists.at.Goals as goal

pub index-begin-requires : goal.index-begin-requires
index-begin-requires c =
    let l = ends_too c.self.inside.starts.items c.self.inside.sectors.items c.args.self.now c.args.unit c.self.invariant.some c.self.view_is c.requires in
    let len = c.self.inside.starts.ok.0 in
    omega (arith, l, len)

pub index-end-requires : goal.index-end-requires
index-end-requires c =
    let l = ends_too c.self.inside.starts.items c.self.inside.sectors.items c.args.self.now c.args.unit c.self.invariant.some c.self.view_is c.requires in
    let len = c.self.inside.starts.ok.0 in
    omega (arith, l, len)

pub part_of-requires-clause-rises : goal.part_of-requires-clause-rises
part_of-requires-clause-rises c =
    let starts = c.self.inside.starts.items in
    let l = ends_too starts c.self.inside.sectors.items c.args.self.now c.args.unit c.self.invariant.some c.self.view_is c.requires in
    let begin = c.index-begin.ensures ∙ get_or_default starts c.args.unit c.index-begin.result.now 0 (omega (arith, l)) in
    let end = c.index-end.ensures ∙ get_or_default starts (c.args.unit + 1) c.index-end.result.now 0 l in
    let rises = c.self.invariant.rises c.args.unit l in
    omega (arith, begin, end, rises)

pub part_of-requires-clause-within : goal.part_of-requires-clause-within
part_of-requires-clause-within c =
    let starts = c.self.inside.starts.items in
    let l = ends_too starts c.self.inside.sectors.items c.args.self.now c.args.unit c.self.invariant.some c.self.view_is c.requires in
    let end = c.index-end.ensures ∙ get_or_default starts (c.args.unit + 1) c.index-end.result.now 0 l in
    let upto = c.self.invariant.upto (c.args.unit + 1) l in
    let within = c.self.invariant.within in
    let same = ap (length {A = Sector}) c.deref.ensures.value in
    omega (arith, end, upto, within, same)

pub returns : goal.returns
returns c =
    let starts = c.self.inside.starts.items in
    let sectors : List Sector = c.self.inside.sectors.items in
    let l = ends_too starts sectors c.args.self.now c.args.unit c.self.invariant.some c.self.view_is c.requires in
    let begin = c.index-begin.ensures ∙ get_or_default starts c.args.unit c.index-begin.result.now 0 (omega (arith, l)) in
    let end = c.index-end.ensures ∙ get_or_default starts (c.args.unit + 1) c.index-end.result.now 0 l in
    c.part_of.ensures ∙ ap (λ (t : List Sector). slice_range t c.index-begin.result.now c.index-end.result.now) c.deref.ensures.value
    ∙ ap (λ n. slice_range sectors n c.index-end.result.now) begin ∙ ap (slice_range sectors (get_or starts c.args.unit 0)) end
    ∙ sym (list_at starts sectors c.args.unit l) ∙ ap (λ (t : List (List Sector)). get_or t c.args.unit []) c.self.view_is
