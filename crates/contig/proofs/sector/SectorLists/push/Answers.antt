use Rattle.std.proofs.Common.{List, ◌≡◌, ◌-◌, length, get_or, take, arith, ◌++◌, ◌∷◌, [], ap, ◌∙◌}
use Rattle.std.proofs.lemmas.List.{get_or_default}
use Rattle.contig.specs.declared.sector.Sector.{Sector}
use Rattle.contig.proofs.Starting.{lists_more}
use Rattle.contig.proofs.sector.SectorLists.push.Goals as goal

pub returns : goal.returns
returns c =
    let starts = c.self.inside.starts.items in
    let sectors : List Sector = c.self.inside.sectors.items in
    let len = c.self.inside.starts.ok.0 in
    let len_is = c.len.ensures in
    let place : c.len.result - 1 ≡ length starts - 1 = omega (arith, len, len_is) in
    let begin = c.index-begin.ensures ∙ get_or_default starts (c.len.result - 1) c.index-begin.result.now 0 (let some = c.self.invariant.some in omega (arith, place, some)) ∙ ap (λ n. get_or starts n 0) place in
    let end_len = c.extend_from_slice.new.self.ok.0 in
    let end_is = c.len-end.ensures in
    let end : c.len-end.result ≡ length c.extend_from_slice.new.self.items = omega (arith, end_len, end_is) in
    lists_more starts c.push.new.self.items sectors c.args.sectors.now c.extend_from_slice.new.self.items c.self.invariant
    (c.in_ok-extend_from_slice.ensures.items ∙ ap (λ (t : List Sector). t ++ c.args.sectors.now) (c.truncate.ensures.items ∙ ap (λ n. take n sectors) begin))
    (c.in_ok-push.ensures.items ∙ ap (λ n. starts ++ n ∷ []) end)
    ∙ ap (λ (t : List (List Sector)). t ++ c.args.sectors.now ∷ []) c.self.view_is
