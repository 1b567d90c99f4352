use Rattle.std.proofs.Common.{◌≡◌, ◌+◌, ◌<◌, ◌++◌, ◌∷◌, [], ℕ, List, length, get_or, map, set, sym, ap, ◌∙◌, subst, arith}
use Rattle.std.proofs.lemmas.List.{get_or_read, length-map}
use Rattle.contig.specs.declared.corner.Corner.{Corner}
use Rattle.contig.specs.declared.span.Span.{Span}
use Rattle.contig.specs.Spans.{IsWithin, part, span_at}
use Rattle.contig.proofs.Spanning.{within_at, grown, moved, moved_room}
use Rattle.contig.proofs.corner.CornerLists.push.Goals as goal

-- a unit has a span
inside : (spans : List Span) (xs : List Corner) (now : List (List Corner)) (u : ℕ) → map (part xs) spans ≡ now → u < length now → u < length spans
inside spans xs now u is l =
    let all = length-map spans (part xs) in
    let same = ap (length {A = List Corner}) is in
    omega (arith, all, same, l)

span_is : (spans : List Span) (u : ℕ) (span : Span) → u < length spans → span ≡ get_or spans u span → span ≡ span_at spans u
span_is spans u span l is = get_or_read spans u span l is (record { begin = 0; end = 0 })

pub copy_with-requires : goal.copy_with-requires
copy_with-requires c =
    let i = c.self.inside in
    let lu = inside i.spans.items i.corners.items c.args.self.now c.args.unit c.self.view_is c.requires in
    subst (λ (s : Span). IsWithin i.corners.items s) (sym (span_is i.spans.items c.args.unit c.index-span.result.now lu c.index-span.ensures))
    (within_at i.spans.items i.limits.items i.corners.items c.self.invariant c.args.unit lu)

pub returns-then-span-index-clause-ok : goal.returns-then-span-index-clause-ok
returns-then-span-index-clause-ok c =
    let i = c.self.inside in
    let spans = i.spans.items in
    let xs : List Corner = i.corners.items in
    let u : ℕ = c.args.unit in
    let lu = inside spans xs c.args.self.now u c.self.view_is c.requires in
    let is = span_is spans u c.index-span.result.now lu c.index-span.ensures in
    let wide = c.self.invariant.width in
    let limit : c.index.result.now ≡ get_or i.limits.items u 0 = get_or_read i.limits.items u c.index.result.now (omega (arith, lu, wide)) c.index.ensures 0 in
    let end : c.index-span.result.now.end ≡ (span_at spans u).end = ap (λ (s : Span). s.end) is in
    let test = c.if-span-index.true in
    subst (λ (s : Span). map (part (set xs s.end c.args.corner)) (set spans u (record { begin = s.begin; end = s.end + 1 }))
    ≡ set c.args.self.now u (get_or c.args.self.now u [] ++ c.args.corner ∷ [])) (sym is)
    (grown spans i.limits.items xs c.self.invariant u lu c.args.corner (omega (arith, test, limit, end))
    ∙ ap (λ (rows : List (List Corner)). set rows u (get_or rows u [] ++ c.args.corner ∷ [])) c.self.view_is)

copied : (c : goal.After-self-3-1) → c.copy_with.new.corners.items ≡ c.self.inside.corners.items ++ (part c.self.inside.corners.items (span_at c.self.inside.spans.items c.args.unit) ++ c.args.corner ∷ [])
copied c =
    let i = c.self.inside in
    let lu = inside i.spans.items i.corners.items c.args.self.now c.args.unit c.self.view_is c.requires in
    c.in_ok-copy_with.ensures.ok
    ∙ ap (λ (s : Span). i.corners.items ++ (part i.corners.items s ++ c.args.corner ∷ [])) (span_is i.spans.items c.args.unit c.index-span.result.now lu c.index-span.ensures)

begin_is : (c : goal.After-self-3-1) → c.len-begin.result ≡ length c.self.inside.corners.items
begin_is c = let is = c.len-begin.ensures in let ok = c.self.inside.corners.ok.0 in omega (arith, is, ok)

end_is : (c : goal.After-self-3-1) → c.len-end.result ≡ length c.copy_with.new.corners.items
end_is c = let is = c.len-end.ensures in let ok = c.copy_with.new.corners.ok.0 in omega (arith, is, ok)

limit_is : (c : goal.After-self-3-1) → c.len.result ≡ length c.add_room.new.corners.items
limit_is c = let is = c.len.ensures in let ok = c.add_room.new.corners.ok.0 in omega (arith, is, ok)

pub invariant_of-self-2 : goal.invariant_of-self-2
invariant_of-self-2 c =
    let i = c.self.inside in
    moved_room i.spans.items i.limits.items i.corners.items c.self.invariant c.args.unit (inside i.spans.items i.corners.items c.args.self.now c.args.unit c.self.view_is c.requires)
    c.args.corner c.copy_with.new.corners.items c.add_room.new.corners.items c.add_room.ensures.0 c.len-begin.result c.len-end.result (copied c) c.add_room.ensures.1 (begin_is c) (end_is c)
    c.len.result (limit_is c)

pub returns-clause-ok : goal.returns-clause-ok
returns-clause-ok c =
    let i = c.self.inside in
    moved i.spans.items i.limits.items i.corners.items c.self.invariant c.args.unit (inside i.spans.items i.corners.items c.args.self.now c.args.unit c.self.view_is c.requires)
    c.args.corner c.copy_with.new.corners.items c.add_room.new.corners.items c.add_room.ensures.0 c.len-begin.result c.len-end.result (copied c) c.add_room.ensures.1 (begin_is c) (end_is c)
    ∙ ap (λ (rows : List (List Corner)). set rows c.args.unit (get_or rows c.args.unit [] ++ c.args.corner ∷ [])) c.self.view_is
