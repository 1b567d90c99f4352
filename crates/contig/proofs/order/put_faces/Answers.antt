use Rattle.std.proofs.Common.{ℕ, ◌<◌, List, [], ◌∷◌, ◌++◌, length, get_or, map, take, refl, sym, ap, ◌∙◌, subst, arith}
use Rattle.std.proofs.lemmas.List.{map_push, take_all, take_more}
use Rattle.std.proofs.lemmas.List.Elements.{All-get_or}
use Rattle.contig.specs.declared.corner.Corner.{Corner}
use Rattle.contig.specs.Corners.{IsOnRow, units_of}
use Rattle.std.specs.Prelude.{All}
use Rattle.contig.specs.declared.sector.Sector.{Sector}
use Rattle.contig.specs.Order.{HasNear, HasSeats, IsOnGraph, IsPut}
use Rattle.contig.proofs.Seating.{near_kept, none_seated, put_near, put_width, put_within, seated_more}
use Rattle.contig.proofs.order.put_faces.Goals as goal

pub loop-corner-init : goal.loop-corner-init
loop-corner-init c = record {
  near = λ i. refl;
  width = refl;
  within = c.requires.unfaced.within;
  seats = none_seated c.args.sectors.now.items c.requires.unfaced.none;
}

pub loop-corner-preserved : goal.loop-corner-preserved
loop-corner-preserved c =
    let k : ℕ = c.loop-corner.corner-index in
    let corners : List Corner = c.args.corners.now in
    let d : Corner = record { one = 0; other = 0; far = 0; further = 0 } in
    let lt : k < length corners = c.loop-corner-test.true in
    let corner : Corner = get_or corners k d in
    let one : ℕ = get_or c.args.row.now corner.one 0 in
    let other : ℕ = get_or c.args.row.now corner.other 0 in
    let put : IsPut one other corner.far c.loop-corner.sectors.items c.put_face.new.sectors.items = c.if-not-put_face.ensures.put refl in
    let here : IsOnRow c.args.graph.now c.args.row.now (get_or corners k d) = All-get_or (IsOnRow c.args.graph.now c.args.row.now) corners k d lt c.requires.placed in
    record {
      near = λ i. put_near one other corner.far c.loop-corner.sectors.items c.put_face.new.sectors.items put i ∙ c.loop-corner.invariant.near i;
      width = put_width one other corner.far c.loop-corner.sectors.items c.put_face.new.sectors.items put ∙ c.loop-corner.invariant.width;
      within = put_within one other corner.far c.loop-corner.sectors.items c.put_face.new.sectors.items put c.args.graph.now here.far c.loop-corner.invariant.within;
      seats = subst (λ (t : List (ℕ × ℕ × ℕ × ℕ)). HasSeats t c.put_face.new.sectors.items)
          (ap (λ v. map (units_of c.args.row.now) (take k corners) ++ (one, other, corner.far, v) ∷ []) c.if-corner.false
          ∙ sym (ap (map (units_of c.args.row.now)) (take_more corners k d lt) ∙ map_push (units_of c.args.row.now) (take k corners) (get_or corners k d)))
          (seated_more one other corner.far c.loop-corner.sectors.items c.put_face.new.sectors.items put (map (units_of c.args.row.now) (take k corners)) c.loop-corner.invariant.seats);
    }

pub returns-clause-near : goal.returns-clause-near
returns-clause-near c =
    near_kept c.args.row.now c.args.sectors.now.items c.loop-corner.sectors.items c.loop-corner.invariant.width c.loop-corner.invariant.near c.requires.unfaced.near

pub returns-clause-within : goal.returns-clause-within
returns-clause-within c = c.loop-corner.invariant.within

pub returns-clause-seats : goal.returns-clause-seats
returns-clause-seats c _ =
    subst (λ (t : List Corner). HasSeats (map (units_of c.args.row.now) t) c.loop-corner.sectors.items)
    (take_all c.loop-corner.corner-index c.args.corners.now (omega (arith, c.loop-corner-test.false))) c.loop-corner.invariant.seats

pub returns-then-corner-clause-near : goal.returns-then-corner-clause-near
returns-then-corner-clause-near c =
    near_kept c.args.row.now c.args.sectors.now.items c.loop-corner.sectors.items c.loop-corner.invariant.width c.loop-corner.invariant.near c.requires.unfaced.near

pub returns-then-corner-clause-within : goal.returns-then-corner-clause-within
returns-then-corner-clause-within c = c.loop-corner.invariant.within

pub returns-then-not-put_face-clause-near : goal.returns-then-not-put_face-clause-near
returns-then-not-put_face-clause-near c =
    subst (λ (t : List Sector). HasNear c.args.row.now t) (sym (c.put_face.ensures.unchanged c.if-not-put_face.true))
    (near_kept c.args.row.now c.args.sectors.now.items c.loop-corner.sectors.items c.loop-corner.invariant.width c.loop-corner.invariant.near c.requires.unfaced.near)

pub returns-then-not-put_face-clause-within : goal.returns-then-not-put_face-clause-within
returns-then-not-put_face-clause-within c =
    subst (λ (t : List Sector). All (IsOnGraph c.args.graph.now) t) (sym (c.put_face.ensures.unchanged c.if-not-put_face.true)) c.loop-corner.invariant.within
