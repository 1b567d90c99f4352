use Rattle.std.proofs.Common.{◌≡◌, ℕ, ◌+◌, ◌*◌, ◌<◌, Bool, true, false, not, ◌==◌, List, length, get_or, set, refl, sym, ap, subst, ◌∙◌, arith, length-set}
use Rattle.std.proofs.lemmas.List.Elements.{All-get_or}
use Rattle.audit_model.specs.Graph.{has, adjacent}
use Rattle.audit_model.proofs.ListFacts.{at_has}
use Rattle.flip_kernel.specs.OpenPairs.{MarksOpenPairs}
use Rattle.flip_kernel.proofs.Beside.{not_open, open_to_neighbour}
use Rattle.flip_kernel.proofs.Tables.{place_within, IsClosed, closed_none, closed_more, IsUpdating, renewing_none, renewing_more, renewing_all}
use Rattle.flip_kernel.proofs.open_pairs.OpenPairs.update_bits.Goals as goal

pub loop-other-init : goal.loop-other-init
loop-other-init c = record {
  updating =
      renewing_none c.args.moved.graph.now c.args.moved.plan.now c.args.districts c.neighbours-other-items.result.now c.args.moved.unit c.args.home c.args.self.now
      c.args.moved.sound (omega (arith, c.args.moved.within, c.args.moved.complete)) c.neighbours-other-items.ensures.list c.requires.table;
  closed = closed_none c.args.moved.graph.now c.args.moved.plan.now c.args.districts c.args.moved.unit c.args.home c.args.self.now c.requires.table;
}

pub put-requires : goal.put-requires
put-requires c =
    let row : List ℕ = c.neighbours-other-items.result.now in
    let i : ℕ = c.loop-other.other-index in
    let below : get_or row i 0 < c.args.moved.graph.now.units = All-get_or (λ v. v < c.args.moved.graph.now.units) row i 0 c.loop-other-test.true c.neighbours-other-items.ensures.below in
    place_within c.args.moved.graph.now.units c.args.districts (get_or row i 0) (get_or c.args.moved.plan.now c.args.moved.unit 0) (length c.loop-other.self) below
    (c.requires.in_range c.args.moved.unit c.args.moved.within) c.loop-other.invariant.updating.width

pub put_elsewhere-requires-clause-inside : goal.put_elsewhere-requires-clause-inside
put_elsewhere-requires-clause-inside c =
    let row : List ℕ = c.neighbours-other-items.result.now in
    let i : ℕ = c.loop-other.other-index in
    let below : get_or row i 0 < c.args.moved.graph.now.units = All-get_or (λ v. v < c.args.moved.graph.now.units) row i 0 c.loop-other-test.true c.neighbours-other-items.ensures.below in
    let same = ap (length {A = Bool}) c.put.ensures in
    let inside = place_within c.args.moved.graph.now.units c.args.districts (get_or row i 0) c.args.home (length c.loop-other.self) below c.requires.home c.loop-other.invariant.updating.width in
    omega (arith, inside, same, length-set {A = Bool})

-- the table after two writes
twice : (first second third : List Bool) (k j : ℕ) (one other : Bool) → second ≡ set first k one → third ≡ set second j other → set (set first k one) j other ≡ third
twice first second third k j one other e is = sym (is ∙ ap (λ (t : List Bool). set t j other) e)

pub loop-other-preserved : goal.loop-other-preserved
loop-other-preserved c =
    let g = c.args.moved.graph.now in
    let plan : List ℕ = c.args.moved.plan.now in
    let row : List ℕ = c.neighbours-other-items.result.now in
    let i : ℕ = c.loop-other.other-index in
    let v : ℕ = get_or row i 0 in
    let district : ℕ = get_or plan c.args.moved.unit 0 in
    let n : ℕ = c.args.districts in
    let below : v < g.units = All-get_or (λ u. u < g.units) row i 0 c.loop-other-test.true c.neighbours-other-items.ensures.below in
    let ld : district < n = c.requires.in_range c.args.moved.unit c.args.moved.within in
    let near : adjacent g c.args.moved.unit v ≡ true = subst (λ (xs : List ℕ). has xs v ≡ true) c.neighbours-other-items.ensures.list (at_has row i c.loop-other-test.true) in
    let one = sym (open_to_neighbour g plan c.args.moved.unit v district c.args.moved.sound near refl) in
    let inside = place_within g.units n v district (length c.loop-other.self) below ld c.loop-other.invariant.updating.width in
    let inside_next : v * n + c.args.home < length (set c.loop-other.self (v * n + district) (not (get_or plan v 0 == district))) =
    omega (arith, place_within g.units n v c.args.home (length c.loop-other.self) below c.requires.home c.loop-other.invariant.updating.width, length-set {A = Bool}) in
    let written = twice c.loop-other.self c.put.new.self c.put_elsewhere.new.self (v * n + district) (v * n + c.args.home) (not (get_or plan v 0 == district)) c.scan_open-opens.result
    c.put.ensures c.put_elsewhere.ensures in
    record {
      updating = subst (λ (t : List Bool). IsUpdating g plan n row c.args.moved.unit c.args.home district (i + 1) t) written
          (renewing_more g plan n v district c.args.home (not (get_or plan v 0 == district)) c.scan_open-opens.result c.loop-other.self below
          ld c.requires.home c.loop-other.invariant.updating.width one c.scan_open-opens.ensures row c.args.moved.unit i refl c.loop-other.invariant.updating);
      closed = subst (λ (t : List Bool). IsClosed g.units plan n c.args.moved.unit t) written
          (closed_more g.units plan n c.args.moved.unit v c.args.home c.scan_open-opens.result (set c.loop-other.self (v * n + district) (not (get_or plan v 0 == district))) inside_next c.requires.home
          (λ e. c.scan_open-opens.ensures ∙ not_open g plan v c.args.home e)
          (closed_more g.units plan n c.args.moved.unit v district (not (get_or plan v 0 == district)) c.loop-other.self inside ld
          (λ e. one ∙ not_open g plan v district e) c.loop-other.invariant.closed));
    }

pub returns : goal.returns
returns c =
    let g = c.args.moved.graph.now in
    let plan : List ℕ = c.args.moved.plan.now in
    let row : List ℕ = c.neighbours-other-items.result.now in
    let i : ℕ = c.loop-other.other-index in
    let unit : ℕ = c.args.moved.unit in
    let district : ℕ = get_or plan c.args.moved.unit 0 in
    subst (λ (t : List Bool). MarksOpenPairs g plan c.args.districts t)
    (twice c.loop-other.self c.put-2.new.self c.put-3.new.self (unit * c.args.districts + district) (unit * c.args.districts + c.args.home) _ _ c.put-2.ensures c.put-3.ensures)
    (renewing_all g plan c.args.districts unit district c.args.home false true c.loop-other.self c.args.moved.within
    (c.requires.in_range c.args.moved.unit c.args.moved.within) c.requires.home c.loop-other.invariant.updating.width
    (sym (not_open g plan unit district refl)) (sym c.requires.beside)
    row i c.loop-other-test.false c.loop-other.invariant.updating)
