use Rattle.std.proofs.Common.{rules, ◌≡◌, ℕ, replicate}
use Rattle.contig.specs.declared.corner.Corner.{Corner}
use Rattle.contig.specs.declared.span.Span.{Span}
use Rattle.contig.proofs.Spanning.{no_items}
use Rattle.contig.proofs.corner.CornerLists.without_room.Goals as goal

pub returns-clause-none : goal.returns-clause-none
returns-clause-none c =
    let spans : c.in_ok-vec.field-0.items ≡ replicate {A = Span} c.units-units.result (record { begin = 0; end = 0 }) = c.in_ok-vec.ensures.items_if_clones_equal (λ y h. search rules) in
    let limits : c.in_ok-vec-2.field-0.items ≡ replicate {A = ℕ} c.units-units.result 0 = c.in_ok-vec-2.ensures.items_if_clones_equal (λ y h. search rules) in
    no_items {A = Corner} c.units-units.result c.in_ok-vec.field-0.items c.in_ok-vec-2.field-0.items c.new.result.items spans limits
