use Rattle.std.proofs.Common.{refl, sym, ap, inr, arith, string_bytes, ◌∙◌, map, length, [], suc, ◌+◌, ◌≡◌, Some}
use Rattle.std.proofs.lemmas.List.{length-map}
use Rattle.csv.specs.Records.{fields_of}
use Rattle.std.specs.List.{slice_index_or}
use Rattle.audit_model.specs.declared.fault.TableFault.TheVariants as fault
use Rattle.plan_csv.proofs.Pushed.{row_is}
use Rattle.plan_csv.proofs.United.{unknown_here, united_more, united_all}
use Rattle.plan_csv.proofs.units.units_of.Goals as goal

pub loop-entry-init : goal.loop-entry-init
loop-entry-init c = λ ids is. record { none = refl; count = ap length c.new-units.ensures.items; each = λ e l. absurd (omega (arith, l)) }

pub returns-in_default : goal.returns-in_default
returns-in_default c = λ ids is.
    let l = c.loop-entry-test.true in
    let at = ap (λ row. slice_index_or row 0 []) (row_is c.args.entries.now c.loop-entry.entry c.index-entries-entry.result l c.index-entries-entry.is) ∙ sym c.field.ensures in
    let next : suc c.loop-entry.entry ≡ c.loop-entry.entry + 1 = omega arith in
    inr (unknown_here string_bytes ids c.args.index.now.entries is (map fields_of c.args.entries.now) c.loop-entry.entry c.loop-entry.units.items (c.loop-entry.invariant ids is) c.field.result.now at
    (omega (arith, l, length-map c.args.entries.now fields_of)) (sym c.in_default.ensures.value)
    ∙ ap (λ k. Some (fault.UnknownId k)) next)

pub loop-entry-preserved : goal.loop-entry-preserved
loop-entry-preserved c = λ ids is.
    let l = c.loop-entry-test.true in
    let at = ap (λ row. slice_index_or row 0 []) (row_is c.args.entries.now c.loop-entry.entry c.index-entries-entry.result l c.index-entries-entry.is) ∙ sym c.field.ensures in
    united_more string_bytes ids c.args.index.now.entries is (map fields_of c.args.entries.now) c.loop-entry.entry c.loop-entry.units.items (c.loop-entry.invariant ids is) c.field.result.now at
    c.in-Some.unit.now c.push.new.self.items (sym c.in-Some.ensures.value) c.in_ok-push.ensures.items

pub returns : goal.returns
returns c =
    let low = c.loop-entry.auto.entry-end in
    let high = c.loop-entry-test.false in
    λ ids is. united_all ids (map fields_of c.args.entries.now) c.loop-entry.entry c.loop-entry.units.items (omega (arith, low, high, length-map c.args.entries.now fields_of)) (c.loop-entry.invariant ids is)
