use Rattle.std.proofs.Common.{refl, sym, ap, inr, arith, string_bytes, ◌∙◌, []}
use Rattle.std.specs.Map.{lookup}
use Rattle.std.specs.Cmp.Lexicographic.{slice_cmp}
use Rattle.std.specs.Ordering.{is_eq, nat_cmp}
use Rattle.audit_statement.specs.Table.{id_text}
use Rattle.audit_model.specs.declared.setting.Label.TheVariants.{Word}
use Rattle.plan_csv.proofs.Pushed.{item_is}
use Rattle.plan_csv.proofs.Indexed.{shared_here, indexed_more, indexed_all}
use Rattle.plan_csv.proofs.units.index_of.Goals as goal

pub loop-unit-init : goal.loop-unit-init
loop-unit-init c = record { leads = λ q. ap (lookup (λ k. is_eq (slice_cmp nat_cmp q (string_bytes k)))) c.new-index.ensures.empty; none = refl }

pub returns-in-Some : goal.returns-in-Some
returns-in-Some c =
    let l = c.loop-unit-test.true in
    let at = c.as_str.ensures.value ∙ c.in_ok-text.ensures ∙ ap id_text (sym (item_is c.args.ids.now c.loop-unit.unit c.index-ids-unit.result (Word []) l c.index-ids-unit.is)) in
    inr (shared_here string_bytes c.args.ids.now c.loop-unit.unit c.loop-unit.index.entries c.as_str.result.now c.loop-unit.invariant at c.in-Some.one.now l (sym c.in-Some.ensures.value))

pub loop-unit-preserved : goal.loop-unit-preserved
loop-unit-preserved c =
    let l = c.loop-unit-test.true in
    let at = c.as_str.ensures.value ∙ c.in_ok-text.ensures ∙ ap id_text (sym (item_is c.args.ids.now c.loop-unit.unit c.index-ids-unit.result (Word []) l c.index-ids-unit.is)) in
    indexed_more string_bytes c.args.ids.now c.loop-unit.unit c.loop-unit.index.entries c.as_str.result.now c.loop-unit.invariant at
    c.in_ok-text.text (sym c.as_str.ensures.value) (sym c.in_default.ensures.value) c.insert.new.self.entries c.in_ok-insert.ensures.entries

pub returns : goal.returns
returns c =
    let low = c.loop-unit.auto.unit-end in
    let high = c.loop-unit-test.false in
    indexed_all string_bytes c.args.ids.now c.loop-unit.unit c.loop-unit.index.entries (omega (arith, low, high)) c.loop-unit.invariant
