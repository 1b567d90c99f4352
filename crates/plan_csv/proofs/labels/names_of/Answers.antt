use Rattle.std.proofs.Common.{◌≡◌, suc, ◌+◌, [], length, map, sym, ap, ◌∙◌, arith}
use Rattle.std.specs.List.{slice_index_or}
use Rattle.std.proofs.lemmas.List.{length-map}
use Rattle.csv.specs.Records.{fields_of}
use Rattle.audit_model.specs.declared.setting.Label.TheVariants.{Word}
use Rattle.plan_csv.proofs.Pushed.{row_is}
use Rattle.plan_csv.proofs.Labelled.{named_more, named_all}
use Rattle.plan_csv.proofs.labels.names_of.Goals as goal

pub loop-entry-init : goal.loop-entry-init
loop-entry-init c = record { count = ap length c.in_ok-names.ensures.items; each = λ e l. absurd (omega (arith, l)) }

pub loop-entry-preserved : goal.loop-entry-preserved
loop-entry-preserved c =
    let l = c.loop-entry-test.true in
    let next : c.args.plan + 1 ≡ suc c.args.plan = omega arith in
    named_more (map fields_of c.args.entries.now) c.args.plan c.loop-entry.entry c.loop-entry.names.items c.push.new.self.items _ c.loop-entry.invariant c.in_ok-push.ensures.items
    (ap Word (c.field.ensures ∙ ap (λ k. slice_index_or (fields_of c.index-entries-entry.result) k []) next
    ∙ ap (λ row. slice_index_or row (suc c.args.plan) []) (sym (row_is c.args.entries.now c.loop-entry.entry c.index-entries-entry.result l c.index-entries-entry.is))))

pub returns : goal.returns
returns c =
    let low = c.loop-entry.auto.entry-end in
    let high = c.loop-entry-test.false in
    named_all (map fields_of c.args.entries.now) c.args.plan c.loop-entry.entry c.loop-entry.names.items (omega (arith, low, high, length-map c.args.entries.now fields_of)) c.loop-entry.invariant
