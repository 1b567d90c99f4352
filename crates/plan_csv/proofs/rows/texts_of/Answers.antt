use Rattle.std.proofs.Common.{◌≡◌, ◌∙◌, sym, rules, inr, map, length, arith, ap, subst}
use Rattle.std.proofs.lemmas.Bool.{false≢true}
use Rattle.std.specs.Vec.Iter.{into_iter_items}
use Rattle.csv.specs.Records.{fields_of, AllText}
use Rattle.plan_csv.proofs.Unread.{unread_here, read_more, uneven, broken, readable}
use Rattle.plan_csv.proofs.rows.texts_of.Goals as goal

pub returns-then-len-columns : goal.returns-then-len-columns
returns-then-len-columns c =
    let size : c.len-then-len-columns.result ≡ length c.loop-row.texts.items = search rules in
    inr (rw size (unread_here c.args.columns (map fields_of c.args.rows.items) c.loop-row.texts.items (into_iter_items c.loop-row.row-iterator) (into_iter_items c.next.new.self) c.in-Some.row
    c.loop-row.invariant.0 c.in-Some.ensures.steps.0 (uneven c.args.columns (fields_of c.in-Some.row) (λ e. c.if-len-columns.true (c.len.ensures ∙ e)))))

pub returns-in_default : goal.returns-in_default
returns-in_default c =
    let size : c.len-in_default.result ≡ length c.loop-row.texts.items = search rules in
    inr (rw size (unread_here c.args.columns (map fields_of c.args.rows.items) c.loop-row.texts.items (into_iter_items c.loop-row.row-iterator) (into_iter_items c.next.new.self) c.in-Some.row
    c.loop-row.invariant.0 c.in-Some.ensures.steps.0 (broken c.args.columns (fields_of c.in-Some.row) (λ t. false≢true (c.in_default.ensures.refused t)))))

pub loop-row-preserved : goal.loop-row-preserved
loop-row-preserved c =
    let step = c.in-Some.ensures.steps in (
      read_more c.args.columns (map fields_of c.args.rows.items) c.loop-row.texts.items (into_iter_items c.loop-row.row-iterator) (into_iter_items c.next.new.self) c.in-Some.row
          c.loop-row.invariant.0 step.0 c.push.new.self.items c.in-Ok.text c.in_ok-push.ensures.items c.in-Ok.ensures.same
          (readable c.args.columns (fields_of c.in-Some.row) (sym c.len.ensures ∙ c.if-len-columns.false) (subst AllText c.in-Ok.ensures.same c.in-Ok.ensures.text)),
      omega (arith, step.1, c.loop-row.invariant.1, ap length step.0),
    )
