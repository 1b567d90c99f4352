use Rattle.std.proofs.Common.{ℕ, List, [], ◌∷◌, ◌++◌, Ok, Err, subst, sym}
use Rattle.std.specs.Prelude.{codes}
use Rattle.report.specs.AddedText.{WritesAllOf}
use Rattle.plan_runs.proofs.Reported.{writes_part, writes_then}
use Rattle.report.proofs.Letting.{lets_as, lets_front, lets_rest}
use Rattle.plan_runs.proofs.plans.write_title.Goals as goal

pub returns-in-Err : goal.returns-in-Err
returns-in-Err g c = writes_part (g.K.Sink.state c.args.out.now) (g.K.Sink.state c.write_all.new.out) (codes "plan ") (c.args.name.now ++ 10 ∷ []) c.in-Err.field-0 c.in-Err.field-0 c.in-Err.ensures

pub returns-in-Err-write_all : goal.returns-in-Err-write_all
returns-in-Err-write_all g c =
    writes_then (g.K.Sink.state c.args.out.now) (g.K.Sink.state c.write_all.new.out) (g.K.Sink.state c.write_all-in-Ok.new.out) (codes "plan ") (c.args.name.now ++ 10 ∷ []) (Err c.in-Err-write_all.field-0) c.in-Ok.ensures
    (writes_part (g.K.Sink.state c.write_all.new.out) (g.K.Sink.state c.write_all-in-Ok.new.out) c.args.name.now (10 ∷ []) c.in-Err-write_all.field-0 c.in-Err-write_all.field-0
    (subst (λ (text : List ℕ). WritesAllOf (g.K.Sink.state c.write_all.new.out) (g.K.Sink.state c.write_all-in-Ok.new.out) text (Err c.in-Err-write_all.field-0)) c.as_bytes.ensures.value c.in-Err-write_all.ensures))

pub returns-in-Ok-write_all : goal.returns-in-Ok-write_all
returns-in-Ok-write_all g c =
    writes_then (g.K.Sink.state c.args.out.now) (g.K.Sink.state c.write_all.new.out) (g.K.Sink.state c.write_all-in-Ok-write_all.new.out) (codes "plan ") (c.args.name.now ++ 10 ∷ []) c.write_all-in-Ok-write_all.result c.in-Ok.ensures
    (writes_then (g.K.Sink.state c.write_all.new.out) (g.K.Sink.state c.write_all-in-Ok.new.out) (g.K.Sink.state c.write_all-in-Ok-write_all.new.out) c.args.name.now (10 ∷ []) c.write_all-in-Ok-write_all.result
    (subst (λ (text : List ℕ). WritesAllOf (g.K.Sink.state c.write_all.new.out) (g.K.Sink.state c.write_all-in-Ok.new.out) text (Ok tt)) c.as_bytes.ensures.value c.in-Ok-write_all.ensures)
    c.write_all-in-Ok-write_all.ensures)

pub write_all-requires : goal.write_all-requires
write_all-requires g c = lets_front (codes "plan ") (c.args.name.now ++ 10 ∷ []) c.requires

pub write_all-requires-in-Ok : goal.write_all-requires-in-Ok
write_all-requires-in-Ok g c =
    lets_as (lets_front c.args.name.now (10 ∷ []) (lets_rest (codes "plan ") (c.args.name.now ++ 10 ∷ []) c.requires c.in-Ok.ensures.0 c.in-Ok.ensures.1)) (sym c.as_bytes.ensures.value)

pub write_all-requires-in-Ok-write_all : goal.write_all-requires-in-Ok-write_all
write_all-requires-in-Ok-write_all g c =
    let taken = subst (λ (text : List ℕ). WritesAllOf (g.K.Sink.state c.write_all.new.out) (g.K.Sink.state c.write_all-in-Ok.new.out) text (Ok tt)) c.as_bytes.ensures.value c.in-Ok-write_all.ensures in
    lets_rest c.args.name.now (10 ∷ []) (lets_rest (codes "plan ") (c.args.name.now ++ 10 ∷ []) c.requires c.in-Ok.ensures.0 c.in-Ok.ensures.1) taken.0 taken.1
