use Rattle.std.proofs.Common.{sym, arith}
use Rattle.std.specs.Prelude.{◌+◌, ◌-◌, nat_lt, nat_le}
use Rattle.std.proofs.lemmas.Bool.{and_from, and_right, lt-leb, lt-ltb, le-leb}
use Rattle.audit_statement.specs.Checkpoint.{stated_id}
use Rattle.ckpt_format.specs.Faults.{is_unordered}
use Rattle.ckpt_format.proofs.Sizes.{starts_within}
use Rattle.ckpt_format.proofs.fault.first_unordered.Goals as goal
use Rattle.audit_model.proofs.First.{first_below_here, first_below_more, first_below_none, none_first_below}

pub id_at-requires : goal.id_at-requires
id_at-requires c = starts_within c.args.bytes.now (c.loop-place.place + 1) c.args.count (omega arith) c.requires

pub id_at-requires-in-loop-place : goal.id_at-requires-in-loop-place
id_at-requires-in-loop-place c = starts_within c.args.bytes.now (c.loop-place.place - 1 + 1) c.args.count (omega arith) c.requires

pub returns-then-id_at : goal.returns-then-id_at
returns-then-id_at c =
    let bytes = c.args.bytes.now in
    let place = c.loop-place.place in
    sym (first_below_here c.args.count place (is_unordered bytes) c.loop-place.invariant c.loop-place-test.true
    (and_from (nat_lt 0 place) (nat_le (stated_id bytes place) (stated_id bytes (place - 1))) (lt-ltb 0 place (omega arith)) (le-leb (stated_id bytes place) (stated_id bytes (place - 1)) (omega (arith, c.id_at.ensures, c.id_at-in-loop-place.ensures, c.if-id_at.true)))))

pub loop-place-preserved : goal.loop-place-preserved
loop-place-preserved c =
    let bytes = c.args.bytes.now in
    let place = c.loop-place.place in
    first_below_more place (is_unordered bytes) c.loop-place.invariant
    (and_right (nat_lt 0 place) (nat_le (stated_id bytes place) (stated_id bytes (place - 1))) (lt-leb (stated_id bytes place) (stated_id bytes (place - 1)) (omega (arith, c.id_at.ensures, c.id_at-in-loop-place.ensures, c.if-id_at.false))))

pub returns : goal.returns
returns c =
    let test = is_unordered c.args.bytes.now in
    sym (none_first_below c.args.count test (λ k l. first_below_none c.loop-place.place test k c.loop-place.invariant (omega arith)))
