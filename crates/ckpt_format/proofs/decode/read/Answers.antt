use Rattle.std.proofs.Common.{◌≡◌, ◌<◌, ◌≤◌, ap, length, sym, subst, arith, ◌∙◌}
use Rattle.audit_model.specs.Below.{map_below}
use Rattle.audit_statement.specs.Checkpoint.{outcome_start}
use Rattle.audit_statement.specs.Slots.{outcome_in, outcomes_in}
use Rattle.ckpt_format.proofs.Faulting.{IsFaultless-from_none}
use Rattle.ckpt_format.proofs.Whole.{read_as_checkpoint}
use Rattle.ckpt_format.proofs.decode.read.Goals as goal

pub u32_at-requires : goal.u32_at-requires
u32_at-requires c = let size = (IsFaultless-from_none c.args.bytes.now c.requires).head.size in omega arith

pub outcomes_in-requires : goal.outcomes_in-requires
outcomes_in-requires c =
    let bytes = c.args.bytes.now in
    let size = (IsFaultless-from_none bytes c.requires).head.size in
    subst (λ n. outcome_start bytes n ≤ length bytes) (sym c.u32_at.ensures) (omega arith)

pub u32_at-requires-2 : goal.u32_at-requires-2
u32_at-requires-2 c = let size = (IsFaultless-from_none c.args.bytes.now c.requires).head.size in omega arith

pub array_at-requires : goal.array_at-requires
array_at-requires c = let size = (IsFaultless-from_none c.args.bytes.now c.requires).head.size in (omega arith, omega arith)

pub u32_at-requires-3 : goal.u32_at-requires-3
u32_at-requires-3 c = let size = (IsFaultless-from_none c.args.bytes.now c.requires).head.size in omega arith

pub overflow_cast-result : goal.overflow_cast-result
overflow_cast-result c =
    let below : c.u32_at-3.result < 3 = subst (λ n. n < 3) (sym c.u32_at-3.ensures) (IsFaultless-from_none c.args.bytes.now c.requires).head.generation in
    omega arith

pub returns-clause-ok : goal.returns-clause-ok
returns-clause-ok c =
    let bytes = c.args.bytes.now in
    let right = IsFaultless-from_none bytes c.requires in
    let whole = read_as_checkpoint bytes (λ k. (c.type_inv.bytes k).fits) right.head right.ordered right.last in
    let outcomes : c.in_ok-outcomes.outcomes.items ≡ outcomes_in bytes = c.in_ok-outcomes.ensures ∙ ap (λ n. map_below n (outcome_in bytes)) c.u32_at.ensures in
    rw (c.u32_at-2.ensures, c.array_at.ensures, c.u32_at-3.ensures, outcomes) whole
