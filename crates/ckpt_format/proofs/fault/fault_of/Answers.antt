use Rattle.std.proofs.Common.{◌≤◌, length, sym, ap, subst, ◌∙◌, arith}
use Rattle.std.specs.Option.{option_or}
use Rattle.audit_statement.specs.Checkpoint.{outcome_start, stated_count}
use Rattle.ckpt_format.specs.Faults.{order_fault, digest_fault}
use Rattle.ckpt_format.proofs.Faulting.{fault_of_few, fault_of_many, head_is_right}
use Rattle.ckpt_format.proofs.fault.fault_of.Goals as goal

pub returns-then-bytes-lt84 : goal.returns-then-bytes-lt84
returns-then-bytes-lt84 c = sym (fault_of_few c.args.bytes.now c.if-bytes-lt84.true)

pub order_fault-requires : goal.order_fault-requires
order_fault-requires c =
    let bytes = c.args.bytes.now in
    let head = head_is_right bytes (sym c.in-None.ensures) in
    subst (λ n. outcome_start bytes n ≤ length bytes) (sym c.u32_at.ensures) (omega (arith, head.size))

pub returns-in-Some : goal.returns-in-Some
returns-in-Some c =
    let bytes = c.args.bytes.now in
    sym (fault_of_many bytes c.if-bytes-lt84.false ∙ ap (λ o. option_or o (option_or (order_fault bytes (stated_count bytes)) (digest_fault bytes))) (sym c.in-Some.ensures))

pub returns-in-Some-order_fault : goal.returns-in-Some-order_fault
returns-in-Some-order_fault c =
    let bytes = c.args.bytes.now in
    sym (fault_of_many bytes c.if-bytes-lt84.false
    ∙ ap (λ o. option_or o (option_or (order_fault bytes (stated_count bytes)) (digest_fault bytes))) (sym c.in-None.ensures)
    ∙ ap (λ o. option_or o (digest_fault bytes)) (ap (order_fault bytes) (sym c.u32_at.ensures) ∙ sym c.in-Some-order_fault.ensures))

pub returns-in-None-order_fault : goal.returns-in-None-order_fault
returns-in-None-order_fault c =
    let bytes = c.args.bytes.now in
    c.digest_fault.ensures ∙ sym (fault_of_many bytes c.if-bytes-lt84.false
    ∙ ap (λ o. option_or o (option_or (order_fault bytes (stated_count bytes)) (digest_fault bytes))) (sym c.in-None.ensures)
    ∙ ap (λ o. option_or o (digest_fault bytes)) (ap (order_fault bytes) (sym c.u32_at.ensures) ∙ sym c.in-None-order_fault.ensures))
