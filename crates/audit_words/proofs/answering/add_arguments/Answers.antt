use Rattle.std.proofs.Common.{arith}
use Rattle.audit_model.specs.declared.fault.Name.TheVariants.{Pop}
use Rattle.audit_words.specs.Arguments as definition
use Rattle.audit_words.proofs.Lines.{adds_as, adds_both, lines_next, next_line}
use Rattle.audit_words.proofs.answering.add_arguments.Goals as goal

pub loop-name-preserved : goal.loop-name-preserved
loop-name-preserved g c =
    adds_as (adds_both c.loop-name.invariant c.add_line-going.ensures)
    (lines_next definition.argument_text c.args.names.now c.loop-name.name-index Pop _ (omega arith) c.argument_text.ensures)

pub add_line-going-requires : goal.add_line-going-requires
add_line-going-requires g c =
    next_line definition.argument_text c.args.names.now c.loop-name.name-index Pop _ (omega arith) c.argument_text.ensures c.requires c.loop-name.invariant
