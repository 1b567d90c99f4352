use Rattle.std.proofs.Common.{◌≡◌, ◌∙◌, ◌++◌, ap, map, sym}
use Rattle.audit_statement.specs.Words.{names_of}
use Rattle.audit_words.specs.Arguments as definition
use Rattle.audit_model.specs.declared.setting.Command.{Command}
use Rattle.audit_words.specs.Usage.{command_lines, foot_of, head_of, on_lines}
use Rattle.audit_words.proofs.Lines.{adds_as, adds_both, lines_both, said_of}
use Rattle.report.proofs.Letting.{next_as, next_begins, next_front, next_rest}
use Rattle.audit_words.proofs.answering.add_command.Goals as goal

-- the usage of a command is its head, its lines of arguments and its foot
parted : (command : Command) → on_lines (command_lines command) ≡ on_lines (head_of command) ++ (on_lines (map definition.argument_text (names_of command)) ++ on_lines (foot_of command))
parted command =
    sym (ap (λ t. on_lines (head_of command) ++ t) (lines_both (map definition.argument_text (names_of command)) (foot_of command))
    ∙ lines_both (head_of command) (map definition.argument_text (names_of command) ++ foot_of command))

pub returns : goal.returns
returns g c =
    let command = c.args.command in
    let head = adds_as c.add_lines-going.ensures (ap on_lines c.head_of.ensures) in
    let lines = adds_as c.add_arguments-going.ensures (ap (λ names. on_lines (map definition.argument_text names)) c.names_of.ensures) in
    let foot = adds_as c.add_lines.ensures (ap on_lines c.foot_of.ensures) in
    said_of (adds_as (adds_both head (adds_both lines foot))
    (ap (λ t. on_lines (head_of command) ++ t) (lines_both (map definition.argument_text (names_of command)) (foot_of command))
    ∙ lines_both (head_of command) (map definition.argument_text (names_of command) ++ foot_of command)))

pub add_lines-going-requires : goal.add_lines-going-requires
add_lines-going-requires g c =
    let command = c.args.command in
    let head = on_lines (head_of command) in
    let lines = on_lines (map definition.argument_text (names_of command)) in
    let foot = on_lines (foot_of command) in
    next_as (next_front head (lines ++ foot) (next_as (next_begins c.requires) (parted command))) (sym (ap on_lines c.head_of.ensures))

pub add_arguments-going-requires : goal.add_arguments-going-requires
add_arguments-going-requires g c =
    let command = c.args.command in
    let head = on_lines (head_of command) in
    let lines = on_lines (map definition.argument_text (names_of command)) in
    let foot = on_lines (foot_of command) in
    next_as (next_front lines foot (next_rest head (lines ++ foot) (next_as (next_begins c.requires) (parted command)) (adds_as c.add_lines-going.ensures (ap on_lines c.head_of.ensures)).adds))
    (sym (ap (λ names. on_lines (map definition.argument_text names)) c.names_of.ensures))

pub add_lines-requires : goal.add_lines-requires
add_lines-requires g c =
    let command = c.args.command in
    let head = on_lines (head_of command) in
    let lines = on_lines (map definition.argument_text (names_of command)) in
    let foot = on_lines (foot_of command) in
    next_as (next_rest lines foot
    (next_rest head (lines ++ foot) (next_as (next_begins c.requires) (parted command)) (adds_as c.add_lines-going.ensures (ap on_lines c.head_of.ensures)).adds)
    (adds_as c.add_arguments-going.ensures (ap (λ names. on_lines (map definition.argument_text names)) c.names_of.ensures)).adds)
    (sym (ap on_lines c.foot_of.ensures))
