use Rattle.std.proofs.Common.{ap, sym}
use Rattle.audit_words.specs.Usage.{on_lines}
use Rattle.audit_words.proofs.Lines.{adds_as, said_of}
use Rattle.audit_words.specs.Questions.{answer_to}
use Rattle.report.proofs.Letting.{lets_as, next_as, next_begins}
use Rattle.audit_words.proofs.answering.write_answer.Goals as goal

pub returns-in-Usage : goal.returns-in-Usage
returns-in-Usage g c = rw c.in-Usage.is (said_of (adds_as c.add_lines.ensures (ap on_lines c.usage_lines.ensures)))

pub returns-in-Version : goal.returns-in-Version
returns-in-Version g c = rw c.in-Version.is c.add_version.ensures

pub returns-in-Arguments : goal.returns-in-Arguments
returns-in-Arguments g c = rw c.in-Arguments.is c.add_command.ensures

pub add_lines-requires : goal.add_lines-requires
add_lines-requires g c = next_as (next_begins (lets_as c.requires (ap (answer_to c.args.build.now) c.in-Usage.is))) (sym (ap on_lines c.usage_lines.ensures))

pub add_version-requires : goal.add_version-requires
add_version-requires g c = lets_as c.requires (ap (answer_to c.args.build.now) c.in-Version.is)

pub add_command-requires : goal.add_command-requires
add_command-requires g c = lets_as c.requires (ap (answer_to c.args.build.now) c.in-Arguments.is)
