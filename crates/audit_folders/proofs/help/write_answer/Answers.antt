use Rattle.std.proofs.Common.{◌∙◌, ap, refl, sym}
use Rattle.std.proofs.KnownBytes.{Appends-nil}
use Rattle.audit_words.specs.Usage.{on_lines}
use Rattle.audit_folders.proofs.Texts.{adds_as, said_of}
use Rattle.audit_words.specs.Questions.{version_text}
use Rattle.audit_folders.specs.Helps.{folder_answer}
use Rattle.report.proofs.Letting.{lets_as, next_as, next_begins}
use Rattle.audit_folders.proofs.help.write_answer.Goals as goal

pub returns-in-Usage : goal.returns-in-Usage
returns-in-Usage g c = rw c.in-Usage.is (said_of (adds_as c.add_lines.ensures (ap on_lines c.usage_of.ensures)))

pub returns-in-Version : goal.returns-in-Version
returns-in-Version g c = rw (c.in-Version.is, ← c.program_name.ensures) c.add_version.ensures

pub returns-in-Arguments : goal.returns-in-Arguments
returns-in-Arguments g c = rw c.in-Arguments.is (Appends-nil _, refl)

pub add_lines-requires : goal.add_lines-requires
add_lines-requires g c = next_as (next_begins (lets_as c.requires (ap (folder_answer c.args.program c.args.build.now) c.in-Usage.is))) (sym (ap on_lines c.usage_of.ensures))

pub add_version-requires : goal.add_version-requires
add_version-requires g c =
    lets_as c.requires (ap (folder_answer c.args.program c.args.build.now) c.in-Version.is ∙ ap (λ name. version_text name c.args.build.now) (sym c.program_name.ensures))
