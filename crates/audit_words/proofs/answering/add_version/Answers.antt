use Rattle.std.proofs.Common.{[], ◌∷◌, ◌++◌, codes, true, refl}
use Rattle.audit_statement.specs.Report.{line}
use Rattle.report.specs.AddedText.{AddsText}
use Rattle.audit_words.proofs.Lines.{adds_as, adds_both, said_of}
use Rattle.report.proofs.Letting.{next_as, next_begins, next_front, next_rest}
use Rattle.audit_words.proofs.answering.add_version.Goals as goal

pub returns : goal.returns
returns g c =
    let build = c.args.build.now in
    let first : AddsText (g.O.Sink.state c.args.out.now) (g.O.Sink.state c.add_line-going.new.note) true (line (c.args.program.now ∷ build.version.now ∷ [])) c.add_line-going.result
    = adds_as c.add_line-going.ensures refl in
    let second : AddsText (g.O.Sink.state c.add_line-going.new.note) (g.O.Sink.state c.add_line-going-2.new.note) c.add_line-going.result (line (codes "commit" ∷ build.commit.now ∷ [])) c.add_line-going-2.result
    = adds_as c.add_line-going-2.ensures refl in
    let third : AddsText (g.O.Sink.state c.add_line-going-2.new.note) (g.O.Sink.state c.add_line.new.note) c.add_line-going-2.result (line (build.kit.now ∷ [])) c.add_line.result
    = adds_as c.add_line.ensures refl in
    said_of (adds_both (adds_both first second) third)

pub add_line-going-requires : goal.add_line-going-requires
add_line-going-requires g c =
    let build = c.args.build.now in
    let one = line (c.args.program.now ∷ build.version.now ∷ []) in
    let two = line (codes "commit" ∷ build.commit.now ∷ []) in
    let three = line (build.kit.now ∷ []) in
    next_as (next_front one two (next_front (one ++ two) three (next_begins c.requires))) refl

pub add_line-going-requires-2 : goal.add_line-going-requires-2
add_line-going-requires-2 g c =
    let build = c.args.build.now in
    let one = line (c.args.program.now ∷ build.version.now ∷ []) in
    let two = line (codes "commit" ∷ build.commit.now ∷ []) in
    let three = line (build.kit.now ∷ []) in
    let first : AddsText (g.O.Sink.state c.args.out.now) (g.O.Sink.state c.add_line-going.new.note) true one c.add_line-going.result
    = adds_as c.add_line-going.ensures refl in
    next_as (next_rest one two (next_front (one ++ two) three (next_begins c.requires)) first.adds) refl

pub add_line-requires : goal.add_line-requires
add_line-requires g c =
    let build = c.args.build.now in
    let one = line (c.args.program.now ∷ build.version.now ∷ []) in
    let two = line (codes "commit" ∷ build.commit.now ∷ []) in
    let three = line (build.kit.now ∷ []) in
    let first : AddsText (g.O.Sink.state c.args.out.now) (g.O.Sink.state c.add_line-going.new.note) true one c.add_line-going.result
    = adds_as c.add_line-going.ensures refl in
    let second : AddsText (g.O.Sink.state c.add_line-going.new.note) (g.O.Sink.state c.add_line-going-2.new.note) c.add_line-going.result two c.add_line-going-2.result
    = adds_as c.add_line-going-2.ensures refl in
    next_as (next_rest (one ++ two) three (next_begins c.requires) (adds_both first second).adds) refl
