use Rattle.std.proofs.Common.{◌++◌, ap, map, sym}
use Rattle.std.specs.Prelude.{string_bytes}
use Rattle.audit_statement.specs.Note.{as_line}
use Rattle.audit_folders.specs.FolderLines.{done_line, folder_line, of_each, own_texts}
use Rattle.audit_folders.proofs.Texts.{adds_as, adds_both, said_of}
use Rattle.report.proofs.Letting.{next_as, next_begins, next_front, next_rest}
use Rattle.audit_folders.proofs.gathering.write_observed.Goals as goal

pub returns : goal.returns
returns g c =
    let names = map string_bytes c.args.names.now in
    said_of (adds_both (adds_both c.add_own_line-going.ensures (adds_as c.add_folders-going.ensures (ap (λ f. of_each (folder_line names) names f) c.as_slice.ensures)))
    (adds_as c.add_line.ensures (rw (c.from.ensures, c.from-2.ensures))))

pub add_own_line-going-requires : goal.add_own_line-going-requires
add_own_line-going-requires g c =
    let names = map string_bytes c.args.names.now in
    let found = c.args.observed.now in
    let own = as_line (own_texts found.own) in
    let folders = of_each (folder_line names) names found.folders in
    next_front own folders (next_front (own ++ folders) (done_line found.done c.args.total) (next_begins c.requires))

pub add_folders-going-requires : goal.add_folders-going-requires
add_folders-going-requires g c =
    let names = map string_bytes c.args.names.now in
    let found = c.args.observed.now in
    let own = as_line (own_texts found.own) in
    let folders = of_each (folder_line names) names found.folders in
    next_as (next_rest own folders (next_front (own ++ folders) (done_line found.done c.args.total) (next_begins c.requires)) c.add_own_line-going.ensures.adds)
    (sym (ap (λ f. of_each (folder_line names) names f) c.as_slice.ensures))

pub add_line-requires : goal.add_line-requires
add_line-requires g c =
    let names = map string_bytes c.args.names.now in
    let found = c.args.observed.now in
    let own = as_line (own_texts found.own) in
    let folders = of_each (folder_line names) names found.folders in
    next_as (next_rest (own ++ folders) (done_line found.done c.args.total) (next_begins c.requires)
    (adds_both c.add_own_line-going.ensures (adds_as c.add_folders-going.ensures (ap (λ f. of_each (folder_line names) names f) c.as_slice.ensures))).adds)
    (rw (c.from.ensures, c.from-2.ensures))
