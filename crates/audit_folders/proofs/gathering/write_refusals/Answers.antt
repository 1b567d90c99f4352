use Rattle.std.proofs.Common.{ap, map, sym}
use Rattle.std.specs.Prelude.{string_bytes}
use Rattle.audit_folders.specs.FolderLines.{folder_refusal, of_each}
use Rattle.audit_folders.proofs.Texts.{added_line, adds_as, adds_both, said_of}
use Rattle.audit_folders.specs.FolderLines.{own_refusal}
use Rattle.report.proofs.Letting.{next_as, next_begins, next_front, next_rest}
use Rattle.audit_folders.proofs.gathering.write_refusals.Goals as goal

pub returns : goal.returns
returns g c =
    let names = map string_bytes c.args.names.now in
    added_line _ (said_of (adds_both c.add_own_refusal-going.ensures (adds_as c.add_refusals-ended.ensures (ap (λ f. of_each (folder_refusal names) names f) c.as_slice.ensures))))

pub add_own_refusal-going-requires : goal.add_own_refusal-going-requires
add_own_refusal-going-requires g c =
    let names = map string_bytes c.args.names.now in
    next_front (own_refusal c.args.observed.now.own) (of_each (folder_refusal names) names c.args.observed.now.folders) (next_begins c.requires)

pub add_refusals-ended-requires : goal.add_refusals-ended-requires
add_refusals-ended-requires g c =
    let names = map string_bytes c.args.names.now in
    next_as (next_rest (own_refusal c.args.observed.now.own) (of_each (folder_refusal names) names c.args.observed.now.folders) (next_begins c.requires) c.add_own_refusal-going.ensures.adds)
    (sym (ap (λ f. of_each (folder_refusal names) names f) c.as_slice.ensures))
