use Rattle.std.proofs.Common.{◌∙◌, ℕ, List, ap, map, refl, sym, subst}
use Rattle.std.proofs.lemmas.Bool.{true≢false}
use Rattle.audit_statement.specs.Due.{LetsCheckpoint}
use Rattle.ckpt_store.specs.Findings.{AreFound, may_save}
use Rattle.ckpt_store.proofs.whole.gather_from.Goals.{then-saves, else-saves}
use Rattle.ckpt_store.proofs.whole.gather_from.Goals as goal

pub finish-requires-clause-lets : goal.finish-requires-clause-lets
finish-requires-clause-lets g c = λ saved.
    let keeper = g.C.Keeper.state c.args.keeper.now in
    let place = c.args.begun.place in
    let all = c.find_each.new.collection in
    let folders = map (λ k. g.F.Keeper.state k) c.args.folders.now in
    let folders_now = map (λ k. g.F.Keeper.state k) c.find_each.new.folders in
    let start = c.args.begun.collection in
    elim c.if-saves.branch [
      | then-saves w ↦
          subst (λ (d : List ℕ). LetsCheckpoint g.C.Keeper.lets keeper d place.slot place.generation all.outcomes) (sym c.job_digest-digest.ensures)
          (c.requires.lets keeper folders_now (place.slot, place.generation) all.outcomes refl w.if-saves.true
          (record {
            own = c.args.begun.own;
            start = start;
            found = c.in-Ok.found;
            collected = all;
            begun = c.requires.begun;
            each = subst (λ (d : List ℕ). AreFound c.args.job.now d folders folders_now start c.in-Ok.found all) c.job_digest-digest.ensures c.in-Ok.ensures.found;
            union = refl;
            may = ap (may_save c.args.begun.own) (sym w.as_slice.ensures) ∙ sym w.may_save-saved.ensures ∙ sym w.saved-is ∙ saved;
          }))
      | else-saves w ↦ absurd (true≢false (sym saved ∙ w.saved-is ∙ w.if-saves.false))
    ]
