use Rattle.std.proofs.Common.{◌∙◌, List, ap, map, subst, sym}
use Rattle.audit_model.specs.declared.buffers.RoomyList.{RoomyList}
use Rattle.audit_model.specs.declared.outcome.Outcome.{Outcome}
use Rattle.outcome_book.specs.Gathered.{Gathered}
use Rattle.outcome_book.specs.Union.{IsUnion}
use Rattle.ckpt_store.specs.Collected.{Collected, IsCovered}
use Rattle.ckpt_store.specs.declared.finding.Finding.{Finding}
use Rattle.ckpt_store.specs.declared.finding.Finding.TheVariants as finding
use Rattle.ckpt_store.specs.declared.folder_content.FolderContent.TheVariants as given
use Rattle.ckpt_store.specs.Findings.{Finds}
use Rattle.ckpt_store.specs.Gives.{given_view}
use Rattle.ckpt_store.proofs.Covering.{left_as, left_out, on_ok, pushed_union}
use Rattle.ckpt_store.proofs.collection.Collection.add_list.Goals as goal

-- the collection of this union and these lists
of : Gathered → List (RoomyList Outcome) → Collected
of g lists = record { total = g.total; outcomes = g.outcomes; lists = map (λ l. l.items) lists }

pub other_of-other-requires-clause-covered : goal.other_of-other-requires-clause-covered
unfolding of
other_of-other-requires-clause-covered c =
    subst IsCovered (sym (ap (λ (g : Gathered). of g c.self.inside.lists) c.in-Err.ensures.kept ∙ c.self.view_is)) c.requires.covered

pub leave_out-requires : goal.leave_out-requires
unfolding of
leave_out-requires c = record {
  covered = subst IsCovered (sym (ap (λ (g : Gathered). of g c.self.inside.lists) c.in-Err.ensures.kept ∙ c.self.view_is)) c.requires.covered;
}

pub returns-in_ok-push-in-Ok-clause-covered : goal.returns-in_ok-push-in-Ok-clause-covered
returns-in_ok-push-in-Ok-clause-covered c =
    pushed_union (λ (l : RoomyList Outcome). l.items) c.self.inside.gathering.total c.add.new.gathering.total _ _ c.self.inside.lists c.push.new.self c.args.found
    (subst (λ (xs : List Outcome). IsUnion c.self.inside.gathering.outcomes xs c.add.new.gathering.outcomes) c.as_slice.ensures c.in-Ok.ensures.union)
    c.in_ok-push-in-Ok.ensures.ok (subst IsCovered (sym c.self.view_is) c.requires.covered)

pub returns-in-Err-clause-total : goal.returns-in-Err-clause-total
unfolding of
returns-in-Err-clause-total c =
    on_ok _ _ (λ e. e ∙ ap (λ (g : Gathered). g.total) c.in-Err.ensures.kept ∙ ap (λ (x : Collected). x.total) c.self.view_is) c.leave_out.result c.leave_out.ensures.total

pub returns-in-Err-clause-finds : goal.returns-in-Err-clause-finds
unfolding of
returns-in-Err-clause-finds c =
    left_as (λ (f : Finding). Finds c.args.self.now (given_view (given.Outcomes c.args.found)) c.args.beside f c.leave_out.new.self) _ (finding.Differs c.in-Err.id c.other_of-other.result)
    c.leave_out.result c.leave_out.ensures.left
    (left_out c.args.self.now (of c.self.inside.gathering c.self.inside.lists) c.leave_out.new.self (of c.add.new.gathering c.self.inside.lists)
    c.args.found.items c.as_slice.result.now c.as_slice-in-Err.result.now c.in-Err.id c.other_of-other.result
    c.self.view_is (ap (λ (g : Gathered). of g c.self.inside.lists) c.in-Err.ensures.kept ∙ c.self.view_is) c.as_slice.ensures c.as_slice-in-Err.ensures
    c.in-Err.ensures.differs c.other_of-other.ensures)
