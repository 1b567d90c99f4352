use Rattle.std.proofs.Common.{◌∙◌, ◌<◌, List, [], ap, length, arith, subst, sym}
use Rattle.std.proofs.lemmas.Bool.{true≢false}
use Rattle.std.proofs.lemmas.List.{get_or-map, length-map}
use Rattle.audit_model.specs.declared.outcome.Outcome.{Outcome}
use Rattle.outcome_book.specs.Union.{AgreesWith}
use Rattle.ckpt_store.proofs.Covering.{one_more}
use Rattle.audit_model.specs.declared.buffers.RoomyList.{RoomyList}
use Rattle.ckpt_store.proofs.collection.first_other.Goals as goal

pub loop-number-preserved : goal.loop-number-preserved
loop-number-preserved c = record {
  agreed = one_more (λ (l : RoomyList Outcome). l.items) c.args.lists.now c.args.outcome.now c.loop-number.number c.index-lists-number.result c.loop-number-test.true c.loop-number.invariant.agreed
      (subst (λ (os : List Outcome). AgreesWith os c.args.outcome.now) (c.as_slice.ensures ∙ ap (λ (l : RoomyList Outcome). l.items) c.index-lists-number.is)
      (c.agrees_with.ensures.0 c.if-not-agrees_with.false));
}

pub returns-then-not-agrees_with-clause-some : goal.returns-then-not-agrees_with-clause-some
returns-then-not-agrees_with-clause-some c =
    let items = λ (l : RoomyList Outcome). l.items in
    let lists = c.args.lists.now in
    let number = c.loop-number.number in
    let inside : number < length lists = c.loop-number-test.true in
    let same = get_or-map items lists number c.index-lists-number.result [] inside ∙ sym (c.as_slice.ensures ∙ ap items c.index-lists-number.is) in
    record {
      there = subst (λ n. number < n) (sym (length-map lists items)) inside;
      differs = λ agrees. true≢false (sym (c.agrees_with.ensures.1 (subst (λ (os : List Outcome). AgreesWith os c.args.outcome.now) same agrees)) ∙ c.if-not-agrees_with.true);
      before = c.loop-number.invariant.agreed;
    }

pub returns-clause-none : goal.returns-clause-none
returns-clause-none c = λ k l. c.loop-number.invariant.agreed k (omega (arith, l, c.loop-number-test.false))
