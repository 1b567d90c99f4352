use Rattle.std.proofs.Common.{◌∙◌, [], List, ap, arith, get_or, length, map, subst}
use Rattle.std.proofs.lemmas.List.{length-map}
use Rattle.std.proofs.lemmas.Option.{none-some, same_Some}
use Rattle.audit_model.specs.declared.buffers.RoomyList.{RoomyList}
use Rattle.audit_model.specs.declared.outcome.Outcome.{Outcome}
use Rattle.outcome_book.specs.Union.{AgreesWith}
use Rattle.ckpt_store.specs.Collected.{Collected, IsFirstOther}
use Rattle.ckpt_store.proofs.Covering.{difference_found}
use Rattle.ckpt_store.proofs.Rising.{by_rising_id}
use Rattle.ckpt_store.proofs.collection.Collection.other_of.Goals as goal

pub returns-in-Some-first_other : goal.returns-in-Some-first_other
returns-in-Some-first_other c = λ first.
    let items = λ (l : RoomyList Outcome). l.items in
    let e = difference_found c.args.self.now.outcomes c.args.found.now c.args.id first (by_rising_id c.args.found.now c.requires.fit.rising) in
    let same = same_Some c.in-Some.outcome first.other (c.in-Some.ensures ∙ e) in
    let lists = ap (map items) c.as_slice.ensures ∙ ap (λ (x : Collected). x.lists) c.self.view_is in
    subst (λ (p : List (List Outcome) × Outcome). IsFirstOther p.0 p.1 c.in-Some-first_other.number) (λ i. (lists i, same i)) c.in-Some-first_other.ensures.some

pub returns-in-None-first_other : goal.returns-in-None-first_other
returns-in-None-first_other c = λ first.
    let items = λ (l : RoomyList Outcome). l.items in
    let e = difference_found c.args.self.now.outcomes c.args.found.now c.args.id first (by_rising_id c.args.found.now c.requires.fit.rising) in
    let same = same_Some c.in-Some.outcome first.other (c.in-Some.ensures ∙ e) in
    let lists = ap (map items) c.as_slice.ensures ∙ ap (λ (x : Collected). x.lists) c.self.view_is in
    absurd (first.differs (subst (λ (o : Outcome). AgreesWith c.args.self.now.outcomes o) same (c.requires.covered c.in-Some.outcome (λ k l.
    subst (λ (ls : List (List Outcome)). AgreesWith (get_or ls k []) c.in-Some.outcome) lists
    (c.in-None-first_other.ensures.none k (omega (arith, l, ap length lists, length-map c.as_slice.result.now items)))))))

pub returns-in-None : goal.returns-in-None
returns-in-None c = λ first.
    let e = difference_found c.args.self.now.outcomes c.args.found.now c.args.id first (by_rising_id c.args.found.now c.requires.fit.rising) in
    absurd (none-some first.other (c.in-None.ensures ∙ e))
