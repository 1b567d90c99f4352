use Rattle.std.proofs.Common.{◌≡◌, ◌-◌, ◌<◌, List, [], ◌∷◌, length, Some, None, Result, cond, refl, sym, ap, ap₂, ◌∙◌, subst, arith}
use Rattle.std.specs.Result.{IfOk}
use Rattle.json.specs.Json.{parse_map, after_end_array, read_key, items, members, value}
use Rattle.json.specs.Reads.{token_of}
use Rattle.json.specs.declared.error.Error.{Error}
use Rattle.json.specs.declared.error.Error.TheVariants.{Invalid}
use Rattle.json.proofs.Grammar.{value_is, value-begin_array, value-begin_object, read_key-shorter}
use Rattle.serde_json.specs.Data.{array, object, Members, no_members, put}
use Rattle.serde_json.specs.Read.{of_json, of_items, converted}
use Rattle.dual_json.specs.Kept.{is_wanted, keep, keep_items, keep_members}
use Rattle.dual_json.specs.Values.{value_data, items_data, members_data}
use Rattle.dual_json.specs.declared.value.Value.{Value}
use Rattle.dual_json.proofs.Keeping.{in_order_put, keep_put}
use Rattle.dual_json.proofs.Parsing.{Entry, data-Array, data-Object, items_before, items_before-no_items, one_more_item, none_before}
use Rattle.dual_json.proofs.Scalars.{scalar_read, scalar_read_kept, scalar_ok_kept, scalar_err}
use Rattle.dual_json.proofs.Turns.{converted-array, converted-object, item_read, item_refused, items_over, member_read, member_refused, key_refused, members_over}
use Rattle.dual_json.proofs.Wanting.{mapped_none, mapped_some, keep-array, keep-item, keep-object}
use Rattle.dual_json.proofs.parse.+read.Goals as goal

pub read-returns-in-None-clause-err : goal.read-returns-in-None-clause-err
read-returns-in-None-clause-err t c refused =
    let empty : c.args.reader.now ≡ [] = grind arith in
    ap (converted of_json) (ap (value c.args.depth) empty ∙ value_is c.args.depth [])

pub read-returns-then-depth-eq0-clause-err : goal.read-returns-then-depth-eq0-clause-err
unfolding value
read-returns-then-depth-eq0-clause-err t c never =
    let first : c.args.reader.now ≡ token_of c.in-Some.token ∷ c.next.new.self = grind arith in
    let none : c.args.depth ≡ 0 = omega arith in
    ap (converted of_json) (ap₂ value none (first ∙ ap (λ k. token_of k ∷ c.next.new.self) c.in-BeginArray.is))

pub read-returns-then-depth-eq0-2-clause-err : goal.read-returns-then-depth-eq0-2-clause-err
unfolding value
read-returns-then-depth-eq0-2-clause-err t c never =
    let first : c.args.reader.now ≡ token_of c.in-Some.token ∷ c.next.new.self = grind arith in
    let none : c.args.depth ≡ 0 = omega arith in
    ap (converted of_json) (ap₂ value none (first ∙ ap (λ k. token_of k ∷ c.next.new.self) c.in-BeginObject.is))

pub read-returns-in_err-read_items-in-BeginArray-clause-err : goal.read-returns-in_err-read_items-in-BeginArray-clause-err
read-returns-in_err-read_items-in-BeginArray-clause-err t c refused =
    let first : c.args.reader.now ≡ token_of c.in-Some.token ∷ c.next.new.self = grind arith in
    let opened = ap (converted of_json) (ap (value c.args.depth) (first ∙ ap (λ k. token_of k ∷ c.next.new.self) c.in-BeginArray.is) ∙ value-begin_array c.args.depth c.next.new.self (omega arith)) ∙ converted-array (items (value (c.args.depth - 1)) (length c.next.new.self) c.next.new.self) in
    opened ∙ ap (parse_map array) (c.read_items.ensures.err (grind arith))

pub read-returns-in_err-read_members-in-BeginObject-clause-err : goal.read-returns-in_err-read_members-in-BeginObject-clause-err
read-returns-in_err-read_members-in-BeginObject-clause-err t c refused =
    let first : c.args.reader.now ≡ token_of c.in-Some.token ∷ c.next.new.self = grind arith in
    let opened = ap (converted of_json) (ap (value c.args.depth) (first ∙ ap (λ k. token_of k ∷ c.next.new.self) c.in-BeginObject.is) ∙ value-begin_object c.args.depth c.next.new.self (omega arith)) ∙ converted-object (members (value (c.args.depth - 1)) (length c.next.new.self) c.next.new.self) in
    opened ∙ ap (parse_map object) (c.read_members.ensures.err (grind arith))

pub read-returns-in_default-clause-ok : goal.read-returns-in_default-clause-ok
read-returns-in_default-clause-ok t c =
    let w = is_wanted c.args.wanted in
    let first : c.args.reader.now ≡ token_of c.in-Some.token ∷ c.next.new.self = grind arith in
    let read = ap (λ s. parse_map (keep w) (converted of_json (value c.args.depth s))) first ∙ scalar_read_kept w c.args.depth c.in-Some.token c.next.new.self c.scalar_of.result c.in_default.not-BeginArray c.in_default.not-BeginObject c.scalar_of.ensures in
    subst (λ (r : Result Value Error). IfOk r (λ v. parse_map (keep w) (converted of_json (value c.args.depth c.args.reader.now)) ≡ Some (value_data v, c.next.new.self))) (sym c.ok_or.ensures.value)
    (scalar_ok_kept w c.scalar_of.result Invalid c.args.reader.now c.args.depth c.next.new.self read)

pub read-returns-in_default-clause-err : goal.read-returns-in_default-clause-err
read-returns-in_default-clause-err t c refused =
    let first : c.args.reader.now ≡ token_of c.in-Some.token ∷ c.next.new.self = grind arith in
    let read = ap (λ s. converted of_json (value c.args.depth s)) first ∙ scalar_read c.args.depth c.in-Some.token c.next.new.self c.scalar_of.result c.in_default.not-BeginArray c.in_default.not-BeginObject c.scalar_of.ensures in
    scalar_err c.scalar_of.result Invalid c.args.reader.now c.args.depth c.next.new.self read (sym c.ok_or.ensures.value ∙ refused)

pub read-returns-in_ok-read_items-in-BeginArray-clause-ok : goal.read-returns-in_ok-read_items-in-BeginArray-clause-ok
read-returns-in_ok-read_items-in-BeginArray-clause-ok t c =
    let first : c.args.reader.now ≡ token_of c.in-Some.token ∷ c.next.new.self = grind arith in
    let opened = ap (converted of_json) (ap (value c.args.depth) (first ∙ ap (λ k. token_of k ∷ c.next.new.self) c.in-BeginArray.is) ∙ value-begin_array c.args.depth c.next.new.self (omega arith)) ∙ converted-array (items (value (c.args.depth - 1)) (length c.next.new.self) c.next.new.self) in
    let found = c.in_ok-read_items-in-BeginArray in
    let w = is_wanted c.args.wanted in
    ap (parse_map (keep w)) opened ∙ keep-array w _ ∙ ap (parse_map array) found.ensures.ok ∙ ap (λ d. Some (d, c.read_items.new.reader)) (sym (data-Array found.field-0))

pub read-returns-in_ok-read_members-in-BeginObject-clause-ok : goal.read-returns-in_ok-read_members-in-BeginObject-clause-ok
read-returns-in_ok-read_members-in-BeginObject-clause-ok t c =
    let first : c.args.reader.now ≡ token_of c.in-Some.token ∷ c.next.new.self = grind arith in
    let opened = ap (converted of_json) (ap (value c.args.depth) (first ∙ ap (λ k. token_of k ∷ c.next.new.self) c.in-BeginObject.is) ∙ value-begin_object c.args.depth c.next.new.self (omega arith)) ∙ converted-object (members (value (c.args.depth - 1)) (length c.next.new.self) c.next.new.self) in
    let found = c.in_ok-read_members-in-BeginObject in
    let w = is_wanted c.args.wanted in
    ap (parse_map (keep w)) opened ∙ keep-object w _ ∙ ap (parse_map object) found.ensures.ok ∙ ap (λ d. Some (d, c.read_members.new.reader)) (sym (data-Object found.field-0))

pub read_items-items-init : goal.read_items-items-init
read_items-items-init t c =
    let all = parse_map (keep_items (is_wanted c.args.wanted)) (converted of_items (items (value c.args.depth) (length c.args.reader.now) c.args.reader.now)) in
    (length c.args.reader.now, omega arith, none_before all ∙ ap (λ vs. parse_map (items_before vs) all) (sym c.in_ok-found.ensures.items), omega arith)

pub read_items-returns-in_err-item-clause-err : goal.read_items-returns-in_err-item-clause-err
read_items-returns-in_err-item-clause-err t c refused =
    let p = value c.args.depth in
    let l = c.items in
    let n = l.invariant.0 in
    let going : (after_end_array l.reader ≡ None) × (c.take_end_array.new.self ≡ l.reader) = grind arith in
    let w = is_wanted c.args.wanted in
    mapped_none (keep_items w) _ (l.invariant.2 ∙ ap (λ o. parse_map (items_before l.found.items) (parse_map (keep_items w) o)) (item_refused p n l.reader going.0 (rw (← going.1) (c.read.ensures.err (grind arith)))))

pub read_items-items-preserved : goal.read_items-items-preserved
read_items-items-preserved t c =
    let p = value c.args.depth in
    let l = c.items in
    let n = l.invariant.0 in
    let going : (after_end_array l.reader ≡ None) × (c.take_end_array.new.self ≡ l.reader) = grind arith in
    let done = c.in_ok-item.ensures in
    let v = c.in_ok-item.item in
    let r = c.read.new.reader in
    let less : length r < length l.reader = rw (← going.1) done.shorter in
    let w = is_wanted c.args.wanted in
    let whole = mapped_some (keep w) (converted of_json (p l.reader)) (value_data v) r (rw (← going.1) done.ok) in
    let turn = ap (parse_map (keep_items w)) (item_read p n l.reader r whole.0 (omega (arith, l.invariant.1)) going.0 whole.1) ∙ keep-item w whole.0 (value_data v) whole.2 _ in (
      n - 1,
      omega (arith, l.invariant.1),
      l.invariant.2 ∙ ap (parse_map (items_before l.found.items)) turn ∙ one_more_item l.found.items v _
          ∙ ap (λ vs. parse_map (items_before vs) (parse_map (keep_items w) (converted of_items (items p (n - 1) r)))) (sym c.in_ok-push.ensures.ok),
      omega (arith, l.invariant.3),
    )

pub read_items-returns-clause-ok : goal.read_items-returns-clause-ok
read_items-returns-clause-ok t c =
    let p = value c.args.depth in
    let l = c.items in
    let n = l.invariant.0 in
    let r = c.take_end_array.new.self in
    l.invariant.2 ∙ ap (λ o. parse_map (items_before l.found.items) (parse_map (keep_items (is_wanted c.args.wanted)) o)) (items_over p n l.reader r l.invariant.1 (grind arith)) ∙ ap (λ ds. Some (ds, r)) (items_before-no_items l.found.items)
    ∙ ap (λ (vs : List Value). Some (items_data vs, r)) (sym c.shrink_to_fit.ensures.items)

pub read_members-members-init : goal.read_members-members-init
read_members-members-init t c =
    (length c.args.reader.now, no_members, omega arith, refl, omega arith, tt, ap members_data (sym c.in_ok-found.ensures.items))

pub read_members-returns-in_err-key-clause-err : goal.read_members-returns-in_err-key-clause-err
read_members-returns-in_err-key-clause-err t c refused =
    let l = c.members in
    l.invariant.3 ∙ key_refused (value c.args.depth) l.invariant.1 l.invariant.0 l.reader c.in_err-key.ensures.value

pub read_members-returns-in_err-member-clause-err : goal.read_members-returns-in_err-member-clause-err
read_members-returns-in_err-member-clause-err t c refused =
    let l = c.members in
    let k = c.in-Some.key.now in
    let s = c.next_key.new.self in
    let named : read_key l.reader ≡ Some (Some k, s) = grind arith in
    l.invariant.3 ∙ member_refused (value c.args.depth) l.invariant.1 l.invariant.0 k l.reader s named (c.read.ensures.err (grind arith))

pub read_members-members-preserved : goal.read_members-members-preserved
read_members-members-preserved t c =
    let p = value c.args.depth in
    let l = c.members in
    let n = l.invariant.0 in
    let old = l.invariant.1 in
    let w = is_wanted c.args.wanted in
    let k = c.in-Some.key in
    let s = c.next_key.new.self in
    let named : read_key l.reader ≡ Some (Some k.now, s) = grind arith in
    let done = c.in_ok-member.ensures in
    let v = c.in_ok-member.member in
    let r = c.read.new.reader in
    let less = read_key-shorter l.reader (Some k.now) s named in
    let lesser = done.shorter in
    let whole = mapped_some (keep w) (converted of_json (p s)) (value_data v) r done.ok in
    let d = whole.0 in
    let kept : keep_members w (put k.now d old) ≡ members_data c.add_member.new.found.items =
    keep_put w k.now d old l.invariant.5
    ∙ ap (λ e. cond (w k.now) (put k.now e (keep_members w old)) (keep_members w old)) whole.2
    ∙ ap (λ ms. cond (w k.now) (put k.now (value_data v) ms) ms) l.invariant.6
    ∙ sym c.in_ok-add_member.ensures.ok in (
      n - 1,
      put k.now d old,
      omega (arith, l.invariant.2),
      l.invariant.3 ∙ member_read p old n k.now l.reader s r d (omega (arith, l.invariant.2)) named whole.1,
      omega (arith, l.invariant.4),
      in_order_put k.now d old l.invariant.5,
      kept,
    )

pub read_members-returns-clause-ok : goal.read_members-returns-clause-ok
read_members-returns-clause-ok t c =
    let l = c.members in
    let w = is_wanted c.args.wanted in
    let r = c.next_key.new.self in
    ap (parse_map (keep_members w)) (l.invariant.3 ∙ members_over (value c.args.depth) l.invariant.1 l.invariant.0 l.reader r l.invariant.2 (grind arith))
    ∙ ap (λ (ms : Members). Some (ms, r)) (l.invariant.6 ∙ ap (λ (es : List Entry). members_data es) (sym c.shrink_to_fit.ensures.items))
