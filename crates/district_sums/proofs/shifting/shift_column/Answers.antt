use Rattle.std.proofs.Common.{◌≡◌, ℕ, ◌-◌, ◌^◌, ◌<◌, ◌≤◌, List, length, get_or, refl, sym, ◌∙◌, arith}
use Rattle.std.proofs.lemmas.List.Elements.{All-get_or}
use Rattle.district_sums.proofs.Shifted.{enough, small_sum, shifted_list}
use Rattle.district_sums.proofs.shifting.shift_column.Goals as goal

-- a bound may be replaced by an equal one
inside : (u m n : ℕ) → u < n → m ≡ n → u < m
inside u m n l e = omega (arith, l, e)

pub overflow_sub-sums : goal.overflow_sub-sums
overflow_sub-sums c = enough c.args.member.plan.now c.args.member.unit c.args.district (inside c.args.member.unit _ _ c.args.member.within c.args.member.complete) c.args.column.now c.args.sums.now c.requires.added c.requires.moves.elsewhere c.requires.moves.home

pub overflow_add-sums : goal.overflow_add-sums
overflow_add-sums c =
    let column : List ℕ = c.args.column.now in
    let home : ℕ = get_or c.args.member.plan.now c.args.member.unit 0 in
    let small : (v : ℕ) → v < length column → get_or column v 0 ≤ 10 ^ 9 = λ v l. All-get_or (λ n. n ≤ 10 ^ 9) column v 0 l c.requires.column.small in
    let sum = small_sum c.args.member.plan.now c.args.member.unit c.args.district (inside c.args.member.unit _ _ c.args.member.within c.args.member.complete) column c.args.sums.now (get_or c.args.sums.now home 0 - get_or column c.args.member.unit 0) (10 ^ 9)
    c.requires.added c.requires.moves.elsewhere c.requires.moves.target (c.requires.column.width ∙ sym c.args.member.complete) small in
    omega (arith, sum, small c.args.member.unit (omega (arith, (inside c.args.member.unit _ _ c.args.member.within c.args.member.complete), (c.requires.column.width ∙ sym c.args.member.complete))), c.args.member.few, c.args.member.complete)

pub returns : goal.returns
returns c =
    let column : List ℕ = c.args.column.now in
    let sums : List ℕ = c.args.sums.now in
    let home : ℕ = get_or c.args.member.plan.now c.args.member.unit 0 in
    let most = enough c.args.member.plan.now c.args.member.unit c.args.district (inside c.args.member.unit _ _ c.args.member.within c.args.member.complete) column sums c.requires.added c.requires.moves.elsewhere c.requires.moves.home in
    shifted_list c.args.member.plan.now c.args.member.unit c.args.district (inside c.args.member.unit _ _ c.args.member.within c.args.member.complete) column sums (get_or sums home 0 - get_or column c.args.member.unit 0) _
    c.requires.added c.requires.moves.elsewhere c.requires.moves.home c.requires.moves.target (omega (arith, most)) refl
