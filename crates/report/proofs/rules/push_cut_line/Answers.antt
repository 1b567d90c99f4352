use Rattle.std.proofs.Common.{◌∷◌, [], ap, arith, codes, decimal, lt-ltb, sym}
use Rattle.std.specs.Prelude.{nat_lt}
use Rattle.std.proofs.lemmas.Bool.{cond-true}
use Rattle.audit_statement.specs.Report.{line}
use Rattle.report.proofs.Written.{appends-by}
use Rattle.report.proofs.rules.push_cut_line.Goals as goal

pub returns : goal.returns
returns c =
    let most = c.args.job.now.setting.max_cut in
    let same = ap (λ s. s.max_cut) c.setting.ensures.value in
    let limited = lt-ltb most 400000 (omega (arith, same, c.if-most-ge400000.false)) in
    appends-by c.args.out.now c.push_line.new.out _ _ c.push_line.result
    (sym (cond-true (nat_lt most 400000) (line (codes "max-cut" ∷ decimal most ∷ [])) [] limited))
    (rw (c.from.ensures, c.setting.ensures.value) at c.push_line.ensures)
