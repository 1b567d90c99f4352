use base.Stored.{Coded-set}
use Rattle.std.proofs.Common.{◌≡◌, ◌-◌, List, ℕ, ◌++◌, true, length, take, drop, length-drop, ap, sym, subst, arith, ◌∙◌, rules}
use Rattle.std.proofs.Math.Logic.{∥∥₁_elim}
use Rattle.std.proofs.lemmas.Bool.Decides.{Decides-eqb}
use Rattle.std.proofs.lemmas.List.{take_all}
use Rattle.std.proofs.lemmas.Slice.Eq.{starts_is}
use Rattle.std.specs.Coded.{coded_ℕ, coded_list}
use Rattle.sha2.specs.Hashers.{Holds256}
use Rattle.sha2.specs.Sha256.{sha256}
use Rattle.ckpt_format.proofs.ahead.Ahead.digest_of.Goals as goal

pub returns : goal.returns
returns c =
    let thought = c.args.self.now.bytes.items in
    let front = c.as_slice.result.now in
    let bytes = c.args.bytes.now in
    let taken = c.len-taken.result in
    let begins : c.starts_with-begins.result ≡ true = search rules in
    let split : bytes ≡ front ++ drop (length front) bytes =
    (starts_is Decides-eqb bytes front c.starts_with-begins.result c.starts_with-begins.ensures.value).0 begins in
    let same : front ≡ thought = c.as_slice.ensures in
    let len : length front ≡ taken = ap length same ∙ sym c.len-taken.ensures in
    let rest : take (length bytes - taken) (drop taken bytes) ≡ drop taken bytes =
    take_all (length bytes - taken) (drop taken bytes) (omega (arith, length-drop taken bytes)) in
    let whole : thought ++ take (length bytes - taken) (drop taken bytes) ≡ bytes =
    ap (λ (l : List ℕ). thought ++ l) rest
    ∙ sym (split ∙ ap (λ (l : List ℕ). l ++ drop (length front) bytes) same ∙ ap (λ (n : ℕ). thought ++ drop n bytes) len) in
    ∥∥₁_elim c.args.self.now.taken (Coded-set (coded_list coded_ℕ) _ _) (λ holds.
    c.finalize.ensures _ (c.update.ensures thought (subst (λ h. Holds256 h thought) (sym c.replace-hasher.ensures.value) holds)) ∙ ap sha256 whole)
