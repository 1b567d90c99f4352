use Rattle.std.proofs.Common.{◌≡◌, ◌∙◌, min, ap, subst, sym, arith}
use Rattle.claim_counter.specs.Passes.{own}
use Rattle.claim_counter.specs.Records.{IsSole, AreAllBelow}
use Rattle.claim_counter.proofs.Steps.{closes, drawn_below}
use Rattle.claim_counter.proofs.claims.Claims.close.Goals as goal

module _ (c : goal.After-min) where
  sole : IsSole c.args.self.limit c.word-word.result (own c.args.pass)
  sole = rw (← c.args.self.limit_is) (closes _ _ _ _ _ _ c.close_with-closed.ensures.values.2 c.word-word.ensures c.args.pass.live c.requires.only)

  least : c.min.result ≡ min c.word-word.result c.args.self.limit
  least = c.min.ensures ∙ ap (min c.word-word.result) c.from.ensures

pub returns-clause-drawn : goal.returns-clause-drawn
returns-clause-drawn c = subst (λ n. AreAllBelow n (own c.args.pass).claims) (sym (least c)) (drawn_below _ _ _ (sole c))

pub returns-clause-all : goal.returns-clause-all
returns-clause-all c ended = let past = (sole c).ended ended in let is = least c in let same = c.args.self.limit_is in omega arith
