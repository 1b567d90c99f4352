use Rattle.std.proofs.Common.{sym, ◌∙◌}
use Rattle.region_guard.proofs.Tallying.{no_majority}
use Rattle.region_guard.proofs.majority.GroupTally.majorities_with.Goals as goal

pub returns-then-len-eq0 : goal.returns-then-len-eq0
returns-then-len-eq0 c =
    let none = sym c.len.ensures ∙ c.if-len-eq0.true in
    c.requires.stood.majorities ∙ no_majority c.args.self.now.share c.args.group.now _ none ∙ sym (no_majority c.args.self.now.share c.args.group.now c.args.after.now none)
