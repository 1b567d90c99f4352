use Rattle.std.proofs.Common.{arith, ap, refl, ◌∙◌, ◌≡◌, List, [], ◌∷◌, ◌++◌, length}
use Rattle.std.proofs.lemmas.List.{nil_from_length}
use Rattle.tally_desk.specs.declared.state.RunState.{RunState}
use Rattle.tally_desk.proofs.handing.take_only.Goals as goal

pub returns : goal.returns
returns g c =
    let len = c.in-Some.ensures.len in
    let ok = c.pop.new.self.ok.0 in
    let one = c.requires in
    let none : length c.pop.new.self.items ≡ 0 = omega arith in
    (c.in-Some.state, c.in-Some.ensures.items ∙ ap (λ (l : List (RunState g.row.C.Denot)). l ++ c.in-Some.state ∷ []) (nil_from_length c.pop.new.self.items none), refl)
