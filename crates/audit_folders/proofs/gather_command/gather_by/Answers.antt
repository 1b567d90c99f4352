use Rattle.std.proofs.Common.{◌∙◌, List, not, refl, subst, sym, ℕ}
use Rattle.audit_folders.specs.GatherProgram.{LetsFoundNamed, LetsNotedWords, LetsSaveNamed, folders_in, moment, run_part}
use Rattle.audit_folders.proofs.gather_command.gather_by.Goals as goal

pub gather_words-requires : goal.gather_words-requires
gather_words-requires g c κs =
    let looks = c.in-Some.looks in
    let opens = g.F.Folders.opens c.args.folders.now in
    let before = moment (g.S.Source.state c.args.source.now) (g.C.Keeper.state c.args.keeper.now) (g.O.Sink.state c.args.out.now) (g.N.Sink.state c.args.note.now) in
    let is = sym c.look_option.ensures ∙ c.in-Some.is in
    let rest = sym c.after_look-arguments.ensures in (
      (refl, tt),
      (
        subst (λ (w : List (List ℕ)). LetsSaveNamed g.C.Keeper.lets (not looks) opens (folders_in w) (run_part w) before) rest (c.requires.lets looks is),
        (
          subst (λ (w : List (List ℕ)). LetsFoundNamed g.O.Sink.lets (not looks) opens (folders_in w) (run_part w) before) rest (c.requires.text looks is),
          subst (λ (w : List (List ℕ)). LetsNotedWords g.N.Sink.lets (not looks) opens w before) rest (c.requires.note.asked looks is),
        ),
      ),
    )
