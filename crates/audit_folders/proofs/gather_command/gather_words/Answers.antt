use Rattle.std.proofs.Common.{◌≡◌, ◌&&◌, List, ℕ, true, false, refl, subst, sym}
use Rattle.audit_statement.specs.DueText.{LetsText}
use Rattle.audit_statement.specs.Note.{as_line}
use Rattle.std.specs.Prelude.{◌∷◌, [], codes}
use Rattle.audit_folders.specs.GatherProgram.{LetsFoundNamed, LetsNotedNamed, LetsSaveNamed, is_none_named, moment}
use Rattle.audit_folders.proofs.gather_command.gather_words.Goals as goal

both : (P : List (List ℕ) → List (List ℕ) → Type 0) {names named part parted : List (List ℕ)} → named ≡ names → parted ≡ part → P names part → P named parted
both P {names = names} {parted = parted} e f h = subst (λ n. P n parted) (sym e) (subst (λ p. P names p) (sym f) h)

pub gather_some-requires : goal.gather_some-requires
gather_some-requires g c κs =
    let opens = g.F.Folders.opens c.args.folders.now in
    let saves = c.args.saves in
    let before = moment (g.S.Source.state c.args.source.now) (g.C.Keeper.state c.args.keeper.now) (g.O.Sink.state c.args.out.now) (g.N.Sink.state c.args.note.now) in
    let e = c.folders_in-names.ensures in
    let f = c.run_part-arguments.ensures in (
      (refl, tt),
      (
        both (λ n p. LetsSaveNamed g.C.Keeper.lets saves opens n p before) e f c.requires.lets,
        (
          both (λ n p. LetsFoundNamed g.O.Sink.lets saves opens n p before) e f c.requires.text,
          (
            both (λ n p. (saves && is_none_named n) ≡ true → LetsText g.N.Sink.lets (g.N.Sink.state c.args.note.now) (as_line (codes "words: no folder" ∷ []))) e f
                c.requires.note.no_folder,
            both (λ n p. (saves && is_none_named n) ≡ false → LetsNotedNamed g.N.Sink.lets saves opens n p before) e f c.requires.note.named,
          ),
        ),
      ),
    )
