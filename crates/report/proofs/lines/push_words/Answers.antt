use Rattle.std.proofs.Common.{◌∷◌, [], List, ℕ, flat_map, refl, sym, arith}
use Rattle.std.proofs.lemmas.List.Folds.{flat_map-map}
use Rattle.std.proofs.lemmas.Result.{err_from_is_err_and}
use Rattle.report.specs.Lines.{word_text}
use Rattle.report.specs.declared.lines.Word.{Word}
use Rattle.report.specs.declared.lines.Word.TheVariants.{Text}
use Rattle.report.proofs.Pieces.{pieces-all, pieces-err, pieces-more}
use Rattle.report.proofs.Written.{appends-by}
use Rattle.report.proofs.lines.push_words.Goals as goal

blank : Word
blank = Text (record { ref_ptr = (0, 0); now = [] })

pub loop-word-preserved : goal.loop-word-preserved
unfolding blank
loop-word-preserved c =
    pieces-more (λ word. 32 ∷ word_text word) c.args.words.now c.loop-word.word-index _ blank c.args.out.now c.loop-word.out c.push_next.new.out
    (omega arith) refl c.loop-word.invariant c.in_ok-push_next.ensures

pub returns-in_err-push_next : goal.returns-in_err-push_next
unfolding blank
returns-in_err-push_next c =
    let p = err_from_is_err_and c.from_residual.result c.from_residual.ensures.1 in
    let same = flat_map-map (λ (word : List ℕ). 32 ∷ word) word_text c.args.words.now in
    rw (p.1, p.2)
    (appends-by c.args.out.now c.push_next.new.out (flat_map (λ word. 32 ∷ word_text word) c.args.words.now) _ _ (sym same)
    (pieces-err (λ word. 32 ∷ word_text word) c.args.words.now c.loop-word.word-index _ blank c.args.out.now c.loop-word.out c.push_next.new.out
    c.in_err-push_next.field-0.0 (omega arith) refl c.loop-word.invariant c.in_err-push_next.ensures))

pub returns : goal.returns
returns c =
    appends-by c.args.out.now c.loop-word.out (flat_map (λ word. 32 ∷ word_text word) c.args.words.now) _ _
    (sym (flat_map-map (λ (word : List ℕ). 32 ∷ word) word_text c.args.words.now))
    (pieces-all (λ word. 32 ∷ word_text word) c.args.words.now c.loop-word.word-index c.args.out.now c.loop-word.out (omega arith) c.loop-word.invariant)
