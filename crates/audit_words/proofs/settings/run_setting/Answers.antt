use Rattle.std.proofs.Common.{◌≡◌, ◌∙◌, ℕ, List, [], ap, arith, refl, sym}
use Rattle.std.proofs.lemmas.Bool.{and_parts}
use Rattle.std.specs.Prelude.{codes, bytes_eq, nat_lt, unwrap_or}
use Rattle.std.specs.Result.{result_ok}
use Rattle.hex.specs.Hex.{decode_sized}
use Rattle.audit_model.specs.declared.fault.Name.{Name}
use Rattle.audit_model.specs.declared.fault.Name.TheVariants as name
use Rattle.audit_model.specs.declared.setting.Command.TheVariants as command
use Rattle.audit_statement.specs.Words as definition
use Rattle.audit_words.specs.ArgumentBytes.{pairs_in}
use Rattle.audit_words.proofs.ValidValues.{asks_of-good, number-bounds}
use Rattle.audit_words.proofs.settings.run_setting.Goals as goal

pub returns : goal.returns
returns c =
    let text : Name → List ℕ = definition.text_of command.Check (pairs_in c.args.words.now) in
    let number : Name → ℕ = definition.number_named command.Check (pairs_in c.args.words.now) in
    let slack : c.number_at.result ≡ number name.Slack = c.number_at.ensures (omega (arith, (number-bounds 0 10000 (text name.Slack) c.requires.good.slack).1)) in
    let key : c.unwrap.result ≡ unwrap_or (result_ok (decode_sized (text name.Key) 32)) [] =
    ap (λ o. unwrap_or o []) (sym c.unwrap.ensures ∙ c.key_of.ensures ∙ ap (λ t. result_ok (decode_sized t 32)) c.text_of.ensures) in
    let walks : c.number_at-2.result ≡ number name.Walks = c.number_at-2.ensures (omega (arith, (number-bounds 0 100000 (text name.Walks) c.requires.good.walks).1)) in
    let steps : c.number_at-3.result ≡ number name.Steps = c.number_at-3.ensures (omega (arith, (number-bounds 1 1000000000 (text name.Steps) c.requires.good.steps).1)) in
    let ends : c.number_at-4.result ≡ number name.Ends =
    c.number_at-4.ensures (omega (arith, (number-bounds 0 100000 (text name.Ends) (and_parts (definition.is_number 0 100000 (text name.Ends)) (definition.has_walks command.Check (pairs_in c.args.words.now)) c.requires.good.ends).0).1)) in
    let hub_steps : c.number_at-5.result ≡ number name.HubSteps = c.number_at-5.ensures (omega (arith, (number-bounds 1 1000000000 (text name.HubSteps) c.requires.good.hub_steps).1)) in
    let asks : c.args.asks ≡ unwrap_or (definition.asks_of (definition.parts_between 44 (text name.Ask))) [] =
    c.requires.asks ∙ asks_of-good (text name.Ask) (and_parts (definition.are_asks (text name.Ask)) (definition.has_asked_length command.Check (pairs_in c.args.words.now)) c.requires.good.ask).0 in
    let workers : c.number_at-6.result ≡ number name.Workers = c.number_at-6.ensures (omega (arith, (number-bounds 1 32 (text name.Workers) c.requires.good.workers).1)) in
    let budget : c.number_at-7.result ≡ number name.Budget =
    c.number_at-7.ensures (omega (arith, (number-bounds 0 100000 (text name.Budget) (and_parts (definition.is_number 0 100000 (text name.Budget)) (definition.covers_walks command.Check (pairs_in c.args.words.now)) c.requires.good.budget).0).1)) in
    let save : c.number_at-8.result ≡ number name.Save = c.number_at-8.ensures (omega (arith, (number-bounds 0 100000 (text name.Save) c.requires.good.save).1)) in
    let max_cut : c.number_at-9.result ≡ number name.MaxCut = c.number_at-9.ensures (omega (arith, (number-bounds 0 400000 (text name.MaxCut) c.requires.good.max_cut).1)) in
    let stop : c.number_at-10.result ≡ number name.Stop =
    c.number_at-10.ensures (omega (arith, (number-bounds 0 100000 (text name.Stop) (and_parts (definition.is_number 0 100000 (text name.Stop)) (definition.stops_alone command.Check (pairs_in c.args.words.now)) c.requires.good.stop).0).1)) in
    let resume : c.eq.result ≡ bytes_eq (text name.Resume) (codes "yes") = c.eq.ensures ∙ ap (λ t. bytes_eq t (codes "yes")) c.text_of-2.ensures in
    let shift : c.eq-2.result ≡ bytes_eq (text name.Shift) (codes "yes") = c.eq-2.ensures ∙ ap (λ t. bytes_eq t (codes "yes")) c.text_of-3.ensures in
    let serial : c.eq-3.result ≡ bytes_eq (text name.Serial) (codes "yes") = c.eq-3.ensures ∙ ap (λ t. bytes_eq t (codes "yes")) c.text_of-4.ensures in
    let parts : c.number_at-11.result ≡ number name.Parts =
    c.number_at-11.ensures (omega (arith, (number-bounds 1 100000 (text name.Parts) (and_parts (definition.is_number 1 100000 (text name.Parts)) (definition.saves_parts command.Check (pairs_in c.args.words.now)) c.requires.good.parts).0).1)) in
    let part : c.number_at-12.result ≡ number name.Part =
    c.number_at-12.ensures (omega (arith, (number-bounds 0 100000 (text name.Part) (and_parts (definition.is_number 0 100000 (text name.Part)) (nat_lt (number name.Part) (number name.Parts)) c.requires.good.part).0).1)) in
    let pairs : c.eq-4.result ≡ bytes_eq (text name.Pairs) (codes "yes") = c.eq-4.ensures ∙ ap (λ t. bytes_eq t (codes "yes")) c.text_of-5.ensures in
    let blind : c.eq-5.result ≡ bytes_eq (text name.Blind) (codes "yes") = c.eq-5.ensures ∙ ap (λ t. bytes_eq t (codes "yes")) c.text_of-6.ensures in
    rw (slack, key, walks, steps, ends, hub_steps, asks, workers, budget, save, resume, max_cut, shift, stop, serial, parts, part, c.weight_at.ensures, pairs, blind) refl
