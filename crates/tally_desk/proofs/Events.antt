-- Each step of a desk keeps its rule, and takes the matching machine to the machine after its events.
use Rattle.std.proofs.Common.{◌≡◌, ℕ, ◌+◌, min, List, [], ◌∷◌, ◌++◌, set, get_or, length, length-set, refl, sym, ap, ◌∙◌, subst, arith}
use mathlib.Core.Option as maybe
use Rattle.audit_model.specs.declared.outcome.Event.TheVariants.{Claim}
use Rattle.audit_model.specs.declared.outcome.Did.{Did}
use Rattle.audit_model.specs.Machine.{Machine, state_after, step}
use Rattle.claim_counter.specs.Records.{with_claim}
use Rattle.tally_desk.specs.declared.entry.Entry.{Entry}
use Rattle.tally_desk.specs.declared.state.RunState.{RunState}
use Rattle.tally_desk.specs.Counter.{CounterLaws}
use Rattle.tally_desk.specs.Desks.{KeepsTally, KnowsPosts, ended_view, with_entry, with_own, with_turn}
use Rattle.tally_desk.specs.Entries.{post_of}
use Rattle.tally_desk.specs.MachineStates.{HasHistory, machine_of}
use Rattle.tally_desk.specs.Machines.{StepsAreEvents, begins, claims, ends, joins, looks, post_events, serves, splits, takes_ticket}
use Rattle.tally_desk.specs.Parts.{Parts}
use Rattle.tally_desk.specs.Views.{turn_ids, waiting}
use Rattle.tally_desk.proofs.Bounds.{put_first, put_second, put_third}
use Rattle.tally_desk.proofs.Machining.{claim_event, post_event}
use Rattle.tally_desk.proofs.Reaching.{claimed_history, ended_history, first_kept, first_set, posted_history, same_next}
use Rattle.tally_desk.proofs.Tallying.{awaits, begun, claimed, ended, in_use, merged, new_unposted, parted, place_drawn, served, ticketed}

module _ {C : Type 0} (HomeAs : Parts → RunState C → List Entry → Type 0) (parts : Parts) (laws : CounterLaws) where
  pub steps_are_events : StepsAreEvents HomeAs parts
  steps_are_events s _ _ m st (claims id v at is weighs below) =
      let k = st.rule in
      let a = get_or s.words 0 0 in
      let first = first_set s.words (a + 1) k.three_words in
      record {
        rule = record {
          three_words = length-set s.words 0 (a + 1) ∙ k.three_words;
          one_slot = k.one_slot;
          posted = k.posted;
          tallied = put_first (λ x y z. KeepsTally HomeAs parts x y z k.posted s.homes (set s.views id (with_own v (with_claim a v.own)))) s.words (a + 1) k.three_words
              (claimed HomeAs parts a _ _ k.posted s.homes s.views k.tallied id v at laws is weighs below);
          history = subst (λ (n : ℕ). HasHistory parts n k.posted) (sym first)
              (claimed_history parts k.tallied.plan a k.posted k.history below (new_unposted HomeAs parts a _ _ k.posted s.homes s.views k.tallied id v at laws is weighs below));
        };
        is = ap (λ (n : Machine). (step n (Claim a)).0) st.is
            ∙ ap (λ (r : Machine × Did). r.0) (claim_event parts k.tallied.plan a k.posted below (new_unposted HomeAs parts a _ _ k.posted s.homes s.views k.tallied id v at laws is weighs below))
            ∙ ap (λ (n : ℕ). machine_of parts n k.posted) (sym first);
      }
  steps_are_events s _ _ m st (ends id v at is weighs going past) =
      let k = st.rule in
      let a = get_or s.words 0 0 in
      let first = first_set s.words (a + 1) k.three_words in
      let next : min a (length parts.todo) ≡ min (get_or (set s.words 0 (a + 1)) 0 0) (length parts.todo) = omega (arith, first, past) in
      record {
        rule = record {
          three_words = length-set s.words 0 (a + 1) ∙ k.three_words;
          one_slot = k.one_slot;
          posted = k.posted;
          tallied = put_first (λ x y z. KeepsTally HomeAs parts x y z k.posted s.homes (set s.views id (ended_view v))) s.words (a + 1) k.three_words
              (ended HomeAs parts a _ _ k.posted s.homes s.views k.tallied id v at laws is weighs going past);
          history = subst (λ (n : ℕ). HasHistory parts n k.posted) (sym first) (ended_history parts a k.posted k.history past);
        };
        is = st.is ∙ same_next parts a _ k.posted next;
      }
  steps_are_events s _ _ m st (takes_ticket id v o at can) =
      let k = st.rule in
      let b = get_or s.words 1 0 in
      record {
        rule = record {
          three_words = length-set s.words 1 (b + 1) ∙ k.three_words;
          one_slot = k.one_slot;
          posted = k.posted;
          tallied = put_second (λ x y z. KeepsTally HomeAs parts x y z k.posted s.homes (set s.views id (with_turn v (waiting b o)))) s.words (b + 1) k.three_words
              (ticketed HomeAs parts _ b _ k.posted s.homes s.views k.tallied id v at o can);
          history = subst (λ (n : ℕ). HasHistory parts n k.posted) (sym (first_kept s.words 0 (b + 1))) k.history;
        };
        is = st.is ∙ ap (λ (n : ℕ). machine_of parts n k.posted) (sym (first_kept s.words 0 (b + 1)));
      }
  steps_are_events s _ _ m st looks = st
  steps_are_events s _ _ m st (begins id v i at is weighs turn) =
      let k = st.rule in
      record {
        rule = record {
          three_words = k.three_words;
          one_slot = length-set s.homes 0 maybe.none ∙ k.one_slot;
          posted = k.posted;
          tallied = begun HomeAs parts _ _ _ k.posted s.homes s.views k.tallied id v at i is weighs turn;
          history = k.history;
        };
        is = st.is;
      }
  steps_are_events s _ _ m st (serves id v i place l y saved at is weighs turn has_place id_is holds due) =
      let k = st.rule in
      let a = get_or s.words 0 0 in
      let c = get_or s.words 2 0 in
      let e = post_of c i saved in
      let u = in_use parts c k.posted v (k.tallied.each id v at) weighs in
      let knows : (c ≡ c) × (l ≡ k.posted) = subst (KnowsPosts c k.posted) turn u.knows in
      let waits = awaits HomeAs parts a _ c k.posted s.homes s.views k.tallied id v at i weighs (ap turn_ids turn) in
      let below = place_drawn HomeAs parts a _ c k.posted s.homes s.views k.tallied id v at place has_place in
      record {
        rule = record {
          three_words = length-set s.words 2 (c + 1) ∙ k.three_words;
          one_slot = refl;
          posted = k.posted ++ e ∷ [];
          tallied = put_third (λ x y' z. KeepsTally HomeAs parts x y' z (k.posted ++ e ∷ []) (maybe.some y ∷ []) (set s.views id (with_entry v e))) s.words (c + 1) k.three_words
              (served HomeAs parts a _ c k.posted s.homes s.views k.tallied id v at i l y saved is weighs turn knows.1 (subst (λ (q : List Entry). HomeAs parts y (q ++ e ∷ [])) knows.1 holds) due);
          history = subst (λ (n : ℕ). HasHistory parts n (k.posted ++ e ∷ [])) (sym (first_kept s.words 1 (c + 1)))
              (posted_history parts k.tallied.plan a c k.posted i place saved k.history below id_is waits.unposted);
        };
        is = ap (λ (n : Machine). state_after n (post_events place saved)) st.is
            ∙ post_event parts k.tallied.plan a place k.posted c i saved below id_is waits.unposted
            ∙ ap (λ (n : ℕ). machine_of parts n (k.posted ++ e ∷ [])) (sym (first_kept s.words 1 (c + 1)));
      }
  steps_are_events s _ _ m st (splits id v at is weighs some_spare) = record {
    rule = record {
      three_words = st.rule.three_words;
      one_slot = st.rule.one_slot;
      posted = st.rule.posted;
      tallied = parted HomeAs parts _ _ _ st.rule.posted s.homes s.views st.rule.tallied id v at laws is weighs some_spare;
      history = st.rule.history;
    };
    is = st.is;
  }
  steps_are_events s _ _ m st (joins id v other w at apart at_other is weighs weighs' idle idle') = record {
    rule = record {
      three_words = st.rule.three_words;
      one_slot = st.rule.one_slot;
      posted = st.rule.posted;
      tallied = merged HomeAs parts _ _ _ st.rule.posted s.homes s.views st.rule.tallied id v at laws is weighs other w apart at_other weighs' idle idle';
      history = st.rule.history;
    };
    is = st.is;
  }
