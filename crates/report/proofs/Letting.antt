-- Premises on a sink that permits a text, and on its parts.
use Rattle.std.proofs.Common.{◌≡◌, ◌∙◌, ℕ, ◌-◌, Bool, true, false, List, [], ◌++◌, length, take, drop, refl, sym, ap, subst, append_assoc, append-nil, take_all, arith}
use Rattle.std.proofs.lemmas.List.{length-drop, take-append-drop}
use Rattle.std.proofs.KnownBytes.{Appends-trans, Appends-nil}
use Rattle.std.specs.Io.KnownBytes.{Appends}
use Rattle.audit_model.specs.State.{Stream}
use Rattle.report.specs.AddedText.{HasAdded, LetsNext}
use Rattle.audit_statement.specs.DueText.{LetsBytes, LetsText}

module _ {lets : LetsBytes} where
  -- an equal text is permitted
  pub lets_as : {s : Stream} {one other : List ℕ} → LetsText lets s one → one ≡ other → LetsText lets s other
  lets_as {s = s} h e = subst (λ (t : List ℕ). LetsText lets s t) e h

  -- the front of a permitted text is permitted
  pub lets_front : {s : Stream} (front rest : List ℕ) → LetsText lets s (front ++ rest) → LetsText lets s front
  lets_front front more h = record {
    permits = λ now done next rest split appended faults.
        h.permits now done next (rest ++ more) (ap (λ t. t ++ more) split ∙ append_assoc done (next ++ rest) more ∙ ap (λ t. done ++ t) (append_assoc next rest more)) appended faults;
  }

  -- once the front was taken, the rest of a permitted text is permitted
  pub lets_rest : {s t : Stream} (front rest : List ℕ) → LetsText lets s (front ++ rest) → Appends s.bytes t.bytes front → t.faults ≡ s.faults → LetsText lets t rest
  lets_rest {s = s} {t = t} front left h taken same = record {
    permits = λ now done next rest split appended faults.
        h.permits now (front ++ done) next rest (ap (λ x. front ++ x) split ∙ sym (append_assoc front done (next ++ rest)))
        (Appends-trans s.bytes t.bytes now.bytes front done taken appended) (faults ∙ same);
  }

  -- what is left of a permitted text may be handed over
  pub lets_left : {s : Stream} (now : Stream) (text : List ℕ) (at : ℕ) → LetsText lets s text → Appends s.bytes now.bytes (take at text) → now.faults ≡ s.faults
      → lets now (take (length text - at) (drop at text))
  lets_left now text at h taken same =
      h.permits now (take at text) (take (length text - at) (drop at text)) []
      (sym (take-append-drop at text) ∙ ap (λ t. take at text ++ t) (sym (append-nil (take (length text - at) (drop at text)) ∙ all))) taken same
    where
      all : take (length text - at) (drop at text) ≡ drop at text
      all = ap (λ n. take n (drop at text)) (sym (length-drop at text)) ∙ take_all (length (drop at text)) (drop at text) (omega arith)

  -- ---- a text that is written piece by piece

  -- before its first piece
  pub next_begins : {s : Stream} {text : List ℕ} → LetsText lets s text → LetsNext lets s true text
  next_begins {s = s} h = record { start = s; text_so_far = []; added = (Appends-nil s.bytes, refl); permitted = h }

  -- an equal text comes next
  pub next_as : {s : Stream} {going : Bool} {one other : List ℕ} → LetsNext lets s going one → one ≡ other → LetsNext lets s going other
  next_as {s = s} {going = going} h e = subst (λ (t : List ℕ). LetsNext lets s going t) e h

  -- the front of what comes next
  pub next_front : {s : Stream} {going : Bool} (front rest : List ℕ) → LetsNext lets s going (front ++ rest) → LetsNext lets s going front
  next_front front rest h = record {
    start = h.start;
    text_so_far = h.text_so_far;
    added = h.added;
    permitted = lets_front (h.text_so_far ++ front) rest (lets_as h.permitted (sym (append_assoc h.text_so_far front rest)));
  }

  -- the rest comes next once the front was written
  pub next_rest : {s t : Stream} {going then : Bool} (front rest : List ℕ) → LetsNext lets s going (front ++ rest)
      → ((start : Stream) (text_so_far : List ℕ) → HasAdded start s text_so_far going → HasAdded start t (text_so_far ++ front) then) → LetsNext lets t then rest
  next_rest front rest h more = record {
    start = h.start;
    text_so_far = h.text_so_far ++ front;
    added = more h.start h.text_so_far h.added;
    permitted = lets_as h.permitted (sym (append_assoc h.text_so_far front rest));
  }

  -- if no write has failed, what comes next is permitted
  pub next_lets : {s : Stream} {text : List ℕ} (going : Bool) → going ≡ true → LetsNext lets s going text → LetsText lets s text
  next_lets {text = text} true e h = lets_rest h.text_so_far text h.permitted h.added.0 h.added.1
  next_lets false e h = cc
