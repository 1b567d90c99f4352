-- A pass that posts what it claims has posted all its claims.
use Rattle.std.proofs.Common.{◌≡◌, ℕ, ◌+◌, List, [], ◌∷◌, ◌++◌, get_or, refl, sym, ap, ◌∙◌, arith}
use mathlib.Core.List.{map-append}
use Rattle.tally_desk.specs.declared.entry.Entry.{Entry}
use Rattle.tally_desk.specs.Desks.{claimed_ids, joined_view}
use Rattle.tally_desk.specs.Entries.{post_of, posted_id, ids_of}
use Rattle.tally_desk.specs.Parts.{Parts}
use Rattle.tally_desk.specs.Passes.{Claims, HasPostedAll, MayPost, Posts, PostsStayWhole}
use Rattle.tally_desk.specs.Views.{PassView}
use Rattle.audit_model.specs.Times.{times}
use Rattle.audit_model.proofs.Times.{one, one_same, times-append, times_push}

-- one more claim counts its id once more
pub claimed_more : (parts : Parts) (id x : ℕ) (v w : PassView) (c : Claims parts id v w) → times x (claimed_ids parts w) ≡ times x (claimed_ids parts v) + one x id
claimed_more parts id x v w c =
    ap (λ (u : PassView). times x (claimed_ids parts u)) c.view
    ∙ ap (times x) (map-append (λ (p : ℕ). get_or parts.todo p 0) v.own.claims (c.place ∷ []))
    ∙ times_push x (claimed_ids parts v) (get_or parts.todo c.place 0) ∙ ap (λ (k : ℕ). times x (claimed_ids parts v) + one x k) (sym c.id_is)

-- a claim changes no posts
pub same_entries : (parts : Parts) (id : ℕ) (v w : PassView) → Claims parts id v w → w.entries ≡ v.entries
same_entries parts id v w c = ap (λ (u : PassView). u.entries) c.view

-- a pass that has posted all its claims may post the next one
may_post : (parts : Parts) (id : ℕ) (v w : PassView) → HasPostedAll parts v → Claims parts id v w → MayPost parts id w
may_post parts id v w all c = record {
  claimed = omega (arith, claimed_more parts id id v w c, one_same id);
  unposted = ap (λ (l : List Entry). times id (ids_of l)) (same_entries parts id v w c) ∙ all id ∙ c.unclaimed;
}

-- after that post, the pass has posted all its claims again
posted_all : (parts : Parts) (id : ℕ) (v u w : PassView) → HasPostedAll parts v → Claims parts id v u → Posts id u w → HasPostedAll parts w
posted_all parts id v u w all c p x =
    let entries : times x (ids_of w.entries) ≡ times x (ids_of v.entries) + one x id =
    ap (λ (z : PassView). times x (ids_of z.entries)) p.view
    ∙ ap (λ (l : List Entry). times x (ids_of (l ++ post_of p.ticket id p.saved ∷ []))) (same_entries parts id v u c)
    ∙ ap (times x) (map-append posted_id v.entries (post_of p.ticket id p.saved ∷ [])) ∙ times_push x (ids_of v.entries) id in
    let claims : times x (claimed_ids parts w) ≡ times x (claimed_ids parts u) = ap (λ (z : PassView). times x (claimed_ids parts z)) p.view in
    omega (arith, entries, claims, claimed_more parts id x v u c, all x)

-- joining two passes that have posted all gives one that has
joined_all : (parts : Parts) (v w : PassView) → HasPostedAll parts v → HasPostedAll parts w → HasPostedAll parts (joined_view v w)
joined_all parts v w all all' x = omega (
  arith,
  all x,
  all' x,
  ap (times x) (map-append posted_id v.entries w.entries),
  times-append x (ids_of v.entries) (ids_of w.entries),
  ap (times x) (map-append (λ (p : ℕ). get_or parts.todo p 0) v.own.claims w.own.claims),
  times-append x (claimed_ids parts v) (claimed_ids parts w),
)

-- the law on passes that have posted all
pub posts_stay_whole : PostsStayWhole
posts_stay_whole = record {
  first = λ parts x. refl;
  right = λ parts v x. refl;
  left = λ parts v all. all;
  may = may_post;
  posted = posted_all;
  end = λ parts v all. all;
  join = joined_all;
}
