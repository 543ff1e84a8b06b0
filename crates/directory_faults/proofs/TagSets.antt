-- Sets of tags, and of pairs of tags.
use Rattle.std.proofs.Common.{◌≡◌, ◌∙◌, ◌⊎◌, ◌↔◌, inl, inr, true, cond, [], sym, ap, subst, ⊎_elim}
use Rattle.std.specs.BTreeMap.{is_at}
use Rattle.std.specs.BTreeSet.{BTreeSet, contains}
use Rattle.std.specs.Cmp.{Equal-is}
use Rattle.std.specs.List.{list_any}
use Rattle.std.specs.Ordering.{ordering_then}
use Rattle.std.specs.declared.cmp.Ordering.{Ordering}
use Rattle.std.specs.declared.cmp.Ordering.TheVariants.{Equal}
use mathlib.Core.Bool.{false≢true}
use Rattle.fileset_shapes.specs.domain_base.contracts.place.TagOrd.TheImpl as tag_ord
use Rattle.fileset_shapes.specs.domain_base.declared.place.Tag.{Tag}
use Rattle.directory_faults.specs.Parents.{pair_order}
use Rattle.directory_faults.proofs.Noted.{cond_true, tag_itself, tags_alike, then_equal}

-- a set has what it had, and what was put
pub put_key : {K : Type 0} (cmp : K → K → Ordering) (old new : BTreeSet K) (key : K) → ((q : K) → (is_at (cmp key) q ≡ true) ↔ (key ≡ q))
    → ((q : K) → contains cmp new q ≡ cond (is_at (cmp key) q) true (contains cmp old q)) → (q : K) → (contains cmp new q ≡ true) ↔ ((contains cmp old q ≡ true) ⊎ (key ≡ q))
put_key cmp old new key exact updates q =
    let either = cond_true (is_at (cmp key) q) (contains cmp old q) in (
      λ is. ⊎_elim (λ has. inl has) (λ test. inr ((exact q).0 test)) (either.0 (sym (updates q) ∙ is)),
      λ which. updates q ∙ either.1 (⊎_elim (λ has. inl has) (λ same. inr ((exact q).1 same)) which),
    )

pub no_key : {K : Type 0} (cmp : K → K → Ordering) (set : BTreeSet K) → set.keys ≡ [] → (q : K) → ¬ contains cmp set q ≡ true
no_key cmp set empty q is = false≢true (sym (ap (list_any (is_at (cmp q))) empty) ∙ is)

pub tag_at : (key q : Tag) → (is_at ((tag_ord.ghosts).cmp key) q ≡ true) ↔ (key ≡ q)
tag_at key q = (
  λ is. tags_alike key q ((Equal-is ((tag_ord.ghosts).cmp key q)).0 is),
  λ same. (Equal-is ((tag_ord.ghosts).cmp key q)).1 (subst (λ (t : Tag). (tag_ord.ghosts).cmp key t ≡ Equal) same (tag_itself key)),
)

pub pair_at : (key q : Tag × Tag) → (is_at (pair_order key) q ≡ true) ↔ (key ≡ q)
pair_at key q = (to_same, from_same)
  where
    to_same : is_at (pair_order key) q ≡ true → key ≡ q
    to_same is =
        let both = then_equal ((tag_ord.ghosts).cmp key.0 q.0) ((tag_ord.ghosts).cmp key.1 q.1) ((Equal-is (pair_order key q)).0 is) in
        let first = tags_alike key.0 q.0 both.0 in
        let second = tags_alike key.1 q.1 both.1 in
        λ i. (first i, second i)

    itself : pair_order key key ≡ Equal
    itself = subst (λ o. ordering_then o ((tag_ord.ghosts).cmp key.1 key.1) ≡ Equal) (sym (tag_itself key.0)) (tag_itself key.1)

    from_same : key ≡ q → is_at (pair_order key) q ≡ true
    from_same same = (Equal-is (pair_order key q)).1 (subst (λ (p : Tag × Tag). pair_order key p ≡ Equal) same itself)
