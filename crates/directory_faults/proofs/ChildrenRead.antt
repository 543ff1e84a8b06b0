-- The tags that a map has for directories.
use Rattle.std.proofs.Common.{◌≡◌, ◌∙◌, ◌⊎◌, ◌↔◌, inl, inr, zero, suc, ℕ, Bool, true, false, cond, List, [], ◌∷◌, ◌++◌, Some, None, Vec, Contains, slice_get, refl, sym, ap, subst, ⊎_elim}
use Rattle.std.specs.BTreeMap.{BTreeMap, is_at}
use Rattle.std.proofs.lemmas.List.Elements.{Contains-append_cases, Contains-append_left, Contains-append_right}
use mathlib.Core.Bool.{false≢true}
use Rattle.fileset_shapes.specs.domain_base.contracts.place.TagOrd.TheImpl as tag_ord
use Rattle.fileset_shapes.specs.domain_base.declared.place.Kind.TheVariants.{Directory}
use Rattle.fileset_shapes.specs.domain_base.declared.place.Tag.{Tag}
use Rattle.directory_faults.specs.declared.rows.RowThere.{RowThere}
use Rattle.directory_faults.proofs.Inserted.{among_at, at_among}
use Rattle.directory_faults.proofs.TagSets.{tag_at}
use Rattle.directory_faults.specs.Children.{HasChild, LeadsOn, children_in}

none_some : {X : Type 0} (x : X) → None ≡ Some x → ⊥
none_some x e = cc

some_same : {X : Type 0} (a b : X) → Some a ≡ Some b → a ≡ b
some_same a b e = cc

only_item : (child other : Tag) → Contains (child ∷ []) other → child ≡ other
only_item child other among = by_place (among_at (child ∷ []) other among).0 (among_at (child ∷ []) other among).1
  where
    by_place : (k : ℕ) → slice_get (child ∷ []) k ≡ Some other → child ≡ other
    by_place zero at = some_same child other at
    by_place (suc k) at = absurd (none_some other at)

no_item : (other : Tag) → ¬ Contains [] other
no_item other among = let at = among_at [] other among in none_some other at.1

-- ---- a list put anew

module _ {Z : Type 0} where
  -- and so the map has one more
  pub child_put : (old new : BTreeMap Tag (Vec Tag Z)) (dir child : Tag)
      → ((one : Tag) → children_in new one ≡ children_in old one ++ cond (is_at ((tag_ord.ghosts).cmp dir) one) (child ∷ []) [])
      → (one other : Tag) → HasChild new one other ↔ (HasChild old one other ⊎ ((dir ≡ one) × (child ≡ other)))
  child_put old new dir child put one other = by_test (is_at ((tag_ord.ghosts).cmp dir) one) refl (put one)
    where
      by_test : (b : Bool) → is_at ((tag_ord.ghosts).cmp dir) one ≡ b → children_in new one ≡ children_in old one ++ cond b (child ∷ []) []
          → HasChild new one other ↔ (HasChild old one other ⊎ ((dir ≡ one) × (child ≡ other)))
      by_test true right items = (
        λ has. ⊎_elim (λ before. inl before) (λ last. inr ((tag_at dir one).0 right, only_item child other last))
            (Contains-append_cases (children_in old one) (child ∷ []) other (subst (λ (l : List Tag). Contains l other) items has)),
        λ which. subst (λ (l : List Tag). Contains l other) (sym items) (⊎_elim (λ before. Contains-append_left (children_in old one) (child ∷ []) other before)
            (λ (same, is). Contains-append_right (children_in old one) (child ∷ []) other (at_among (child ∷ []) 0 other (ap (λ (t : Tag). Some t) is))) which),
      )
      by_test false wrong items = (
        λ has. ⊎_elim (λ before. inl before) (λ last. absurd (no_item other last)) (Contains-append_cases (children_in old one) [] other (subst (λ (l : List Tag). Contains l other) items has)),
        λ which. subst (λ (l : List Tag). Contains l other) (sym items) (⊎_elim (λ before. Contains-append_left (children_in old one) [] other before)
            (λ (same, is). absurd (false≢true (sym wrong ∙ (tag_at dir one).1 same))) which),
      )

  -- by a row that leads to a directory
  pub row_put : (old new : BTreeMap Tag (Vec Tag Z)) (r : RowThere) → r.row.kind ≡ Directory
      → ((one : Tag) → children_in new one ≡ children_in old one ++ cond (is_at ((tag_ord.ghosts).cmp r.at.dir) one) (r.row.tag ∷ []) [])
      → (dir tag : Tag) → HasChild new dir tag ↔ (HasChild old dir tag ⊎ LeadsOn r dir tag)
  row_put old new r kind put dir tag =
      let both = child_put old new r.at.dir r.row.tag put dir tag in (
        λ has. ⊎_elim (λ before. inl before) (λ (from, to). inr (from, kind, to)) (both.0 has),
        λ which. both.1 (⊎_elim (λ before. inl before) (λ (from, is, to). inr (from, to)) which),
      )
