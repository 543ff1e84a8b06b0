-- Pages of indexes that are found to break a rule of them are those of the rule.
use Rattle.std.proofs.Common.{◌≡◌, ◌∙◌, ◌⊎◌, ◌↔◌, inl, inr, ℕ, ◌<◌, ◌≤◌, List, length, get_or, Contains, Option, Some, None, slice_get, refl, sym, ap, subst, arith, ⊎_elim}
use Rattle.std.proofs.lemmas.Bool.{cases_order}
use Rattle.std.proofs.lemmas.Option.{get_or_from_slice_get, slice_get_read, slice_get_within}
use Rattle.tag_faults.specs.domain_base.declared.place.CellAt.{CellAt}
use Rattle.tag_faults.specs.domain_base.declared.place.Home.{Home}
use Rattle.tag_faults.specs.page_store.Pages.{Pages}
use Rattle.tag_faults.specs.domain_layout.DirectoryRules.{HasIndexAt, IsGoodIndexPage, IsWrongIndexPage}
use Rattle.tag_faults.specs.domain_layout.Reached.{Frame, IsRead, IsUnread, index_way}
use Rattle.tag_faults.specs.page_ways.Walk.{AreRead}
use Rattle.tag_faults.proofs.Counted.{IsBelow}
use Rattle.page_faults.specs.Indexes.{AreIndexes, IsNamed}
use Rattle.page_faults.specs.Shared.{HasPage, IsFaultBehind, IsWrongAt}
use Rattle.page_faults.specs.declared.indexes.IndexAt.{IndexAt}

some_same : {X : Type 0} (a b : X) → Some a ≡ Some b → a ≡ b
some_same a b e = cc

pub at_place : {X : Type 0} (items : List X) (x : X) → Contains items x → (k : ℕ) × (slice_get items k ≡ Some x)
at_place items x (k, within, at) = (k, slice_get_read items (length items) k x refl within (sym at))

-- ---- the pages of one index

module _ (pages : Pages) (frame : Frame) (index : IndexAt) (homes : List Home) (unread : Option Home) (read : AreRead pages frame (index_way index.first) homes unread) (home : Home) where
  pub has_page : Contains homes home ↔ HasPage pages frame home index
  has_page = (
    λ among. let (k, at) = at_place homes home among in let is = (read.each k home).0 at in (k, is.0, is.1),
    λ (place, page, is). let at = (read.each place home).1 (page, is) in (place, slice_get_within homes place home at, get_or_from_slice_get homes place home home at),
  )

  pub fault_behind : (Earlier : Home → Type 0) → ((unread ≡ Some home) ⊎ (Contains homes home × IsWrongAt pages Earlier home)) ↔ IsFaultBehind pages frame Earlier home index
  fault_behind Earlier = (
    λ which. ⊎_elim (λ last. inl ((read.wrong home).0 last)) (λ (among, wrong). inr (has_page.0 among, wrong)) which,
    λ which. ⊎_elim (λ last. inl ((read.wrong home).1 last)) (λ (has, wrong). inr (has_page.1 has, wrong)) which,
  )

-- ---- all indexes, one behind the other

module _ (pages : Pages) (frame : Frame) (indexes : List IndexAt) (home : Home) where
  -- the index at a place has a page there
  abbrev pub HasPageAt : ℕ → Type 0
  HasPageAt k = (index : IndexAt) × (slice_get indexes k ≡ Some index) × HasPage pages frame home index

  abbrev pub IsFaultAt : ℕ → Type 0
  IsFaultAt k = (index : IndexAt) × (slice_get indexes k ≡ Some index) × IsFaultBehind pages frame (λ h. IsBelow (λ n. (one : IndexAt) × (slice_get indexes n ≡ Some one) × HasPage pages frame h one) k) home index

  pub same_behind : (index : IndexAt) (Earlier Other : Home → Type 0) → (Earlier home → Other home) → IsFaultBehind pages frame Earlier home index → IsFaultBehind pages frame Other home index
  same_behind index Earlier Other same (inl none) = inl none
  same_behind index Earlier Other same (inr (has, inl early)) = inr (has, inl (same early))
  same_behind index Earlier Other same (inr (has, inr bad)) = inr (has, inr bad)

  module _ (are : AreIndexes pages frame indexes) where
    named_at : (k : ℕ) (index : IndexAt) → slice_get indexes k ≡ Some index → IsNamed pages frame index
    named_at k index at = (are.each index).0 (k, slice_get_within indexes k index at, get_or_from_slice_get indexes k index index at)

    place_of : (at : CellAt) (first : Home) → HasIndexAt pages frame at first → (k : ℕ) × (slice_get indexes k ≡ Some (record { at = at; first = first }))
    place_of at first has = let index : IndexAt = record { at = at; first = first } in at_place indexes index ((are.each index).1 has)

    moved : (first : Home) (place : ℕ) (page bytes : List ℕ) → IsRead pages frame (index_way first) place home page → pages home ≡ Some bytes → IsRead pages frame (index_way first) place home bytes
    moved first place page bytes is there = subst (IsRead pages frame (index_way first) place home) (some_same page bytes (sym is.there ∙ there)) is

    pub to_rule : (number : ℕ) → IsBelow IsFaultAt number → IsWrongIndexPage pages frame home
    to_rule number (k, below, (index, at, inl unread)) = record { at = index.at; first = index.first; has = named_at k index at; wrong = inl unread }
    to_rule number (k, below, (index, at, inr ((place, page, read), inr (bytes, there, bad)))) = record {
      at = index.at;
      first = index.first;
      has = named_at k index at;
      wrong = inr (place, bytes, moved index.first place page bytes read there, inl bad);
    }
    to_rule number (k, below, (index, at, inr ((place, page, read), inl (j, less, (other, at_other, (other_place, bytes, also)))))) = record {
      at = index.at;
      first = index.first;
      has = named_at k index at;
      wrong = inr (place, page, read, inr (other.at, other.first, other_place, (λ same. let places : j ≡ k = are.once j k other index at_other at same in omega (arith, places, less)), named_at j other at_other, moved other.first other_place bytes page also read.there));
    }

    -- of two indexes that have a page, it is a fault of the later one
    of_both : (number : ℕ) → length indexes ≤ number → (j k : ℕ) (one other : IndexAt) → slice_get indexes j ≡ Some one → slice_get indexes k ≡ Some other → ¬ one.at ≡ other.at
        → HasPage pages frame home one → HasPage pages frame home other → IsBelow IsFaultAt number
    of_both number whole j k one other at_one at_other apart has also = by_order (cases_order j k)
      where
        by_order : (j ≡ k) ⊎ ((j < k) ⊎ (k < j)) → IsBelow IsFaultAt number
        by_order (inl same) = absurd (apart (ap (λ (i : IndexAt). i.at) (some_same one other (sym at_one ∙ ap (slice_get indexes) same ∙ at_other))))
        by_order (inr (inl less)) = (k, omega (arith, slice_get_within indexes k other at_other, whole), (other, at_other, inr (also, inl (j, less, (one, at_one, has)))))
        by_order (inr (inr more)) = (j, omega (arith, slice_get_within indexes j one at_one, whole), (one, at_one, inr (has, inl (k, more, (other, at_other, also)))))

    pub from_rule : (number : ℕ) → length indexes ≤ number → IsWrongIndexPage pages frame home → IsBelow IsFaultAt number
    from_rule number whole is =
        let found = place_of is.at is.first is.has in
        let within : found.0 < number = omega (arith, slice_get_within indexes found.0 (record { at = is.at; first = is.first }) found.1, whole) in
        let index : IndexAt = record { at = is.at; first = is.first } in
        ⊎_elim (λ unread. (found.0, within, (index, found.1, inl unread)))
        (λ (place, page, read, wrong).
        ⊎_elim (λ bad. (found.0, within, (index, found.1, inr ((place, page, read), inr (page, read.there, bad)))))
        (λ (other, begin, k, apart, has, also).
        let found_other = place_of other begin has in
        of_both number whole found_other.0 found.0 (record { at = other; first = begin }) index found_other.1 found.1 apart (k, page, also) (place, page, read)) wrong)
        is.wrong
