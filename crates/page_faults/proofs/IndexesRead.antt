-- Indexes that are read are those that cells in use name.
use Rattle.std.proofs.Common.{◌≡◌, ◌∙◌, ◌⊎◌, ◌↔◌, inl, inr, zero, suc, ℕ, ◌<◌, List, [], ◌∷◌, ◌++◌, get_or, length, Contains, None, Some, refl, sym, ap, subst, arith, ⊎_elim, slice_get}
use Rattle.std.proofs.lemmas.List.Elements.{Contains-append_cases, Contains-append_left, Contains-append_right}
use Rattle.std.proofs.lemmas.Option.{get_or_from_slice_get, slice_get_within}
use Rattle.tag_faults.specs.domain_base.declared.place.CellAt.{CellAt}
use Rattle.tag_faults.specs.domain_base.declared.place.Home.{Home}
use Rattle.tag_faults.specs.page_store.Pages.{Pages}
use Rattle.tag_faults.specs.sorted_sets.Rising.{IsRising}
use Rattle.tag_faults.specs.domain_layout.DirectoryRules.{HasIndexAt}
use Rattle.tag_faults.specs.domain_layout.Reached.{Frame}
use Rattle.tag_faults.specs.cell_chains.Links.{HasLink, cells_of}
use Rattle.tag_faults.specs.cell_chains.Order.{AreNumbered}
use Rattle.tag_faults.specs.cell_chains.declared.links.CellLink.{CellLink}
use Rattle.tag_faults.specs.cell_chains.declared.links.CellLinks.{CellLinks}
use Rattle.tag_faults.specs.cell_faults.Links.{AreLinks}
use Rattle.tag_faults.proofs.OfCellChains.Each.{AreFound, Entry, SomeBelow}
use Rattle.tag_faults.proofs.OfCellChains.ReadRuns.{other_cells}
use Rattle.filesets_reading.proofs.Ways.{get_pushed}
use Rattle.tag_faults.proofs.UsedCells.{used_link}
use Rattle.page_faults.proofs.HomesFound.{named_by}
use Rattle.page_faults.specs.Indexes.{AddsIndex, AreIndexes, IsNamed}
use Rattle.page_faults.specs.declared.indexes.IndexAt.{IndexAt}

some_same : {X : Type 0} (a b : X) → Some a ≡ Some b → a ≡ b
some_same a b e = cc

in_one : {X : Type 0} (y x : X) → Contains (y ∷ []) x → y ≡ x
in_one y x (k, within, at) = by_place k within at
  where
    by_place : (k : ℕ) → k < 1 → get_or (y ∷ []) k x ≡ x → y ≡ x
    by_place zero within at = at
    by_place (suc k) within at = absurd (omega (arith, within))

-- no cell names two of them
abbrev pub AreOnce : List IndexAt → Type 0
AreOnce indexes = (j k : ℕ) (one other : IndexAt) → slice_get indexes j ≡ Some one → slice_get indexes k ≡ Some other → one.at ≡ other.at → j ≡ k

module _ (pages : Pages) (frame : Frame) where
  -- the cell at a place names the index
  abbrev pub IsOf : IndexAt → CellAt → CellLink → Type 0
  IsOf index at link = (index.at ≡ at) × IsNamed pages frame index

  one_index : (at : CellAt) (one other : Home) → HasIndexAt pages frame at one → HasIndexAt pages frame at other → one ≡ other
  one_index at one other has also =
      let named = named_by pages frame at has.is.place has.cell has.is.stands in
      some_same one other (sym ((named one).1 has) ∙ (named other).1 also)

  pub put_index : (at : CellAt) (link : CellLink) (old new : List IndexAt) → AddsIndex pages frame at old new → (index : IndexAt) → Contains new index ↔ (Contains old index ⊎ IsOf index at link)
  put_index at link old new (inl (first, has, is)) index =
      let last : IndexAt = record { at = at; first = first } in (
        λ among. ⊎_elim (λ was. inl was)
            (λ here. let same = in_one last index here in inr (ap (λ (i : IndexAt). i.at) (sym same), subst (IsNamed pages frame) same has))
            (Contains-append_cases old (last ∷ []) index (subst (λ (l : List IndexAt). Contains l index) is among)),
        λ which. subst (λ (l : List IndexAt). Contains l index) (sym is) (⊎_elim (λ was. Contains-append_left old (last ∷ []) index was)
            (λ (at_is, named).
            let firsts = one_index at index.first first (subst (λ (a : CellAt). HasIndexAt pages frame a index.first) at_is named) has in
            let same : last ≡ index = λ i. record { at = sym at_is i; first = sym firsts i } in
            Contains-append_right old (last ∷ []) index (0, omega arith, same)) which),
      )
  put_index at link old new (inr (none, is)) index = (
    λ among. inl (subst (λ (l : List IndexAt). Contains l index) is among),
    λ which. subst (λ (l : List IndexAt). Contains l index) (sym is) (⊎_elim (λ was. was) (λ (at_is, named). absurd (none index.first (subst (λ (a : CellAt). HasIndexAt pages frame a index.first) at_is named))) which),
  )

  pub once_more : (at : CellAt) (old new : List IndexAt) → AddsIndex pages frame at old new → ((index : IndexAt) → Contains old index → ¬ index.at ≡ at) → AreOnce old → AreOnce new
  once_more at old new (inr (none, is)) elsewhere once = subst AreOnce (sym is) once
  once_more at old new (inl (first, has, is)) elsewhere once = subst AreOnce (sym is) with_last
    where
      last : IndexAt
      last = record { at = at; first = first }

      with_last : AreOnce (old ++ (record { at = at; first = first }) ∷ [])
      with_last j k one other at_j at_k same = by_places (get_pushed old (record { at = at; first = first }) j one at_j) (get_pushed old (record { at = at; first = first }) k other at_k)
        where
          among : (n : ℕ) (index : IndexAt) → slice_get old n ≡ Some index → Contains old index
          among n index is_at = (n, slice_get_within old n index is_at, get_or_from_slice_get old n index index is_at)

          by_places : ((j < length old) × (slice_get old j ≡ Some one)) ⊎ ((j ≡ length old) × ((record { at = at; first = first }) ≡ one))
              → ((k < length old) × (slice_get old k ≡ Some other)) ⊎ ((k ≡ length old) × ((record { at = at; first = first }) ≡ other)) → j ≡ k
          by_places (inl (in_j, is_j)) (inl (in_k, is_k)) = once j k one other is_j is_k same
          by_places (inl (in_j, is_j)) (inr (end_k, is_k)) = absurd (elsewhere one (among j one is_j) (same ∙ sym (ap (λ (i : IndexAt). i.at) is_k)))
          by_places (inr (end_j, is_j)) (inl (in_k, is_k)) = absurd (elsewhere other (among k other is_k) (sym same ∙ sym (ap (λ (i : IndexAt). i.at) is_j)))
          by_places (inr (end_j, is_j)) (inr (end_k, is_k)) = end_j ∙ sym end_k

  -- none of those that were found in front of a cell is its own
  pub found_elsewhere : (lent : List Entry) → IsRising lent → AreNumbered lent → (links : CellLinks) → lent ≡ cells_of links → (indexes : List IndexAt) (number : ℕ) (entry : Entry) → number < length lent
      → ((d : Entry) → get_or lent number d ≡ entry) → AreFound (cells_of links) {X = IndexAt} IsOf (Contains indexes) number → (index : IndexAt) → Contains indexes index → ¬ index.at ≡ entry.1.0
  found_elsewhere lent rising numbered links lends indexes number entry within is found index among same =
      let (early, (k, below, at), (at_is, named)) = (found index).0 among in
      other_cells lent rising numbered k number early entry below within (subst (λ (l : List Entry). get_or l k early ≡ early) (sym lends) at) is (sym at_is ∙ same)

  module _ (links : CellLinks) (are : AreLinks pages frame links) where
    pub all_named : (indexes : List IndexAt) → ((index : IndexAt) → Contains indexes index ↔ ((at : CellAt) × (link : CellLink) × HasLink links at link × IsOf index at link)) → AreOnce indexes → AreIndexes pages frame indexes
    all_named indexes found once = record {
      each = λ index. (
        λ among. let (at, link, has, is) = (found index).0 among in is.1,
        λ named. let (link, has) = used_link pages frame links are index.at named.cell named.is in (found index).1 (index.at, link, has, (refl, named)),
      );
      once = once;
    }
