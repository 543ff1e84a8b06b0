-- One tag's file is changed, and all others stay.
use Rattle.std.proofs.Common.{◌≡◌, ◌∙◌, ℕ, Bool, true, false, cond, nat_eq, List, [], ◌∷◌, Option, Some, None, IfSome, IsSomeAnd, Contains, refl, sym, ap, subst, arith, ⊎_elim}
use Rattle.std.proofs.lemmas.Bool.{and_parts, cases_Bool, eqb-true}
use Rattle.std.specs.List.{AllByRecursion}
use Rattle.std.specs.Option.{option_map}
use Rattle.file_chains.specs.cell_records.Records.{kind_of}
use Rattle.file_chains.specs.domain_base.declared.place.CellAt.{CellAt}
use Rattle.file_chains.specs.domain_base.declared.place.Home.{Home}
use Rattle.file_chains.specs.domain_base.declared.place.Tag.{Tag}
use Rattle.file_chains.specs.page_store.Pages.{Pages, same_home}
use Rattle.file_chains.specs.page_store.Bitfiles.{same_tag}
use Rattle.file_chains.specs.metadata_cells.Cell.{Cell}
use Rattle.file_chains.specs.metadata_cells.CellPage.{cell_at, home_of}
use Rattle.file_chains.specs.metadata_cells.Chain.{LeavesOthers, PlacedCell, is_at, places as cell_places}
use Rattle.tag_dirs.specs.declared.dir.TagPlace.{TagPlace}
use Rattle.tag_dirs.specs.Directory.{cell_of}
use Rattle.file_chains.specs.Files.{AreFile, IsFile}
use Rattle.fileset_files.specs.Files.{AreApart, AreFiles, Chains, IsOf, LeadsToFile, is_first_kind}
use Rattle.fileset_files.specs.Changes.{with_chain, with_first}
use Rattle.fileset_files.proofs.Tags.{cell_stays, directory_stays, file_stays}

pub tags_same : (a b : Tag) → same_tag a b ≡ true → a ≡ b
tags_same a b same =
    let both = and_parts (nat_eq a.slot b.slot) (nat_eq a.seq b.seq) same in
    let slot = eqb-true a.slot b.slot both.0 in
    let seq = eqb-true a.seq b.seq both.1 in
    (λ i. record { slot = slot i; seq = seq i })

-- ---- chains that share no cell, by the places of their cells

abbrev ApartPlaces : Option (List CellAt) → Option (List CellAt) → Type 0
ApartPlaces None ys = Unit {0}
ApartPlaces (Some xs) None = Unit {0}
ApartPlaces (Some xs) (Some ys) = (at : CellAt) → Contains xs at → ¬ Contains ys at

to_places : (xs ys : Option (List PlacedCell)) → IfSome xs (λ xs. IfSome ys (AreApart xs)) → ApartPlaces (option_map cell_places xs) (option_map cell_places ys)
to_places None ys apart = tt
to_places (Some xs) None apart = tt
to_places (Some xs) (Some ys) apart = apart

from_places : (xs ys : Option (List PlacedCell)) → ApartPlaces (option_map cell_places xs) (option_map cell_places ys) → IfSome xs (λ xs. IfSome ys (AreApart xs))
from_places None ys apart = tt
from_places (Some xs) None apart = tt
from_places (Some xs) (Some ys) apart = apart

module _ (change : Cell → Cell) where
  first_places : (cells : List PlacedCell) → cell_places (with_first change cells) ≡ cell_places cells
  first_places [] = refl
  first_places (first ∷ rest) = refl

  map_places : (o : Option (List PlacedCell)) → option_map cell_places (option_map (with_first change) o) ≡ option_map cell_places o
  map_places None = refl
  map_places (Some cells) = ap Some (first_places cells)

  module _ (tag : Tag) (chains : Chains) where
    abbrev after : Chains
    after = with_chain tag (with_first change) chains

    after_same : (t : Tag) → same_tag t tag ≡ true → after t ≡ option_map (with_first change) (chains t)
    after_same t same = ap (λ (b : Bool). cond b (option_map (with_first change) (chains t)) (chains t)) same

    after_other : (t : Tag) → same_tag t tag ≡ false → after t ≡ chains t
    after_other t other = ap (λ (b : Bool). cond b (option_map (with_first change) (chains t)) (chains t)) other

    places_stay : (t : Tag) → option_map cell_places (after t) ≡ option_map cell_places (chains t)
    places_stay t = ⊎_elim
        (λ same. ap (option_map cell_places) (after_same t same) ∙ map_places (chains t))
        (λ other. ap (option_map cell_places) (after_other t other))
        (cases_Bool (same_tag t tag))

    pub apart_still : (s t : Tag) → IfSome (chains s) (λ xs. IfSome (chains t) (AreApart xs)) → IfSome (after s) (λ xs. IfSome (after t) (AreApart xs))
    apart_still s t apart =
        from_places (after s) (after t)
        (subst (λ xs. ApartPlaces xs (option_map cell_places (after t))) (sym (places_stay s))
        (subst (ApartPlaces (option_map cell_places (chains s))) (sym (places_stay t)) (to_places (chains s) (chains t) apart)))

    module _ (old new : Pages) (fileset : ℕ) (places : List TagPlace) (are : AreFiles fileset places old chains) (first : PlacedCell) (rest : List PlacedCell) (is : chains tag ≡ Some (first ∷ rest)) (bytes : List ℕ)
        (there : cell_at old first.at ≡ Some bytes) (leaves : LeavesOthers (is_at first.at) old new) (elsewhere : (home : Home) → same_home home (home_of first.at) ≡ false → new home ≡ old home)
        (file_now : AreFile new (record { at = first.at; cell = change first.cell }) rest) (head : (change first.cell).head ≡ first.cell.head)
        (kinds : AllByRecursion (λ r. is_first_kind (kind_of r) ≡ true) (change first.cell).records) where
      cells_lead : (t : Tag) → cell_of new places t ≡ cell_of old places t
      cells_lead = cell_stays old new places first.at are.directory bytes there elsewhere

      was : LeadsToFile fileset places old tag (first ∷ rest)
      was = subst (λ o. IfSome o (LeadsToFile fileset places old tag)) is (are.some tag)

      is_of_now : IsOf fileset tag (record { at = first.at; cell = change first.cell } ∷ rest)
      is_of_now = (ap (λ h. h.slot) head ∙ was.is_of.0, ap (λ h. h.seq) head ∙ was.is_of.1, ap (λ h. h.fileset) head ∙ was.is_of.2)

      leads_now : LeadsToFile fileset places new tag (record { at = first.at; cell = change first.cell } ∷ rest)
      leads_now = record {
        leads = subst (λ o. IsSomeAnd o (λ at. IsFile new at (record { at = first.at; cell = change first.cell } ∷ rest))) (sym (cells_lead tag)) (by_cell (cell_of old places tag) was.leads);
        is_of = is_of_now;
        kinds = kinds;
      }
        where
          by_cell : (o : Option CellAt) → IsSomeAnd o (λ at. IsFile old at (first ∷ rest)) → IsSomeAnd o (λ at. IsFile new at (record { at = first.at; cell = change first.cell } ∷ rest))
          by_cell None leads = leads
          by_cell (Some at) leads = (leads.0, file_now)

      -- the file of another tag
      other_stays : (t : Tag) → same_tag t tag ≡ false → (cells : List PlacedCell) → chains t ≡ Some cells → LeadsToFile fileset places old t cells → LeadsToFile fileset places new t cells
      other_stays t other cells of leads_to = record {
        leads = subst (λ o. IsSomeAnd o (λ at. IsFile new at cells)) (sym (cells_lead t)) (by_cell (cell_of old places t) leads_to.leads);
        is_of = leads_to.is_of;
        kinds = leads_to.kinds;
      }
        where
          apart : ¬ Contains (cell_places cells) first.at
          apart inside =
              let both = subst (λ o. IfSome o (λ xs. IfSome (chains tag) (AreApart xs))) of (are.apart t tag other) in
              (subst (λ o. IfSome o (AreApart cells)) is both) first.at inside (0, omega arith, refl)

          by_file : (at : CellAt) (cells : List PlacedCell) → ¬ Contains (cell_places cells) first.at → IsFile old at cells → IsFile new at cells
          by_file at [] apart is_file = is_file
          by_file at (f ∷ r) apart is_file = (is_file.0, file_stays old new first.at leaves f r apart is_file.1)

          by_cell : (o : Option CellAt) → IsSomeAnd o (λ at. IsFile old at cells) → IsSomeAnd o (λ at. IsFile new at cells)
          by_cell None leads = leads
          by_cell (Some at) leads = by_file at cells apart leads

      some_now : (t : Tag) → IfSome (after t) (LeadsToFile fileset places new t)
      some_now t = ⊎_elim
          (λ same. subst (λ o. IfSome o (LeadsToFile fileset places new t)) (sym (after_same t same))
          (subst (λ (u : Tag). IfSome (option_map (with_first change) (chains u)) (LeadsToFile fileset places new u)) (sym (tags_same t tag same))
          (subst (λ o. IfSome (option_map (with_first change) o) (LeadsToFile fileset places new tag)) (sym is) leads_now)))
          (λ other. subst (λ o. IfSome o (LeadsToFile fileset places new t)) (sym (after_other t other)) (by_chain t other (chains t) refl (are.some t)))
          (cases_Bool (same_tag t tag))
        where
          by_chain : (t : Tag) → same_tag t tag ≡ false → (o : Option (List PlacedCell)) → chains t ≡ o → IfSome o (LeadsToFile fileset places old t) → IfSome o (LeadsToFile fileset places new t)
          by_chain t other None of some = tt
          by_chain t other (Some cells) of some = other_stays t other cells of some

      none_now : (t : Tag) → after t ≡ None → cell_of new places t ≡ None
      none_now t none = cells_lead t ∙ are.none t (⊎_elim
          (λ same. map_none (chains t) (sym (after_same t same) ∙ none))
          (λ other. sym (after_other t other) ∙ none)
          (cases_Bool (same_tag t tag)))
        where
          map_none : (o : Option (List PlacedCell)) → option_map (with_first change) o ≡ None → o ≡ None
          map_none None is = refl
          map_none (Some cells) is = absurd (some_is_none is)
            where
              some_is_none : Some (with_first change cells) ≡ None → ⊥
              some_is_none e = cc

      pub files_now : AreFiles fileset places new after
      files_now = record {
        directory = directory_stays old new places first.at are.directory bytes there elsewhere;
        none = none_now;
        some = some_now;
        apart = λ s t other. apart_still s t (are.apart s t other);
      }
