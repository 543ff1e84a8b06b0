-- Files stand together once the first cell of one says something else, but not of pages.
use Rattle.std.proofs.Common.{◌≡◌, ◌∙◌, ℕ, List, [], ◌∷◌, Some, IsSome, refl, sym, ap, subst, ⊎_elim, inl, Contains}
use Rattle.std.specs.Option.{option_map_or}
use Rattle.file_release.specs.domain_base.declared.place.CellAt.{CellAt}
use Rattle.file_release.specs.page_store.Pages.{Pages}
use Rattle.file_release.specs.metadata_cells.Cell.{Cell, record_of}
use Rattle.file_release.specs.metadata_cells.CellPage.{KeepsHeaders, KeepsWellFormed}
use Rattle.file_release.specs.metadata_cells.Chain.{LeavesOthers, PlacedCell, StandsAt, is_at, places}
use Rattle.file_release.specs.extent_maps.declared.run.PagePlace.TheVariants.{Absent}
use Rattle.file_release.specs.extent_maps.Runs.{place_of}
use Rattle.file_release.specs.free_cells.Cells.{Cells}
use Rattle.file_release.specs.free_space.Spaces.{Spaces}
use Rattle.file_release.specs.file_chains.Files.{AreFile, IsFile, map_records, places_of}
use Rattle.file_release.proofs.OfFileChains.Added.{not_zeros}
use Rattle.file_release.proofs.OfFileChains.ChainChanges.{at_apart, in_first}
use Rattle.file_release.proofs.OfFileChains.Still.{allocated_still}
use Rattle.file_release.proofs.OfFilesetFiles.FirstCell.{file_changed, runs_same}
use Rattle.release_list.specs.Standing.{Files, IsStanding, ReadsThrough, StandTogether, place_in, with_file}
use Rattle.release_list.proofs.Spread.{some_same}
use Rattle.release_list.proofs.Standings.{AreNarrower, apart_by, chain_beside, file_other, file_there, narrower_together, place_by, same_or_not, standing}

module _ (space : Spaces) (cells : Cells) (old new : Pages) (files : Files) (together : StandTogether space cells old files) (at : CellAt) (first : PlacedCell) (rest : List PlacedCell) (is : files at ≡ Some (first ∷ rest)) (file : IsFile old at (first ∷ rest)) (says : Cell → Cell)
    (leaves : LeavesOthers (is_at at) old new) (stands : StandsAt new at (says first.cell)) (good : KeepsWellFormed old new) (headers : KeepsHeaders old new) (head : (says first.cell).head ≡ first.cell.head)
    (maps : (is_file : AreFile old first rest) → map_records (says first.cell).records ≡ is_file.value ∷ []) (attributes : IsSome (record_of 1 (says first.cell).records)) where
  abbrev after : List PlacedCell
  after = record { at = first.at; cell = says first.cell } ∷ rest

  abbrev pub now : Files
  now = with_file at (Some after) files

  stood : IsStanding cells old at (first ∷ rest)
  stood = standing space cells old files together at (first ∷ rest) is

  first_at : first.at ≡ at
  first_at = file.0

  leaves_first : LeavesOthers (is_at first.at) old new
  leaves_first = subst (λ (a : CellAt). LeavesOthers (is_at a) old new) (sym first_at) leaves

  stands_first : StandsAt new first.at (says first.cell)
  stands_first = subst (λ (a : CellAt). StandsAt new a (says first.cell)) (sym first_at) stands

  file_now : IsFile new at after
  file_now = (first_at, file_changed old new first rest (says first.cell) file.1 leaves_first stands_first head (maps file.1) attributes)

  map_same : (p : ℕ) → places_of after p ≡ places_of (first ∷ rest) p
  map_same p = ap (λ rs. place_of rs p) (runs_same old new first rest (says first.cell) file.1 leaves_first stands_first head (maps file.1) attributes)

  there : now at ≡ Some after
  there = file_there at (Some after) files

  other : (a : CellAt) → ¬ a ≡ at → now a ≡ files a
  other a not_at = file_other at (Some after) files a not_at

  pub first_place : (a : CellAt) (p : ℕ) → place_in now a p ≡ place_in files a p
  first_place a p = ⊎_elim
      (λ same. place_by now a after p (ap now same ∙ there) ∙ map_same p ∙ sym (place_by files a (first ∷ rest) p (ap files same ∙ is)))
      (λ not_at. ap (λ o. option_map_or (λ cs. places_of cs p) o Absent) (other a not_at))
      (same_or_not a at)

  module _ (reads : (a b : CellAt) → ReadsThrough now a b → ReadsThrough files a b) where
    narrower : AreNarrower files now
    narrower = record {
      was = λ a cs is_a. ⊎_elim
          (λ same. (first ∷ rest, ap files same ∙ is, λ q inside. subst (λ (xs : List PlacedCell). Contains (places xs) q) (sym (some_same after cs (sym there ∙ sym (ap now same) ∙ is_a))) inside, λ p. sym (ap (λ (cs : List PlacedCell). places_of cs p) (some_same after cs (sym there ∙ sym (ap now same) ∙ is_a))) ∙ map_same p))
          (λ not_at. (cs, sym (other a not_at) ∙ is_a, (λ q inside. inside), λ p. refl))
          (same_or_not a at);
      reads = reads;
    }

    pub first_together : StandTogether space cells new now
    first_together =
        narrower_together files now narrower space space cells cells old new together
        (allocated_still space cells old new together.allocated good headers (is_at at) leaves (λ q free. at_apart at q (λ same. not_zeros old q first.at first.cell (together.allocated.belong.zeros q free) file.1.links.stands (sym same ∙ sym first_at))))
        (λ a cs is_a. ⊎_elim
        (λ same.
        subst (IsStanding cells new a) (some_same after cs (sym there ∙ sym (ap now same) ∙ is_a))
        (subst (λ (b : CellAt). IsStanding cells new b after) (sym same) (record { stands = inl file_now; on_tables = (stood.on_tables.0, stood.on_tables.1) })))
        (λ not_at.
        let was = standing space cells old files together a cs (sym (other a not_at) ∙ is_a) in
        record {
          stands = chain_beside old new at a cs leaves (λ inside. apart_by space cells old files together at a (first ∷ rest) cs is (sym (other a not_at) ∙ is_a) (λ same. not_at (sym same)) at (in_first at first rest first_at) inside) was.stands;
          on_tables = was.on_tables;
        })
        (same_or_not a at))
        (λ a p home was held. held)
