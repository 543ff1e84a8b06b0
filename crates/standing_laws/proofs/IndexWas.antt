-- The file that a tag names, before a call on its index.
use Rattle.std.proofs.Common.{◌≡◌, ⊎_elim, ℕ, ◌≤◌, true, false, List, ◌∷◌, length, Option, Some, None, IfSome, Contains, slice_get, refl, sym, ap, subst, arith}
use Rattle.std.proofs.lemmas.Bool.{cases_Bool}
use Rattle.std.specs.Option.{option_and_then}
use Rattle.domain_standing.specs.domain_base.declared.place.Home.{Home}
use Rattle.domain_standing.specs.domain_base.declared.place.Tag.{Tag}
use Rattle.domain_standing.specs.page_store.Pages.{Pages, same_home}
use Rattle.domain_standing.specs.cell_records.Records.{Allowed}
use Rattle.domain_standing.specs.cell_records.declared.record.Record.{Record}
use Rattle.domain_standing.specs.cell_records.declared.record.Record.TheVariants as written
use Rattle.domain_standing.specs.metadata_cells.Cell.{record_of}
use Rattle.domain_standing.specs.metadata_cells.CellPage.{home_of}
use Rattle.domain_standing.specs.metadata_cells.Chain.{PlacedCell}
use Rattle.domain_standing.proofs.OfMetadataCells.Changed.{homes_same}
use Rattle.domain_standing.specs.tag_dirs.Directory.{has_home}
use Rattle.domain_standing.specs.free_cells.Cells.{table_of}
use Rattle.domain_standing.specs.file_chains.FileChanges.{AreOnTables}
use Rattle.domain_standing.specs.file_chains.Files.{AreFile}
use Rattle.domain_standing.specs.fileset_files.Files.{Chains, LeadsToFile, is_removed}
use Rattle.domain_standing.specs.fileset_files.Shown.{index_in, index_of}
use Rattle.domain_standing.proofs.OfFilesetFiles.Room.{allowed_found}
use Rattle.domain_standing.specs.index_pages.Homes.{AreIndexHomes}
use Rattle.domain_standing.proofs.OfIndexPages.Dropped.{low_from}
use Rattle.domain_standing.specs.release_list.Standing.{Files}
use Rattle.domain_standing.specs.release_steps.Calls.{StandsWell}
use Rattle.domain_standing.proofs.OfReleaseSteps.FirstWell.{are_file}
use Rattle.domain_standing.proofs.OfReleaseSteps.TagFile.{file_is}
use Rattle.domain_standing.proofs.OfDomainLayout.Reached.{member_or_none}
use Rattle.domain_standing.specs.log_ring.Homes.{IsMember}
use Rattle.domain_standing.specs.domain_layout.CellRules.{is_good_first, of_original}
use Rattle.domain_standing.specs.domain_layout.Owners.{IsOnTable}
use Rattle.domain_standing.specs.Chains.{IndexesAt}
use Rattle.domain_standing.specs.Domain.{DomainNow, item_in, layout_of}
use Rattle.domain_standing.specs.Holders.Holder.{of_cells, of_index, of_tags}
use Rattle.standing_laws.specs.Leads.{StandsBelow, fileset_now}
use Rattle.standing_laws.proofs.ChainsNamed.{leads_there}
use Rattle.standing_laws.proofs.HomeLists.{in_get}
use Rattle.standing_laws.proofs.RestFirst.{AreFirsts, AreKnown, SaysWell}

index_low : (r : Record) → Allowed r → IfSome (index_in r) (λ h. 1 ≤ h.vol)
unfolding Allowed
index_low (written.DirIndex vol page entries) allowed = allowed.0.0
index_low r allowed = tt

-- an index begins on a volume that there is
pub begins_low : (pages : Pages) (first : PlacedCell) (rest : List PlacedCell) → AreFile pages first rest → IfSome (index_of (first ∷ rest)) (λ h. 1 ≤ h.vol)
begins_low pages first rest file = by_record (record_of 9 first.cell.records) refl
  where
    by_record : (o : Option Record) → record_of 9 first.cell.records ≡ o → IfSome (option_and_then index_in o) (λ h. 1 ≤ h.vol)
    by_record None is = tt
    by_record (Some r) is = index_low r (allowed_found 9 first.cell.records r is file.links.stands.is.well_formed.allowed)

module _ (d : DomainNow) (files : Files) (indexes : IndexesAt) (below : StandsBelow d files indexes) (number : ℕ) (tag : Tag) (chains : Chains) (well : StandsWell number (fileset_now d number chains files)) (first : PlacedCell) (rest : List PlacedCell)
    (is : chains tag ≡ Some (first ∷ rest)) where
  pub file_was : AreFile d.pages first rest
  file_was = are_file number (d.tags number) d.pages chains well.together.files tag first rest is

  pub led_was : LeadsToFile number (d.tags number) d.pages tag (first ∷ rest)
  led_was = subst (λ o. IfSome o (LeadsToFile number (d.tags number) d.pages tag)) is (well.together.files.some tag)

  pub on_was : AreOnTables d.cells (first ∷ rest)
  on_was = subst (λ o. IfSome o (AreOnTables d.cells)) is (well.together.on_tables tag)

  pub member_on : (vol p : ℕ) → Contains (table_of d.cells vol) p → IsMember d.frame.anchor vol
  member_on vol p on = ⊎_elim
      (λ member. member)
      (λ none. let e : length (table_of d.cells vol) ≡ 0 = ap length (below.tables.cells.others vol none) in absurd (omega (arith, e, on.1)))
      (member_or_none d.frame.anchor vol)

  first_on : IsOnTable d.pages (layout_of d) first.at first.cell
  first_on = record { member = member_on first.at.vol first.at.page on_was.0; table = on_was.0; stands = file_was.links.stands }

  pub live_was : is_removed (first ∷ rest) ≡ false
  live_was = subst (λ o. IfSome o (λ cs. is_removed cs ≡ false)) is (well.among.live tag)

  pub firsts_was : AreFirsts first.cell.records
  firsts_was = led_was.kinds

  pub known_was : AreKnown d.frame.version first.cell.records
  known_was = below.rest.kinds first.at first.cell first_on

  pub good_was : is_good_first d.table first.cell ≡ true
  good_was = below.rest.firsts first.at first.cell first_on file_was.primary

  pub well_was : of_original (item_in d number) ≡ true → SaysWell d.frame.version d.table first.cell
  well_was original = record {
    known = known_was;
    good = good_was;
    births = λ value has. below.rest.births first.at first.cell value
        (record {
          number = number;
          original = original;
          tag = tag;
          leads = leads_there number (d.tags number) d.pages chains well.together.files tag (first ∷ rest) first.at is refl;
        })
        file_was.links.stands has;
  }

  pub there_was : files first.at ≡ Some (first ∷ rest)
  there_was = file_is number (d.tags number) d.pages chains well.together.files files well.among.same tag (first ∷ rest) is first.at refl

  -- ---- its index

  pub index_was : AreIndexHomes d.pages (index_of (first ∷ rest)) (indexes first.at)
  index_was = subst (λ o. AreIndexHomes d.pages (option_and_then index_of o) (indexes first.at)) there_was (below.chains.indexed first.at)

  pub index_low_was : (home : Home) → Contains (indexes first.at) home → 1 ≤ home.vol
  index_low_was = low_from d.pages (index_of (first ∷ rest)) (indexes first.at) index_was (begins_low d.pages first rest file_was)

  pub once_was : (j k : ℕ) (home : Home) → slice_get (indexes first.at) j ≡ Some home → slice_get (indexes first.at) k ≡ Some home → j ≡ k
  once_was j k home a b = same_place (below.owned.once home (of_index first.at j) (of_index first.at k) a b)
    where
      same_place : of_index first.at j ≡ of_index first.at k → j ≡ k
      same_place e = cc

  -- its pages are none of cells or tags
  pub off_cells : (home : Home) → Contains (indexes first.at) home → ¬ Contains (table_of d.cells home.vol) home.page
  off_cells home inside on =
      let it = in_get (indexes first.at) home inside in
      differ it.0 (below.owned.once home (of_index first.at it.0) of_cells it.1 (member_on home.vol home.page on, on))
    where
      differ : (k : ℕ) → ¬ of_index first.at k ≡ of_cells
      differ k e = cc

  pub off_tags : (n : ℕ) (home : Home) → Contains (indexes first.at) home → ¬ has_home (d.tags n) home ≡ true
  off_tags n home inside has =
      let it = in_get (indexes first.at) home inside in
      differ it.0 (below.owned.once home (of_index first.at it.0) (of_tags n) it.1 has)
    where
      differ : (k : ℕ) → ¬ of_index first.at k ≡ of_tags n
      differ k e = cc

  -- the page of its first cell is one of cells
  pub off_first : (home : Home) → ¬ Contains (table_of d.cells home.vol) home.page → same_home home (home_of first.at) ≡ false
  off_first home off = ⊎_elim
      (λ here. absurd (off (subst (λ (x : Home). Contains (table_of d.cells x.vol) x.page) (sym (homes_same home (home_of first.at) here)) on_was.0)))
      (λ other. other)
      (cases_Bool (same_home home (home_of first.at)))
