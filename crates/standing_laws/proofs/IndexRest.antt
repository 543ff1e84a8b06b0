-- What is asked of single cells once the first cell of a file and its index have changed.
use Rattle.std.proofs.Common.{◌≡◌, ◌∙◌, ◌≤◌, ⊎_elim, ℕ, true, false, List, [], ◌∷◌, Option, Some, None, IfSome, IsSomeAnd, Contains, refl, sym, ap, subst}
use Rattle.std.proofs.lemmas.Bool.{cases_Bool}
use Rattle.std.specs.List.{AllByRecursion}
use Rattle.domain_standing.specs.domain_base.declared.place.CellAt.{CellAt}
use Rattle.domain_standing.specs.domain_base.declared.place.Home.{Home}
use Rattle.domain_standing.specs.domain_base.declared.place.Tag.{Tag}
use Rattle.domain_standing.specs.page_store.Bitfiles.{same_tag}
use Rattle.domain_standing.specs.page_store.Pages.{Pages}
use Rattle.domain_standing.specs.cell_records.Records.{kind_of, last_kind}
use Rattle.domain_standing.specs.cell_records.declared.record.Record.{Record}
use Rattle.domain_standing.specs.metadata_cells.Cell.{Cell, record_of}
use Rattle.domain_standing.specs.metadata_cells.Chain.{PlacedCell, StandsAt}
use Rattle.domain_standing.specs.metadata_cells.declared.head.CellKind.TheVariants.{Primary}
use Rattle.domain_standing.proofs.OfMetadataCells.Unique.{one_stands}
use Rattle.domain_standing.specs.tag_dirs.Directory.{cell_of}
use Rattle.domain_standing.specs.tag_dirs.declared.dir.TagPlace.{TagPlace}
use Rattle.domain_standing.specs.free_cells.Cells.{table_of}
use Rattle.domain_standing.specs.free_space.Spaces.{Spaces}
use Rattle.domain_standing.specs.file_chains.Files.{IsFile}
use Rattle.domain_standing.specs.fileset_files.Files.{LeadsToFile, is_removed}
use Rattle.domain_standing.proofs.OfFilesetFiles.OneFile.{tags_same}
use Rattle.domain_standing.specs.release_list.Standing.{Files}
use Rattle.domain_standing.proofs.OfReleaseList.Spread.{none_not, some_same}
use Rattle.domain_standing.proofs.OfReleaseList.Standings.{same_or_not}
use Rattle.domain_standing.proofs.OfReleaseSteps.FirstWell.{are_file}
use Rattle.domain_standing.proofs.OfReleaseSteps.StillAmong.{file_of_tag}
use Rattle.domain_standing.specs.domain_layout.CellRules.{is_good_first, item_of, of_original}
use Rattle.domain_standing.specs.domain_layout.Filled.{Contents}
use Rattle.domain_standing.specs.domain_layout.Layout.{first_tag_of}
use Rattle.domain_standing.specs.domain_layout.Owners.{IsOnTable}
use Rattle.domain_standing.specs.domain_layout.TagRules.{IsLate}
use Rattle.domain_standing.specs.Chains.{HasFilesAmong, IndexesAt, StandsInSlot}
use Rattle.domain_standing.specs.Domain.{DomainNow, item_in, layout_of, named_by}
use Rattle.domain_standing.specs.Rest.{HasNoHoles, IsOfOriginal, SaysTheRest, StaysInOriginal}
use Rattle.standing_laws.specs.Leads.{StandsBelow}
use Rattle.standing_laws.proofs.ChainsNamed.{leads_there}
use Rattle.standing_laws.proofs.IndexChains.{cells_lead, its, number_or_not, one_fileset}
use Rattle.standing_laws.proofs.IndexTold.{Told, after, cell_was, files_now, led, other_now, standing_was, stands_now, start, there_now, there_was, was}
use Rattle.standing_laws.proofs.RestRecords.{first_no_holes}

module _ (d : DomainNow) (files : Files) (indexes : IndexesAt) (below : StandsBelow d files indexes) (pages : Pages) (contents : Contents) (space : Spaces) (homes : List Home) (t : Told d files indexes pages space homes) where
  abbrev now : DomainNow
  now = led d files indexes below pages contents space homes t

  abbrev begins : CellAt
  begins = start d files indexes below pages contents space homes t

  abbrev chain : List PlacedCell
  chain = was d files indexes below pages contents space homes t

  abbrev chain_now : List PlacedCell
  chain_now = after d files indexes below pages contents space homes t

  abbrev files_then : Files
  files_then = files_now d files indexes below pages contents space homes t

  -- a cell in use stood before, or is the first cell
  by_cell : (P : Cell → Type 0) (at : CellAt) (cell : Cell) → IsOnTable pages (layout_of now) at cell → (IsOnTable d.pages (layout_of d) at cell → P cell) → P (t.says t.first.cell) → P cell
  by_cell P at cell on before here = ⊎_elim
      (λ same. subst P (one_stands pages begins (t.says t.first.cell) cell (stands_now d files indexes below pages contents space homes t) (subst (λ (a : CellAt). StandsAt pages a cell) same on.stands)) here)
      (λ apart. before (record { member = on.member; table = on.table; stands = cell_was d files indexes below pages contents space homes t at cell on.table apart on.stands }))
      (same_or_not at begins)

  -- ---- births

  -- a tag of the fileset, but the file's
  own_other : of_original (item_in d t.number) ≡ true → (tag : Tag) → same_tag tag t.tag ≡ false → (first : PlacedCell) (rest : List PlacedCell) → t.chains_now tag ≡ Some (first ∷ rest) → (value : Record) → record_of 1 first.cell.records ≡ Some value → ¬ IsLate d.table.made value
  own_other original tag other first rest is value has =
      let is_was : t.chains tag ≡ Some (first ∷ rest) = sym (t.others tag other) ∙ is in
      below.rest.births first.at first.cell value
      (record {
        number = t.number;
        original = original;
        tag = tag;
        leads = leads_there t.number (d.tags t.number) d.pages t.chains t.well.together.files tag (first ∷ rest) first.at is_was refl;
      })
      (are_file t.number (d.tags t.number) d.pages t.chains t.well.together.files tag first rest is_was).links.stands has

  own_births : of_original (item_in d t.number) ≡ true → (tag : Tag) (first : PlacedCell) (rest : List PlacedCell) → t.chains_now tag ≡ Some (first ∷ rest) → (value : Record) → record_of 1 first.cell.records ≡ Some value → ¬ IsLate d.table.made value
  own_births original tag first rest is value has = ⊎_elim
      (λ same.
      let here : t.chains_now t.tag ≡ Some (first ∷ rest) = ap t.chains_now (sym (tags_same tag t.tag same)) ∙ is in
      ⊎_elim
      (λ live. t.births original value (ap (λ (c : PlacedCell). record_of 1 c.cell.records) (first_is (some_same chain_now (first ∷ rest) (sym live.0 ∙ here))) ∙ has))
      (λ gone. absurd (none_not (first ∷ rest) (sym gone.0 ∙ here)))
      t.whose)
      (λ other. own_other original tag other first rest is value has)
      (cases_Bool (same_tag tag t.tag))
    where
      first_is : chain_now ≡ first ∷ rest → record { at = begins; cell = t.says t.first.cell } ≡ first
      first_is e = cc

  own_late : of_original (item_in d t.number) ≡ true → (tag : Tag) (at : CellAt) (cell : Cell) (value : Record) → cell_of pages (d.tags t.number) tag ≡ Some at → StandsAt pages at cell → record_of 1 cell.records ≡ Some value → ¬ IsLate d.table.made value
  own_late original tag at cell value leads stands has = by_chain (t.chains_now tag) refl
    where
      by_list : (cs : List PlacedCell) → t.chains_now tag ≡ Some cs → IsFile pages at cs → ¬ IsLate d.table.made value
      by_list [] is file = absurd file
      by_list (first ∷ rest) is file = own_births original tag first rest is value
          (ap (λ (c : Cell). record_of 1 c.records) (one_stands pages at first.cell cell (subst (λ (a : CellAt). StandsAt pages a first.cell) file.0 file.1.links.stands) stands) ∙ has)

      by_chain : (o : Option (List PlacedCell)) → t.chains_now tag ≡ o → ¬ IsLate d.table.made value
      by_chain None is = absurd (none_not at (sym (t.are.none tag is) ∙ leads))
      by_chain (Some cs) is = by_list cs is (subst (λ o. IsSomeAnd o (λ a. IsFile pages a cs)) leads (subst (λ o. IfSome o (LeadsToFile t.number (d.tags t.number) pages tag)) is (t.are.some tag)).leads)

  -- a tag of another slot leads to a cell that stood there before
  module _ (n : ℕ) (differ : ¬ n ≡ t.number) (tag : Tag) (at : CellAt) (leads : cell_of d.pages (d.tags n) tag ≡ Some at) (cell : Cell) (stands : StandsAt pages at cell) where
    in_files : HasFilesAmong d files n → StandsAt d.pages at cell
    in_files h = by_chain (h.chains tag) refl
      where
        by_list : (cs : List PlacedCell) → h.chains tag ≡ Some cs → IsFile d.pages at cs → StandsAt d.pages at cell
        by_list [] is file = absurd file
        by_list (first ∷ rest) is file = cell_was d files indexes below pages contents space homes t at cell on apart stands
          where
            there : files at ≡ Some (first ∷ rest)
            there = file_of_tag files h.chains tag (first ∷ rest) at (h.among.same tag) is (ap Some file.0)

            on : Contains (table_of d.cells at.vol) at.page
            on = subst (λ (a : CellAt). Contains (table_of d.cells a.vol) a.page) file.0 (standing_was d files indexes below pages contents space homes t at (first ∷ rest) there).on_tables.0

            apart : ¬ at ≡ begins
            apart same = differ (one_fileset d files indexes below pages contents space homes t n differ h tag (first ∷ rest) (its d files indexes below pages contents space homes t n differ h tag (first ∷ rest) is).is_of
                (some_same chain (first ∷ rest) (sym (there_was d files indexes below pages contents space homes t) ∙ ap files (sym same) ∙ there)))

        by_chain : (o : Option (List PlacedCell)) → h.chains tag ≡ o → StandsAt d.pages at cell
        by_chain None is = absurd (none_not at (sym (h.are.none tag is) ∙ leads))
        by_chain (Some cs) is = by_list cs is (subst (λ o. IsSomeAnd o (λ a. IsFile d.pages a cs)) leads (subst (λ o. IfSome o (LeadsToFile n (d.tags n) d.pages tag)) is (h.are.some tag)).leads)

    by_first : (o : Option Home) → StandsInSlot d files n o → StandsAt d.pages at cell
    by_first None empty = absurd (none_not at (sym (ap (λ (ps : List TagPlace). cell_of d.pages ps tag) empty) ∙ leads))
    by_first (Some first) in_slot = ⊎_elim in_files (λ e. absurd (none_not at (sym (e.none tag) ∙ leads))) in_slot

  births_told : (at : CellAt) (cell : Cell) (value : Record) → IsOfOriginal now at → StandsAt pages at cell → record_of 1 cell.records ≡ Some value → ¬ IsLate d.table.made value
  births_told at cell value o stands has = ⊎_elim
      (λ same. own_late (ap (λ (k : ℕ). of_original (item_in d k)) (sym same) ∙ o.original) o.tag at cell value (ap (λ (k : ℕ). cell_of pages (d.tags k) o.tag) (sym same) ∙ o.leads) stands has)
      (λ differ.
      let leads : cell_of d.pages (d.tags o.number) o.tag ≡ Some at = sym (cells_lead d files indexes below pages contents space homes t o.number differ o.tag) ∙ o.leads in
      below.rest.births at cell value (record { number = o.number; original = o.original; tag = o.tag; leads = leads })
      (by_first o.number differ o.tag at leads cell stands (named_by first_tag_of d o.number) (below.chains.slots o.number)) has)
      (number_or_not d files indexes below pages contents space homes t o.number)

  -- ---- holes

  live_was : is_removed chain ≡ false
  live_was = subst (λ o. IfSome o (λ cs. is_removed cs ≡ false)) t.is (t.well.among.live t.tag)

  holes_was : of_original (item_of d.table t.first.cell.head) ≡ true → AllByRecursion HasNoHoles chain
  holes_was original = below.rest.holes begins chain (there_was d files indexes below pages contents space homes t) (original, live_was)

  -- its first cell is of the same fileset
  stays_was : StaysInOriginal now chain_now → of_original (item_of d.table t.first.cell.head) ≡ true
  stays_was stays = subst (λ h. of_original (item_of d.table h) ≡ true) t.head stays.0

  holes_told : (at : CellAt) (cs : List PlacedCell) → files_then at ≡ Some cs → StaysInOriginal now cs → AllByRecursion HasNoHoles cs
  holes_told at cs is stays = ⊎_elim
      (λ same.
      let here : chain_now ≡ cs = some_same chain_now cs (sym (there_now d files indexes below pages contents space homes t) ∙ ap files_then (sym same) ∙ is) in
      subst (AllByRecursion HasNoHoles) here (first_no_holes (t.says t.first.cell).records t.firsts, (holes_was (stays_was (subst (StaysInOriginal now) (sym here) stays))).1))
      (λ apart. below.rest.holes at cs (sym (other_now d files indexes below pages contents space homes t at apart) ∙ is) stays)
      (same_or_not at begins)

  pub rest_told : SaysTheRest now files_then
  rest_told = record {
    kinds = λ at cell on. by_cell (λ c. AllByRecursion (λ r. kind_of r ≤ last_kind d.frame.version) c.records) at cell on (λ before. below.rest.kinds at cell before) t.known;
    firsts = λ at cell on primary. by_cell (λ c. c.head.kind ≡ Primary → is_good_first d.table c ≡ true) at cell on (λ before. below.rest.firsts at cell before) (λ first. t.good) primary;
    births = births_told;
    holes = holes_told;
  }
