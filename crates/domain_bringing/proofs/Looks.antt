-- Pages that agree where the rules look: each looks where the other does.
use Rattle.std.proofs.Common.{◌≡◌, inl, inr, ℕ, List, subst, ⊎_elim}
use Rattle.domain_faults.specs.domain_base.declared.place.Home.{Home}
use Rattle.domain_faults.specs.domain_base.declared.place.Tag.{Tag}
use Rattle.domain_faults.specs.page_store.Pages.{Pages}
use Rattle.domain_faults.specs.metadata_cells.Chain.{PlacedCell}
use Rattle.domain_faults.specs.fileset_table.Table.{Table}
use Rattle.domain_faults.specs.domain_layout.DirectoryRules.{Has, HasIndexAt}
use Rattle.domain_faults.specs.domain_layout.Faults.{SaysTable}
use Rattle.domain_faults.specs.domain_layout.Layout.{Layout}
use Rattle.domain_faults.specs.domain_layout.Owners.{frame_of}
use Rattle.domain_faults.specs.domain_layout.Reached.{Way, cells_way, index_way, tags_way}
use Rattle.domain_faults.specs.domain_layout.Seen.{SeenFile}
use Rattle.domain_faults.specs.domain_layout.TagRules.{HasTags}
use Rattle.domain_faults.specs.domain_layout.Alike.{AgreeOnWay}
use Rattle.domain_faults.proofs.OfDomainLayout.CellsAlike.{reaches, used_alike}
use Rattle.domain_faults.specs.domain_layout.Looks.{IsComeTo, IsLookedAt, IsOfFiles, IsOfTables}
use Rattle.domain_faults.proofs.OfDomainLayout.Files.{has_alike}
use Rattle.domain_faults.proofs.OfDomainLayout.Sides.{AreSides}
use Rattle.domain_faults.proofs.OfFilesetShapes.Held.{says_table}
use Rattle.image_loading.proofs.NoneBroken.{one_table}

module _ (one other : Pages) (layout : Layout) (s : AreSides one other layout) where
  come_too : (way : Way) → AgreeOnWay one other (frame_of layout) way → (home : Home) → IsComeTo one (frame_of layout) way home → IsComeTo other (frame_of layout) way home
  come_too way agree home come = record { passed = come.passed; reached = reaches one other (frame_of layout) way agree come.passed home come.reached; may = come.may }

  -- the table that pages say is that of their layout
  pub said_table : (table : Table) → SaysTable one (frame_of layout) table → table ≡ layout.table
  said_table table says = one_table one (frame_of layout) table layout.table says (says_table one layout s.ahead.laid)

  -- what a fileset has there it has in the other
  pub has_too : (table : Table) → SaysTable one (frame_of layout) table → (number : ℕ) (tag : Tag) (cells : List PlacedCell) (seen : SeenFile) → Has one table number tag cells seen → Has other layout.table number tag cells seen
  has_too table says number tag cells seen has =
      has_alike one other layout s.ahead number tag cells seen (subst (λ t. Has one t number tag cells seen) (said_table table says) has)

  tables_too : (home : Home) → IsOfTables one (frame_of layout) home → IsOfTables other (frame_of layout) home
  tables_too home of =
      ⊎_elim (λ c. inl (record { vol = c.vol; member = c.member; come = come_too (cells_way (frame_of layout) c.vol) (s.ahead.cells c.vol c.member) home c.come }))
      (λ t.
      let has : HasTags layout.table t.number t.first = subst (λ table. HasTags table t.number t.first) (said_table t.table t.says) t.has in
      inr (record {
        table = layout.table;
        says = says_table other layout s.behind.laid;
        number = t.number;
        first = t.first;
        has = has;
        come = come_too (tags_way t.first) (s.ahead.tags t.number t.first has) home t.come;
      })) of

  files_too : (home : Home) → IsOfFiles one (frame_of layout) home → IsOfFiles other (frame_of layout) home
  files_too home of =
      ⊎_elim (λ b. inl b)
      (λ more. inr (⊎_elim
      (λ i.
      let has : HasIndexAt other (frame_of layout) i.at i.first = record {
        cell = i.has.cell;
        is = used_alike one other (frame_of layout) s.ahead.cells i.at i.has.cell i.has.is;
        value = i.has.value;
        there = i.has.there;
        begins = i.has.begins;
      } in
      inl (record { at = i.at; first = i.first; has = has; come = come_too (index_way i.first) (s.indexes i.at i.first i.has) home i.come }))
      (λ d. inr (record {
        table = layout.table;
        says = says_table other layout s.behind.laid;
        number = d.number;
        dir = d.dir;
        cells = d.cells;
        seen = d.seen;
        has = has_too d.table d.says d.number d.dir d.cells d.seen d.has;
        kind = d.kind;
        page = d.page;
        at = d.at;
        within = d.within;
      })) more)) of

  pub looked_too : (home : Home) → IsLookedAt one (frame_of layout) home → IsLookedAt other (frame_of layout) home
  looked_too home looked =
      ⊎_elim (λ at. inl at)
      (λ more. inr (⊎_elim (λ t. inl (s.behind.none.table, tables_too home t.1)) (λ f. inr (s.behind.none, files_too home f.1)) more)) looked
