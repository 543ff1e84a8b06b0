-- A domain that stands and has no fault has its pages in memory: each at which the rules look, and each of a file.
use Rattle.std.proofs.Common.{◌≡◌, ◌∙◌, ℕ, ◌-◌, ◌*◌, ◌/◌, ◌+◌, ◌<◌, ◌≤◌, true, false, List, [], length, take, Option, Some, None, IsSome, IsSomeAnd, inl, inr, refl, sym, ap, subst, arith, ⊎_elim}
use Rattle.std.specs.Prelude.{unwrap_or}
use Rattle.std.specs.Option.{option_and_then, option_map, option_map_or}
use Rattle.std.specs.FinMap.{get}
use Rattle.std.proofs.lemmas.Option.{slice_get-get_or}
use Rattle.attached_domain.specs.domain_base.Version.{bitmap_pages}
use Rattle.attached_domain.specs.domain_base.declared.place.Home.{Home}
use Rattle.attached_domain.specs.domain_base.declared.place.Kind.{Kind}
use Rattle.attached_domain.specs.domain_base.declared.place.Kind.TheVariants as kind
use Rattle.attached_domain.specs.domain_base.declared.place.Tag.{Tag}
use Rattle.attached_domain.specs.domain_base.declared.version.Version.{Version}
use Rattle.attached_domain.specs.domain_base.declared.version.Version.TheVariants.{Four, Three}
use Rattle.attached_domain.specs.metadata_cells.Chain.{PlacedCell}
use Rattle.attached_domain.specs.log_ring.Homes.{member_of}
use Rattle.attached_domain.specs.legal_histories.Valid.{IsValidAs, IsValidFileset}
use Rattle.attached_domain.specs.fileset_model.Filesets.{FilesetMap}
use Rattle.attached_domain.specs.fileset_model.LooksLike.{IsShown}
use Rattle.attached_domain.specs.fileset_values.Orders.{Path}
use Rattle.attached_domain.specs.fileset_model.Paths.{is_out_of_sync}
use Rattle.attached_domain.specs.fileset_model.declared.fileset.FilesetSlot.{FilesetSlot}
use Rattle.attached_domain.specs.fileset_model.declared.fileset.Role.{Role}
use Rattle.attached_domain.specs.fileset_model.declared.fileset.Role.TheVariants.{Original}
use Rattle.attached_domain.specs.fileset_model.declared.node.Node.{Node}
use Rattle.attached_domain.specs.fileset_model.declared.node.Node.TheVariants.{Directory, File}
use Rattle.attached_domain.specs.fileset_shapes.Found.{HasAllPages}
use Rattle.attached_domain.proofs.OfFilesetShapes.Held.{says_table}
use Rattle.attached_domain.specs.fileset_table.Page.{IsTablePage}
use Rattle.attached_domain.specs.fileset_table.Table.{Table}
use Rattle.attached_domain.specs.fileset_table.declared.slot.SlotItem.{SlotItem}
use Rattle.attached_domain.specs.fileset_table.declared.slot.SlotItem.TheVariants as slot
use Rattle.attached_domain.specs.name_space.Names.{led_to, number_of}
use Rattle.attached_domain.specs.domain_layout.DirectoryRules.{Has, IsInItem, IsThere}
use Rattle.attached_domain.specs.domain_layout.Faults.{HasNoFault, HasNoTablesFault, SaysTable}
use Rattle.attached_domain.specs.domain_layout.Filled.{IsFilled}
use Rattle.attached_domain.specs.domain_layout.Read.{contents_of}
use Rattle.attached_domain.specs.domain_layout.Reached.{Way, cells_way, index_way, tags_way, IsUnread}
use Rattle.attached_domain.specs.domain_layout.Seen.{SeenFile, seen_in}
use Rattle.attached_domain.proofs.OfDomainLayout.NoTables.{none_of_tables}
use Rattle.attached_domain.proofs.OfDomainLayout.There.{chain_is}
use Rattle.attached_domain.proofs.OfDomainLayout.OnePage.{one_of, some_same}
use Rattle.attached_domain.specs.domain_layout.Looks.{IsComeTo, IsOfBitmap, IsOfCells, IsOfFiles, IsOfIndex, IsOfTables, IsOfTags}
use Rattle.domain_bringing.specs.image_loading.Loading.{HasWhereRulesLook}
use Rattle.attached_domain.specs.domain_standing.Domain.{DomainNow, layout_of}
use Rattle.attached_domain.specs.domain_standing.Standing.{IsMarkedBut, StandsDomain}
use Rattle.attached_domain.proofs.OfNoFaults.NoTable.{table_is}
use Rattle.attached_domain.proofs.OfNoFaults.Originals.{is_role}
use Rattle.attached_domain.proofs.OfNoFaults.Shown.{HasShown, has_shown, inside, page_is}
use Rattle.domain_bringing.specs.Brought.{IsGoodFrame}

-- whether a page is there is decided
there_by : (o : Option (List ℕ)) → (o ≡ None → ⊥) → IsSome o
there_by (Some page) not = refl
there_by None not = absurd (not refl)

-- a page of whole size is there
whole_there : (o : Option (List ℕ)) → length (unwrap_or o []) ≡ 8192 → IsSome o
whole_there (Some page) size = refl
whole_there None size = absurd (omega (arith, size))

-- the page of a bitmap is that of some page of the volume
bit_of : (version : Version) (pages page : ℕ) → 2 ≤ page → page < 2 + bitmap_pages version pages → 2 + bitmap_pages version pages ≤ pages → (65536 * (page - 2) < pages) × (page ≡ 2 + 65536 * (page - 2) / 65536)
bit_of Three pages page first last all = (omega (arith, first, last, all), omega (arith, first))
bit_of Four pages page first last all = (omega (arith, first, last, all), omega (arith, first))

-- no number of an original is out of sync
never_out : (role : Role) → role ≡ Original → (o : Option ℕ) → option_map_or (is_out_of_sync role) o false ≡ false
never_out role is None = refl
never_out role is (Some n) = ap (λ r. is_out_of_sync r n) is

module _ (d : DomainNow) (all : FilesetMap) (stands : StandsDomain d all) (good : IsGoodFrame d.frame) (marked : IsMarkedBut d) (none : HasNoFault d.pages d.frame) where
  no_tables_fault : HasNoTablesFault d.pages d.frame
  no_tables_fault = none_of_tables d.pages d.frame none

  says : SaysTable d.pages d.frame d.table
  says = says_table d.pages (layout_of d) stands.tables.laid

  -- ---- where the rules look

  unread : (way : Way) (home : Home) → IsComeTo d.pages d.frame way home → d.pages home ≡ None → IsUnread d.pages d.frame way home
  unread way home come gone = record {
    passed = come.passed;
    reached = come.reached;
    wrong = inr (inr (λ is. subst (λ o. IsSomeAnd o (λ page. way.begins_so page ≡ true)) gone is));
  }

  table_there : (home : Home) → d.frame.anchor.table ≡ Some home → IsSome (d.pages home)
  table_there home at = there_by (d.pages home)
      (λ gone. no_tables_fault.table home (record { at = at; wrong = inr (λ table is. subst (λ o. IsSomeAnd o (λ page. IsTablePage page table)) gone is) }))

  cells_there : (home : Home) → IsOfCells d.pages d.frame home → IsSome (d.pages home)
  cells_there home c = there_by (d.pages home)
      (λ gone. no_tables_fault.tables (record { code = 5; home = home }) (d.table, says, inl (refl, inl (record { vol = c.vol; member = c.member; unread = unread (cells_way d.frame c.vol) home c.come gone }))))

  tags_there : (home : Home) → IsOfTags d.pages d.frame home → IsSome (d.pages home)
  tags_there home t = there_by (d.pages home)
      (λ gone. no_tables_fault.tables (record { code = 6; home = home }) (t.table, t.says, inr (refl, inl (record { number = t.number; first = t.first; has = t.has; unread = unread (tags_way t.first) home t.come gone }))))

  index_there : (home : Home) → IsOfIndex d.pages d.frame home → IsSome (d.pages home)
  index_there home i = there_by (d.pages home)
      (λ gone. none (record { code = 10; home = home }) (inr (inr (
        no_tables_fault,
        (layout_of d, refl, stands.tables.laid, inr (inr (inr (refl, inl (record { at = i.at; first = i.first; has = i.has; wrong = inl (unread (index_way i.first) home i.come gone) }))))),
      ))))

  bitmap_there : (home : Home) → IsOfBitmap d.frame home → IsSome (d.pages home)
  bitmap_there home of =
      let bit = bit_of d.frame.version (member_of d.frame.anchor home.vol).pages home.page of.first of.last (good.inside.bitmaps home.vol of.member) in
      subst (λ h. IsSome (d.pages h)) (sym (λ i. record { vol = home.vol; page = bit.1 i })) (marked.there home.vol (65536 * (home.page - 2)) of.member bit.0)

  -- ---- pages of directories and of files

  directory_there : (number : ℕ) (tag : Tag) (cells : List PlacedCell) (seen : SeenFile) → Has d.pages d.table number tag cells seen → seen.is.kind ≡ kind.Directory → (page : ℕ) (home : Home) → seen.homes page ≡ Some home → IsSome (d.pages home)
  directory_there number tag cells seen has directory page home at =
      let s = has_shown d all stands number tag cells seen has in
      let within = inside d all stands number s.entry s.original tag cells seen s.is directory page home at in
      subst IsSome (page_is d all stands number s.entry s.original tag cells seen s.is directory page home at) (ap_some (slice_get-get_or s.is.file.pages page [] within))
    where
      ap_some : {o : Option (List ℕ)} {x : List ℕ} → o ≡ Some x → IsSome o
      ap_some is = subst IsSome (sym is) refl

  module _ (same : (home : Home) → d.contents home ≡ contents_of d.pages home) where
    module _ (number : ℕ) (tag : Tag) (cells : List PlacedCell) (seen : SeenFile) (has : Has d.pages d.table number tag cells seen) (file : seen.is.kind ≡ kind.File) where
      abbrev s : HasShown d all stands number tag cells seen
      s = has_shown d all stands number tag cells seen has

      abbrev fileset : FilesetSlot
      fileset = s.original.fileset

      role : fileset.role ≡ Original
      role = is_role d all stands.slots number s.entry s.original

      there : IsThere d.pages s.entry tag cells
      there = by_item (some_same has.item (slot.Original s.entry) (sym has.there ∙ s.there)) has.is
        where
          by_item : has.item ≡ slot.Original s.entry → IsInItem d.pages d.table has.item tag cells seen → IsThere d.pages s.entry tag cells
          by_item is in_it = (subst (λ (i : SlotItem). IsInItem d.pages d.table i tag cells seen) is in_it).there

      shape_has : s.original.shape.files tag ≡ Some seen
      shape_has = s.original.is.files tag ∙ ap (option_and_then seen_in) (chain_is d.pages number s.entry s.original.is.chains s.original.is.has tag cells there) ∙ s.is.sees

      -- its path
      live : (path : Path) × (led_to s.original.shape.shown path ≡ Some (tag, s.is.file.kind))
      live = s.original.fills.names.live role tag s.is.file s.is.shown

      path_shown : IsShown fileset live.0
      path_shown count less = never_out fileset.role role (get fileset.tree.paths (take count live.0))

      filled : IsSomeAnd (get fileset.tree.nodes (number_of tag)) (IsFilled d.contents seen)
      filled = s.original.fills.files live.0 tag s.is.file.kind seen path_shown live.1 shape_has

      valid : IsValidFileset fileset.tree
      valid = subst (λ (r : Role). IsValidAs r fileset) role s.original.fills.valid

      by_node : (node : Node) → get fileset.tree.nodes (number_of tag) ≡ Some node → IsFilled d.contents seen node → (page : ℕ) (home : Home) → seen.homes page ≡ Some home → IsSome (d.pages home)
      by_node (File uid gid size logged pages) at is page home placed =
          let bytes : get pages page ≡ Some (d.contents home) = is.5 page ∙ ap (option_map d.contents) placed in
          let size = (valid.whole (number_of tag) (File uid gid size logged pages) at page (d.contents home) bytes).1 in
          whole_there (d.pages home) (ap length (sym (same home)) ∙ size)
      by_node (Directory uid gid) at is page home placed = no_kind (sym file ∙ is.0)
        where
          no_kind : {P : Type 0} → kind.File ≡ kind.Directory → P
          no_kind both = absurd (cc)

      pub file_there : (page : ℕ) (home : Home) → seen.homes page ≡ Some home → IsSome (d.pages home)
      file_there = let node = one_of (get fileset.tree.nodes (number_of tag)) (IsFilled d.contents seen) filled in by_node node.value node.there node.is

    any_there : (number : ℕ) (tag : Tag) (cells : List PlacedCell) (seen : SeenFile) → Has d.pages d.table number tag cells seen → (page : ℕ) (home : Home) → seen.homes page ≡ Some home → IsSome (d.pages home)
    any_there number tag cells seen has = by_kind seen.is.kind refl
      where
        by_kind : (k : Kind) → seen.is.kind ≡ k → (page : ℕ) (home : Home) → seen.homes page ≡ Some home → IsSome (d.pages home)
        by_kind kind.File is = file_there number tag cells seen has is
        by_kind kind.Directory is = directory_there number tag cells seen has is

    pub all_there : HasAllPages d.pages d.frame
    all_there table said number tag cells seen has page home at within = any_there number tag cells seen (subst (λ (t : Table). Has d.pages t number tag cells seen) (table_is d stands.tables table said) has) page home at

  tables_there : (home : Home) → IsOfTables d.pages d.frame home → IsSome (d.pages home)
  tables_there home of = ⊎_elim (λ c. cells_there home c) (λ t. tags_there home t) of

  files_there : (home : Home) → IsOfFiles d.pages d.frame home → IsSome (d.pages home)
  files_there home of =
      ⊎_elim (λ b. bitmap_there home b)
      (λ more. ⊎_elim (λ i. index_there home i)
      (λ dir. directory_there dir.number dir.dir dir.cells dir.seen (subst (λ (t : Table). Has d.pages t dir.number dir.dir dir.cells dir.seen) (table_is d stands.tables dir.table dir.says) dir.has) dir.kind dir.page home dir.at) more) of

  pub looked_there : HasWhereRulesLook d.pages d.frame
  looked_there home looks = ⊎_elim (λ at. table_there home at) (λ more. ⊎_elim (λ t. tables_there home t.1) (λ f. files_there home f.1) more) looks
