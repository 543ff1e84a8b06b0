-- The fileset of a slot stands for the same after steps.
use Rattle.std.proofs.Common.{◌≡◌, ◌∙◌, ⊎_elim, ℕ, ◌≤◌, Bool, true, false, List, [], ◌∷◌, Option, Some, None, IfSome, IsSome, IsSomeAnd, Contains, slice_get, nat_eq, nat_lt, ◌&&◌, is_some, if◌then◌else◌, length, refl, sym, ap, subst, arith}
use Rattle.std.proofs.lemmas.Bool.{and_parts, eqb-true, ltb-true, or_cases, true≢false}
use Rattle.std.specs.Option.{option_and_then, option_map_or}
use Rattle.standing_laws.specs.domain_base.declared.place.CellAt.{CellAt}
use Rattle.standing_laws.specs.domain_base.declared.place.Home.{Home}
use Rattle.standing_laws.specs.domain_base.declared.place.Kind.{Kind}
use Rattle.standing_laws.specs.domain_base.declared.place.Kind.TheVariants.{Directory, File}
use Rattle.standing_laws.specs.domain_base.declared.place.Tag.{Tag}
use Rattle.standing_laws.specs.page_store.Bitfiles.{Bitfile}
use Rattle.standing_laws.specs.cell_records.Records.{kind_of}
use Rattle.standing_laws.specs.cell_records.declared.record.Record.{Record}
use Rattle.standing_laws.specs.cell_records.declared.record.Record.TheVariants as written
use Rattle.standing_laws.specs.cell_records.declared.record.Leftover.TheVariants.{Trim}
use Rattle.standing_laws.specs.metadata_cells.Chain.{PlacedCell, records_of}
use Rattle.standing_laws.specs.metadata_cells.Cell.{record_of}
use Rattle.standing_laws.specs.tag_dirs.Directory.{IsDirectoryAt, cell_of}
use Rattle.standing_laws.specs.tag_dirs.declared.dir.TagPlace.{TagPlace}
use Rattle.standing_laws.proofs.OfTagDirs.Reading.{same_directory}
use Rattle.standing_laws.specs.extent_maps.declared.run.PagePlace.TheVariants.{Absent, At}
use Rattle.standing_laws.specs.free_cells.Cells.{table_of}
use Rattle.standing_laws.specs.file_chains.FileChanges.{AreOnTables}
use Rattle.standing_laws.specs.file_chains.Files.{AreFile, IsFile, places_of}
use Rattle.standing_laws.proofs.OfFileChains.MapRecords.{kind_found}
use Rattle.standing_laws.specs.fileset_files.Files.{AreFiles, Chains, LeadsToFile, attributes_of, is_removed, keep_in, keep_of, of_live, place_at}
use Rattle.standing_laws.specs.fileset_files.declared.attributes.Attributes.{Attributes}
use Rattle.standing_laws.specs.fileset_files.Shown.{AreIndexPages, IsWhat, ShowsAt, ShowsFile, index_in, index_of, shown_page}
use Rattle.standing_laws.specs.fileset_files.State.{state_of, states_of}
use Rattle.standing_laws.specs.fileset_files.Together.{AreTogether}
use Rattle.standing_laws.proofs.OfFilesetFiles.Created.{one_chains}
use Rattle.standing_laws.specs.index_pages.Homes.{AreIndexHomes}
use Rattle.standing_laws.proofs.OfIndexPages.Homes.{kept_same, one_list}
use Rattle.standing_laws.specs.stored_set.Standing.{StandsShown}
use Rattle.standing_laws.specs.stored_set.Whole.{IsWholeAt, IsWholeDirectory}
use Rattle.standing_laws.proofs.OfStoredSet.Kept.{index_kept, page_kept}
use Rattle.standing_laws.specs.stored_set.Sets.{StandsAsSet}
use Rattle.standing_laws.specs.fileset_model.declared.fileset.FilesetSlot.{FilesetSlot}
use Rattle.standing_laws.specs.fileset_table.Table.{Table}
use Rattle.standing_laws.specs.fileset_table.declared.slot.FilesetEntry.{FilesetEntry}
use Rattle.standing_laws.specs.fileset_table.declared.slot.SlotItem.TheVariants as slot
use Rattle.standing_laws.specs.release_list.declared.list.Entry.{Entry}
use Rattle.standing_laws.specs.release_list.Listed.{left_of}
use Rattle.standing_laws.specs.release_list.Standing.{Files}
use Rattle.standing_laws.proofs.OfReleaseList.Spread.{none_not, some_same}
use Rattle.standing_laws.specs.release_steps.Kept.{SaysTheSame}
use Rattle.standing_laws.specs.release_steps.Tags.{AreAmong, chains_in, start_of}
use Rattle.standing_laws.specs.release_steps.Waits.{StandsApart}
use Rattle.standing_laws.proofs.OfReleaseSteps.HeldSteps.{held_still}
use Rattle.standing_laws.proofs.OfReleaseSteps.Others.{others_stay}
use Rattle.standing_laws.proofs.OfReleaseSteps.SaysStill.{said_so}
use Rattle.standing_laws.proofs.OfReleaseSteps.StillThere.{files_stay}
use Rattle.standing_laws.proofs.OfReleaseSteps.Tags.{IsNamed, named, tags_stay_together}
use Rattle.standing_laws.proofs.OfDomainLayout.OneShape.{links_same}
use Rattle.standing_laws.specs.domain_layout.CellRules.{has_kind, keeps_well, of_original}
use Rattle.standing_laws.specs.domain_layout.Layout.{first_tag_of}
use Rattle.standing_laws.specs.domain_layout.Seen.{SeenFile, seen_in}
use Rattle.standing_laws.specs.domain_layout.Shape.{AreQuotas, FilesetShape, IsOriginal}
use Rattle.standing_laws.specs.domain_layout.TagRules.{quota_of}
use Rattle.standing_laws.specs.domain_layout.Agreeing.{AgreeOnShape}
use Rattle.standing_laws.proofs.OfDomainLayout.FilledAlike.{fills}
use Rattle.standing_laws.proofs.OfDomainLayout.Reached.{member_or_none}
use Rattle.standing_laws.specs.log_ring.Homes.{IsMember}
use Rattle.standing_laws.specs.domain_standing.Chains.{AreQuotasOf, HasFilesAmong, IndexesAt, IsRemoved, StandsInSlot}
use Rattle.standing_laws.specs.domain_standing.Domain.{DomainNow, all_of, item_in}
use Rattle.standing_laws.specs.domain_standing.Holders.{Holds}
use Rattle.standing_laws.specs.domain_standing.Holders.Holder.{of_file, of_index}
use Rattle.standing_laws.specs.domain_standing.Sources.{StandAlone}
use Rattle.standing_laws.specs.Leads.{StandsBelow}
use Rattle.standing_laws.specs.Slots.{StandsSlot}
use Rattle.standing_laws.proofs.HomeLists.{in_get}
use Rattle.standing_laws.proofs.OtherSlots.{links_of, seen_place}
use Rattle.standing_laws.proofs.RestRecords.{good_kinds}
use Rattle.standing_laws.proofs.SlotStays.{file_index_low}
use Rattle.release_laws.specs.Released.{Releases}
use Rattle.release_laws.specs.Trimmed.{TrimsFiles}
use Rattle.release_laws.proofs.Entries.{gives_none}
use Rattle.release_laws.proofs.PagesOver.{held_same, not_listed}
use Rattle.release_laws.proofs.SeenOver.{IsOn, seen_over}
use Rattle.release_laws.proofs.SeenTrimmed.{GiveNone}

absent_not : (home : Home) → ¬ Absent ≡ At home
absent_not home is = cc

-- how many pages a file keeps that is as it may be
keep_within : (r : Record) → kind_of r ≡ 1 → (pending : Bool) → keeps_well r pending ≡ true → IsSomeAnd (keep_in r) (λ keep. keep ≤ 65536)
keep_within (written.Attributes kind uid gid flags size keep links birth unsynced) is pending well = ⊎_elim
    (λ all. let e = eqb-true keep 65536 all in omega (arith, e))
    (λ few. let less = ltb-true keep 65536 (and_parts (nat_lt keep 65536) pending few).0 in omega (arith, less))
    (or_cases (nat_eq keep 65536) (nat_lt keep 65536 && pending) well)
keep_within (written.CloneFile vol cell page frozen) is pending well = absurd (omega (arith, is))
keep_within (written.Extents rows) is pending well = absurd (omega (arith, is))
keep_within (written.ShortExtents rows) is pending well = absurd (omega (arith, is))
keep_within (written.Holes rows) is pending well = absurd (omega (arith, is))
keep_within (written.Pending what) is pending well = absurd (omega (arith, is))
keep_within (written.UserQuota id files blocks) is pending well = absurd (omega (arith, is))
keep_within (written.GroupQuota id files blocks) is pending well = absurd (omega (arith, is))
keep_within (written.DirIndex vol page entries) is pending well = absurd (omega (arith, is))
keep_within (written.Parent slot seq) is pending well = absurd (omega (arith, is))
keep_within (written.Stripe width mark vols) is pending well = absurd (omega (arith, is))
keep_within (written.Volume vol pages bitmap_pages) is pending well = absurd (omega (arith, is))
keep_within (written.DenseExtents rows) is pending well = absurd (omega (arith, is))
keep_within (written.ShortDense rows) is pending well = absurd (omega (arith, is))

module _ (group count : ℕ) (d now : DomainNow) (files files_now : Files) (indexes : IndexesAt) (below : StandsBelow d files indexes) (after : StandsBelow now files_now indexes) (alone : StandAlone d) (r : Releases group count d now files files_now) (trims : TrimsFiles d files) where
  alone_on_list : GiveNone (all_of d files)
  alone_on_list = gives_none d files indexes below alone

  its_member : (vol p : ℕ) → Contains (table_of d.cells vol) p → IsMember d.frame.anchor vol
  its_member vol p on = ⊎_elim
      (λ member. member)
      (λ none. let e : length (table_of d.cells vol) ≡ 0 = ap length (below.tables.cells.others vol none) in absurd (omega (arith, e, on.1)))
      (member_or_none d.frame.anchor vol)

  module _ (n : ℕ) (entry : FilesetEntry) (shape : FilesetShape) (fileset : FilesetSlot) (there : item_in d n ≡ Some (slot.Original entry)) (stood : StandsSlot d n entry shape fileset) where
    abbrev pub its : Chains
    its = stood.set.chains

    abbrev pub its_now : Chains
    its_now = chains_in files_now its

    -- ---- its files

    pub begins : IsDirectoryAt d.pages entry.first_tag (d.tags n)
    begins = below.tables.laid.tags n (slot.Original entry) there

    has : HasFilesAmong d files n
    has = ⊎_elim
        (λ among. among)
        (λ empty. absurd (subst IsRemoved there empty.removed))
        (subst (λ o. StandsInSlot d files n (option_and_then first_tag_of o)) there (below.chains.slots n))

    among : AreAmong (all_of d files) (d.tags n) its
    among = subst (AreAmong (all_of d files) (d.tags n)) (λ j t. one_chains d.pages n (d.tags n) has.chains its has.are stood.set.stands.together.files t j) has.among

    both_now : AreTogether n (d.tags n) now.space now.cells now.pages its_now × AreAmong (all_of now files_now) (d.tags n) its_now
    both_now = tags_stay_together group d.frame.version (all_of d files) count (all_of now files_now) below.chains.well r.steps n (d.tags n) its stood.set.stands.together among

    -- the file of a tag, before and after
    pub record IsOver (t : Tag) (cs : List PlacedCell) : Type 0 where
      pub at : CellAt
      pub start : start_of cs ≡ Some at
      pub was : files at ≡ Some cs
      pub chain : List PlacedCell
      pub is : files_now at ≡ Some chain
      pub now_is : its_now t ≡ Some chain
      pub says : SaysTheSame cs chain

    trimmed : (t : Tag) (cs : List PlacedCell) → its t ≡ Some cs → (at : CellAt) → start_of cs ≡ Some at → (e : Entry) → Contains d.list.entries e → e.at ≡ at → left_of cs ≡ Some Trim
    trimmed t cs some at start e inside same = ap (option_and_then left_of) (sym some) ∙ among.trimmed e inside t (ap (option_and_then start_of) some ∙ start ∙ ap Some (sym same))

    pub over : (t : Tag) (cs : List PlacedCell) → its t ≡ Some cs → IsOver t cs
    over t cs some = by_there (files_now m.at) refl (files_stay group d.frame.version (all_of d files) count (all_of now files_now) below.chains.well r.steps m.at cs m.is (trimmed t cs some m.at m.start))
      where
        m : IsNamed files cs
        m = named files its t cs some (among.same t)

        by_there : (o : Option (List PlacedCell)) → files_now m.at ≡ o → IsSome o → IsOver t cs
        by_there None none given = absurd (true≢false (sym given))
        by_there (Some chain) is given = record {
          at = m.at;
          start = m.start;
          was = m.is;
          chain = chain;
          is = is;
          now_is = ap (λ o. option_and_then files_now (option_and_then start_of o)) some ∙ ap (option_and_then files_now) m.start ∙ is;
          says = let it = said_so group d.frame.version (all_of d files) count (all_of now files_now) below.chains.well r.steps m.at chain is in subst (λ (xs : List PlacedCell). SaysTheSame xs chain) (some_same it.0 cs (sym it.1 ∙ m.is)) it.2;
        }

    pub nothing_over : (t : Tag) → its t ≡ None → its_now t ≡ None
    nothing_over t none = ap (λ o. option_and_then files_now (option_and_then start_of o)) none

    live : (t : Tag) (cs : List PlacedCell) → its t ≡ Some cs → is_removed cs ≡ false
    live t cs some = subst (λ o. IfSome o (λ xs. is_removed xs ≡ false)) some (among.live t)

    live_now : (t : Tag) (cs : List PlacedCell) → its_now t ≡ Some cs → is_removed cs ≡ false
    live_now t cs some = subst (λ o. IfSome o (λ xs. is_removed xs ≡ false)) some (both_now.1.live t)

    -- ---- what is seen of them

    led : (t : Tag) (cs : List PlacedCell) → its t ≡ Some cs → LeadsToFile n (d.tags n) d.pages t cs
    led t cs some = subst (λ o. IfSome o (LeadsToFile n (d.tags n) d.pages t)) some (stood.set.stands.together.files.some t)

    kept : (t : Tag) (cs : List PlacedCell) → its t ≡ Some cs → IsSomeAnd (keep_of cs) (λ keep. keep ≤ 65536)
    kept t [] some = absurd ((led t [] some).is_of)
    kept t (first ∷ rest) some = by_cell (cell_of d.pages (d.tags n) t) (led t (first ∷ rest) some).leads
      where
        on : Contains (table_of d.cells first.at.vol) first.at.page
        on = (subst (λ o. IfSome o (AreOnTables d.cells)) some (stood.set.stands.together.on_tables t)).0

        by_record : (o : Option Record) → record_of 1 first.cell.records ≡ o → IsSome o → option_map_or (λ v. keeps_well v (has_kind 6 first.cell.records)) o false ≡ true → IsSomeAnd (option_and_then keep_in o) (λ keep. keep ≤ 65536)
        by_record None is given well = absurd (true≢false (sym given))
        by_record (Some v) is given well = keep_within v (kind_found 1 first.cell.records v is) (has_kind 6 first.cell.records) well

        of_file : AreFile d.pages first rest → IsSomeAnd (keep_of (first ∷ rest)) (λ keep. keep ≤ 65536)
        of_file file =
            by_record (record_of 1 first.cell.records) refl file.attributes
            (good_kinds d.table first.cell (below.rest.firsts first.at first.cell (record { member = its_member first.at.vol first.at.page on; table = on; stands = file.links.stands }) file.primary)
            (ap of_original (ap (option_and_then (slice_get d.table.slots)) (led t (first ∷ rest) some).is_of.2 ∙ there)) (live t (first ∷ rest) some)).1

        by_cell : (o : Option CellAt) → IsSomeAnd o (λ at. IsFile d.pages at (first ∷ rest)) → IsSomeAnd (keep_of (first ∷ rest)) (λ keep. keep ≤ 65536)
        by_cell None file = absurd file
        by_cell (Some at) file = of_file file.1

    listed : (t : Tag) (cs : List PlacedCell) (some : its t ≡ Some cs) → left_of cs ≡ Some Trim → IsOn (all_of d files) (over t cs some).at
    listed t cs some trim = below.chains.to_do (over t cs some).at (subst (λ o. IsSome (option_and_then left_of o)) (sym (over t cs some).was) (ap is_some trim))

    pub seen_same : (t : Tag) (cs : List PlacedCell) (some : its t ≡ Some cs) → seen_in (over t cs some).chain ≡ seen_in cs
    seen_same t cs some =
        let o = over t cs some in
        seen_over group d.frame.version (all_of d files) count (all_of now files_now) below.chains.well r.steps alone_on_list o.at cs o.chain o.was o.is (live t cs some) (live_now t o.chain o.now_is) (listed t cs some) (kept t cs some)
        (trimmed t cs some o.at o.start)

    pub seen_at : (t : Tag) → option_and_then seen_in (its_now t) ≡ option_and_then seen_in (its t)
    seen_at t = by_chain (its t) refl
      where
        by_chain : (o : Option (List PlacedCell)) → its t ≡ o → option_and_then seen_in (its_now t) ≡ option_and_then seen_in o
        by_chain None none = ap (option_and_then seen_in) (nothing_over t none)
        by_chain (Some cs) some = ap (option_and_then seen_in) (over t cs some).now_is ∙ seen_same t cs some

    -- ---- directories are as they were

    pub directory_same : (t : Tag) (cs : List PlacedCell) (some : its t ≡ Some cs) → IsSomeAnd (attributes_of cs) (λ is. is.kind ≡ Directory) → (over t cs some).chain ≡ cs
    directory_same t cs some is =
        let o = over t cs some in
        some_same o.chain cs (sym o.is ∙ others_stay group d.frame.version (all_of d files) count (all_of now files_now) r.steps o.at (λ e inside. (nobody e inside, λ clone. none_not o.at (sym (alone_on_list e inside) ∙ clone))) ∙ o.was)
      where
        apart : (a : Option Attributes) → IsSomeAnd a (λ is. is.kind ≡ Directory) → IsSomeAnd a (λ is. is.kind ≡ File) → ⊥
        apart None directory file = directory
        apart (Some is) directory file = let e : Directory ≡ File = sym directory ∙ file in absurd (cc)

        nobody : (e : Entry) → Contains d.list.entries e → ¬ e.at ≡ (over t cs some).at
        nobody e inside same =
            let o = over t cs some in
            apart (attributes_of cs) is (trims e cs inside (ap files same ∙ o.was) (trimmed t cs some o.at o.start e inside same))

    -- ---- its pages

    place_was : (t : Tag) (cs : List PlacedCell) (some : its t ≡ Some cs) (page : ℕ) (home : Home) → places_of cs page ≡ At home → Holds d files indexes (of_file (over t cs some).at page) home
    place_was t cs some page home at = ap (λ o. option_map_or (λ xs. places_of xs page) o Absent) (over t cs some).was ∙ at

    place_now : (t : Tag) (cs : List PlacedCell) (some : its t ≡ Some cs) (page : ℕ) (home : Home) → places_of (over t cs some).chain page ≡ At home → Holds now files_now indexes (of_file (over t cs some).at page) home
    place_now t cs some page home at = ap (λ o. option_map_or (λ xs. places_of xs page) o Absent) (over t cs some).is ∙ at

    file_page_same : (t : Tag) (cs : List PlacedCell) (some : its t ≡ Some cs) (page : ℕ) (home : Home) → places_of cs page ≡ At home → places_of (over t cs some).chain page ≡ At home → now.pages home ≡ d.pages home
    file_page_same t cs some page home at at_now =
        held_same group count d now files files_now indexes below after r home (of_file (over t cs some).at page) (place_was t cs some page home at) (place_now t cs some page home at_now) (λ k e. absurd (cc)) (λ e. absurd (cc))

    -- each that is seen has its bytes
    pub seen_page_same : (t : Tag) (cs : List PlacedCell) (some : its t ≡ Some cs) (seen : SeenFile) → seen_in cs ≡ Some seen → (page : ℕ) (home : Home) → seen.homes page ≡ Some home → now.pages home ≡ d.pages home
    seen_page_same t cs some seen seen_is page home stands = file_page_same t cs some page home (seen_place cs seen page home stands seen_is) (seen_place (over t cs some).chain seen page home stands (seen_same t cs some ∙ seen_is))

    own_chains : (t : Tag) → stood.is.chains t ≡ its t
    own_chains =
        let h = stood.is.has in
        one_chains d.pages n (d.tags n) stood.is.chains its
        (subst (λ (ps : List TagPlace). AreFiles n ps d.pages stood.is.chains) (same_directory d.pages entry.first_tag h.places (d.tags n) h.directory begins) h.files) stood.set.stands.together.files

    pub agree : AgreeOnShape d.contents now.contents shape
    agree t seen at page home stands = by_chain (its t) refl (sym (ap (option_and_then seen_in) (own_chains t)) ∙ sym (stood.is.files t) ∙ at)
      where
        by_chain : (o : Option (List PlacedCell)) → its t ≡ o → option_and_then seen_in o ≡ Some seen → d.contents home ≡ now.contents home
        by_chain None none seen_is = absurd (none_not seen seen_is)
        by_chain (Some cs) some seen_is = sym (r.bytes home (seen_page_same t cs some seen seen_is page home stands))

    -- ---- its indexes

    its_index : (t : Tag) (o : Option (List PlacedCell)) → its t ≡ o → AreIndexHomes d.pages (option_and_then index_of o) (stood.set.indexes t)
    its_index t o is_o = subst (λ o. AreIndexHomes d.pages (option_and_then index_of o) (stood.set.indexes t)) is_o (stood.set.stands.indexed t)

    in_index : (t : Tag) (home : Home) → Contains (stood.set.indexes t) home → (at : CellAt) × Contains (indexes at) home × (1 ≤ home.vol)
    in_index t home inside = by_chain (its t) refl
      where
        low_file : (cs : List PlacedCell) → its t ≡ Some cs → (o : Option CellAt) → IsSomeAnd o (λ at. IsFile d.pages at cs) → 1 ≤ home.vol
        low_file cs some None leads = absurd leads
        low_file cs some (Some at) leads = file_index_low d.pages at cs (stood.set.indexes t) leads (its_index t (Some cs) some) home inside

        by_chain : (o : Option (List PlacedCell)) → its t ≡ o → (at : CellAt) × Contains (indexes at) home × (1 ≤ home.vol)
        by_chain None none =
            let nothing : Contains [] home = subst (λ (homes : List Home). Contains homes home) (one_list d.pages None (stood.set.indexes t) [] (its_index t None none) tt) inside in
            absurd (omega (arith, nothing.1))
        by_chain (Some cs) some =
            let o = over t cs some in (
              o.at,
              subst (λ (homes : List Home). Contains homes home)
                  (one_list d.pages (index_of cs) (stood.set.indexes t) (indexes o.at) (its_index t (Some cs) some) (subst (λ x. AreIndexHomes d.pages (option_and_then index_of x) (indexes o.at)) o.was (below.chains.indexed o.at)))
                  inside,
              low_file cs some (cell_of d.pages (d.tags n) t) (led t cs some).leads,
            )

    index_same : (t : Tag) (home : Home) → Contains (stood.set.indexes t) home → now.pages home ≡ d.pages home
    index_same t home inside =
        let i = in_index t home inside in
        let place = in_get (indexes i.0) home i.1 in
        held_same group count d now files files_now indexes below after r home (of_index i.0 place.0) place.1 place.1 (λ k e. absurd (cc)) (λ e. absurd (cc))

    index_apart : (t : Tag) (home : Home) → Contains (stood.set.indexes t) home → StandsApart (all_of now files_now) home
    index_apart t home inside =
        let i = in_index t home inside in
        let place = in_get (indexes i.0) home i.1 in
        (held_still group d.frame.version (all_of d files) count (all_of now files_now) below.chains.well r.steps home i.2).stands
        (record {
          low = i.2;
          nowhere = λ at page stands. not_both at page i.0 place.0 (below.owned.once home (of_file at page) (of_index i.0 place.0) stands place.1);
          not_listed = not_listed group count d now files files_now indexes below after r home (of_index i.0 place.0) place.1 (λ k e. absurd (cc));
          apart = (stood.set.stands.stand t home inside).apart;
        })
      where
        not_both : (a : CellAt) (p : ℕ) (b : CellAt) (k : ℕ) → ¬ of_file a p ≡ of_index b k
        not_both a p b k e = cc

    index_now : (t : Tag) (cs : List PlacedCell) (some : its t ≡ Some cs) → index_of (over t cs some).chain ≡ index_of cs
    index_now t cs some = ap (option_and_then index_in) ((over t cs some).says.others 9 (λ e. omega (arith, e)) (λ e. omega (arith, e)) (λ e. omega (arith, e)) refl)

    index_at : (t : Tag) → option_and_then index_of (its_now t) ≡ option_and_then index_of (its t)
    index_at t = by_chain (its t) refl
      where
        by_chain : (o : Option (List PlacedCell)) → its t ≡ o → option_and_then index_of (its_now t) ≡ option_and_then index_of o
        by_chain None none = ap (option_and_then index_of) (nothing_over t none)
        by_chain (Some cs) some = ap (option_and_then index_of) (over t cs some).now_is ∙ index_now t cs some

    -- ---- what is shown of them

    is_directory : (cs : List PlacedCell) (file : Bitfile) → file.kind ≡ Directory → IsSomeAnd (attributes_of cs) (IsWhat file) → IsSomeAnd (attributes_of cs) (λ is. is.kind ≡ Directory)
    is_directory cs file kind what = by_attributes (attributes_of cs) what
      where
        by_attributes : (o : Option Attributes) → IsSomeAnd o (IsWhat file) → IsSomeAnd o (λ is. is.kind ≡ Directory)
        by_attributes None what = what
        by_attributes (Some is) what = sym what.kind ∙ kind

    shown_file : (t : Tag) (cs : List PlacedCell) (some : its t ≡ Some cs) (file : Bitfile) → ShowsFile d.pages cs file → ShowsFile now.pages (over t cs some).chain file
    shown_file t cs some file shows = record {
      what = subst (λ o. IsSomeAnd o (IsWhat file)) (sym (over t cs some).says.what) shows.what;
      each = λ number. shows.each number ∙ sym (by_kind number file.kind refl);
      index = subst (λ o. AreIndexPages now.pages o file.index) (sym (index_now t cs some)) (index_kept d.pages now.pages (index_of cs) (stood.set.indexes t) file.index (its_index t (Some cs) some) (index_same t) shows.index);
    }
      where
        by_kind : (number : ℕ) (kind : Kind) → file.kind ≡ kind → shown_page now.pages (over t cs some).chain kind number ≡ shown_page d.pages cs kind number
        by_kind number File kind = refl
        by_kind number Directory kind =
            let same = directory_same t cs some (is_directory cs file kind shows.what) in
            ap (λ (xs : List PlacedCell). shown_page now.pages xs Directory number) same
            ∙ page_kept d.pages now.pages cs Directory number (λ home at. file_page_same t cs some number home at (ap (λ (xs : List PlacedCell). places_of xs number) same ∙ at))

    live_some : (cs : List PlacedCell) → is_removed cs ≡ false → of_live Some cs ≡ Some cs
    live_some cs stays = ap (λ (b : Bool). if b then None else Some cs) stays

    live_what : (cs : List PlacedCell) → is_removed cs ≡ false → of_live attributes_of cs ≡ attributes_of cs
    live_what cs stays = ap (λ (b : Bool). if b then None else attributes_of cs) stays

    shows_now : (t : Tag) → ShowsAt now.pages (its_now t) (shape.shown t)
    shows_now t = by_shown (shape.shown t) (its t) refl (stood.set.stands.shows t)
      where
        by_shown : (shown : Option Bitfile) (o : Option (List PlacedCell)) → its t ≡ o → ShowsAt d.pages o shown → ShowsAt now.pages (its_now t) shown
        by_shown None None none shows = ap (option_and_then (of_live attributes_of)) (nothing_over t none)
        by_shown None (Some cs) some shows =
            let o = over t cs some in
            ap (option_and_then (of_live attributes_of)) o.now_is ∙ live_what o.chain (live_now t o.chain o.now_is) ∙ o.says.what ∙ sym (live_what cs (live t cs some)) ∙ shows
        by_shown (Some file) None none shows = absurd shows
        by_shown (Some file) (Some cs) some shows =
            let o = over t cs some in
            subst (λ x. ShowsAt now.pages x (Some file)) (sym o.now_is)
            (subst (λ x. IsSomeAnd x (λ xs. ShowsFile now.pages xs file)) (sym (live_some o.chain (live_now t o.chain o.now_is)))
            (shown_file t cs some file (subst (λ x. IsSomeAnd x (λ xs. ShowsFile d.pages xs file)) (live_some cs (live t cs some)) shows)))

    whole_now : (t : Tag) → IsWholeAt (states_of its_now t) (shape.shown t)
    whole_now t = by_shown (shape.shown t) (its t) refl (stood.set.stands.shows t) (stood.set.whole t)
      where
        by_shown : (shown : Option Bitfile) (o : Option (List PlacedCell)) → its t ≡ o → ShowsAt d.pages o shown → IsWholeAt (states_of its t) shown → IsWholeAt (states_of its_now t) shown
        by_shown None o is shows whole = tt
        by_shown (Some file) None none shows whole = absurd shows
        by_shown (Some file) (Some cs) some shows whole = λ kind.
            let o = over t cs some in
            let what = (subst (λ x. IsSomeAnd x (λ xs. ShowsFile d.pages xs file)) (live_some cs (live t cs some)) shows).what in
            let same : its_now t ≡ its t = o.now_is ∙ ap Some (directory_same t cs some (is_directory cs file kind what)) ∙ sym some in
            subst (λ x. IsSomeAnd (option_and_then state_of x) (IsWholeDirectory file)) (sym same) (whole kind)

    -- ---- its set

    no_file : (t s : Tag) (page : ℕ) (home : Home) → Contains (stood.set.indexes s) home → ¬ place_at its_now t page ≡ At home
    no_file t s page home inside at = by_chain (its t) refl
      where
        by_chain : (o : Option (List PlacedCell)) → its t ≡ o → ⊥
        by_chain None none = absent_not home (sym (ap (λ o. option_map_or (λ xs. places_of xs page) o Absent) (nothing_over t none)) ∙ at)
        by_chain (Some cs) some =
            let o = over t cs some in
            (index_apart s home inside).nowhere o.at page (place_now t cs some page home (sym (ap (λ o. option_map_or (λ xs. places_of xs page) o Absent) o.now_is) ∙ at))

    shown_now : StandsShown n (d.tags n) now.space now.cells now.pages its_now stood.set.indexes shape.shown
    shown_now = record {
      together = both_now.0;
      shows = shows_now;
      indexed = λ t. subst (λ o. AreIndexHomes now.pages o (stood.set.indexes t)) (sym (index_at t)) (kept_same d.pages now.pages (option_and_then index_of (its t)) (stood.set.indexes t) (stood.set.stands.indexed t) (index_same t));
      stand = λ t home inside. record { apart = (index_apart t home inside).apart; no_tags = (stood.set.stands.stand t home inside).no_tags };
      apart = λ s t page home inside. no_file t s page home inside;
      once = stood.set.stands.once;
    }

    -- ---- its shape

    quotas_still : (o : Option CellAt) → entry.quota ≡ o → (records : List Record) → AreQuotas d.pages o records → AreQuotas now.pages o records
    quotas_still None none records are = are
    quotas_still (Some at) quota records are = by_chain (files at) refl (below.chains.quotas n at named_it) (after.chains.quotas n at (ap (λ (t : Table). option_and_then quota_of (slice_get t.slots n)) r.table ∙ named_it))
      where
        named_it : option_and_then quota_of (item_in d n) ≡ Some at
        named_it = ap (option_and_then quota_of) there ∙ quota

        stays : files_now at ≡ files at
        stays = others_stay group d.frame.version (all_of d files) count (all_of now files_now) r.steps at (λ e inside. (r.quotas n at named_it (λ removed. subst IsRemoved there removed) e inside, λ clone. none_not at (sym (alone_on_list e inside) ∙ clone)))

        by_chain : (o : Option (List PlacedCell)) → files at ≡ o → IsSomeAnd o (AreQuotasOf d n at) → IsSomeAnd (files_now at) (AreQuotasOf now n at) → AreQuotas now.pages (Some at) records
        by_chain None none quotas quotas_then = absurd quotas
        by_chain (Some cs) some quotas quotas_then = (
          cs,
          links_of now.pages at cs (subst (λ o. IsSomeAnd o (AreQuotasOf now n at)) (stays ∙ some) quotas_then).quotas,
          are.2 ∙ ap records_of (links_same d.pages at are.0 cs are.1 (links_of d.pages at cs quotas.quotas)),
        )

    shape_now : IsOriginal now.pages n entry shape
    shape_now = record {
      none = stood.is.none;
      chains = its_now;
      has = record {
        places = d.tags n;
        directory = record { directory = both_now.0.files.directory; begins = begins.begins };
        files = both_now.0.files;
      };
      files = λ t. stood.is.files t ∙ ap (option_and_then seen_in) (own_chains t) ∙ sym (seen_at t);
      shown = shows_now;
      limits = record { records = stood.is.limits.records; quotas = quotas_still entry.quota refl stood.is.limits.records stood.is.limits.quotas; each = stood.is.limits.each };
    }

    pub files_over : AreFiles n (d.tags n) now.pages its_now
    files_over = both_now.0.files

    pub slot_over : StandsSlot now n entry shape fileset
    slot_over = record {
      is = shape_now;
      filled = fills d.contents now.contents shape fileset agree stood.filled;
      set = subst (λ (ps : List TagPlace). StandsAsSet n ps now.space now.cells now.pages shape.shown) (sym (ap (λ (f : ℕ → List TagPlace). f n) r.tags))
          (record { chains = its_now; indexes = stood.set.indexes; stands = shown_now; whole = whole_now; bare = stood.set.bare; low = stood.set.low });
    }
