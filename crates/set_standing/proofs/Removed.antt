-- A domain stands on around a slot where a file is taken away, and with it its index.
use Rattle.std.proofs.Common.{◌≡◌, ◌∙◌, ℕ, false, List, [], ◌∷◌, Option, Some, None, IfSome, IsSomeAnd, Contains, inl, is_some, slice_get, refl, sym, ap, subst}
use Rattle.std.proofs.lemmas.List.{append-nil}
use Rattle.std.specs.Option.{option_and_then, option_map}
use Rattle.standing_laws.specs.domain_base.declared.place.CellAt.{CellAt}
use Rattle.standing_laws.specs.domain_base.declared.place.Home.{Home}
use Rattle.standing_laws.specs.domain_base.declared.place.Tag.{Tag}
use Rattle.standing_laws.specs.page_store.Pages.{Pages, same_home}
use Rattle.standing_laws.specs.cell_records.declared.record.Leftover.TheVariants.{Remove}
use Rattle.standing_laws.specs.cell_records.declared.record.Record.TheVariants as written
use Rattle.standing_laws.specs.metadata_cells.Cell.{Cell, record_of}
use Rattle.standing_laws.specs.metadata_cells.CellPage.{cell_at, home_of}
use Rattle.standing_laws.specs.metadata_cells.Chain.{PlacedCell}
use Rattle.standing_laws.proofs.OfTagDirs.Slots.{off_slot}
use Rattle.standing_laws.specs.free_cells.Cells.{table_of}
use Rattle.standing_laws.specs.free_space.Spaces.{Spaces}
use Rattle.standing_laws.specs.extent_maps.declared.run.PagePlace.TheVariants.{At}
use Rattle.standing_laws.specs.file_chains.Files.{AreFile, IsFile}
use Rattle.standing_laws.specs.fileset_files.Changes.{ChangesBeside, KeepsSequences, Removes, says_removed, with_first, without_chain}
use Rattle.standing_laws.specs.fileset_files.Files.{LeadsToFile, first_record, place_at}
use Rattle.standing_laws.specs.fileset_files.Index.{says_index}
use Rattle.standing_laws.specs.fileset_files.Shown.{index_of}
use Rattle.standing_laws.specs.fileset_files.Together.{AreTogether}
use Rattle.standing_laws.proofs.OfFilesetFiles.OneChain.{chain_same, same_tag_itself}
use Rattle.standing_laws.specs.stored_set.Sets.{GivesIndexBack, without_index, without_index_from}
use Rattle.standing_laws.specs.release_list.Listed.{IsEntry}
use Rattle.standing_laws.specs.release_list.Listing.{Adds, Listing}
use Rattle.standing_laws.specs.release_list.Standing.{Files, ReadsThrough, source_at, with_file}
use Rattle.standing_laws.proofs.OfReleaseList.Spread.{none_not}
use Rattle.standing_laws.proofs.OfReleaseList.Standings.{file_there}
use Rattle.standing_laws.specs.release_steps.Tags.{AreAmong, start_of}
use Rattle.standing_laws.proofs.OfReleaseSteps.FirstWell.{removed_beside}
use Rattle.standing_laws.specs.domain_layout.Filled.{Contents}
use Rattle.standing_laws.specs.fileset_table.Table.{Table}
use Rattle.standing_laws.specs.domain_standing.Domain.{DomainNow, all_of}
use Rattle.standing_laws.specs.IndexCalls.{KeepsTables, with_index_at, with_removed}
use Rattle.standing_laws.specs.Leads.{StandsBelow}
use Rattle.standing_laws.specs.SlotsStay.{OthersStand}
use Rattle.standing_laws.proofs.IndexGone.{gone_in}
use Rattle.standing_laws.proofs.IndexSaid.{gone_beside, gone_there, says_gone}
use Rattle.standing_laws.proofs.IndexSet.{IsChain}
use Rattle.standing_laws.proofs.IndexSpaces.{Among, NoHome, SpacesMove, held_still, moves_away}
use Rattle.standing_laws.proofs.IndexWas.{file_was, index_low_was, off_cells, off_first}
use Rattle.standing_laws.specs.Sound.{StandsSoundBut}
use Rattle.standing_laws.proofs.SoundGone.{but_gone_in}
use Rattle.standing_laws.proofs.SoundParted.{NoFile, sound_but, sound_none}
use Rattle.set_standing.specs.Around.{BytesFollow, GoesOnAround, GoesOnAtSlot, IsNamedIn, StandsAround, StandsAtSlot}
use Rattle.set_standing.specs.Follow.{FilesFollow}
use Rattle.set_standing.proofs.Again.{alone_said, at_slot, number_first, says_first, there_first}
use Rattle.set_standing.proofs.Aside.{stays_aside}
use Rattle.set_standing.proofs.FilesKept.{files_by}
use Rattle.set_standing.proofs.Following.{chain_gone, same_sequences}
use Rattle.set_standing.proofs.NamesStay.{gone_named}
use Rattle.set_standing.proofs.OwnPages.{not_in_index, page_bytes}

-- where the chain begins of a file that was taken away
module _ (number : ℕ) (tag : Tag) (d : DomainNow) (around : StandsAtSlot number d) (pages : Pages) (start : CellAt) (removes : Removes number (d.tags number) tag start (without_index tag around.chains) pages) where
  starts_at : (first : PlacedCell) (rest : List PlacedCell) → around.chains tag ≡ Some (first ∷ rest) → (o : Option Home) → IsSomeAnd (without_index_from o tag around.chains tag) (λ cells. IsFile pages start (with_first says_removed cells)) → first.at ≡ start
  starts_at first rest is None pending = (subst (λ o. IsSomeAnd o (λ cells. IsFile pages start (with_first says_removed cells))) is pending).0
  starts_at first rest is (Some home) pending =
      (subst (λ o. IsSomeAnd o (λ cells. IsFile pages start (with_first says_removed cells)))
      (chain_same tag (with_first (says_index None)) around.chains tag (same_tag_itself tag) ∙ ap (option_map (with_first (says_index None))) is) pending).0

  nothing : around.chains tag ≡ None → ⊥
  nothing none =
      subst (λ o. IsSomeAnd o (λ cells. IsFile pages start (with_first says_removed cells)))
      (ap (λ o. without_index_from o tag around.chains tag) (ap (option_and_then index_of) none) ∙ none) removes.pending

  pub removed_chain : IsChain around.chains tag start
  removed_chain = by_chain (around.chains tag) refl (around.well.together.files.some tag)
    where
      by_chain : (o : Option (List PlacedCell)) → around.chains tag ≡ o → IfSome o (LeadsToFile number (d.tags number) d.pages tag) → IsChain around.chains tag start
      by_chain None none leads = absurd (nothing none)
      by_chain (Some []) is leads = absurd leads.is_of
      by_chain (Some (first ∷ rest)) is leads = record { first = first; rest = rest; is = is; at = starts_at first rest is (option_and_then index_of (around.chains tag)) removes.pending }

module _ (number : ℕ) (tag : Tag) (group : ℕ) (d : DomainNow) (around : StandsAtSlot number d) (pages : Pages) (contents : Contents) (space : Spaces) (together : AreTogether number (d.tags number) space d.cells pages (without_chain tag around.chains)) where
  abbrev now : DomainNow
  now = record d { pages = pages; contents = contents; space = space }

  module _ (first : PlacedCell) (rest : List PlacedCell) (is : around.chains tag ≡ Some (first ∷ rest)) (removes : Removes number (d.tags number) tag first.at (without_index tag around.chains) pages) (gives : GivesIndexBack group (d.tags number) (around.chains tag) (around.indexes first.at) d.space space d.pages pages)
      (listed : Listing) (adds : Adds first.at None d.list.entries listed.entries) (same_pages : listed.tag_pages ≡ d.list.tag_pages) (follow : BytesFollow d now) (sequences : KeepsSequences (d.tags number) d.pages pages)
    where
      abbrev then : DomainNow
      then = record now { list = listed }

      abbrev files_then : Files
      files_then = with_removed first.at tag around.chains around.files

      beside : ChangesBeside (d.tags number) (Some (first ∷ rest)) d.pages gives.said
      beside = subst (λ o. ChangesBeside (d.tags number) o d.pages gives.said) is gives.beside

      -- the file as it is then
      record Gone : Type 0 where
        says : Cell → Cell
        files : files_then ≡ with_file first.at (Some (with_first says (first ∷ rest))) around.files
        pending : record_of 6 (says first.cell).records ≡ Some (written.Pending Remove)
        source : record_of 2 (says first.cell).records ≡ record_of 2 first.cell.records

      gone_file : Gone
      gone_file = by_index (option_and_then index_of (around.chains tag)) refl
        where
          old_file : AreFile d.pages first rest
          old_file = file_was d around.files around.indexes around.below number tag around.chains around.well first rest is

          by_index : (o : Option Home) → option_and_then index_of (around.chains tag) ≡ o → Gone
          by_index None none =
              let same : without_index tag around.chains tag ≡ Some (first ∷ rest) = ap (λ o. without_index_from o tag around.chains tag) none ∙ is in
              record {
                says = says_removed;
                files = ap (λ o. with_file first.at (option_map (with_first says_removed) o) around.files) same;
                pending = gone_there first.cell;
                source = (removed_beside d.pages first rest old_file).source;
              }
          by_index (Some home) some =
              let same : without_index tag around.chains tag ≡ Some (with_first (says_index None) (first ∷ rest)) =
              ap (λ o. without_index_from o tag around.chains tag) some ∙ chain_same tag (with_first (says_index None)) around.chains tag (same_tag_itself tag) ∙ ap (option_map (with_first (says_index None))) is
              in
              record {
                says = says_gone;
                files = ap (λ o. with_file first.at (option_map (with_first says_removed) o) around.files) same;
                pending = gone_there (says_index None first.cell);
                source = (gone_beside d.pages first rest old_file).source;
              }

      alone_then : (at : CellAt) → source_at files_then at ≡ None
      alone_then at = ap (λ (f : Files). source_at f at) gone_file.files ∙ alone_said number tag d around first rest is gone_file.says gone_file.source at

      there_then : files_then first.at ≡ Some (with_first gone_file.says (first ∷ rest))
      there_then = ap (λ (f : Files). f first.at) gone_file.files ∙ file_there first.at (Some (with_first gone_file.says (first ∷ rest))) around.files

      entry : IsEntry files_then (record { at = first.at; clone = None })
      entry = record {
        there = ap is_some there_then;
        says = inl (ap (λ o. is_some (option_and_then (first_record 6) o)) there_then ∙ ap is_some gone_file.pending);
        given = λ clone none. absurd (none_not clone none);
        all = λ clone reads. absurd (none_reads clone reads);
      }
        where
          none_reads : (clone : CellAt) → ReadsThrough files_then clone first.at → ⊥
          none_reads clone reads = subst (λ o. IsSomeAnd o (λ source. source.at ≡ first.at)) (alone_then clone) reads

      begins : option_and_then start_of (around.chains tag) ≡ Some first.at
      begins = ap (option_and_then start_of) is

      all_then : StandsBelow then files_then (with_index_at first.at [] around.indexes) × OthersStand number d then × AreAmong (all_of then files_then) (d.tags number) (without_chain tag around.chains)
      all_then = gone_in number tag d now around.chains around.files around.indexes group around.below refl together first.at around.well begins removes gives None listed entry adds same_pages

      below_then : StandsBelow then files_then (with_index_at first.at [] around.indexes)
      below_then = all_then.0

      sound_then : StandsSoundBut (IsNamedIn (without_chain tag around.chains)) then files_then (with_index_at first.at [] around.indexes)
      sound_then = gone_named tag first.at around.chains then files_then around.indexes begins
          (but_gone_in number tag d now around.chains around.files around.indexes (IsNamedIn around.chains) group around.below around.sound refl listed first.at around.well begins removes gives)

      off_its_cells : (home : Home) → Contains (around.indexes first.at) home → ¬ Contains (table_of d.cells home.vol) home.page
      off_its_cells = off_cells d around.files around.indexes around.below number tag around.chains around.well first rest is

      off_its_first : (home : Home) → ¬ Contains (table_of d.cells home.vol) home.page → same_home home (home_of first.at) ≡ false
      off_its_first = off_first d around.files around.indexes around.below number tag around.chains around.well first rest is

      moves : SpacesMove NoHome (Among (around.indexes first.at)) d.space space
      moves = subst (SpacesMove NoHome (Among (around.indexes first.at)) d.space) (sym gives.drops.waits)
          (moves_away (around.indexes first.at) group d.space (index_low_was d around.files around.indexes around.below number tag around.chains around.well first rest is))

      -- pages of files stay
      page_stays : (t : Tag) (k : ℕ) (home : Home) → place_at around.chains t k ≡ At home → pages home ≡ d.pages home
      page_stays t k home placed =
          let apart = around.well.together.file_pages t k home placed in
          gives.drops.others home (not_in_index number d around first t k home placed)
          ∙ beside.pages home (off_slot (d.tags number) first.cell.head.slot home apart.no_tags) (off_its_first home apart.apart.off_table)

      files_follow : FilesFollow None number d then
      files_follow = files_by number d then [] (sym (append-nil (d.tags number))) (same_sequences number d then refl sequences) around.chains (without_chain tag around.chains) around.well.together.files together.files
          (chain_gone number d then around.chains tag (λ t cells differ there. page_bytes number d around then follow t cells there (λ k home placed. page_stays t k home placed)))

      pub file_gone : GoesOnAtSlot None number d then around
      file_gone = (
        record {
          files = files_then;
          indexes = with_index_at first.at [] around.indexes;
          below = below_then;
          chains = without_chain tag around.chains;
          well = record { well = below_then.chains.well; together = together; among = all_then.2 };
          alone = alone_then;
          sound = sound_then;
        },
        stays_aside number first.at d then around.files around.indexes around.below (first ∷ rest) (there_first number tag d around first rest is) (number_first number tag d around first rest is) (says_first number tag d around first rest is) (λ n differ. refl) refl below_then.chains.well.together.allocated
            (λ at on other.
            ap (λ (o : Option (List ℕ)). cell_at (λ _. o) at) (gives.drops.others (home_of at) (λ inside. off_its_cells (home_of at) inside on))
            ∙ beside.cells at other)
            (λ home off.
            gives.drops.others home off.no_index
            ∙ beside.pages home (off_slot (d.tags number) first.cell.head.slot home off.no_tags) (off_its_first home off.off_table))
            (λ home off apart. record { held = held_still NoHome (Among (around.indexes first.at)) d.space space moves home off.low off.no_index apart.held; off_table = apart.off_table }) follow refl refl files_follow,
        λ whole. sound_none then files_then (with_index_at first.at [] around.indexes)
            (but_gone_in number tag d now around.chains around.files around.indexes NoFile group around.below (sound_but d around.files around.indexes NoFile whole) refl listed first.at around.well begins removes gives),
      )

  pub begun_at : (start : CellAt) → Removes number (d.tags number) tag start (without_index tag around.chains) pages → GivesIndexBack group (d.tags number) (around.chains tag) (around.indexes start) d.space space d.pages pages
      → KeepsSequences (d.tags number) d.pages pages → (listed : Listing) → Adds start None d.list.entries listed.entries → listed.tag_pages ≡ d.list.tag_pages → BytesFollow d now → GoesOnAtSlot None number d (record now { list = listed }) around
  begun_at start removes gives sequences listed adds same_pages follow = from (removed_chain number tag d around pages start removes)
    where
      from : IsChain around.chains tag start → GoesOnAtSlot None number d (record now { list = listed }) around
      from c = file_gone c.first c.rest c.is
          (subst (λ (a : CellAt). Removes number (d.tags number) tag a (without_index tag around.chains) pages) (sym c.at) removes)
          (subst (λ (a : CellAt). GivesIndexBack group (d.tags number) (around.chains tag) (around.indexes a) d.space space d.pages pages) (sym c.at) gives)
          listed (subst (λ (a : CellAt). Adds a None d.list.entries listed.entries) (sym c.at) adds) same_pages follow sequences

pub is_gone_at : (number : ℕ) (tag : Tag) (start : CellAt) (group : ℕ) (d now : DomainNow) (around : StandsAtSlot number d) → KeepsTables d now → BytesFollow d now → AreTogether number (d.tags number) now.space d.cells now.pages (without_chain tag around.chains)
    → Removes number (d.tags number) tag start (without_index tag around.chains) now.pages → GivesIndexBack group (d.tags number) (around.chains tag) (around.indexes start) d.space now.space d.pages now.pages
    → KeepsSequences (d.tags number) d.pages now.pages → (listed : Listing) → Adds start None d.list.entries listed.entries → listed.tag_pages ≡ d.list.tag_pages → GoesOnAtSlot None number d (record now { list = listed }) around
is_gone_at number tag start group d now around same follow together removes gives sequences listed adds same_pages =
    subst (λ (x : DomainNow). GoesOnAtSlot None number d (record x { list = listed }) around) (sym same)
    (begun_at number tag group d around now.pages now.contents now.space together start removes gives sequences listed adds same_pages follow)

-- the same of an original
pub is_gone : (number : ℕ) (tag : Tag) (start : CellAt) (group : ℕ) (d now : DomainNow) (around : StandsAround number d) → KeepsTables d now → BytesFollow d now → AreTogether number (d.tags number) now.space d.cells now.pages (without_chain tag around.chains)
    → Removes number (d.tags number) tag start (without_index tag around.chains) now.pages → GivesIndexBack group (d.tags number) (around.chains tag) (around.indexes start) d.space now.space d.pages now.pages
    → KeepsSequences (d.tags number) d.pages now.pages → (listed : Listing) → Adds start None d.list.entries listed.entries → listed.tag_pages ≡ d.list.tag_pages → GoesOnAround None number d (record now { list = listed })
is_gone number tag start group d now around same follow together removes gives sequences listed adds same_pages =
    let gone = is_gone_at number tag start group d now (at_slot number d around) same follow together removes gives sequences listed adds same_pages in
    let then = gone.0 in (
      record {
        entry = around.entry;
        original = ap (λ (t : Table). slice_get t.slots number) gone.1.table ∙ around.original;
        files = then.files;
        indexes = then.indexes;
        below = then.below;
        chains = then.chains;
        well = then.well;
        alone = then.alone;
        sound = then.sound;
      },
      gone.1,
    )
