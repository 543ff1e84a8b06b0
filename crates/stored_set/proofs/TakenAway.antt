-- What a set is where a file or directory is taken away, and what its cells and pages say then.
use Rattle.std.proofs.Common.{◌≡◌, ◌∙◌, ◌^◌, ◌<◌, ℕ, Bool, true, false, cond, Option, Some, None, IfSome, IsSome, IsSomeAnd, List, [], ◌∷◌, Contains, length, refl, sym, ap, subst, arith}
use Rattle.std.proofs.lemmas.Bool.{true≢false}
use Rattle.std.specs.List.{AllByRecursion}
use Rattle.std.specs.Option.{option_and_then, option_map, option_map_or}
use Rattle.index_pages.specs.domain_base.declared.place.CellAt.{CellAt}
use Rattle.index_pages.specs.domain_base.declared.place.Home.{Home}
use Rattle.index_pages.specs.domain_base.declared.place.Kind.{Kind}
use Rattle.index_pages.specs.domain_base.declared.place.Kind.TheVariants.{Directory, File}
use Rattle.index_pages.specs.domain_base.declared.place.Tag.{Tag}
use Rattle.index_pages.specs.page_store.Bitfiles.{Bitfile, Bitfiles as SetOf, IsDirectory, same_tag, without_file}
use Rattle.index_pages.specs.page_store.Pages.{Pages}
use Rattle.index_pages.specs.cell_records.declared.record.Record.{Record}
use Rattle.index_pages.specs.metadata_cells.CellPage.{cell_at}
use Rattle.index_pages.specs.metadata_cells.Chain.{PlacedCell, StandsAt}
use Rattle.index_pages.specs.tag_dirs.Directory.{has_home, sequence_of}
use Rattle.index_pages.specs.tag_dirs.declared.dir.TagPlace.{TagPlace}
use Rattle.index_pages.specs.tag_dirs.declared.page.TagEntry.{TagEntry}
use Rattle.index_pages.specs.free_cells.Cells.{Cells, table_of}
use Rattle.index_pages.specs.free_space.Spaces.{Spaces}
use Rattle.index_pages.specs.file_chains.FileChanges.{AreOnTables}
use Rattle.index_pages.specs.file_chains.Files.{IsFile}
use Rattle.index_pages.proofs.OfFileChains.ChainChanges.{stand_file}
use Rattle.index_pages.specs.fileset_files.declared.indexing.IndexPlace.{IndexPlace}
use Rattle.index_pages.specs.fileset_files.Changes.{ChangesBeside, ChangesFirst, IsLive, KeepsSequences, Removes, says_removed, with_chain, with_first, without_chain}
use Rattle.index_pages.specs.fileset_files.Files.{AreFiles, Chains, attributes_in, attributes_of, is_removed, of_live, says_remove}
use Rattle.index_pages.specs.fileset_files.Index.{index_place_of, says_index}
use Rattle.index_pages.specs.fileset_files.Shown.{AreIndexPages, ShowsAt, ShowsFile, index_of}
use Rattle.index_pages.specs.fileset_files.State.{States, states_of}
use Rattle.index_pages.specs.fileset_files.Together.{AreTogether}
use Rattle.index_pages.proofs.OfFilesetFiles.Created.{one_chains}
use Rattle.index_pages.proofs.OfFilesetFiles.FirstCell.{find_other}
use Rattle.index_pages.proofs.OfFilesetFiles.OneChain.{chain_same, file_by, same_tag_itself}
use Rattle.index_pages.proofs.OfFilesetFiles.Tags.{entry_same, pages_same, sequence_stays}
use Rattle.index_pages.proofs.OfFilesetFiles.Parts.{file_at}
use Rattle.index_pages.specs.Changes.{AreHeld, DropsIndex}
use Rattle.index_pages.specs.Homes.{AreIndexHomes}
use Rattle.index_pages.proofs.Homes.{kept_same}
use Rattle.stored_set.proofs.Bare.{bare_taken}
use Rattle.stored_set.proofs.GivenBack.{taken_with_index}
use Rattle.stored_set.proofs.TakenOut.{same}
use Rattle.stored_set.proofs.Together.{stands_still}
use Rattle.stored_set.proofs.Wholeness.{whole_removed}
use Rattle.stored_set.specs.Standing.{StandsShown, with_index}
use Rattle.stored_set.specs.Whole.{AreWholeDirectories}
use Rattle.stored_set.proofs.Indexed.{begins, begins_so, counted, first_of, homes_at}
use Rattle.stored_set.proofs.Live.{live_any}
use Rattle.stored_set.proofs.Sized.{index_count_here, index_fits_here, the_file}
use Rattle.stored_set.proofs.States.{taken_states}
use Rattle.stored_set.specs.Sets.{GivesIndexBack, StandsAsSet, without_index, without_index_from}

-- ---- a first cell that names no index

abbrev pub bare_first : List PlacedCell → List PlacedCell
bare_first = with_first (says_index None)

same_live : (pages : Pages) (cs : List PlacedCell) (at : CellAt) → IsFile pages at cs → of_live attributes_of (bare_first cs) ≡ of_live attributes_of cs
same_live pages [] at is = absurd is
same_live pages (first ∷ rest) at is =
    let none : Option Record = None in
    let removed = ap (λ o. option_map_or says_remove o false) (find_other 9 6 none first.cell.records (λ e. omega (arith, e)) tt) in
    let attributes = ap (option_and_then attributes_in) (find_other 9 1 none first.cell.records (λ e. omega (arith, e)) tt) in
    λ i. cond (removed i) None (attributes i)

pub still_live : (fileset : ℕ) (places : List TagPlace) (old mid : Pages) (chains : Chains) (tag : Tag) → AreFiles fileset places old chains → IsLive tag chains → AreFiles fileset places mid (with_chain tag bare_first chains)
    → (any : Chains) → AreFiles fileset places mid any → IsLive tag any
still_live fileset places old mid chains tag are live are_now any are_any =
    subst (λ o. IsSome (option_and_then (of_live attributes_of) o)) (sym (one_chains mid fileset places any (with_chain tag bare_first chains) are_any are_now tag ∙ chain_same tag bare_first chains tag (same_tag_itself tag))) (by_chain (chains tag) refl live)
  where
    by_chain : (o : Option (List PlacedCell)) → chains tag ≡ o → IsSome (option_and_then (of_live attributes_of) o) → IsSome (option_and_then (of_live attributes_of) (option_map bare_first o))
    by_chain None is live = live
    by_chain (Some cs) is live = let f = file_at fileset places old chains are tag cs is in subst (λ o. IsSome o) (sym (same_live old cs f.at f.is_file)) live

-- and then its tag goes
pub both_beside : (places : List TagPlace) (chain : Option (List PlacedCell)) (old mid new : Pages) → ChangesFirst chain old mid → ChangesBeside places (option_map bare_first chain) mid new → ChangesBeside places chain old new
both_beside places None old mid new first beside = record { cells = tt; pages = tt }
both_beside places (Some []) old mid new first beside = record {
  cells = λ at other. beside.cells at other ∙ ap (λ (ps : Pages). cell_at ps at) first;
  pages = λ home off_tag off_first. beside.pages home off_tag off_first ∙ ap (λ (ps : Pages). ps home) first;
}
both_beside places (Some (c ∷ cs)) old mid new first beside = record {
  cells = λ at other. beside.cells at other ∙ first.0 at other;
  pages = λ home off_tag off_first. beside.pages home off_tag off_first ∙ first.1 home off_first;
}

pub first_sequences : (fileset : ℕ) (places : List TagPlace) (old mid : Pages) (chains : Chains) (tag : Tag) → AreFiles fileset places old chains → ChangesFirst (chains tag) old mid → KeepsSequences places old mid
first_sequences fileset places old mid chains tag are first = by_chain (chains tag) refl first
  where
    by_same : mid ≡ old → KeepsSequences places old mid
    by_same still slot = ap (λ (ps : Pages). sequence_of ps places slot) still

    by_cells : (cs : List PlacedCell) (at : CellAt) → IsFile old at cs → ChangesFirst (Some cs) old mid → KeepsSequences places old mid
    by_cells [] at is first = absurd is
    by_cells (c ∷ cs) at is first = sequence_stays old mid places c.at are.directory is.1.links.stands.bytes is.1.links.stands.there first.1

    by_chain : (o : Option (List PlacedCell)) → chains tag ≡ o → ChangesFirst o old mid → KeepsSequences places old mid
    by_chain None is first = by_same first
    by_chain (Some cs) is first = let f = file_at fileset places old chains are tag cs is in by_cells cs f.at f.is_file first

pub same_chains : (fileset : ℕ) (places : List TagPlace) (pages : Pages) (one other : Chains) → AreFiles fileset places pages one → AreFiles fileset places pages other → one ≡ other
same_chains fileset places pages one other are_one are_other = λ i t. one_chains pages fileset places one other are_one are_other t i

pub gone_same : (tag : Tag) (change : List PlacedCell → List PlacedCell) (chains : Chains) → without_chain tag (with_chain tag change chains) ≡ without_chain tag chains
gone_same tag change chains = λ i t. by_tag t (same_tag t tag) i
  where
    by_tag : (t : Tag) (b : Bool) → cond b None (cond b (option_map change (chains t)) (chains t)) ≡ cond b None (chains t)
    by_tag t true = refl
    by_tag t false = refl

-- ---- what has an index is a directory, and what has none names none

module _ (fileset : ℕ) (places : List TagPlace) (space : Spaces) (cells : Cells) (old : Pages) (set : SetOf) (was : StandsAsSet fileset places space cells old set) (tag : Tag) (some : IsSome (set tag)) where
  pub indexed_directory : (index : IndexPlace) → Some index ≡ option_and_then (of_live index_place_of) (was.chains tag) → IsDirectory set tag
  indexed_directory index told = by_file (set tag) (was.chains tag) some (was.stands.shows tag) (was.bare tag) told
    where
      by_index : (xs : List (List ℕ)) → AreIndexPages old (Some index.first) xs → length xs ≡ 0 → ⊥
      by_index [] are none = are
      by_index (x ∷ xs) are none = omega (arith, none)

      by_kind : (file : Bitfile) (k : Kind) → file.kind ≡ k → AreIndexPages old (Some index.first) file.index → (file.kind ≡ File → length file.index ≡ 0) → file.kind ≡ Directory
      by_kind file Directory is are bare = is
      by_kind file File is are bare = absurd (by_index file.index are (bare is))

      by_removed : (file : Bitfile) (cs : List PlacedCell) (b : Bool) → IsSomeAnd (cond b None (Some cs)) (λ live. ShowsFile old live file) → (file.kind ≡ File → length file.index ≡ 0) → Some index ≡ cond b None (index_place_of cs) → file.kind ≡ Directory
      by_removed file cs true shows bare told = absurd shows
      by_removed file cs false shows bare told = by_kind file file.kind refl (subst (λ o. AreIndexPages old o file.index) (begins_so cs ∙ ap first_of (sym told)) shows.index) bare

      by_file : (file : Option Bitfile) (chain : Option (List PlacedCell)) → IsSome file → ShowsAt old chain file → IfSome file (λ file. file.kind ≡ File → length file.index ≡ 0) → Some index ≡ option_and_then (of_live index_place_of) chain
          → IsSomeAnd file (λ file. file.kind ≡ Directory)
      by_file None chain some shows bare told = absurd (true≢false (sym some))
      by_file (Some file) None some shows bare told = absurd shows
      by_file (Some file) (Some cs) some shows bare told = by_removed file cs (is_removed cs) shows bare told

  pub no_begin : None ≡ option_and_then (of_live index_place_of) (was.chains tag) → option_and_then index_of (was.chains tag) ≡ None
  no_begin told = by_file (set tag) (was.chains tag) some (was.stands.shows tag) told
    where
      by_removed : (file : Bitfile) (cs : List PlacedCell) (b : Bool) → IsSomeAnd (cond b None (Some cs)) (λ live. ShowsFile old live file) → None ≡ cond b None (index_place_of cs) → index_of cs ≡ None
      by_removed file cs true shows told = absurd shows
      by_removed file cs false shows told = begins_so cs ∙ ap first_of (sym told)

      by_file : (file : Option Bitfile) (chain : Option (List PlacedCell)) → IsSome file → ShowsAt old chain file → None ≡ option_and_then (of_live index_place_of) chain → option_and_then index_of chain ≡ None
      by_file None chain some shows told = absurd (true≢false (sym some))
      by_file (Some file) None some shows told = absurd shows
      by_file (Some file) (Some cs) some shows told = by_removed file cs (is_removed cs) shows told

-- what there is without one
pub gives_none : (group : ℕ) (places : List TagPlace) (chain : Option (List PlacedCell)) (homes : List Home) (space : Spaces) (old new : Pages) → option_and_then index_of chain ≡ None → AreIndexHomes old (option_and_then index_of chain) homes → ChangesBeside places chain old new
    → GivesIndexBack group places chain homes space space old new
gives_none group places chain homes space old new none are beside = by_homes homes (subst (λ o. AreIndexHomes old o homes) none are)
  where
    by_homes : (hs : List Home) → AreIndexHomes old None hs → GivesIndexBack group places chain hs space space old new
    by_homes [] are = record { said = new; beside = beside; drops = record { waits = refl; gone = λ h inside. absurd (omega (arith, inside.1)); others = λ h off. refl } }
    by_homes (h ∷ hs) are = absurd are

-- ---- a directory that has an index

module _ (fileset : ℕ) (places : List TagPlace) (space : Spaces) (cells : Cells) (old mid : Pages) (set : SetOf) (was : StandsAsSet fileset places space cells old set) (tag : Tag) (index : IndexPlace) (told : Some index ≡ option_and_then (of_live index_place_of) (was.chains tag)) (some : IsSome (set tag))
    (beside : ChangesBeside places (was.chains tag) old mid) where
  live : IsLive tag was.chains
  live = live_any fileset places space cells old set was tag some was.chains was.stands.together.files

  directory : IsDirectory set tag
  directory = indexed_directory fileset places space cells old set was tag some index told

  pub begin_is : option_and_then index_of (was.chains tag) ≡ Some index.first
  begin_is = begins fileset places space cells old set was tag directory ∙ ap first_of (sym told)

  pub homes_still : AreIndexHomes mid (Some index.first) (was.indexes tag)
  homes_still =
      kept_same old mid (Some index.first) (was.indexes tag) (homes_at fileset places space cells old set was tag directory (Some index) told)
      (λ h inside. same fileset places space cells old mid was.chains was.indexes set was.stands tag live beside h (was.stands.stand tag h inside))

  pub few : length (was.indexes tag) < 2 ^ 32
  few = let at = the_file set tag directory in
      omega (arith, counted fileset places space cells old set was tag directory, index_count_here fileset places space cells old set was tag at, index_fits_here fileset places space cells old set was tag at)

  pub all_held : AreHeld space (was.indexes tag)
  all_held h inside = (was.stands.stand tag h inside).apart.held

  module _ (space_now : Spaces) (new : Pages) (group : ℕ) (together : AreTogether fileset places space cells mid (without_chain tag was.chains)) (drops : DropsIndex group space space_now mid new (was.indexes tag)) where
    stands_now : StandsShown fileset places space_now cells new (without_chain tag was.chains) (with_index tag [] was.indexes) (without_file tag set)
    stands_now = taken_with_index fileset group places space space_now cells old mid new was.chains was.indexes set was.stands was.low tag live beside together drops

    pub set_taken : StandsAsSet fileset places space_now cells new (without_file tag set)
    set_taken = record {
      chains = without_chain tag was.chains;
      indexes = with_index tag [] was.indexes;
      stands = stands_now;
      whole = subst (λ (s : States). AreWholeDirectories s (without_file tag set)) (sym (taken_states tag was.chains)) (whole_removed (states_of was.chains) set was.whole tag);
      bare = bare_taken set was.bare tag;
      low = was.low;
    }

    on_tables_same : (h : Home) → Contains (table_of cells h.vol) h.page → new h ≡ mid h
    on_tables_same h on = drops.others h (λ inside. (was.stands.stand tag h inside).apart.off_table on)

    tags_same : (h : Home) → has_home places h ≡ true → new h ≡ mid h
    tags_same h has = drops.others h (λ inside. true≢false (sym has ∙ (was.stands.stand tag h inside).no_tags))

    pub sequences_still : KeepsSequences places mid new
    sequences_still slot = ap (option_map (λ (e : TagEntry). e.seq)) (entry_same mid new places together.files.directory (pages_same mid new places tags_same) slot)

    all_stand : (cs : List PlacedCell) → AreOnTables cells cs → AllByRecursion (λ (c : PlacedCell). StandsAt mid c.at c.cell) cs → AllByRecursion (λ (c : PlacedCell). StandsAt new c.at c.cell) cs
    all_stand [] on stand = tt
    all_stand (c ∷ cs) on stand = (stands_still mid new cells on_tables_same c.at c.cell stand.0 on.0, all_stand cs on.1 stand.1)

    pub removes_still : (at : CellAt) → Removes fileset places tag at (with_chain tag bare_first was.chains) mid → Removes fileset places tag at (without_index tag was.chains) new
    removes_still at removes = subst (λ (o : Option Home). Removes fileset places tag at (without_index_from o tag was.chains) new) (sym begin_is) (record {
      files = subst (AreFiles fileset places new) (sym (gone_same tag bare_first was.chains)) stands_now.together.files;
      pending = subst (λ o. IsSomeAnd o (λ cs. IsFile new at (with_first says_removed cs))) (sym here)
          (by_chain (was.chains tag) (was.stands.together.on_tables tag) (subst (λ o. IsSomeAnd o (λ cs. IsFile mid at (with_first says_removed cs))) here removes.pending));
    })
      where
        here : with_chain tag bare_first was.chains tag ≡ option_map bare_first (was.chains tag)
        here = chain_same tag bare_first was.chains tag (same_tag_itself tag)

        by_chain : (o : Option (List PlacedCell)) → IfSome o (AreOnTables cells) → IsSomeAnd (option_map bare_first o) (λ cs. IsFile mid at (with_first says_removed cs)) → IsSomeAnd (option_map bare_first o) (λ cs. IsFile new at (with_first says_removed cs))
        by_chain None on is = is
        by_chain (Some []) on is = absurd is
        by_chain (Some (c ∷ cs)) on is =
            file_by mid new at (with_first says_removed (bare_first (c ∷ cs))) (all_stand (with_first says_removed (bare_first (c ∷ cs))) on (stand_file mid at (with_first says_removed (bare_first (c ∷ cs))) is)) is
