-- A file whose attributes are set.
use Rattle.std.proofs.Common.{◌≡◌, ◌∙◌, ◌≤◌, ℕ, Bool, true, false, cond, nat_eq, Option, Some, None, IfSome, IsSomeAnd, List, [], ◌∷◌, Contains, refl, sym, ap, subst, arith}
use Rattle.std.specs.Option.{option_and_then, option_map, option_map_or}
use Rattle.std.proofs.lemmas.Option.{none-some}
use Rattle.index_pages.specs.domain_base.declared.place.CellAt.{CellAt}
use Rattle.index_pages.specs.domain_base.declared.place.Home.{Home}
use Rattle.index_pages.specs.domain_base.declared.place.Kind.{Kind}
use Rattle.index_pages.specs.domain_base.declared.place.Kind.TheVariants.{Directory, File}
use Rattle.index_pages.specs.domain_base.declared.place.Tag.{Tag}
use Rattle.index_pages.specs.page_store.Bitfiles.{Bitfile, Bitfiles, same_tag, with_change, with_file}
use Rattle.index_pages.specs.page_store.Pages.{Pages}
use Rattle.index_pages.specs.cell_records.declared.record.Record.{Record}
use Rattle.index_pages.specs.cell_records.declared.record.Record.TheVariants as written
use Rattle.index_pages.specs.cell_records.Records.{kind_of}
use Rattle.index_pages.specs.metadata_cells.Cell.{record_of}
use Rattle.index_pages.specs.metadata_cells.Chain.{PlacedCell}
use Rattle.index_pages.specs.tag_dirs.Directory.{cell_of}
use Rattle.index_pages.specs.tag_dirs.declared.dir.TagPlace.{TagPlace}
use Rattle.index_pages.specs.extent_maps.Runs.{place_of}
use Rattle.index_pages.specs.extent_maps.declared.run.PagePlace.TheVariants.{Absent, At}
use Rattle.index_pages.specs.free_cells.Cells.{Cells, table_of}
use Rattle.index_pages.specs.free_space.Spaces.{Spaces}
use Rattle.index_pages.specs.file_chains.Files.{AreFile, IsFile, places_of}
use Rattle.index_pages.proofs.OfFileChains.MapRecords.{kind_found}
use Rattle.index_pages.specs.fileset_files.declared.attributes.Attributes.{Attributes}
use Rattle.index_pages.specs.fileset_files.Changes.{CanSay, ChangesFirst, kind_number, says_attributes, with_attributes, with_chain, with_first}
use Rattle.index_pages.specs.fileset_files.Files.{Chains, LeadsToFile, attributes_in, attributes_of, first_record, is_removed, of_live, place_at, says_remove}
use Rattle.index_pages.specs.fileset_files.Shown.{AreIndexPages, IsWhat, ShowsAt, ShowsFile, Shows, index_in, index_of, page_there, shown_page}
use Rattle.index_pages.specs.fileset_files.Together.{AreTogether}
use Rattle.index_pages.proofs.OfFilesetFiles.FirstCell.{find_other, find_put}
use Rattle.index_pages.proofs.OfFilesetFiles.FirstTogether.{attributes_keep, runs_kept}
use Rattle.index_pages.proofs.OfFilesetFiles.OneChain.{chain_other, chain_same}
use Rattle.index_pages.proofs.OfFilesetFiles.OneFile.{tags_same}
use Rattle.index_pages.proofs.OfFilesetFiles.Room.{attributes_kind}
use Rattle.index_pages.specs.Homes.{AreIndexHomes}
use Rattle.index_pages.proofs.Homes.{kept_same}
use Rattle.stored_set.proofs.FirstTells.{off_tables_still}
use Rattle.stored_set.proofs.Kept.{index_kept, live_map, page_kept}
use Rattle.stored_set.specs.Standing.{Indexes, StandsShown, owned}

not_one : (k : ℕ) → 2 ≤ k → ¬ k ≡ 1
not_one k more is = omega (arith, more, is)

-- what the first cell says then
module _ (value : Attributes) (first : PlacedCell) (rest : List PlacedCell) where
  abbrev after : List PlacedCell
  after = with_first (says_attributes value) (first ∷ rest)

  abbrev put : Option Record
  put = option_map (with_attributes value) (record_of 1 first.cell.records)

  of_kind : IfSome put (λ r. kind_of r ≡ 1)
  of_kind = by_record (record_of 1 first.cell.records) refl
    where
      by_record : (o : Option Record) → record_of 1 first.cell.records ≡ o → IfSome (option_map (with_attributes value) o) (λ r. kind_of r ≡ 1)
      by_record None is = tt
      by_record (Some r) is = attributes_kind value r ∙ kind_found 1 first.cell.records r is

  other_record : (k : ℕ) → ¬ k ≡ 1 → first_record k after ≡ first_record k (first ∷ rest)
  other_record k other = find_other 1 k put first.cell.records other of_kind

  says_attributes_now : attributes_of after ≡ option_and_then attributes_in put
  says_attributes_now = ap (option_and_then attributes_in) (find_put 1 put first.cell.records of_kind)

  removed_same : is_removed after ≡ is_removed (first ∷ rest)
  removed_same = ap (λ o. option_map_or says_remove o false) (other_record 6 (not_one 6 (omega arith)))

  index_same : index_of after ≡ index_of (first ∷ rest)
  index_same = ap (option_and_then index_in) (other_record 9 (not_one 9 (omega arith)))

  -- a set shows the owner and links that are said
  what_now : (file : Bitfile) → IsSomeAnd (attributes_of (first ∷ rest)) (IsWhat file) → IsSomeAnd (attributes_of (first ∷ rest)) (λ was. was.kind ≡ value.kind) → IsSomeAnd (attributes_of after) (IsWhat (owned value file))
  what_now file was can = subst (λ o. IsSomeAnd o (IsWhat (owned value file))) (sym says_attributes_now) (by_record (record_of 1 first.cell.records) was can)
    where
      kind_again : (kind : Kind) → kind ≡ cond (nat_eq (kind_number kind) 2) Directory File
      kind_again File = refl
      kind_again Directory = refl

      by_value : (r : Record) → IsSomeAnd (attributes_in r) (IsWhat file) → IsSomeAnd (attributes_in r) (λ was. was.kind ≡ value.kind) → IsSomeAnd (attributes_in (with_attributes value r)) (IsWhat (owned value file))
      by_value (written.Attributes kind uid gid flags size keep links birth unsynced) was can = record { kind = was.kind ∙ can ∙ kind_again value.kind; uid = refl; gid = refl; links = refl }
      by_value r was can = absurd was

      by_record : (o : Option Record) → IsSomeAnd (option_and_then attributes_in o) (IsWhat file) → IsSomeAnd (option_and_then attributes_in o) (λ was. was.kind ≡ value.kind)
          → IsSomeAnd (option_and_then attributes_in (option_map (with_attributes value) o)) (IsWhat (owned value file))
      by_record None was can = was
      by_record (Some r) was can = by_value r was can

  -- and its pages where they stood
  place_same : (pages : Pages) → AreFile pages first rest → (p : ℕ) → places_of after p ≡ places_of (first ∷ rest) p
  place_same pages file p = ap (λ rs. place_of rs p) (runs_kept (says_attributes value) first rest (attributes_keep pages first rest file value))

-- ** The set

module _ (fileset : ℕ) (places : List TagPlace) (space : Spaces) (cells : Cells) (old new : Pages) (chains : Chains) (indexes : Indexes) (files : Bitfiles) (was : StandsShown fileset places space cells old chains indexes files)
    (tag : Tag) (value : Attributes) (can : CanSay value tag chains) (changes : ChangesFirst (chains tag) old new) where
  abbrev now : Chains
  now = with_chain tag (with_first (says_attributes value)) chains

  -- a page off the tables does not change
  same : (h : Home) → ¬ Contains (table_of cells h.vol) h.page → new h ≡ old h
  same h off = off_tables_still cells (chains tag) old new (was.together.on_tables tag) changes h off

  page_same : (t : Tag) (cs : List PlacedCell) → chains t ≡ Some cs → (k : ℕ) (h : Home) → places_of cs k ≡ At h → new h ≡ old h
  page_same t cs is k h at = same h (was.together.file_pages t k h (ap (λ o. option_map_or (λ cs. places_of cs k) o Absent) is ∙ at)).apart.off_table

  index_same_page : (t : Tag) (h : Home) → Contains (indexes t) h → new h ≡ old h
  index_same_page t h inside = same h (was.stand t h inside).apart.off_table

  -- another tag's file
  other_file : (t : Tag) → ShowsAt new (chains t) (files t)
  other_file t = by_chain (chains t) (files t) refl (was.shows t) (was.indexed t)
    where
      by_chain : (chain : Option (List PlacedCell)) (file : Option Bitfile) → chains t ≡ chain → ShowsAt old chain file → AreIndexHomes old (option_and_then index_of chain) (indexes t) → ShowsAt new chain file
      by_chain None None is shows indexed = shows
      by_chain None (Some file) is shows indexed = shows
      by_chain (Some cs) None is shows indexed = shows
      by_chain (Some cs) (Some file) is shows indexed = live_map (is_removed cs) (λ cs. ShowsFile old cs file) (λ cs. ShowsFile new cs file) cs
          (λ shown. record {
            what = shown.what;
            each = λ k. shown.each k ∙ sym (page_kept old new cs file.kind k (page_same t cs is k));
            index = index_kept old new (index_of cs) (indexes t) file.index indexed (index_same_page t) shown.index;
          }) shows

  -- the chain of the tag's file, if it has one
  record IsChain (cs : List PlacedCell) : Type 0 where
    first : PlacedCell
    rest : List PlacedCell
    is : cs ≡ first ∷ rest
    file : AreFile old first rest

  chain_of : (cs : List PlacedCell) → chains tag ≡ Some cs → IsChain cs
  chain_of cs is = by_cell (cell_of old places tag) cs (subst (λ o. IfSome o (LeadsToFile fileset places old tag)) is (was.together.files.some tag)).leads
    where
      by_cell : (o : Option CellAt) (cs : List PlacedCell) → IsSomeAnd o (λ at. IsFile old at cs) → IsChain cs
      by_cell None cs leads = absurd leads
      by_cell (Some at) [] leads = absurd leads
      by_cell (Some at) (first ∷ rest) leads = record { first = first; rest = rest; is = refl; file = leads.1 }

  abbrev change : List PlacedCell → List PlacedCell
  change = with_first (says_attributes value)

  change_place : (cs : List PlacedCell) → chains tag ≡ Some cs → (k : ℕ) → places_of (change cs) k ≡ places_of cs k
  change_place cs is k = let c = chain_of cs is in subst (λ cs. places_of (change cs) k ≡ places_of cs k) (sym c.is) (place_same value c.first c.rest old c.file k)

  change_index : (cs : List PlacedCell) → chains tag ≡ Some cs → index_of (change cs) ≡ index_of cs
  change_index cs is = let c = chain_of cs is in subst (λ cs. index_of (change cs) ≡ index_of cs) (sym c.is) (index_same value c.first c.rest)

  change_removed : (cs : List PlacedCell) → chains tag ≡ Some cs → is_removed (change cs) ≡ is_removed cs
  change_removed cs is = let c = chain_of cs is in subst (λ cs. is_removed (change cs) ≡ is_removed cs) (sym c.is) (removed_same value c.first c.rest)

  change_what : (cs : List PlacedCell) → chains tag ≡ Some cs → (file : Bitfile) → IsSomeAnd (attributes_of cs) (IsWhat file) → IsSomeAnd (attributes_of cs) (λ was. was.kind ≡ value.kind)
      → IsSomeAnd (attributes_of (change cs)) (IsWhat (owned value file))
  change_what cs is file = let c = chain_of cs is in
      subst (λ cs. IsSomeAnd (attributes_of cs) (IsWhat file) → IsSomeAnd (attributes_of cs) (λ was. was.kind ≡ value.kind) → IsSomeAnd (attributes_of (change cs)) (IsWhat (owned value file))) (sym c.is)
      (what_now value c.first c.rest file)

  -- where its pages stand, and each other file's
  place_now : (t : Tag) (k : ℕ) → place_at now t k ≡ place_at chains t k
  place_now t k = by_tag (same_tag t tag) refl
    where
      by_chain : (o : Option (List PlacedCell)) → chains tag ≡ o → option_map_or (λ cs. places_of cs k) (option_map change o) Absent ≡ option_map_or (λ cs. places_of cs k) o Absent
      by_chain None is = refl
      by_chain (Some cs) is = change_place cs is k

      by_tag : (b : Bool) → same_tag t tag ≡ b → place_at now t k ≡ place_at chains t k
      by_tag true same =
          ap (λ o. option_map_or (λ cs. places_of cs k) o Absent) (chain_same tag change chains t same) ∙ ap (λ (u : Tag). option_map_or (λ cs. places_of cs k) (option_map change (chains u)) Absent) (tags_same t tag same)
          ∙ by_chain (chains tag) refl ∙ ap (λ (u : Tag). place_at chains u k) (sym (tags_same t tag same))
      by_tag false other = ap (λ o. option_map_or (λ cs. places_of cs k) o Absent) (chain_other tag change chains t other)

  index_now : (t : Tag) → option_and_then index_of (now t) ≡ option_and_then index_of (chains t)
  index_now t = by_tag (same_tag t tag) refl
    where
      by_chain : (o : Option (List PlacedCell)) → chains tag ≡ o → option_and_then index_of (option_map change o) ≡ option_and_then index_of o
      by_chain None is = refl
      by_chain (Some cs) is = change_index cs is

      by_tag : (b : Bool) → same_tag t tag ≡ b → option_and_then index_of (now t) ≡ option_and_then index_of (chains t)
      by_tag true same =
          ap (option_and_then index_of) (chain_same tag change chains t same) ∙ ap (λ (u : Tag). option_and_then index_of (option_map change (chains u))) (tags_same t tag same)
          ∙ by_chain (chains tag) refl ∙ ap (λ (u : Tag). option_and_then index_of (chains u)) (sym (tags_same t tag same))
      by_tag false other = ap (option_and_then index_of) (chain_other tag change chains t other)

  -- the file with the attributes
  changed_file : (file : Bitfile) → files tag ≡ Some file → ShowsAt new (option_map change (chains tag)) (Some (owned value file))
  changed_file file at = by_chain (chains tag) refl (subst (ShowsAt old (chains tag)) at (was.shows tag)) can.kind (was.indexed tag)
    where
      shown : (cs : List PlacedCell) → chains tag ≡ Some cs → AreIndexHomes old (index_of cs) (indexes tag) → IsSomeAnd (attributes_of cs) (λ was. was.kind ≡ value.kind) → ShowsFile old cs file → ShowsFile new (change cs) (owned value file)
      shown cs is indexed kind shows = record {
        what = change_what cs is file shows.what kind;
        each = λ k. shows.each k ∙ sym (page_kept old new cs file.kind k (page_same tag cs is k)) ∙ page_by file.kind k;
        index = subst (λ o. AreIndexPages new o file.index) (sym (change_index cs is)) (index_kept old new (index_of cs) (indexes tag) file.index indexed (index_same_page tag) shows.index);
      }
        where
          page_by : (kind : Kind) (k : ℕ) → shown_page new cs kind k ≡ shown_page new (change cs) kind k
          page_by Directory k = ap (page_there new) (sym (change_place cs is k))
          page_by File k = refl

      by_removed : (cs : List PlacedCell) → chains tag ≡ Some cs → AreIndexHomes old (index_of cs) (indexes tag) → (b : Bool) → IsSomeAnd (cond b None (Some cs)) (λ cs. ShowsFile old cs file) → IsSomeAnd (cond b None (attributes_of cs)) (λ was. was.kind ≡ value.kind)
          → IsSomeAnd (cond b None (Some (change cs))) (λ cs. ShowsFile new cs (owned value file))
      by_removed cs is indexed true shows kind = shows
      by_removed cs is indexed false shows kind = shown cs is indexed kind shows

      by_chain : (o : Option (List PlacedCell)) → chains tag ≡ o → ShowsAt old o (Some file) → IsSomeAnd (option_and_then (of_live attributes_of) o) (λ was. was.kind ≡ value.kind) → AreIndexHomes old (option_and_then index_of o) (indexes tag)
          → ShowsAt new (option_map change o) (Some (owned value file))
      by_chain None is shows kind indexed = shows
      by_chain (Some cs) is shows kind indexed = subst (λ b. IsSomeAnd (cond b None (Some (change cs))) (λ cs. ShowsFile new cs (owned value file))) (sym (change_removed cs is)) (by_removed cs is indexed (is_removed cs) shows kind)

  -- a live tag's file is shown
  no_file : files tag ≡ None → ⊥
  no_file at = by_live (option_and_then (of_live attributes_of) (chains tag)) (subst (ShowsAt old (chains tag)) at (was.shows tag)) can.kind
    where
      by_live : (o : Option Attributes) → o ≡ None → IsSomeAnd o (λ was. was.kind ≡ value.kind) → ⊥
      by_live None at kind = kind
      by_live (Some a) at kind = none-some a (sym at)

  pub set : AreTogether fileset places space cells new now → StandsShown fileset places space cells new now indexes (with_change tag (owned value) files)
  set together = record {
    together = together;
    shows = by_file (files tag) refl;
    indexed = λ t. subst (λ o. AreIndexHomes new o (indexes t)) (sym (index_now t)) (kept_same old new (option_and_then index_of (chains t)) (indexes t) (was.indexed t) (index_same_page t));
    stand = was.stand;
    apart = λ s t k h inside at. was.apart s t k h inside (sym (place_now t k) ∙ at);
    once = was.once;
  }
    where
      by_file : (o : Option Bitfile) → files tag ≡ o → Shows new now (option_map_or (λ file. with_file tag (owned value file) files) o files)
      by_file None at = absurd (no_file at)
      by_file (Some file) at = λ t. by_tag t (same_tag t tag) refl
        where
          by_tag : (t : Tag) (b : Bool) → same_tag t tag ≡ b → ShowsAt new (now t) (cond b (Some (owned value file)) (files t))
          by_tag t true same = subst (λ o. ShowsAt new o (Some (owned value file))) (sym (chain_same tag change chains t same ∙ ap (λ (u : Tag). option_map change (chains u)) (tags_same t tag same))) (changed_file file at)
          by_tag t false other = subst (λ o. ShowsAt new o (files t)) (sym (chain_other tag change chains t other)) (other_file t)
