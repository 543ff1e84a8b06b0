-- How many entries an index has is said anew: a set shows the same.
use Rattle.std.proofs.Common.{◌≡◌, ◌∙◌, ℕ, Bool, true, false, cond, Option, Some, None, IsSomeAnd, List, Contains, refl, sym, ap, subst}
use Rattle.std.specs.Option.{option_and_then, option_map, option_map_or}
use Rattle.index_pages.specs.domain_base.declared.place.Home.{Home}
use Rattle.index_pages.specs.domain_base.declared.place.Kind.{Kind}
use Rattle.index_pages.specs.domain_base.declared.place.Kind.TheVariants.{Directory, File}
use Rattle.index_pages.specs.domain_base.declared.place.Tag.{Tag}
use Rattle.index_pages.specs.page_store.Bitfiles.{Bitfile, Bitfiles}
use Rattle.index_pages.specs.page_store.Pages.{Pages}
use Rattle.index_pages.specs.metadata_cells.Chain.{PlacedCell}
use Rattle.index_pages.specs.tag_dirs.declared.dir.TagPlace.{TagPlace}
use Rattle.index_pages.specs.extent_maps.declared.run.PagePlace.TheVariants.{Absent, At}
use Rattle.index_pages.specs.free_cells.Cells.{Cells}
use Rattle.index_pages.specs.free_space.Spaces.{Spaces}
use Rattle.index_pages.specs.file_chains.Files.{places_of}
use Rattle.index_pages.specs.fileset_files.declared.indexing.IndexPlace.{IndexPlace}
use Rattle.index_pages.specs.fileset_files.Changes.{ChangesFirst, with_chain, with_first}
use Rattle.index_pages.specs.fileset_files.Files.{Chains, is_removed, place_at}
use Rattle.index_pages.specs.fileset_files.Index.{says_index}
use Rattle.index_pages.specs.fileset_files.Shown.{AreIndexPages, IsWhat, ShowsAt, ShowsFile, index_of, page_there, shown_page}
use Rattle.index_pages.specs.fileset_files.Together.{AreTogether}
use Rattle.index_pages.proofs.OfFilesetFiles.OneChain.{chain_other, chain_same, same_tag_itself}
use Rattle.index_pages.specs.Homes.{AreIndexHomes}
use Rattle.index_pages.proofs.Homes.{kept_same}
use Rattle.stored_set.proofs.Beside.{stands_beside}
use Rattle.stored_set.proofs.FirstTells.{TellsIndex, off_tables_still, place_told, tells_at}
use Rattle.stored_set.proofs.Kept.{index_kept, page_kept}
use Rattle.stored_set.specs.Standing.{Indexes, StandsShown}

module _ (fileset : ℕ) (places : List TagPlace) (space : Spaces) (cells : Cells) (old new : Pages) (chains : Chains) (indexes : Indexes) (files : Bitfiles) (was : StandsShown fileset places space cells old chains indexes files)
    (tag : Tag) (index : IndexPlace) (begins : option_and_then index_of (chains tag) ≡ Some index.first) (changes : ChangesFirst (chains tag) old new) where
  abbrev change : List PlacedCell → List PlacedCell
  change = with_first (says_index (Some index))

  abbrev now : Chains
  now = with_chain tag change chains

  tells_of : (cs : List PlacedCell) → chains tag ≡ Some cs → TellsIndex index cs (change cs)
  tells_of = tells_at fileset places old chains was.together.files tag index

  page_stays : (t : Tag) (k : ℕ) (h : Home) → place_at chains t k ≡ At h → new h ≡ old h
  page_stays t k h at = off_tables_still cells (chains tag) old new (was.together.on_tables tag) changes h (was.together.file_pages t k h at).apart.off_table

  index_stays : (t : Tag) (h : Home) → Contains (indexes t) h → new h ≡ old h
  index_stays t h inside = off_tables_still cells (chains tag) old new (was.together.on_tables tag) changes h (was.stand t h inside).apart.off_table

  begins_again : (cs : List PlacedCell) → chains tag ≡ Some cs → index_of (change cs) ≡ index_of cs
  begins_again cs is = (tells_of cs is).begins ∙ sym begins ∙ ap (option_and_then index_of) is

  shows_again : (cs : List PlacedCell) → chains tag ≡ Some cs → (file : Bitfile) → AreIndexHomes old (index_of cs) (indexes tag) → ShowsFile old cs file → ShowsFile new (change cs) file
  shows_again cs is file before shows = record {
    what = subst (λ o. IsSomeAnd o (IsWhat file)) (sym (tells_of cs is).attributes) shows.what;
    each = λ k. shows.each k ∙ sym (page_kept old new cs file.kind k (λ h at. page_stays tag k h (ap (λ o. option_map_or (λ cs. places_of cs k) o Absent) is ∙ at))) ∙ page_by file.kind k;
    index = subst (λ o. AreIndexPages new o file.index) (sym (begins_again cs is)) (index_kept old new (index_of cs) (indexes tag) file.index before (index_stays tag) shows.index);
  }
    where
      page_by : (kind : Kind) (k : ℕ) → shown_page new cs kind k ≡ shown_page new (change cs) kind k
      page_by Directory k = ap (page_there new) (sym ((tells_of cs is).places k))
      page_by File k = refl

  shows_tag : (file : Option Bitfile) → ShowsAt old (chains tag) file → ShowsAt new (option_map change (chains tag)) file
  shows_tag file shows = by_chain (chains tag) refl file shows (was.indexed tag)
    where
      by_removed : (cs : List PlacedCell) → chains tag ≡ Some cs → (file : Bitfile) → AreIndexHomes old (index_of cs) (indexes tag) → (b : Bool) → IsSomeAnd (cond b None (Some cs)) (λ live. ShowsFile old live file)
          → IsSomeAnd (cond b None (Some (change cs))) (λ live. ShowsFile new live file)
      by_removed cs is file before true shows = shows
      by_removed cs is file before false shows = shows_again cs is file before shows

      by_chain : (o : Option (List PlacedCell)) → chains tag ≡ o → (file : Option Bitfile) → ShowsAt old o file → AreIndexHomes old (option_and_then index_of o) (indexes tag) → ShowsAt new (option_map change o) file
      by_chain None is None shows before = shows
      by_chain None is (Some file) shows before = shows
      by_chain (Some cs) is None shows before = (λ i. cond ((tells_of cs is).removed i) None ((tells_of cs is).attributes i)) ∙ shows
      by_chain (Some cs) is (Some file) shows before = subst (λ (b : Bool). IsSomeAnd (cond b None (Some (change cs))) (λ live. ShowsFile new live file)) (sym (tells_of cs is).removed) (by_removed cs is file before (is_removed cs) shows)

  now_tag : now tag ≡ option_map change (chains tag)
  now_tag = chain_same tag change chains tag (same_tag_itself tag)

  index_tag : (o : Option (List PlacedCell)) → chains tag ≡ o → option_and_then index_of (option_map change o) ≡ option_and_then index_of o
  index_tag None is = refl
  index_tag (Some cs) is = begins_again cs is

  pub said : AreTogether fileset places space cells new now → StandsShown fileset places space cells new now indexes files
  said together =
      stands_beside fileset places places space space cells cells old new chains now indexes indexes files files was tag (chain_other tag change chains) (λ t other. refl) (λ t other. refl) (λ t k h other at. page_stays t k h at) (λ t h other inside. index_stays t h inside) together
      (subst (λ o. ShowsAt new o (files tag)) (sym now_tag) (shows_tag (files tag) (was.shows tag)))
      (subst (λ o. AreIndexHomes new o (indexes tag)) (sym (ap (option_and_then index_of) now_tag ∙ index_tag (chains tag) refl)) (kept_same old new (option_and_then index_of (chains tag)) (indexes tag) (was.indexed tag) (index_stays tag)))
      was.stand (λ s t k h inside at. was.apart s t k h inside (sym (place_told fileset places old chains was.together.files tag index t k) ∙ at)) was.once
