-- A set in which one tag names something else: what another tag names stays, if none of its pages
-- changes.
use Rattle.std.proofs.Common.{◌≡◌, ◌∙◌, ℕ, Bool, true, false, Option, Some, None, List, Contains, refl, sym, ap, subst}
use Rattle.std.specs.Option.{option_and_then, option_map_or}
use Rattle.index_pages.specs.domain_base.declared.place.Home.{Home}
use Rattle.index_pages.specs.domain_base.declared.place.Tag.{Tag}
use Rattle.index_pages.specs.page_store.Bitfiles.{Bitfile, Bitfiles, same_tag}
use Rattle.index_pages.specs.page_store.Pages.{Pages}
use Rattle.index_pages.specs.metadata_cells.Chain.{PlacedCell}
use Rattle.index_pages.specs.tag_dirs.declared.dir.TagPlace.{TagPlace}
use Rattle.index_pages.specs.extent_maps.declared.run.PagePlace.TheVariants.{Absent, At}
use Rattle.index_pages.specs.free_cells.Cells.{Cells}
use Rattle.index_pages.specs.free_space.Spaces.{Spaces}
use Rattle.index_pages.specs.file_chains.Files.{places_of}
use Rattle.index_pages.specs.fileset_files.Files.{Chains, is_removed, place_at}
use Rattle.index_pages.specs.fileset_files.Shown.{ShowsAt, ShowsFile, Shows, index_of}
use Rattle.index_pages.specs.fileset_files.Together.{AreTogether, IsFilePage}
use Rattle.index_pages.proofs.OfFilesetFiles.OneFile.{tags_same}
use Rattle.index_pages.specs.Homes.{AreIndexHomes}
use Rattle.index_pages.proofs.Homes.{kept_same}
use Rattle.stored_set.proofs.Kept.{index_kept, live_map, page_kept}
use Rattle.stored_set.specs.Standing.{Indexes, StandsShown}

-- what another tag names, if no page of it changes
pub shown_still : (old new : Pages) (chains : Chains) (indexes : Indexes) (t : Tag) (file : Option Bitfile) → AreIndexHomes old (option_and_then index_of (chains t)) (indexes t)
    → ((k : ℕ) (h : Home) → place_at chains t k ≡ At h → new h ≡ old h) → ((h : Home) → Contains (indexes t) h → new h ≡ old h) → ShowsAt old (chains t) file → ShowsAt new (chains t) file
shown_still old new chains indexes t file indexed pages_stay index_stays shows = by_chain (chains t) file refl shows indexed
  where
    by_chain : (chain : Option (List PlacedCell)) (file : Option Bitfile) → chains t ≡ chain → ShowsAt old chain file → AreIndexHomes old (option_and_then index_of chain) (indexes t) → ShowsAt new chain file
    by_chain None None is shows indexed = shows
    by_chain None (Some file) is shows indexed = shows
    by_chain (Some cs) None is shows indexed = shows
    by_chain (Some cs) (Some file) is shows indexed = live_map (is_removed cs) (λ cs. ShowsFile old cs file) (λ cs. ShowsFile new cs file) cs
        (λ shown. record {
          what = shown.what;
          each = λ k. shown.each k ∙ sym (page_kept old new cs file.kind k (λ h at. pages_stay k h (ap (λ o. option_map_or (λ cs. places_of cs k) o Absent) is ∙ at)));
          index = index_kept old new (index_of cs) (indexes t) file.index indexed index_stays shown.index;
        }) shows

module _ (fileset : ℕ) (places places_now : List TagPlace) (space space_now : Spaces) (cells cells_now : Cells) (old new : Pages) (chains now : Chains) (indexes indexes_now : Indexes) (files files_now : Bitfiles) (was : StandsShown fileset places space cells old chains indexes files)
    (tag : Tag) (other_chain : (t : Tag) → same_tag t tag ≡ false → now t ≡ chains t) (other_index : (t : Tag) → same_tag t tag ≡ false → indexes_now t ≡ indexes t) (other_file : (t : Tag) → same_tag t tag ≡ false → files_now t ≡ files t)
    (pages_stay : (t : Tag) (k : ℕ) (h : Home) → same_tag t tag ≡ false → place_at chains t k ≡ At h → new h ≡ old h) (index_stays : (t : Tag) (h : Home) → same_tag t tag ≡ false → Contains (indexes t) h → new h ≡ old h) where
  each_shown : ShowsAt new (now tag) (files_now tag) → Shows new now files_now
  each_shown here t = by_tag (same_tag t tag) refl
    where
      by_tag : (b : Bool) → same_tag t tag ≡ b → ShowsAt new (now t) (files_now t)
      by_tag true same = subst (λ (u : Tag). ShowsAt new (now u) (files_now u)) (sym (tags_same t tag same)) here
      by_tag false other =
          subst (λ o. ShowsAt new o (files_now t)) (sym (other_chain t other))
          (subst (ShowsAt new (chains t)) (sym (other_file t other)) (shown_still old new chains indexes t (files t) (was.indexed t) (λ k h. pages_stay t k h other) (λ h. index_stays t h other) (was.shows t)))

  each_indexed : AreIndexHomes new (option_and_then index_of (now tag)) (indexes_now tag) → (t : Tag) → AreIndexHomes new (option_and_then index_of (now t)) (indexes_now t)
  each_indexed here t = by_tag (same_tag t tag) refl
    where
      by_tag : (b : Bool) → same_tag t tag ≡ b → AreIndexHomes new (option_and_then index_of (now t)) (indexes_now t)
      by_tag true same = subst (λ (u : Tag). AreIndexHomes new (option_and_then index_of (now u)) (indexes_now u)) (sym (tags_same t tag same)) here
      by_tag false other =
          subst (λ o. AreIndexHomes new (option_and_then index_of o) (indexes_now t)) (sym (other_chain t other))
          (subst (AreIndexHomes new (option_and_then index_of (chains t))) (sym (other_index t other)) (kept_same old new (option_and_then index_of (chains t)) (indexes t) (was.indexed t) (λ h. index_stays t h other)))

  pub stands_beside : AreTogether fileset places_now space_now cells_now new now → ShowsAt new (now tag) (files_now tag) → AreIndexHomes new (option_and_then index_of (now tag)) (indexes_now tag)
      → ((t : Tag) (h : Home) → Contains (indexes_now t) h → IsFilePage space_now cells_now places_now h) → ((s t : Tag) (k : ℕ) (h : Home) → Contains (indexes_now s) h → ¬ place_at now t k ≡ At h)
      → ((s t : Tag) (h : Home) → Contains (indexes_now s) h → Contains (indexes_now t) h → s ≡ t) → StandsShown fileset places_now space_now cells_now new now indexes_now files_now
  stands_beside together shows indexed stand apart once = record {
    together = together;
    shows = each_shown shows;
    indexed = each_indexed indexed;
    stand = stand;
    apart = apart;
    once = once;
  }
