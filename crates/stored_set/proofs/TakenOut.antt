-- A tag that is taken out of use.
use Rattle.std.proofs.Common.{◌≡◌, ℕ, Bool, true, false, cond, Option, Some, None, IfSome, IsSome, List, [], ◌∷◌, Contains, refl, sym, ap, subst, arith}
use Rattle.std.proofs.lemmas.Bool.{true≢false}
use Rattle.std.specs.Option.{option_and_then, option_map_or}
use Rattle.index_pages.specs.domain_base.declared.place.Home.{Home}
use Rattle.index_pages.specs.domain_base.declared.place.Tag.{Tag}
use Rattle.index_pages.specs.page_store.Bitfiles.{Bitfiles, same_tag, without_file}
use Rattle.index_pages.specs.page_store.Pages.{Pages, same_home}
use Rattle.index_pages.specs.metadata_cells.Chain.{PlacedCell}
use Rattle.index_pages.specs.metadata_cells.CellPage.{home_of}
use Rattle.index_pages.proofs.OfMetadataCells.Changed.{homes_same}
use Rattle.index_pages.specs.tag_dirs.declared.dir.TagPlace.{TagPlace}
use Rattle.index_pages.proofs.OfTagDirs.Slots.{off_slot}
use Rattle.index_pages.specs.extent_maps.declared.run.PagePlace.TheVariants.{Absent, At}
use Rattle.index_pages.specs.free_cells.Cells.{Cells, table_of}
use Rattle.index_pages.specs.free_space.Spaces.{Spaces}
use Rattle.index_pages.specs.file_chains.FileChanges.{AreOnTables}
use Rattle.index_pages.specs.file_chains.Files.{places_of}
use Rattle.index_pages.specs.fileset_files.Changes.{ChangesBeside, IsLive, is_page_of_first, is_page_of_tag, without_chain}
use Rattle.index_pages.specs.fileset_files.Files.{Chains, attributes_of, of_live, place_at}
use Rattle.index_pages.specs.fileset_files.Shown.{ShowsAt, index_of}
use Rattle.index_pages.specs.fileset_files.Together.{AreTogether, IsFilePage}
use Rattle.index_pages.proofs.OfFilesetFiles.OneChain.{same_tag_itself}
use Rattle.index_pages.specs.Homes.{AreIndexHomes}
use Rattle.stored_set.proofs.Beside.{stands_beside}
use Rattle.stored_set.specs.Standing.{Indexes, StandsShown, with_index}

pub none_in : (h : Home) → ¬ Contains [] h
none_in h inside = omega (arith, inside.1)

not_absent : (h : Home) → Absent ≡ At h → ⊥
not_absent h e = cc

module _ (fileset : ℕ) (places : List TagPlace) (space : Spaces) (cells : Cells) (old new : Pages) (chains : Chains) (indexes : Indexes) (files : Bitfiles) (was : StandsShown fileset places space cells old chains indexes files)
    (tag : Tag) (live : IsLive tag chains) (beside : ChangesBeside places (chains tag) old new) where
  abbrev now : Chains
  now = without_chain tag chains

  abbrev indexes_now : Indexes
  indexes_now = with_index tag [] indexes

  -- no page of a file or an index changes
  pub same : (h : Home) → IsFilePage space cells places h → new h ≡ old h
  same h page = by_chain (chains tag) live beside.pages (was.together.on_tables tag)
    where
      by_chain : (o : Option (List PlacedCell)) → IsSome (option_and_then (of_live attributes_of) o)
          → IfSome o (λ cs. (home : Home) → is_page_of_tag places home cs ≡ false → is_page_of_first home cs ≡ false → new home ≡ old home) → IfSome o (AreOnTables cells) → new h ≡ old h
      by_chain None live stays on = absurd (true≢false (sym live))
      by_chain (Some []) live stays on = stays h refl refl
      by_chain (Some (first ∷ rest)) live stays on = stays h (off_slot places first.cell.head.slot h page.no_tags) (by_home (same_home h (home_of first.at)) refl)
        where
          by_home : (b : Bool) → same_home h (home_of first.at) ≡ b → b ≡ false
          by_home true at = absurd (page.apart.off_table (subst (λ (x : Home). Contains (table_of cells x.vol) x.page) (sym (homes_same h (home_of first.at) at)) on.0))
          by_home false at = refl

  at_tag : {X : Type 0} (x y : X) → cond (same_tag tag tag) x y ≡ x
  at_tag x y = ap (λ (b : Bool). cond b x y) (same_tag_itself tag)

  pub in_index : (t : Tag) (h : Home) → Contains (indexes_now t) h → Contains (indexes t) h
  in_index t h inside = by_tag (same_tag t tag) inside
    where
      by_tag : (b : Bool) → Contains (cond b [] (indexes t)) h → Contains (indexes t) h
      by_tag true inside = absurd (none_in h inside)
      by_tag false inside = inside

  pub place_before : (t : Tag) (k : ℕ) (h : Home) → place_at now t k ≡ At h → place_at chains t k ≡ At h
  place_before t k h at = by_tag (same_tag t tag) at
    where
      by_tag : (b : Bool) → option_map_or (λ cs. places_of cs k) (cond b None (chains t)) Absent ≡ At h → place_at chains t k ≡ At h
      by_tag true at = absurd (not_absent h at)
      by_tag false at = at

  pub taken_out : AreTogether fileset places space cells new now → StandsShown fileset places space cells new now indexes_now (without_file tag files)
  taken_out together =
      stands_beside fileset places places space space cells cells old new chains now indexes indexes_now files (without_file tag files) was tag
      (λ t other. ap (λ (b : Bool). cond b None (chains t)) other) (λ t other. ap (λ (b : Bool). cond b [] (indexes t)) other) (λ t other. ap (λ (b : Bool). cond b None (files t)) other)
      (λ t k h other at. same h (was.together.file_pages t k h at)) (λ t h other inside. same h (was.stand t h inside)) together
      (subst (λ o. ShowsAt new o (without_file tag files tag)) (sym (at_tag None (chains tag))) (subst (ShowsAt new None) (sym (at_tag None (files tag))) refl))
      (subst (λ o. AreIndexHomes new (option_and_then index_of o) (indexes_now tag)) (sym (at_tag None (chains tag))) (subst (AreIndexHomes new None) (sym (at_tag [] (indexes tag))) tt))
      (λ t h inside. was.stand t h (in_index t h inside)) (λ s t k h inside at. was.apart s t k h (in_index s h inside) (place_before t k h at))
      (λ s t h one other. was.once s t h (in_index s h one) (in_index t h other))
