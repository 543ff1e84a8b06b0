-- What each call on a tag leaves of tables and of the tag directory, and where a page is put.
use Rattle.std.proofs.Common.{◌≡◌, ◌∙◌, ◌||◌, ◌≤◌, ℕ, Bool, true, false, cond, List, [], ◌∷◌, Some, Contains, refl, sym, ap, subst, ⊎_elim}
use Rattle.std.proofs.lemmas.Bool.{eq-eqb}
use Rattle.std.proofs.lemmas.List.Folds.{list_any-append}
use Rattle.std.specs.Option.{option_map_or}
use Rattle.release_list.specs.domain_base.declared.place.Home.{Home}
use Rattle.release_list.specs.domain_base.declared.place.Tag.{Tag}
use Rattle.release_list.specs.domain_base.declared.version.Version.{Version}
use Rattle.release_list.specs.page_store.Pages.{same_home}
use Rattle.release_list.specs.metadata_cells.Chain.{PlacedCell, records_of}
use Rattle.release_list.specs.tag_dirs.declared.dir.TagPlace.{TagPlace}
use Rattle.release_list.specs.tag_dirs.Directory.{has_home}
use Rattle.release_list.specs.extent_maps.declared.run.PagePlace.TheVariants.{Absent, At}
use Rattle.release_list.specs.extent_records.Rows.{runs_of}
use Rattle.release_list.specs.free_cells.Cells.{Cells, table_of}
use Rattle.release_list.specs.file_chains.Files.{places_of}
use Rattle.release_list.specs.fileset_files.Changes.{with_chain}
use Rattle.release_list.specs.fileset_files.Together.{IsFilePage}
use Rattle.release_list.proofs.OfFilesetFiles.Grown.{one_tables, tables_grow}
use Rattle.release_list.proofs.OfFilesetFiles.OneChain.{same_tag_itself, tag_after}
use Rattle.release_list.proofs.OfFileRelease.Once.{file_map, good_page}
use Rattle.release_steps.specs.Calls.{Call, FilesetNow, Gives, Makes, Moves, PutsPage, cut, described, dropped, given, indexed, made, moved, put_in, refused}

-- a page of a table goes on to be one
abbrev pub TablesGrow : FilesetNow → FilesetNow → Type 0
TablesGrow old new = (vol p : ℕ) → Contains (table_of old.domain.cells vol) p → Contains (table_of new.domain.cells vol) p

same_tables : (old new : FilesetNow) → new.domain.cells ≡ old.domain.cells → TablesGrow old new
same_tables old new same vol p on = subst (λ (c : Cells). Contains (table_of c vol) p) (sym same) on

module _ (fileset : ℕ) (version : Version) (tag : Tag) (old new : FilesetNow) where
  pub given_tables : Gives fileset version tag old new → TablesGrow old new
  given_tables s vol p on = tables_grow s.puts.page (At s.home) s.chain s.prefer _ new.domain.space old.domain.cells new.domain.cells old.domain.pages s.taken.taken vol p on

  pub moved_tables : Moves fileset version tag old new → TablesGrow old new
  moved_tables s vol p on = ⊎_elim
      (λ same. same_tables old new same.1 vol p on)
      (λ one. one_tables s.home.vol old.domain.space new.domain.space old.domain.cells new.domain.cells old.domain.pages one.1 vol p on)
      s.taken

  pub made_tables : Makes fileset version tag old new → TablesGrow old new
  made_tables s vol p on = ⊎_elim
      (λ cell. one_tables s.prefer old.domain.space new.domain.space old.domain.cells new.domain.cells old.domain.pages cell.cell vol p on)
      (λ page. one_tables s.prefer _ new.domain.space old.domain.cells new.domain.cells old.domain.pages page.cell vol p on)
      s.taken

  pub call_tables : Call fileset version tag old new → TablesGrow old new
  call_tables (refused s) = same_tables old new s.cells
  call_tables (given s) = given_tables s
  call_tables (moved s) = moved_tables s
  call_tables (described value s) = same_tables old new s.cells
  call_tables (put_in parent s) = same_tables old new s.cells
  call_tables (indexed index s) = same_tables old new s.cells
  call_tables (cut size lowered s) = same_tables old new s.cells
  call_tables (dropped s) = same_tables old new s.cells
  call_tables (made s) = made_tables s

  same_places : new.places ≡ old.places → (h : Home) → has_home old.places h ≡ true → has_home new.places h ≡ true
  same_places same h has = ap (λ (ps : List TagPlace). has_home ps h) same ∙ has

  made_places : Makes fileset version tag old new → (h : Home) → has_home old.places h ≡ true → has_home new.places h ≡ true
  made_places s h has = ⊎_elim
      (λ cell. same_places cell.same h has)
      (λ page.
      let p : TagPlace = record { index = page.index; home = page.home } in
      ap (λ (ps : List TagPlace). has_home ps h) page.joins ∙ list_any-append (λ (q : TagPlace). same_home h q.home) old.places (p ∷ []) ∙ ap (λ (b : Bool). b || (same_home h page.home || false)) has)
      s.taken

  -- a page of the tag directory goes on to be one
  pub call_places : Call fileset version tag old new → (h : Home) → has_home old.places h ≡ true → has_home new.places h ≡ true
  call_places (refused s) = same_places s.places
  call_places (given s) = same_places s.puts.places
  call_places (moved s) = same_places s.puts.places
  call_places (described value s) = same_places s.places
  call_places (put_in parent s) = same_places s.places
  call_places (indexed index s) = same_places s.places
  call_places (cut size lowered s) = same_places s.places
  call_places (dropped s) = same_places s.places
  call_places (made s) = made_places s

  module _ (home : Home) (chain : List PlacedCell) (s : PutsPage fileset version tag home chain old new) where
    pub chain_put : with_chain tag (λ _. s.change.change.changes.after) old.chains tag ≡ Some s.change.change.changes.after
    chain_put = tag_after tag s.change.change.changes.after old.chains chain s.is tag (same_tag_itself tag)

    pub at_page : places_of s.change.change.changes.after s.page ≡ At home
    at_page = s.change.change.changes.at s.page ∙ ap (λ (b : Bool). cond b (At home) (places_of chain s.page)) (eq-eqb s.page s.page refl)

    pub page_put : IsFilePage new.domain.space new.domain.cells old.places home
    page_put = s.change.together.file_pages tag s.page home (ap (λ o. option_map_or (λ cs. places_of cs s.page) o Absent) chain_put ∙ at_page)

    pub low_put : 1 ≤ home.vol
    low_put = (good_page (runs_of (records_of s.change.change.changes.after)) (file_map new.domain.pages s.change.start s.change.change.changes.after s.change.change.changes.is_file).placed s.page home at_page).low
