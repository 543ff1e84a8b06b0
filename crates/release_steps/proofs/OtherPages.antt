-- Pages that are none of cells or of the tag directory stay over calls on a tag.
use Rattle.std.proofs.Common.{◌≡◌, ◌∙◌, ℕ, false, List, ◌∷◌, Some, IfSome, Contains, refl, sym, ap, subst, ⊎_elim}
use Rattle.std.proofs.lemmas.Bool.{cases_Bool, true≢false}
use Rattle.release_list.specs.domain_base.declared.place.Home.{Home}
use Rattle.release_list.specs.domain_base.declared.place.Tag.{Tag}
use Rattle.release_list.specs.domain_base.declared.version.Version.{Version}
use Rattle.release_list.specs.page_store.Pages.{Pages, same_home}
use Rattle.release_list.specs.metadata_cells.Cell.{Cell}
use Rattle.release_list.specs.metadata_cells.CellPage.{home_of}
use Rattle.release_list.specs.metadata_cells.Chain.{PlacedCell}
use Rattle.release_list.proofs.OfMetadataCells.Changed.{homes_same}
use Rattle.release_list.specs.tag_dirs.declared.dir.TagPlace.{TagPlace}
use Rattle.release_list.specs.tag_dirs.Directory.{has_home}
use Rattle.release_list.proofs.OfTagDirs.Slots.{off_slot}
use Rattle.release_list.specs.free_cells.Cells.{Cells, table_of}
use Rattle.release_list.specs.file_chains.FileChanges.{AreOnTables}
use Rattle.release_list.specs.fileset_files.Changes.{ChangesBeside, ChangesFirst}
use Rattle.release_steps.specs.Calls.{Call, Calls, Drops, FilesetNow, SetsFirst, cut, described, dropped, given, indexed, made, moved, no_call, one_more, put_in, refused}
use Rattle.release_steps.proofs.CallTables.{call_places, call_tables}
use Rattle.release_steps.proofs.TagCalls.{StandsTogether, together_call}

module _ (fileset : ℕ) (version : Version) (tag : Tag) (old new : FilesetNow) (together : StandsTogether fileset old) (h : Home) (off : ¬ Contains (table_of new.domain.cells h.vol) h.page) (no_tags : has_home new.places h ≡ false) where
  -- the first cell of the tag's file stands on a table
  off_first : (first : PlacedCell) (rest : List PlacedCell) → old.chains tag ≡ Some (first ∷ rest) → new.domain.cells ≡ old.domain.cells → same_home h (home_of first.at) ≡ false
  off_first first rest is same = ⊎_elim
      (λ here. absurd (off (subst (λ (x : Home). Contains (table_of new.domain.cells x.vol) x.page) (sym (homes_same h (home_of first.at) here))
      (subst (λ (cs : Cells). Contains (table_of cs first.at.vol) first.at.page) (sym same) (subst (λ o. IfSome o (AreOnTables old.domain.cells)) is (together.on_tables tag)).0))))
      (λ other. other)
      (cases_Bool (same_home h (home_of first.at)))

  set_pages : (says : Cell → Cell) → SetsFirst fileset tag says old new → new.domain.pages h ≡ old.domain.pages h
  set_pages says s = (subst (λ o. ChangesFirst o old.domain.pages new.domain.pages) s.is s.beside).1 h (off_first s.first s.rest s.is s.cells)

  drop_pages : Drops fileset tag old new → new.domain.pages h ≡ old.domain.pages h
  drop_pages s =
      (subst (λ o. ChangesBeside old.places o old.domain.pages new.domain.pages) s.is s.beside).pages h
      (off_slot old.places s.first.cell.head.slot h (ap (λ (ps : List TagPlace). has_home ps h) (sym s.places) ∙ no_tags))
      (off_first s.first s.rest s.is s.cells)

  pub call_pages : Call fileset version tag old new → new.domain.pages h ≡ old.domain.pages h
  call_pages (refused s) = ap (λ (ps : Pages). ps h) s.pages
  call_pages (given s) = s.puts.elsewhere h off
  call_pages (moved s) = s.puts.elsewhere h off
  call_pages (described value s) = set_pages _ s
  call_pages (put_in parent s) = set_pages _ s
  call_pages (indexed index s) = set_pages _ s
  call_pages (cut size lowered s) = set_pages _ s
  call_pages (dropped s) = drop_pages s
  call_pages (made s) = s.elsewhere h off no_tags

-- what the directory has not then it had not before
pub none_before : (fileset : ℕ) (version : Version) (tag : Tag) (old new : FilesetNow) → Call fileset version tag old new → (h : Home) → has_home new.places h ≡ false → has_home old.places h ≡ false
none_before fileset version tag old new call h none = ⊎_elim
    (λ has. absurd (true≢false (sym (call_places fileset version tag old new call h has) ∙ none)))
    (λ none. none)
    (cases_Bool (has_home old.places h))

record StaysThere (fileset : ℕ) (first now : FilesetNow) (h : Home) : Type 0 where
  together : StandsTogether fileset now
  same : ¬ Contains (table_of now.domain.cells h.vol) h.page → has_home now.places h ≡ false → now.domain.pages h ≡ first.domain.pages h

pub other_pages_same : (fileset : ℕ) (version : Version) (tag : Tag) (first last : FilesetNow) → Calls fileset version tag first last → StandsTogether fileset first → (h : Home) → ¬ Contains (table_of last.domain.cells h.vol) h.page → has_home last.places h ≡ false
    → last.domain.pages h ≡ first.domain.pages h
other_pages_same fileset version tag first last calls together h = all.same
  where
    all : StaysThere fileset first last h
    all = elim calls as (λ last calls. StaysThere fileset first last h) [
      | no_call ↦ record { together = together; same = λ off none. refl }
      | one_more between last (calls → was) call ↦ record {
        together = together_call fileset version tag between last call was.together;
        same = λ off none.
            call_pages fileset version tag between last was.together h off none call
            ∙ was.same (λ on. off (call_tables fileset version tag between last call h.vol h.page on)) (none_before fileset version tag between last call h none);
      }
    ]
