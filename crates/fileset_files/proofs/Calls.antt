-- What the calls make of the files of a fileset.
use Rattle.std.proofs.Common.{◌≡◌, ◌∙◌, ℕ, Bool, cond, List, [], ◌∷◌, Option, Some, None, IsSomeAnd, refl, sym, ap, subst, ⊎_elim}
use Rattle.std.proofs.lemmas.Bool.{cases_Bool}
use Rattle.std.specs.Option.{option_and_then, option_map, option_map_or}
use Rattle.file_chains.specs.domain_base.declared.place.CellAt.{CellAt}
use Rattle.file_chains.specs.domain_base.declared.place.Tag.{Tag}
use Rattle.file_chains.specs.domain_base.declared.version.Version.{Version}
use Rattle.file_chains.specs.page_store.Bitfiles.{same_tag}
use Rattle.file_chains.specs.page_store.Pages.{Pages}
use Rattle.file_chains.specs.cell_records.declared.record.Record.{Record}
use Rattle.file_chains.specs.cell_records.declared.record.Record.TheVariants as written
use Rattle.file_chains.specs.metadata_cells.Cell.{Cell}
use Rattle.file_chains.specs.metadata_cells.Chain.{PlacedCell}
use Rattle.tag_dirs.specs.declared.dir.TagPlace.{TagPlace}
use Rattle.file_chains.specs.extent_maps.declared.run.PagePlace.{PagePlace}
use Rattle.file_chains.specs.free_cells.Cells.{Cells}
use Rattle.file_chains.specs.free_space.Spaces.{Spaces}
use Rattle.file_chains.specs.Files.{AreFile, IsFile, places_of}
use Rattle.fileset_files.specs.declared.new_cells.NewFile.{NewFile}
use Rattle.fileset_files.specs.Changes.{Removes, says_removed, with_chain, with_first, without_chain}
use Rattle.fileset_files.specs.Creation.{Creates}
use Rattle.fileset_files.specs.Files.{AreFiles, first_record, keep_in}
use Rattle.fileset_files.specs.Pages.{ChangesFile}
use Rattle.fileset_files.specs.State.{FileState, States, state_of, state_with, states_of, with_changed, with_state, without_state}
use Rattle.fileset_files.specs.Together.{AreTogether}
use Rattle.fileset_files.specs.Truncation.{HasPageWithin, IsLowered, TruncatesTogether, pages_in, says_truncated}
use Rattle.fileset_files.proofs.FirstCells.{removal_said, size_said}
use Rattle.fileset_files.proofs.Parts.{FileAt, file_at, states_changed}
use Rattle.fileset_files.proofs.Placed.{page_placed, states_made}
use Rattle.fileset_files.specs.States.{CutsFile, HaveStates, IsStaleFrom, StandsAlone, cut, new_state, placed, to_remove}

none_is_some : {X : Type 0} (x : X) → None ≡ Some x → ⊥
none_is_some x e = cc

same_some : {X : Type 0} (x y : X) → Some x ≡ Some y → x ≡ y
same_some x y is = ap (λ o. option_map_or (λ z. z) o x) is

-- what is so of a change of the first cell of each file
abbrev pub Says : (Cell → Cell) → (FileState → FileState) → Type 0
Says change how = (pages : Pages) (first : PlacedCell) (rest : List PlacedCell) → AreFile pages first rest → state_of (with_first change (first ∷ rest)) ≡ option_map how (state_of (first ∷ rest))

says_of : (change : Cell → Cell) (how : FileState → FileState) → Says change how → (pages : Pages) (cells : List PlacedCell) (at : CellAt) → IsFile pages at cells → state_of (with_first change cells) ≡ option_map how (state_of cells)
says_of change how says pages [] at is = absurd is
says_of change how says pages (first ∷ rest) at is = says pages first rest is.1

module _ (fileset : ℕ) (places : List TagPlace) (space : Spaces) (cells : Cells) (old : Pages) (states : States) (was : HaveStates fileset places space cells old states) (tag : Tag) where
  files : AreFiles fileset places old was.chains
  files = was.together.files

  at_tag : (cs : List PlacedCell) → was.chains tag ≡ Some cs → FileAt old cs
  at_tag cs is = file_at fileset places old was.chains files tag cs is

  -- a record of the first cell is another one
  pub first_changed : (new : Pages) (change : Cell → Cell) (how : FileState → FileState) → Says change how → AreTogether fileset places space cells new (with_chain tag (with_first change) was.chains)
      → HaveStates fileset places space cells new (with_changed tag how states)
  first_changed new change how says now = record {
    chains = with_chain tag (with_first change) was.chains;
    together = now;
    are = states_changed tag (with_first change) how was.chains (λ cs is. let f = at_tag cs is in says_of change how says old cs f.at f.is_file)
        ∙ ap (with_changed tag how) was.are;
  }

  -- its size is another one
  stale_said : (size : ℕ) (cs : List PlacedCell) (lowered : Option ℕ) → IsLowered size cs lowered → IsSomeAnd (state_of cs) (λ state. IsStaleFrom size state lowered)
  stale_said size cs (Some from) is = by_record (first_record 1 cs) is.1
    where
      by_record : (o : Option Record) → IsSomeAnd (option_and_then keep_in o) (λ keep. HasPageWithin from keep (places_of cs)) → IsSomeAnd (option_and_then (state_with cs) o) (λ state. IsStaleFrom size state (Some from))
      by_record None has = absurd has
      by_record (Some (written.Attributes kind uid gid flags was keep links birth unsynced)) has = (is.0, has)
      by_record (Some r) has = absurd has
  stale_said size cs None is = by_record (first_record 1 cs) is
    where
      by_record : (o : Option Record) → IsSomeAnd (option_and_then keep_in o) (λ keep. ¬ HasPageWithin (pages_in size) keep (places_of cs)) → IsSomeAnd (option_and_then (state_with cs) o) (λ state. IsStaleFrom size state None)
      by_record None none = absurd none
      by_record (Some (written.Attributes kind uid gid flags was keep links birth unsynced)) none = none
      by_record (Some r) none = absurd none

  pub size_changed : (new : Pages) (size : ℕ) → TruncatesTogether fileset places tag size space cells was.chains new → CutsFile fileset places space cells tag size states new
  size_changed new size t = record {
    keep = t.lowered;
    stale = subst (λ o. IsSomeAnd o (λ state. IsStaleFrom size state t.lowered)) (λ i. was.are i tag) (by_chain (was.chains tag) t.stale);
    now = first_changed new (says_truncated size t.lowered) (cut size t.lowered) (λ pages first rest file. size_said pages first rest file size t.lowered) t.together;
  }
    where
      by_chain : (o : Option (List PlacedCell)) → IsSomeAnd o (λ chain. IsLowered size chain t.lowered) → IsSomeAnd (option_and_then state_of o) (λ state. IsStaleFrom size state t.lowered)
      by_chain None stale = absurd stale
      by_chain (Some cs) stale = stale_said size cs t.lowered stale

  -- it is taken out of use
  pub removed : (new : Pages) → AreTogether fileset places space cells new (without_chain tag was.chains) → HaveStates fileset places space cells new (without_state tag states)
  removed new now = record { chains = without_chain tag was.chains; together = now; are = (λ i t. each t i) ∙ ap (without_state tag) was.are }
    where
      each : (t : Tag) → states_of (without_chain tag was.chains) t ≡ without_state tag (states_of was.chains) t
      each t = ⊎_elim
          (λ same. ap (λ (b : Bool). option_and_then state_of (cond b None (was.chains t))) same ∙ sym (ap (λ (b : Bool). cond b None (option_and_then state_of (was.chains t))) same))
          (λ other. ap (λ (b : Bool). option_and_then state_of (cond b None (was.chains t))) other ∙ sym (ap (λ (b : Bool). cond b None (option_and_then state_of (was.chains t))) other))
          (cases_Bool (same_tag t tag))

  pub stands_alone : (new : Pages) (at : CellAt) → Removes fileset places tag at was.chains new → (state : FileState) → states tag ≡ Some state → StandsAlone new at (to_remove state)
  stands_alone new at removes state is = by_chain (was.chains tag) refl removes.pending ((λ i. was.are i tag) ∙ is)
    where
      by_chain : (o : Option (List PlacedCell)) → was.chains tag ≡ o → IsSomeAnd o (λ cs. IsFile new at (with_first says_removed cs)) → option_and_then state_of o ≡ Some state → StandsAlone new at (to_remove state)
      by_chain None there pending is = absurd pending
      by_chain (Some cs) there pending is =
          let f = at_tag cs there in
          record {
            chain = with_first says_removed cs;
            is_file = pending;
            is = says_of says_removed to_remove removal_said old cs f.at f.is_file ∙ ap (option_map to_remove) is;
          }

  -- a page of it stands at another place
  pub page_changed : (page : ℕ) (place : PagePlace) (version : Version) (space_now : Spaces) (cells_now : Cells) (new : Pages) → IsSomeAnd (was.chains tag) (ChangesFile fileset places tag page place version was.chains space_now cells cells_now old new)
      → HaveStates fileset places space_now cells_now new (with_changed tag (placed page place) states)
  page_changed page place version space_now cells_now new changes = by_chain (was.chains tag) refl changes
    where
      by_chain : (o : Option (List PlacedCell)) → was.chains tag ≡ o → IsSomeAnd o (ChangesFile fileset places tag page place version was.chains space_now cells cells_now old new)
          → HaveStates fileset places space_now cells_now new (with_changed tag (placed page place) states)
      by_chain None is changes = absurd changes
      by_chain (Some chain) is changes =
          let after = changes.change.changes.after in
          record {
            chains = with_chain tag (λ _. after) was.chains;
            together = changes.together;
            are = states_changed tag (λ _. after) (placed page place) was.chains
                (λ cs there. subst (λ (cs : List PlacedCell). state_of after ≡ option_map (placed page place) (state_of cs)) (same_some chain cs (sym is ∙ there))
                (page_placed page place chain after changes.change.changes.first changes.change.changes.at))
                ∙ ap (with_changed tag (placed page place)) was.are;
          }

  -- it is made
  pub made : (places_now : List TagPlace) (version : Version) (what : NewFile) (space_now : Spaces) (cells_now : Cells) (new : Pages) → Creates fileset places_now tag version what was.chains space_now cells cells_now old new
      → HaveStates fileset places_now space_now cells_now new (with_state tag (new_state what tag) states)
  made places_now version what space_now cells_now new creates = record {
    chains = _;
    together = creates.together;
    are = states_made version what tag creates.first creates.says creates.no_page was.chains ∙ ap (with_state tag (new_state what tag)) was.are;
  }

  pub made_fresh : (places_now : List TagPlace) (version : Version) (what : NewFile) (space_now : Spaces) (cells_now : Cells) (new : Pages) → Creates fileset places_now tag version what was.chains space_now cells cells_now old new → states tag ≡ None
  made_fresh places_now version what space_now cells_now new creates = sym (λ i. was.are i tag) ∙ ap (option_and_then state_of) creates.fresh
