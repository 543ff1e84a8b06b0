-- A page of a live tag's file is moved to another home, or it is not.
use Rattle.std.proofs.Common.{◌≡◌, ◌∙◌, ℕ, List, Some, None, IsSome, Result, Ok, Err, OnOk, Contains, sym, ap, subst, ⊎_elim}
use Rattle.std.proofs.lemmas.Bool.{true≢false}
use Rattle.std.specs.Option.{option_map_or}
use Rattle.file_chains.specs.domain_base.declared.place.CellAt.{CellAt}
use Rattle.file_chains.specs.domain_base.declared.place.Home.{Home}
use Rattle.file_chains.specs.domain_base.declared.place.Tag.{Tag}
use Rattle.file_chains.specs.domain_base.declared.version.Version.{Version}
use Rattle.file_chains.specs.page_store.Pages.{Pages}
use Rattle.file_chains.specs.page_store.declared.fault.StoreFault.{StoreFault}
use Rattle.file_chains.specs.page_store.declared.fault.StoreFault.TheVariants.{NoPage, OutOfMemory}
use Rattle.file_chains.specs.metadata_cells.Chain.{PlacedCell}
use Rattle.tag_dirs.specs.declared.dir.TagPlace.{TagPlace}
use Rattle.file_chains.specs.extent_maps.declared.run.PagePlace.{PagePlace}
use Rattle.file_chains.specs.extent_maps.declared.run.PagePlace.TheVariants.{Absent, At, Hole}
use Rattle.file_chains.specs.extent_maps.Runs.{home_at}
use Rattle.file_chains.specs.free_cells.Cells.{Cells, table_of}
use Rattle.file_chains.specs.free_space.Spaces.{Spaces}
use Rattle.file_chains.specs.Allocated.{AreAllocated, FindsNone}
use Rattle.file_chains.specs.FileChanges.{LeavesOtherCells}
use Rattle.file_chains.specs.Files.{IsFile, places_of}
use Rattle.file_chains.specs.MapChanges.{ChangesOnTables, LeavesOffTables}
use Rattle.file_chains.specs.Moving.{TakesIfHolderFull}
use Rattle.fileset_files.specs.Files.{Chains, place_at}
use Rattle.fileset_files.specs.Moves.{MayMove}
use Rattle.fileset_files.specs.Pages.{ChangesFile}
use Rattle.fileset_files.specs.Together.{AreTogether, IsHeldApart}
use Rattle.fileset_files.proofs.Again.{together_after, together_missed}
use Rattle.fileset_files.proofs.Given.{LiveChain, one_file}
use Rattle.fileset_files.proofs.Grown.{one_apart, one_tables}

-- ---- what was taken

module _ (page : ℕ) (place : PagePlace) (chain : List PlacedCell) (prefer : ℕ) (space space_now : Spaces) (cells cells_now : Cells) (old : Pages) (taken : TakesIfHolderFull page place chain prefer space space_now cells cells_now old) where
  tables_grow : (vol p : ℕ) → Contains (table_of cells vol) p → Contains (table_of cells_now vol) p
  tables_grow vol p on = ⊎_elim
      (λ same. subst (λ (c : Cells). Contains (table_of c vol) p) (sym same.1) on)
      (λ one. one_tables prefer space space_now cells cells_now old one.1 vol p on)
      taken

  apart_grows : (h : Home) → IsHeldApart space cells h → IsHeldApart space_now cells_now h
  apart_grows h is = ⊎_elim
      (λ same. subst (λ (s : Spaces). IsHeldApart s cells_now h) (sym same.0) (subst (λ (c : Cells). IsHeldApart space c h) (sym same.1) is))
      (λ one. one_apart prefer space space_now cells cells_now old one.1 h is)
      taken

-- ---- a page is moved

pub moves : (old new : Pages) (fileset : ℕ) (places : List TagPlace) (tag : Tag) (chains : Chains) (space space_now : Spaces) (cells cells_now : Cells) (chain : List PlacedCell) (start : CellAt) (page prefer : ℕ) (home : Home) (version : Version)
    → AreTogether fileset places space cells old chains → chains tag ≡ Some chain → ChangesOnTables start page (At home) chain version cells cells_now old new → TakesIfHolderFull page (At home) chain prefer space space_now cells cells_now old
    → MayMove tag page home places space cells chains → LeavesOtherCells cells chain old new → LeavesOffTables cells_now old new → AreAllocated space_now cells_now new
    → ChangesFile fileset places tag page (At home) version chains space_now cells cells_now old new chain
moves old new fileset places tag chains space space_now cells cells_now chain start page prefer home version are is change takes may others elsewhere allocated =
    let grow = apart_grows page (At home) chain prefer space space_now cells cells_now old takes in
    record {
      start = start;
      change = change;
      together = together_after old new fileset places tag chains space space_now cells cells_now chain change.changes.after start are is grow (tables_grow page (At home) chain prefer space space_now cells cells_now old takes) elsewhere others
          change.changes.is_file change.changes.first (λ c inside apart. (change.joined c inside apart).was_free) change.on_tables allocated page home change.changes.at
          (record { apart = grow home may.file_page.apart; no_tags = may.file_page.no_tags }) may.unused;
    }

-- ---- it is not

pub together_unmoved : (pages pages_now : Pages) (fileset : ℕ) (places : List TagPlace) (chains : Chains) (space space_now : Spaces) (cells cells_now : Cells) (fault : StoreFault) → pages_now ≡ pages → cells_now ≡ cells → FindsNone space space_now cells fault
    → AreTogether fileset places space cells pages chains → AreTogether fileset places space_now cells_now pages_now chains
together_unmoved pages pages_now fileset places chains space space_now cells cells_now NoPage pages_is cells_is none are =
    subst (λ p. AreTogether fileset places space_now cells_now p chains) (sym pages_is)
    (subst (λ c. AreTogether fileset places space_now c pages chains) (sym cells_is) (subst (λ s. AreTogether fileset places s cells pages chains) (sym none.2) (together_missed pages fileset places chains space cells are)))
together_unmoved pages pages_now fileset places chains space space_now cells cells_now OutOfMemory pages_is cells_is none are =
    subst (λ p. AreTogether fileset places space_now cells_now p chains) (sym pages_is)
    (subst (λ c. AreTogether fileset places space_now c pages chains) (sym cells_is) (subst (λ s. AreTogether fileset places s cells pages chains) (sym none) are))

-- ---- the file of a live tag

pub there : (pages : Pages) (tag : Tag) (chains : Chains) (at : CellAt) (live : LiveChain pages tag chains at) (page : ℕ) → IsSome (home_at (place_at chains tag page)) → (chain : List PlacedCell) → IsFile pages at chain → IsSome (home_at (places_of chain page))
there pages tag chains at live page some chain is =
    subst (λ cs. IsSome (home_at (places_of cs page))) (one_file pages at live.chain chain live.is_file is)
    (subst (λ o. IsSome (home_at (option_map_or (λ cs. places_of cs page) o Absent))) live.is some)

pub placed : (pages : Pages) (tag : Tag) (chains : Chains) (at : CellAt) (live : LiveChain pages tag chains at) (page : ℕ) (home : Home) → places_of live.chain page ≡ At home → place_at chains tag page ≡ At home
placed pages tag chains at live page home is = ap (λ o. option_map_or (λ cs. places_of cs page) o Absent) live.is ∙ is

pub home_is : (x : PagePlace) (home : Home) → Some home ≡ home_at x → x ≡ At home
home_is Absent home is = absurd (some_none is)
  where
    some_none : Some home ≡ None → ⊥
    some_none e = cc
home_is (At other) home is = ap At (same is)
  where
    same : Some home ≡ Some other → other ≡ home
    same e = cc
home_is Hole home is = absurd (some_none is)
  where
    some_none : Some home ≡ None → ⊥
    some_none e = cc

pub no_home : (x : PagePlace) → IsSome (home_at x) → None ≡ home_at x → ⊥
no_home x some is = true≢false (sym (subst (λ o. IsSome o) (sym is) some))

-- ---- what a call answers

pub map_two : {A E P Q R : Type 0} (r : Result A E) → (P → Q → R) → OnOk r P → OnOk r Q → OnOk r R
map_two (Ok x) f p q = f p q
map_two (Err e) f p q = tt
