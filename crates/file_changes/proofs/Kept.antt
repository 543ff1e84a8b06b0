-- What was kept of memory stays where pages, free space, free cells and what is listed change; and a change can be taken back.
use Rattle.std.proofs.Common.{◌≡◌, ◌∙◌, ℕ, Result, Ok, Err, IfErr, OnErr, OnOk, List, Option, Some, None, IfSome, IsSomeAnd, length, sym, ap, subst, ⊎_elim}
use Rattle.std.proofs.Math.Logic.{∥∥₁_map}
use Rattle.domain_memory.specs.domain_base.declared.place.Home.{Home}
use Rattle.domain_memory.specs.domain_base.declared.place.Tag.{Tag}
use Rattle.domain_memory.specs.domain_base.declared.version.Version.{Version}
use Rattle.domain_memory.specs.page_store.Pages.{Pages}
use Rattle.domain_memory.specs.page_store.declared.fault.StoreFault.{StoreFault}
use Rattle.domain_memory.specs.page_store.declared.fault.StoreFault.TheVariants.{NoPage, OutOfMemory}
use Rattle.domain_memory.specs.metadata_cells.Chain.{PlacedCell}
use Rattle.domain_memory.specs.tag_dirs.declared.dir.TagPlace.{TagPlace}
use Rattle.domain_memory.specs.free_cells.Cells.{Cells, is_closed, kept_of}
use Rattle.domain_memory.specs.free_space.Spaces.{Spaces, change_volume, kept_spaces, volume_of}
use Rattle.domain_memory.specs.free_space.VolumeSpace.{with_page}
use Rattle.domain_memory.proofs.OfFreeSpace.Kept.{kept-with_page}
use Rattle.domain_memory.specs.file_chains.MapChanges.{TakesOne}
use Rattle.domain_memory.specs.fileset_files.Files.{Chains}
use Rattle.domain_memory.specs.fileset_files.Pages.{GetsNone, TakesHome}
use Rattle.domain_memory.specs.stored_set.Sets.{GetsPage}
use Rattle.domain_memory.specs.fileset_table.Table.{IsTable}
use Rattle.domain_memory.specs.staged_pages.Store.{before_of}
use Rattle.domain_memory.specs.Slots.{CanGoBack, HasNumber, kept_book, kept_places, slot_in}
use Rattle.domain_memory.specs.Kept.{KeepsKept}
use Rattle.domain_memory.specs.Memory.{with_was}
use Rattle.domain_memory.specs.Staged.{MayGoBack}
use Rattle.domain_memory.specs.declared.memory.DomainMemory.{DomainMemory}

-- ---- free space and free cells

-- what is kept of these is what it was, and no volume is closed or activated
pub record KeptOver (space space_now : Spaces) (cells cells_now : Cells) : Type 0 where
  pub spaces : (vol : ℕ) → volume_of (kept_spaces space_now) vol ≡ volume_of (kept_spaces space) vol
  pub tables : (vol : ℕ) → kept_of cells_now vol ≡ kept_of cells vol
  pub marks : (vol : ℕ) → is_closed cells_now vol ≡ is_closed cells vol

-- where nothing is taken
pub none_over : (space space_now : Spaces) (cells cells_now : Cells) → kept_spaces space_now ≡ kept_spaces space → cells_now ≡ cells → KeptOver space space_now cells cells_now
none_over space space_now cells cells_now space_same cells_same = record {
  spaces = λ vol. ap (λ (s : Spaces). volume_of s vol) space_same;
  tables = λ vol. ap (λ (c : Cells). kept_of c vol) cells_same;
  marks = λ vol. ap (λ (c : Cells). is_closed c vol) cells_same;
}

-- where a page is
with_one : (home : Home) (space space_now : Spaces) (cells cells_now : Cells) → KeptOver (change_volume (with_page home.page) space home.vol) space_now cells cells_now → KeptOver space space_now cells cells_now
with_one home space space_now cells cells_now k = record {
  spaces = λ vol. k.spaces vol ∙ ap (λ (s : Spaces). volume_of s vol) (kept-with_page home.page space home.vol);
  tables = k.tables;
  marks = k.marks;
}

-- if a cell is handed out
one_kept : (prefer : ℕ) (space space_now : Spaces) (cells cells_now : Cells) (old : Pages) → TakesOne prefer space space_now cells cells_now old → KeptOver space space_now cells cells_now
one_kept prefer space space_now cells cells_now old t = ⊎_elim
    (λ had. record {
      spaces = λ vol. ap (λ (s : Spaces). volume_of (kept_spaces s) vol) had.same_space;
      tables = λ vol. t.takes.taken.keeps vol ∙ ap (λ (c : Cells). kept_of c vol) had.same_cells;
      marks = λ vol. t.takes.taken.marks vol ∙ ap (λ (c : Cells). is_closed c vol) had.same_cells;
    })
    (λ none. record {
      spaces = λ vol. ap (λ (s : Spaces). volume_of s vol) (ap kept_spaces none.adds.used ∙ kept-with_page none.home.page space none.home.vol);
      tables = λ vol. t.takes.taken.keeps vol ∙ none.adds.joins.keeps vol;
      marks = λ vol. t.takes.taken.marks vol ∙ none.adds.joins.marks vol;
    })
    t.takes.before

home_kept : (prefer page : ℕ) (home : Home) (chain : List PlacedCell) (space space_now : Spaces) (cells cells_now : Cells) (old : Pages) → TakesHome prefer page home chain space space_now cells cells_now old → KeptOver space space_now cells cells_now
home_kept prefer page home chain space space_now cells cells_now old t =
    let taken = change_volume (with_page home.page) space home.vol in
    with_one home space space_now cells cells_now
    (⊎_elim
    (λ same. none_over taken space_now cells cells_now (ap kept_spaces same.0) same.1)
    (λ full. one_kept prefer taken space_now cells cells_now old full.1)
    t.taken)

-- ---- a file that gets a page, or none

lost : (page : ℕ) (chain : List PlacedCell) (space space_now : Spaces) (cells : Cells) (fault : StoreFault) → GetsNone page chain space space_now cells fault → (vol : ℕ) → volume_of (kept_spaces space_now) vol ≡ volume_of (kept_spaces space) vol
lost page chain space space_now cells NoPage none vol = ap (λ (s : Spaces). volume_of (kept_spaces s) vol) none.1
lost page chain space space_now cells OutOfMemory none vol = ap (λ (s : Spaces). volume_of (kept_spaces s) vol) none

module _ (number : ℕ) (places : List TagPlace) (tag : Tag) (page : ℕ) (bytes : List ℕ) (prefer : ℕ) (version : Version) (chains : Chains) (space space_now : Spaces) (cells cells_now : Cells) (old new : Pages) where
  got_kept : (o : Option (List PlacedCell)) → IsSomeAnd o (GetsPage number places tag page bytes prefer version chains space space_now cells cells_now old new) → KeptOver space space_now cells cells_now
  got_kept None gets = absurd gets
  got_kept (Some chain) gets = home_kept prefer page gets.home chain space space_now cells cells_now old gets.taken

  lost_kept : (o : Option (List PlacedCell)) (fault : StoreFault) → IsSomeAnd o (λ chain. GetsNone page chain space space_now cells fault) → cells_now ≡ cells → KeptOver space space_now cells cells_now
  lost_kept None fault none same = absurd none
  lost_kept (Some chain) fault none same = record {
    spaces = lost page chain space space_now cells fault none;
    tables = λ vol. ap (λ (c : Cells). kept_of c vol) same;
    marks = λ vol. ap (λ (c : Cells). is_closed c vol) same;
  }

  pub give_kept : {X : Type 0} (r : Result X StoreFault) → OnOk r (IsSomeAnd (chains tag) (GetsPage number places tag page bytes prefer version chains space space_now cells cells_now old new))
      → IfErr r (λ fault. IsSomeAnd (chains tag) (λ chain. GetsNone page chain space space_now cells fault)) → OnErr r (cells_now ≡ cells) → KeptOver space space_now cells cells_now
  give_kept (Ok x) gets none same = got_kept (chains tag) gets
  give_kept (Err fault) gets none same = lost_kept (chains tag) fault none same

-- ---- memory

module _ (old new : DomainMemory) (same : new ≡ record old { pages = new.pages; space = new.space; cells = new.cells; listed = new.listed }) where
  pub parts_kept : before_of new.pages ≡ before_of old.pages → KeptOver old.space new.space old.cells new.cells → KeepsKept old new
  parts_kept before k = record {
    frame = ap (λ (m : DomainMemory). m.frame) same;
    table = ap (λ (m : DomainMemory). with_was m.was m.table) same;
    places = λ number. ap (λ (m : DomainMemory). kept_places (slot_in m.slots.items number)) same;
    books = λ number entry there. ap (λ (m : DomainMemory). kept_book (slot_in m.slots.items number)) same;
    pages = before;
    spaces = k.spaces;
    cells = k.tables;
    marks = k.marks;
    list = ap (λ (m : DomainMemory). m.list.list) same;
  }

-- if there is more room on the list too
module _ (old new : DomainMemory) (same : new ≡ record old { pages = new.pages; space = new.space; cells = new.cells; list = new.list; listed = new.listed }) where
  pub back_kept : ∥ MayGoBack old ∥₁ → ∥ MayGoBack new ∥₁
  back_kept may = ∥∥₁_map may (λ m. record {
    has = record {
      count = ap (λ (x : DomainMemory). length x.slots.items) same ∙ m.has.count;
      numbered = λ n. subst (λ (x : DomainMemory). IfSome (slot_in x.slots.items n) (HasNumber n)) (sym same) (m.has.numbered n);
    };
    table = subst (λ (x : DomainMemory). IsTable (with_was x.was x.table)) (sym same) m.table;
    slots = λ n. subst (λ (x : DomainMemory). IfSome (slot_in x.slots.items n) CanGoBack) (sym same) (m.slots n);
  })
