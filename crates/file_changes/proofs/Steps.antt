-- A write, page after page.
use Rattle.std.proofs.Common.{◌≡◌, ◌∙◌, ◌+◌, ℕ, true, List, slice_get, refl, ap}
use Rattle.std.proofs.Math.Logic.{∥∥₁_map}
use Rattle.std.specs.FinMap.{empty}
use Rattle.std.specs.List.{range_with_len}
use Rattle.std.specs.Option.{option_map_or}
use Rattle.domain_memory.specs.domain_base.declared.place.Tag.{Tag}
use Rattle.domain_memory.specs.fileset_model.Filesets.{FilesetMap}
use Rattle.domain_memory.specs.fileset_values.Orders.{Path}
use Rattle.domain_memory.specs.fileset_model.Pages.{page_after}
use Rattle.domain_memory.specs.fileset_model.declared.fileset.FilesetSlot.{FilesetSlot}
use Rattle.domain_memory.specs.fileset_model.declared.node.Node.{Node}
use Rattle.domain_memory.specs.fileset_table.Table.{Table}
use Rattle.domain_memory.specs.fileset_table.declared.slot.FilesetEntry.{FilesetEntry}
use Rattle.domain_memory.specs.domain_layout.CellRules.{of_original}
use Rattle.domain_memory.specs.domain_standing.Standing.{HaveParents}
use Rattle.set_standing.specs.Nodes.{with_page}
use Rattle.domain_memory.specs.Staged.{IsStagedForSome, MayGoBack, staged_in}
use Rattle.domain_memory.specs.declared.memory.DomainMemory.{DomainMemory}
use Rattle.domain_memory.proofs.KeptStands.{kept_joined, none_kept}
use Rattle.file_changes.proofs.Known.{file_known, open_known, some_file}
use Rattle.file_changes.proofs.Laid.{written_more}
use Rattle.file_changes.proofs.Twice.{has_between, has_node, node_between, stands_still, stands_twice}
use Rattle.file_changes.specs.Reading.{IsOpen, KeepsOpen, pages_at, pages_in}
use Rattle.file_changes.specs.Stages.{HasFile, IsFileIn, StandsChanged}
use Rattle.file_changes.specs.Writing.{StaysElse, with_written}

-- ---- what stays

pub stays_itself : (memory : DomainMemory) → ∥ MayGoBack memory ∥₁ → StaysElse memory memory
stays_itself memory may = record {
  kept = none_kept memory;
  back = may;
  table = refl;
  books = refl;
}

pub stays_joined : (one between other : DomainMemory) → StaysElse one between → StaysElse between other → StaysElse one other
stays_joined one between other first then = record {
  kept = kept_joined one between other first.kept then.kept;
  back = then.back;
  table = then.table ∙ first.table;
  books = then.books ∙ first.books;
}

-- ---- some pages are written

pub record WritesSoFar (start : DomainMemory) (number : ℕ) (tag : Tag) (offset : ℕ) (bytes : List ℕ) (numbers : List ℕ) (now : DomainMemory) : Type 0 where
  pub done : (path : Path) (all : FilesetMap) (entry : FilesetEntry) (fileset : FilesetSlot) → HasFile start number tag path all entry fileset → StandsChanged path (with_written numbers offset bytes) all entry fileset now
  pub parents : (path : Path) (all : FilesetMap) (entry : FilesetEntry) (fileset : FilesetSlot) → HasFile start number tag path all entry fileset → HaveParents (staged_in start) → HaveParents (staged_in now)
  pub file : IsFileIn now number tag
  pub open_still : (page : ℕ) → IsOpen start number tag page → IsOpen now number tag page
  pub stands : ∥ IsStagedForSome now ∥₁
  pub rest : StaysElse start now

-- one page is written
pub record WritesOne (old : DomainMemory) (number : ℕ) (tag : Tag) (offset : ℕ) (bytes : List ℕ) (page : ℕ) (new : DomainMemory) : Type 0 where
  pub done : (path : Path) (all : FilesetMap) (entry : FilesetEntry) (fileset : FilesetSlot) → HasFile old number tag path all entry fileset → StandsChanged path (with_page page (page_after (pages_at fileset.tree path) offset bytes page)) all entry fileset new
  pub parents : (path : Path) (all : FilesetMap) (entry : FilesetEntry) (fileset : FilesetSlot) → HasFile old number tag path all entry fileset → HaveParents (staged_in old) → HaveParents (staged_in new)
  pub open_still : (path : Path) (all : FilesetMap) (entry : FilesetEntry) (fileset : FilesetSlot) → HasFile old number tag path all entry fileset → KeepsOpen number tag old new
  pub rest : StaysElse old new

module _ (start : DomainMemory) (number : ℕ) (tag : Tag) (offset : ℕ) (bytes : List ℕ) (staged : ∥ IsStagedForSome start ∥₁) (may : ∥ MayGoBack start ∥₁) (original : of_original (slice_get start.table.slots number) ≡ true) (file : IsFileIn start number tag) where
  pub none_so_far : (numbers : List ℕ) → ((node : Node) → with_written numbers offset bytes node ≡ node) → WritesSoFar start number tag offset bytes numbers start
  none_so_far numbers none = record {
    done = λ path all entry fileset has. stands_still start number tag path all entry fileset has (with_written numbers offset bytes) none;
    parents = λ path all entry fileset has had. had;
    file = file;
    open_still = λ page is. is;
    stands = staged;
    rest = stays_itself start may;
  }

  pub original_still : (now : DomainMemory) → now.table ≡ start.table → of_original (slice_get now.table.slots number) ≡ true
  original_still now same = ap (λ (t : Table). of_original (slice_get t.slots number)) same ∙ original

  -- what is done of a write stands for some filesets
  pub stands_now : (change : Node → Node) (now : DomainMemory) → ((path : Path) (all : FilesetMap) (entry : FilesetEntry) (fileset : FilesetSlot) → HasFile start number tag path all entry fileset → StandsChanged path change all entry fileset now) → ∥ IsStagedForSome now ∥₁
  stands_now change now done = ∥∥₁_map (some_file start number tag staged original file) (λ s. (_, done s.path s.all s.entry s.fileset s.has))

  pub one_more : (first n page : ℕ) → first + n ≡ page → (now new : DomainMemory) → WritesSoFar start number tag offset bytes (range_with_len first n) now → WritesOne now number tag offset bytes page new → WritesSoFar start number tag offset bytes (range_with_len first (n + 1)) new
  one_more first n page next now new was one = record {
    done = done;
    parents = λ path all entry fileset has had.
        let node = has_node start number tag path all entry fileset has in
        one.parents path _ entry _ (has_between start now number tag path all entry fileset has node.node node.there (with_written (range_with_len first n) offset bytes) (was.done path all entry fileset has) was.rest.table)
        (was.parents path all entry fileset has had);
    file = file_known new number tag (∥∥₁_map opens (λ k. k.file));
    open_still = λ q is. open_known new number tag q (∥∥₁_map opens (λ k. k.open_still q (was.open_still q is)));
    stands = stands_now (with_written (range_with_len first (n + 1)) offset bytes) new done;
    rest = stays_joined start now new was.rest one.rest;
  }
    where
      opens : ∥ KeepsOpen number tag now new ∥₁
      opens = ∥∥₁_map (some_file now number tag was.stands (original_still now was.rest.table) was.file) (λ s. one.open_still s.path s.all s.entry s.fileset s.has)

      done : (path : Path) (all : FilesetMap) (entry : FilesetEntry) (fileset : FilesetSlot) → HasFile start number tag path all entry fileset → StandsChanged path (with_written (range_with_len first (n + 1)) offset bytes) all entry fileset new
      done path all entry fileset has =
          let node = has_node start number tag path all entry fileset has in
          let part : Node → Node = with_written (range_with_len first n) offset bytes in
          let between = has_between start now number tag path all entry fileset has node.node node.there part (was.done path all entry fileset has) was.rest.table in
          let node_now = node_between start now number tag path all entry fileset has node.node node.there part (was.done path all entry fileset has) was.rest.table in
          stands_twice start now number tag path all entry fileset has node.node node.there part (was.done path all entry fileset has) was.rest.table new _ (with_written (range_with_len first (n + 1)) offset bytes)
          (ap (λ o. with_page page (page_after (option_map_or pages_in o empty) offset bytes page) (part node.node)) node_now ∙ written_more first n page offset bytes node.node next)
          (one.done path _ entry _ between)
