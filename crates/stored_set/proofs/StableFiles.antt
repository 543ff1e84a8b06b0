-- Of files that belong together it is enough to know that they do.
use Rattle.std.proofs.Common.{◌≡◌, ◌∙◌, ◌<◌, ◌≤◌, ◌+◌, ℕ, zero, suc, true, false, Option, IfSome, IsSomeAnd, List, [], ◌∷◌, Contains, slice_get, slice_index, refl, sym, ap, arith}
use Rattle.std.proofs.Math.Logic.{∥∥₁_map}
use Rattle.std.specs.Coded.{Coded-set, coded_list, coded_option, coded_ℕ}
use Rattle.std.specs.FinSet.{contains as has}
use Rattle.std.proofs.lemmas.List.{get_or-drop}
use Rattle.index_pages.specs.domain_base.Page.{slice_index-zero_bytes, zero_bytes}
use Rattle.index_pages.specs.domain_base.declared.place.CellAt.{CellAt}
use Rattle.index_pages.specs.domain_base.declared.place.Home.{Home}
use Rattle.index_pages.specs.domain_base.declared.place.Tag.{Tag}
use Rattle.index_pages.specs.page_store.Pages.{Pages}
use Rattle.index_pages.specs.cell_records.Fields.{number_at}
use Rattle.index_pages.specs.cell_records.Records.{kind_of}
use Rattle.index_pages.specs.metadata_cells.declared.head.CellKind.{CellKind}
use Rattle.index_pages.specs.metadata_cells.declared.head.CellKind.TheVariants.{Chain, Primary, Quota, Volume}
use Rattle.index_pages.specs.metadata_cells.Cell.{Cell, IsCell, IsFreeCell, IsFreeOrUsed, kind_number}
use Rattle.index_pages.specs.metadata_cells.CellPage.{IsCellPage, cell_of as bytes_of, next_of}
use Rattle.index_pages.specs.metadata_cells.Chain.{PlacedCell}
use Rattle.index_pages.proofs.OfMetadataCells.Unique.{one_cell}
use Rattle.index_pages.specs.tag_dirs.declared.dir.TagPlace.{TagPlace}
use Rattle.index_pages.specs.tag_dirs.declared.page.TagEntry.{TagEntry}
use Rattle.index_pages.specs.tag_dirs.TagPage.{IsAllowed, IsSpelled, IsTagPage, cell_in, entry_of, slot_of}
use Rattle.index_pages.specs.tag_dirs.Directory.{IsDirectory, IsPageOf as IsTagPageOf, cell_of, home_behind}
use Rattle.index_pages.specs.free_cells.Belong.{Belong, IsPageOf, home_at}
use Rattle.index_pages.specs.free_cells.Cells.{Cells, table_of}
use Rattle.index_pages.specs.free_space.VolumeSpace.{VolumeSpace, is_waiting}
use Rattle.index_pages.specs.free_space.Spaces.{IsHeld, Spaces, volume_of}
use Rattle.index_pages.specs.file_chains.Allocated.{AreAllocated}
use Rattle.index_pages.specs.file_chains.FileChanges.{AreOnTables}
use Rattle.index_pages.specs.file_chains.Files.{IsFile}
use Rattle.index_pages.specs.fileset_files.Files.{AreApart, AreFiles, Chains, HasFirstKinds, IsOf, LeadsToFile, is_first_kind}
use Rattle.index_pages.specs.fileset_files.Together.{AreTogether, IsFilePage, IsHeldApart}
use Rattle.stored_set.proofs.Stable.{IsStable, all, both, cell_code, contains, determined, each, equal, first_of, home_code, if_some, is_none, less, not, nothing, one_bool, one_number, one_page, placed_code, second_of, some_and, tag_code, three, when}
use Rattle.stored_set.proofs.StableCells.{address, cell_is, is_file}

-- ---- the tag directory

tag_page : (page : List ℕ) → IsStable (IsTagPage page)
tag_page page t = record {
  whole = one_number _ _ (∥∥₁_map t (λ x. x.whole));
  magic = one_number _ _ (∥∥₁_map t (λ x. x.magic));
  index = less _ _ (∥∥₁_map t (λ x. x.index));
  next = less _ _ (∥∥₁_map t (λ x. x.next));
  spelled = each (λ e. e < 1022 → IsSpelled page e) (λ e. when (IsSpelled page e) (address _ _ _ (cell_in page e))) (∥∥₁_map t (λ x. x.spelled));
  entries = each (λ e. e < 1022 → IsAllowed (slot_of page e) (entry_of page e)) (λ e. when (IsAllowed (slot_of page e) (entry_of page e)) (may_stand (slot_of page e) (entry_of page e))) (∥∥₁_map t (λ x. x.entries));
}
  where
    may_stand : (slot : ℕ) (entry : TagEntry) → IsStable (IsAllowed slot entry)
    may_stand slot entry = if_some (λ (at : CellAt). (at.cell < 28) × (1 ≤ entry.seq) × (¬ slot ≡ 0)) (λ at. three (less _ _) (less _ _) not) entry.at

tag_page_of : (place : TagPlace) (next : Option Home) (page : List ℕ) → IsStable (IsTagPageOf place next page)
tag_page_of place next page t = record {
  good = tag_page page (∥∥₁_map t (λ x. x.good));
  indexed = one_number _ _ (∥∥₁_map t (λ x. x.indexed));
  linked = equal (coded_option home_code) _ _ (∥∥₁_map t (λ x. x.linked));
}

directory : (pages : Pages) (places : List TagPlace) → IsStable (IsDirectory pages places)
directory pages places t = record {
  run = each (λ k. IfSome (slice_get places k) (λ place. IsSomeAnd (pages place.home) (IsTagPageOf place (home_behind places k))))
      (λ k. if_some (λ (place : TagPlace). IsSomeAnd (pages place.home) (IsTagPageOf place (home_behind places k)))
      (λ place. some_and (IsTagPageOf place (home_behind places k)) (tag_page_of place (home_behind places k)) (pages place.home)) (slice_get places k)) (∥∥₁_map t (λ x. x.run));
  apart = λ j k p q at_j at_k same. one_number _ _ (∥∥₁_map t (λ x. x.apart j k p q at_j at_k same));
  first = if_some (λ (place : TagPlace). place.index ≡ 0) (λ place. one_number _ _) (slice_get places 0) (∥∥₁_map t (λ x. x.first));
}

-- ---- files

is_of : (fileset : ℕ) (tag : Tag) (cs : List PlacedCell) → IsStable (IsOf fileset tag cs)
is_of fileset tag [] = nothing
is_of fileset tag (c ∷ cs) = three (one_number _ _) (one_number _ _) (equal (coded_option coded_ℕ) _ _)

first_kinds : (cs : List PlacedCell) → IsStable (HasFirstKinds cs)
first_kinds [] = nothing
first_kinds (c ∷ cs) = all (λ r. is_first_kind (kind_of r) ≡ true) (λ r. one_bool _ _) c.cell.records

leads : (fileset : ℕ) (places : List TagPlace) (pages : Pages) (tag : Tag) (cs : List PlacedCell) → IsStable (LeadsToFile fileset places pages tag cs)
leads fileset places pages tag cs t = record {
  leads = some_and (λ (at : CellAt). IsFile pages at cs) (λ at. is_file pages at cs) (cell_of pages places tag) (∥∥₁_map t (λ x. x.leads));
  is_of = is_of fileset tag cs (∥∥₁_map t (λ x. x.is_of));
  kinds = first_kinds cs (∥∥₁_map t (λ x. x.kinds));
}

pub files : (fileset : ℕ) (places : List TagPlace) (pages : Pages) (chains : Chains) → IsStable (AreFiles fileset places pages chains)
files fileset places pages chains t = record {
  directory = directory pages places (∥∥₁_map t (λ x. x.directory));
  none = λ tag none. is_none _ (∥∥₁_map t (λ x. x.none tag none));
  some = λ tag. if_some (LeadsToFile fileset places pages tag) (leads fileset places pages tag) (chains tag) (∥∥₁_map t (λ x. x.some tag));
  apart = λ s u other. if_some (λ xs. IfSome (chains u) (AreApart xs)) (λ xs. if_some (AreApart xs) (λ ys. no_cell xs ys) (chains u)) (chains s) (∥∥₁_map t (λ x. x.apart s u other));
}
  where
    no_cell : (xs ys : List PlacedCell) → IsStable (AreApart xs ys)
    no_cell xs ys u at inside = not (∥∥₁_map u (λ f. f at inside))

-- ---- free cells and free space

zero_kind : number_at 1 15 (zero_bytes 292) ≡ 0
unfolding number_at
zero_kind = let at : 15 + 0 ≡ 15 = omega arith in omega (arith, get_or-drop 15 (zero_bytes 292) 0 0, ap (slice_index (zero_bytes 292)) at, slice_index-zero_bytes 292 15 (omega arith))

used_kind : (k : CellKind) → kind_number k ≡ 0 → ⊥
used_kind Primary is = omega (arith, is)
used_kind Chain is = omega (arith, is)
used_kind Quota is = omega (arith, is)
used_kind Volume is = omega (arith, is)

free_or_used : (bytes : List ℕ) → IsStable (IsFreeOrUsed bytes)
free_or_used bytes = by_kind (number_at 1 15 bytes) refl
  where
    used : IsStable ((cell : Cell) × IsCell bytes cell)
    used = determined (IsCell bytes) (λ a b. Coded-set cell_code a b) (one_cell bytes) (cell_is bytes)

    free_kind : IsFreeCell bytes → number_at 1 15 bytes ≡ 0
    free_kind free = ap (number_at 1 15) free ∙ zero_kind

    by_kind : (n : ℕ) → number_at 1 15 bytes ≡ n → IsStable (IsFreeOrUsed bytes)
    by_kind zero is = first_of (λ x. used_kind x.0.head.kind (sym x.1.head.kind ∙ is)) (one_page _ _)
    by_kind (suc n) is = second_of (λ free. omega (arith, free_kind free, is)) used

cell_page : (page : List ℕ) → IsStable (IsCellPage page)
cell_page page t = record {
  magic = one_bool _ _ (∥∥₁_map t (λ x. x.magic));
  free = one_number _ _ (∥∥₁_map t (λ x. x.free));
  end = one_number _ _ (∥∥₁_map t (λ x. x.end));
  cells = λ cell within. free_or_used (bytes_of page cell) (∥∥₁_map t (λ x. x.cells cell within));
}

page_of : (table : List ℕ) (place : ℕ) (page : List ℕ) → IsStable (IsPageOf table place page)
page_of table place page t = record {
  good = cell_page page (∥∥₁_map t (λ x. x.good));
  indexed = one_number _ _ (∥∥₁_map t (λ x. x.indexed));
  linked = λ within. one_number _ _ (∥∥₁_map t (λ x. x.linked within));
}

belong : (cells : Cells) (pages : Pages) → IsStable (Belong cells pages)
belong cells pages t = record {
  run = λ vol place within. some_and (IsPageOf (table_of cells vol) place) (page_of (table_of cells vol) place) (pages (home_at cells vol place)) (∥∥₁_map t (λ x. x.run vol place within));
  on_table = λ at free. contains (table_of cells at.vol) at.page (∥∥₁_map t (λ x. x.on_table at free));
  zeros = λ at free. equal (coded_option (coded_list coded_ℕ)) _ _ (∥∥₁_map t (λ x. x.zeros at free));
}

held : (space : Spaces) (vol p : ℕ) → IsStable (IsHeld space vol p)
held space vol p = some_and (λ (v : VolumeSpace). (has v.used p ≡ true) × (is_waiting v p ≡ false)) (λ v. both (one_bool _ _) (one_bool _ _)) (volume_of space vol)

pub allocated : (space : Spaces) (cells : Cells) (pages : Pages) → IsStable (AreAllocated space cells pages)
allocated space cells pages t = record {
  belong = belong cells pages (∥∥₁_map t (λ x. x.belong));
  held = λ vol place low within. held space vol (slice_index (table_of cells vol) place) (∥∥₁_map t (λ x. x.held vol place low within));
  table = λ vol p low can. less _ _ (∥∥₁_map t (λ x. x.table vol p low can));
  opened = λ vol p low can. one_bool _ _ (∥∥₁_map t (λ x. x.opened vol p low can));
  first = λ vol p low can. not (∥∥₁_map t (λ x. x.first vol p low can));
  ends = λ vol place last. some_and (λ page. next_of page ≡ 0) (λ page. one_number _ _) (pages (home_at cells vol place)) (∥∥₁_map t (λ x. x.ends vol place last));
}

pub held_apart : (space : Spaces) (cells : Cells) (home : Home) → IsStable (IsHeldApart space cells home)
held_apart space cells home t = record { held = held space home.vol home.page (∥∥₁_map t (λ x. x.held)); off_table = not (∥∥₁_map t (λ x. x.off_table)) }

pub file_page : (space : Spaces) (cells : Cells) (places : List TagPlace) (home : Home) → IsStable (IsFilePage space cells places home)
file_page space cells places home t = record { apart = held_apart space cells home (∥∥₁_map t (λ x. x.apart)); no_tags = one_bool _ _ (∥∥₁_map t (λ x. x.no_tags)) }

pub together : (fileset : ℕ) (places : List TagPlace) (space : Spaces) (cells : Cells) (pages : Pages) (chains : Chains) → IsStable (AreTogether fileset places space cells pages chains)
together fileset places space cells pages chains t = record {
  files = files fileset places pages chains (∥∥₁_map t (λ x. x.files));
  allocated = allocated space cells pages (∥∥₁_map t (λ x. x.allocated));
  on_tables = λ tag. if_some (AreOnTables cells) (λ cs. all (λ (c : PlacedCell). Contains (table_of cells c.at.vol) c.at.page) (λ c. contains (table_of cells c.at.vol) c.at.page) cs) (chains tag) (∥∥₁_map t (λ x. x.on_tables tag));
  tag_pages = λ home is. held_apart space cells home (∥∥₁_map t (λ x. x.tag_pages home is));
  file_pages = λ tag page home is. file_page space cells places home (∥∥₁_map t (λ x. x.file_pages tag page home is));
  once = λ s u p q home a b. both (equal tag_code _ _) (one_number _ _) (∥∥₁_map t (λ x. x.once s u p q home a b));
}

pub chains_set : (a b : Chains) → IsProp (a ≡ b)
chains_set a b p q = λ i j tag. Coded-set (coded_option (coded_list placed_code)) (a tag) (b tag) (λ k. p k tag) (λ k. q k tag) i j
