-- What was kept of a domain's memory, at hand as soon as it is known to be kept.
use Rattle.std.proofs.Common.{ℕ, List, refl}
use Rattle.std.proofs.Math.Logic.{∥∥₁_map}
use Rattle.std.specs.Coded.{Coded, code_by, coded×, coded_ℕ, coded_list, coded_option}
use Rattle.file_commands.specs.domain_base.declared.place.Home.{Home}
use Rattle.file_commands.specs.free_space.VolumeSpace.{volume_space_code}
use Rattle.file_commands.specs.free_cells.declared.volume.FreeCell.{FreeCell}
use Rattle.file_commands.specs.free_cells.VolumeTable.{KeptTable}
use Rattle.file_commands.specs.tag_dirs.contracts.dir.TagPlace as tag_place
use Rattle.file_commands.specs.release_list.Listing.{Listing}
use Rattle.file_commands.specs.release_list.declared.list.Entry.{Entry}
use Rattle.file_commands.specs.release_list.contracts.list.Entry as list_entry
use Rattle.file_commands.specs.fileset_table.Table.{table_code}
use Rattle.file_commands.specs.page_ways.contracts.frame.DomainFrame as frame
use Rattle.file_commands.specs.quota_book.Book.{book_code}
use Rattle.file_commands.proofs.OfStoredSet.Stable.{equal, home_code, one_bool}
use Rattle.file_commands.specs.domain_memory.Kept.{KeepsKept}
use Rattle.file_commands.specs.domain_memory.declared.memory.DomainMemory.{DomainMemory}

kept_code : Coded KeptTable
kept_code =
    code_by (List ℕ × List FreeCell)
    (coded× (coded_list coded_ℕ) (coded_list (code_by (ℕ × ℕ) (coded× coded_ℕ coded_ℕ) (λ f. (f.page, f.cell)) (λ p. record { page = p.0; cell = p.1 }) (λ _. refl))))
    (λ k. (k.table, k.free)) (λ p. record { table = p.0; free = p.1 }) (λ _. refl)

listing_code : Coded Listing
listing_code = code_by (List Entry × List Home) (coded× (coded_list list_entry.the_row.coded) (coded_list home_code)) (λ l. (l.entries, l.tag_pages)) (λ p. record { entries = p.0; tag_pages = p.1 }) (λ _. refl)

pub kept_at_hand : (old new : DomainMemory) → ∥ KeepsKept old new ∥₁ → KeepsKept old new
kept_at_hand old new t = record {
  frame = equal frame.the_row.coded _ _ (∥∥₁_map t (λ k. k.frame));
  table = equal table_code _ _ (∥∥₁_map t (λ k. k.table));
  places = λ number. equal (coded_list tag_place.the_row.coded) _ _ (∥∥₁_map t (λ k. k.places number));
  books = λ number entry there. equal book_code _ _ (∥∥₁_map t (λ k. k.books number entry there));
  pages = λ i home. equal (coded_option (coded_list coded_ℕ)) _ _ (∥∥₁_map t (λ k. λ j. k.pages j home)) i;
  spaces = λ vol. equal (coded_option volume_space_code) _ _ (∥∥₁_map t (λ k. k.spaces vol));
  cells = λ vol. equal kept_code _ _ (∥∥₁_map t (λ k. k.cells vol));
  marks = λ vol. one_bool _ _ (∥∥₁_map t (λ k. k.marks vol));
  list = equal listing_code _ _ (∥∥₁_map t (λ k. k.list));
}
