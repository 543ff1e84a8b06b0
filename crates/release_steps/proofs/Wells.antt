-- All belongs together after steps, and the list is one of the files.
use Rattle.std.proofs.Common.{IsSome, List, None, Some, [], ℕ, ◌++◌, ◌∙◌, ◌∷◌, ◌≡◌, ap, refl, subst, sym}
use Rattle.release_list.specs.domain_base.declared.version.Version.{Version}
use Rattle.release_list.specs.metadata_cells.Chain.{PlacedCell}
use Rattle.release_list.specs.free_cells.Cells.{Cells}
use Rattle.release_list.specs.free_space.Spaces.{Spaces}
use Rattle.release_list.specs.file_chains.Allocated.{AreAllocated}
use Rattle.release_list.specs.fileset_files.Changes.{with_first}
use Rattle.release_list.specs.Listing.{Listing, without_clone}
use Rattle.release_list.specs.Standing.{Files, source_of, with_file}
use Rattle.release_list.specs.Steps.{EndsFile, EndsReading, EndsTrim, GivesTagPage, IsWell, LetsPages, LosesQuotaCell, Now, Step, Steps, file_ends, more, none, now_of, pages_go, quota_goes, reading_ends, says_no_source, says_trimmed, tag_page_goes, trim_ends}
use Rattle.release_list.proofs.Ends.{alone_listed, alone_together, gone_listed, gone_together, trim_listed, trim_together}
use Rattle.release_list.proofs.Spread.{now, some_same, spread_listed, spread_together}
use Rattle.release_list.proofs.Standings.{not_nil, source_file, standing, trim_file}
use Rattle.release_list.proofs.Stepping.{first_stands, listed_as}
use Rattle.release_list.proofs.Well.{source_chain, tag_page_well}
use Rattle.release_steps.proofs.Narrower.{in_last}
use Rattle.release_list.proofs.QuotaCells.{quota_listed, quota_together}
use Rattle.release_list.specs.Listed.{left_of}

-- all is well by its parts
pub well_by : (now : Now) (list : Listing) (files : Files) (space : Spaces) (cells : Cells) → now.list ≡ list → now.files ≡ files → now.space ≡ space → now.cells ≡ cells → IsWell (now_of list files space cells now.pages) → IsWell now
well_by now list files space cells same_list same_files same_space same_cells well =
    let l = subst (λ (l : Listing). IsWell (now_of l files space cells now.pages)) (sym same_list) well in
    let f = subst (λ (f : Files). IsWell (now_of now.list f space cells now.pages)) (sym same_files) l in
    let s = subst (λ (s : Spaces). IsWell (now_of now.list now.files s cells now.pages)) (sym same_space) f in
    let c = subst (λ (c : Cells). IsWell (now_of now.list now.files now.space c now.pages)) (sym same_cells) s in
    record { together = c.together; listed = c.listed }

module _ (group : ℕ) (version : Version) (old new : Now) (well : IsWell old) where
  lets_well : LetsPages group version old new → IsWell new
  lets_well s =
      let is_entry = well.listed.each s.entry (in_last old.list s.front s.entry s.last) in
      well_by new old.list
      (now old.space old.cells old.pages old.files well.together s.entry is_entry s.chain s.is s.file s.reader s.own s.given group version new.space new.cells new.pages s.what s.releases s.others s.allocated)
      new.space new.cells s.same_list s.files refl refl
      (record {
        together = spread_together old.space old.cells old.pages old.files well.together s.entry is_entry s.chain s.is s.file s.reader s.own s.given group version new.space new.cells new.pages s.what s.releases s.others s.allocated;
        listed = spread_listed old.space old.cells old.pages old.files well.together s.entry is_entry s.chain s.is s.file s.reader s.own s.given group version new.space new.cells new.pages s.what s.releases s.others s.allocated old.list well.listed;
      })

  trim_well : EndsTrim old new → IsWell new
  trim_well s = by_chain s.chain s.is s.files
    where
      by_chain : (chain : List PlacedCell) → old.files s.entry.at ≡ Some chain → new.files ≡ with_file s.entry.at (Some (with_first says_trimmed chain)) old.files → IsWell new
      by_chain [] is files = absurd (not_nil old.pages s.entry.at (standing old.space old.cells old.pages old.files well.together s.entry.at [] is).stands)
      by_chain (first ∷ rest) is files =
          let file = trim_file old.pages s.entry.at (first ∷ rest) (standing old.space old.cells old.pages old.files well.together s.entry.at (first ∷ rest) is).stands (ap left_of (some_same (first ∷ rest) s.chain (sym is ∙ s.is)) ∙ s.trim) in
          let here = s.stands first.cell (first_stands old.pages s.entry.at first rest (standing old.space old.cells old.pages old.files well.together s.entry.at (first ∷ rest) is).stands) in
          well_by new (record { entries = s.front; tag_pages = old.list.tag_pages }) (with_file s.entry.at (Some (with_first says_trimmed (first ∷ rest))) old.files) old.space old.cells s.list files s.same_space s.same_cells
          (record {
            together = trim_together old.space old.cells old.pages new.pages old.files well.together s.front s.entry old.list.tag_pages first rest is file s.others here s.well_formed s.headers;
            listed = trim_listed old.space old.cells old.pages new.pages old.files well.together s.front s.entry old.list.tag_pages first rest is file s.others here s.well_formed s.headers
                (listed_as old.space old.cells old.files old.list s.front s.entry s.last well.listed);
          })

  reading_well : EndsReading old new → IsWell new
  reading_well s = by_own s.own s.own_is s.files
    where
      by_own : (own : List PlacedCell) → old.files s.clone ≡ Some own → new.files ≡ with_file s.clone (Some (with_first says_no_source own)) old.files → IsWell new
      by_own [] is files = absurd (not_nil old.pages s.clone (standing old.space old.cells old.pages old.files well.together s.clone [] is).stands)
      by_own (first ∷ rest) is files =
          let entry_is = well.listed.each s.entry (in_last old.list s.front s.entry s.last) in
          let own = source_chain old.files s.clone s.entry.at (entry_is.given s.clone s.given) in
          let file = source_file old.pages s.clone (first ∷ rest) (standing old.space old.cells old.pages old.files well.together s.clone (first ∷ rest) is).stands (subst (λ (cs : List PlacedCell). IsSome (source_of cs)) (some_same own.0 (first ∷ rest) (sym own.1 ∙ is)) own.2) in
          let here = s.stands first.cell (first_stands old.pages s.clone first rest (standing old.space old.cells old.pages old.files well.together s.clone (first ∷ rest) is).stands) in
          let listed = listed_as old.space old.cells old.files old.list s.front s.entry s.last well.listed in
          well_by new (record { entries = s.front ++ record s.entry { clone = None } ∷ []; tag_pages = old.list.tag_pages }) (with_file s.clone (Some (with_first says_no_source (first ∷ rest))) old.files) old.space old.cells s.list files s.same_space s.same_cells
          (record {
            together = alone_together old.space old.cells old.pages new.pages old.files well.together s.front s.entry old.list.tag_pages listed s.clone s.given first rest is file s.others here s.well_formed s.headers;
            listed = alone_listed old.space old.cells old.pages new.pages old.files well.together s.front s.entry old.list.tag_pages listed s.clone s.given first rest is file s.others here s.well_formed s.headers;
          })

  file_well : EndsFile old new → IsWell new
  file_well s = by_chain s.chain s.is
    where
      by_chain : (chain : List PlacedCell) → old.files s.entry.at ≡ Some chain → IsWell new
      by_chain [] is = absurd (not_nil old.pages s.entry.at (standing old.space old.cells old.pages old.files well.together s.entry.at [] is).stands)
      by_chain (first ∷ rest) is =
          let listed = listed_as old.space old.cells old.files old.list s.front s.entry s.last well.listed in
          let allocated = subst (λ (space : Spaces). AreAllocated space new.cells new.pages) s.same_space s.allocated in
          well_by new (record { entries = without_clone s.entry.at s.front; tag_pages = old.list.tag_pages }) (with_file s.entry.at None old.files) old.space new.cells s.list s.files s.same_space refl
          (record {
            together = gone_together old.space old.cells new.cells old.pages new.pages old.files well.together s.front s.entry old.list.tag_pages listed first rest is s.others s.frees allocated;
            listed = gone_listed old.space old.cells new.cells old.pages new.pages old.files well.together s.front s.entry old.list.tag_pages listed first rest is s.others s.frees allocated;
          })

  quota_well : LosesQuotaCell old new → IsWell new
  quota_well s =
      let allocated = subst (λ (space : Spaces). AreAllocated space new.cells new.pages) s.same_space s.allocated in
      well_by new old.list (with_file s.entry.at (Some s.after) old.files) old.space new.cells s.same_list s.files s.same_space refl
      (record {
        together = quota_together old.space old.cells new.cells old.pages new.pages old.files well.together s.entry.at s.first s.second s.rest s.is s.quotas s.after s.after_is s.stands s.others s.frees allocated;
        listed = quota_listed old.space old.cells new.cells old.pages new.pages old.files well.together s.entry.at s.first s.second s.rest s.is s.quotas s.after s.after_is s.stands s.others s.frees allocated old.list well.listed;
      })

  tag_well : GivesTagPage group old new → IsWell new
  tag_well s =
      let was : IsWell (now_of old.list old.files old.space old.cells old.pages) = record { together = well.together; listed = well.listed } in
      well_by new new.list old.files new.space old.cells refl s.same_files refl s.same_cells
      (tag_page_well group old.list new.list old.files old.space new.space old.cells old.pages new.pages was s.takes)

  pub well_step : Step group version old new → IsWell new
  well_step (pages_go s) = lets_well s
  well_step (quota_goes s) = quota_well s
  well_step (trim_ends s) = trim_well s
  well_step (reading_ends s) = reading_well s
  well_step (file_ends s) = file_well s
  well_step (tag_page_goes s) = tag_well s

pub wells_stay : (group : ℕ) (version : Version) (first : Now) (count : ℕ) (last : Now) → IsWell first → Steps group version first count last → IsWell last
wells_stay group version first count last well steps =
    elim steps as (λ count last steps. IsWell last) [
      | none ↦ well
      | more n between last (steps → was) step ↦ well_step group version between last was step
    ]
