-- Files that have something to be let go of, once they were cut or removed.
use Rattle.std.proofs.Common.{◌≡◌, ◌∙◌, ℕ, List, [], ◌∷◌, Option, Some, None, IfSome, IsSomeAnd, refl, sym, ap, subst}
use Rattle.std.specs.Option.{option_map, option_map_or}
use Rattle.release_steps.specs.domain_base.declared.place.CellAt.{CellAt}
use Rattle.release_steps.specs.domain_base.declared.place.Home.{Home}
use Rattle.release_steps.specs.domain_base.declared.place.Tag.{Tag}
use Rattle.release_steps.specs.page_store.Pages.{Pages}
use Rattle.release_steps.specs.cell_records.declared.record.Record.{Record}
use Rattle.release_steps.specs.metadata_cells.Cell.{record_of}
use Rattle.release_steps.specs.metadata_cells.Chain.{PlacedCell}
use Rattle.release_steps.specs.tag_dirs.declared.dir.TagPlace.{TagPlace}
use Rattle.release_steps.specs.tag_dirs.Directory.{cell_of}
use Rattle.release_steps.specs.extent_maps.declared.run.PagePlace.TheVariants.{Absent, At}
use Rattle.release_steps.specs.extent_maps.Runs.{place_of}
use Rattle.release_steps.specs.free_cells.Cells.{Cells}
use Rattle.release_steps.specs.free_space.Spaces.{Spaces}
use Rattle.release_steps.specs.file_chains.Allocated.{AreAllocated}
use Rattle.release_steps.specs.file_chains.FileChanges.{AreOnTables}
use Rattle.release_steps.specs.file_chains.Files.{AreFile, IsFile, places_of}
use Rattle.release_steps.specs.fileset_files.Changes.{says_removed, with_chain, with_first}
use Rattle.release_steps.specs.fileset_files.Files.{Chains, LeadsToFile, place_at}
use Rattle.release_steps.specs.fileset_files.Together.{AreTogether}
use Rattle.release_steps.specs.fileset_files.Truncation.{Truncates, TruncatesTogether, pending_cell, says_truncated}
use Rattle.release_steps.proofs.OfFilesetFiles.Created.{one_chains}
use Rattle.release_steps.proofs.OfFilesetFiles.FirstTogether.{runs_kept}
use Rattle.release_steps.proofs.OfFilesetFiles.OneChain.{chain_same, same_tag_itself}
use Rattle.release_steps.proofs.OfFilesetFiles.RemovedTogether.{removed_keeps}
use Rattle.release_tables.specs.Going.{IsGoing}

pub placed : (chains : Chains) (tag : Tag) (chain : List PlacedCell) (p : ℕ) → chains tag ≡ Some chain → place_at chains tag p ≡ places_of chain p
placed chains tag chain p is = ap (λ o. option_map_or (λ cs. places_of cs p) o Absent) is

pub file_in : (pages : Pages) (first : PlacedCell) (rest : List PlacedCell) (o : Option CellAt) → IsSomeAnd o (λ at. IsFile pages at (first ∷ rest)) → AreFile pages first rest
file_in pages first rest None leads = absurd leads
file_in pages first rest (Some at) leads = leads.1

file_at : (pages : Pages) (chain : List PlacedCell) (o : Option CellAt) → IsSomeAnd o (λ a. IsFile pages a chain) → (at : CellAt) → Some at ≡ pending_cell chain → IsFile pages at chain
file_at pages [] None leads at is = absurd leads
file_at pages [] (Some a) leads at is = absurd leads
file_at pages (first ∷ rest) o leads at is = (first_at (record_of 6 first.cell.records) is, file_in pages first rest o leads)
  where
    first_at : (o : Option Record) → Some at ≡ option_map (λ _. first.at) o → first.at ≡ at
    first_at None is = cc
    first_at (Some r) is = cc

module _ (pages : Pages) (fileset : ℕ) (places : List TagPlace) (space : Spaces) (cells : Cells) (tag : Tag) (chains : Chains) (are : AreTogether fileset places space cells pages chains) where
  pub led : (chain : List PlacedCell) → chains tag ≡ Some chain → LeadsToFile fileset places pages tag chain
  led chain is = subst (λ o. IfSome o (LeadsToFile fileset places pages tag)) is (are.files.some tag)

  pub on_tables : (chain : List PlacedCell) → chains tag ≡ Some chain → AreOnTables cells chain
  on_tables chain is = subst (λ o. IfSome o (AreOnTables cells)) is (are.on_tables tag)

  pub once : (chain : List PlacedCell) → chains tag ≡ Some chain → (p q : ℕ) (home : Home) → places_of chain p ≡ At home → places_of chain q ≡ At home → p ≡ q
  once chain is p q home at_p at_q = (are.once tag tag p q home (placed chains tag chain p is ∙ at_p) (placed chains tag chain q is ∙ at_q)).1

  pub live_going : (at : CellAt) (chain : List PlacedCell) → chains tag ≡ Some chain → Some at ≡ pending_cell chain → IsGoing space cells pages at chain
  live_going at chain is pending = record {
    allocated = are.allocated;
    file = file_at pages chain (cell_of pages places tag) (led chain is).leads at pending;
    on_tables = on_tables chain is;
    held = λ p home there. (are.file_pages tag p home (placed chains tag chain p is ∙ there)).apart;
    once = once chain is;
  }

  pub removed_going : (new : Pages) (at : CellAt) → AreAllocated space cells new → IsSomeAnd (chains tag) (λ cs. IsFile new at (with_first says_removed cs)) → (chain : List PlacedCell) × IsGoing space cells new at chain
  removed_going new at allocated pending = by_chain (chains tag) refl pending
    where
      by_chain : (o : Option (List PlacedCell)) → chains tag ≡ o → IsSomeAnd o (λ cs. IsFile new at (with_first says_removed cs)) → (chain : List PlacedCell) × IsGoing space cells new at chain
      by_chain None is file = absurd file
      by_chain (Some []) is file = absurd file
      by_chain (Some (first ∷ rest)) is file =
          let was = file_in pages first rest (cell_of pages places tag) (led (first ∷ rest) is).leads in
          let runs = runs_kept says_removed first rest (removed_keeps pages first rest was) in
          let same = (λ (p : ℕ). ap (λ rs. place_of rs p) runs) in (
            with_first says_removed (first ∷ rest),
            record {
              allocated = allocated;
              file = file;
              on_tables = on_tables (first ∷ rest) is;
              held = λ p home there. (are.file_pages tag p home (placed chains tag (first ∷ rest) p is ∙ sym (same p) ∙ there)).apart;
              once = λ p q home at_p at_q. once (first ∷ rest) is p q home (sym (same p) ∙ at_p) (sym (same q) ∙ at_q);
            },
          )

-- a file that was cut
module _ (new : Pages) (fileset : ℕ) (places : List TagPlace) (space : Spaces) (cells : Cells) (tag : Tag) (size : ℕ) (chains : Chains) (together : TruncatesTogether fileset places tag size space cells chains new) where
  pub cut_going : (left : Option CellAt) → Truncates fileset places tag size left chains new → IfSome left (λ at. (chain : List PlacedCell) × IsGoing space cells new at chain)
  cut_going None cuts = tt
  cut_going (Some at) cuts = by_chain (chains tag) refl cuts.pending
    where
      now : Chains
      now = with_chain tag (with_first (says_truncated size together.lowered)) chains

      by_chain : (o : Option (List PlacedCell)) → chains tag ≡ o → IsSomeAnd o (λ cs. Some at ≡ pending_cell (with_first (says_truncated size cuts.lowered) cs)) → (chain : List PlacedCell) × IsGoing space cells new at chain
      by_chain None is pending = absurd pending
      by_chain (Some cs) is pending =
          let after = with_first (says_truncated size cuts.lowered) cs in (
            after,
            live_going new fileset places space cells tag now together.together at after
                (one_chains new fileset places now (with_chain tag (with_first (says_truncated size cuts.lowered)) chains) together.together.files cuts.files tag
                ∙ chain_same tag (with_first (says_truncated size cuts.lowered)) chains tag (same_tag_itself tag) ∙ ap (option_map (with_first (says_truncated size cuts.lowered))) is)
                pending,
          )
