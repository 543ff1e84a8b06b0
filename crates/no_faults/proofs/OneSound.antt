-- Whether a domain is as rules ask beside does not hang on how its files and indexes are told.
use Rattle.std.proofs.Common.{◌≡◌, ◌∙◌, List, [], ◌∷◌, Option, Some, None, Contains, refl, sym, subst, arith}
use Rattle.std.specs.Option.{option_and_then}
use Rattle.domain_memory.specs.domain_base.declared.place.CellAt.{CellAt}
use Rattle.domain_memory.specs.domain_base.declared.place.Home.{Home}
use Rattle.domain_memory.specs.page_store.Pages.{Pages}
use Rattle.domain_memory.specs.cell_records.declared.record.Record.{Record}
use Rattle.domain_memory.specs.metadata_cells.Cell.{record_of}
use Rattle.domain_memory.specs.metadata_cells.Chain.{PlacedCell}
use Rattle.domain_memory.specs.fileset_files.Shown.{index_in, index_of}
use Rattle.domain_memory.specs.index_pages.Homes.{AreIndexHomes, next_at}
use Rattle.domain_memory.specs.fileset_model.Filesets.{FilesetMap}
use Rattle.domain_memory.specs.domain_layout.Owners.{IsOnTable}
use Rattle.domain_memory.specs.domain_layout.Reached.{IsWithin}
use Rattle.domain_memory.specs.domain_standing.Domain.{DomainNow, layout_of}
use Rattle.domain_memory.specs.domain_standing.Holders.{Holder, Holds}
use Rattle.domain_memory.specs.domain_standing.Standing.{StandsDomain}
use Rattle.domain_memory.specs.standing_laws.Sound.{StandsSound}
use Rattle.no_faults.proofs.InChains.{chain_is}
use Rattle.no_faults.proofs.OfIndexes.{homes_are, index_named}
use Rattle.no_faults.proofs.Owners.{says_page}
use Rattle.no_faults.proofs.Said.{said_by}
use Rattle.no_faults.proofs.Ways.{at_of, contains_of, nothing}

-- pages from a first one on are one list
same_homes : (pages : Pages) (o : Option Home) (xs ys : List Home) → AreIndexHomes pages o xs → AreIndexHomes pages o ys → xs ≡ ys
same_homes pages None [] [] one other = refl
same_homes pages None [] (y ∷ ys) one other = absurd other
same_homes pages None (x ∷ xs) ys one other = absurd one
same_homes pages (Some first) [] ys one other = absurd one
same_homes pages (Some first) (x ∷ xs) [] one other = absurd other
same_homes pages (Some first) (x ∷ xs) (y ∷ ys) one other =
    let same : y ≡ x = sym other.0 ∙ one.0 in
    let more = same_homes pages (next_at pages x) xs ys one.2 (subst (λ (h : Home). AreIndexHomes pages (next_at pages h) ys) same other.2) in
    λ i. sym same i ∷ more i

none_there : (pages : Pages) (homes : List Home) (home : Home) → AreIndexHomes pages None homes → ¬ Contains homes home
none_there pages [] home are (k, within, is) = omega (arith, within)
none_there pages (h ∷ hs) home are among = are

module _ (d : DomainNow) (all : FilesetMap) (one two : StandsDomain d all) (sound : StandsSound d one.files one.indexes) where
  named : (at : CellAt) (first : Home) → option_and_then index_of (two.files at) ≡ Some first → option_and_then index_of (one.files at) ≡ Some first
  named at first is = by_chain (two.files at) refl is
    where
      of_first : (c : PlacedCell) (rest : List PlacedCell) → two.files at ≡ Some (c ∷ rest) → (o : Option Record) → record_of 9 c.cell.records ≡ o → option_and_then index_in o ≡ Some first
          → option_and_then index_of (one.files at) ≡ Some first
      of_first c rest there None value says = nothing first says
      of_first c rest there (Some value) value_there says =
          let chain = chain_is d all two at c rest there in
          index_named d all one sound at first (record {
            cell = c.cell;
            on = subst (λ a. IsOnTable d.pages (layout_of d) a c.cell) chain.begins (chain.tables 0 c refl);
            value = value;
            there = value_there;
            begins = says;
          })

      by_cells : (chain : List PlacedCell) → two.files at ≡ Some chain → index_of chain ≡ Some first → option_and_then index_of (one.files at) ≡ Some first
      by_cells [] there says = nothing first says
      by_cells (c ∷ rest) there says = of_first c rest there (record_of 9 c.cell.records) refl says

      by_chain : (o : Option (List PlacedCell)) → two.files at ≡ o → option_and_then index_of o ≡ Some first → option_and_then index_of (one.files at) ≡ Some first
      by_chain None there says = nothing first says
      by_chain (Some chain) there says = by_cells chain there says

  -- a page of an index is one of it as told before
  in_one : (at : CellAt) (home : Home) → Contains (two.indexes at) home → Contains (one.indexes at) home
  in_one at home inside = by_name (option_and_then index_of (two.files at)) refl (two.chains.indexed at)
    where
      by_name : (o : Option Home) → option_and_then index_of (two.files at) ≡ o → AreIndexHomes d.pages o (two.indexes at) → Contains (one.indexes at) home
      by_name None name are = absurd (none_there d.pages (two.indexes at) home are inside)
      by_name (Some first) name are =
          subst (λ hs. Contains hs home) (same_homes d.pages (Some first) (two.indexes at) (one.indexes at) are (homes_are d all one sound at first (named at first name))) inside

  within : (home : Home) (holder : Holder) → ¬ holder ≡ Holder.of_volume → ¬ holder ≡ Holder.of_log → Holds d two.files two.indexes holder home → IsWithin d.frame home
  within home Holder.of_volume no_volume no_log held = absurd (no_volume refl)
  within home Holder.of_log no_volume no_log held = absurd (no_log refl)
  within home Holder.of_table no_volume no_log held = sound.within home Holder.of_table no_volume no_log held
  within home Holder.of_cells no_volume no_log held = sound.within home Holder.of_cells no_volume no_log held
  within home (Holder.of_tags number) no_volume no_log held = sound.within home (Holder.of_tags number) no_volume no_log held
  within home (Holder.of_index at k) no_volume no_log held =
      let j = at_of (one.indexes at) home (in_one at home (contains_of (two.indexes at) k home held)) in
      sound.within home (Holder.of_index at j.0) (λ e. cc) (λ e. cc) j.1
  within home (Holder.of_file start page) no_volume no_log held =
      let said = said_by d all two start page home held in
      let says = says_page d all one sound said.at page home said.extent in
      sound.within home (Holder.of_file says.start page) (λ e. cc) (λ e. cc) says.held

  pub one_sound : StandsSound d two.files two.indexes
  one_sound = record { within = within; laters = sound.laters; good = λ at home inside. sound.good at home (in_one at home inside) }
