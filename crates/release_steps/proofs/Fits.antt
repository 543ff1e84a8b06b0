-- What steps keep of files and of the list of what is to be let go of.
use Rattle.std.proofs.Common.{◌≡◌, ◌∙◌, ◌⊎◌, inl, inr, ℕ, List, ◌∷◌, Some, None, IsSome, IsSomeAnd, Contains, sym, ap, subst, arith, ⊎_elim}
use Rattle.release_list.specs.domain_base.declared.place.CellAt.{CellAt}
use Rattle.release_list.specs.domain_base.declared.version.Version.{Version}
use Rattle.release_list.specs.page_store.Pages.{Pages}
use Rattle.release_list.specs.cell_records.declared.record.Record.{Record}
use Rattle.release_list.specs.metadata_cells.Cell.{Cell, record_of}
use Rattle.release_list.specs.metadata_cells.Chain.{PlacedCell}
use Rattle.release_list.specs.file_chains.Files.{HasMap, IsFile}
use Rattle.release_list.specs.fileset_files.Files.{first_record}
use Rattle.release_list.specs.cell_records.declared.record.Leftover.TheVariants.{Trim}
use Rattle.std.specs.Option.{option_and_then}
use Rattle.release_list.specs.declared.list.Entry.{Entry}
use Rattle.release_list.specs.Listed.{leftover_in}
use Rattle.release_list.specs.Listing.{AreInOrder}
use Rattle.release_list.specs.Standing.{IsQuotaCell, ReadsThrough, Source, source_in}
use Rattle.release_list.specs.Steps.{EndsReading, EndsTrim, IsLast, IsWell, Now, Step}
use Rattle.release_list.proofs.Lists.{AreEntriesOnce, last_alone}
use Rattle.release_list.proofs.Spread.{none_not}
use Rattle.release_list.proofs.Standings.{no_record, source_by, standing}
use Rattle.release_steps.proofs.Narrower.{in_last, narrower_step}

pub record HasOneMap (cell : Cell) : Type 0 where
  pub value : Record
  pub map : HasMap cell value
  pub attributes : IsSome (record_of 1 cell.records)

-- no file has two entries, and that of a clone's file stands after that of the file; the clones
-- that are given are those that read through the files; what is read through reads through none; and
-- first cells have maps, or are of quotas
pub record Fits (now : Now) : Type 0 where
  pub once : AreEntriesOnce now.list.entries
  pub order : AreInOrder now.list.entries
  pub given : (e : Entry) → Contains now.list.entries e → (c : CellAt) → e.clone ≡ Some c → ReadsThrough now.files c e.at
  pub all : (e : Entry) → Contains now.list.entries e → (c : CellAt) → ReadsThrough now.files c e.at → e.clone ≡ Some c
  pub one_deep : (a b c : CellAt) → ReadsThrough now.files a b → ¬ ReadsThrough now.files b c
  pub maps : (a : CellAt) (first : PlacedCell) (rest : List PlacedCell) → now.files a ≡ Some (first ∷ rest) → HasOneMap first.cell ⊎ IsQuotaCell first.cell

pub map_in : (pages : Pages) (at : CellAt) (first : PlacedCell) (rest : List PlacedCell) → IsFile pages at (first ∷ rest) → HasOneMap first.cell
map_in pages at first rest file = record { value = file.1.value; map = file.1.map; attributes = file.1.attributes }

pub well_fits : (now : Now) → IsWell now → Fits now
well_fits now well = record {
  once = well.listed.once;
  order = well.listed.order;
  given = λ e inside c some. (well.listed.each e inside).given c some;
  all = λ e inside c reads. (well.listed.each e inside).all c reads;
  one_deep = well.together.one_deep;
  maps = λ a first rest is. ⊎_elim
      (λ file. inl (map_in now.pages a first rest file))
      (λ quotas. inr quotas.1.cells.0)
      (standing now.space now.cells now.pages now.files well.together a (first ∷ rest) is).stands;
}

-- each first cell of a chain has a map
abbrev pub HasMaps : List PlacedCell → Type 0
HasMaps cells = (first : PlacedCell) (rest : List PlacedCell) → cells ≡ first ∷ rest → HasOneMap first.cell

-- so it is of a chain whose first cell has a record that no quota cell has
maps_by : (now : Now) → Fits now → (a : CellAt) (cells : List PlacedCell) → now.files a ≡ Some cells → (k : ℕ) → ¬ k ≡ 7 → ¬ k ≡ 8 → ¬ first_record k cells ≡ None → HasMaps cells
maps_by now fits a cells is k seven eight has first rest all = ⊎_elim
    (λ map. map)
    (λ quota. absurd (has (ap (first_record k) all ∙ no_record k seven eight first.cell.records quota.limits)))
    (fits.maps a first rest (is ∙ ap Some all))

pub trim_maps : (old new : Now) → Fits old → (s : EndsTrim old new) → HasMaps s.chain
trim_maps old new fits s = maps_by old fits s.entry.at s.chain s.is 6 (λ e. omega (arith, e)) (λ e. omega (arith, e))
    (λ none. let e : None ≡ Some Trim = sym (ap (option_and_then leftover_in) none) ∙ s.trim in absurd (cc))

pub reading_maps : (old new : Now) → Fits old → (s : EndsReading old new) → HasMaps s.own
reading_maps old new fits s = maps_by old fits s.clone s.own s.own_is 2 (λ e. omega (arith, e)) (λ e. omega (arith, e))
    (λ none.
    let reads = fits.given s.entry (in_last old.list s.front s.entry s.last) s.clone s.given in
    subst (λ o. IsSomeAnd o (λ (x : Source). x.at ≡ s.entry.at)) (source_by old.files s.clone s.own s.own_is ∙ ap (option_and_then source_in) none) reads)

-- the last entry's clone has no entry
pub alone : (now : Now) → Fits now → (front : List Entry) (entry : Entry) → IsLast front entry now.list → (e : Entry) → Contains now.list.entries e → ¬ entry.clone ≡ Some e.at
alone now fits front entry last e inside =
    last_alone front entry e (subst AreInOrder last fits.order) (subst (λ (es : List Entry). Contains es e) last inside)

module _ (group : ℕ) (version : Version) (old new : Now) (step : Step group version old new) (fits : Fits old) (once : AreEntriesOnce new.list.entries) (order : AreInOrder new.list.entries)
    (back : (a b : CellAt) → ReadsThrough new.files a b → ReadsThrough old.files a b) (on : (c : CellAt) (e : Entry) → Contains new.list.entries e → e.clone ≡ Some c → ReadsThrough old.files c e.at → ReadsThrough new.files c e.at)
    (all : (e : Entry) → Contains new.list.entries e → (c : CellAt) → ReadsThrough new.files c e.at → e.clone ≡ Some c) (maps : (a : CellAt) (first : PlacedCell) (rest : List PlacedCell) → new.files a ≡ Some (first ∷ rest) → HasOneMap first.cell ⊎ IsQuotaCell first.cell) where
  given_now : (e : Entry) → Contains new.list.entries e → (c : CellAt) → e.clone ≡ Some c → ReadsThrough new.files c e.at
  given_now e inside c some =
      let x = narrower_step group version old new step e inside in
      ⊎_elim (λ kept. on c e inside some (subst (ReadsThrough old.files c) x.at (fits.given x.was x.inside c (sym kept ∙ some)))) (λ gone. absurd (none_not c (sym gone ∙ some))) x.clone

  pub fits_by : Fits new
  fits_by = record {
    once = once;
    order = order;
    given = given_now;
    all = all;
    one_deep = λ a b c x y. fits.one_deep a b c (back a b x) (back b c y);
    maps = maps;
  }
