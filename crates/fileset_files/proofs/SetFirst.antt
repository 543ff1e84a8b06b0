-- A tag's attributes are set: the first cell of its file has another record of attributes.
use Rattle.std.proofs.Common.{Option, true, ◌≡◌, ◌∙◌, ℕ, false, nat_le, List, ◌∷◌, [], Some, None, IfSome, IsSome, IsSomeAnd, Ok, Err, OnOk, Result, refl, sym, ap, subst}
use Rattle.std.proofs.lemmas.Bool.{true≢false}
use Rattle.std.specs.Option.{option_and_then, option_map}
use Rattle.file_chains.specs.domain_base.declared.place.CellAt.{CellAt}
use Rattle.file_chains.specs.domain_base.declared.place.Home.{Home}
use Rattle.file_chains.specs.domain_base.declared.place.Tag.{Tag}
use Rattle.file_chains.specs.page_store.Pages.{Pages, same_home}
use Rattle.file_chains.specs.cell_records.declared.record.Record.{Record}
use Rattle.file_chains.specs.cell_records.Records.{Allowed, kind_of}
use Rattle.file_chains.specs.metadata_cells.Cell.{Cell, record_of}
use Rattle.file_chains.specs.metadata_cells.CellPage.{home_of}
use Rattle.file_chains.specs.metadata_cells.Chain.{LeavesOthers, PlacedCell, StandsAt, is_at}
use Rattle.tag_dirs.specs.declared.dir.TagPlace.{TagPlace}
use Rattle.file_chains.specs.Changes.{HasRoom, with_record}
use Rattle.file_chains.specs.extent_records.Writing.{most_rows}
use Rattle.file_chains.specs.Files.{AreFile, IsFile, has_rows}
use Rattle.file_chains.proofs.MapRecords.{kind_found, value_has_rows}
use Rattle.fileset_files.specs.declared.attributes.Attributes.{Attributes}
use Rattle.fileset_files.specs.Changes.{CanSay, ChangesFirst, says_attributes, with_attributes, with_chain, with_first}
use Rattle.fileset_files.specs.Files.{AreFiles, Chains, HasFirstKinds, IsLiveCell, LeadsToFile, is_first_kind, attributes_in, attributes_of, first_record}
use Rattle.fileset_files.proofs.FirstRoom.{kinds_replaced}
use Rattle.fileset_files.proofs.FirstCell.{file_now, find_put}
use Rattle.fileset_files.proofs.Live.{live_none, live_some}
use Rattle.fileset_files.proofs.OneFile.{files_now}
use Rattle.fileset_files.proofs.Room.{AreFit, allowed_found, allowed_with, attributes_kind, same_room}

pub map_ok : {A E : Type 0} {P Q : Type 0} → (P → Q) → (r : Result A E) → OnOk r P → OnOk r Q
map_ok f (Ok a) p = f p
map_ok f (Err e) p = tt

-- a live tag leads to a cell, and that has attributes
pub no_cell : (pages : Pages) (value : Attributes) (tag : Tag) (chains : Chains) → CanSay value tag chains → IsLiveCell pages (chains tag) None → ⊥
no_cell pages value tag chains can live =
    subst (λ o. IsSomeAnd o (λ (was : Attributes). was.kind ≡ value.kind)) (sym (live_none attributes_of pages (chains tag) live)) can.kind

pub no_record : (pages : Pages) (value : Attributes) (tag : Tag) (chains : Chains) (at : CellAt) → CanSay value tag chains → IsLiveCell pages (chains tag) (Some at) → ((cells : List PlacedCell) → IsFile pages at cells → None ≡ first_record 1 cells) → ⊥
no_record pages value tag chains at can live none =
    let is = live_some attributes_of pages (chains tag) at live in
    subst (λ o. IsSomeAnd o (λ (was : Attributes). was.kind ≡ value.kind)) (is.has ∙ ap (option_and_then attributes_in) (sym (none is.cells is.is_file))) can.kind

module _ (pages : Pages) (value : Attributes) (tag : Tag) (chains : Chains) (at : CellAt) (live : IsLiveCell pages (chains tag) (Some at)) (was now : Record)
    (found : (cells : List PlacedCell) → IsFile pages at cells → Some was ≡ first_record 1 cells) (is_now : now ≡ with_attributes value was) where
  -- the first cell of the tag's file
  pub record First : Type 0 where
    pub first : PlacedCell
    pub rest : List PlacedCell
    pub is : chains tag ≡ Some (first ∷ rest)
    pub is_at : first.at ≡ at
    pub are : AreFile pages first rest
    pub has : record_of 1 first.cell.records ≡ Some was

  pub the_first : First
  the_first = let is = live_some attributes_of pages (chains tag) at live in by_cells is.cells is.is is.is_file
    where
      by_cells : (cells : List PlacedCell) → chains tag ≡ Some cells → IsFile pages at cells → First
      by_cells [] is is_file = absurd is_file
      by_cells (first ∷ rest) is is_file = record { first = first; rest = rest; is = is; is_at = is_file.0; are = is_file.1; has = sym (found (first ∷ rest) is_file) }

  kind_was : kind_of was ≡ 1
  kind_was = kind_found 1 the_first.first.cell.records was the_first.has

  pub kind_now : kind_of now ≡ 1
  kind_now = ap kind_of is_now ∙ attributes_kind value was ∙ kind_was

  pub allowed_now : AreFit value → Allowed now
  allowed_now fit =
      subst Allowed (sym is_now) (allowed_with value was fit kind_was (allowed_found 1 the_first.first.cell.records was the_first.has the_first.are.links.stands.is.well_formed.allowed))

  pub stands_first : StandsAt pages at the_first.first.cell
  stands_first = subst (λ (a : CellAt). StandsAt pages a the_first.first.cell) the_first.is_at the_first.are.links.stands

  pub room_now : AreFit value → HasRoom pages at (kind_of now) (Some now)
  room_now fit =
      same_room pages at the_first.first.cell was now stands_first (ap (λ kind. record_of kind the_first.first.cell.records) kind_now ∙ the_first.has) (allowed_now fit)

  kinds_of : (fileset : ℕ) (places : List TagPlace) (o : Option (List PlacedCell)) → IfSome o (LeadsToFile fileset places pages tag) → IfSome o (λ cells. HasFirstKinds cells)
  kinds_of fileset places None some = tt
  kinds_of fileset places (Some cells) some = some.kinds

  pub files_set : (fileset : ℕ) (places : List TagPlace) (after : Pages) → AreFiles fileset places pages chains
      → StandsAt after at (with_record (kind_of now) (Some now) the_first.first.cell) → LeavesOthers (is_at at) pages after
      → ((home : Home) → same_home home (home_of at) ≡ false → after home ≡ pages home) → AreFiles fileset places after (with_chain tag (with_first (says_attributes value)) chains)
  files_set fileset places after are stands leaves elsewhere =
      let f = the_first in
      let says : with_record (kind_of now) (Some now) f.first.cell ≡ says_attributes value f.first.cell
      = (λ i. with_record (kind_now i) (Some now) f.first.cell) ∙ ap (λ o. with_record 1 o f.first.cell) (ap Some is_now ∙ sym (ap (option_map (with_attributes value)) f.has)) in
      let there : StandsAt after f.first.at (says_attributes value f.first.cell)
      = subst (λ (a : CellAt). StandsAt after a (says_attributes value f.first.cell)) (sym f.is_at) (subst (λ (c : Cell). StandsAt after at c) says stands) in
      let leaves_first = subst (λ (a : CellAt). LeavesOthers (is_at a) pages after) (sym f.is_at) leaves in
      let new_value = option_map (with_attributes value) (record_of 1 f.first.cell.records) in
      let no_rows : has_rows now ≡ false = ap (λ k. nat_le 1 (most_rows k)) kind_now in
      let value_is : new_value ≡ Some now = ap (option_map (with_attributes value)) f.has ∙ ap Some (sym is_now) in
      let of_kind = subst (λ o. IfSome o (λ r. kind_of r ≡ 1)) (sym value_is) kind_now in
      files_now (says_attributes value) tag chains pages after fileset places are f.first f.rest f.is f.are.links.stands.bytes f.are.links.stands.there leaves_first
      (subst (λ (a : CellAt). (home : Home) → same_home home (home_of a) ≡ false → after home ≡ pages home) (sym f.is_at) elsewhere)
      (file_now pages after f.first f.rest 1 new_value f.are leaves_first there of_kind (subst (λ o. IfSome o (λ r. has_rows r ≡ false)) (sym value_is) no_rows)
      (λ kind. true≢false (sym (value_has_rows f.are.value f.are.map.is_map) ∙ ap (λ k. nat_le 1 (most_rows k)) kind))
      (subst (λ o. IsSome o) (sym (find_put 1 new_value f.first.cell.records of_kind ∙ value_is)) refl))
      refl
      (kinds_replaced 1 new_value f.first.cell.records (subst (λ o. IfSome o (λ cells. HasFirstKinds cells)) f.is (kinds_of fileset places (chains tag) (are.some tag))) (subst (λ o. IfSome o (λ r. is_first_kind (kind_of r) ≡ true)) (sym value_is) (ap is_first_kind kind_now)))

  pub changes_first : (after : Pages) → LeavesOthers (is_at at) pages after → ((home : Home) → same_home home (home_of at) ≡ false → after home ≡ pages home) → ChangesFirst (chains tag) pages after
  changes_first after leaves elsewhere =
      subst (λ o. ChangesFirst o pages after) (sym the_first.is)
      (subst (λ (a : CellAt). LeavesOthers (is_at a) pages after × ((home : Home) → same_home home (home_of a) ≡ false → after home ≡ pages home)) (sym the_first.is_at) (leaves, elsewhere))
