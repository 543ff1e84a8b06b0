-- What is put into a set of all indexes of a fileset is what is wrong with them.
use Rattle.std.proofs.Common.{◌≡◌, ◌∙◌, ◌⊎◌, ◌↔◌, inl, inr, ℕ, List, Contains, sym, subst, ⊎_elim}
use Rattle.std.specs.BTreeMap.{BTreeMap}
use Rattle.std.specs.Prelude.{Vec}
use Rattle.page_faults.specs.domain_base.declared.place.Home.{Home}
use Rattle.page_faults.specs.domain_base.declared.place.Tag.{Tag}
use Rattle.page_faults.specs.page_store.Pages.{Pages}
use Rattle.page_faults.specs.fileset_table.Table.{Table}
use Rattle.page_faults.specs.domain_layout.DirectoryRules.{IsWrongIndex, IsWrongTotal}
use Rattle.page_faults.specs.domain_layout.Reached.{Frame}
use Rattle.directory_faults.specs.Rows.{AreRowsIn}
use Rattle.directory_faults.specs.There.{AreFilesIn}
use Rattle.directory_faults.specs.declared.rows.RowThere.{RowThere}
use Rattle.directory_faults.specs.declared.there.FileThere.{FileThere}
use Rattle.index_row_faults.specs.Keys.{AreKeys, keys_in}
use Rattle.index_row_faults.specs.There.{AreIndexesIn, WasReadIndex}
use Rattle.index_row_faults.specs.Totals.{IsIndexRead, IsWrongBy}
use Rattle.index_row_faults.specs.Undue.{HasUndueIndex}
use Rattle.index_row_faults.specs.Wrong.{HasWrongIndex}
use Rattle.index_row_faults.specs.declared.there.IndexThere.{IndexThere}
use Rattle.index_row_faults.proofs.OneIndex.{by_read}
use Rattle.index_row_faults.proofs.WrongFound.{IsEntryFault, index_found}

module _ {Z : Type 0} (pages : Pages) (frame : Frame) (table : Table) (number : ℕ) (files : List FileThere) (rows : List RowThere)
    (are_files : AreFilesIn pages frame table number files) (are_rows : AreRowsIn pages frame table number rows) (keys : BTreeMap Tag (Vec (ℕ × ℕ) Z)) (are_keys : AreKeys rows keys)
    (indexes : List IndexThere) (are_indexes : AreIndexesIn pages table number indexes) (read : (index : IndexThere) → Contains indexes index → IsIndexRead pages frame index.first) where
  abbrev IsEntry : IndexThere → Home → Type 0
  IsEntry index home = IsEntryFault pages frame table number index.tag index.first home

  abbrev IsTotal : IndexThere → Type 0
  IsTotal index = IsWrongTotal pages frame table number index.tag index.first index.total

  abbrev IsBy : IndexThere → Home → Type 0
  IsBy index home = IsWrongBy pages frame (keys_in keys index.tag) index home

  by_index : (index : IndexThere) → Contains indexes index → (home : Home) → IsBy index home ↔ (IsEntry index home ⊎ ((home ≡ index.first) × IsTotal index))
  by_index index among home =
      let its = read index among in
      let found = index_found pages frame table number files rows are_files are_rows keys are_keys index its.homes its.unread its.read home in
      let by = by_read pages frame (keys_in keys index.tag) index its.homes its.unread its.read home in
      ((λ is. found.0 (by.1 is)), (λ is. by.0 (found.1 is)))

  abbrev IsOne : Home → Type 0
  IsOne home = (index : IndexThere) × Contains indexes index × IsBy index home

  by_rule : (home : Home) → HasWrongIndex pages frame table number home → HasUndueIndex pages table number home ⊎ IsOne home
  by_rule home wrong = by_kind wrong.wrong
    where
      was : WasReadIndex indexes wrong.tag wrong.seen wrong.first wrong.total
      was = are_indexes.all wrong.tag wrong.seen wrong.first wrong.total wrong.has

      by_kind : IsWrongIndex pages frame table number wrong.tag wrong.seen wrong.first wrong.total home → HasUndueIndex pages table number home ⊎ IsOne home
      by_kind (inl entry) =
          let its : IsEntry was.index home = subst (λ (t : Tag). IsEntryFault pages frame table number t was.index.first home) (sym was.tag_is)
          (subst (λ (f : Home). IsEntryFault pages frame table number wrong.tag f home) (sym was.first_is) entry) in
          inr (was.index, was.among, (by_index was.index was.among home).1 (inl its))
      by_kind (inr (same, inl kind)) = inl (record { tag = wrong.tag; seen = wrong.seen; first = wrong.first; total = wrong.total; has = wrong.has; at = same; wrong = inl kind })
      by_kind (inr (same, inr (inl second))) = inl (record { tag = wrong.tag; seen = wrong.seen; first = wrong.first; total = wrong.total; has = wrong.has; at = same; wrong = inr second })
      by_kind (inr (same, inr (inr total))) =
          let its : IsTotal was.index = subst (λ (t : Tag). IsWrongTotal pages frame table number t was.index.first was.index.total) (sym was.tag_is)
          (subst (λ (f : Home). IsWrongTotal pages frame table number wrong.tag f was.index.total) (sym was.first_is)
          (subst (λ (n : ℕ). IsWrongTotal pages frame table number wrong.tag wrong.first n) (sym was.total_is) total)) in
          inr (was.index, was.among, (by_index was.index was.among home).1 (inr (same ∙ sym was.first_is, its)))

  of_undue : (home : Home) → HasUndueIndex pages table number home → HasWrongIndex pages frame table number home
  of_undue home undue = record {
    tag = undue.tag;
    seen = undue.seen;
    first = undue.first;
    total = undue.total;
    has = undue.has;
    wrong = inr (undue.at, ⊎_elim (λ kind. inl kind) (λ second. inr (inl second)) undue.wrong);
  }

  of_one : (home : Home) → IsOne home → HasWrongIndex pages frame table number home
  of_one home (index, among, is) =
      let its = are_indexes.each index among in
      record {
        tag = index.tag;
        seen = its.seen;
        first = index.first;
        total = index.total;
        has = its.has;
        wrong = ⊎_elim (λ entry. inl entry) (λ (same, total). inr (same, inr (inr total))) ((by_index index among home).0 is);
      }

  pub all_wrong : (old mid new : Home → Type 0) → ((home : Home) → mid home ↔ (old home ⊎ HasUndueIndex pages table number home)) → ((home : Home) → new home ↔ (mid home ⊎ IsOne home))
      → (home : Home) → new home ↔ (old home ⊎ HasWrongIndex pages frame table number home)
  all_wrong old mid new undue said home = (
    λ is. ⊎_elim (λ before. ⊎_elim (λ first. inl first) (λ some. inr (of_undue home some)) ((undue home).0 before)) (λ one. inr (of_one home one)) ((said home).0 is),
    λ which. (said home).1 (⊎_elim (λ first. inl ((undue home).1 (inl first)))
        (λ wrong. ⊎_elim (λ some. inl ((undue home).1 (inr some))) (λ one. inr one) (by_rule home wrong)) which),
  )
