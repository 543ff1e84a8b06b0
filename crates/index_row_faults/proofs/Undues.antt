-- Indexes that are found to be where none may be are those of the rule.
use Rattle.std.proofs.Common.{◌≡◌, ◌∙◌, ◌⊎◌, ◌↔◌, ◌≤◌, inl, inr, ℕ, List, length, IsTrue, Contains, sym, ⊎_elim}
use Rattle.page_faults.specs.domain_base.declared.place.Home.{Home}
use Rattle.page_faults.specs.domain_base.declared.place.Kind.TheVariants.{Directory}
use Rattle.page_faults.specs.page_store.Pages.{Pages}
use Rattle.page_faults.specs.fileset_table.Table.{Table}
use Rattle.page_faults.specs.domain_layout.DirectoryRules.{HasSecondPage}
use Rattle.page_faults.specs.domain_layout.Seen.{SeenFile}
use Rattle.filesets_filled.proofs.Decided.{kind_decided}
use Rattle.directory_faults.proofs.Inserted.{AreIn, all_in, iff_trans}
use Rattle.index_row_faults.specs.There.{AreIndexesIn, MayBeOf}
use Rattle.index_row_faults.specs.Undue.{HasUndueIndex, IsUndueAt}
use Rattle.index_row_faults.specs.declared.there.IndexThere.{IndexThere}

undue : (seen : SeenFile) (index : IndexThere) → MayBeOf seen index → (¬ IsTrue index.may_be) ↔ ((¬ seen.is.kind ≡ Directory) ⊎ ¬ HasSecondPage seen)
undue seen index may = (
  λ none. ⊎_elim (λ kind. inr (λ second. none (may.1 (kind, second)))) (λ other. inl other) (kind_decided seen.is.kind Directory),
  λ which is. let both = may.0 is in ⊎_elim (λ other. other both.0) (λ none. none both.1) which,
)

module _ (pages : Pages) (table : Table) (number : ℕ) (indexes : List IndexThere) (are : AreIndexesIn pages table number indexes) where
  by_indexes : (home : Home) (old : Type 0) → (old ⊎ ((index : IndexThere) × Contains indexes index × IsUndueAt index home)) ↔ (old ⊎ HasUndueIndex pages table number home)
  by_indexes home old = (
    λ which. ⊎_elim (λ first. inl first) (λ (index, among, (none, same)).
        let read = are.each index among in
        inr (record { tag = index.tag; seen = read.seen; first = index.first; total = index.total; has = read.has; at = same; wrong = (undue read.seen index read.may_be).0 none })) which,
    λ which. ⊎_elim (λ first. inl first) (λ wrong.
        let was = are.all wrong.tag wrong.seen wrong.first wrong.total wrong.has in
        inr (was.index, was.among, ((undue wrong.seen was.index was.may_be).1 wrong.wrong, wrong.at ∙ sym was.first_is))) which,
  )

  pub all_undue : (old new : Home → Type 0) (count : ℕ) → length indexes ≤ count → AreIn indexes IsUndueAt old new count → (home : Home) → new home ↔ (old home ⊎ HasUndueIndex pages table number home)
  all_undue old new count whole said home = iff_trans (all_in indexes IsUndueAt old new count whole said home) (by_indexes home (old home))
