use Rattle.std.proofs.Common.{rules, sym, subst}
use Rattle.std.proofs.lemmas.Cmp.{nat_list_cmp_total}
use Rattle.std.proofs.lemmas.List.Sorted.{answers_always, ranks_by}
use Rattle.std.specs.Cmp.Lexicographic.{slice_cmp}
use Rattle.std.specs.List.Sorted.{IsPermutation, IsSortedByKey}
use Rattle.std.specs.Ordering.{is_lt, nat_cmp}
use Rattle.directory_pages.specs.declared.row.Row.{Row}
use Rattle.directory_rows.proofs.list.list_rows.Goals as goal

pub returns-clause-same : goal.returns-clause-same
returns-clause-same g c =
    subst (λ rows. IsPermutation rows c.from_vec.result) c.in_ok-rows.ensures
    (subst (IsPermutation c.in_ok-rows.rows.items) (sym c.from_vec.ensures) c.in_ok-sort_by.ensures.permutation)

pub returns-clause-sorted : goal.returns-clause-sorted
returns-clause-sorted g c =
    subst (IsSortedByKey (λ (row : Row). row.name) (slice_cmp nat_cmp)) (sym c.from_vec.ensures)
    (c.in_ok-sort_by.ensures.sorted (λ a b. is_lt (slice_cmp nat_cmp a.name b.name)) (ranks_by nat_list_cmp_total (λ (row : Row). row.name)) (answers_always _ _ _ (λ f a r f' called. search rules)))
