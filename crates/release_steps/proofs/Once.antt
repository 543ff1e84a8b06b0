-- Of each owner something is said once in the cells of a chain, also after a change.
use Rattle.std.proofs.Common.{◌≡◌, ◌∙◌, ℕ, zero, suc, ◌+◌, ◌<◌, Bool, true, false, cond, List, [], ◌∷◌, ◌++◌, length, map, get_or, Option, Some, None, is_some, IsTrue, refl, sym, ap, subst, arith, append_assoc}
use Rattle.std.proofs.lemmas.Bool.{and_parts, true≢false}
use Rattle.std.proofs.lemmas.Cmp.{eq_by_cmp_equiv}
use Rattle.std.proofs.lemmas.List.{append-nil, map-append}
use Rattle.std.proofs.lemmas.List.Elements.{filter_map-append}
use Rattle.std.specs.List.{AllByRecursion, IsDistinct}
use Rattle.std.specs.Option.{option_map_or}
use Rattle.std.specs.declared.cmp.Ordering.{Ordering}
use Rattle.std.specs.declared.cmp.Ordering.TheVariants.{Less, Equal, Greater}
use Rattle.std.specs.Ordering.{is_eq}
use Rattle.std.specs.FinMap.Entries.{below_all, by_order as ordered, find, is_sorted, length-put, put}
use Rattle.release_list.proofs.OfSortedSets.EntryLemmas.{to_T}
use Rattle.release_list.specs.page_store.Pages.{Pages}
use Rattle.release_list.specs.metadata_cells.Chain.{PlacedCell, records_of}
use Rattle.release_list.specs.file_release.Steps.{AllStand}
use Rattle.quota_book.specs.fileset_values.Orders.{owner_cmp, owner_cmp-total}
use Rattle.quota_book.specs.fileset_values.declared.command.Owner.{Owner}
use Rattle.quota_book.specs.fileset_model.declared.fileset.Limits.{Limits}
use Rattle.quota_book.specs.Owners.{same_owner}
use Rattle.quota_book.specs.QuotaCells.{AreOnce, Said, all_said, first_where, has_room, is_said, limits_said, or_else, said_by, with_quota}
use Rattle.release_steps.specs.QuotaChain.{said_in, with_limits}
use Rattle.release_steps.proofs.SaidRecords.{said_sorted}
use Rattle.release_steps.proofs.Touched.{found_there, none_tested}

-- ---- owners of whom nothing is said

abbrev IsUnsaid : Owner → Said → Type 0
IsUnsaid who said = AllByRecursion (λ (e : Owner × Limits). same_owner who e.0 ≡ false) said

unsaid_of : (who : Owner) (said : Said) → is_said who said ≡ false → IsUnsaid who said
unsaid_of who [] none = tt
unsaid_of who (e ∷ said) none = by_test (same_owner who e.0) refl none (λ rest. unsaid_of who said rest)
  where
    by_test : (b : Bool) → same_owner who e.0 ≡ b → is_some (cond b (Some e.1) (find owner_cmp who said)) ≡ false → (is_said who said ≡ false → IsUnsaid who said) → IsUnsaid who (e ∷ said)
    by_test true same none rest = absurd (true≢false none)
    by_test false apart none rest = (apart, rest none)

join_unsaid : (who : Owner) (xs ys : Said) → IsUnsaid who xs → IsUnsaid who ys → IsUnsaid who (xs ++ ys)
join_unsaid who [] ys none others = others
join_unsaid who (x ∷ xs) ys none others = (none.0, join_unsaid who xs ys none.1 others)

front_unsaid : (who : Owner) (xs ys : Said) → IsUnsaid who (xs ++ ys) → IsUnsaid who xs
front_unsaid who [] ys none = tt
front_unsaid who (x ∷ xs) ys none = (none.0, front_unsaid who xs ys none.1)

back_unsaid : (who : Owner) (xs ys : Said) → IsUnsaid who (xs ++ ys) → IsUnsaid who ys
back_unsaid who [] ys none = none
back_unsaid who (x ∷ xs) ys none = back_unsaid who xs ys none.1

all_unsaid : (who : Owner) (cells : List Said) → first_where (is_said who) cells ≡ None → IsUnsaid who (all_said cells)
all_unsaid who [] none = tt
all_unsaid who (c ∷ cells) none =
    let t = none_tested (is_said who) c cells none in
    join_unsaid who c (all_said cells) (unsaid_of who c t.0) (all_unsaid who cells t.1)

-- ---- one more, of whom nothing was said

record Inserted (e : Owner × Limits) (old new : Said) : Type 0 where
  pub front : Said
  pub back : Said
  pub was : old ≡ front ++ back
  pub is : new ≡ front ++ e ∷ back

put_inserted : (who : Owner) (limits : Limits) (said : Said) → IsUnsaid who said → Inserted (who, limits) said (put owner_cmp who limits said)
put_inserted who limits [] none = record { front = []; back = []; was = refl; is = refl }
put_inserted who limits (e ∷ said) none = by_case (owner_cmp who e.0) none.0 (put_inserted who limits said none.1)
  where
    by_case : (o : Ordering) → is_eq o ≡ false → Inserted (who, limits) said (put owner_cmp who limits said)
        → Inserted (who, limits) (e ∷ said) (ordered o ((who, limits) ∷ e ∷ said) ((e.0, limits) ∷ said) (e ∷ put owner_cmp who limits said))
    by_case Less apart rest = record { front = []; back = e ∷ said; was = refl; is = refl }
    by_case Equal apart rest = absurd (true≢false apart)
    by_case Greater apart rest = record {
      front = e ∷ rest.front;
      back = rest.back;
      was = ap (λ (s : Said). e ∷ s) rest.was;
      is = ap (λ (s : Said). e ∷ s) rest.is;
    }

put_in_cells : (cells : List Said) (k : ℕ) (who : Owner) (limits : Limits) → k < length cells → IsUnsaid who (all_said cells) → Inserted (who, limits) (all_said cells) (all_said (with_quota k who limits cells))
put_in_cells [] k who limits within none = absurd (omega (arith, within))
put_in_cells (c ∷ cells) zero who limits within none =
    let i = put_inserted who limits c (front_unsaid who c (all_said cells) none) in
    record {
      front = i.front;
      back = i.back ++ all_said cells;
      was = ap (λ (s : Said). s ++ all_said cells) i.was ∙ append_assoc i.front i.back (all_said cells);
      is = ap (λ (s : Said). s ++ all_said cells) i.is ∙ append_assoc i.front ((who, limits) ∷ i.back) (all_said cells);
    }
put_in_cells (c ∷ cells) (suc k) who limits within none =
    let i = put_in_cells cells k who limits (omega (arith, within)) (back_unsaid who c (all_said cells) none) in
    record {
      front = c ++ i.front;
      back = i.back;
      was = ap (λ (s : Said). c ++ s) i.was ∙ sym (append_assoc c i.front i.back);
      is = ap (λ (s : Said). c ++ s) i.is ∙ sym (append_assoc c i.front ((who, limits) ∷ i.back));
    }

added_in : (cells : List Said) (e : Owner × Limits) → all_said (cells ++ (e ∷ []) ∷ []) ≡ all_said cells ++ e ∷ []
added_in [] e = refl
added_in (c ∷ cells) e = ap (λ (s : Said). c ++ s) (added_in cells e) ∙ sym (append_assoc c (all_said cells) (e ∷ []))

unsaid_inserted : (who : Owner) (xs ys : Said) (e : Owner × Limits) → same_owner who e.0 ≡ false → IsUnsaid who (xs ++ ys) → IsUnsaid who (xs ++ e ∷ ys)
unsaid_inserted who [] ys e apart none = (apart, none)
unsaid_inserted who (x ∷ xs) ys e apart none = (none.0, unsaid_inserted who xs ys e apart none.1)

once_inserted : (xs ys : Said) (e : Owner × Limits) → IsUnsaid e.0 (xs ++ ys) → AreOnce (xs ++ ys) → AreOnce (xs ++ e ∷ ys)
unfolding IsDistinct
once_inserted [] ys e none once = (none, once)
once_inserted (x ∷ xs) ys e none once =
    (unsaid_inserted x.0 xs ys e ((eq_by_cmp_equiv owner_cmp-total).symm x.0 e.0 ∙ none.0) once.0, once_inserted xs ys e none.1 once.1)

once_more : (who : Owner) (limits : Limits) (old new : Said) → Inserted (who, limits) old new → IsUnsaid who old → AreOnce old → AreOnce new
once_more who limits old new i none once =
    subst AreOnce (sym i.is) (once_inserted i.front i.back (who, limits) (subst (IsUnsaid who) i.was none) (subst AreOnce i.was once))

-- ---- limits in the place of others

abbrev owners : Said → List Owner
owners said = map (λ (e : Owner × Limits). e.0) said

unsaid_owners : (who : Owner) (a b : Said) → owners a ≡ owners b → IsUnsaid who a → IsUnsaid who b
unsaid_owners who a [] same none = tt
unsaid_owners who [] (y ∷ b) same none = absurd (cc)
unsaid_owners who (x ∷ a) (y ∷ b) same none =
    let heads : x.0 ≡ y.0 = cc in
    let tails : owners a ≡ owners b = cc in
    (subst (λ (o : Owner). same_owner who o ≡ false) heads none.0, unsaid_owners who a b tails none.1)

once_owners : (a b : Said) → owners a ≡ owners b → AreOnce a → AreOnce b
unfolding IsDistinct
once_owners a [] same once = tt
once_owners [] (y ∷ b) same once = absurd (cc)
once_owners (x ∷ a) (y ∷ b) same once =
    let heads : x.0 ≡ y.0 = cc in
    let tails : owners a ≡ owners b = cc in
    (unsaid_owners y.0 a b tails (subst (λ (o : Owner). IsUnsaid o a) heads once.0), once_owners a b tails once.1)

put_owners : (who : Owner) (limits : Limits) (said : Said) → IsTrue (is_sorted owner_cmp said) → is_said who said ≡ true → owners (put owner_cmp who limits said) ≡ owners said
put_owners who limits [] sorted is = absurd (cc)
put_owners who limits (e ∷ said) sorted is =
    let both = and_parts (below_all owner_cmp e.0 said) (is_sorted owner_cmp said) sorted in
    by_case (owner_cmp who e.0) is
    (length-put owner_cmp owner_cmp-total who limits (e ∷ said) (to_T (is_sorted owner_cmp (e ∷ said)) sorted) ∙ ap (λ (b : Bool). cond b (length (e ∷ said)) (length (e ∷ said) + 1)) is)
    (λ rest. put_owners who limits said both.1 rest)
  where
    by_case : (o : Ordering) → is_some (cond (is_eq o) (Some e.1) (find owner_cmp who said)) ≡ true
        → length (ordered o ((who, limits) ∷ e ∷ said) ((e.0, limits) ∷ said) (e ∷ put owner_cmp who limits said)) ≡ length (e ∷ said)
        → (is_said who said ≡ true → owners (put owner_cmp who limits said) ≡ owners said)
        → owners (ordered o ((who, limits) ∷ e ∷ said) ((e.0, limits) ∷ said) (e ∷ put owner_cmp who limits said)) ≡ owners (e ∷ said)
    by_case Less is long rest = absurd (omega (arith, long))
    by_case Equal is long rest = refl
    by_case Greater is long rest = ap (λ (os : List Owner). e.0 ∷ os) (rest is)

abbrev IsSorted : Said → Type 0
IsSorted said = IsTrue (is_sorted owner_cmp said)

cells_owners : (cells : List Said) (k : ℕ) (who : Owner) (limits : Limits) → k < length cells → AllByRecursion IsSorted cells → is_said who (get_or cells k []) ≡ true
    → owners (all_said (with_quota k who limits cells)) ≡ owners (all_said cells)
cells_owners [] k who limits within sorted is = absurd (omega (arith, within))
cells_owners (c ∷ cells) zero who limits within sorted is =
    map-append (λ (e : Owner × Limits). e.0) (put owner_cmp who limits c) (all_said cells) ∙ ap (λ (os : List Owner). os ++ owners (all_said cells)) (put_owners who limits c sorted.0 is)
    ∙ sym (map-append (λ (e : Owner × Limits). e.0) c (all_said cells))
cells_owners (c ∷ cells) (suc k) who limits within sorted is =
    map-append (λ (e : Owner × Limits). e.0) c (all_said (with_quota k who limits cells)) ∙ ap (λ (os : List Owner). owners c ++ os) (cells_owners cells k who limits (omega (arith, within)) sorted.1 is)
    ∙ sym (map-append (λ (e : Owner × Limits). e.0) c (all_said cells))

-- ---- the cells with an owner's limits

module _ (cells : List Said) (who : Owner) (limits : Limits) (once : AreOnce (all_said cells)) where
  once_unsaid : first_where (is_said who) cells ≡ None → (o : Option ℕ) → first_where has_room cells ≡ o
      → AreOnce (all_said (option_map_or (λ k. with_quota k who limits cells) o (cells ++ ((who, limits) ∷ []) ∷ [])))
  once_unsaid none (Some k) room =
      let f = found_there has_room cells k room in
      let apart = all_unsaid who cells none in
      once_more who limits (all_said cells) (all_said (with_quota k who limits cells)) (put_in_cells cells k who limits f.0 apart) apart once
  once_unsaid none None room =
      once_more who limits (all_said cells) (all_said (cells ++ ((who, limits) ∷ []) ∷ []))
      (record { front = all_said cells; back = []; was = sym (append-nil (all_said cells)); is = added_in cells (who, limits) }) (all_unsaid who cells none) once

  once_first : AllByRecursion IsSorted cells → (o : Option ℕ) → first_where (is_said who) cells ≡ o
      → AreOnce (all_said (option_map_or (λ k. with_quota k who limits cells) (or_else o (first_where has_room cells)) (cells ++ ((who, limits) ∷ []) ∷ [])))
  once_first sorted None none = once_unsaid none (first_where has_room cells) refl
  once_first sorted (Some j) at =
      let f = found_there (is_said who) cells j at in
      once_owners (all_said cells) (all_said (with_quota j who limits cells)) (sym (cells_owners cells j who limits f.0 sorted f.1)) once

sorted_in : (pages : Pages) (chain : List PlacedCell) → AllStand pages chain → AllByRecursion IsSorted (said_in chain)
sorted_in pages [] stand = tt
sorted_in pages (c ∷ chain) stand = (said_sorted c.cell.records stand.0.is.well_formed, sorted_in pages chain stand.1)

-- what the cells say together is what their records do
records_all : (chain : List PlacedCell) → said_by (records_of chain) ≡ all_said (said_in chain)
records_all [] = refl
records_all (c ∷ chain) =
    filter_map-append limits_said c.cell.records (records_of chain) ∙ ap (λ (s : Said). said_by c.cell.records ++ s) (records_all chain)

-- of no owner something is said twice then
pub once_after : (pages : Pages) (chain : List PlacedCell) (who : Owner) (limits : Limits) → AllStand pages chain → (after : List PlacedCell) → said_in after ≡ with_limits who limits (said_in chain)
    → AreOnce (said_by (records_of chain)) → AreOnce (said_by (records_of after))
once_after pages chain who limits stand after is once =
    subst AreOnce (sym (records_all after)) (subst (λ (cells : List Said). AreOnce (all_said cells)) (sym is)
    (once_first (said_in chain) who limits (subst AreOnce (records_all chain) once) (sorted_in pages chain stand) (first_where (is_said who) (said_in chain)) refl))
