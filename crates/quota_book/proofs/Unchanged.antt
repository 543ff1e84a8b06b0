-- Changes of a fileset by which no file or directory comes, changes or goes.
use Rattle.std.proofs.Common.{◌≡◌, ◌∙◌, ℕ, Bool, true, false, cond, List, [], ◌∷◌, ◌++◌, length, drop, filter, Option, Some, None, if◌then◌else◌, refl, sym, ap, subst}
use Rattle.std.specs.List.{sum_by}
use Rattle.std.specs.Ordering.{eq_by_cmp}
use Rattle.std.specs.Option.{option_map_or}
use Rattle.std.specs.FinMap as map
use Rattle.std.specs.FinMap.Entries.{find}
use Rattle.std.proofs.Common.{map as map_each}
use Rattle.fileset_model.specs.Apply.{is_named_elsewhere, linked, moved, moved_path, without}
use Rattle.fileset_model.specs.Fileset.{Fileset}
use Rattle.fileset_model.specs.fileset_values.Orders.{Path, path_cmp, path_cmp-total}
use Rattle.fileset_model.specs.Paths.{begins_with}
use Rattle.fileset_model.specs.Usage.{blocks_of, counts_for, with_limits}
use Rattle.fileset_model.specs.fileset_values.declared.command.Owner.{Owner}
use Rattle.fileset_model.specs.declared.fileset.Limits.{Limits}
use Rattle.quota_book.specs.Book.{Book}
use Rattle.quota_book.specs.Sums.{IsBookOf}
use Rattle.quota_book.proofs.ModelChanges.{root_kept, root_left}

same_sums : (old new : Fileset) (book : Book) → old.nodes ≡ new.nodes → map.get old.paths [] ≡ map.get new.paths [] → old.limits ≡ new.limits → IsBookOf book old → IsBookOf book new
same_sums old new book nodes root limits is = record {
  files = λ who. is.files who ∙ (λ i. length (filter (counts_for who (root i)) (map.entries (nodes i))));
  blocks = λ who. is.blocks who ∙ (λ i. sum_by (λ e. blocks_of e.1) (filter (counts_for who (root i)) (map.entries (nodes i))));
  limits = is.limits ∙ limits;
}

pub linked_same : (tree : Fileset) (path to : Path) (book : Book) → ¬ to ≡ [] → IsBookOf book tree → IsBookOf book (linked path to tree)
linked_same tree path to book other is = by_path (map.get tree.paths path)
  where
    by_path : (o : Option ℕ) → IsBookOf book (option_map_or (λ number. record tree { paths = map.insert tree.paths to number }) o tree)
    by_path None = is
    by_path (Some number) = same_sums tree (record tree { paths = map.insert tree.paths to number }) book refl (sym (root_kept tree.paths to number other)) refl is

pub unlinked_same : (tree : Fileset) (path : Path) (number : ℕ) (book : Book) → ¬ path ≡ [] → map.get tree.paths path ≡ Some number → is_named_elsewhere tree path number ≡ true
    → IsBookOf book tree → IsBookOf book (without path tree)
unlinked_same tree path number book other at more has =
    let is : without path tree ≡ record tree { paths = map.remove tree.paths path } =
    ap (λ o. option_map_or (λ n. record tree { paths = map.remove tree.paths path; nodes = if is_named_elsewhere tree path n then tree.nodes else map.remove tree.nodes n }) o tree) at
    ∙ ap (λ b. record tree { paths = map.remove tree.paths path; nodes = if b then tree.nodes else map.remove tree.nodes number }) more in
    subst (IsBookOf book) (sym is) (same_sums tree (record tree { paths = map.remove tree.paths path }) book refl (sym (root_left tree.paths path other)) refl has)

-- a path becomes the root's if and only if it was
same_end : (from to path : Path) → ¬ from ≡ [] → ¬ to ≡ [] → eq_by_cmp path_cmp [] (moved_path from to path) ≡ eq_by_cmp path_cmp [] path
same_end [] to path some other = absurd (some refl)
same_end (f ∷ fs) [] path some other = absurd (other refl)
same_end (f ∷ fs) (t ∷ ts) [] some other = refl
same_end (f ∷ fs) (t ∷ ts) (p ∷ ps) some other = by_test (begins_with (p ∷ ps) (f ∷ fs))
  where
    by_test : (b : Bool) → eq_by_cmp path_cmp [] (cond b ((t ∷ ts) ++ drop (length (f ∷ fs)) (p ∷ ps)) (p ∷ ps)) ≡ eq_by_cmp path_cmp [] (p ∷ ps)
    by_test true = refl
    by_test false = refl

root_found : (from to : Path) (es : List (Path × ℕ)) → ¬ from ≡ [] → ¬ to ≡ [] → find path_cmp [] (map_each (λ e. (moved_path from to e.0, e.1)) es) ≡ find path_cmp [] es
root_found from to [] some other = refl
root_found from to (e ∷ es) some other =
    ap (λ b. cond b (Some e.1) (find path_cmp [] (map_each (λ e. (moved_path from to e.0, e.1)) es))) (same_end from to e.0 some other)
    ∙ ap (λ o. cond (eq_by_cmp path_cmp [] e.0) (Some e.1) o) (root_found from to es some other)

pub moved_same : (tree : Fileset) (from to : Path) (book : Book) → ¬ from ≡ [] → ¬ to ≡ [] → IsBookOf book tree → IsBookOf book (moved from to tree)
moved_same tree from to book some other is =
    let es = map.entries tree.paths in
    let root = map.get-from_entries path_cmp-total (map_each (λ (e : Path × ℕ). (moved_path from to e.0, e.1)) es) [] ∙ root_found from to es some other ∙ sym (map.get-entries tree.paths []) in
    same_sums tree (moved from to tree) book refl (sym root) refl is

pub limited_same : (tree : Fileset) (who : Owner) (limits : Limits) (book : Book) → IsBookOf book tree
    → IsBookOf (record book { limits = with_limits book.limits who limits }) (record tree { limits = with_limits tree.limits who limits })
limited_same tree who limits book is = record { files = is.files; blocks = is.blocks; limits = ap (λ all. with_limits all who limits) is.limits }
