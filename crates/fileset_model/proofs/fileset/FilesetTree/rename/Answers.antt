use Rattle.std.proofs.Common.{◌≡◌, ℕ, List, Bool, if◌then◌else◌, IsTrue, ap, subst, sym, ◌∙◌}
use Rattle.std.specs.FinMap.{entries, from_sorted}
use Rattle.std.specs.FinMap.Entries.{is_sorted}
use Rattle.fileset_values.specs.Orders.{Path, path_cmp}
use Rattle.fileset_model.specs.Fileset.{Fileset}
use Rattle.fileset_model.specs.Apply.{moved, without}
use Rattle.fileset_model.proofs.MoveLemmas.{moved_map, moved-over, sorted_entries}
use Rattle.fileset_model.proofs.fileset.FilesetTree.rename.Goals as goal

pub set_paths-requires : goal.set_paths-requires
set_paths-requires c =
    let from = c.args.from.now in
    let to = c.args.to.now in
    let old = c.self.inside in
    let paths : c.in_ok-paths.paths.items ≡ entries (moved_map from to old.paths.items) =
    c.in_ok-paths.ensures ∙ ap (λ (es : List (Path × ℕ)). entries (moved_map from to es)) c.deref.ensures.value in
    subst (λ (es : List (Path × ℕ)). IsTrue (is_sorted path_cmp es)) (sym paths) (sorted_entries (moved_map from to old.paths.items))

pub returns-clause-ok : goal.returns-clause-ok
returns-clause-ok c =
    let from = c.args.from.now in
    let to = c.args.to.now in
    let tree = c.args.self.now in
    let old = c.self.inside in
    let paths : c.in_ok-paths.paths.items ≡ entries (moved_map from to old.paths.items) =
    c.in_ok-paths.ensures ∙ ap (λ (es : List (Path × ℕ)). entries (moved_map from to es)) c.deref.ensures.value in
    c.set_paths.ensures
    ∙ ap (λ (t : Fileset). record t { paths = from_sorted c.in_ok-paths.paths.items }) c.remove.ensures
    ∙ ap (λ (es : List (Path × ℕ)). record (without to tree) { paths = from_sorted es }) paths
    ∙ moved-over tree old.paths.items from to c.self.invariant.0 (ap (λ (t : Fileset). t.paths) c.self.view_is)
    ∙ sym (ap (λ (b : Bool). if b then tree else moved from to (without to tree)) (sym c.names_one.ensures ∙ c.if-names_one.false))
