use Rattle.std.proofs.Common.{◌≡◌, ℕ, List, [], filter, length, sum_by, ap, sym, ◌∙◌}
use Rattle.std.specs.Prelude.{Option}
use Rattle.std.specs.Ordering.{nat_cmp}
use Rattle.std.specs.FinMap.{entries, get}
use Rattle.fileset_model.specs.Fileset.{Fileset}
use Rattle.fileset_model.specs.Usage.{blocks_of, counts_for}
use Rattle.fileset_model.specs.declared.node.Node.{Node}
use Rattle.sorted_sets.proofs.EntryLemmas.{entries-from_sorted}
use Rattle.fileset_model.proofs.fileset.FilesetTree.usage.Goals as goal

pub returns-clause-files : goal.returns-clause-files
returns-clause-files c =
    let who = c.args.who in
    let tree = c.args.self.now in
    let nodes : c.deref.result.now ≡ entries tree.nodes =
    c.deref.ensures.value ∙ sym (entries-from_sorted nat_cmp c.self.inside.nodes.items c.self.invariant.1) ∙ ap (λ (t : Fileset). entries t.nodes) c.self.view_is in
    let root : c.number_at-root.result ≡ get tree.paths [] = c.number_at-root.ensures ∙ ap (get tree.paths) c.root.ensures in
    c.in_ok-usage.ensures.files
    ∙ ap (λ (r : Option ℕ). length (filter (counts_for who r) c.deref.result.now)) root
    ∙ ap (λ (es : List (ℕ × Node)). length (filter (counts_for who (get tree.paths [])) es)) nodes

pub returns-clause-blocks : goal.returns-clause-blocks
returns-clause-blocks c =
    let who = c.args.who in
    let tree = c.args.self.now in
    let nodes : c.deref.result.now ≡ entries tree.nodes =
    c.deref.ensures.value ∙ sym (entries-from_sorted nat_cmp c.self.inside.nodes.items c.self.invariant.1) ∙ ap (λ (t : Fileset). entries t.nodes) c.self.view_is in
    let root : c.number_at-root.result ≡ get tree.paths [] = c.number_at-root.ensures ∙ ap (get tree.paths) c.root.ensures in
    c.in_ok-usage.ensures.blocks
    ∙ ap (λ (r : Option ℕ). sum_by (λ (e : ℕ × Node). blocks_of e.1) (filter (counts_for who r) c.deref.result.now)) root
    ∙ ap (λ (es : List (ℕ × Node)). sum_by (λ (e : ℕ × Node). blocks_of e.1) (filter (counts_for who (get tree.paths [])) es)) nodes
