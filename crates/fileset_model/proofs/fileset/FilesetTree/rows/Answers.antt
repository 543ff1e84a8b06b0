use Rattle.std.proofs.Common.{◌≡◌, List, [], ◌∷◌, ◌++◌, ◌<◌, Some, Vec, Global, length, take, ap, sym, ◌∙◌, arith}
use Rattle.std.proofs.lemmas.Grind.{common_steps}
use Rattle.std.specs.List.{filter_map}
use Rattle.std.specs.FinMap.{entries}
use Rattle.fileset_values.specs.Orders.{path_cmp}
use Rattle.fileset_model.specs.Fileset.{Fileset}
use Rattle.fileset_model.specs.Paths.{name_below}
use Rattle.fileset_values.specs.declared.reply.NameItem.{NameItem}
use Rattle.sorted_sets.proofs.EntryLemmas.{entries-from_sorted}
use Rattle.fileset_model.proofs.RowsLemmas.{row_of, row-more, no-row-more}
use Rattle.fileset_model.proofs.fileset.FilesetTree.rows.Goals as goal
use Rattle.fileset_model.proofs.fileset.FilesetTree.rows.Goals.{in-Some+in_ok-copy+in_ok-push, in_default}

pub loop-path-preserved : goal.loop-path-preserved
loop-path-preserved c =
    let tree = c.args.self.now in
    let parent = c.args.parent.now in
    let items = c.deref-path-items.result.now in
    let i = c.loop-path.path-index in
    let item = c.loop-path-item.result in
    let within : i < length items = c.loop-path-test.true in
    elim c.match-name_below.branch [
      | in-Some+in_ok-copy+in_ok-push w ↦
          let named : Some w.in_ok-copy.field-0 ≡ name_below parent item.0 = ap Some w.in_ok-copy.ensures ∙ w.in-Some.ensures in
          ap (λ (v : Vec NameItem Global). v.items) w.rows-is
          ∙ w.in_ok-push.ensures.items
          ∙ ap (λ (l : List NameItem). l ++ record { name = w.in_ok-copy.field-0; directory = w.is_directory.result } ∷ []) c.loop-path.invariant
          ∙ sym (row-more tree parent items i item within c.loop-path-item.is w.in_ok-copy.field-0 w.is_directory.result named w.is_directory.ensures)
      | in_default w ↦
          ap (λ (v : Vec NameItem Global). v.items) w.rows-is
          ∙ c.loop-path.invariant
          ∙ sym (no-row-more tree parent items i item within c.loop-path-item.is w.in_default.ensures)
    ]

pub returns : goal.returns
returns c =
    let tree = c.args.self.now in
    let parent = c.args.parent.now in
    let items = c.deref-path-items.result.now in
    let whole : take c.loop-path.path-index items ≡ items = grind (arith, common_steps) in
    c.loop-path.invariant
    ∙ ap (filter_map (row_of tree parent)) (whole ∙ c.deref-path-items.ensures.value
    ∙ sym (entries-from_sorted path_cmp c.self.inside.paths.items c.self.invariant.0)
    ∙ ap (λ (t : Fileset). entries t.paths) c.self.view_is)
