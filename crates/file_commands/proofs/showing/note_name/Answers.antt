use Rattle.std.proofs.Common.{◌≡◌, ◌∙◌, ◌||◌, ap, sym, ⊎_elim}
use Rattle.std.specs.BTreeSet.{contains}
use Rattle.name_commands.specs.fileset_values.Orders.{Name, name_cmp}
use Rattle.name_commands.specs.fileset_model.Paths.{same_name}
use Rattle.name_commands.specs.fileset_table.Table.{has_name}
use Rattle.file_commands.proofs.Shown.{name_put}
use Rattle.file_commands.proofs.showing.note_name.Goals as goal

pub returns-in_ok-insert-in-Original : goal.returns-in_ok-insert-in-Original
returns-in_ok-insert-in-Original c = λ name.
    let old = c.args.names.now in
    let named : has_name name c.args.item.now ≡ same_name c.in-Original.entry.name name = ⊎_elim (λ is. ap (has_name name) is) (λ is. ap (has_name name) is.2) c.in-Original.is in
    name_put c.in_ok-name-in-Original.name old c.insert.new.self c.in_ok-insert-in-Original.ensures.updates.0 name
    ∙ ap (λ (key : Name). same_name key name || contains name_cmp old name) c.in_ok-name-in-Original.ensures
    ∙ ap (λ b. b || contains name_cmp old name) (sym named)
