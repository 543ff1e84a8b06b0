use Rattle.std.proofs.Common.{List, ◌≡◌, ◌∙◌, sym, ap, subst}
use Rattle.plain_program.specs.domain_base.declared.place.Kind.TheVariants.{Directory}
use Rattle.directory_rows.specs.Directory.{rows_in}
use Rattle.name_space.specs.Names.{root_tag}
use Rattle.directory_rows.specs.Ways.{AreAllLed, RowsBy, rows_by}
use Rattle.directory_rows.specs.declared.led.DirectoryRows.{DirectoryRows}
use Rattle.name_space.specs.Trees.{AreAllOf, IsFullTree}
use Rattle.name_space.proofs.Made.{has_names, valid_tree}
use Rattle.name_space.proofs.slot.make_fileset.Goals as goal

pub returns : goal.returns
returns c = λ files parts may.
    let nodes = c.args.parts.now.nodes.items in
    let led = c.in_ok-led.led.items in
    let same : rows_by c.args.parts.now.directories.items ≡ rows_in files = λ i dir. parts.rows dir i in
    let are : AreAllOf files nodes led = record {
      good = parts.good;
      has = parts.nodes;
      all = subst (λ (rows : RowsBy). AreAllLed rows (root_tag, Directory) led) same (subst (λ (rows : List DirectoryRows). AreAllLed (rows_by rows) (root_tag, Directory) led) c.as_slice.ensures.value c.in_ok-led.ensures);
    } in
    let these : AreAllOf files c.as_slice-nodes.result.now led = subst (λ ns. AreAllOf files ns led) (sym c.as_slice-nodes.ensures.value) are in
    let full : IsFullTree files nodes c.in_ok-tree.tree = subst (λ ns. IsFullTree files ns c.in_ok-tree.tree) c.as_slice-nodes.ensures.value
    (c.in_ok-tree.ensures files (subst (λ ls. AreAllOf files c.as_slice-nodes.result.now ls) (sym c.as_slice-2.ensures.value) these)) in
    let role = c.in_ok-role.ensures files (subst (λ ls. AreAllOf files c.as_slice-nodes.result.now ls) (sym c.as_slice-3.ensures.value) these) in
    record {
      role = role;
      names = has_names files nodes led are c.in_ok-tree.tree full c.args.original.now c.in_ok-role.role role may;
      valid = valid_tree files nodes led are c.in_ok-tree.tree full;
      nodes = full.is.held;
      limits = full.is.limits;
    }
