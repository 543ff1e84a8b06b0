use Rattle.std.proofs.Common.{◌≡◌, ◌∙◌, ap, sym, length, rules, vec_len}
use Rattle.std.specs.FinMap as map
use Rattle.fileset_values.specs.Orders.{name_cmp}
use Rattle.sorted_sets.proofs.EntryLemmas.{len-from_sorted}
use Rattle.fileset_model.proofs.filesets.Filesets.len.Goals as goal

pub returns : goal.returns
returns c =
    let as_items : vec_len c.self.inside.slots ≡ length c.self.inside.slots.items = search rules in
    c.len.ensures ∙ as_items ∙ sym (len-from_sorted name_cmp _ c.self.invariant) ∙ ap map.len c.self.view_is
