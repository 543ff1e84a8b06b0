use Rattle.std.proofs.Common.{◌≡◌, ◌∙◌, ap, sym, length, rules, vec_len}
use Rattle.std.specs.Ordering.{nat_cmp}
use Rattle.std.specs.FinMap as map
use Rattle.sorted_sets.proofs.EntryLemmas.{len-from_sorted}
use Rattle.fileset_model.proofs.page_map.PageMap.len.Goals as goal

pub returns : goal.returns
returns c =
    let as_items : vec_len c.self.inside.pages ≡ length c.self.inside.pages.items = search rules in
    c.len.ensures ∙ as_items ∙ sym (len-from_sorted nat_cmp _ c.self.invariant) ∙ ap map.len c.self.view_is
