use Rattle.std.proofs.Common.{◌≡◌, IsTrue, rules, subst, sym}
use Rattle.std.proofs.lemmas.Fn.{filter_same}
use Rattle.std.specs.Ordering.{nat_cmp}
use Rattle.std.specs.FinMap.Entries.{is_sorted, where_key}
use Rattle.sorted_sets.proofs.EntryLemmas.{is_sorted_where}
use Rattle.fileset_model.proofs.ChangeLemmas.{begins_below}
use Rattle.fileset_model.proofs.page_map.keep_below.Goals as goal

pub returns-clause-items : goal.returns-clause-items
returns-clause-items c = filter_same _ (λ e. begins_below c.args.size e.0) _ (λ x b f' k. search rules) _ _ c.retain.ensures.filtered

pub returns-clause-sorted : goal.returns-clause-sorted
returns-clause-sorted c =
    let items = c.args.pages.now.items in
    let kept : c.retain.new.self.items ≡ where_key nat_cmp (begins_below c.args.size) items = returns-clause-items c in
    subst (λ l. IsTrue (is_sorted nat_cmp l)) (sym kept) (is_sorted_where nat_cmp (begins_below c.args.size) items c.requires)
