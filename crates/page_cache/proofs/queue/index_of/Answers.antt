use Rattle.std.proofs.Common.{rules}
use Rattle.std.proofs.lemmas.List.Sorted.{answers_always}
use Rattle.page_store.proofs.OfSortedSets.Search.{searched}
use Rattle.page_cache.proofs.queue.index_of.Goals as goal

pub returns-clause-place : goal.returns-clause-place
returns-clause-place c =
    let by_key = c.binary_search_by_key.ensures.position (λ e. e.0) (answers_always _ _ _ (λ f a r k called. search rules)) in
    (searched c.args.places.now c.requires c.args.place _ c.binary_search_by_key.ensures.bound by_key).found

pub returns-clause-gap : goal.returns-clause-gap
returns-clause-gap c =
    let by_key = c.binary_search_by_key.ensures.position (λ e. e.0) (answers_always _ _ _ (λ f a r k called. search rules)) in
    (searched c.args.places.now c.requires c.args.place _ c.binary_search_by_key.ensures.bound by_key).absent
