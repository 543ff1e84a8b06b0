use Rattle.std.proofs.Common.{rules}
use Rattle.std.proofs.lemmas.List.Sorted.{answers_always}
use Rattle.sorted_sets.proofs.Search.{searched}
use Rattle.sorted_sets.proofs.numbered.place_of.Goals as goal

-- the closure gives an entry's number
pub returns-clause-place : goal.returns-clause-place
returns-clause-place g c =
    let by_key = c.binary_search_by_key.ensures.position (λ e. e.0) (answers_always _ _ _ (λ f a r k called. search rules)) in
    (searched c.args.entries.now c.requires c.args.key _ c.binary_search_by_key.ensures.bound by_key).found

pub returns-clause-gap : goal.returns-clause-gap
returns-clause-gap g c =
    let by_key = c.binary_search_by_key.ensures.position (λ e. e.0) (answers_always _ _ _ (λ f a r k called. search rules)) in
    (searched c.args.entries.now c.requires c.args.key _ c.binary_search_by_key.ensures.bound by_key).absent
