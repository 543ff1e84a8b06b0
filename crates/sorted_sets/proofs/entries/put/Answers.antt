use Rattle.std.proofs.Common.{◌≡◌, IsTrue, subst, slice_set, arith}
use Rattle.std.proofs.lemmas.Grind.{common_steps}
use Rattle.std.specs.FinMap.Entries.{is_sorted, put}
use Rattle.sorted_sets.proofs.EntryLemmas.{is_sorted_put}
use Rattle.sorted_sets.proofs.entries.put.Goals as goal

pub returns-in-Ok-clause-sorted : goal.returns-in-Ok-clause-sorted
returns-in-Ok-clause-sorted g c =
    let e : put g.K.Ord.cmp c.args.key c.args.value c.args.entries.now.items ≡ slice_set c.args.entries.now.items c.in-Ok.place (c.index_mut.result.now.0, c.args.value) = grind (arith, common_steps) in
    subst (λ l. IsTrue (is_sorted g.K.Ord.cmp l)) e (is_sorted_put g.met.K.Ord.total c.args.entries.now.items c.args.key c.args.value c.requires)

pub returns-in_ok-insert-in-Err-clause-sorted : goal.returns-in_ok-insert-in-Err-clause-sorted
returns-in_ok-insert-in-Err-clause-sorted g c =
    let e : put g.K.Ord.cmp c.args.key c.args.value c.args.entries.now.items ≡ c.insert.new.self.items = grind (arith, common_steps) in
    subst (λ l. IsTrue (is_sorted g.K.Ord.cmp l)) e (is_sorted_put g.met.K.Ord.total c.args.entries.now.items c.args.key c.args.value c.requires)
