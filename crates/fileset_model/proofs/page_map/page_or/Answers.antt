use Rattle.std.specs.Ordering.{nat_cmp}
use Rattle.sorted_sets.proofs.EntryLemmas.{get-from_sorted}
use Rattle.fileset_model.proofs.page_map.page_or.Goals as goal

pub returns-in-Some : goal.returns-in-Some
returns-in-Some c = rw (get-from_sorted nat_cmp c.args.pages.now c.args.q c.requires, ← c.find.ensures, c.in-Some.is)

pub returns-in-None : goal.returns-in-None
returns-in-None c = rw (get-from_sorted nat_cmp c.args.pages.now c.args.q c.requires, ← c.find.ensures, c.in-None.is)
