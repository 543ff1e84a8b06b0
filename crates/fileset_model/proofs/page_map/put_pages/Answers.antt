use Rattle.std.proofs.Common.{arith}
use Rattle.std.proofs.lemmas.Grind.{common_steps}
use Rattle.std.specs.Ordering.{nat_cmp}
use Rattle.sorted_sets.proofs.EntryLemmas.{put_each-append}
use Rattle.fileset_model.proofs.page_map.put_pages.Goals as goal

pub loop-q-preserved : goal.loop-q-preserved
loop-q-preserved c = record {
  put_so_far = let e = put_each-append nat_cmp c.loop-q.yielded (c.in-Some.q, c.in-Some.page) c.args.pages.now.items in grind (arith, common_steps, e);
  sorted = c.in_ok-put.ensures.sorted;
  room = grind (arith, common_steps);
}
