use Rattle.std.proofs.Common.{◌∙◌, Contains}
use Rattle.domain_memory.specs.release_list.declared.list.Entry.{Entry}
use Rattle.cell_faults.proofs.OfCellChains.Each.{all_found, found_more}
use Rattle.no_faults.specs.Listing.{IsLeftAt}
use Rattle.no_faults.proofs.Lists.{all_alone, lists_to_do}
use Rattle.no_faults.proofs.list.read_list.Goals as goal

pub add_left-requires : goal.add_left-requires
add_left-requires g c = all_alone (g.M.MetaPages.pages c.args.pages.now) c.args.links.now c.loop-at.list.list c.loop-at.at-index c.loop-at.invariant

pub loop-at-preserved : goal.loop-at-preserved
loop-at-preserved g c =
    let pages = g.M.MetaPages.pages c.args.pages.now in
    record {
      found = found_more {X = Entry} c.args.links.now c.as_slice-at-items.result.now c.as_slice-at-items.ensures.value (λ entry at link. IsLeftAt pages at entry) (Contains c.loop-at.list.list.entries)
          c.loop-at.at-index c.loop-at.invariant.found (Contains c.add_left.new.list.list.entries) c.loop-at-item.result c.loop-at-test.true c.loop-at-item.is c.in_ok-add_left.ensures.each;
      once = c.in_ok-add_left.ensures.once c.loop-at.invariant.once;
      tags = c.in_ok-add_left.ensures.tag_pages ∙ c.loop-at.invariant.tags;
    }

pub returns : goal.returns
returns g c layout laid none are =
    let pages = g.M.MetaPages.pages c.args.pages.now in
    lists_to_do pages layout laid none c.args.links.now are c.loop-at.list.list c.loop-at.invariant.once c.loop-at.invariant.tags
    (all_found {X = Entry} c.args.links.now c.as_slice-at-items.result.now c.as_slice-at-items.ensures.value (λ entry at link. IsLeftAt pages at entry) (Contains c.loop-at.list.list.entries)
    c.loop-at.at-index c.loop-at.invariant.found c.as_slice-at-items.ensures.rising c.as_slice-at-items.ensures.numbered c.loop-at-test.false c.loop-at.auto.at-index-end)
