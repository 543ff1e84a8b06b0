use Rattle.std.proofs.Common.{subst}
use Rattle.page_store.specs.sorted_sets.Rising.{IsGapFor}
use Rattle.page_store.proofs.OfSortedSets.Search.{value_in_gap}
use Rattle.staged_pages.specs.Slots.{page_before}
use Rattle.staged_pages.proofs.Settled.{settles_in_place, settles_none, whole_with}
use Rattle.staged_pages.proofs.settle.take_back_at.Goals as goal

pub returns-in_default-clause-settles : goal.returns-in_default-clause-settles
returns-in_default-clause-settles c =
    let gap = subst (λ l. IsGapFor l c.args.key c.in_default.field-0) c.deref.ensures.value c.in_default.ensures.gap in
    settles_none page_before _ c.args.key (value_in_gap _ _ _ gap)

pub returns-clause-settles : goal.returns-clause-settles
returns-clause-settles c = settles_in_place page_before _ c.requires.rising c.args.key _ c.deref.ensures.value _ c.in-Ok.ensures.place c.index_mut.result.now c.index_mut.ensures.value c.take_back.new.self c.take_back.ensures.same c.take_back.ensures.page

pub returns-clause-whole : goal.returns-clause-whole
returns-clause-whole c = whole_with page_before _ c.requires.rising c.args.key _ c.deref.ensures.value _ c.in-Ok.ensures.place c.index_mut.result.now c.index_mut.ensures.value c.take_back.new.self c.take_back.ensures.whole c.requires.whole
