use Rattle.sorted_sets.specs.domain_base.Page.{zero_bytes}
use Rattle.page_store.proofs.memory_bitfiles.shown.Goals as goal

pub returns : goal.returns
unfolding zero_bytes
returns c = c.set.ensures.value
