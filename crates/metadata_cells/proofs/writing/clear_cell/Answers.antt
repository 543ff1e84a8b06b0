use Rattle.std.proofs.Common.{inl, refl}
use Rattle.page_store.specs.domain_base.Page.{zero_bytes}
use Rattle.metadata_cells.proofs.writing.clear_cell.Goals as goal

pub put_bytes-requires-clause-good : goal.put_bytes-requires-clause-good
unfolding zero_bytes
put_bytes-requires-clause-good g c = inl refl

pub returns-clause-cleared : goal.returns-clause-cleared
unfolding zero_bytes
returns-clause-cleared g c = c.put_bytes.ensures.there
