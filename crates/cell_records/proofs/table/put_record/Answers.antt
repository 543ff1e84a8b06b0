use Rattle.std.proofs.lemmas.List.Elements.{All-from_recursion}
use Rattle.cell_records.specs.Records.{IsShort}
use Rattle.cell_records.proofs.EachKind.{dense_fit, short_dense_fit, volumes_are_eight}
use Rattle.cell_records.proofs.table.put_record.Goals as goal

pub put_stripe-requires-clause-eight : goal.put_stripe-requires-clause-eight
put_stripe-requires-clause-eight c = volumes_are_eight c.in-Stripe.width c.in-Stripe.mark c.in-Stripe.vols (rw c.in-Stripe.is at c.requires.allowed)

pub put_dense_extents-requires-clause-short : goal.put_dense_extents-requires-clause-short
put_dense_extents-requires-clause-short c = All-from_recursion IsShort c.in-DenseExtents.rows (dense_fit c.in-DenseExtents.rows (rw c.in-DenseExtents.is at c.requires.allowed)).short

pub put_dense_extents-requires-in-ShortDense-clause-short : goal.put_dense_extents-requires-in-ShortDense-clause-short
put_dense_extents-requires-in-ShortDense-clause-short c = All-from_recursion IsShort c.in-ShortDense.rows (short_dense_fit c.in-ShortDense.rows (rw c.in-ShortDense.is at c.requires.allowed)).short

pub returns-in-Attributes : goal.returns-in-Attributes
returns-in-Attributes c = rw c.in-Attributes.is c.put_attributes.ensures
