use Rattle.extent_maps.specs.declared.run.RunPlace.TheVariants as place
use Rattle.extent_records.proofs.WritingLemmas.{parts_dense}
use Rattle.extent_records.proofs.writing.halves.Goals as goal

pub returns-else-runs-eq1-clause-none : goal.returns-else-runs-eq1-clause-none
returns-else-runs-eq1-clause-none c =
    parts_dense c.args.runs.now (record { page = 0; count = 0; first = place.Holes }) c.requires (λ one. absurd (c.if-runs-eq1.false one))
