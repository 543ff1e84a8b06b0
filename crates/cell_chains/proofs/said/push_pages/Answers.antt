use Rattle.std.proofs.Common.{◌≡◌, ◌⊎◌, ◌↔◌, ℕ, OnOk, sym, subst}
use Rattle.extent_records.specs.extent_maps.declared.run.PagePlace.TheVariants.{Absent}
use Rattle.extent_records.specs.Writing.{places_in}
use Rattle.metadata_cells.specs.cell_records.declared.record.Record.{Record}
use Rattle.metadata_cells.specs.sorted_sets.SpanMembers.{HasAnyOf}
use Rattle.cell_chains.proofs.said.push_pages.Goals as goal

pub returns-in-Extents : goal.returns-in-Extents
returns-in-Extents c =
    subst (λ (r : Record). OnOk c.push_extents.result ((n : ℕ) → HasAnyOf c.push_extents.new.spans.items n ↔ (HasAnyOf c.args.spans.now.items n ⊎ (¬ places_in r n ≡ Absent)))) (sym c.in-Extents.is) c.push_extents.ensures

pub returns-in-ShortExtents : goal.returns-in-ShortExtents
returns-in-ShortExtents c =
    subst (λ (r : Record). OnOk c.push_extents-in-ShortExtents.result ((n : ℕ) → HasAnyOf c.push_extents-in-ShortExtents.new.spans.items n ↔ (HasAnyOf c.args.spans.now.items n ⊎ (¬ places_in r n ≡ Absent)))) (sym c.in-ShortExtents.is) c.push_extents-in-ShortExtents.ensures

pub returns-in-DenseExtents : goal.returns-in-DenseExtents
returns-in-DenseExtents c =
    subst (λ (r : Record). OnOk c.push_extents-in-DenseExtents.result ((n : ℕ) → HasAnyOf c.push_extents-in-DenseExtents.new.spans.items n ↔ (HasAnyOf c.args.spans.now.items n ⊎ (¬ places_in r n ≡ Absent)))) (sym c.in-DenseExtents.is) c.push_extents-in-DenseExtents.ensures

pub returns-in-ShortDense : goal.returns-in-ShortDense
returns-in-ShortDense c =
    subst (λ (r : Record). OnOk c.push_extents-in-ShortDense.result ((n : ℕ) → HasAnyOf c.push_extents-in-ShortDense.new.spans.items n ↔ (HasAnyOf c.args.spans.now.items n ⊎ (¬ places_in r n ≡ Absent)))) (sym c.in-ShortDense.is) c.push_extents-in-ShortDense.ensures

pub returns-in-Holes : goal.returns-in-Holes
returns-in-Holes c =
    subst (λ (r : Record). OnOk c.push_holes.result ((n : ℕ) → HasAnyOf c.push_holes.new.spans.items n ↔ (HasAnyOf c.args.spans.now.items n ⊎ (¬ places_in r n ≡ Absent)))) (sym c.in-Holes.is) c.push_holes.ensures
