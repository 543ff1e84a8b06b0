use Rattle.std.proofs.Common.{sym, ◌∙◌}
use Rattle.extent_records.specs.Rows.{holes_at}
use Rattle.extent_records.proofs.RowLemmas.{place_found, place_next}
use Rattle.extent_records.proofs.rows.hole_among.Goals as goal

pub returns-in_default : goal.returns-in_default
returns-in_default c =
    c.hole_at.ensures
    ∙ sym (place_found holes_at c.args.rows.now c.loop-row.row-index (record { page = 0; count = 0 }) c.args.page c.loop-row-test.true c.loop-row.invariant (λ none. c.in_default.not-Absent (c.hole_at.ensures ∙ none)))

pub loop-row-preserved : goal.loop-row-preserved
loop-row-preserved c =
    place_next holes_at c.args.rows.now c.loop-row.row-index (record { page = 0; count = 0 }) c.args.page c.loop-row-test.true c.loop-row.invariant ∙ sym c.hole_at.ensures ∙ c.in-Absent.is
