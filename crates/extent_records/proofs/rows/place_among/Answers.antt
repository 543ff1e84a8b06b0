use Rattle.std.proofs.Common.{sym, ◌∙◌}
use Rattle.extent_records.specs.Rows.{IsPlaced, runs_at}
use Rattle.extent_records.proofs.RowLemmas.{place_found, place_next, row_all}
use Rattle.extent_records.proofs.rows.place_among.Goals as goal

pub returns-in_default : goal.returns-in_default
returns-in_default c =
    c.place_at.ensures
    ∙ sym (place_found runs_at c.args.rows.now c.loop-row.row-index (record { page = 0; count = 0; vol = 0; first = 0 }) c.args.page c.loop-row-test.true c.loop-row.invariant (λ none. c.in_default.not-Absent (c.place_at.ensures ∙ none)))

pub loop-row-preserved : goal.loop-row-preserved
loop-row-preserved c =
    place_next runs_at c.args.rows.now c.loop-row.row-index (record { page = 0; count = 0; vol = 0; first = 0 }) c.args.page c.loop-row-test.true c.loop-row.invariant ∙ sym c.place_at.ensures ∙ c.in-Absent.is

pub place_at-requires : goal.place_at-requires
place_at-requires c =
    row_all runs_at IsPlaced c.args.rows.now c.loop-row.row-index (record { page = 0; count = 0; vol = 0; first = 0 }) c.loop-row-test.true c.requires
