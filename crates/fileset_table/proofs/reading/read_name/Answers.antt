use Rattle.std.proofs.Common.{◌∙◌, sym}
use Rattle.fileset_table.proofs.NameSpelling.{name_answered, not_zeros, too_long}
use Rattle.fileset_table.proofs.reading.read_name.Goals as goal
use Rattle.fileset_table.proofs.reading.read_name.Goals.{then-end-gt33-via-then-end-gt33, then-end-gt33-via-else-end-gt33+then-not-are_zeros}

pub returns-then-end-gt33 : goal.returns-then-end-gt33
returns-then-end-gt33 c =
    elim c.then-end-gt33.branch [
      | then-end-gt33-via-then-end-gt33 w ↦ too_long c.args.bytes.now c.from-end.result c.requires (c.from-end.ensures ∙ c.u8_at.ensures) w.if-end-gt33.true
      | then-end-gt33-via-else-end-gt33+then-not-are_zeros w ↦ not_zeros c.args.bytes.now c.from-end.result c.requires (c.from-end.ensures ∙ c.u8_at.ensures) (sym w.are_zeros.ensures ∙ w.if-not-are_zeros.true)
    ]

pub returns : goal.returns
returns c =
    name_answered c.args.bytes.now c.from-end.result c.name_of.result c.requires (c.from-end.ensures ∙ c.u8_at.ensures) c.if-end-gt33.false (sym c.are_zeros.ensures ∙ c.if-not-are_zeros.false) c.name_of.ensures
