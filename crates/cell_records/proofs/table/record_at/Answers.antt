use Rattle.std.proofs.Common.{refl}
use Rattle.cell_records.proofs.table.record_at.Goals as goal

pub returns-in-2 : goal.returns-in-2
returns-in-2 c = rw (c.in-2.is, c.u8_at.ensures, c.u8_at-in-2.ensures, c.u32_at-in-2.ensures, c.u32_at-in-2-2.ensures) refl
