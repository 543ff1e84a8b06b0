use Rattle.std.proofs.Common.{sym, subst}
use Rattle.directory_rows.specs.page_store.Bitfiles.{Bitfiles}
use Rattle.directory_rows.specs.Directory.{IsWellFormed}
use Rattle.directory_tables.proofs.rows.looks_for.Goals as goal

pub slot_of-requires : goal.slot_of-requires
slot_of-requires g c = subst (λ (fs : Bitfiles). IsWellFormed fs (record { slot = 1; seq = 1 })) (sym c.new-looks.ensures) c.requires
