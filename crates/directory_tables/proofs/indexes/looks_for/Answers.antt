use Rattle.std.proofs.Common.{sym, subst}
use Rattle.directory_rows.specs.page_store.Bitfiles.{Bitfiles}
use Rattle.directory_tables.specs.Steps.{HasIndex}
use Rattle.directory_tables.proofs.indexes.looks_for.Goals as goal

pub page_of-requires : goal.page_of-requires
page_of-requires g c = subst (λ (fs : Bitfiles). HasIndex (record { slot = 1; seq = 1 }) fs) (sym c.new-looks.ensures) c.requires
