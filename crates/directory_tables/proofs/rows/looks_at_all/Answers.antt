use Rattle.std.proofs.Common.{sym, subst}
use Rattle.directory_rows.specs.page_store.Bitfiles.{Bitfiles}
use Rattle.directory_rows.specs.Directory.{IsWellFormed}
use Rattle.directory_tables.proofs.rows.looks_at_all.Goals as goal

pub row_count-requires : goal.row_count-requires
row_count-requires g c = subst (λ (fs : Bitfiles). IsWellFormed fs (record { slot = 1; seq = 1 })) (sym c.new-looks.ensures) c.requires

pub is_empty-requires : goal.is_empty-requires
is_empty-requires g c = subst (λ (fs : Bitfiles). IsWellFormed fs (record { slot = 1; seq = 1 })) (sym c.new-looks.ensures) c.requires

pub listed_in_place-requires : goal.listed_in_place-requires
listed_in_place-requires g c = subst (λ (fs : Bitfiles). IsWellFormed fs (record { slot = 1; seq = 1 })) (sym c.new-looks.ensures) c.requires
