use Rattle.std.proofs.Common.{inl, refl, sym, subst}
use Rattle.directory_rows.specs.page_store.Bitfiles.{Bitfiles}
use Rattle.directory_rows.specs.page_store.Tags.{root_alone}
use Rattle.directory_rows.specs.Directory.{IsWellFormed}
use Rattle.directory_rows.proofs.Parts.{if_ok_weaker}
use Rattle.directory_tables.proofs.row_steps.empty_root.Goals as goal

root_good : IsWellFormed root_alone (record { slot = 1; seq = 1 })
root_good = record { directory = refl; pages = tt; names = tt; index = inl refl }

pub returns : goal.returns
returns c =
    if_ok_weaker c.new.result (λ set files. subst (λ (fs : Bitfiles). IsWellFormed fs (record { slot = 1; seq = 1 })) (sym files) root_good) c.new.ensures.files
