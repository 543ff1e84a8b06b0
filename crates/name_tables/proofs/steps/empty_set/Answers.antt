use Rattle.std.proofs.Common.{refl, sym, subst}
use Rattle.fileset_lending.specs.page_store.Bitfiles.{Bitfiles}
use Rattle.fileset_lending.proofs.OfDirectoryRows.Parts.{if_ok_weaker}
use Rattle.fileset_lending.specs.name_space.Changes.{HasOriginal}
use Rattle.fileset_lending.specs.page_store.Tags.{root_alone}
use Rattle.fileset_lending.proofs.OfNameSpace.Roots.{root_original_lem}
use Rattle.name_tables.proofs.Kept.{original_of}
use Rattle.name_tables.proofs.steps.empty_set.Goals as goal

pub returns : goal.returns
returns c = if_ok_weaker c.new.result (λ set files. subst (λ (fs : Bitfiles). HasOriginal fs) (sym files) (original_of (root_original_lem root_alone (λ tag. refl)))) c.new.ensures.files
