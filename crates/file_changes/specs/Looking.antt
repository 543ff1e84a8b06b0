-- What there is at a page of what a tag names.
use Rattle.std.specs.Prelude.{ℕ}
use Rattle.domain_memory.specs.domain_base.declared.place.Kind.TheVariants.{File}
use Rattle.domain_memory.specs.domain_base.declared.place.Tag.{Tag}
use Rattle.domain_memory.specs.fileset_files.Files.{Chains}
use Rattle.domain_memory.specs.fileset_files.Pages.{MayGrow}
use Rattle.domain_memory.specs.standing_laws.Leads.{IsLiveOf}
use Rattle.domain_memory.specs.declared.memory.DomainMemory.{DomainMemory}
use Rattle.file_changes.specs.Stages.{AreFilesIn, HasPage, IsFileIn, IsPageOf, LacksPage}
use Rattle.file_changes.specs.declared.looking.FilePage.{FilePage}
use Rattle.file_changes.specs.declared.looking.FilePage.TheVariants.{Closed, Lacking, NoFile, There}

-- no file; a file that neither has the page nor may get it; one that may get it; one that has it
abbrev pub IsAtPage : DomainMemory → ℕ → Tag → ℕ → FilePage → Type 0
IsAtPage memory number tag page NoFile =
    (chains : Chains) → AreFilesIn memory number chains → ¬ IsLiveOf File (chains tag)
IsAtPage memory number tag page Closed = IsFileIn memory number tag
    × ((chains : Chains) → AreFilesIn memory number chains
    → (¬ MayGrow tag page chains) × (¬ IsPageOf tag page chains))
IsAtPage memory number tag page Lacking =
    IsFileIn memory number tag × LacksPage memory number tag page
IsAtPage memory number tag page There =
    IsFileIn memory number tag × HasPage memory number tag page
