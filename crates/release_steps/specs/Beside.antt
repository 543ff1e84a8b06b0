-- Another fileset of a domain.
use Rattle.std.specs.Prelude.{◌≡◌, ℕ, true, false, List}
use Rattle.release_list.specs.domain_base.declared.place.Home.{Home}
use Rattle.release_list.specs.domain_base.declared.place.Tag.{Tag}
use Rattle.release_list.specs.domain_base.declared.version.Version.{Version}
use Rattle.release_list.specs.tag_dirs.declared.dir.TagPlace.{TagPlace}
use Rattle.release_list.specs.tag_dirs.Directory.{has_home}
use Rattle.release_list.specs.fileset_files.Files.{Chains}
use Rattle.release_list.specs.fileset_files.Together.{AreTogether}
use Rattle.release_steps.specs.Calls.{Call, Calls, FilesetNow, moved, no_call, one_more}
use Rattle.release_steps.specs.Tags.{AreAmong}

-- its files belong together with their own tag directory and with the free cells, free space and
-- pages of the domain, they are among the domain's files, and no page is one of both directories
pub record StandsBeside (fileset : ℕ) (places : List TagPlace) (chains : Chains) (now : FilesetNow)
    : Type 0 where
  pub together : AreTogether fileset places now.domain.space now.domain.cells now.domain.pages
      chains
  pub among : AreAmong now.domain places chains
  pub apart : (home : Home) → has_home now.places home ≡ true → has_home places home ≡ false

-- if a call puts a page at a home that the caller held, the home is none of these
abbrev pub IsApartOf : (fileset : ℕ) (version : Version) (tag : Tag) → List TagPlace
    → (old new : FilesetNow) → Call fileset version tag old new → Type 0
IsApartOf fileset version tag places old new (moved s) = has_home places s.home ≡ false
IsApartOf fileset version tag places old new _ = Unit {0}

-- in each of some calls the home is none of these
abbrev pub AreApartOf : (fileset : ℕ) (version : Version) (tag : Tag) → List TagPlace
    → (first last : FilesetNow) → Calls fileset version tag first last → Type 0
AreApartOf fileset version tag places first last calls =
    elim calls as (λ last calls. Type 0) [
      | no_call ↦ Unit {0}
      | one_more between last (calls → so_far) call
          ↦ so_far × IsApartOf fileset version tag places between last call
    ]
