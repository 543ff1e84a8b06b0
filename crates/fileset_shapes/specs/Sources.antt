-- From where the files of a fileset are read.
use Rattle.std.specs.Prelude.{◌≡◌, ◌⊎◌, ◌^◌, ◌<◌, ℕ, List, Option, Some, slice_get}
use Rattle.filesets_reading.specs.domain_base.declared.place.Tag.{Tag}
use Rattle.filesets_reading.specs.page_store.Pages.{Pages}
use Rattle.fileset_shapes.specs.Files.{AreClones, AreOriginals, ReadsCloneAt, ReadsOriginalAt}
use Rattle.fileset_shapes.specs.Found.{HaveOwnTags, file_at}
use Rattle.fileset_shapes.specs.Tags.{IsUsed}
use Rattle.fileset_shapes.specs.declared.found.TaggedFile.{TaggedFile}
use Rattle.fileset_shapes.specs.declared.fileset_sources.FilesetSource.{FilesetSource}
use Rattle.fileset_shapes.specs.declared.fileset_sources.FilesetSource.TheVariants as source

-- the files are those of a fileset of a domain in which no rule is broken
abbrev pub IsSource : Pages → FilesetSource → Type 0
IsSource pages (source.Original files) = AreOriginals pages files
IsSource pages (source.Clone own behind number) = AreClones pages own behind number

-- the fileset may have something at a tag: it is used there, or where its original has its files
abbrev pub HasTag : Pages → FilesetSource → Tag → Type 0
HasTag pages (source.Original files) tag = IsUsed pages files.tags tag
HasTag pages (source.Clone own behind number) tag =
    IsUsed pages own.tags tag ⊎ IsUsed pages behind.tags tag

-- what the fileset has at a tag
abbrev pub ReadsAt : Pages → FilesetSource → Tag → Option TaggedFile → Type 0
ReadsAt pages (source.Original files) tag found = ReadsOriginalAt pages files tag found
ReadsAt pages (source.Clone own behind number) tag found =
    ReadsCloneAt pages own behind number tag found

-- a list has all that the fileset has, each under its tag
pub record AreAllOf (pages : Pages) (source : FilesetSource) (files : List TaggedFile) : Type 0
  where
    pub once : HaveOwnTags files
    pub each : (tag : Tag) → ReadsAt pages source tag (file_at files tag)
    pub small : (place : ℕ) (file : TaggedFile) → slice_get files place ≡ Some file
        → file.tag.seq < 2 ^ 16
