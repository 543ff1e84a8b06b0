-- A fileset that begins: an original joins the table, with one page that was free as its tag
-- directory.
use Rattle.std.specs.Prelude.{◌≡◌, ◌≤◌, ◌∷◌, ℕ, [], None, Some, IsSomeAnd}
use Rattle.domain_standing.specs.domain_base.declared.place.Home.{Home}
use Rattle.domain_standing.specs.domain_base.declared.place.Kind.TheVariants as kind
use Rattle.domain_standing.specs.tag_dirs.TagPage.{IsNewPage}
use Rattle.domain_standing.specs.free_space.Spaces.{CanTake, change_volume}
use Rattle.domain_standing.specs.free_space.VolumeSpace.{with_page}
use Rattle.domain_standing.specs.fileset_files.declared.new_cells.NewFile.{NewFile}
use Rattle.domain_standing.specs.fileset_files.Files.{Chains}
use Rattle.domain_standing.specs.fileset_model.Apply.{empty_fileset}
use Rattle.domain_standing.specs.fileset_model.declared.fileset.FilesetSlot.{FilesetSlot}
use Rattle.domain_standing.specs.fileset_model.declared.fileset.Role.TheVariants as role
use Rattle.domain_standing.specs.fileset_table.Page.{IsTablePage}
use Rattle.domain_standing.specs.fileset_table.Table.{with_slot}
use Rattle.domain_standing.specs.fileset_table.declared.slot.FilesetEntry.{FilesetEntry}
use Rattle.domain_standing.specs.fileset_table.declared.slot.SlotItem.TheVariants as slot
use Rattle.domain_standing.specs.name_space.Names.{number_of, root_tag}
use Rattle.domain_standing.specs.Domain.{DomainNow, item_in}

-- no tag names a file
abbrev pub no_chains : Chains
no_chains = λ tag. None

-- a free slot has the original, of which nothing but its first tag page stands anywhere: that was
-- free, is taken, and no entry of it was ever used; the table's page says it, and no other changes
pub record JoinsEmpty (number : ℕ) (entry : FilesetEntry) (d now : DomainNow) : Type 0 where
  pub free_slot : item_in d number ≡ Some slot.Free
  pub no_quota : entry.quota ≡ None
  pub table : now.table ≡ with_slot number (slot.Original entry) d.table
  pub low : 1 ≤ entry.first_tag.vol
  pub free : CanTake d.space entry.first_tag.vol entry.first_tag.page
  pub taken : now.space
      ≡ change_volume (with_page entry.first_tag.page) d.space entry.first_tag.vol
  pub tags : now.tags number ≡ record { index = 0; home = entry.first_tag } ∷ []
  pub other_tags : (n : ℕ) → ¬ n ≡ number → now.tags n ≡ d.tags n
  pub fresh : IsSomeAnd (now.pages entry.first_tag) (IsNewPage 0)
  pub says : (home : Home) → d.frame.anchor.table ≡ Some home
      → IsSomeAnd (now.pages home) (λ page. IsTablePage page now.table)
  pub others : (home : Home) → ¬ d.frame.anchor.table ≡ Some home → ¬ home ≡ entry.first_tag
      → now.pages home ≡ d.pages home
  pub frame : now.frame ≡ d.frame
  pub cells : now.cells ≡ d.cells
  pub list : now.list ≡ d.list

-- an original with nothing but an empty root, of user 0 and group 0
abbrev pub empty_slot : FilesetSlot
empty_slot = record { tree = empty_fileset (number_of root_tag); role = role.Original }

-- a directory of user 0 and group 0 is made
abbrev pub IsPlainRoot : NewFile → Type 0
IsPlainRoot what = (what.kind ≡ kind.Directory) × (what.uid ≡ 0) × (what.gid ≡ 0)

-- the slot sets no limits
abbrev pub SetsNoLimit : FilesetEntry → Type 0
SetsNoLimit entry = (entry.files_limit ≡ 0) × (entry.blocks_limit ≡ 0)
