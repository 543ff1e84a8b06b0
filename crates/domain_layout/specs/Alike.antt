-- Pages that agree on each page of cells, and of tags, that is come to and may be there.
use Rattle.std.specs.Prelude.{◌≡◌, ℕ, List}
use Rattle.file_release.specs.domain_base.declared.place.Home.{Home}
use Rattle.file_release.specs.page_store.Pages.{Pages}
use Rattle.fileset_table.specs.Table.{Table}
use Rattle.domain_layout.specs.Reached.{Frame, MayBe, Reaches, Way, cells_way, tags_way}
use Rattle.domain_layout.specs.TagRules.{HasTags}
use Rattle.log_recovery.specs.log_ring.Homes.{IsMember}

-- both have the same at each page of a kind that is come to, if pages of tables may be there
abbrev pub AgreeOnWay : Pages → Pages → Frame → Way → Type 0
AgreeOnWay one other frame way =
    (passed : List Home) (home : Home) → Reaches one frame way passed home → MayBe frame home
    → one home ≡ other home

-- and at each page of cells of the members
abbrev pub AgreeOnCells : Pages → Pages → Frame → Type 0
AgreeOnCells one other frame =
    (vol : ℕ) → IsMember frame.anchor vol → AgreeOnWay one other frame (cells_way frame vol)

-- and at each page of the tag directories of a table
abbrev pub AgreeOnTags : Pages → Pages → Frame → Table → Type 0
AgreeOnTags one other frame table =
    (number : ℕ) (first : Home) → HasTags table number first
    → AgreeOnWay one other frame (tags_way first)
