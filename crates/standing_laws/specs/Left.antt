-- Calls on a file by which nothing of it is left to be done anew.
use Rattle.std.specs.Prelude.{◌≡◌, ℕ, None}
use Rattle.domain_standing.specs.domain_base.declared.place.Tag.{Tag}
use Rattle.domain_standing.specs.domain_base.declared.version.Version.{Version}
use Rattle.domain_standing.specs.release_steps.Calls.{Call, FilesetNow, cut, dropped}

-- the file is not dropped, and none of its pages comes to be stale
abbrev pub LeavesNothing : (number : ℕ) (version : Version) (tag : Tag) (old new : FilesetNow)
    → Call number version tag old new → Type 0
LeavesNothing number version tag old new (cut size lowered s) = lowered ≡ None
LeavesNothing number version tag old new (dropped s) = ⊥
LeavesNothing number version tag old new _ = Unit {0}
