-- How much room the filesets may need on volumes, counted in pages from the filesets alone.
use Rattle.std.specs.Prelude.{ℕ, ◌+◌, ◌*◌, length, filter, sum_by}
use Rattle.std.specs.FinMap as map
use Rattle.fileset_model.specs.Pages.{pages_of}
use Rattle.fileset_model.specs.Filesets.{FilesetMap}
use Rattle.legal_histories.specs.State.{State}
use Rattle.fileset_model.specs.fileset_values.declared.command.Command.{Command}
use Rattle.fileset_model.specs.fileset_values.declared.command.Command.TheVariants.{Write}
use Rattle.fileset_model.specs.declared.node.Node.{Node}
use Rattle.fileset_model.specs.declared.node.Node.TheVariants.{File, Directory}

-- how many pages a command may need: 4 for each page that the bytes of a write lie in, and 16
abbrev pub need : Command → ℕ
need (Write place offset bytes) = 4 * length (pages_of offset (length bytes)) + 16
need command = 16

-- how many pages of a file are there
abbrev pub page_count : Node → ℕ
page_count (File uid gid size logged pages) = map.len pages
page_count (Directory uid gid) = 0

-- over all filesets, with each clone's frozen pages
abbrev pub present_pages : FilesetMap → ℕ
present_pages all = sum_by (λ slot. sum_by page_count (map.values slot.tree.nodes)) (map.values all)

abbrev pub path_count : FilesetMap → ℕ
path_count all = sum_by (λ slot. map.len slot.tree.paths) (map.values all)

-- the pages that the filesets and the members of a state may take
abbrev pub room : State → ℕ
room s = 3 * present_pages s.filesets + 4 * path_count s.filesets + 64 * map.len s.members + 512

-- the pages of all open members
abbrev pub open_pages : State → ℕ
open_pages s =
    sum_by (λ member. member.pages) (filter (λ member. member.is_open) (map.values s.members))
