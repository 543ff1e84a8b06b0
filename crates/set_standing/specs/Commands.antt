-- What becomes of a file that a command writes or cuts.
use Rattle.std.specs.Prelude.{◌≡◌, ◌+◌, ◌-◌, ◌/◌, ◌%◌, ◌==◌, ℕ, Bool, max, List, [], ◌∷◌, length, Option, None, Some, if◌then◌else◌}
use Rattle.std.specs.FinMap.{get}
use Rattle.std.specs.List.{list_any}
use Rattle.std.specs.Option.{option_map}
use Rattle.standing_laws.specs.domain_base.Page.{overwritten, zero_bytes}
use Rattle.standing_laws.specs.domain_base.declared.limits.TheConstants.{PAGE_BYTES}
use Rattle.standing_laws.specs.domain_base.declared.place.Home.{Home}
use Rattle.standing_laws.specs.fileset_model.Pages.{Pages, page_after, pages_of}
use Rattle.standing_laws.specs.fileset_model.declared.node.Node.{Node}
use Rattle.standing_laws.specs.fileset_model.declared.node.Node.TheVariants.{Directory, File}
use Rattle.standing_laws.specs.domain_layout.Filled.{Contents}
use Rattle.standing_laws.specs.domain_layout.Seen.{SeenFile}
use Rattle.set_standing.specs.Nodes.{with_page}

-- a file with each of these pages in place of what it had at their numbers
abbrev pub with_each : List (ℕ × List ℕ) → Node → Node
with_each [] node = node
with_each (e ∷ es) node = with_each es (with_page e.0 e.1 node)

-- a page that a node has
abbrev pub page_at : Node → ℕ → Option (List ℕ)
page_at (File uid gid size logged pages) page = get pages page
page_at (Directory uid gid) page = None

-- the bytes that stand at the home of a file's page
abbrev pub bytes_of : Contents → SeenFile → ℕ → Option (List ℕ)
bytes_of contents seen page = option_map contents (seen.homes page)

-- whether a write of so many bytes at an offset touches a page
abbrev pub is_touched : ℕ → ℕ → ℕ → Bool
is_touched offset len page = list_any (λ q. q == page) (pages_of offset len)

-- a file with these pages has been written: it reaches to the last byte, each page that is touched
-- is what the write makes of it, and each other is as it was
pub record WritesFile (pages : Pages) (offset : ℕ) (bytes : List ℕ) (contents now : Contents)
    (seen after : SeenFile) : Type 0 where
  pub is : after.is ≡ record seen.is { size = max seen.is.size (offset + length bytes) }
  pub each : (page : ℕ) → bytes_of now after page
      ≡ (if is_touched offset (length bytes) page then Some (page_after pages offset bytes page)
      else bytes_of contents seen page)

-- a page of a file that is cut, with zeros after the end
abbrev pub zeros_behind : ℕ → ℕ → List ℕ → List ℕ
zeros_behind size page bytes =
    let at = size % PAGE_BYTES in
    if page == size / PAGE_BYTES then overwritten bytes at (zero_bytes (PAGE_BYTES - at)) else bytes

-- of the pages that it has, the last one has zeros after the end, and each other is as it was
abbrev pub ClearsBehind : ℕ → Contents → Contents → SeenFile → Type 0
ClearsBehind size contents now seen =
    (page : ℕ) (home : Home) → seen.homes page ≡ Some home
    → now home ≡ zeros_behind size page (contents home)
