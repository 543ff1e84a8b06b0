-- Paths in a fileset: the directories on the way, the walk along them, and what a directory lists.
use Rattle.std.specs.Prelude.{ℕ, ◌==◌, ◌||◌, count_by, Bool, true, false, not, List, [], ◌∷◌, length, map, take, drop, nat_eq, Option, None, Some, if◌then◌else◌}
use Rattle.std.specs.Option.{option_and_then, option_map_or}
use Rattle.std.specs.List.{filter_map, range_with_len, starts_with}
use Rattle.std.specs.Cmp.Lexicographic.{pointwise}
use Rattle.std.specs.FinMap.{get, contains_key, entries}
use Rattle.fileset_values.specs.Orders.{Name, Path}
use Rattle.fileset_model.specs.Fileset.{Fileset}
use Rattle.fileset_model.specs.declared.node.Node.{Node}
use Rattle.fileset_model.specs.declared.node.Node.TheVariants.{File, Directory}
use Rattle.fileset_model.specs.declared.fileset.Role.{Role}
use Rattle.fileset_model.specs.declared.fileset.Role.TheVariants.{Original, CloneOf}
use Rattle.fileset_model.specs.declared.fileset.FilesetSlot.{FilesetSlot}
use Rattle.fileset_values.specs.declared.reply.NameItem.{NameItem}
use Rattle.fileset_values.specs.declared.reply.Refusal.{Refusal}
use Rattle.fileset_values.specs.declared.reply.Refusal.TheVariants.{NoPath, NotDirectory, IsDirectory, OutOfSync}

-- whether two names, or two paths, are the same
abbrev pub same_name : Name → Name → Bool
same_name = pointwise nat_eq

abbrev pub same_path : Path → Path → Bool
same_path = pointwise same_name

-- the first refusal of a list of checks
abbrev pub first_refusal : List (Option Refusal) → Option Refusal
first_refusal [] = None
first_refusal (None ∷ checks) = first_refusal checks
first_refusal (Some refusal ∷ checks) = Some refusal

-- the refusal, if the test answers true
abbrev pub refuse_if : Bool → Refusal → Option Refusal
refuse_if test refusal = if test then Some refusal else None

-- what a path leads to
abbrev pub node_at : Fileset → Path → Option Node
node_at tree path = option_and_then (get tree.nodes) (get tree.paths path)

abbrev pub is_directory : Node → Bool
is_directory (File uid gid size logged pages) = false
is_directory (Directory uid gid) = true

-- whether a number lost its frozen content; an original's never does
abbrev pub is_out_of_sync : Role → ℕ → Bool
is_out_of_sync Original number = false
is_out_of_sync (CloneOf original out) number = contains_key out number

-- whether what a path leads to lost its frozen content
abbrev pub is_out_of_sync_at : FilesetSlot → Path → Bool
is_out_of_sync_at slot path =
    option_map_or (is_out_of_sync slot.role) (get slot.tree.paths path) false

-- what keeps a command from looking a name up in the directory at this path
abbrev pub directory_refusal : FilesetSlot → Path → Option Refusal
directory_refusal slot path =
    let out_of_sync = refuse_if (is_out_of_sync_at slot path) OutOfSync in
    option_map_or
    (λ node. first_refusal (refuse_if (not (is_directory node)) NotDirectory ∷ out_of_sync ∷ []))
    (node_at slot.tree path) (Some NoPath)

-- the paths of the directories that a path leads through, from the root on
abbrev pub directories_to : Path → List Path
directories_to path = map (λ count. take count path) (range_with_len 0 (length path))

-- what the way to a path's last name refuses
abbrev pub walk_refusal : FilesetSlot → Path → Option Refusal
walk_refusal slot path = first_refusal (map (directory_refusal slot) (directories_to path))

-- what the way to a path's last name refuses, and no-path if that name is missing
abbrev pub target_refusal : FilesetSlot → Path → Option Refusal
target_refusal slot path =
    first_refusal
    (walk_refusal slot path ∷ refuse_if (not (contains_key slot.tree.paths path)) NoPath ∷ [])

-- the refusal if a path leads to a directory, and the one if it leads to a file
abbrev pub directory_here : FilesetSlot → Path → Option Refusal
directory_here slot path =
    refuse_if (option_map_or is_directory (node_at slot.tree path) false) IsDirectory

abbrev pub file_here : FilesetSlot → Path → Option Refusal
file_here slot path =
    refuse_if (option_map_or (λ node. not (is_directory node)) (node_at slot.tree path) false)
    NotDirectory

-- whether a path begins with another
abbrev pub begins_with : Path → Path → Bool
begins_with path front = starts_with same_name path front

-- the name below the directory at `parent`, if the path begins with `parent` and is one name longer
abbrev pub name_below : Path → Path → Option Name
name_below parent path = last_of (if begins_with path parent then drop (length parent) path else [])
  where
    last_of : Path → Option Name
    last_of [] = None
    last_of (name ∷ []) = Some name
    last_of (name ∷ next ∷ rest) = None

-- the rows of the directory at a path, in byte order of their names
abbrev pub rows_of : Fileset → Path → List NameItem
rows_of tree parent = filter_map (λ e. row e.0 e.1) (entries tree.paths)
  where
    row : Path → ℕ → Option NameItem
    row path number =
        option_and_then
        (λ name. Some (record {
          name = name;
          directory = option_map_or is_directory (get tree.nodes number) false;
        }))
        (name_below parent path)

-- how many paths lead to a number
abbrev pub paths_to : Fileset → ℕ → ℕ
paths_to tree number = count_by (λ e. e.1 == number) (entries tree.paths)

-- whether two paths of a fileset lead to one number
abbrev pub names_one : Fileset → Path → Path → Bool
names_one tree path other =
    let leads_to : ℕ → Bool =
    λ number. option_map_or (λ n. n == number) (get tree.paths other) false in
    same_path path other || option_map_or leads_to (get tree.paths path) false
