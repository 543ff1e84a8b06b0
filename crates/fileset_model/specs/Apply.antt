-- What each command of a client answers and changes.
use Rattle.std.specs.Prelude.{◌≡◌, ◌⊎◌, ℕ, ◌+◌, ◌*◌, ◌==◌, Bool, true, false, not, ◌||◌, ◌&&◌, nat_lt, nat_le, max, List, [], ◌∷◌, ◌++◌, length, map, drop, IsTrue, MatchOption, Option, Some, None, if◌then◌else◌}
use Rattle.std.specs.Option.{option_map_or}
use Rattle.std.specs.List.{list_any}
use Rattle.std.specs.FinMap as map
use Rattle.fileset_values.specs.domain_base.Limits.{blocks_per_page, file_bytes, max_filesets, max_links}
use Rattle.fileset_values.specs.Orders.{Name, Path}
use Rattle.fileset_model.specs.Fileset.{Fileset}
use Rattle.fileset_model.specs.Pages.{absent_pages, bytes_between, written, truncated}
use Rattle.fileset_model.specs.Paths.{same_name, same_path, first_refusal, refuse_if, node_at, is_directory, is_out_of_sync_at, walk_refusal, target_refusal, directory_here, file_here, begins_with, rows_of, names_one, paths_to}
use Rattle.fileset_model.specs.Usage.{limits_of, quota_refusal, used_blocks, used_files, with_limits}
use Rattle.fileset_model.specs.Filesets.{FilesetMap}
use Rattle.fileset_values.specs.declared.command.Command.{Command}
use Rattle.fileset_values.specs.declared.command.Command.TheVariants.{Mkfset, Rmfset, Clonefset, Showfsets, Setquota, Showquota, Create, Mkdir, Write, Read, Truncate, Rename, Link, Links, Unlink, Rmdir, List as ListNames, Stat, Fsync, Chfile, Sync, Cancel}
use Rattle.fileset_values.specs.declared.command.Owner.{Owner}
use Rattle.fileset_values.specs.declared.command.Place.{Place}
use Rattle.fileset_model.specs.declared.fileset.FilesetSlot.{FilesetSlot}
use Rattle.fileset_model.specs.declared.fileset.Role.{Role}
use Rattle.fileset_model.specs.declared.fileset.Role.TheVariants.{Original, CloneOf}
use Rattle.fileset_model.specs.declared.node.Node.{Node}
use Rattle.fileset_model.specs.declared.node.Node.TheVariants.{File, Directory}
use Rattle.fileset_values.specs.declared.reply.Refusal.{Refusal}
use Rattle.fileset_values.specs.declared.reply.Refusal.TheVariants.{NoFileset, FilesetExists, Exists, NotEmpty, ReadOnly, HasClone, OutOfSync, IntoItself, TooFar, FilesetsFull, CloneOfClone, OutOfMemory, LinksFull}
use Rattle.fileset_values.specs.declared.reply.Reply.{Reply}
use Rattle.fileset_values.specs.declared.reply.Reply.TheVariants.{Done, Count, Read as Bytes, Names, FileStat, DirStat, Filesets, Quota, Refused}

-- the original of a clone
abbrev pub original_of : Role → Option Name
original_of Original = None
original_of (CloneOf original out) = Some original

-- whether a fileset is a clone
abbrev pub is_clone : Role → Bool
is_clone Original = false
is_clone (CloneOf original out) = true

-- whether a fileset is a clone of the one with this name
abbrev pub is_clone_of : Name → Role → Bool
is_clone_of name role = option_map_or (same_name name) (original_of role) false

-- whether a fileset with this name has a clone
abbrev pub has_clone : FilesetMap → Name → Bool
has_clone all name = list_any (λ slot. is_clone_of name slot.role) (map.values all)

-- ---- the refusals of each command, in their order

-- the first refusal of the checks in the fileset with this name, and no-fileset if there is none
abbrev pub in_fileset : FilesetMap → Name → (FilesetSlot → List (Option Refusal)) → Option Refusal
in_fileset all name checks =
    option_map_or (λ slot. first_refusal (checks slot)) (map.get all name) (Some NoFileset)

abbrev pub read_only : FilesetSlot → Option Refusal
read_only slot = refuse_if (is_clone slot.role) ReadOnly

abbrev pub out_of_sync : FilesetSlot → Path → Option Refusal
out_of_sync slot path = refuse_if (is_out_of_sync_at slot path) OutOfSync

abbrev pub filesets_full : FilesetMap → Option Refusal
filesets_full all = refuse_if (nat_le max_filesets (map.len all)) FilesetsFull

abbrev pub name_taken : FilesetMap → Name → Option Refusal
name_taken all name = refuse_if (map.contains_key all name) FilesetExists

abbrev pub path_taken : FilesetSlot → Path → Option Refusal
path_taken slot path = refuse_if (map.contains_key slot.tree.paths path) Exists

-- a directory with a row; the root, which no script can remove, counts as one
abbrev pub not_empty : FilesetSlot → Path → Option Refusal
not_empty slot path =
    refuse_if (length path == 0 || not (length (rows_of slot.tree path) == 0)) NotEmpty

-- the file has as many paths as a file may have
abbrev pub links_full : FilesetSlot → Path → Option Refusal
links_full slot path =
    let number = map.get slot.tree.paths path in
    refuse_if (option_map_or (λ n. nat_le max_links (paths_to slot.tree n)) number false) LinksFull

-- 16 blocks are asked for each absent page
abbrev pub write_quota : Fileset → ℕ → List ℕ → Node → Option Refusal
write_quota tree offset bytes (File uid gid size logged pages) =
    quota_refusal tree uid gid 0 (blocks_per_page * absent_pages pages offset (length bytes))
write_quota tree offset bytes (Directory uid gid) = None

abbrev pub create_checks : Path → ℕ → ℕ → FilesetSlot → List (Option Refusal)
create_checks path uid gid slot =
    read_only slot ∷ walk_refusal slot path ∷ path_taken slot path
    ∷ quota_refusal slot.tree uid gid 1 0 ∷ []

abbrev pub write_checks : Path → ℕ → List ℕ → FilesetSlot → List (Option Refusal)
write_checks path offset bytes slot =
    read_only slot ∷ target_refusal slot path ∷ directory_here slot path
    ∷ refuse_if (nat_lt file_bytes (offset + length bytes)) TooFar
    ∷ option_map_or (write_quota slot.tree offset bytes) (node_at slot.tree path) None ∷ []

abbrev pub read_checks : Path → FilesetSlot → List (Option Refusal)
read_checks path slot =
    target_refusal slot path ∷ directory_here slot path ∷ out_of_sync slot path ∷ []

abbrev pub link_checks : Path → Path → FilesetSlot → List (Option Refusal)
link_checks path to slot =
    read_only slot ∷ target_refusal slot path ∷ directory_here slot path
    ∷ walk_refusal slot to ∷ path_taken slot to ∷ links_full slot path ∷ []

-- what stands at the second path is to be replaced: a file by a file, an empty directory by a
-- directory
abbrev pub replace_checks : Path → Path → FilesetSlot → List (Option Refusal)
replace_checks from to slot =
    if option_map_or is_directory (node_at slot.tree from) false
    then file_here slot to ∷ not_empty slot to ∷ []
    else directory_here slot to ∷ []

abbrev pub move_checks : Path → Path → FilesetSlot → List (Option Refusal)
move_checks from to slot =
    let replaced = first_refusal (replace_checks from to slot) in
    refuse_if (begins_with to from) IntoItself
    ∷ (if map.contains_key slot.tree.paths to then replaced else None) ∷ []

abbrev pub rename_checks : Path → Path → FilesetSlot → List (Option Refusal)
rename_checks from to slot =
    read_only slot ∷ target_refusal slot from ∷ walk_refusal slot to
    ∷ (if names_one slot.tree from to then None else first_refusal (move_checks from to slot)) ∷ []

-- the first refusal that holds of a command
abbrev pub refusal_of : FilesetMap → Command → Option Refusal
refusal_of all (Mkfset fileset) = first_refusal (name_taken all fileset ∷ filesets_full all ∷ [])
refusal_of all (Rmfset fileset) =
    in_fileset all fileset (λ slot. refuse_if (has_clone all fileset) HasClone ∷ [])
refusal_of all (Clonefset fileset new_name) =
    in_fileset all fileset (λ slot.
    refuse_if (is_clone slot.role) CloneOfClone ∷ refuse_if (has_clone all fileset) HasClone
    ∷ name_taken all new_name ∷ filesets_full all ∷ [])
refusal_of all (Setquota fileset who files blocks) =
    in_fileset all fileset (λ slot. read_only slot ∷ [])
refusal_of all (Showquota fileset who) = in_fileset all fileset (λ slot. read_only slot ∷ [])
refusal_of all (Create place uid gid) =
    in_fileset all place.fileset (create_checks place.path uid gid)
refusal_of all (Mkdir place uid gid) =
    in_fileset all place.fileset (create_checks place.path uid gid)
refusal_of all (Write place offset bytes) =
    in_fileset all place.fileset (write_checks place.path offset bytes)
refusal_of all (Read place offset count) = in_fileset all place.fileset (read_checks place.path)
refusal_of all (Truncate place size) =
    in_fileset all place.fileset (λ slot.
    read_only slot ∷ target_refusal slot place.path ∷ directory_here slot place.path
    ∷ refuse_if (nat_lt file_bytes size) TooFar ∷ [])
refusal_of all (Rename place to) = in_fileset all place.fileset (rename_checks place.path to)
refusal_of all (Link place to) = in_fileset all place.fileset (link_checks place.path to)
refusal_of all (Links place) = in_fileset all place.fileset (read_checks place.path)
refusal_of all (Unlink place) =
    in_fileset all place.fileset (λ slot.
    read_only slot ∷ target_refusal slot place.path ∷ directory_here slot place.path ∷ [])
refusal_of all (Rmdir place) =
    in_fileset all place.fileset (λ slot.
    read_only slot ∷ target_refusal slot place.path ∷ file_here slot place.path
    ∷ not_empty slot place.path ∷ [])
refusal_of all (ListNames place) =
    in_fileset all place.fileset (λ slot.
    target_refusal slot place.path ∷ file_here slot place.path
    ∷ out_of_sync slot place.path ∷ [])
refusal_of all (Stat place) =
    in_fileset all place.fileset (λ slot.
    target_refusal slot place.path ∷ out_of_sync slot place.path ∷ [])
refusal_of all (Fsync place) =
    in_fileset all place.fileset (λ slot.
    read_only slot ∷ target_refusal slot place.path ∷ [])
refusal_of all (Chfile place logged) =
    in_fileset all place.fileset (λ slot.
    read_only slot ∷ target_refusal slot place.path ∷ directory_here slot place.path ∷ [])
refusal_of all command = None

-- ---- the answer of each command that is not refused

-- what a read of a node answers
abbrev pub read_of : ℕ → ℕ → Node → Reply
read_of offset count (File uid gid size logged pages) =
    Bytes (bytes_between pages size offset count)
read_of offset count (Directory uid gid) = Done

abbrev pub stat_of : Fileset → Path → Node → Reply
stat_of tree path (File uid gid size logged pages) = FileStat uid gid size (map.len pages) logged
stat_of tree path (Directory uid gid) = DirStat uid gid (length (rows_of tree path))

abbrev pub quota_of : Fileset → Owner → Reply
quota_of tree who =
    let limits = limits_of tree who in
    Quota (used_files tree who) limits.files (used_blocks tree who) limits.blocks

abbrev pub links_of : Path → Fileset → Reply
links_of path tree =
    option_map_or (λ number. Count (paths_to tree number)) (map.get tree.paths path) Done

-- what the tree of the fileset with this name gives
abbrev pub of_tree : FilesetMap → Name → (Fileset → Reply) → Reply
of_tree all name answer = option_map_or (λ slot. answer slot.tree) (map.get all name) Done

-- what the node at a place gives
abbrev pub of_node : FilesetMap → Place → (Fileset → Node → Reply) → Reply
of_node all place answer =
    of_tree all place.fileset (λ tree. option_map_or (answer tree) (node_at tree place.path) Done)

-- what a command answers that is not refused
abbrev pub answer_of : FilesetMap → Command → Reply
answer_of all (Write place offset bytes) = Count (length bytes)
answer_of all (Read place offset count) = of_node all place (λ tree. read_of offset count)
answer_of all (Links place) = of_tree all place.fileset (links_of place.path)
answer_of all (ListNames place) =
    of_tree all place.fileset (λ tree. Names (rows_of tree place.path))
answer_of all (Stat place) = of_node all place (λ tree. stat_of tree place.path)
answer_of all Showfsets =
    Filesets
    (map (λ e. record { fileset = e.0; original = original_of e.1.role }) (map.entries all))
answer_of all (Showquota fileset who) = of_tree all fileset (λ tree. quota_of tree who)
answer_of all command = Done

-- ---- the change of each command that is not refused

-- the filesets with this change of one tree
abbrev pub with_tree : FilesetMap → Name → (Fileset → Fileset) → FilesetMap
with_tree all name change =
    option_map_or
    (λ slot. map.insert all name (record slot { tree = change slot.tree }))
    (map.get all name) all

-- a fileset with an empty root of this number, owned by uid 0 and gid 0
abbrev pub empty_fileset : ℕ → Fileset
empty_fileset root = record {
  paths = map.insert map.empty [] root;
  nodes = map.insert map.empty root (Directory 0 0);
  limits = map.empty;
}

-- the tree with a new node at a path
abbrev pub with_node : Path → ℕ → Node → Fileset → Fileset
with_node path number node tree = record tree {
  paths = map.insert tree.paths path number;
  nodes = map.insert tree.nodes number node;
}

-- the tree with this change of the node at a path
abbrev pub with_change : Path → (Node → Node) → Fileset → Fileset
with_change path change tree =
    option_map_or
    (λ number.
    option_map_or
    (λ node. record tree { nodes = map.insert tree.nodes number (change node) })
    (map.get tree.nodes number) tree)
    (map.get tree.paths path) tree

-- whether another path leads to a number too
abbrev pub is_named_elsewhere : Fileset → Path → ℕ → Bool
is_named_elsewhere tree path number =
    list_any (λ e. e.1 == number && not (same_path e.0 path)) (map.entries tree.paths)

-- the tree without a path, and without what stands there if that was its last path
abbrev pub without : Path → Fileset → Fileset
without path tree =
    option_map_or
    (λ number. record tree {
      paths = map.remove tree.paths path;
      nodes =
          if is_named_elsewhere tree path number then tree.nodes
          else map.remove tree.nodes number;
    })
    (map.get tree.paths path) tree

-- the tree in which a second path leads to what stands at the first
abbrev pub linked : Path → Path → Fileset → Fileset
linked path to tree =
    option_map_or
    (λ number. record tree { paths = map.insert tree.paths to number })
    (map.get tree.paths path) tree

-- a path that begins with `from`, with that front exchanged for `to`; any other as it is
abbrev pub moved_path : Path → Path → Path → Path
moved_path from to path = if begins_with path from then to ++ drop (length from) path else path

-- the tree with all that stands at `from` and below it moved to `to`
abbrev pub moved : Path → Path → Fileset → Fileset
moved from to tree = record tree {
  paths = map.from_entries (map (λ e. (moved_path from to e.0, e.1)) (map.entries tree.paths));
}

-- the tree after a rename, which changes nothing if both paths lead to one number
abbrev pub renamed : Path → Path → Fileset → Fileset
renamed from to tree = if names_one tree from to then tree else moved from to (without to tree)

-- a file after a write
abbrev pub written_node : ℕ → List ℕ → Node → Node
written_node offset bytes (File uid gid size logged pages) =
    File uid gid (max size (offset + length bytes)) logged (written pages offset bytes)
written_node offset bytes (Directory uid gid) = Directory uid gid

-- a file after a cut
abbrev pub truncated_node : ℕ → Node → Node
truncated_node cut (File uid gid size logged pages) = File uid gid cut logged (truncated pages cut)
truncated_node cut (Directory uid gid) = Directory uid gid

-- a file that is logged from now on, or is not
abbrev pub flagged_node : Bool → Node → Node
flagged_node flag (File uid gid size logged pages) = File uid gid size flag pages
flagged_node flag (Directory uid gid) = Directory uid gid

-- neither the fileset with this name nor its clone has a node of this number
abbrev pub IsUnused : FilesetMap → Name → ℕ → Type 0
IsUnused all name number =
    (other : Name) (slot : FilesetSlot) → map.get all other ≡ Some slot
    → IsTrue (same_name name other || is_clone_of name slot.role)
    → map.get slot.tree.nodes number ≡ None

-- the filesets with a new node at a place, of any number that is not used there
abbrev pub MakesNode : FilesetMap → Place → Node → FilesetMap → Type 0
MakesNode all place node new =
    (number : ℕ) × IsUnused all place.fileset number
    × (new ≡ with_tree all place.fileset (with_node place.path number node))

-- the filesets with a frozen copy of one under a new name
abbrev pub with_clone : FilesetMap → Name → Name → FilesetMap
with_clone all name new_name =
    option_map_or
    (λ slot. map.insert all new_name (record {
      tree = record slot.tree { limits = map.empty };
      role = CloneOf name map.empty;
    }))
    (map.get all name) all

-- the filesets after a command that is not refused; they tell nothing about a command on volumes,
-- so nothing is an answer to it
abbrev pub Changes : FilesetMap → Command → FilesetMap → Type 0
Changes all (Mkfset fileset) new =
    (root : ℕ)
    × (new ≡ map.insert all fileset (record { tree = empty_fileset root; role = Original }))
Changes all (Rmfset fileset) new = new ≡ map.remove all fileset
Changes all (Clonefset fileset new_name) new = new ≡ with_clone all fileset new_name
Changes all (Setquota fileset who files blocks) new =
    new ≡ with_tree all fileset (λ tree. record tree {
      limits = with_limits tree.limits who (record { files = files; blocks = blocks });
    })
Changes all (Create place uid gid) new = MakesNode all place (File uid gid 0 false map.empty) new
Changes all (Mkdir place uid gid) new = MakesNode all place (Directory uid gid) new
Changes all (Write place offset bytes) new =
    new ≡ with_tree all place.fileset (with_change place.path (written_node offset bytes))
Changes all (Truncate place size) new =
    new ≡ with_tree all place.fileset (with_change place.path (truncated_node size))
Changes all (Rename place to) new = new ≡ with_tree all place.fileset (renamed place.path to)
Changes all (Link place to) new = new ≡ with_tree all place.fileset (linked place.path to)
Changes all (Unlink place) new = new ≡ with_tree all place.fileset (without place.path)
Changes all (Rmdir place) new = new ≡ with_tree all place.fileset (without place.path)
Changes all (Chfile place logged) new =
    new ≡ with_tree all place.fileset (with_change place.path (flagged_node logged))
Changes all Showfsets new = new ≡ all
Changes all (Showquota fileset who) new = new ≡ all
Changes all (Read place offset count) new = new ≡ all
Changes all (Links place) new = new ≡ all
Changes all (ListNames place) new = new ≡ all
Changes all (Stat place) new = new ≡ all
Changes all (Fsync place) new = new ≡ all
Changes all Sync new = new ≡ all
Changes all Cancel new = new ≡ all
Changes all command new = ⊥

-- the first refusal, and then nothing changes, or else the answer and the change
abbrev pub Answers : FilesetMap → Command → Reply → FilesetMap → Type 0
Answers all command reply new =
    MatchOption (refusal_of all command)
    ((reply ≡ answer_of all command) × Changes all command new)
    (λ refusal. (reply ≡ Refused refusal) × (new ≡ all))

-- the answer and the change of a command; or out-of-memory, and then nothing changes
abbrev pub AnswersIfMemory : FilesetMap → Command → Reply → FilesetMap → Type 0
AnswersIfMemory all command reply new =
    Answers all command reply new ⊎ ((reply ≡ Refused OutOfMemory) × (new ≡ all))

-- a command that leaves the filesets as they are
abbrev pub ChangesNothing : Command → Type 0
ChangesNothing Showfsets = Unit {0}
ChangesNothing (Showquota fileset who) = Unit {0}
ChangesNothing (Read place offset count) = Unit {0}
ChangesNothing (Links place) = Unit {0}
ChangesNothing (ListNames place) = Unit {0}
ChangesNothing (Stat place) = Unit {0}
ChangesNothing (Fsync place) = Unit {0}
ChangesNothing Sync = Unit {0}
ChangesNothing Cancel = Unit {0}
ChangesNothing command = ⊥
