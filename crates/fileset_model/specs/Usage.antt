-- What an owner uses of a fileset, as sums over its files and directories as they are now.
use Rattle.std.specs.Prelude.{ℕ, ◌+◌, ◌*◌, ◌==◌, Bool, true, false, not, ◌&&◌, nat_lt, List, [], ◌∷◌, length, filter, sum_by, unwrap_or, Option, if◌then◌else◌}
use Rattle.std.specs.Option.{option_map_or}
use Rattle.std.specs.FinMap as map
use Rattle.fileset_values.specs.domain_base.Limits.{blocks_per_page}
use Rattle.fileset_values.specs.Orders.{owner_cmp}
use Rattle.fileset_model.specs.Fileset.{Fileset}
use Rattle.fileset_model.specs.Paths.{refuse_if, first_refusal}
use Rattle.fileset_values.specs.declared.command.Owner.{Owner}
use Rattle.fileset_values.specs.declared.command.Owner.TheVariants.{User, Group, Fileset as WholeFileset}
use Rattle.fileset_model.specs.declared.fileset.Limits.{Limits}
use Rattle.fileset_model.specs.declared.node.Node.{Node}
use Rattle.fileset_model.specs.declared.node.Node.TheVariants.{File, Directory}
use Rattle.fileset_values.specs.declared.reply.Refusal.{Refusal}
use Rattle.fileset_values.specs.declared.reply.Refusal.TheVariants.{QuotaFiles, QuotaBlocks}

-- whether what has these ids is the owner's
abbrev pub is_owned : Owner → ℕ → ℕ → Bool
is_owned (User id) uid gid = id == uid
is_owned (Group id) uid gid = id == gid
is_owned WholeFileset uid gid = true

abbrev pub is_owners : Owner → Node → Bool
is_owners who (File uid gid size logged pages) = is_owned who uid gid
is_owners who (Directory uid gid) = is_owned who uid gid

-- 16 blocks for each page of a file that is there
abbrev pub blocks_of : Node → ℕ
blocks_of (File uid gid size logged pages) = blocks_per_page * map.len pages
blocks_of (Directory uid gid) = 0

-- whether a file or directory counts for the owner: it is the owner's, and not the root
abbrev pub counts_for : Owner → Option ℕ → ℕ × Node → Bool
counts_for who root e =
    is_owners who e.1 && not (option_map_or (λ number. number == e.0) root false)

-- the owner's files and directories but for the root, each once, however many paths lead to it
abbrev pub owned : Fileset → Owner → List (ℕ × Node)
owned tree who = filter (counts_for who (map.get tree.paths [])) (map.entries tree.nodes)

-- how many files and directories count for an owner, each number once, without the root
abbrev pub used_files : Fileset → Owner → ℕ
used_files tree who = length (owned tree who)

-- how many blocks of 512 bytes they use
abbrev pub used_blocks : Fileset → Owner → ℕ
used_blocks tree who = sum_by (λ e. blocks_of e.1) (owned tree who)

-- an owner's limits; 0 is no limit
abbrev pub limits_of : Fileset → Owner → Limits
limits_of tree who = unwrap_or (map.get tree.limits who) (record { files = 0; blocks = 0 })

-- limits that bind nothing
abbrev pub is_unlimited : Limits → Bool
is_unlimited limits = limits.files == 0 && limits.blocks == 0

-- the limits of owners with these of one of them, who has no entry if they bind nothing
abbrev pub with_limits : map.FinMap owner_cmp Limits → Owner → Limits → map.FinMap owner_cmp Limits
with_limits all who limits =
    if is_unlimited limits then map.remove all who else map.insert all who limits

-- whether `asked` more would pass a limit
abbrev pub passes : ℕ → ℕ → ℕ → Bool
passes limit used asked = not (limit == 0) && not (asked == 0) && nat_lt limit (used + asked)

abbrev pub files_refusal : Fileset → Owner → ℕ → Option Refusal
files_refusal tree who asked =
    let limit = (limits_of tree who).files in
    let used = used_files tree who in
    refuse_if (passes limit used asked) (QuotaFiles limit used)

abbrev pub blocks_refusal : Fileset → Owner → ℕ → Option Refusal
blocks_refusal tree who asked =
    let limit = (limits_of tree who).blocks in
    let used = used_blocks tree who in
    refuse_if (passes limit used asked) (QuotaBlocks limit used asked)

-- the check of `files` and `blocks` more, for the user, the group and the fileset in turn
abbrev pub quota_refusal : Fileset → ℕ → ℕ → ℕ → ℕ → Option Refusal
quota_refusal tree uid gid files blocks =
    first_refusal (of (User uid) ∷ of (Group gid) ∷ of WholeFileset ∷ [])
  where
    of : Owner → Option Refusal
    of who = first_refusal (files_refusal tree who files ∷ blocks_refusal tree who blocks ∷ [])
