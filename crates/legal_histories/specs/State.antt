-- The filesets of a domain and the volumes below them.
use Rattle.std.specs.Prelude.{◌≡◌, ℕ, Bool, true, false, List, min, slice_index}
use Rattle.std.specs.List.{enumerate_from}
use Rattle.std.specs.Option.{option_map_or}
use Rattle.std.specs.declared.cmp.Ordering.{Ordering}
use Rattle.std.specs.Ordering.{nat_cmp, on, then_cmp}
use Rattle.std.specs.Cmp.{IsTotalOrder, nat_cmp_total, on_total, then_total}
use Rattle.std.specs.Cmp.Lexicographic.{nat_list_cmp_total}
use Rattle.std.specs.FinMap as map
use Rattle.std.specs.FinSet as set
use Rattle.fileset_model.specs.domain_base.Version.{most_pages}
use Rattle.fileset_model.specs.domain_base.declared.version.Version.{Version}
use Rattle.fileset_model.specs.Apply.{Answers}
use Rattle.fileset_model.specs.LooksLike.{LooksLike}
use Rattle.fileset_model.specs.fileset_values.Orders.{Name, name_cmp}
use Rattle.fileset_model.specs.Filesets.{FilesetMap}
use Rattle.fileset_model.specs.fileset_values.declared.command.Command.{Command}
use Rattle.fileset_model.specs.fileset_values.declared.reply.Reply.{Reply}

-- a number in the fileset with a name; such are ordered by the fileset's name first
abbrev pub Numbered : Type 0
Numbered = Name × ℕ

abbrev pub numbered_cmp : Numbered → Numbered → Ordering
numbered_cmp = then_cmp (on (λ n. n.0) name_cmp) (on (λ n. n.1) nat_cmp)

pub numbered_cmp-total : IsTotalOrder numbered_cmp
numbered_cmp-total =
    then_total (on_total (λ n. n.0) nat_list_cmp_total) (on_total (λ n. n.1) nat_cmp_total)

-- a set of such numbers
abbrev pub NumberedSet : Type 0
NumberedSet = set.FinSet numbered_cmp

-- a volume that the domain uses: how many of its pages, and whether new pages may be put on it
pub record Member : Type 0 where
  pub pages : ℕ
  pub is_open : Bool

-- members by the numbers of their volumes
abbrev pub MemberMap : Type 0
MemberMap = map.FinMap nat_cmp Member

-- the filesets; the pages of each volume of the rack; the member volumes and the one that has the
-- log; the version of the layout; the files of originals that are striped; and how many pages the
-- tables, directories and files left for removal took when the domain was opened
pub record State : Type 0 where
  pub filesets : FilesetMap
  pub rack : map.FinMap nat_cmp ℕ
  pub members : MemberMap
  pub log_volume : ℕ
  pub version : Version
  pub striped : NumberedSet
  pub old_pages : ℕ

-- the volumes of a rack by their numbers, which begin with 1
abbrev pub rack_of : List ℕ → map.FinMap nat_cmp ℕ
rack_of sizes = map.from_sorted (enumerate_from 1 sizes)

-- a domain that was just made on the first volume of a rack: its one table page is its first
abbrev pub new_domain : Version → List ℕ → State
new_domain version sizes = record {
  filesets = map.empty;
  rack = rack_of sizes;
  members = map.insert map.empty 1 (record {
    pages = min (slice_index sizes 0) (most_pages version);
    is_open = true;
  });
  log_volume = 1;
  version = version;
  striped = set.empty;
  old_pages = 1;
}

-- the striped numbers that the filesets still have a node for
abbrev pub still_striped : FilesetMap → NumberedSet → NumberedSet
still_striped all striped =
    set.retain striped
    (λ n. option_map_or (λ slot. map.contains_key slot.tree.nodes n.1) (map.get all n.0) false)

-- a state with other filesets; a file that is gone is no longer striped
abbrev pub with_filesets : FilesetMap → State → State
with_filesets all s = record s { filesets = all; striped = still_striped all s.striped }

-- what a command on filesets answers and changes; all else stays
abbrev pub Apply : State → Command → Reply → State → Type 0
Apply s command reply new =
    Answers s.filesets command reply new.filesets × (new ≡ with_filesets new.filesets s)

-- states whose filesets look alike, with all else the same
pub record LooksLikeState (s other : State) : Type 0 where
  pub filesets : LooksLike s.filesets other.filesets
  pub rest : other ≡ record s { filesets = other.filesets }
