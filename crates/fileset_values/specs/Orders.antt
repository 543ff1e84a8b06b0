-- The orders of names, of paths and of owners, in which finite maps have them as keys.
use Rattle.std.specs.Prelude.{ℕ, List}
use Rattle.std.specs.declared.cmp.Ordering.{Ordering}
use Rattle.std.specs.Ordering.{nat_cmp, on, then_cmp}
use Rattle.std.specs.Cmp.{IsTotalOrder, nat_cmp_total, on_total, then_total}
use Rattle.std.specs.Cmp.Lexicographic.{slice_cmp, lists_total, nat_list_cmp_total}
use Rattle.std.specs.FinMap.{IsAntisymmetric, nat_cmp-IsAntisymmetric, slice_cmp-IsAntisymmetric}
use Rattle.fileset_values.specs.declared.command.Owner.{Owner}
use Rattle.fileset_values.specs.declared.command.Owner.TheVariants.{User, Group, Fileset}

-- a name's bytes, and the names of a path
abbrev pub Name : Type 0
Name = List ℕ

-- a path from the root on; the root is the empty one
abbrev pub Path : Type 0
Path = List Name

-- names in the order of their bytes
abbrev pub name_cmp : Name → Name → Ordering
name_cmp = slice_cmp nat_cmp

-- paths in the order of their names, so that a directory's names stand in byte order
abbrev pub path_cmp : Path → Path → Ordering
path_cmp = slice_cmp name_cmp

-- users, groups, and then the fileset
abbrev pub owner_kind : Owner → ℕ
owner_kind (User id) = 0
owner_kind (Group id) = 1
owner_kind Fileset = 2

abbrev pub owner_id : Owner → ℕ
owner_id (User id) = id
owner_id (Group id) = id
owner_id Fileset = 0

-- users before groups before the whole fileset, each by id
abbrev pub owner_cmp : Owner → Owner → Ordering
owner_cmp = then_cmp (on owner_kind nat_cmp) (on owner_id nat_cmp)

pub name_cmp-total : IsTotalOrder name_cmp
name_cmp-total = nat_list_cmp_total

pub path_cmp-total : IsTotalOrder path_cmp
path_cmp-total = lists_total nat_list_cmp_total

pub owner_cmp-total : IsTotalOrder owner_cmp
owner_cmp-total = then_total (on_total owner_kind nat_cmp_total) (on_total owner_id nat_cmp_total)

pub name_cmp-IsAntisymmetric : IsAntisymmetric name_cmp
name_cmp-IsAntisymmetric = slice_cmp-IsAntisymmetric nat_cmp-IsAntisymmetric

pub path_cmp-IsAntisymmetric : IsAntisymmetric path_cmp
path_cmp-IsAntisymmetric = slice_cmp-IsAntisymmetric name_cmp-IsAntisymmetric
