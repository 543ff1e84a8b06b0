-- The files and directories of a fileset, as three finite maps.
use Rattle.std.specs.Prelude.{ℕ, refl}
use Rattle.std.specs.Ordering.{nat_cmp}
use Rattle.std.specs.FinMap as map
use Rattle.std.specs.Coded.{Coded, code_by, coded×, coded_ℕ, coded_list}
use Rattle.fileset_values.specs.Orders.{path_cmp, owner_cmp}
use Rattle.fileset_model.specs.declared.node.Node.{Node}
use Rattle.fileset_model.specs.declared.fileset.Limits.{Limits}
use Rattle.fileset_values.specs.contracts.command.Owner as owner
use Rattle.fileset_model.specs.contracts.node.Node as node
use Rattle.fileset_model.specs.contracts.fileset.Limits as limits

-- from paths to the numbers of files and directories, from numbers to what they are, and from
-- owners to their limits
pub record Fileset : Type 0 where
  pub paths : map.FinMap path_cmp ℕ
  pub nodes : map.FinMap nat_cmp Node
  pub limits : map.FinMap owner_cmp Limits

abbrev pub paths_code : Coded (map.FinMap path_cmp ℕ)
paths_code = map.code (coded_list (coded_list coded_ℕ)) coded_ℕ

abbrev pub nodes_code : Coded (map.FinMap nat_cmp Node)
nodes_code = map.code coded_ℕ node.the_row.coded

abbrev pub limits_code : Coded (map.FinMap owner_cmp Limits)
limits_code = map.code owner.the_row.coded limits.the_row.coded

-- a fileset is stored as the tuple of its maps
abbrev pub fileset_code : Coded Fileset
fileset_code =
    code_by (map.FinMap path_cmp ℕ × (map.FinMap nat_cmp Node × map.FinMap owner_cmp Limits))
    (coded× paths_code (coded× nodes_code limits_code))
    (λ f. (f.paths, (f.nodes, f.limits)))
    (λ p. record { paths = p.0; nodes = p.1.0; limits = p.1.1 })
    (λ _. refl)
