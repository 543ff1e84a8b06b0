-- What the row to which a path leads tells of the fileset.
use Rattle.std.proofs.Common.{◌≡◌, ◌∙◌, ◌-◌, ◌≤◌, false, not, is_some, IsSome, List, [], ◌∷◌, ◌++◌, Option, Some, None, Ok, IsSomeAnd, length, take, refl, sym, ap, subst, arith}
use Rattle.std.proofs.lemmas.List.{get_or_default}
use Rattle.std.specs.Option.{option_and_then, option_map_or}
use Rattle.std.specs.FinMap as map
use Rattle.plain_program.specs.domain_base.declared.place.Kind.{Kind}
use Rattle.plain_program.specs.domain_base.declared.place.Tag.{Tag}
use Rattle.directory_rows.specs.page_store.Bitfiles.{Bitfiles}
use Rattle.directory_rows.specs.directory_pages.Rows.{found}
use Rattle.directory_rows.specs.Directory.{IsWellFormed, rows_in}
use Rattle.plain_program.specs.fileset_values.Orders.{Path}
use Rattle.plain_program.specs.fileset_model.Paths.{directory_here, file_here, first_refusal, is_directory, node_at, refuse_if, walk_refusal}
use Rattle.plain_program.specs.fileset_model.declared.fileset.FilesetSlot.{FilesetSlot}
use Rattle.plain_program.specs.fileset_model.declared.node.Node.{Node}
use Rattle.plain_program.specs.fileset_values.declared.reply.Refusal.{Refusal}
use Rattle.plain_program.specs.fileset_values.declared.reply.Refusal.TheVariants.{IsDirectory, NoPath, NotDirectory}
use Rattle.plain_program.proofs.OfLegalHistories.ValidLemmas.{as_original}
use Rattle.name_space.specs.Changes.{Checks, HasOriginal, IsOriginal, IsSpot, last_name, target_checks}
use Rattle.name_space.specs.Names.{HasNames, is_directory_kind, led_to}
use Rattle.name_space.specs.Walks.{IsWayTo}
use Rattle.name_space.specs.declared.spot.Spot.{Spot}
use Rattle.name_space.proofs.CreatedNames.{whole_path}
use Rattle.name_space.proofs.Leads.{led-name}
use Rattle.name_space.proofs.Originals.{all_shown, is_in, number_at}
use Rattle.name_space.proofs.Targets.{target_lost, target_there}

pub has_names : (files : Bitfiles) → HasOriginal files → HasNames files
has_names files has = (has.0, has.1.names, as_original has.0 has.1.role has.1.valid)

-- ---- checks, some after others

pub passed_more : (checks more : List (Option Refusal)) → first_refusal checks ≡ None → first_refusal (checks ++ more) ≡ first_refusal more
passed_more [] more none = refl
passed_more (None ∷ checks) more none = passed_more checks more none
passed_more (Some refusal ∷ checks) more none = cc

pub refused_more : (checks more : List (Option Refusal)) (refusal : Refusal) → first_refusal checks ≡ Some refusal → first_refusal (checks ++ more) ≡ Some refusal
refused_more [] more refusal is = cc
refused_more (None ∷ checks) more refusal is = refused_more checks more refusal is
refused_more (Some first ∷ checks) more refusal is = is

-- ---- the row of a path

pub led_path : (files : Bitfiles) (path : Path) → 1 ≤ length path → (dir : Tag) → IsWayTo files path (length path - 1) dir → led_to files path ≡ found (last_name path) (rows_in files dir)
led_path files path some dir way =
    ap (led_to files) (sym (whole_path path some))
    ∙ led-name files (take (length path - 1) path) (last_name path)
    ∙ ap (option_and_then (λ (led : Tag × Kind). found (last_name path) (rows_in files led.0))) way.led

module _ (files : Bitfiles) (slot : FilesetSlot) (original : IsOriginal files slot) (path : Path) (some : 1 ≤ length path) (dir : Tag) (clear : walk_refusal slot path ≡ None) (way : IsWayTo files path (length path - 1) dir) where
  pub spot_there : (at : Tag × Kind) → found (last_name path) (rows_in files dir) ≡ Some at → first_refusal (target_checks path slot) ≡ None
  spot_there at row =
      ap (λ (r : Option Refusal). first_refusal (r ∷ []))
      (target_there files slot original.names path (length path - 1) dir (last_name path) (omega (arith, some)) way (get_or_default path (length path - 1) [] (last_name path) (omega (arith, some))) clear at row).0

  pub spot_lost : found (last_name path) (rows_in files dir) ≡ None → first_refusal (target_checks path slot) ≡ Some NoPath
  spot_lost row =
      ap (λ (r : Option Refusal). first_refusal (r ∷ []))
      (target_lost files slot original.names path (length path - 1) dir (last_name path) (omega (arith, some)) way (get_or_default path (length path - 1) [] (last_name path) (omega (arith, some))) clear row)

-- ---- what stands at a path

module _ (files : Bitfiles) (slot : FilesetSlot) (original : IsOriginal files slot) (path : Path) (tag : Tag) (of : Kind) (led : led_to files path ≡ Some (tag, of)) where
  node_is : IsSomeAnd (node_at slot.tree path) (λ node. is_directory node ≡ is_directory_kind of)
  node_is = subst (λ o. IsSomeAnd (option_and_then (map.get slot.tree.nodes) o) (λ node. is_directory node ≡ is_directory_kind of))
      (sym (number_at files slot original.names original.role path tag of led))
      (original.names.shown path tag of (all_shown files slot original.names original.role path) led).kind

  pub directory_is : option_map_or is_directory (node_at slot.tree path) false ≡ is_directory_kind of
  directory_is = by_node (node_at slot.tree path) node_is
    where
      by_node : (o : Option Node) → IsSomeAnd o (λ node. is_directory node ≡ is_directory_kind of) → option_map_or is_directory o false ≡ is_directory_kind of
      by_node None is = absurd is
      by_node (Some node) is = is

  pub directory_here_is : directory_here slot path ≡ refuse_if (is_directory_kind of) IsDirectory
  directory_here_is = ap (λ b. refuse_if b IsDirectory) directory_is

  pub file_here_is : file_here slot path ≡ refuse_if (not (is_directory_kind of)) NotDirectory
  file_here_is = ap (λ b. refuse_if b NotDirectory) (by_node (node_at slot.tree path) node_is)
    where
      by_node : (o : Option Node) → IsSomeAnd o (λ node. is_directory node ≡ is_directory_kind of) → option_map_or (λ node. not (is_directory node)) o false ≡ not (is_directory_kind of)
      by_node None is = absurd is
      by_node (Some node) is = ap not is

-- what a row that a path leads to tells of the set
pub spot_facts : (files : Bitfiles) → HasOriginal files → (checks : Checks) (path : Path) → 1 ≤ length path → (spot : Spot) → ((slot : FilesetSlot) → IsOriginal files slot → IsSpot checks files slot path (Ok spot))
    → IsWellFormed files spot.dir × (found (last_name path) (rows_in files spot.dir) ≡ Some (spot.tag, spot.kind)) × IsSome (files spot.tag)
spot_facts files has checks path some spot is =
    let names = has.1.names in
    let at = is has.0 has.1 in
    let had = is_in files has.0 names has.1.role path spot.tag spot.kind (led_path files path some spot.dir at.1 ∙ at.2) in
    (names.directories spot.dir at.1.there, at.2, ap is_some had.there)
