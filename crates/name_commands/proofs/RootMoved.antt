-- Renames of the root, and in its place.
use Rattle.std.proofs.Common.{◌≡◌, ◌∙◌, ◌+◌, ◌-◌, ◌==◌, ◌≤◌, ◌∷◌, ℕ, true, false, is_some, not, Bool, [], Option, Some, None, Result, Ok, Err, IfOk, IfErr, cond, if◌then◌else◌, inl, inr, length, take, refl, sym, ap, subst, arith}
use Rattle.std.specs.FinMap as map
use Rattle.std.specs.Cmp.{Equal-is}
use Rattle.std.specs.Ordering.{eq_by_cmp}
use Rattle.std.specs.Option.{option_and_then, option_map, option_map_or}
use Rattle.std.proofs.lemmas.Bool.{eqb-true}
use Rattle.domain_changes.specs.domain_base.declared.place.Kind.{Kind}
use Rattle.domain_changes.specs.domain_base.declared.place.Kind.TheVariants as kind
use Rattle.domain_changes.specs.domain_base.declared.place.Tag.{Tag}
use Rattle.domain_changes.specs.legal_histories.Valid.{IsValidAs, IsValidFileset}
use Rattle.domain_changes.specs.fileset_model.Apply.{Changes, move_checks, not_empty, refusal_of, rename_checks, renamed, replace_checks, with_tree}
use Rattle.domain_changes.specs.fileset_model.Filesets.{FilesetMap}
use Rattle.domain_changes.specs.fileset_values.Orders.{Name, Path, name_cmp, name_cmp-total, name_cmp-IsAntisymmetric}
use Rattle.domain_changes.specs.fileset_model.Paths.{directory_here, file_here, first_refusal, is_directory, is_out_of_sync, is_out_of_sync_at, names_one, node_at, refuse_if, target_refusal, walk_refusal}
use Rattle.domain_changes.specs.fileset_values.declared.command.Command.TheVariants.{Rename}
use Rattle.domain_changes.specs.fileset_values.declared.command.Place.{Place}
use Rattle.domain_changes.specs.fileset_model.declared.fileset.FilesetSlot.{FilesetSlot}
use Rattle.domain_changes.specs.fileset_model.declared.fileset.Role.{Role}
use Rattle.domain_changes.specs.fileset_model.declared.fileset.Role.TheVariants.{Original}
use Rattle.domain_changes.specs.fileset_model.declared.node.Node.{Node}
use Rattle.domain_changes.specs.fileset_values.declared.reply.Refusal.{Refusal}
use Rattle.domain_changes.specs.fileset_values.declared.reply.Refusal.TheVariants.{IntoItself, IsDirectory, NoPath, NotDirectory, NotEmpty, OutOfSync}
use Rattle.domain_changes.specs.name_space.Names.{is_directory_kind}
use Rattle.name_changes.specs.Looking.{LeadsTo}
use Rattle.domain_changes.proofs.OfReleaseList.Spread.{none_not, some_same}
use Rattle.domain_changes.proofs.OfStandingLaws.FilesetPut.{stood_in}
use Rattle.domain_changes.specs.domain_memory.Staged.{staged_in}
use Rattle.domain_changes.specs.domain_memory.declared.memory.DomainMemory.{DomainMemory}
use Rattle.name_commands.specs.Naming.{IsNewPath, IsPathToGet}
use Rattle.name_commands.specs.Placing.{IsPlaced}
use Rattle.name_commands.specs.Rooted.{IsRefusedOnto, refused_below}
use Rattle.name_commands.proofs.Means.{in_this}
use Rattle.name_commands.proofs.PlacedThere.{told}
use Rattle.name_commands.proofs.AtRoot.{has_root, root_directory, root_no_file, root_there}
use Rattle.name_commands.proofs.ToldAgain.{lost_writable, original_writable}
use Rattle.name_commands.proofs.WaysSplit.{walk_split}

module _ (slot : FilesetSlot) (role : slot.role ≡ Original) (valid : IsValidFileset slot.tree) where
  -- no other path leads to it
  alone : (name : Name) (rest : Path) (n m : ℕ) → map.get slot.tree.paths [] ≡ Some n → map.get slot.tree.paths (name ∷ rest) ≡ Some m → n ≡ m → ⊥
  alone name rest n m root there same = nothing (valid.one_path [] (name ∷ rest) n valid.root root (there ∙ ap (λ k. Some k) (sym same)))
    where
      nothing : [] ≡ name ∷ rest → ⊥
      nothing e = cc

  other_number : (name : Name) (rest : Path) (o p : Option ℕ) → map.get slot.tree.paths [] ≡ o → map.get slot.tree.paths (name ∷ rest) ≡ p
      → (option_map_or (λ (k : ℕ). option_map_or (λ n. n == k) p false) o false ≡ false) × (option_map_or (λ (k : ℕ). option_map_or (λ n. n == k) o false) p false ≡ false)
  other_number name rest None None root there = (refl, refl)
  other_number name rest None (Some m) root there = (refl, refl)
  other_number name rest (Some n) None root there = (refl, refl)
  other_number name rest (Some n) (Some m) root there = (by_test (m == n) refl, by_other (n == m) refl)
    where
      by_test : (b : Bool) → (m == n) ≡ b → b ≡ false
      by_test false is = refl
      by_test true is = absurd (alone name rest n m root there (sym (eqb-true m n is)))

      by_other : (b : Bool) → (n == m) ≡ b → b ≡ false
      by_other false is = refl
      by_other true is = absurd (alone name rest n m root there (eqb-true n m is))

  root_names_other : (name : Name) (rest : Path) → names_one slot.tree [] (name ∷ rest) ≡ false
  root_names_other name rest = (other_number name rest (map.get slot.tree.paths []) (map.get slot.tree.paths (name ∷ rest)) refl refl).0

  other_names_root : (name : Name) (rest : Path) → names_one slot.tree (name ∷ rest) [] ≡ false
  other_names_root name rest = (other_number name rest (map.get slot.tree.paths []) (map.get slot.tree.paths (name ∷ rest)) refl refl).1

  -- it would come below itself, if the way to the other path is clear
  pub root_moved : (to : Path) → 1 ≤ length to → first_refusal (rename_checks [] to slot) ≡ first_refusal (walk_refusal slot to ∷ Some IntoItself ∷ [])
  root_moved [] some = absurd (omega (arith, some))
  root_moved (name ∷ rest) some = λ i. first_refusal
      (original_writable slot role i ∷ root_there slot valid i ∷ walk_refusal slot (name ∷ rest)
      ∷ (if root_names_other name rest i then None else first_refusal (move_checks [] (name ∷ rest) slot)) ∷ [])

  -- nothing comes in its place
  pub moved_onto : (path : Path) (of : Kind) → 1 ≤ length path → target_refusal slot path ≡ None → option_map is_directory (node_at slot.tree path) ≡ Some (is_directory_kind of)
      → first_refusal (rename_checks path [] slot) ≡ Some (if is_directory_kind of then NotEmpty else IsDirectory)
  moved_onto [] of some there is = absurd (omega (arith, some))
  moved_onto (name ∷ rest) of some there is =
      (λ i. first_refusal
      (original_writable slot role i ∷ there i ∷ None
      ∷ (if other_names_root name rest i then None else first_refusal (move_checks (name ∷ rest) [] slot)) ∷ []))
      ∙ ap (λ b. first_refusal (first_refusal ((if b then first_refusal (replace_checks (name ∷ rest) [] slot) else None) ∷ []) ∷ [])) (has_root slot valid)
      ∙ ap (λ (o : Option Refusal). first_refusal (first_refusal (o ∷ []) ∷ [])) (by_kind of (told (node_at slot.tree (name ∷ rest)) (is_directory_kind of) is))
    where
      by_kind : (k : Kind) → option_map_or is_directory (node_at slot.tree (name ∷ rest)) false ≡ is_directory_kind k → first_refusal (replace_checks (name ∷ rest) [] slot) ≡ Some (if is_directory_kind k then NotEmpty else IsDirectory)
      by_kind kind.File is_file = (λ i. first_refusal (if is_file i then file_here slot [] ∷ not_empty slot [] ∷ [] else directory_here slot [] ∷ [])) ∙ ap (λ (o : Option Refusal). first_refusal (o ∷ [])) (root_directory slot valid)
      by_kind kind.Directory is_one = (λ i. first_refusal (if is_one i then file_here slot [] ∷ not_empty slot [] ∷ [] else directory_here slot [] ∷ [])) ∙ ap (λ (o : Option Refusal). first_refusal (o ∷ Some NotEmpty ∷ [])) (root_no_file slot valid)

  -- what is refused on the way to its directory is refused on the way to a path
  pub way_refused : (to : Path) (m : ℕ) (refusal : Refusal) → length to ≡ m + 1 → target_refusal slot (take m to) ≡ Some refusal → walk_refusal slot to ≡ Some refusal
  way_refused to m refusal long is = walk_split slot to m long ∙ by (walk_refusal slot (take m to)) (map.get slot.tree.paths (take m to)) is
    where
      by : (w : Option Refusal) (o : Option ℕ) → first_refusal (w ∷ refuse_if (not (is_some o)) NoPath ∷ []) ≡ Some refusal → first_refusal (w ∷ option_map_or (λ (node : Node). first_refusal (refuse_if (not (is_directory node)) NotDirectory ∷ refuse_if (is_out_of_sync_at slot (take m to)) OutOfSync ∷ [])) (option_and_then (map.get slot.tree.nodes) o) (Some NoPath) ∷ []) ≡ Some refusal
      by (Some r) o same = same
      by None None same = same
      by None (Some n) same = absurd (cc)

  in_step : (path : Path) → is_out_of_sync_at slot path ≡ false
  in_step path = ap (λ (r : Role). option_map_or (is_out_of_sync r) (map.get slot.tree.paths path) false) role ∙ by (map.get slot.tree.paths path)
    where
      by : (o : Option ℕ) → option_map_or (is_out_of_sync Original) o false ≡ false
      by None = refl
      by (Some n) = refl

  way_clear : (w p : Option Refusal) → first_refusal (w ∷ p ∷ []) ≡ None → w ≡ None
  way_clear None p none = refl
  way_clear (Some r) p none = absurd (cc)

  -- and where its directory's path leads to something, that a file stands there
  pub way_led : (to : Path) (m : ℕ) (of : Kind) → length to ≡ m + 1 → target_refusal slot (take m to) ≡ None → option_map is_directory (node_at slot.tree (take m to)) ≡ Some (is_directory_kind of)
      → walk_refusal slot to ≡ refuse_if (not (is_directory_kind of)) NotDirectory
  way_led to m of long there is =
      walk_split slot to m long
      ∙ (λ i. first_refusal
      (way_clear (walk_refusal slot (take m to)) _ there i
      ∷ option_map_or (λ (node : Node). first_refusal (refuse_if (not (is_directory node)) NotDirectory ∷ refuse_if (in_step (take m to) i) OutOfSync ∷ [])) (node_at slot.tree (take m to)) (Some NoPath) ∷ []))
      ∙ by_node (node_at slot.tree (take m to)) is
    where
      by_kind : (k : Kind) (b : Bool) → b ≡ is_directory_kind k → first_refusal (None ∷ first_refusal (refuse_if (not b) NotDirectory ∷ None ∷ []) ∷ []) ≡ refuse_if (not (is_directory_kind k)) NotDirectory
      by_kind kind.File b same = ap (λ x. first_refusal (None ∷ first_refusal (refuse_if (not x) NotDirectory ∷ None ∷ []) ∷ [])) same
      by_kind kind.Directory b same = ap (λ x. first_refusal (None ∷ first_refusal (refuse_if (not x) NotDirectory ∷ None ∷ []) ∷ [])) same

      by_node : (o : Option Node) → option_map is_directory o ≡ Some (is_directory_kind of)
          → first_refusal (None ∷ option_map_or (λ (node : Node). first_refusal (refuse_if (not (is_directory node)) NotDirectory ∷ None ∷ [])) o (Some NoPath) ∷ []) ≡ refuse_if (not (is_directory_kind of)) NotDirectory
      by_node None same = absurd (none_not (is_directory_kind of) same)
      by_node (Some node) same = by_kind of (is_directory node) (some_same (is_directory node) (is_directory_kind of) same)

  -- so the root is not moved
  pub moved_below : (to : Path) (m : ℕ) (led : Result (Tag × Kind) Refusal) → length to ≡ m + 1 → IfOk led (λ at. LeadsTo (take m to) slot at.0 at.1) → IfErr led (λ refusal. target_refusal slot (take m to) ≡ Some refusal)
      → first_refusal (rename_checks [] to slot) ≡ Some (refused_below led)
  moved_below to m (Ok at) long there refused = root_moved to (omega (arith, long)) ∙ ap (λ (o : Option Refusal). first_refusal (o ∷ Some IntoItself ∷ [])) (way_led to m at.1 long there.allowed there.kind) ∙ by_kind at.1
    where
      by_kind : (k : Kind) → first_refusal (refuse_if (not (is_directory_kind k)) NotDirectory ∷ Some IntoItself ∷ []) ≡ Some (if is_directory_kind k then IntoItself else NotDirectory)
      by_kind kind.File = refl
      by_kind kind.Directory = refl
  moved_below to m (Err refusal) long there refused = root_moved to (omega (arith, long)) ∙ ap (λ (o : Option Refusal). first_refusal (o ∷ Some IntoItself ∷ [])) (way_refused to m refusal long refused)

-- nothing else comes in its place
pub renamed_onto : (place : Place) (to : Path) → 1 ≤ length place.path → to ≡ [] → IsRefusedOnto place IsDirectory NotEmpty (Rename place to)
renamed_onto place to some root = record {
  there = λ all slot of at role valid led is.
      in_this all place.fileset slot (rename_checks place.path to) at
      ∙ ap (λ (p : Path). first_refusal (rename_checks place.path p slot)) root
      ∙ moved_onto slot role valid place.path of some led is;
  lost = λ all none stop lost. lost_writable all none place stop lost (λ s. walk_refusal s to ∷ (if names_one s.tree place.path to then None else first_refusal (move_checks place.path to s)) ∷ []);
}

same_put : (all : FilesetMap) (name : Name) (slot : FilesetSlot) → map.get all name ≡ Some slot → map.insert all name slot ≡ all
same_put all name slot at =
    map.same_map name_cmp-total name_cmp-IsAntisymmetric (map.insert all name slot) all (λ q. map.get-insert name_cmp-total all name slot q ∙ by q (eq_by_cmp name_cmp q name) refl)
  where
    by : (q : Name) (b : Bool) → eq_by_cmp name_cmp q name ≡ b → cond b (Some slot) (map.get all q) ≡ map.get all q
    by q false is = refl
    by q true is = sym at ∙ ap (map.get all) (sym (name_cmp-IsAntisymmetric q name ((Equal-is (name_cmp q name)).0 is)))

-- it may be renamed to itself, and nothing changes
pub renamed_itself : (all : FilesetMap) (place : Place) (to : Path) (slot : FilesetSlot) → map.get all place.fileset ≡ Some slot → slot.role ≡ Original → IsValidFileset slot.tree → place.path ≡ [] → to ≡ []
    → (refusal_of all (Rename place to) ≡ None) × Changes all (Rename place to) all
renamed_itself all place to slot at role valid root also = (
  in_this all place.fileset slot (rename_checks place.path to) at
      ∙ (λ i. first_refusal (rename_checks (root i) (also i) slot))
      ∙ (λ i. first_refusal (original_writable slot role i ∷ root_there slot valid i ∷ None ∷ None ∷ [])),
  sym (same_put all place.fileset slot at)
      ∙ sym (ap (λ (o : Option FilesetSlot). option_map_or (λ (s : FilesetSlot). map.insert all place.fileset (record s { tree = renamed [] [] s.tree })) o all) at)
      ∙ (λ i. with_tree all place.fileset (renamed (sym root i) (sym also i))),
)

-- what a place leads to is in a valid fileset
pub placed_valid : (memory : DomainMemory) (all : FilesetMap) (place : Place) (number : ℕ) (tag : Tag) (of : Kind) (p : IsPlaced memory all place number tag of) → IsValidFileset p.fileset.tree
placed_valid memory all place number tag of p =
    let stood = stood_in (staged_in memory) all p.has.staged.stands.slots number p.entry p.has.original in
    let same : stood.fileset_was ≡ p.fileset = some_same stood.fileset_was p.fileset (sym stood.filled ∙ p.has.there) in
    subst (λ (s : FilesetSlot). IsValidFileset s.tree) same (subst (λ (r : Role). IsValidAs r stood.fileset_was) (ap (λ (s : FilesetSlot). s.role) same ∙ p.role) stood.stood.filled.valid)

-- a path with names, and one without
pub no_names : (path : Path) → length path ≡ 0 → path ≡ []
no_names [] none = refl
no_names (name ∷ rest) none = absurd (omega (arith, none))

pub is_new : (path : Path) → IsPathToGet path → 1 ≤ length path → IsNewPath path
is_new path (inl root) some = absurd (omega (arith, some, ap length root))
is_new path (inr new) some = new
