-- What the root of an original refuses.
use Rattle.std.proofs.Common.{◌≡◌, ◌∙◌, ◌∷◌, ℕ, true, false, not, [], Option, Some, None, IsSomeAnd, IsTrue, is_some, if◌then◌else◌, refl, sym, ap, subst}
use Rattle.std.specs.FinMap as map
use Rattle.std.specs.Option.{option_and_then, option_map_or}
use Rattle.domain_changes.specs.domain_base.declared.place.Kind.{Kind}
use Rattle.domain_changes.specs.domain_base.declared.place.Kind.TheVariants as kind
use Rattle.domain_changes.specs.legal_histories.Valid.{IsValidFileset}
use Rattle.domain_changes.specs.fileset_model.Apply.{create_checks, in_fileset, link_checks, links_full, not_empty, path_taken, read_only}
use Rattle.domain_changes.specs.fileset_model.Filesets.{FilesetMap}
use Rattle.domain_changes.specs.fileset_values.Orders.{Path}
use Rattle.domain_changes.specs.fileset_model.Paths.{directory_here, file_here, first_refusal, is_directory, node_at, refuse_if, target_refusal, walk_refusal}
use Rattle.domain_changes.specs.fileset_model.Usage.{quota_refusal}
use Rattle.domain_changes.specs.fileset_values.declared.command.Command.TheVariants.{Link}
use Rattle.domain_changes.specs.fileset_values.declared.command.Place.{Place}
use Rattle.domain_changes.specs.fileset_model.declared.fileset.FilesetSlot.{FilesetSlot}
use Rattle.domain_changes.specs.fileset_model.declared.fileset.Role.TheVariants.{Original}
use Rattle.domain_changes.specs.fileset_model.declared.node.Node.{Node}
use Rattle.domain_changes.specs.fileset_values.declared.reply.Refusal.{Refusal}
use Rattle.domain_changes.specs.fileset_values.declared.reply.Refusal.TheVariants.{Exists, IsDirectory, NoPath, NotDirectory, NotEmpty}
use Rattle.domain_changes.specs.name_space.Names.{is_directory_kind}
use Rattle.name_commands.specs.Leaving.{taking}
use Rattle.name_commands.specs.Naming.{creation}
use Rattle.name_commands.specs.Rooted.{IsRefusedIn, IsRefusedOnto}
use Rattle.name_commands.proofs.Means.{in_none, in_this}
use Rattle.name_commands.proofs.PlacedThere.{told}
use Rattle.name_commands.proofs.ToldAgain.{lost_writable, original_writable}

-- a directory stands at a path
there_at : (nodes : ℕ → Option Node) (o : Option ℕ) → IsSomeAnd (option_and_then nodes o) (λ node. IsTrue (is_directory node)) → is_some o ≡ true
there_at nodes None is = absurd is
there_at nodes (Some n) is = refl

directory_at : (o : Option Node) → IsSomeAnd o (λ node. IsTrue (is_directory node)) → option_map_or is_directory o false ≡ true
directory_at None is = absurd is
directory_at (Some node) is = is

no_file_at : (o : Option Node) → IsSomeAnd o (λ node. IsTrue (is_directory node)) → option_map_or (λ node. not (is_directory node)) o false ≡ false
no_file_at None is = absurd is
no_file_at (Some node) is = ap not is

module _ (slot : FilesetSlot) (valid : IsValidFileset slot.tree) where
  pub has_root : map.contains_key slot.tree.paths [] ≡ true
  has_root = there_at (map.get slot.tree.nodes) (map.get slot.tree.paths []) valid.root

  pub root_taken : path_taken slot [] ≡ Some Exists
  root_taken = ap (λ b. refuse_if b Exists) has_root

  pub root_there : target_refusal slot [] ≡ None
  root_there = ap (λ b. first_refusal (None ∷ refuse_if (not b) NoPath ∷ [])) has_root

  pub root_directory : directory_here slot [] ≡ Some IsDirectory
  root_directory = ap (λ b. refuse_if b IsDirectory) (directory_at (node_at slot.tree []) valid.root)

  pub root_no_file : file_here slot [] ≡ None
  root_no_file = ap (λ b. refuse_if b NotDirectory) (no_file_at (node_at slot.tree []) valid.root)

-- it is there already
pub made_there : (place : Place) (of : Kind) (uid gid : ℕ) → place.path ≡ [] → IsRefusedIn place.fileset Exists (creation of place uid gid)
made_there place of uid gid root = by of
  where
    there : (all : FilesetMap) (slot : FilesetSlot) → map.get all place.fileset ≡ Some slot → slot.role ≡ Original → IsValidFileset slot.tree → in_fileset all place.fileset (create_checks place.path uid gid) ≡ Some Exists
    there all slot at role valid =
        in_this all place.fileset slot (create_checks place.path uid gid) at
        ∙ ap (λ (p : Path). first_refusal (create_checks p uid gid slot)) root
        ∙ (λ i. first_refusal (original_writable slot role i ∷ None ∷ root_taken slot valid i ∷ quota_refusal slot.tree uid gid 1 0 ∷ []))

    by : (k : Kind) → IsRefusedIn place.fileset Exists (creation k place uid gid)
    by kind.File = record { there = there; none = λ all at. in_none all place.fileset (create_checks place.path uid gid) at }
    by kind.Directory = record { there = there; none = λ all at. in_none all place.fileset (create_checks place.path uid gid) at }

-- it is no file, and never taken away
pub taken_there : (place : Place) (of : Kind) (refusal : Refusal) → place.path ≡ [] → refusal ≡ (if is_directory_kind of then NotEmpty else IsDirectory) → IsRefusedIn place.fileset refusal (taking of place)
taken_there place of refusal root is = subst (λ r. IsRefusedIn place.fileset r (taking of place)) (sym is) (by of)
  where
    by : (k : Kind) → IsRefusedIn place.fileset (if is_directory_kind k then NotEmpty else IsDirectory) (taking k place)
    by kind.File = record {
      there = λ all slot at role valid.
          in_this all place.fileset slot (λ s. read_only s ∷ target_refusal s place.path ∷ directory_here s place.path ∷ []) at
          ∙ ap (λ (p : Path). first_refusal (read_only slot ∷ target_refusal slot p ∷ directory_here slot p ∷ [])) root
          ∙ (λ i. first_refusal (original_writable slot role i ∷ root_there slot valid i ∷ root_directory slot valid i ∷ []));
      none = λ all at. in_none all place.fileset (λ s. read_only s ∷ target_refusal s place.path ∷ directory_here s place.path ∷ []) at;
    }
    by kind.Directory = record {
      there = λ all slot at role valid.
          in_this all place.fileset slot (λ s. read_only s ∷ target_refusal s place.path ∷ file_here s place.path ∷ not_empty s place.path ∷ []) at
          ∙ ap (λ (p : Path). first_refusal (read_only slot ∷ target_refusal slot p ∷ file_here slot p ∷ not_empty slot p ∷ [])) root
          ∙ (λ i. first_refusal (original_writable slot role i ∷ root_there slot valid i ∷ root_no_file slot valid i ∷ not_empty slot [] ∷ []));
      none = λ all at. in_none all place.fileset (λ s. read_only s ∷ target_refusal s place.path ∷ file_here s place.path ∷ not_empty s place.path ∷ []) at;
    }

-- it gets no second path
pub linked_there : (place : Place) (to : Path) → place.path ≡ [] → IsRefusedIn place.fileset IsDirectory (Link place to)
linked_there place to root = record {
  there = λ all slot at role valid.
      in_this all place.fileset slot (link_checks place.path to) at
      ∙ ap (λ (p : Path). first_refusal (link_checks p to slot)) root
      ∙ (λ i. first_refusal (original_writable slot role i ∷ root_there slot valid i ∷ root_directory slot valid i ∷ walk_refusal slot to ∷ path_taken slot to ∷ links_full slot [] ∷ []));
  none = λ all at. in_none all place.fileset (link_checks place.path to) at;
}

-- and nothing else gets its path
pub linked_onto : (place : Place) (to : Path) → to ≡ [] → IsRefusedOnto place Exists IsDirectory (Link place to)
linked_onto place to root = record {
  there = λ all slot of at role valid led is.
      in_this all place.fileset slot (link_checks place.path to) at
      ∙ ap (λ (p : Path). first_refusal (link_checks place.path p slot)) root
      ∙ (λ i. first_refusal
      (original_writable slot role i ∷ led i ∷ refuse_if (told (node_at slot.tree place.path) (is_directory_kind of) is i) IsDirectory ∷ None ∷ root_taken slot valid i ∷ links_full slot place.path ∷ []))
      ∙ by_kind of (links_full slot place.path);
  lost = λ all none stop lost. lost_writable all none place stop lost (λ s. directory_here s place.path ∷ walk_refusal s to ∷ path_taken s to ∷ links_full s place.path ∷ []);
}
  where
    by_kind : (k : Kind) (full : Option Refusal) → first_refusal (None ∷ None ∷ refuse_if (is_directory_kind k) IsDirectory ∷ None ∷ Some Exists ∷ full ∷ []) ≡ Some (if is_directory_kind k then IsDirectory else Exists)
    by_kind kind.File full = refl
    by_kind kind.Directory full = refl
