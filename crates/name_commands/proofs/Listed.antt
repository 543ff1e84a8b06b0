-- What a directory lists, and what stands at a path, answered.
use Rattle.std.proofs.Common.{◌≡◌, ◌∙◌, ◌∷◌, ℕ, true, false, not, [], Option, None, Some, IsSomeAnd, length, refl, sym, ap}
use Rattle.std.specs.FinMap.{empty, len}
use Rattle.std.specs.Option.{option_map, option_map_or}
use Rattle.domain_changes.specs.domain_base.declared.place.Kind.{Kind}
use Rattle.domain_changes.specs.domain_base.declared.place.Kind.TheVariants as kind
use Rattle.domain_changes.specs.domain_base.declared.place.Tag.{Tag}
use Rattle.domain_changes.specs.fileset_files.declared.attributes.Attributes.{Attributes}
use Rattle.domain_changes.specs.fileset_model.Apply.{answer_of, in_fileset, out_of_sync, stat_of}
use Rattle.domain_changes.specs.fileset_model.Filesets.{FilesetMap}
use Rattle.domain_changes.specs.fileset_model.Paths.{file_here, first_refusal, is_directory, node_at, refuse_if, rows_of, target_refusal}
use Rattle.domain_changes.specs.fileset_values.declared.command.Command.TheVariants.{List as ListNames, Stat}
use Rattle.domain_changes.specs.fileset_values.declared.command.Place.{Place}
use Rattle.domain_changes.specs.fileset_model.declared.fileset.FilesetSlot.{FilesetSlot}
use Rattle.domain_changes.specs.fileset_model.declared.node.Node.{Node}
use Rattle.domain_changes.specs.fileset_model.declared.node.Node.TheVariants as node
use Rattle.domain_changes.specs.fileset_values.declared.reply.Refusal.TheVariants.{NotDirectory}
use Rattle.domain_changes.specs.fileset_values.declared.reply.Reply.TheVariants.{DirStat, Done, FileStat, Names}
use Rattle.domain_changes.specs.name_space.Names.{is_directory_kind}
use Rattle.domain_changes.specs.domain_memory.declared.memory.DomainMemory.{DomainMemory}
use Rattle.file_changes.specs.Reading.{IsDescribed, IsWhatIs, pages_at, pages_in}
use Rattle.name_commands.specs.Placing.{IsPlaced}
use Rattle.name_commands.proofs.Means.{in_this}
use Rattle.name_commands.proofs.PlacedThere.{in_step, told_not}

module _ (memory : DomainMemory) (all : FilesetMap) (place : Place) (number : ℕ) (tag : Tag) (of : Kind) (p : IsPlaced memory all place number tag of) where
  file_is : file_here p.fileset place.path ≡ refuse_if (not (is_directory_kind of)) NotDirectory
  file_is = ap (λ b. refuse_if b NotDirectory) (told_not (node_at p.fileset.tree place.path) (is_directory_kind of) p.leads.kind)

  pub list_refusal : in_fileset all place.fileset (λ slot. target_refusal slot place.path ∷ file_here slot place.path ∷ out_of_sync slot place.path ∷ []) ≡ first_refusal (refuse_if (not (is_directory_kind of)) NotDirectory ∷ [])
  list_refusal =
      in_this all place.fileset p.fileset (λ slot. target_refusal slot place.path ∷ file_here slot place.path ∷ out_of_sync slot place.path ∷ []) p.here
      ∙ (λ i. first_refusal (p.leads.allowed i ∷ file_is i ∷ in_step memory all place number tag of p i ∷ []))
      ∙ by_kind of
    where
      by_kind : (k : Kind) → first_refusal (None ∷ refuse_if (not (is_directory_kind k)) NotDirectory ∷ None ∷ []) ≡ first_refusal (refuse_if (not (is_directory_kind k)) NotDirectory ∷ [])
      by_kind kind.File = refl
      by_kind kind.Directory = refl

  pub stat_refusal : in_fileset all place.fileset (λ slot. target_refusal slot place.path ∷ out_of_sync slot place.path ∷ []) ≡ None
  stat_refusal =
      in_this all place.fileset p.fileset (λ slot. target_refusal slot place.path ∷ out_of_sync slot place.path ∷ []) p.here
      ∙ (λ i. first_refusal (p.leads.allowed i ∷ in_step memory all place number tag of p i ∷ []))

  pub list_answer : answer_of all (ListNames place) ≡ Names (rows_of p.fileset.tree place.path)
  list_answer = ap (λ (o : Option FilesetSlot). option_map_or (λ (s : FilesetSlot). Names (rows_of s.tree place.path)) o Done) p.here

  stat_answer : answer_of all (Stat place) ≡ option_map_or (stat_of p.fileset.tree place.path) (node_at p.fileset.tree place.path) Done
  stat_answer = ap (λ (o : Option FilesetSlot). option_map_or (λ (s : FilesetSlot). option_map_or (stat_of s.tree place.path) (node_at s.tree place.path) Done) o Done) p.here

  pub file_answer : (what : Attributes) → IsWhatIs place.path tag p.fileset.tree what → of ≡ kind.File → (count : ℕ) → count ≡ len (pages_at p.fileset.tree place.path) → answer_of all (Stat place) ≡ FileStat what.uid what.gid what.size count what.is_logged
  file_answer what is file count counted = stat_answer ∙ by_node (node_at p.fileset.tree place.path) is.node (p.leads.kind ∙ ap (λ k. Some (is_directory_kind k)) file) counted
    where
      by_node : (o : Option Node) → IsSomeAnd o (IsDescribed what) → option_map is_directory o ≡ Some false → count ≡ len (option_map_or pages_in o empty) → option_map_or (stat_of p.fileset.tree place.path) o Done ≡ FileStat what.uid what.gid what.size count what.is_logged
      by_node None described no_directory number_is = absurd described
      by_node (Some (node.File uid gid size logged pages)) d no_directory number_is = λ i. FileStat (sym d.1 i) (sym d.2 i) (sym d.3 i) (sym number_is i) (sym d.4 i)
      by_node (Some (node.Directory uid gid)) described no_directory number_is = absurd (cc)

  pub directory_answer : (what : Attributes) → IsWhatIs place.path tag p.fileset.tree what → of ≡ kind.Directory → (rows : ℕ) → rows ≡ length (rows_of p.fileset.tree place.path) → answer_of all (Stat place) ≡ DirStat what.uid what.gid rows
  directory_answer what is directory rows counted = stat_answer ∙ by_node (node_at p.fileset.tree place.path) is.node (p.leads.kind ∙ ap (λ k. Some (is_directory_kind k)) directory)
    where
      by_node : (o : Option Node) → IsSomeAnd o (IsDescribed what) → option_map is_directory o ≡ Some true → option_map_or (stat_of p.fileset.tree place.path) o Done ≡ DirStat what.uid what.gid rows
      by_node None described is_one = absurd described
      by_node (Some (node.File uid gid size logged pages)) described is_one = absurd (cc)
      by_node (Some (node.Directory uid gid)) d is_one = λ i. DirStat (sym d.1 i) (sym d.2 i) (sym counted i)
