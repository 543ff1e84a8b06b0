-- What a path leads to in a domain's memory that is settled.
use Rattle.std.proofs.Common.{◌≡◌, ◌∙◌, ◌∷◌, ℕ, true, false, not, Bool, [], Option, None, Some, IsSome, IsSomeAnd, Result, Ok, Err, inl, slice_get, refl, ap, subst}
use Rattle.std.specs.Option.{option_and_then, option_map, option_map_or}
use Rattle.domain_changes.specs.domain_base.declared.place.Kind.{Kind}
use Rattle.domain_changes.specs.domain_base.declared.place.Kind.TheVariants as kind
use Rattle.domain_changes.specs.domain_base.declared.place.Tag.{Tag}
use Rattle.domain_changes.specs.fileset_files.declared.attributes.Attributes.{Attributes}
use Rattle.domain_changes.specs.fileset_files.Files.{AreFiles, attributes_of, of_live}
use Rattle.domain_changes.specs.fileset_model.Apply.{Changes, answer_of, in_fileset, links_of, out_of_sync, read_checks, read_of}
use Rattle.domain_changes.specs.fileset_model.Filesets.{FilesetMap}
use Rattle.domain_changes.specs.fileset_model.Paths.{directory_here, first_refusal, is_directory, is_out_of_sync, node_at, paths_to, refuse_if, target_refusal}
use Rattle.domain_changes.specs.fileset_values.declared.command.Command.{Command}
use Rattle.domain_changes.specs.fileset_values.declared.command.Command.TheVariants.{Links, Read}
use Rattle.domain_changes.specs.fileset_values.declared.command.Place.{Place}
use Rattle.domain_changes.specs.fileset_model.declared.fileset.FilesetSlot.{FilesetSlot}
use Rattle.domain_changes.specs.fileset_model.declared.fileset.Role.{Role}
use Rattle.domain_changes.specs.fileset_model.declared.node.Node.{Node}
use Rattle.domain_changes.specs.fileset_values.declared.reply.Refusal.{Refusal}
use Rattle.domain_changes.specs.fileset_values.declared.reply.Refusal.TheVariants.{IsDirectory, OutOfSync}
use Rattle.domain_changes.specs.fileset_values.declared.reply.Reply.{Reply}
use Rattle.domain_changes.specs.fileset_values.declared.reply.Reply.TheVariants.{Count, Done}
use Rattle.domain_changes.specs.fileset_table.Table.{Table}
use Rattle.domain_changes.specs.name_space.Names.{is_directory_kind, number_of}
use Rattle.domain_changes.specs.staged_pages.Store.{pages_of}
use Rattle.domain_changes.proofs.OfReleaseList.Spread.{none_not, some_same}
use Rattle.domain_changes.specs.domain_layout.CellRules.{of_original}
use Rattle.domain_changes.specs.domain_memory.Slots.{places_in, slot_in}
use Rattle.domain_changes.specs.domain_memory.Staged.{MayBeKept}
use Rattle.domain_changes.specs.domain_memory.declared.memory.DomainMemory.{DomainMemory}
use Rattle.name_changes.specs.Looking.{IsLiveIn, IsSame, LeadsTo}
use Rattle.name_changes.proofs.Same.{still_back, still_staged}
use Rattle.file_changes.specs.Reading.{IsThereIn}
use Rattle.file_changes.specs.Stages.{HasFile}
use Rattle.name_commands.specs.Ending.{EndsAs}
use Rattle.name_commands.specs.Placing.{IsLost, IsPlaced, RepliesAs}
use Rattle.name_commands.specs.declared.stop.Stop.{Stop}
use Rattle.name_commands.specs.declared.stop.Stop.TheVariants.{Refused}
use Rattle.name_commands.proofs.Given.{Given}
use Rattle.name_commands.proofs.Means.{accepted, in_this}

pub same_itself : (memory : DomainMemory) → IsSame memory memory
same_itself memory = record { same = refl; slots = refl; listed = refl }

pub is_placed : (memory : DomainMemory) (number : ℕ) (place : Place) (all : FilesetMap) (g : Given memory number place.fileset all) (tag : Tag) (of : Kind) → LeadsTo place.path g.fileset tag of → IsPlaced memory all place number tag of
is_placed memory number place all g tag of leads = record {
  entry = g.entry;
  named = g.named;
  fileset = g.fileset;
  has = g.has;
  here = g.here;
  role = g.role;
  leads = leads;
}

-- the way there is refused first
pub is_lost : (memory : DomainMemory) (number : ℕ) (place : Place) (all : FilesetMap) (g : Given memory number place.fileset all) → (refusal : Refusal) → target_refusal g.fileset place.path ≡ Some refusal → IsLost all place (Refused refusal)
is_lost memory number place all g refusal is = λ more.
    in_this all place.fileset g.fileset (λ slot. target_refusal slot place.path ∷ more slot) g.here
    ∙ ap (λ (o : Option Refusal). first_refusal (o ∷ more g.fileset)) is

-- a command that changes nothing ends so
pub ends_so : (last : DomainMemory) (all : FilesetMap) (command : Command) (r : Result Reply Stop) → MayBeKept last all → Changes all command all → RepliesAs all command r → EndsAs last all command r
ends_so last all command (Ok reply) kept still is = record { now = all; kept = kept; means = inl (accepted all command reply all is.0 is.1 still) }
ends_so last all command (Err stop) kept still is = is

-- ---- memory that is as it was

module _ (memory last : DomainMemory) (same : IsSame memory last) where
  table_is : last.table ≡ memory.table
  table_is = ap (λ (m : DomainMemory). m.table) same.same

  pub original_is : (number : ℕ) → of_original (slice_get memory.table.slots number) ≡ true → of_original (slice_get last.table.slots number) ≡ true
  original_is number is = ap (λ (t : Table). of_original (slice_get t.slots number)) table_is ∙ is

  pub live_is : (number : ℕ) (tag : Tag) (of : Kind) → IsLiveIn memory number tag of → IsLiveIn last number tag of
  live_is number tag of live chains are =
      live chains
      (subst (λ items. AreFiles number (places_in (slot_in items number)) (pages_of memory.pages) chains) same.slots
      (subst (λ (m : DomainMemory). AreFiles number (places_in (slot_in last.slots.items number)) (pages_of m.pages) chains) same.same are))

  pub placed_is : (all : FilesetMap) (place : Place) (number : ℕ) (tag : Tag) (of : Kind) → IsPlaced memory all place number tag of → IsPlaced last all place number tag of
  placed_is all place number tag of p = record {
    entry = p.entry;
    named = p.named;
    fileset = p.fileset;
    has = record {
      staged = still_staged memory last same all p.has.staged;
      may = still_back memory last same p.has.may;
      original = ap (λ (t : Table). slice_get t.slots number) table_is ∙ p.has.original;
      there = p.has.there;
    };
    here = p.here;
    role = p.role;
    leads = p.leads;
  }

-- ---- what is asked of a place

pub told : (o : Option Node) (b : Bool) → option_map is_directory o ≡ Some b → option_map_or is_directory o false ≡ b
told None b is = absurd (none_not b is)
told (Some node) b is = some_same (is_directory node) b is

pub told_not : (o : Option Node) (b : Bool) → option_map is_directory o ≡ Some b → option_map_or (λ node. not (is_directory node)) o false ≡ not b
told_not None b is = absurd (none_not b is)
told_not (Some node) b is = ap not (some_same (is_directory node) b is)

module _ (memory : DomainMemory) (all : FilesetMap) (place : Place) (number : ℕ) (tag : Tag) (of : Kind) (p : IsPlaced memory all place number tag of) where
  pub file_of : HasFile memory number tag place.path all p.entry p.fileset
  file_of = record { staged = p.has.staged; original = p.has.original; there = p.has.there; at = p.leads.at }

  pub directory_is : directory_here p.fileset place.path ≡ refuse_if (is_directory_kind of) IsDirectory
  directory_is = ap (λ b. refuse_if b IsDirectory) (told (node_at p.fileset.tree place.path) (is_directory_kind of) p.leads.kind)

  pub in_step : out_of_sync p.fileset place.path ≡ None
  in_step =
      ap (λ (o : Option ℕ). refuse_if (option_map_or (is_out_of_sync p.fileset.role) o false) OutOfSync) p.leads.at
      ∙ ap (λ (r : Role). refuse_if (is_out_of_sync r (number_of tag)) OutOfSync) p.role

  pub read_refusal : in_fileset all place.fileset (read_checks place.path) ≡ first_refusal (refuse_if (is_directory_kind of) IsDirectory ∷ [])
  read_refusal =
      in_this all place.fileset p.fileset (read_checks place.path) p.here
      ∙ (λ i. first_refusal (p.leads.allowed i ∷ directory_is i ∷ in_step i ∷ []))
      ∙ by_kind of
    where
      by_kind : (k : Kind) → first_refusal (None ∷ refuse_if (is_directory_kind k) IsDirectory ∷ None ∷ []) ≡ first_refusal (refuse_if (is_directory_kind k) IsDirectory ∷ [])
      by_kind kind.File = refl
      by_kind kind.Directory = refl

  -- and what is answered
  pub links_answer : answer_of all (Links place) ≡ Count (paths_to p.fileset.tree (number_of tag))
  links_answer =
      ap (λ (o : Option FilesetSlot). option_map_or (λ (s : FilesetSlot). links_of place.path s.tree) o Done) p.here
      ∙ ap (λ (o : Option ℕ). option_map_or (λ n. Count (paths_to p.fileset.tree n)) o Done) p.leads.at

  pub read_answer : (offset count : ℕ) (reply : Reply) → IsSomeAnd (node_at p.fileset.tree place.path) (λ node. read_of offset count node ≡ reply) → answer_of all (Read place offset count) ≡ reply
  read_answer offset count reply is =
      ap (λ (o : Option FilesetSlot). option_map_or (λ (s : FilesetSlot). option_map_or (read_of offset count) (node_at s.tree place.path) Done) o Done) p.here
      ∙ by_node (node_at p.fileset.tree place.path) is
    where
      by_node : (o : Option Node) → IsSomeAnd o (λ node. read_of offset count node ≡ reply) → option_map_or (read_of offset count) o Done ≡ reply
      by_node None none = absurd none
      by_node (Some node) read = read

-- a tag names something there
pub there_in : (memory : DomainMemory) (number : ℕ) (tag : Tag) (of : Kind) → IsLiveIn memory number tag of → IsThereIn memory number tag
there_in memory number tag of live = λ chains are. by_option (option_and_then (of_live attributes_of) (chains tag)) (live chains are)
  where
    by_option : (o : Option Attributes) → IsSomeAnd o (λ is. is.kind ≡ of) → IsSome o
    by_option None none = absurd none
    by_option (Some what) some = refl

-- the same, of a kind that is told
pub placed_as : (memory : DomainMemory) (all : FilesetMap) (place : Place) (number : ℕ) (tag : Tag) (of other : Kind) → of ≡ other → IsPlaced memory all place number tag of → IsPlaced memory all place number tag other
placed_as memory all place number tag of other same p = record {
  entry = p.entry;
  fileset = p.fileset;
  has = p.has;
  here = p.here;
  role = p.role;
  named = p.named;
  leads = subst (LeadsTo place.path p.fileset tag) same p.leads;
}
