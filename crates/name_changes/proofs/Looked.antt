-- What lent files show of a tag.
use Rattle.std.proofs.Common.{◌≡◌, ◌∙◌, ℕ, Option, Some, None, IfSome, IsSomeAnd, Result, Ok, Err, IfOk, IfErr, refl, sym, ap, subst}
use Rattle.std.proofs.Math.Logic.{∥∥₁_map}
use Rattle.std.specs.FinMap.{get}
use Rattle.std.specs.Option.{option_and_then, option_map}
use Rattle.fileset_lending.specs.domain_base.declared.place.Kind.{Kind}
use Rattle.fileset_lending.specs.domain_base.declared.place.Tag.{Tag}
use Rattle.fileset_lending.specs.page_store.Bitfiles.{Bitfile, Bitfiles, kind_at}
use Rattle.fileset_lending.specs.fileset_files.declared.attributes.Attributes.{Attributes}
use Rattle.fileset_lending.specs.fileset_files.Files.{attributes_of, of_live}
use Rattle.fileset_lending.proofs.OfFilesetFiles.Created.{one_chains}
use Rattle.fileset_lending.specs.declared.parts.CallSettings.{CallSettings}
use Rattle.fileset_lending.proofs.OfStoredSet.Stable.{one_number}
use Rattle.fileset_lending.proofs.OfStoredSet.Told.{kind_told}
use Rattle.fileset_lending.specs.stored_set.Sets.{StandsAsSet}
use Rattle.fileset_lending.specs.fileset_values.Orders.{Path}
use Rattle.fileset_lending.specs.fileset_model.Paths.{is_directory, target_refusal}
use Rattle.fileset_lending.specs.fileset_model.declared.fileset.FilesetSlot.{FilesetSlot}
use Rattle.fileset_lending.specs.fileset_values.declared.reply.Refusal.{Refusal}
use Rattle.fileset_lending.specs.fileset_model.declared.node.Node.{Node}
use Rattle.fileset_lending.specs.fileset_model.declared.node.Node.TheVariants as node
use Rattle.fileset_lending.specs.name_space.Changes.{IsOriginal}
use Rattle.fileset_lending.specs.name_space.Names.{IsNodeOf, is_directory_kind, led_to, number_of}
use Rattle.fileset_lending.specs.name_space.Walks.{IsTarget}
use Rattle.fileset_lending.proofs.OfNameSpace.Originals.{is_in, number_at, one_tag, path_at}
use Rattle.fileset_lending.proofs.OfReleaseList.Spread.{none_not, some_same}
use Rattle.fileset_lending.specs.domain_standing.Domain.{DomainNow}
use Rattle.fileset_lending.specs.standing_laws.Leads.{IsLiveOf}
use Rattle.fileset_lending.specs.domain_memory.Slots.{HasNumber}
use Rattle.fileset_lending.specs.domain_memory.Staged.{MayGoBack, staged_in}
use Rattle.fileset_lending.specs.domain_memory.declared.memory.DomainMemory.{DomainMemory}
use Rattle.fileset_lending.specs.Chosen.{Lends, files_in}
use Rattle.fileset_lending.specs.declared.chosen.Chosen.{Chosen}
use Rattle.fileset_lending.proofs.Named.{set_of}
use Rattle.name_changes.specs.Looking.{IsLiveIn, LeadsTo}

-- ---- by their kinds

shown_by : (of : Kind) (o : Option Bitfile) (a : Option Attributes) → option_map (λ (f : Bitfile). f.kind) o ≡ option_map (λ (is : Attributes). is.kind) a → IsSomeAnd a (λ is. is.kind ≡ of) → IsSomeAnd o (λ file. file.kind ≡ of)
shown_by of o None same live = absurd live
shown_by of None (Some a) same live = absurd (none_not a.kind same)
shown_by of (Some f) (Some a) same live = some_same f.kind a.kind same ∙ live

live_by : (of : Kind) (o : Option Bitfile) (a : Option Attributes) → option_map (λ (f : Bitfile). f.kind) o ≡ option_map (λ (is : Attributes). is.kind) a → IsSomeAnd o (λ file. file.kind ≡ of) → IsSomeAnd a (λ is. is.kind ≡ of)
live_by of None a same shown = absurd shown
live_by of (Some f) None same shown = absurd (none_not f.kind (sym same))
live_by of (Some f) (Some a) same shown = some_same a.kind f.kind (sym same) ∙ shown

module _ (memory : DomainMemory) (number : ℕ) (settings : CallSettings) (chosen : Chosen) (lends : Lends memory number settings chosen) (may : ∥ MayGoBack memory ∥₁) where
  abbrev d : DomainNow
  d = staged_in memory

  its_number : chosen.set.parts.files.fileset ≡ number
  its_number = one_number chosen.set.parts.files.fileset number (∥∥₁_map may (λ m. subst (λ o. IfSome o (HasNumber number)) lends.slot (m.has.numbered number)))

  set : StandsAsSet number (d.tags number) d.space d.cells d.pages (files_in chosen)
  set = set_of memory number settings chosen lends its_number

  kinds : (tag : Tag) → kind_at (files_in chosen) tag ≡ option_map (λ (is : Attributes). is.kind) (option_and_then (of_live attributes_of) (set.chains tag))
  kinds tag = kind_told number (d.tags number) d.space d.cells d.pages set.chains set.indexes (files_in chosen) set.stands tag

  pub shown_there : (tag : Tag) (of : Kind) → IsLiveIn memory number tag of → IsSomeAnd (files_in chosen tag) (λ file. file.kind ≡ of)
  shown_there tag of live = shown_by of (files_in chosen tag) (option_and_then (of_live attributes_of) (set.chains tag)) (kinds tag) (live set.chains set.stands.together.files)

  pub live_there : (tag : Tag) (of : Kind) → IsSomeAnd (files_in chosen tag) (λ file. file.kind ≡ of) → IsLiveIn memory number tag of
  live_there tag of shown chains are =
      subst (IsLiveOf of) (one_chains d.pages number (d.tags number) set.chains chains set.stands.together.files are tag)
      (live_by of (files_in chosen tag) (option_and_then (of_live attributes_of) (set.chains tag)) (kinds tag) shown)

-- ---- by the names of a fileset

module _ (files : Bitfiles) (fileset : FilesetSlot) (was : IsOriginal files fileset) where
  -- a path that leads to the number of a tag leads to the tag
  pub led_here : (path : Path) (tag : Tag) (of : Kind) → IsSomeAnd (files tag) (λ file. file.kind ≡ of) → get fileset.tree.paths path ≡ Some (number_of tag) → led_to files path ≡ Some (tag, of)
  led_here path tag of there at = by_file (files tag) refl there
    where
      by_led : (file : Bitfile) → files tag ≡ Some file → file.kind ≡ of → (o : Option (Tag × Kind)) → led_to files path ≡ o → option_map (λ (led : Tag × Kind). number_of led.0) o ≡ Some (number_of tag) → o ≡ Some (tag, of)
      by_led file has kind None led is = absurd (none_not (number_of tag) is)
      by_led file has kind (Some other) led is =
          let it = is_in files fileset was.names was.role path other.0 other.1 led in
          let same : other.0 ≡ tag = one_tag other.0 tag (was.names.seq other.0 it.file it.there) (was.names.seq tag file has) (some_same (number_of other.0) (number_of tag) is) in
          let one : it.file ≡ file = some_same it.file file (sym it.there ∙ ap files same ∙ has) in
          let its_kind : other.1 ≡ of = sym it.kind ∙ ap (λ (f : Bitfile). f.kind) one ∙ kind in
          λ i. Some (same i, its_kind i)

      by_file : (o : Option Bitfile) → files tag ≡ o → IsSomeAnd o (λ file. file.kind ≡ of) → led_to files path ≡ Some (tag, of)
      by_file None has there = absurd there
      by_file (Some file) has there = by_led file has there (led_to files path) refl (sym (path_at files fileset was.names was.role path) ∙ at)

  -- what a walk has found
  node_kind : (file : Bitfile) (of : Kind) → file.kind ≡ of → (o : Option Node) → IsSomeAnd o (IsNodeOf file) → option_map is_directory o ≡ Some (is_directory_kind of)
  node_kind file of kind None is = absurd is
  node_kind file of kind (Some (node.File uid gid size logged pages)) is = ap (λ k. Some (is_directory_kind k)) (sym is.0 ∙ kind)
  node_kind file of kind (Some (node.Directory uid gid)) is = ap (λ k. Some (is_directory_kind k)) (sym is.0 ∙ kind)

  pub target_leads : (path : Path) (r : Result (Tag × Kind) Refusal) → IsTarget files fileset path r → IfOk r (λ led. LeadsTo path fileset led.0 led.1)
  target_leads path (Err refusal) is = tt
  target_leads path (Ok led) is =
      let it = is_in files fileset was.names was.role path led.0 led.1 is.1 in
      let at = number_at files fileset was.names was.role path led.0 led.1 is.1 in
      record {
        allowed = is.0;
        at = at;
        kind = ap (λ o. option_map is_directory (option_and_then (get fileset.tree.nodes) o)) at ∙ node_kind it.file led.1 it.kind (get fileset.tree.nodes (number_of led.0)) it.node;
      }

  pub target_refused : (path : Path) (r : Result (Tag × Kind) Refusal) → IsTarget files fileset path r → IfErr r (λ refusal. target_refusal fileset path ≡ Some refusal)
  target_refused path (Err refusal) is = is
  target_refused path (Ok led) is = tt

  pub target_shown : (path : Path) (r : Result (Tag × Kind) Refusal) → IsTarget files fileset path r → IfOk r (λ led. IsSomeAnd (files led.0) (λ file. file.kind ≡ led.1))
  target_shown path (Err refusal) is = tt
  target_shown path (Ok led) is =
      let it = is_in files fileset was.names was.role path led.0 led.1 is.1 in
      subst (λ o. IsSomeAnd o (λ file. file.kind ≡ led.1)) (sym it.there) it.kind
