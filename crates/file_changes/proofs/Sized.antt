-- Memory in which a file has another size, and another flag.
use Rattle.std.proofs.Common.{◌≡◌, ◌∙◌, ℕ, Bool, List, Option, Some, IsSomeAnd, OnOk, Result, Ok, Err, refl, sym, ap, subst}
use Rattle.std.specs.Option.{option_and_then}
use Rattle.domain_memory.specs.domain_base.declared.place.Kind.TheVariants.{File}
use Rattle.domain_memory.specs.domain_base.declared.place.Tag.{Tag}
use Rattle.domain_memory.specs.tag_dirs.declared.dir.TagPlace.{TagPlace}
use Rattle.domain_memory.specs.free_space.Spaces.{kept_spaces, volume_of}
use Rattle.domain_memory.specs.fileset_files.declared.attributes.Attributes.{Attributes}
use Rattle.domain_memory.specs.fileset_files.Changes.{ChangesFirst, says_attributes, with_chain, with_first}
use Rattle.domain_memory.specs.fileset_files.Files.{AreFiles, Chains}
use Rattle.domain_memory.specs.fileset_files.State.{FileState, state_of}
use Rattle.domain_memory.specs.fileset_files.Together.{AreTogether}
use Rattle.domain_memory.specs.fileset_files.States.{described}
use Rattle.domain_memory.specs.stored_set.Sets.{attributes_at}
use Rattle.domain_memory.specs.fileset_model.Filesets.{FilesetMap}
use Rattle.domain_memory.specs.fileset_values.Orders.{Path}
use Rattle.domain_memory.specs.fileset_model.declared.fileset.FilesetSlot.{FilesetSlot}
use Rattle.domain_memory.specs.fileset_model.declared.node.Node.{Node}
use Rattle.domain_memory.specs.fileset_table.declared.slot.FilesetEntry.{FilesetEntry}
use Rattle.domain_memory.specs.staged_pages.Store.{pages_of}
use Rattle.domain_memory.proofs.OfReleaseList.Spread.{some_same}
use Rattle.domain_memory.specs.domain_layout.Filled.{IsFilled}
use Rattle.set_standing.specs.Nodes.{seen_of, with_size}
use Rattle.set_standing.proofs.Changed.{agree_on, described_as}
use Rattle.domain_memory.specs.domain_standing.Domain.{DomainNow}
use Rattle.domain_memory.specs.domain_standing.Standing.{HaveParents}
use Rattle.domain_memory.specs.standing_laws.Leads.{IsLiveOf}
use Rattle.set_standing.specs.Around.{StandsAround}
use Rattle.set_standing.specs.Beside.{ChangesOneFile}
use Rattle.set_standing.proofs.FileCalls.{described_again}
use Rattle.domain_memory.specs.Slots.{places_in, slot_in}
use Rattle.domain_memory.specs.declared.slots.SlotFiles.{SlotFiles}
use Rattle.domain_memory.specs.Staged.{staged_in}
use Rattle.domain_memory.specs.declared.memory.DomainMemory.{DomainMemory}
use Rattle.file_changes.proofs.Changed.{around_file, changed_staged, parents_stay, placed_seen, still_fits}
use Rattle.file_changes.proofs.Seen.{attributes_live, bytes_follow, seen_live, with_pages}
use Rattle.file_changes.proofs.Turns.{size_keeps}
use Rattle.file_changes.specs.Stages.{HasFile, IsFileIn, StandsChanged}

module _ (old new : DomainMemory) (same : new ≡ record old { pages = new.pages }) (number : ℕ) (tag : Tag) (size : ℕ) (flag : Bool) (files : SlotFiles) (is : slot_in old.slots.items number ≡ Some files) (number_is : files.files.fileset ≡ number) (file : IsFileIn old number tag)
    (was : Attributes) (told : (chains : Chains) → AreFiles files.files.fileset files.files.tags (pages_of old.pages) chains → attributes_at chains tag ≡ Some was)
    (beside : (chains : Chains) → AreFiles files.files.fileset files.files.tags (pages_of old.pages) chains → ChangesFirst (chains tag) (pages_of old.pages) (pages_of new.pages))
    (together : (chains : Chains) → AreTogether files.files.fileset files.files.tags old.space old.cells (pages_of old.pages) chains
    → AreTogether files.files.fileset files.files.tags old.space old.cells (pages_of new.pages) (with_chain tag (with_first (says_attributes (record was { size = size; is_logged = flag }))) chains))
    (path : Path) (all : FilesetMap) (entry : FilesetEntry) (fileset : FilesetSlot) (has : HasFile old number tag path all entry fileset)
  where
    abbrev d : DomainNow
    d = staged_in old

    abbrev now : DomainNow
    now = staged_in new

    abbrev around : StandsAround number d
    around = around_file old number tag path all entry fileset has

    abbrev chains : Chains
    chains = around.chains

    abbrev value : Attributes
    value = record was { size = size; is_logged = flag }

    live : IsLiveOf File (chains tag)
    live = file chains around.well.together.files

    its_places : d.tags number ≡ files.files.tags
    its_places = ap places_in is

    by_slot : AreTogether files.files.fileset files.files.tags d.space d.cells d.pages chains
    by_slot =
        subst (λ (n : ℕ). AreTogether n files.files.tags d.space d.cells d.pages chains) (sym number_is)
        (subst (λ (ps : List TagPlace). AreTogether number ps d.space d.cells d.pages chains) its_places around.well.together)

    together_now : AreTogether number (d.tags number) d.space d.cells now.pages (with_chain tag (with_first (says_attributes value)) chains)
    together_now =
        subst (λ (ps : List TagPlace). AreTogether number ps d.space d.cells now.pages (with_chain tag (with_first (says_attributes value)) chains)) (sym its_places)
        (subst (λ (n : ℕ). AreTogether n files.files.tags d.space d.cells now.pages (with_chain tag (with_first (says_attributes value)) chains)) number_is (together chains by_slot))

    is_was : attributes_at chains tag ≡ Some was
    is_was = told chains by_slot.files

    of_state : (state : FileState) → option_and_then state_of (chains tag) ≡ Some state → state.attributes ≡ was
    of_state state is_state = some_same state.attributes was (sym (attributes_live chains tag live state is_state) ∙ is_was)

    kind_was : was.kind ≡ File
    kind_was = by_live (attributes_at chains tag) is_was live
      where
        by_live : (o : Option Attributes) → o ≡ Some was → IsSomeAnd o (λ (a : Attributes). a.kind ≡ File) → was.kind ≡ File
        by_live o same live = subst (λ o. IsSomeAnd o (λ (a : Attributes). a.kind ≡ File)) same live

    changes : ChangesOneFile number tag (described value) (λ k. ⊥) chains d now
    changes = described_again number tag was size flag d now around (ap staged_in same) (bytes_follow old new) is_was kind_was (beside chains by_slot.files) together_now

    turns : (state : FileState) → option_and_then state_of (chains tag) ≡ Some state → (node : Node) → IsFilled d.contents (seen_of state) node → IsFilled now.contents (seen_of (described value state)) (with_size size flag node)
    turns state is_state node filled =
        let said = of_state state is_state in
        agree_on d.contents now.contents (seen_of (described value state)) (with_size size flag node)
        (λ page home at. sym (changes.bytes.own page home (λ none. none) (placed_seen chains tag (seen_of state) (seen_live chains tag live state is_state) page home at)))
        (described_as d.contents state value node (record { kind = ap (λ (a : Attributes). a.kind) said; uid = ap (λ (a : Attributes). a.uid) said; gid = ap (λ (a : Attributes). a.gid) said }) filled)

    pub size_set : StandsChanged path (with_size size flag) all entry fileset new
    size_set = changed_staged old number tag path all entry fileset has new (ap (λ (m : DomainMemory). m.list) same) (still_fits old number tag path all entry fileset has new (with_pages old new same)) (λ vol. ap (λ (m : DomainMemory). volume_of (kept_spaces m.space) vol) same) (described value) (λ k. ⊥) changes (with_size size flag) (size_keeps size flag) live (λ state is_state. refl) turns

    pub size_parents : HaveParents d → HaveParents now
    size_parents = parents_stay old number tag path all entry fileset has new (described value) (λ k. ⊥) changes

-- whichever end the call has
pub size_end : {X E : Type 0} (old new : DomainMemory) → new ≡ record old { pages = new.pages } → (number : ℕ) (tag : Tag) (size : ℕ) (flag : Bool) (files : SlotFiles) → slot_in old.slots.items number ≡ Some files → files.files.fileset ≡ number → IsFileIn old number tag → (was value : Attributes)
    → ((chains : Chains) → AreFiles files.files.fileset files.files.tags (pages_of old.pages) chains → attributes_at chains tag ≡ Some was) → value ≡ record was { size = size; is_logged = flag }
    → ((chains : Chains) → AreFiles files.files.fileset files.files.tags (pages_of old.pages) chains → ChangesFirst (chains tag) (pages_of old.pages) (pages_of new.pages)) → (r : Result X E)
    → ((chains : Chains) → AreTogether files.files.fileset files.files.tags old.space old.cells (pages_of old.pages) chains
    → OnOk r (AreTogether files.files.fileset files.files.tags old.space old.cells (pages_of new.pages) (with_chain tag (with_first (says_attributes value)) chains)))
    → (path : Path) (all : FilesetMap) (entry : FilesetEntry) (fileset : FilesetSlot) → HasFile old number tag path all entry fileset → OnOk r (StandsChanged path (with_size size flag) all entry fileset new)
size_end old new same number tag size flag files is number_is file was value told value_is beside (Ok x) together path all entry fileset has =
    size_set old new same number tag size flag files is number_is file was told beside
    (λ chains are. subst (λ (v : Attributes). AreTogether files.files.fileset files.files.tags old.space old.cells (pages_of new.pages) (with_chain tag (with_first (says_attributes v)) chains)) value_is (together chains are))
    path all entry fileset has
size_end old new same number tag size flag files is number_is file was value told value_is beside (Err e) together path all entry fileset has = tt

pub parents_end : {X E : Type 0} (old new : DomainMemory) → new ≡ record old { pages = new.pages } → (number : ℕ) (tag : Tag) (size : ℕ) (flag : Bool) (files : SlotFiles) → slot_in old.slots.items number ≡ Some files → files.files.fileset ≡ number → IsFileIn old number tag → (was value : Attributes)
    → ((chains : Chains) → AreFiles files.files.fileset files.files.tags (pages_of old.pages) chains → attributes_at chains tag ≡ Some was) → value ≡ record was { size = size; is_logged = flag }
    → ((chains : Chains) → AreFiles files.files.fileset files.files.tags (pages_of old.pages) chains → ChangesFirst (chains tag) (pages_of old.pages) (pages_of new.pages)) → (r : Result X E)
    → ((chains : Chains) → AreTogether files.files.fileset files.files.tags old.space old.cells (pages_of old.pages) chains
    → OnOk r (AreTogether files.files.fileset files.files.tags old.space old.cells (pages_of new.pages) (with_chain tag (with_first (says_attributes value)) chains)))
    → (path : Path) (all : FilesetMap) (entry : FilesetEntry) (fileset : FilesetSlot) → HasFile old number tag path all entry fileset → HaveParents (staged_in old) → OnOk r (HaveParents (staged_in new))
parents_end old new same number tag size flag files is number_is file was value told value_is beside (Ok x) together path all entry fileset has had =
    size_parents old new same number tag size flag files is number_is file was told beside
    (λ chains are. subst (λ (v : Attributes). AreTogether files.files.fileset files.files.tags old.space old.cells (pages_of new.pages) (with_chain tag (with_first (says_attributes v)) chains)) value_is (together chains are))
    path all entry fileset has had
parents_end old new same number tag size flag files is number_is file was value told value_is beside (Err e) together path all entry fileset has had = tt
