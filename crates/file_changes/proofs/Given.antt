-- Memory in which a file has got a page.
use Rattle.std.proofs.Common.{◌≡◌, ◌∙◌, ◌<◌, ℕ, List, [], Option, Some, None, IfSome, IsSomeAnd, OnOk, Result, Ok, Err, length, refl, sym, ap, subst}
use Rattle.std.specs.Option.{option_and_then, option_map_or, unwrap_or}
use Rattle.domain_memory.specs.domain_base.Limits.{file_pages, page_bytes}
use Rattle.domain_memory.specs.domain_base.declared.place.Kind.TheVariants.{File}
use Rattle.domain_memory.specs.domain_base.declared.place.Tag.{Tag}
use Rattle.domain_memory.specs.metadata_cells.Chain.{PlacedCell}
use Rattle.domain_memory.specs.tag_dirs.declared.dir.TagPlace.{TagPlace}
use Rattle.domain_memory.specs.extent_maps.declared.run.PagePlace.TheVariants.{Absent, At}
use Rattle.domain_memory.specs.free_space.Spaces.{kept_spaces, volume_of}
use Rattle.domain_memory.specs.file_chains.Files.{places_of}
use Rattle.domain_memory.specs.fileset_files.Files.{Chains}
use Rattle.domain_memory.specs.fileset_files.Pages.{MayGrow}
use Rattle.domain_memory.specs.fileset_files.State.{FileState, state_of}
use Rattle.domain_memory.specs.fileset_files.Together.{AreTogether}
use Rattle.domain_memory.specs.fileset_files.States.{placed}
use Rattle.domain_memory.proofs.OfStoredSet.Written.{at_home}
use Rattle.domain_memory.specs.stored_set.Sets.{GetsPage}
use Rattle.domain_memory.specs.fileset_model.Filesets.{FilesetMap}
use Rattle.domain_memory.specs.fileset_values.Orders.{Path}
use Rattle.domain_memory.specs.fileset_model.declared.fileset.FilesetSlot.{FilesetSlot}
use Rattle.domain_memory.specs.fileset_model.declared.node.Node.{Node}
use Rattle.domain_memory.specs.fileset_table.declared.slot.FilesetEntry.{FilesetEntry}
use Rattle.domain_memory.specs.staged_pages.Store.{pages_of}
use Rattle.domain_memory.specs.domain_layout.Filled.{IsFilled}
use Rattle.set_standing.specs.Nodes.{AgreeBut, seen_of, with_page}
use Rattle.set_standing.proofs.Changed.{joined}
use Rattle.domain_memory.specs.domain_standing.Domain.{DomainNow}
use Rattle.domain_memory.specs.domain_standing.Standing.{HaveParents}
use Rattle.domain_memory.specs.standing_laws.Leads.{IsLiveOf}
use Rattle.set_standing.specs.Around.{StandsAround}
use Rattle.set_standing.specs.Beside.{ChangesOneFile}
use Rattle.set_standing.proofs.FileCalls.{given_again}
use Rattle.domain_memory.specs.Slots.{places_in, slot_in}
use Rattle.domain_memory.specs.declared.slots.SlotFiles.{SlotFiles}
use Rattle.domain_memory.specs.Staged.{staged_in}
use Rattle.domain_memory.specs.declared.memory.DomainMemory.{DomainMemory}
use Rattle.file_changes.proofs.Changed.{around_file, changed_staged, parents_stay, placed_seen, still_fits}
use Rattle.file_changes.proofs.Seen.{bytes_follow, kept_live, pages_whole, seen_live, slot_changes, tags_same}
use Rattle.file_changes.proofs.Turns.{page_keeps}
use Rattle.file_changes.proofs.Opened.{placed_solid, still_open}
use Rattle.file_changes.specs.Reading.{KeepsOpen}
use Rattle.file_changes.specs.Stages.{HasFile, IsFileIn, LacksPage, StandsChanged}

module _ (old new : DomainMemory) (same : new ≡ record old { pages = new.pages; space = new.space; cells = new.cells }) (spaces : (vol : ℕ) → volume_of (kept_spaces new.space) vol ≡ volume_of (kept_spaces old.space) vol)
    (number : ℕ) (tag : Tag) (page : ℕ) (bytes : List ℕ) (prefer : ℕ) (files : SlotFiles) (is : slot_in old.slots.items number ≡ Some files) (number_is : files.files.fileset ≡ number) (file : IsFileIn old number tag) (lacks : LacksPage old number tag page) (small : page < file_pages)
    (gets : (chains : Chains) → AreTogether files.files.fileset files.files.tags old.space old.cells (pages_of old.pages) chains
    → IsSomeAnd (chains tag) (GetsPage files.files.fileset files.files.tags tag page bytes prefer old.frame.version chains old.space new.space old.cells new.cells (pages_of old.pages) (pages_of new.pages)))
    (path : Path) (all : FilesetMap) (entry : FilesetEntry) (fileset : FilesetSlot) (has : HasFile old number tag path all entry fileset)
  where
    abbrev d : DomainNow
    d = staged_in old

    abbrev now : DomainNow
    now = staged_in new

    abbrev around : StandsAround number d
    around = around_file old number tag path all entry fileset has

    abbrev chains : Chains
    chains = around.chains

    live : IsLiveOf File (chains tag)
    live = file chains around.well.together.files

    grows : MayGrow tag page chains
    grows = lacks chains around.well.together.files

    abbrev Gets : ℕ → List TagPlace → Type 0
    Gets n places = IsSomeAnd (chains tag) (GetsPage n places tag page bytes prefer d.frame.version chains d.space now.space d.cells now.cells d.pages now.pages)

    its_places : d.tags number ≡ files.files.tags
    its_places = ap places_in is

    got : Gets number (d.tags number)
    got =
        subst (λ (ps : List TagPlace). Gets number ps) (sym its_places)
        (subst (λ (n : ℕ). Gets n files.files.tags) number_is
        (gets chains
        (subst (λ (n : ℕ). AreTogether n files.files.tags d.space d.cells d.pages chains) (sym number_is)
        (subst (λ (ps : List TagPlace). AreTogether number ps d.space d.cells d.pages chains) its_places around.well.together))))

    module _ (chain : List PlacedCell) (there : chains tag ≡ Some chain) (g : GetsPage number (d.tags number) tag page bytes prefer d.frame.version chains d.space now.space d.cells now.cells d.pages now.pages chain) where
      absent : places_of chain page ≡ Absent
      absent = sym (ap (λ o. option_map_or (λ cs. places_of cs page) o Absent) there) ∙ grows.absent

      changes : ChangesOneFile number tag (placed page (At g.home)) (λ k. ⊥) chains d now
      changes = given_again number tag page bytes prefer d now chain around (slot_changes old new same number) (bytes_follow old new) (tags_same old new same number) live there absent g

      stands : now.pages g.home ≡ Some bytes
      stands = at_home g.between now.pages g.home bytes g.put

      bytes_there : now.contents g.home ≡ bytes
      bytes_there = ap (λ (o : Option (List ℕ)). unwrap_or o []) stands

      whole : length bytes ≡ page_bytes
      whole = subst (λ o. IfSome o (λ page. length page ≡ page_bytes)) stands (pages_whole new g.home)

      turns : (state : FileState) → option_and_then state_of (chains tag) ≡ Some state → (node : Node) → IsFilled d.contents (seen_of state) node → IsFilled now.contents (seen_of (placed page (At g.home) state)) (with_page page bytes node)
      turns state is_state node filled =
          subst (λ (b : List ℕ). IsFilled now.contents (seen_of (placed page (At g.home) state)) (with_page page b node)) bytes_there
          (joined d.contents now.contents state page g.home (kept_live chains tag live state is_state page grows.kept) agree node filled)
        where
          agree : AgreeBut page d.contents now.contents (seen_of state)
          agree q home other at = sym (changes.bytes.own q home (λ none. none) (placed_seen chains tag (seen_of state) (seen_live chains tag live state is_state) q home at))

      staged : StandsChanged path (with_page page bytes) all entry fileset new
      staged = changed_staged old number tag path all entry fileset has new (ap (λ (m : DomainMemory). m.list) same) (still_fits old number tag path all entry fileset has new same) spaces (placed page (At g.home)) (λ k. ⊥) changes (with_page page bytes) (page_keeps page bytes small whole) live (λ state is_state. refl) turns

      parents : HaveParents d → HaveParents now
      parents = parents_stay old number tag path all entry fileset has new (placed page (At g.home)) (λ k. ⊥) changes

    pub page_parents : HaveParents d → HaveParents now
    page_parents = by_parents (chains tag) refl got
      where
        by_parents : (o : Option (List PlacedCell)) → chains tag ≡ o → IsSomeAnd o (GetsPage number (d.tags number) tag page bytes prefer d.frame.version chains d.space now.space d.cells now.cells d.pages now.pages) → HaveParents d → HaveParents now
        by_parents None there g = absurd g
        by_parents (Some chain) there g = parents chain there g

    pub page_open : KeepsOpen number tag old new
    page_open = by_open (chains tag) refl got
      where
        by_open : (o : Option (List PlacedCell)) → chains tag ≡ o → IsSomeAnd o (GetsPage number (d.tags number) tag page bytes prefer d.frame.version chains d.space now.space d.cells now.cells d.pages now.pages) → KeepsOpen number tag old new
        by_open None there g = absurd g
        by_open (Some chain) there g = still_open old new number tag (placed page (At g.home)) (λ k. ⊥) chains around.well.together.files live (changes chain there g) (λ state. refl) (placed_solid page g.home)

    by_chain : (o : Option (List PlacedCell)) → chains tag ≡ o → IsSomeAnd o (GetsPage number (d.tags number) tag page bytes prefer d.frame.version chains d.space now.space d.cells now.cells d.pages now.pages) → StandsChanged path (with_page page bytes) all entry fileset new
    by_chain None there g = absurd g
    by_chain (Some chain) there g = staged chain there g

    pub page_given : StandsChanged path (with_page page bytes) all entry fileset new
    page_given = by_chain (chains tag) refl got

-- whichever end the call has
pub given_end : {X E : Type 0} (old new : DomainMemory) → new ≡ record old { pages = new.pages; space = new.space; cells = new.cells } → ((vol : ℕ) → volume_of (kept_spaces new.space) vol ≡ volume_of (kept_spaces old.space) vol)
    → (number : ℕ) (tag : Tag) (page : ℕ) (bytes : List ℕ) (prefer : ℕ) (files : SlotFiles) → slot_in old.slots.items number ≡ Some files → files.files.fileset ≡ number → IsFileIn old number tag → LacksPage old number tag page → page < file_pages → (r : Result X E)
    → ((chains : Chains) → AreTogether files.files.fileset files.files.tags old.space old.cells (pages_of old.pages) chains
    → OnOk r (IsSomeAnd (chains tag) (GetsPage files.files.fileset files.files.tags tag page bytes prefer old.frame.version chains old.space new.space old.cells new.cells (pages_of old.pages) (pages_of new.pages))))
    → (path : Path) (all : FilesetMap) (entry : FilesetEntry) (fileset : FilesetSlot) → HasFile old number tag path all entry fileset → OnOk r (StandsChanged path (with_page page bytes) all entry fileset new)
given_end old new same spaces number tag page bytes prefer files is number_is file lacks small (Ok x) gets path all entry fileset has =
    page_given old new same spaces number tag page bytes prefer files is number_is file lacks small gets path all entry fileset has
given_end old new same spaces number tag page bytes prefer files is number_is file lacks small (Err e) gets path all entry fileset has = tt

pub parents_end : {X E : Type 0} (old new : DomainMemory) → new ≡ record old { pages = new.pages; space = new.space; cells = new.cells } → ((vol : ℕ) → volume_of (kept_spaces new.space) vol ≡ volume_of (kept_spaces old.space) vol)
    → (number : ℕ) (tag : Tag) (page : ℕ) (bytes : List ℕ) (prefer : ℕ) (files : SlotFiles) → slot_in old.slots.items number ≡ Some files → files.files.fileset ≡ number → IsFileIn old number tag → LacksPage old number tag page → page < file_pages → (r : Result X E)
    → ((chains : Chains) → AreTogether files.files.fileset files.files.tags old.space old.cells (pages_of old.pages) chains
    → OnOk r (IsSomeAnd (chains tag) (GetsPage files.files.fileset files.files.tags tag page bytes prefer old.frame.version chains old.space new.space old.cells new.cells (pages_of old.pages) (pages_of new.pages))))
    → (path : Path) (all : FilesetMap) (entry : FilesetEntry) (fileset : FilesetSlot) → HasFile old number tag path all entry fileset → HaveParents (staged_in old) → OnOk r (HaveParents (staged_in new))
parents_end old new same spaces number tag page bytes prefer files is number_is file lacks small (Ok x) gets path all entry fileset has had =
    page_parents old new same spaces number tag page bytes prefer files is number_is file lacks small gets path all entry fileset has had
parents_end old new same spaces number tag page bytes prefer files is number_is file lacks small (Err e) gets path all entry fileset has had = tt

pub open_end : {X E : Type 0} (old new : DomainMemory) → new ≡ record old { pages = new.pages; space = new.space; cells = new.cells } → ((vol : ℕ) → volume_of (kept_spaces new.space) vol ≡ volume_of (kept_spaces old.space) vol)
    → (number : ℕ) (tag : Tag) (page : ℕ) (bytes : List ℕ) (prefer : ℕ) (files : SlotFiles) → slot_in old.slots.items number ≡ Some files → files.files.fileset ≡ number → IsFileIn old number tag → LacksPage old number tag page → page < file_pages → (r : Result X E)
    → ((chains : Chains) → AreTogether files.files.fileset files.files.tags old.space old.cells (pages_of old.pages) chains
    → OnOk r (IsSomeAnd (chains tag) (GetsPage files.files.fileset files.files.tags tag page bytes prefer old.frame.version chains old.space new.space old.cells new.cells (pages_of old.pages) (pages_of new.pages))))
    → (path : Path) (all : FilesetMap) (entry : FilesetEntry) (fileset : FilesetSlot) → HasFile old number tag path all entry fileset → OnOk r (KeepsOpen number tag old new)
open_end old new same spaces number tag page bytes prefer files is number_is file lacks small (Ok x) gets path all entry fileset has =
    page_open old new same spaces number tag page bytes prefer files is number_is file lacks small gets path all entry fileset has
open_end old new same spaces number tag page bytes prefer files is number_is file lacks small (Err e) gets path all entry fileset has = tt
