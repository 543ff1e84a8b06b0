-- Memory in which one file of a slot has changed.
use Rattle.std.proofs.Common.{◌≡◌, ◌∙◌, ◌↔◌, ◌≤◌, ℕ, Bool, true, false, cond, List, Option, Some, None, IfSome, IsSomeAnd, length, slice_get, refl, sym, ap, subst}
use Rattle.std.specs.FinMap.{insert}
use Rattle.std.specs.FinSet.{contains}
use Rattle.std.specs.Option.{option_and_then, option_map, option_map_or}
use Rattle.domain_memory.specs.domain_base.declared.place.Home.{Home}
use Rattle.domain_memory.specs.domain_base.declared.place.Kind.{Kind}
use Rattle.domain_memory.specs.domain_base.declared.place.Kind.TheVariants.{File}
use Rattle.domain_memory.specs.domain_base.declared.place.Tag.{Tag}
use Rattle.domain_memory.specs.page_store.Bitfiles.{Bitfile}
use Rattle.domain_memory.specs.metadata_cells.Chain.{PlacedCell}
use Rattle.domain_memory.specs.tag_dirs.Directory.{IsDirectoryAt}
use Rattle.domain_memory.specs.tag_dirs.declared.dir.TagPlace.{TagPlace}
use Rattle.domain_memory.specs.extent_maps.declared.run.PagePlace.TheVariants.{Absent, At}
use Rattle.domain_memory.specs.free_space.Spaces.{kept_spaces, volume_of}
use Rattle.domain_memory.specs.free_space.VolumeSpace.{VolumeSpace, is_waiting}
use Rattle.domain_memory.specs.file_chains.Files.{places_of}
use Rattle.domain_memory.specs.fileset_files.declared.attributes.Attributes.{Attributes}
use Rattle.domain_memory.specs.fileset_files.Files.{AreFiles, Chains, attributes_of, of_live, place_at}
use Rattle.domain_memory.specs.fileset_files.State.{FileState, state_of}
use Rattle.domain_memory.proofs.OfFilesetFiles.Created.{one_chains}
use Rattle.domain_memory.specs.fileset_files.States.{if_live, is_removing}
use Rattle.domain_memory.proofs.OfStoredSet.Told.{kind_told}
use Rattle.domain_memory.specs.stored_set.Sets.{StandsAsSet}
use Rattle.domain_memory.specs.fileset_model.Apply.{with_change}
use Rattle.domain_memory.specs.fileset_model.Filesets.{FilesetMap}
use Rattle.domain_memory.specs.fileset_values.Orders.{Path}
use Rattle.domain_memory.specs.fileset_model.declared.fileset.FilesetSlot.{FilesetSlot}
use Rattle.domain_memory.specs.fileset_model.declared.node.Node.{Node}
use Rattle.domain_memory.specs.fileset_table.Table.{Table, entry_of}
use Rattle.domain_memory.specs.fileset_table.declared.slot.FilesetEntry.{FilesetEntry}
use Rattle.domain_memory.specs.fileset_table.declared.slot.SlotItem.TheVariants as slot
use Rattle.domain_memory.specs.free_cells.Marks.{is_marked}
use Rattle.domain_memory.proofs.OfReleaseList.Spread.{none_not, some_same}
use Rattle.domain_memory.specs.domain_layout.Filled.{IsFilled}
use Rattle.domain_memory.specs.domain_layout.Seen.{SeenFile, seen_in}
use Rattle.domain_memory.specs.domain_layout.Shape.{FilesetShape}
use Rattle.set_standing.specs.Nodes.{seen_of}
use Rattle.set_standing.proofs.Seen.{live_seen}
use Rattle.domain_memory.specs.staged_pages.Store.{pages_of}
use Rattle.domain_memory.specs.domain_standing.Domain.{DomainNow, item_in}
use Rattle.domain_memory.specs.domain_standing.Standing.{HaveParents, IsMarkedBut, StandsDomain}
use Rattle.domain_memory.specs.standing_laws.Leads.{IsLiveOf}
use Rattle.domain_memory.specs.standing_laws.Slots.{StandsSlot}
use Rattle.domain_memory.specs.standing_laws.SlotsStay.{PutsFileset}
use Rattle.domain_memory.proofs.OfStandingLaws.BitsStay.{bits_stay}
use Rattle.domain_memory.proofs.OfStandingLaws.FilesetPut.{fileset_put, stood_in}
use Rattle.domain_memory.proofs.OfStandingLaws.OtherSlots.{seen_place}
use Rattle.domain_memory.proofs.OfStandingLaws.SourcesSaid.{alone_by_files, files_alone}
use Rattle.domain_memory.proofs.OfStandingLaws.SoundParted.{sound_but}
use Rattle.set_standing.proofs.Again.{around_of}
use Rattle.set_standing.proofs.FileParents.{file_parents}
use Rattle.set_standing.proofs.OwnIndexes.{around_sound}
use Rattle.set_standing.specs.Around.{IsNamedIn, StandsAround}
use Rattle.set_standing.specs.Beside.{ChangesOneFile}
use Rattle.set_standing.specs.NamesNodes.{named_shape}
use Rattle.set_standing.specs.OneFile.{FileFollows, KeepsKind}
use Rattle.set_standing.proofs.OneFile.{changed_stands}
use Rattle.domain_memory.specs.Listing.{HaveOnce}
use Rattle.domain_memory.specs.Staged.{staged_in}
use Rattle.domain_memory.specs.declared.memory.DomainMemory.{DomainMemory}
use Rattle.file_changes.specs.Stages.{HasFile, StandsChanged}

-- where a page of a file that is seen stands
pub placed_seen : (chains : Chains) (t : Tag) (seen : SeenFile) → option_and_then seen_in (chains t) ≡ Some seen → (page : ℕ) (home : Home) → seen.homes page ≡ Some home → place_at chains t page ≡ At home
placed_seen chains t seen is page home at = by_chain (chains t) refl is
  where
    by_chain : (o : Option (List PlacedCell)) → chains t ≡ o → option_and_then seen_in o ≡ Some seen → place_at chains t page ≡ At home
    by_chain None none is = absurd (none_not seen is)
    by_chain (Some cells) some is = ap (λ o. option_map_or (λ cs. places_of cs page) o Absent) some ∙ seen_place cells seen page home at is

-- a file that is live is shown
pub record IsShownAt (o : Option Bitfile) : Type 0 where
  pub file : Bitfile
  pub there : o ≡ Some file

pub shown_kind : (kind : Kind) (o : Option Bitfile) (a : Option Attributes) → option_map (λ (file : Bitfile). file.kind) o ≡ option_map (λ (is : Attributes). is.kind) a → IsSomeAnd a (λ is. is.kind ≡ kind) → IsShownAt o
shown_kind kind o None same live = absurd live
shown_kind kind None (Some a) same live = absurd (cc)
shown_kind kind (Some file) (Some a) same live = record { file = file; there = refl }

-- what surrounds the file
pub around_file : (old : DomainMemory) (number : ℕ) (tag : Tag) (path : Path) (all : FilesetMap) (entry : FilesetEntry) (fileset : FilesetSlot) → HasFile old number tag path all entry fileset → StandsAround number (staged_in old)
around_file old number tag path all entry fileset has =
    let d = staged_in old in
    let sound = has.staged.sound in
    let it = stood_in d all has.staged.stands.slots number entry has.original in
    around_of number d entry has.original sound.files sound.indexes sound.below it.stood.set.chains it.stood.set.stands.together (files_alone d sound.files sound.indexes sound.below has.staged.alone)
    (sound_but d sound.files sound.indexes (IsNamedIn it.stood.set.chains) sound.sound)

module _ (old : DomainMemory) (number : ℕ) (tag : Tag) (path : Path) (all : FilesetMap) (entry : FilesetEntry) (fileset : FilesetSlot) (has : HasFile old number tag path all entry fileset) where
  abbrev d : DomainNow
  d = staged_in old

  abbrev pub around : StandsAround number d
  around = around_file old number tag path all entry fileset has

  pub record IsStood : Type 0 where
    pub shape : FilesetShape
    pub stood : StandsSlot d number entry shape fileset

  pub is_stood : IsStood
  is_stood =
      let it = stood_in d all has.staged.stands.slots number entry has.original in
      record { shape = it.shape_was; stood = subst (StandsSlot d number entry it.shape_was) (some_same it.fileset_was fileset (sym it.filled ∙ has.there)) it.stood }

  module _ (new : DomainMemory) (same_list : new.list ≡ old.list) (fits : length new.listed.items ≤ new.list.room) (spaces : (vol : ℕ) → volume_of (kept_spaces new.space) vol ≡ volume_of (kept_spaces old.space) vol)
      (how : FileState → FileState) (may : ℕ → Type 0) (changes : ChangesOneFile number tag how may (around_file old number tag path all entry fileset has).chains d (staged_in new)) (change : Node → Node) (keeps : KeepsKind change) (live : IsLiveOf File (around.chains tag))
      (removing : (state : FileState) → option_and_then state_of (around.chains tag) ≡ Some state → is_removing (how state).pending ≡ is_removing state.pending)
      (turns : (state : FileState) → option_and_then state_of (around.chains tag) ≡ Some state → (node : Node) → IsFilled d.contents (seen_of state) node → IsFilled (staged_in new).contents (seen_of (how state)) (change node))
    where
      abbrev now : DomainNow
      now = staged_in new

      abbrev shape : FilesetShape
      shape = is_stood.shape

      abbrev stood : StandsSlot d number entry shape fileset
      stood = is_stood.stood

      set : StandsAsSet number (now.tags number) now.space now.cells now.pages shape.shown
      set = changes.set shape.shown stood.set

      chains_are : changes.chains_now ≡ set.chains
      chains_are = λ i t. one_chains now.pages number (now.tags number) changes.chains_now set.chains changes.are set.stands.together.files t i

      own_follows : (seen : SeenFile) → option_and_then seen_in (set.chains tag) ≡ Some seen → IsSomeAnd (option_and_then seen_in (around.chains tag)) (λ was. (node : Node) → IsFilled d.contents was node → IsFilled now.contents seen (change node))
      own_follows seen there = by_state (option_and_then state_of (around.chains tag)) refl
        where
          Turns : Option SeenFile → Type 0
          Turns o = IsSomeAnd o (λ was. (node : Node) → IsFilled d.contents was node → IsFilled now.contents seen (change node))

          state_now : option_and_then state_of (set.chains tag) ≡ option_map how (option_and_then state_of (around.chains tag))
          state_now = ap (λ (c : Chains). option_and_then state_of (c tag)) (sym chains_are) ∙ changes.state.own

          seen_now : (o : Option FileState) → option_and_then state_of (around.chains tag) ≡ o → option_map seen_of (option_and_then if_live (option_map how o)) ≡ Some seen
          seen_now o is = ap (λ (s : Option FileState). option_map seen_of (option_and_then if_live s)) (sym (state_now ∙ ap (option_map how) is)) ∙ sym (live_seen set.chains tag) ∙ there

          by_removing : (state : FileState) → option_and_then state_of (around.chains tag) ≡ Some state → (b : Bool) → option_map seen_of (cond b None (Some (how state))) ≡ Some seen
              → IsSomeAnd (option_map seen_of (cond b None (Some state))) (λ was. (node : Node) → IsFilled d.contents was node → IsFilled now.contents seen (change node))
          by_removing state is true none = absurd (none_not seen none)
          by_removing state is false one = λ node filled.
              subst (λ (s : SeenFile). IsFilled now.contents s (change node)) (some_same (seen_of (how state)) seen one) (turns state is node filled)

          by_state : (o : Option FileState) → option_and_then state_of (around.chains tag) ≡ o
              → IsSomeAnd (option_and_then seen_in (around.chains tag)) (λ was. (node : Node) → IsFilled d.contents was node → IsFilled now.contents seen (change node))
          by_state None is = absurd (none_not seen (seen_now None is))
          by_state (Some state) is =
              subst (λ o. IsSomeAnd o (λ was. (node : Node) → IsFilled d.contents was node → IsFilled now.contents seen (change node)))
              (sym (live_seen around.chains tag ∙ ap (λ (s : Option FileState). option_map seen_of (option_and_then if_live s)) is))
              (by_removing state is (is_removing state.pending) (subst (λ b. option_map seen_of (cond b None (Some (how state))) ≡ Some seen) (removing state is) (seen_now (Some state) is)))

      follows : FileFollows tag change d.contents now.contents around.chains set.chains
      follows = record {
        others = λ t seen differ there.
            let same_t : set.chains t ≡ around.chains t = ap (λ (c : Chains). c t) (sym chains_are) ∙ changes.state.others t differ in
            let was = ap (option_and_then seen_in) (sym same_t) ∙ there in
            (was, λ page home at. sym (changes.bytes.others t page home differ (placed_seen around.chains t seen was page home at)));
        own = own_follows;
      }

      shown_there : IsShownAt (shape.shown tag)
      shown_there =
          let same_chains = one_chains d.pages number (d.tags number) around.chains stood.set.chains around.well.together.files stood.set.stands.together.files tag in
          shown_kind File (shape.shown tag) (option_and_then (of_live attributes_of) (stood.set.chains tag)) (kind_told number (d.tags number) d.space d.cells d.pages stood.set.chains stood.set.indexes shape.shown stood.set.stands tag)
          (subst (IsLiveOf File) same_chains live)

      item_now : item_in now number ≡ Some (slot.Original entry)
      item_now = ap (λ (t : Table). slice_get t.slots number) changes.beside.table ∙ has.original

      -- ---- it stands for the filesets

      puts : PutsFileset number entry d now
      puts = record {
        has = item_now;
        had = λ its there. subst (λ i. IfSome (entry_of i) (λ (was : FilesetEntry). was.name ≡ entry.name)) (some_same (slot.Original entry) its (sym has.original ∙ there)) refl;
        others = λ other differ. ap (λ (t : Table). slice_get t.slots other) changes.beside.table;
      }

      abbrev fileset_now : FilesetSlot
      fileset_now = record fileset { tree = with_change path change fileset.tree }

      own : StandsSlot now number entry (named_shape set.chains shape.shown shape.limits) fileset_now
      own = changed_stands number entry tag path change d now shape fileset shown_there.file around.chains has.staged.stands.tables changes.around.below.tables has.original item_now stood (changes.beside.limits entry shape.limits has.original) set around.well.together.files follows keeps has.at shown_there.there

      domain_stands : StandsDomain now (insert all entry.name (record fileset { tree = with_change path change fileset.tree }))
      domain_stands = record {
        tables = changes.around.below.tables;
        files = changes.around.files;
        indexes = changes.around.indexes;
        chains = changes.around.below.chains;
        owned = changes.around.below.owned;
        rest = changes.around.below.rest;
        slots = fileset_put number entry d now changes.around.files changes.around.indexes all changes.around.below puts has.staged.stands.slots changes.beside.slots (named_shape set.chains shape.shown shape.limits) fileset_now own;
      }

      bits : IsMarkedBut (record now { space = kept_spaces new.space })
      bits =
          let was = bits_stay d now has.staged.stands.tables changes.beside.frame (λ home member within. changes.beside.volumes home (member, within)) (kept_spaces old.space) has.staged.marked in
          record {
            there = was.there;
            bits = λ vol page member within.
                subst (λ (o : Option VolumeSpace). (is_marked (pages_of new.pages) vol page ≡ true) ↔ IsSomeAnd o (λ v. (contains v.used page ≡ true) × (is_waiting v page ≡ false))) (sym (spaces vol)) (was.bits vol page member within);
            behind = was.behind;
          }

      pub changed_staged : StandsChanged path change all entry fileset new
      changed_staged = record {
        stands = domain_stands;
        alone = alone_by_files now changes.around.files changes.around.indexes changes.around.below changes.around.alone;
        sound = around_sound number now changes.around entry (named_shape set.chains shape.shown shape.limits) fileset_now own;
        marked = bits;
        once = subst (λ l. HaveOnce l.list.entries) (sym same_list) has.staged.once;
        room = fits;
      }

  -- what the change has listed has room still
  pub still_fits : (new : DomainMemory) → new ≡ record old { pages = new.pages; space = new.space; cells = new.cells } → length new.listed.items ≤ new.list.room
  still_fits new same = subst (λ (m : DomainMemory). length m.listed.items ≤ m.list.room) (sym same) has.staged.room

  -- and what directories say of their parents
  pub parents_stay : (new : DomainMemory) (how : FileState → FileState) (may : ℕ → Type 0) → ChangesOneFile number tag how may (around_file old number tag path all entry fileset has).chains d (staged_in new) → HaveParents d → HaveParents (staged_in new)
  parents_stay new how may changes =
      let now = staged_in new in
      let item_is : item_in now number ≡ Some (slot.Original entry) = ap (λ (t : Table). slice_get t.slots number) changes.beside.table ∙ has.original in
      file_parents number entry tag d now changes.beside has.original (has.staged.stands.tables.laid.tags number (slot.Original entry) has.original)
      (subst (IsDirectoryAt now.pages entry.first_tag) (changes.beside.tags number) (changes.around.below.tables.laid.tags number (slot.Original entry) item_is)) around.chains changes.chains_now around.well.together.files
      (subst (λ (ps : List TagPlace). AreFiles number ps now.pages changes.chains_now) (changes.beside.tags number) changes.are) changes.state.others changes.live changes.pages
      (λ other differ. record {
        no_clone = has.staged.stands.slots.no_clone other;
        each = λ its at. let it = stood_in d all has.staged.stands.slots other its at in (it.shape_was, it.fileset_was, it.stood);
      })
