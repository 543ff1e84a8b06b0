-- Memory in which a file has been cut.
use Rattle.std.proofs.Common.{◌≡◌, ◌∙◌, ◌*◌, ◌≤◌, ℕ, Bool, true, false, cond, nat_lt, List, [], ◌∷◌, Option, Some, None, IfSome, IsSomeAnd, OnOk, Result, Ok, Err, length, refl, sym, ap, subst}
use Rattle.std.specs.FinMap as map
use Rattle.std.specs.Option.{option_and_then, option_map}
use Rattle.domain_memory.specs.domain_base.declared.place.CellAt.{CellAt}
use Rattle.domain_memory.specs.domain_base.declared.place.Home.{Home}
use Rattle.domain_memory.specs.domain_base.declared.place.Kind.TheVariants.{File as FileKind}
use Rattle.domain_memory.specs.domain_base.declared.place.Tag.{Tag}
use Rattle.domain_memory.specs.cell_records.declared.record.Leftover.TheVariants.{Trim}
use Rattle.domain_memory.specs.cell_records.declared.record.Record.TheVariants as written
use Rattle.domain_memory.specs.metadata_cells.Cell.{record_of}
use Rattle.domain_memory.specs.metadata_cells.Chain.{PlacedCell}
use Rattle.domain_memory.specs.tag_dirs.declared.dir.TagPlace.{TagPlace}
use Rattle.domain_memory.specs.extent_maps.Runs.{home_at}
use Rattle.domain_memory.specs.extent_maps.declared.run.PagePlace.TheVariants.{Absent, At}
use Rattle.domain_memory.specs.free_space.Spaces.{kept_spaces, volume_of}
use Rattle.domain_memory.specs.file_chains.Files.{places_of}
use Rattle.domain_memory.specs.fileset_files.Changes.{ChangesFirst, with_chain, with_first}
use Rattle.domain_memory.specs.fileset_files.Files.{AreFiles, Chains, LeadsToFile, keep_of}
use Rattle.domain_memory.specs.fileset_files.State.{FileState, state_of}
use Rattle.domain_memory.specs.fileset_files.Together.{AreTogether}
use Rattle.domain_memory.specs.fileset_files.Truncation.{HasPageWithin, IsLowered, Truncates, TruncatesTogether, pages_in, pending_cell, says_size, says_truncated}
use Rattle.domain_memory.proofs.OfFilesetFiles.FirstCell.{find_put}
use Rattle.domain_memory.specs.fileset_files.States.{IsStaleFrom, cut, is_removing}
use Rattle.domain_memory.proofs.OfStoredSet.Live.{home_is}
use Rattle.domain_memory.specs.legal_histories.Valid.{HasWholePages}
use Rattle.domain_memory.specs.fileset_model.Filesets.{FilesetMap}
use Rattle.domain_memory.specs.fileset_values.Orders.{Path}
use Rattle.domain_memory.specs.fileset_model.declared.fileset.FilesetSlot.{FilesetSlot}
use Rattle.domain_memory.specs.fileset_model.declared.node.Node.{Node}
use Rattle.domain_memory.specs.fileset_model.declared.node.Node.TheVariants.{Directory, File}
use Rattle.domain_memory.specs.fileset_table.declared.slot.FilesetEntry.{FilesetEntry}
use Rattle.domain_memory.specs.staged_pages.Store.{pages_of}
use Rattle.domain_memory.specs.name_space.Laws.{IsLike}
use Rattle.domain_memory.specs.domain_layout.Filled.{IsFilled}
use Rattle.set_standing.specs.Nodes.{cut_to, seen_of}
use Rattle.set_standing.proofs.Changed.{agree_on}
use Rattle.set_standing.proofs.Cut.{cut_is, get-cut}
use Rattle.domain_memory.specs.release_list.Listing.{Adds, Listing}
use Rattle.domain_memory.specs.release_list.declared.list.Entry.{Entry}
use Rattle.domain_memory.specs.domain_standing.Domain.{DomainNow}
use Rattle.domain_memory.specs.domain_standing.Standing.{HaveParents}
use Rattle.domain_memory.proofs.OfFilesetFiles.Created.{one_chains}
use Rattle.domain_memory.specs.standing_laws.Leads.{IsLiveOf}
use Rattle.set_standing.specs.OneFile.{KeepsKind}
use Rattle.set_standing.specs.Around.{StandsAround}
use Rattle.set_standing.specs.Beside.{ChangesOneFile}
use Rattle.set_standing.proofs.FileCalls.{cut_again, cut_listed_again}
use Rattle.set_standing.proofs.FileShown.{says_state}
use Rattle.domain_memory.specs.Listing.{list_with, put_all_on}
use Rattle.domain_memory.specs.Slots.{places_in, slot_in}
use Rattle.domain_memory.specs.declared.slots.SlotFiles.{SlotFiles}
use Rattle.domain_memory.specs.Staged.{staged_in}
use Rattle.domain_memory.specs.declared.memory.DomainMemory.{DomainMemory}
use Rattle.domain_memory.proofs.Listed.{once_all, put_adds, put_both}
use Rattle.file_changes.proofs.Changed.{around_file, changed_staged, parents_stay}
use Rattle.file_changes.proofs.Roomy.{roomy, roomy_has, roomy_parents}
use Rattle.file_changes.proofs.Seen.{bytes_follow, its_chain, keep_said, place_live, stays}
use Rattle.file_changes.specs.Stages.{HasFile, IsFileIn, ListsLeft, StandsChanged}

-- ---- the node

cut_like : (size : ℕ) (node : Node) → IsLike (cut_to size node) node
cut_like size (File uid gid was logged pages) = (refl, refl)
cut_like size (Directory uid gid) = (refl, refl)

cut_whole : (size : ℕ) (node : Node) → HasWholePages node → HasWholePages (cut_to size node)
cut_whole size (File uid gid was logged pages) are = λ q of is. are q of (by_front q of (nat_lt (q * 8192) size) (sym (get-cut size pages q) ∙ is))
  where
    by_front : (q : ℕ) (of : List ℕ) (b : Bool) → cond b (map.get pages q) None ≡ Some of → map.get pages q ≡ Some of
    by_front q of true is = is
    by_front q of false is = absurd (cc)
cut_whole size (Directory uid gid) are = are

cut_keeps : (size : ℕ) → KeepsKind (cut_to size)
cut_keeps size = record { like = cut_like size; whole = cut_whole size }

-- ---- its state

stale_is : (size : ℕ) (cells : List PlacedCell) (state : FileState) → keep_of cells ≡ Some state.keep → ((page : ℕ) → places_of cells page ≡ state.places page) → (lowered : Option ℕ) → IsLowered size cells lowered → IsStaleFrom size state lowered
stale_is size cells state keep places (Some from) (at, stale) =
    let p : HasPageWithin from state.keep (places_of cells) = subst (λ o. IsSomeAnd o (λ k. HasPageWithin from k (places_of cells))) keep stale in
    (at, record { page = p.page; begins = p.begins; ends = p.ends; there = λ none. p.there (places p.page ∙ none) })
stale_is size cells state keep places None none =
    λ p. subst (λ o. IsSomeAnd o (λ k. ¬ HasPageWithin (pages_in size) k (places_of cells))) keep none (record { page = p.page; begins = p.begins; ends = p.ends; there = λ gone. p.there (sym (places p.page) ∙ gone) })

-- where a page of it stands then, it stood before
cut_home : (size : ℕ) (lowered : Option ℕ) (state : FileState) (page : ℕ) (home : Home) → (seen_of (cut size lowered state)).homes page ≡ Some home → state.places page ≡ At home
cut_home size None state page home at = by_front (nat_lt page state.keep) at
  where
    by_front : (b : Bool) → home_at (cond b (state.places page) Absent) ≡ Some home → state.places page ≡ At home
    by_front true at = home_is (state.places page) home at
    by_front false at = absurd (cc)
cut_home size (Some keep) state page home at = by_front (nat_lt page keep) at
  where
    by_front : (b : Bool) → home_at (cond b (state.places page) Absent) ≡ Some home → state.places page ≡ At home
    by_front true at = home_is (state.places page) home at
    by_front false at = absurd (cc)

removing_same : (size : ℕ) (lowered : Option ℕ) (state : FileState) → is_removing state.pending ≡ false → is_removing (cut size lowered state).pending ≡ is_removing state.pending
removing_same size None state live = refl
removing_same size (Some keep) state live = sym live

-- nothing is lowered where nothing is left to be done
none_lowered : (size : ℕ) (lowered : Option ℕ) (first : PlacedCell) → None ≡ option_map (λ _. first.at) (record_of 6 (says_truncated size lowered first.cell).records) → lowered ≡ None
none_lowered size None first none = refl
none_lowered size (Some keep) first none = absurd (wrong (none ∙ ap (option_map (λ _. first.at)) (find_put 6 (Some (written.Pending Trim)) (says_size size (Some keep) first.cell).records refl)))
  where
    wrong : None ≡ Some first.at → ⊥
    wrong e = cc

-- ---- memory

module _ (old new : DomainMemory) (same : new ≡ record old { pages = new.pages; listed = new.listed }) (number : ℕ) (tag : Tag) (size : ℕ) (files : SlotFiles) (is : slot_in old.slots.items number ≡ Some files) (number_is : files.files.fileset ≡ number) (file : IsFileIn old number tag) (left : Option CellAt)
    (lists : ListsLeft left old.listed.items new.listed.items)
    (truncates : (chains : Chains) → AreFiles files.files.fileset files.files.tags (pages_of old.pages) chains → Truncates files.files.fileset files.files.tags tag size left chains (pages_of new.pages))
    (together : (chains : Chains) → AreTogether files.files.fileset files.files.tags old.space old.cells (pages_of old.pages) chains → TruncatesTogether files.files.fileset files.files.tags tag size old.space old.cells chains (pages_of new.pages))
    (beside : (chains : Chains) → AreFiles files.files.fileset files.files.tags (pages_of old.pages) chains → ChangesFirst (chains tag) (pages_of old.pages) (pages_of new.pages))
    (path : Path) (all : FilesetMap) (entry : FilesetEntry) (fileset : FilesetSlot) (has : HasFile old number tag path all entry fileset)
  where
    abbrev d : DomainNow
    d = staged_in old

    abbrev now : DomainNow
    now = staged_in new

    -- the pages are others, and the list is not yet
    abbrev mid : DomainNow
    mid = staged_in (record old { pages = new.pages })

    abbrev around : StandsAround number d
    around = around_file old number tag path all entry fileset has

    abbrev chains : Chains
    chains = around.chains

    live : IsLiveOf FileKind (chains tag)
    live = file chains around.well.together.files

    its_places : d.tags number ≡ files.files.tags
    its_places = ap places_in is

    by_slot : AreTogether files.files.fileset files.files.tags d.space d.cells d.pages chains
    by_slot =
        subst (λ (n : ℕ). AreTogether n files.files.tags d.space d.cells d.pages chains) (sym number_is)
        (subst (λ (ps : List TagPlace). AreTogether number ps d.space d.cells d.pages chains) its_places around.well.together)

    t : TruncatesTogether files.files.fileset files.files.tags tag size old.space old.cells chains (pages_of new.pages)
    t = together chains by_slot

    u : Truncates files.files.fileset files.files.tags tag size left chains (pages_of new.pages)
    u = truncates chains by_slot.files

    -- one number alone
    one_lowered : (cells : List PlacedCell) (a b : Option ℕ) → IsLowered size cells a → IsLowered size cells b → a ≡ b
    one_lowered cells None None is also = refl
    one_lowered cells (Some n) (Some m) is also = ap Some (is.0 ∙ sym also.0)
    one_lowered cells None (Some m) none there = absurd (both (keep_of cells) none (subst (λ k. IsSomeAnd (keep_of cells) (λ keep. HasPageWithin k keep (places_of cells))) there.0 there.1))
      where
        both : (o : Option ℕ) → IsSomeAnd o (λ keep. ¬ HasPageWithin (pages_in size) keep (places_of cells)) → IsSomeAnd o (λ keep. HasPageWithin (pages_in size) keep (places_of cells)) → ⊥
        both None none there = none
        both (Some k) none there = none there
    one_lowered cells (Some n) None there none = absurd (both (keep_of cells) none (subst (λ k. IsSomeAnd (keep_of cells) (λ keep. HasPageWithin k keep (places_of cells))) there.0 there.1))
      where
        both : (o : Option ℕ) → IsSomeAnd o (λ keep. ¬ HasPageWithin (pages_in size) keep (places_of cells)) → IsSomeAnd o (λ keep. HasPageWithin (pages_in size) keep (places_of cells)) → ⊥
        both None none there = none
        both (Some k) none there = none there

    one_for : (o : Option (List PlacedCell)) (a b : Option ℕ) → IsSomeAnd o (λ chain. IsLowered size chain a) → IsSomeAnd o (λ chain. IsLowered size chain b) → a ≡ b
    one_for None a b is also = absurd is
    one_for (Some cells) a b is also = one_lowered cells a b is also

    pending : IsSomeAnd (chains tag) (λ chain. left ≡ pending_cell (with_first (says_truncated size t.lowered) chain))
    pending = subst (λ (l : Option ℕ). IsSomeAnd (chains tag) (λ chain. left ≡ pending_cell (with_first (says_truncated size l) chain))) (one_for (chains tag) u.lowered t.lowered u.stale t.stale) u.pending

    together_now : AreTogether number (d.tags number) d.space d.cells mid.pages (with_chain tag (with_first (says_truncated size t.lowered)) chains)
    together_now =
        subst (λ (ps : List TagPlace). AreTogether number ps d.space d.cells mid.pages (with_chain tag (with_first (says_truncated size t.lowered)) chains)) (sym its_places)
        (subst (λ (n : ℕ). AreTogether n files.files.tags d.space d.cells mid.pages (with_chain tag (with_first (says_truncated size t.lowered)) chains)) number_is t.together)

    abbrev list_now : Listing
    list_now = list_with new.listed.items old.list.list

    stale : IsSomeAnd (chains tag) (λ chain. IsLowered size chain t.lowered)
    stale = t.stale

    none_left : (o : Option (List PlacedCell)) → IsSomeAnd o (λ chain. None ≡ pending_cell (with_first (says_truncated size t.lowered) chain)) → (o ≡ Some [] → ⊥) → t.lowered ≡ None
    none_left None none some = absurd none
    none_left (Some []) none some = absurd (some refl)
    none_left (Some (first ∷ rest)) none some = none_lowered size t.lowered first none

    changed : ChangesOneFile number tag (cut size t.lowered) (λ k. ⊥) chains d (record mid { list = list_now })
    changed = by_left left lists pending
      where
        first_changes : ChangesFirst (chains tag) d.pages mid.pages
        first_changes = beside chains by_slot.files

        not_empty : chains tag ≡ Some [] → ⊥
        not_empty empty =
            let leads = subst (λ o. IfSome o (LeadsToFile number (d.tags number) d.pages tag)) empty (around.well.together.files.some tag) in
            leads.is_of

        by_left : (o : Option CellAt) → ListsLeft o old.listed.items new.listed.items → IsSomeAnd (chains tag) (λ chain. o ≡ pending_cell (with_first (says_truncated size t.lowered) chain))
            → ChangesOneFile number tag (cut size t.lowered) (λ k. ⊥) chains d (record mid { list = list_now })
        by_left None same_items none =
            let l : t.lowered ≡ None = none_left (chains tag) none not_empty in
            subst (λ (x : Listing). ChangesOneFile number tag (cut size t.lowered) (λ k. ⊥) chains d (record mid { list = x })) (ap (λ (items : List CellAt). list_with items old.list.list) (sym same_items))
            (subst (λ (o : Option ℕ). ChangesOneFile number tag (cut size o) (λ k. ⊥) chains d mid) (sym l)
            (cut_again number tag size d mid around refl (bytes_follow old (record old { pages = new.pages })) live first_changes
            (subst (λ (o : Option ℕ). IsSomeAnd (chains tag) (λ chain. IsLowered size chain o)) l stale)
            (subst (λ (o : Option ℕ). AreTogether number (d.tags number) d.space d.cells mid.pages (with_chain tag (with_first (says_truncated size o)) chains)) l together_now)))
        by_left (Some at) more some =
            let added = put_adds at (put_all_on old.listed.items old.list.list.entries) (once_all old.listed.items old.list.list.entries has.staged.once) in
            let is_now : put_all_on (at ∷ []) (put_all_on old.listed.items old.list.list.entries) ≡ list_now.entries = sym (put_both old.listed.items (at ∷ []) old.list.list.entries) ∙ ap (λ (items : List CellAt). put_all_on items old.list.list.entries) (sym more) in
            cut_listed_again number tag size d mid around refl (bytes_follow old (record old { pages = new.pages })) live first_changes t.lowered at list_now stale together_now some
            (subst (λ (es : List Entry). Adds at None d.list.entries es) is_now added) refl

    changes : ChangesOneFile number tag (cut size t.lowered) (λ k. ⊥) chains d now
    changes = subst (ChangesOneFile number tag (cut size t.lowered) (λ k. ⊥) chains d) (sym (ap staged_in same)) changed

    turns : (state : FileState) → option_and_then state_of (chains tag) ≡ Some state → (node : Node) → IsFilled d.contents (seen_of state) node → IsFilled now.contents (seen_of (cut size t.lowered state)) (cut_to size node)
    turns state is_state node filled =
        let c = its_chain chains tag live state is_state in
        let lowered : IsLowered size c.cells t.lowered = subst (λ o. IsSomeAnd o (λ chain. IsLowered size chain t.lowered)) c.there stale in
        let from = stale_is size c.cells state (keep_said c.cells state c.state_is) (says_state c.cells state c.state_is).places t.lowered lowered in
        agree_on d.contents now.contents (seen_of (cut size t.lowered state)) (cut_to size node)
        (λ page home at. sym (changes.bytes.own page home (λ none. none) (sym (place_live chains tag live state is_state page) ∙ cut_home size t.lowered state page home at)))
        (cut_is d.contents state size t.lowered node from filled)

    cut_still : IsFileIn new number tag
    cut_still = λ chains_new are_new. subst (IsLiveOf FileKind) (one_chains now.pages number (now.tags number) changes.chains_now chains_new changes.are are_new tag) changes.live

    cut_parents : HaveParents d → HaveParents now
    cut_parents = parents_stay old number tag path all entry fileset has new (cut size t.lowered) (λ k. ⊥) changes

    file_cut : length new.listed.items ≤ new.list.room → StandsChanged path (cut_to size) all entry fileset new
    file_cut room = changed_staged old number tag path all entry fileset has new (ap (λ (m : DomainMemory). m.list) same) room (λ vol. ap (λ (m : DomainMemory). volume_of (kept_spaces m.space) vol) same) (cut size t.lowered) (λ k. ⊥) changes (cut_to size) (cut_keeps size) live
        (λ state is_state. removing_same size t.lowered state (stays chains tag live state is_state)) turns

-- where room is made on the list for it, whichever end that has
pub cut_end : {X E : Type 0} (old new : DomainMemory) → new ≡ record old { pages = new.pages; list = new.list; listed = new.listed } → new.list.list ≡ old.list.list → old.list.room ≤ new.list.room
    → (number : ℕ) (tag : Tag) (size : ℕ) (files : SlotFiles) → slot_in old.slots.items number ≡ Some files → files.files.fileset ≡ number → IsFileIn old number tag → (left : Option CellAt) → ListsLeft left old.listed.items new.listed.items
    → ((chains : Chains) → AreFiles files.files.fileset files.files.tags (pages_of old.pages) chains → Truncates files.files.fileset files.files.tags tag size left chains (pages_of new.pages))
    → ((chains : Chains) → AreTogether files.files.fileset files.files.tags old.space old.cells (pages_of old.pages) chains → TruncatesTogether files.files.fileset files.files.tags tag size old.space old.cells chains (pages_of new.pages))
    → ((chains : Chains) → AreFiles files.files.fileset files.files.tags (pages_of old.pages) chains → ChangesFirst (chains tag) (pages_of old.pages) (pages_of new.pages))
    → (r : Result X E) → OnOk r (length new.listed.items ≤ new.list.room) → (path : Path) (all : FilesetMap) (entry : FilesetEntry) (fileset : FilesetSlot) → HasFile old number tag path all entry fileset
    → OnOk r (StandsChanged path (cut_to size) all entry fileset new)
cut_end old new same list more number tag size files is number_is file left lists truncates together beside (Ok x) room path all entry fileset has =
    file_cut (roomy old new list more) new same number tag size files is number_is file left lists truncates together beside path all entry fileset
    (roomy_has old new list more number tag path all entry fileset has) room
cut_end old new same list more number tag size files is number_is file left lists truncates together beside (Err e) room path all entry fileset has = tt

pub parents_end : {X E : Type 0} (old new : DomainMemory) → new ≡ record old { pages = new.pages; list = new.list; listed = new.listed } → new.list.list ≡ old.list.list → old.list.room ≤ new.list.room
    → (number : ℕ) (tag : Tag) (size : ℕ) (files : SlotFiles) → slot_in old.slots.items number ≡ Some files → files.files.fileset ≡ number → IsFileIn old number tag → (left : Option CellAt) → ListsLeft left old.listed.items new.listed.items
    → ((chains : Chains) → AreFiles files.files.fileset files.files.tags (pages_of old.pages) chains → Truncates files.files.fileset files.files.tags tag size left chains (pages_of new.pages))
    → ((chains : Chains) → AreTogether files.files.fileset files.files.tags old.space old.cells (pages_of old.pages) chains → TruncatesTogether files.files.fileset files.files.tags tag size old.space old.cells chains (pages_of new.pages))
    → ((chains : Chains) → AreFiles files.files.fileset files.files.tags (pages_of old.pages) chains → ChangesFirst (chains tag) (pages_of old.pages) (pages_of new.pages))
    → (r : Result X E) → (path : Path) (all : FilesetMap) (entry : FilesetEntry) (fileset : FilesetSlot) → HasFile old number tag path all entry fileset
    → HaveParents (staged_in old) → OnOk r (HaveParents (staged_in new))
parents_end old new same list more number tag size files is number_is file left lists truncates together beside (Ok x) path all entry fileset has had =
    cut_parents (roomy old new list more) new same number tag size files is number_is file left lists truncates together beside path all entry fileset
    (roomy_has old new list more number tag path all entry fileset has) (roomy_parents old new list more had)
parents_end old new same list more number tag size files is number_is file left lists truncates together beside (Err e) path all entry fileset has had = tt

pub file_end : {X E : Type 0} (old new : DomainMemory) → new ≡ record old { pages = new.pages; list = new.list; listed = new.listed } → new.list.list ≡ old.list.list → old.list.room ≤ new.list.room
    → (number : ℕ) (tag : Tag) (size : ℕ) (files : SlotFiles) → slot_in old.slots.items number ≡ Some files → files.files.fileset ≡ number → IsFileIn old number tag → (left : Option CellAt) → ListsLeft left old.listed.items new.listed.items
    → ((chains : Chains) → AreFiles files.files.fileset files.files.tags (pages_of old.pages) chains → Truncates files.files.fileset files.files.tags tag size left chains (pages_of new.pages))
    → ((chains : Chains) → AreTogether files.files.fileset files.files.tags old.space old.cells (pages_of old.pages) chains → TruncatesTogether files.files.fileset files.files.tags tag size old.space old.cells chains (pages_of new.pages))
    → ((chains : Chains) → AreFiles files.files.fileset files.files.tags (pages_of old.pages) chains → ChangesFirst (chains tag) (pages_of old.pages) (pages_of new.pages))
    → (r : Result X E) → (path : Path) (all : FilesetMap) (entry : FilesetEntry) (fileset : FilesetSlot) → HasFile old number tag path all entry fileset
    → OnOk r (IsFileIn new number tag)
file_end old new same list more number tag size files is number_is file left lists truncates together beside (Ok x) path all entry fileset has =
    cut_still (roomy old new list more) new same number tag size files is number_is file left lists truncates together beside path all entry fileset
    (roomy_has old new list more number tag path all entry fileset has)
file_end old new same list more number tag size files is number_is file left lists truncates together beside (Err e) path all entry fileset has = tt
