-- What is seen of a live file, by its state; and what of a domain stays where pages, free space and free cells change.
use Rattle.std.proofs.Common.{◌≡◌, ◌∙◌, ◌<◌, ℕ, Bool, true, false, cond, List, [], Option, Some, None, IfNone, IsSomeAnd, refl, sym, ap, subst}
use Rattle.std.specs.Option.{option_and_then, option_map, option_map_or, unwrap_or}
use Rattle.domain_memory.specs.domain_base.declared.place.Kind.TheVariants.{File}
use Rattle.domain_memory.specs.domain_base.declared.place.Tag.{Tag}
use Rattle.domain_memory.specs.cell_records.declared.record.Record.{Record}
use Rattle.domain_memory.specs.cell_records.declared.record.Record.TheVariants as written
use Rattle.domain_memory.specs.metadata_cells.Chain.{PlacedCell}
use Rattle.domain_memory.specs.extent_maps.declared.run.PagePlace.TheVariants.{Absent}
use Rattle.domain_memory.specs.file_chains.Files.{places_of}
use Rattle.domain_memory.specs.fileset_files.declared.attributes.Attributes.{Attributes}
use Rattle.domain_memory.specs.fileset_files.Files.{Chains, attributes_of, first_record, is_removed, keep_in, keep_of, of_live, place_at}
use Rattle.domain_memory.specs.fileset_files.State.{FileState, state_of, state_with}
use Rattle.domain_memory.specs.fileset_files.States.{if_live, is_removing}
use Rattle.domain_memory.specs.domain_layout.Seen.{seen_in}
use Rattle.set_standing.specs.Nodes.{seen_of}
use Rattle.set_standing.proofs.Seen.{live_seen}
use Rattle.domain_memory.specs.page_ways.Frame.{frame_in}
use Rattle.domain_memory.specs.page_store.Pages.{AreWhole}
use Rattle.domain_memory.specs.staged_pages.Store.{pages_of, whole_pages}
use Rattle.domain_memory.specs.standing_laws.Leads.{IsLiveOf}
use Rattle.set_standing.specs.Around.{BytesFollow, ChangesSlot}
use Rattle.set_standing.proofs.FileShown.{SaysState, says_state, state_there}
use Rattle.domain_memory.specs.Listing.{list_with}
use Rattle.domain_memory.specs.Slots.{places_in, slot_in}
use Rattle.domain_memory.specs.Staged.{staged_in}
use Rattle.domain_memory.specs.declared.memory.DomainMemory.{DomainMemory}

pub keep_said : (cells : List PlacedCell) (state : FileState) → state_of cells ≡ Some state → keep_of cells ≡ Some state.keep
keep_said cells state is = by_record (first_record 1 cells) is
  where
    none : None ≡ Some state → None ≡ Some state.keep
    none e = absurd (cc)

    by_record : (o : Option Record) → option_and_then (state_with cells) o ≡ Some state → option_and_then keep_in o ≡ Some state.keep
    by_record None same = none same
    by_record (Some (written.Attributes kind uid gid flags size keep links birth unsynced)) same = ap (option_map (λ (s : FileState). s.keep)) same
    by_record (Some r) same = none same

-- ---- a live file

-- it has a state
pub record HasStateAt (chains : Chains) (tag : Tag) : Type 0 where
  pub state : FileState
  pub is : option_and_then state_of (chains tag) ≡ Some state

pub state_of_live : (chains : Chains) (tag : Tag) → IsLiveOf File (chains tag) → HasStateAt chains tag
state_of_live chains tag live = by_chain (chains tag) refl live
  where
    by_chain : (o : Option (List PlacedCell)) → chains tag ≡ o → IsLiveOf File o → HasStateAt chains tag
    by_chain None there live = absurd live
    by_chain (Some cells) there live = let s = state_there File cells live in record { state = s.state; is = ap (option_and_then state_of) there ∙ s.is }

module _ (chains : Chains) (tag : Tag) (live : IsLiveOf File (chains tag)) (state : FileState) (is : option_and_then state_of (chains tag) ≡ Some state) where
  pub record IsChainOf : Type 0 where
    pub cells : List PlacedCell
    pub there : chains tag ≡ Some cells
    pub state_is : state_of cells ≡ Some state
    pub live_too : IsLiveOf File (Some cells)

  pub its_chain : IsChainOf
  its_chain = by_chain (chains tag) refl live is
    where
      by_chain : (o : Option (List PlacedCell)) → chains tag ≡ o → IsLiveOf File o → option_and_then state_of o ≡ Some state → IsChainOf
      by_chain None none live is = absurd live
      by_chain (Some cells) there live is = record { cells = cells; there = there; state_is = is; live_too = live }

  says : SaysState its_chain.cells state
  says = says_state its_chain.cells state its_chain.state_is

  pub stays : is_removing state.pending ≡ false
  stays = sym says.removed ∙ by_removed (is_removed its_chain.cells) its_chain.live_too
    where
      by_removed : (b : Bool) → IsSomeAnd (cond b None (attributes_of its_chain.cells)) (λ a. a.kind ≡ File) → b ≡ false
      by_removed true live = absurd live
      by_removed false live = refl

  pub seen_live : option_and_then seen_in (chains tag) ≡ Some (seen_of state)
  seen_live =
      live_seen chains tag ∙ ap (λ (o : Option FileState). option_map seen_of (option_and_then if_live o)) is
      ∙ ap (λ b. option_map seen_of (cond b None (Some state))) stays

  pub is_file : state.attributes.kind ≡ File
  is_file = by_removed (is_removed its_chain.cells) (subst (λ o. IsSomeAnd (cond (is_removed its_chain.cells) None o) (λ (a : Attributes). a.kind ≡ File)) says.attributes its_chain.live_too)
    where
      by_removed : (b : Bool) → IsSomeAnd (cond b None (Some state.attributes)) (λ a. a.kind ≡ File) → state.attributes.kind ≡ File
      by_removed true live = absurd live
      by_removed false live = live

  -- it is told so
  pub attributes_live : option_and_then (of_live attributes_of) (chains tag) ≡ Some state.attributes
  attributes_live =
      ap (option_and_then (of_live attributes_of)) its_chain.there
      ∙ ap (λ b. cond b None (attributes_of its_chain.cells)) (says.removed ∙ stays)
      ∙ says.attributes

  pub keep_live : option_and_then (of_live keep_of) (chains tag) ≡ Some state.keep
  keep_live =
      ap (option_and_then (of_live keep_of)) its_chain.there
      ∙ ap (λ b. cond b None (keep_of its_chain.cells)) (says.removed ∙ stays)
      ∙ keep_said its_chain.cells state its_chain.state_is

  pub kept_live : (page : ℕ) → IsSomeAnd (option_and_then (of_live keep_of) (chains tag)) (λ keep. page < keep) → page < state.keep
  kept_live page kept = by_removed (is_removed its_chain.cells) (subst (λ o. IsSomeAnd (cond (is_removed its_chain.cells) None o) (λ keep. page < keep)) (keep_said its_chain.cells state its_chain.state_is) (subst (λ o. IsSomeAnd (option_and_then (of_live keep_of) o) (λ keep. page < keep)) its_chain.there kept))
    where
      by_removed : (b : Bool) → IsSomeAnd (cond b None (Some state.keep)) (λ keep. page < keep) → page < state.keep
      by_removed true kept = absurd kept
      by_removed false kept = kept

  pub place_live : (page : ℕ) → state.places page ≡ place_at chains tag page
  place_live page = sym (says.places page) ∙ sym (ap (λ o. option_map_or (λ cs. places_of cs page) o Absent) its_chain.there)

-- a live file keeps some pages
pub keep_none : (chains : Chains) (tag : Tag) (r : Option ℕ) → r ≡ option_and_then (of_live keep_of) (chains tag) → IfNone r (¬ IsLiveOf File (chains tag))
keep_none chains tag None none = λ live.
    let s = state_of_live chains tag live in
    wrong s.state.keep (none ∙ keep_live chains tag live s.state s.is)
  where
    wrong : (keep : ℕ) → None ≡ Some keep → ⊥
    wrong keep e = cc
keep_none chains tag (Some keep) is = tt

-- ---- memory

module _ (old new : DomainMemory) (same : new ≡ record old { pages = new.pages; space = new.space; cells = new.cells }) where
  pub tags_same : (n : ℕ) → (staged_in new).tags n ≡ (staged_in old).tags n
  tags_same n = ap (λ (m : DomainMemory). places_in (slot_in m.slots.items n)) same

  pub slot_changes : (number : ℕ) → ChangesSlot number (staged_in old) (staged_in new)
  slot_changes number = record {
    frame = ap (λ (m : DomainMemory). frame_in m.frame) same;
    table = ap (λ (m : DomainMemory). m.table) same;
    list = ap (λ (m : DomainMemory). list_with m.listed.items m.list.list) same;
    tags = λ other differ. tags_same other;
  }

pub bytes_follow : (old new : DomainMemory) → BytesFollow (staged_in old) (staged_in new)
bytes_follow old new home still = ap (λ (o : Option (List ℕ)). unwrap_or o []) still

-- where pages alone change
pub with_pages : (old new : DomainMemory) → new ≡ record old { pages = new.pages } → new ≡ record old { pages = new.pages; space = new.space; cells = new.cells }
with_pages old new same = same ∙ (λ i. record old { pages = new.pages; space = sym (ap (λ (m : DomainMemory). m.space) same) i; cells = sym (ap (λ (m : DomainMemory). m.cells) same) i })

-- each page has all its bytes
pub pages_whole : (memory : DomainMemory) → AreWhole (pages_of memory.pages)
pages_whole memory = whole_pages memory.pages.entries.items memory.pages.changed.items memory.pages.slots
