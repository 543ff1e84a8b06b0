-- A domain's memory once all pages are free that wait.
use Rattle.std.proofs.Common.{◌≡◌, ◌∙◌, ℕ, [], length, Option, Some, None, IfSome, IsSomeAnd, inl, inr, slice_get, refl, sym, ap, subst, ⊎_elim}
use Rattle.std.proofs.Math.Logic.{∥∥₁_map}
use Rattle.std.specs.FinMap.{get}
use Rattle.std.specs.Option.{option_and_then, option_map}
use Rattle.domain_changes.specs.domain_base.declared.place.CellAt.{CellAt}
use Rattle.domain_changes.specs.domain_base.declared.place.Tag.{Tag}
use Rattle.domain_changes.specs.fileset_model.Filesets.{FilesetMap}
use Rattle.domain_changes.specs.fileset_table.Table.{IsTable}
use Rattle.domain_changes.specs.free_cells.Cells.{taken_back}
use Rattle.domain_changes.specs.free_space.Spaces.{Spaces, change_volumes, kept_spaces, volume_of}
use Rattle.domain_changes.specs.free_space.VolumeSpace.{VolumeSpace, with_none_waiting}
use Rattle.domain_changes.proofs.OfFreeSpace.Kept.{kept-with_none_waiting, volume_of-changed}
use Rattle.domain_changes.specs.page_ways.Frame.{frame_in}
use Rattle.domain_changes.specs.quota_book.Sums.{IsBookOf}
use Rattle.domain_changes.specs.release_list.Listing.{IsEmpty}
use Rattle.domain_changes.specs.staged_pages.Store.{before_of, pages_of}
use Rattle.domain_changes.specs.domain_layout.Read.{contents_of}
use Rattle.domain_changes.specs.domain_layout.TagRules.{quota_of}
use Rattle.domain_changes.specs.domain_standing.Chains.{IsRemoved}
use Rattle.domain_changes.specs.domain_standing.Domain.{DomainNow, item_in}
use Rattle.domain_changes.specs.domain_standing.Sources.{StandAlone}
use Rattle.domain_changes.specs.domain_standing.Standing.{HaveParents, IsMarkedBut, StandsDomain}
use Rattle.domain_changes.specs.standing_laws.Leads.{StandsBelow}
use Rattle.domain_changes.specs.standing_laws.Sound.{IsSound}
use Rattle.domain_changes.specs.domain_memory.Slots.{CanGoBack, HasNumber, book_in, kept_book, kept_places, places_in, slot_in}
use Rattle.domain_changes.specs.domain_memory.Memory.{StandsFor, books_in, kept_in, with_was}
use Rattle.domain_changes.specs.domain_memory.Staged.{IsSettled, MayGoBack, staged_in}
use Rattle.domain_changes.specs.domain_memory.declared.memory.DomainMemory.{DomainMemory}
use Rattle.release_laws.specs.Freed.{freed}
use Rattle.release_laws.proofs.FreedPages.{below_freed, bits_freed, slots_freed}
use Rattle.domain_changes.specs.release_steps.Kept.{HasNoEntry}
use Rattle.domain_changes.specs.domain_memory.Going.{HasQuotaCells, HavePlain, IsUsedIn, MayLetGo, NoneWaits, NothingGoes}

pub none_waits : (space : Spaces) → NoneWaits (change_volumes with_none_waiting space)
none_waits space vol = subst (λ o. IfSome o (λ v. v.waiting ≡ [])) (sym (volume_of-changed with_none_waiting space vol)) (by_volume (volume_of space vol))
  where
    by_volume : (o : Option VolumeSpace) → IfSome (option_map with_none_waiting o) (λ v. v.waiting ≡ [])
    by_volume None = tt
    by_volume (Some v) = refl

module _ (old new : DomainMemory) (same : new ≡ record old { space = new.space }) where
  pub back_freed : ∥ MayGoBack old ∥₁ → ∥ MayGoBack new ∥₁
  back_freed may = ∥∥₁_map may (λ m. record {
    has = record {
      count = subst (λ (x : DomainMemory). length x.slots.items ≡ 32) (sym same) m.has.count;
      numbered = subst (λ (x : DomainMemory). (number : ℕ) → IfSome (slot_in x.slots.items number) (HasNumber number)) (sym same) m.has.numbered;
    };
    table = subst (λ (x : DomainMemory). IsTable (with_was x.was x.table)) (sym same) m.table;
    slots = subst (λ (x : DomainMemory). (number : ℕ) → IfSome (slot_in x.slots.items number) CanGoBack) (sym same) m.slots;
  })

  -- and nothing more may be let go of
  pub none_more : ¬ MayLetGo old → ¬ MayLetGo new
  none_more none may = none (record {
    some = subst (λ (x : DomainMemory). ¬ IsEmpty x.list.list) same may.some;
    tag_pages = subst (λ (x : DomainMemory). x.list.list.tag_pages ≡ []) same may.tag_pages;
    plain = subst (λ (x : DomainMemory). HavePlain x x.list.list.entries) same may.plain;
  })

  -- nor anything be emptied
  pub nothing_more : NothingGoes old → NothingGoes new
  nothing_more none = record {
    list = none_more none.list;
    slots = λ number may. none.slots number (record {
      removed = subst (λ (x : DomainMemory). IsRemoved (slice_get x.table.slots number)) same may.removed;
      some = ⊎_elim
          (λ (used : (tag : Tag) × IsUsedIn new number tag). inl (used.0, subst (λ (x : DomainMemory). IsUsedIn x number used.0) same used.1))
          (λ rest. inr (⊎_elim
          (λ (quotas : (at : CellAt) × HasQuotaCells new number at). inl (
            quotas.0,
            record {
              removed = subst (λ (x : DomainMemory). IsRemoved (slice_get x.table.slots number)) same quotas.1.removed;
              quota = subst (λ (x : DomainMemory). option_and_then quota_of (slice_get x.table.slots number) ≡ Some quotas.0) same quotas.1.quota;
              unlisted = subst (λ (x : DomainMemory). HasNoEntry (staged_in x).list quotas.0) same quotas.1.unlisted;
            },
          ))
          (λ has. inr (record {
            none = subst (λ (x : DomainMemory). option_and_then quota_of (slice_get x.table.slots number) ≡ None) same has.none;
            none_listed = subst (λ (x : DomainMemory). x.list.list.tag_pages ≡ []) same has.none_listed;
          }))
          rest))
          may.some;
    });
  }

module _ (old new : DomainMemory) (same : new ≡ record old { space = new.space }) (space : new.space ≡ change_volumes with_none_waiting old.space) (settled : IsSettled old) where
  kept_now : kept_spaces new.space ≡ new.space
  kept_now = ap kept_spaces space ∙ kept-with_none_waiting old.space ∙ sym space

  pub freed_settled : IsSettled new
  freed_settled = record {
    pages = subst (λ (m : DomainMemory). pages_of m.pages ≡ before_of m.pages) (sym same) settled.pages;
    space = kept_now;
    cells = subst (λ (m : DomainMemory). taken_back m.cells ≡ m.cells) (sym same) settled.cells;
    places = subst (λ (m : DomainMemory). (number : ℕ) → places_in (slot_in m.slots.items number) ≡ kept_places (slot_in m.slots.items number)) (sym same) settled.places;
    books = subst (λ (m : DomainMemory). (number : ℕ) → book_in (slot_in m.slots.items number) ≡ kept_book (slot_in m.slots.items number)) (sym same) settled.books;
    was = subst (λ (m : DomainMemory). m.was ≡ None) (sym same) settled.was;
    listed = subst (λ (m : DomainMemory). m.listed.items ≡ []) (sym same) settled.listed;
  }

  is_freed : kept_in new ≡ freed (kept_in old)
  is_freed = λ i. record {
    frame = frame_in (same i).frame;
    table = with_was (same i).was (same i).table;
    tags = λ number. kept_places (slot_in (same i).slots.items number);
    pages = before_of (same i).pages;
    contents = contents_of (before_of (same i).pages);
    space = (kept_now ∙ space ∙ sym (ap (change_volumes with_none_waiting) settled.space)) i;
    cells = taken_back (same i).cells;
    list = (same i).list.list;
  }

  module _ (all : FilesetMap) (stood : StandsFor old all) where
    abbrev d : DomainNow
    d = kept_in old

    below : StandsBelow d stood.stands.files stood.stands.indexes
    below = record { tables = stood.stands.tables; chains = stood.stands.chains; owned = stood.stands.owned; rest = stood.stands.rest }

    stands_freed : StandsDomain (freed d) all
    stands_freed =
        let now = below_freed d stood.stands.files stood.stands.indexes below in
        record {
          tables = now.tables;
          files = stood.stands.files;
          indexes = stood.stands.indexes;
          chains = now.chains;
          owned = now.owned;
          rest = now.rest;
          slots = slots_freed d stood.stands.files stood.stands.indexes below all stood.stands.slots;
        }

    sound_freed : IsSound (freed d)
    sound_freed =
        let is = stood.sound in
        record {
          files = is.files;
          indexes = is.indexes;
          below = below_freed d is.files is.indexes is.below;
          sound = record { within = is.sound.within; laters = is.sound.laters; good = is.sound.good };
        }

    pub freed_stands : StandsFor new all
    freed_stands = record {
      stands = subst (λ (x : DomainNow). StandsDomain x all) (sym is_freed) stands_freed;
      alone = subst StandAlone (sym is_freed) stood.alone;
      sound = subst IsSound (sym is_freed) sound_freed;
      parents = subst HaveParents (sym is_freed) stood.parents;
      marked = subst IsMarkedBut (sym is_freed) (bits_freed d stood.marked);
      books = λ number entry item. subst (λ (m : DomainMemory). IsSomeAnd (get all entry.name) (λ fileset. IsBookOf (books_in m number) fileset.tree)) (sym same)
          (stood.books number entry (ap (λ (x : DomainNow). item_in x number) (sym is_freed) ∙ item));
    }
