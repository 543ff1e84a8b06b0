-- Memory of a domain in which a slot comes free of what was removed from it.
use Rattle.std.proofs.Common.{◌≡◌, ◌∙◌, ◌≤◌, ℕ, zero, suc, List, [], ◌∷◌, Option, Some, None, IfSome, IsSomeAnd, Contains, length, slice_get, slice_set, refl, sym, ap, subst, arith, ⊎_elim, true≢false}
use Rattle.std.proofs.Math.Logic.{∥∥₁_map}
use Rattle.std.proofs.lemmas.Bool.{cases_eq}
use Rattle.std.specs.FinMap.{get}
use Rattle.std.specs.Option.{unwrap_or}
use Rattle.domain_changes.specs.domain_base.declared.place.Home.{Home}
use Rattle.domain_changes.specs.page_store.Pages.{Pages}
use Rattle.domain_changes.specs.tag_dirs.declared.dir.TagPlace.{TagPlace}
use Rattle.domain_changes.specs.free_space.Spaces.{Spaces, kept_spaces}
use Rattle.domain_changes.specs.index_pages.Changes.{DropsIndex}
use Rattle.domain_changes.specs.fileset_model.Filesets.{FilesetMap}
use Rattle.domain_changes.specs.fileset_table.Page.{IsTablePage}
use Rattle.domain_changes.specs.fileset_table.Table.{IsTable, Table, with_slot}
use Rattle.domain_changes.specs.fileset_table.declared.slot.FilesetEntry.{FilesetEntry}
use Rattle.domain_changes.specs.fileset_table.declared.slot.SlotItem.TheVariants as slot
use Rattle.domain_changes.proofs.OfReleaseList.Spread.{some_same}
use Rattle.domain_changes.specs.release_steps.Links.{homes_of}
use Rattle.domain_changes.specs.page_ways.Frame.{frame_in}
use Rattle.domain_changes.specs.quota_book.Book.{Book}
use Rattle.domain_changes.specs.quota_book.Sums.{IsBookOf}
use Rattle.domain_changes.specs.staged_pages.Store.{pages_of}
use Rattle.domain_changes.specs.domain_standing.Domain.{DomainNow, item_in}
use Rattle.domain_changes.specs.domain_standing.Holders.Holder.{of_table, of_tags}
use Rattle.domain_changes.specs.standing_laws.Sound.{IsSound}
use Rattle.domain_changes.specs.domain_standing.Standing.{IsMarkedBut}
use Rattle.domain_changes.proofs.OfStandingLaws.FilesetBegins.{get_set}
use Rattle.domain_changes.proofs.OfStandingLaws.IndexWell.{listed_has}
use Rattle.domain_changes.proofs.OfStandingLaws.ParentsBegin.{other_slot as other_item}
use Rattle.domain_changes.specs.domain_memory.Listing.{HaveOnce}
use Rattle.domain_changes.specs.domain_memory.Slots.{CanGoBack, HasNumber, book_in, places_in, slot_in}
use Rattle.domain_changes.specs.domain_memory.declared.slots.SlotFiles.{SlotFiles}
use Rattle.domain_changes.specs.domain_memory.Memory.{with_was}
use Rattle.domain_changes.specs.domain_memory.Staged.{IsSettled, MayBeKept, MayGoBack, staged_in}
use Rattle.domain_changes.specs.domain_memory.declared.memory.DomainMemory.{DomainMemory}
use Rattle.release_changes.specs.Emptying.{FreesSlot, IsLeftOver}
use Rattle.domain_changes.specs.Table.{PutsSlot}
use Rattle.release_changes.proofs.SlotFreed.{alone_then, below_then, bits_then, domain_then, have_parents, sound_then}
use Rattle.domain_changes.proofs.SlotsSet.{length_set, slot_other}
use Rattle.release_changes.proofs.WithIndex.{waiting_kept}

-- nothing is in the slot then
slot_gone : (slots : List (Option SlotFiles)) (number : ℕ) → slot_in (slice_set slots number None) number ≡ None
slot_gone [] number = refl
slot_gone (s ∷ slots) zero = refl
slot_gone (s ∷ slots) (suc number) = slot_gone slots number

module _ (number group : ℕ) (old mid new : DomainMemory) (puts : PutsSlot number slot.Free old mid) (slots_put : new.slots.items ≡ slice_set mid.slots.items number None)
    (same_mid : new ≡ record mid { pages = new.pages; space = new.space; slots = new.slots; was = None })
  where
    slots : new.slots.items ≡ slice_set old.slots.items number None
    slots = slots_put ∙ ap (λ (m : DomainMemory). slice_set m.slots.items number None) puts.same

    same : new ≡ record old { pages = new.pages; space = new.space; table = mid.table; slots = new.slots; was = None }
    same = same_mid ∙ (λ i. record (puts.same i) { pages = new.pages; space = new.space; table = mid.table; slots = new.slots; was = None })

    slot_here : slot_in new.slots.items number ≡ None
    slot_here = ap (λ (l : List (Option SlotFiles)). slot_in l number) slots ∙ slot_gone old.slots.items number

    slot_else : (n : ℕ) → ¬ n ≡ number → slot_in new.slots.items n ≡ slot_in old.slots.items n
    slot_else n differ = ap (λ (l : List (Option SlotFiles)). slot_in l n) slots ∙ slot_other old.slots.items number n None differ

    table_is : new.table ≡ with_slot number slot.Free old.table
    table_is = ap (λ (m : DomainMemory). m.table) same ∙ puts.table

    -- ---- the change could be taken back

    pub back_freed : IsTable (with_slot number slot.Free old.table) → ∥ MayGoBack old ∥₁ → ∥ MayGoBack new ∥₁
    back_freed table may = ∥∥₁_map may (λ m. record {
      has = record {
        count = ap length slots ∙ length_set old.slots.items number None ∙ m.has.count;
        numbered = λ n. ⊎_elim
            (λ is. subst (λ (k : ℕ). IfSome (slot_in new.slots.items k) (HasNumber k)) (sym is) (subst (λ o. IfSome o (HasNumber number)) (sym slot_here) tt))
            (λ differ. subst (λ o. IfSome o (HasNumber n)) (sym (slot_else n differ)) (m.has.numbered n))
            (cases_eq n number);
      };
      table = subst IsTable (sym (ap (λ (x : DomainMemory). with_was x.was x.table) same ∙ puts.table)) table;
      slots = λ n. ⊎_elim
          (λ is. subst (λ (k : ℕ). IfSome (slot_in new.slots.items k) CanGoBack) (sym is) (subst (λ o. IfSome o CanGoBack) (sym slot_here) tt))
          (λ differ. subst (λ o. IfSome o CanGoBack) (sym (slot_else n differ)) (m.slots n))
          (cases_eq n number);
    })

    -- ---- it stands for the same filesets

    module _ (drops : DropsIndex group old.space new.space (pages_of mid.pages) (pages_of new.pages) (homes_of (places_in (slot_in old.slots.items number)))) (settled : IsSettled old) (left : IsLeftOver number (staged_in old)) (all : FilesetMap) (ready : MayBeKept old all) where
      abbrev d : DomainNow
      d = staged_in old

      abbrev now : DomainNow
      now = staged_in new

      -- the table stands on none of the pages
      table_off : (home : Home) → d.frame.anchor.table ≡ Some home → ¬ Contains (homes_of (d.tags number)) home
      table_off home at inside = table_not (ready.staged.stands.owned.once home of_table (of_tags number) at (listed_has (d.tags number) home inside))
        where
          table_not : of_table ≡ of_tags number → ⊥
          table_not e = cc

      frees : FreesSlot group number d now
      frees = record {
        left = left;
        table = table_is;
        tags = ap places_in slot_here;
        other_tags = λ n differ. ap places_in (slot_else n differ);
        waits = drops.waits;
        says = λ home at. subst (λ (t : Table). IsSomeAnd (pages_of new.pages home) (λ page. IsTablePage page t)) (sym (ap (λ (m : DomainMemory). m.table) same))
            (subst (λ o. IsSomeAnd o (λ page. IsTablePage page mid.table)) (sym (drops.others home (table_off home at))) (puts.says home at));
        others = λ home off_table off_tags. drops.others home (λ inside. true≢false (sym (listed_has (d.tags number) home inside) ∙ off_tags)) ∙ puts.others home off_table;
        frame = ap (λ (m : DomainMemory). frame_in m.frame) same;
        cells = ap (λ (m : DomainMemory). m.cells) same;
        list = ap (λ (m : DomainMemory). (staged_in m).list) same;
      }

      bytes : (home : Home) → now.pages home ≡ d.pages home → now.contents home ≡ d.contents home
      bytes home still = ap (λ (o : Option (List ℕ)). unwrap_or o []) still

      kept_same : kept_spaces new.space ≡ kept_spaces old.space
      kept_same = ap kept_spaces drops.waits ∙ waiting_kept (homes_of (d.tags number)) group old.space

      sound_now : IsSound now
      sound_now = record {
        files = ready.staged.sound.files;
        indexes = ready.staged.sound.indexes;
        below = below_then number group d now ready.staged.sound.files ready.staged.sound.indexes ready.staged.sound.below frees;
        sound = sound_then number group d now ready.staged.sound.files ready.staged.sound.indexes ready.staged.sound.below frees ready.staged.sound.sound;
      }

      -- an original is in another slot
      other_slot : (n : ℕ) (entry : FilesetEntry) → item_in now n ≡ Some (slot.Original entry) → ¬ n ≡ number
      other_slot n entry there is = free_not (some_same slot.Free (slot.Original entry) (sym free_here ∙ ap (item_in now) (sym is) ∙ there))
        where
          free_here : item_in now number ≡ Some slot.Free
          free_here = ap (λ (t : Table). slice_get t.slots number) table_is ∙ get_set old.table.slots number slot.Free puts.had puts.in_slot

          free_not : slot.Free ≡ slot.Original entry → ⊥
          free_not e = cc

      item_was : (n : ℕ) (entry : FilesetEntry) → item_in now n ≡ Some (slot.Original entry) → item_in d n ≡ Some (slot.Original entry)
      item_was n entry there = sym (ap (λ (t : Table). slice_get t.slots n) table_is ∙ other_item old.table number n slot.Free (other_slot n entry there)) ∙ there

      pub freed_so : MayBeKept new all
      freed_so = record {
        staged = record {
          stands = domain_then number group d now frees bytes all ready.staged.stands;
          alone = alone_then number group d now ready.staged.sound.files ready.staged.sound.indexes ready.staged.sound.below frees ready.staged.alone;
          sound = sound_now;
          marked = subst (λ (s : Spaces). IsMarkedBut (record now { space = s })) (sym kept_same) (bits_then number group d now ready.staged.sound.files ready.staged.sound.indexes ready.staged.sound.below frees (kept_spaces old.space) ready.staged.marked);
          once = subst (λ (m : DomainMemory). HaveOnce m.list.list.entries) (sym same) ready.staged.once;
          room = subst (λ (m : DomainMemory). length m.listed.items ≤ m.list.room) (sym same) ready.staged.room;
        };
        parents = have_parents number group d now frees bytes all ready.staged.stands ready.parents;
        books = λ n entry there. subst (λ (b : Book). IsSomeAnd (get all entry.name) (λ fileset. IsBookOf b fileset.tree)) (sym (ap book_in (slot_else n (other_slot n entry there)))) (ready.books n entry (item_was n entry there));
      }

-- ---- what a call leaves

module _ (number group : ℕ) (old mid : DomainMemory) (puts : PutsSlot number slot.Free old mid) (o : Option SlotFiles) (was : o ≡ slot_in mid.slots.items number) where
  slot_was : slot_in mid.slots.items number ≡ slot_in old.slots.items number
  slot_was = ap (λ (m : DomainMemory). slot_in m.slots.items number) puts.same

  -- if the slot had files, their tag directory is the slot's
  pub its_places : (slot : SlotFiles) → o ≡ Some slot → (places : List TagPlace) → places ≡ slot.files.tags → homes_of places ≡ homes_of (places_in (slot_in old.slots.items number))
  its_places slot there places are = ap homes_of (are ∙ ap places_in (sym there ∙ was ∙ slot_was))

  pub drops_its : (slot : SlotFiles) → o ≡ Some slot → (places : List TagPlace) → places ≡ slot.files.tags → (space : Spaces) (new : Pages) → DropsIndex group mid.space space (pages_of mid.pages) new (homes_of places)
      → DropsIndex group old.space space (pages_of mid.pages) new (homes_of (places_in (slot_in old.slots.items number)))
  drops_its slot there places are space new drops =
      subst (DropsIndex group old.space space (pages_of mid.pages) new) (its_places slot there places are)
      (subst (λ (m : DomainMemory). DropsIndex group m.space space (pages_of mid.pages) new (homes_of places)) puts.same drops)

  -- if it had none, nothing goes
  pub drops_none : o ≡ None → DropsIndex group old.space mid.space (pages_of mid.pages) (pages_of mid.pages) (homes_of (places_in (slot_in old.slots.items number)))
  drops_none none =
      subst (λ (ps : List TagPlace). DropsIndex group old.space mid.space (pages_of mid.pages) (pages_of mid.pages) (homes_of ps)) (ap places_in (sym none ∙ was ∙ slot_was))
      (record { waits = ap (λ (m : DomainMemory). m.space) puts.same; gone = λ home inside. absurd (omega (arith, inside.1)); others = λ home off. refl })
