-- A domain with the change by which a fileset begins.
use Rattle.std.proofs.Common.{◌≡◌, ◌∙◌, ◌≤◌, ◌<◌, ◌∷◌, ◌==◌, ℕ, List, [], Option, Some, IfSome, length, slice_get, slice_set, refl, sym, ap, subst, arith, inl}
use Rattle.std.proofs.lemmas.Bool.{eqb-true, false_from_ne_true}
use Rattle.std.specs.FinMap.{insert}
use Rattle.std.specs.Option.{unwrap_or}
use Rattle.domain_memory.specs.domain_base.declared.place.CellAt.{CellAt}
use Rattle.domain_memory.specs.domain_base.declared.place.Home.{Home}
use Rattle.domain_memory.specs.domain_base.declared.place.Kind.TheVariants.{Directory}
use Rattle.domain_memory.specs.tag_dirs.declared.dir.TagPlace.{TagPlace}
use Rattle.domain_memory.specs.extent_maps.declared.run.PagePlace.TheVariants.{At}
use Rattle.domain_memory.specs.free_space.Spaces.{Spaces, kept_spaces}
use Rattle.domain_memory.proofs.OfFreeSpace.Kept.{kept-with_page}
use Rattle.domain_memory.specs.fileset_files.Creation.{Creates, LeavesBeside, new_file, root_tag, with_new}
use Rattle.domain_memory.specs.fileset_files.Files.{Chains}
use Rattle.domain_memory.specs.fileset_files.Together.{AreTogether}
use Rattle.domain_memory.specs.fileset_files.declared.bitfiles.Bitfiles.{Bitfiles}
use Rattle.domain_memory.specs.fileset_model.Filesets.{FilesetMap}
use Rattle.domain_memory.specs.fileset_table.Table.{Table, entry_of}
use Rattle.domain_memory.specs.fileset_table.declared.slot.FilesetEntry.{FilesetEntry}
use Rattle.domain_memory.specs.fileset_table.declared.slot.SlotItem.{SlotItem}
use Rattle.domain_memory.specs.fileset_table.declared.slot.SlotItem.TheVariants as slot
use Rattle.domain_memory.proofs.OfFilesetTable.Leaving.{get_other}
use Rattle.domain_memory.specs.quota_book.Book.{empty_book}
use Rattle.domain_memory.specs.release_list.Standing.{Files, place_in, with_file}
use Rattle.domain_memory.proofs.OfReleaseList.Spread.{some_same}
use Rattle.domain_memory.specs.release_steps.Calls.{FilesetNow, Makes, StandsWell, made, no_call, one_more}
use Rattle.domain_memory.proofs.OfReleaseSteps.SourcesStay.{sources_stay}
use Rattle.domain_memory.specs.staged_pages.Store.{pages_of}
use Rattle.domain_memory.specs.domain_standing.Chains.{IndexesAt}
use Rattle.domain_memory.specs.domain_standing.Domain.{DomainNow}
use Rattle.domain_memory.specs.domain_standing.Holders.Holder.{of_file}
use Rattle.domain_memory.specs.domain_standing.Sources.{StandAlone}
use Rattle.domain_memory.specs.domain_standing.Standing.{AreBooksOf, HaveParents, IsMarkedBut}
use Rattle.domain_memory.specs.Listing.{HaveOnce}
use Rattle.domain_memory.specs.Slots.{book_in, places_in, slot_in}
use Rattle.domain_memory.specs.standing_laws.Leads.{LeadsOn, StandsBelow, fileset_now}
use Rattle.domain_memory.specs.standing_laws.NewFileset.{JoinsEmpty, empty_slot, no_chains}
use Rattle.domain_memory.specs.standing_laws.SlotsStay.{PutsFileset}
use Rattle.domain_memory.proofs.OfStandingLaws.BegunDomain.{bits_made, domain_begun}
use Rattle.domain_memory.proofs.OfStandingLaws.BooksStay.{books_begun}
use Rattle.domain_memory.proofs.OfStandingLaws.FilesetBegins.{empty_begins, now_item}
use Rattle.domain_memory.proofs.OfStandingLaws.RootMade.{root_leads, root_made}
use Rattle.domain_memory.proofs.OfStandingLaws.RootParents.{parents_made}
use Rattle.domain_memory.proofs.OfStandingLaws.SourcesSaid.{alone_by_files, files_alone}
use Rattle.domain_memory.proofs.OfStandingLaws.TablesTaken.{page_stays}
use Rattle.domain_memory.specs.standing_laws.Sound.{IsSound, StandsSound}
use Rattle.domain_memory.proofs.OfStandingLaws.SoundCalled.{sound_called}
use Rattle.domain_memory.proofs.OfStandingLaws.SoundInPlace.{sound_begun}
use Rattle.domain_memory.specs.Staged.{IsStaged, staged_books, staged_in}
use Rattle.domain_memory.specs.declared.memory.DomainMemory.{DomainMemory}
use Rattle.domain_changes.specs.Beginning.{BeginsTags, MakesRoot, new_entry}
use Rattle.domain_changes.specs.Table.{PutsSlot}
use Rattle.domain_changes.proofs.KeptTaken.{one_kept}
use Rattle.domain_changes.proofs.SlotsSet.{slot_other, slot_set}
use Rattle.domain_changes.proofs.TableJoined.{joined as joined_as, joins as joins_as}

-- tags lead begun, put and made: old, mid, new, root; then the slot has the files
module _ (number prefer : ℕ) (name : List ℕ) (home : Home) (files files_now : Bitfiles) (old mid new root last : DomainMemory)
    (free_slot : slice_get old.table.slots number ≡ Some slot.Free)
    (begun : BeginsTags number home files old mid) (puts : PutsSlot number (slot.Original (new_entry name home)) mid new)
    (makes : MakesRoot files.fileset files.tags prefer new root) (same_root : root ≡ record new { pages = root.pages; space = root.space; cells = root.cells })
    (same_files : files_now ≡ files) (within : number < length old.slots.items)
    (slots : last.slots.items ≡ slice_set root.slots.items number (Some (record { files = files_now; book = record { book = empty_book; kept = empty_book }; tag_pages = 0 })))
    (same_last : last ≡ record root { slots = last.slots })
  where
    abbrev entry : FilesetEntry
    entry = new_entry name home

    abbrev d : DomainNow
    d = staged_in old

    -- the same as the last, by what changed
    abbrev end : DomainMemory
    end = record new { pages = root.pages; space = root.space; cells = root.cells; slots = last.slots }

    pub is_end : last ≡ end
    is_end = same_last ∙ ap (λ (m : DomainMemory). record m { slots = last.slots }) same_root

    abbrev now : DomainNow
    now = staged_in end

    abbrev joined : DomainNow
    joined = joined_as number name home files old mid new free_slot begun puts now.tags

    abbrev place : TagPlace
    place = record { index = 0; home = home }

    old_slots : root.slots.items ≡ old.slots.items
    old_slots = ap (λ (m : DomainMemory). m.slots.items) same_root ∙ ap (λ (m : DomainMemory). m.slots.items) puts.same ∙ ap (λ (m : DomainMemory). m.slots.items) begun.same

    slot_is : slot_in last.slots.items number ≡ Some (record { files = files_now; book = record { book = empty_book; kept = empty_book }; tag_pages = 0 })
    slot_is = ap (λ s. slot_in s number) slots ∙ slot_set root.slots.items number _ (subst (λ s. number < length s) (sym old_slots) within)

    slot_was : (n : ℕ) → ¬ n ≡ number → slot_in last.slots.items n ≡ slot_in old.slots.items n
    slot_was n differ = ap (λ s. slot_in s n) slots ∙ slot_other root.slots.items number n _ differ ∙ ap (λ s. slot_in s n) old_slots

    mine : now.tags number ≡ place ∷ []
    mine = ap places_in slot_is ∙ ap (λ (f : Bitfiles). f.tags) same_files ∙ begun.tags

    theirs : (n : ℕ) → ¬ n ≡ number → now.tags n ≡ d.tags n
    theirs n differ = ap places_in (slot_was n differ)

    mine_still : files.tags ≡ now.tags number
    mine_still = begun.tags ∙ sym mine

    kept_space : kept_spaces root.space ≡ kept_spaces old.space
    kept_space = (one_kept prefer new.space root.space new.cells root.cells (pages_of new.pages) makes.taken).spaces
        ∙ ap kept_spaces (ap (λ (m : DomainMemory). m.space) puts.same ∙ begun.space) ∙ kept-with_page home.page old.space home.vol

    module _ (of : Files) (indexes : IndexesAt) (below : StandsBelow d of indexes) where
      joins : JoinsEmpty number entry d joined
      joins = joins_as number name home files old mid new free_slot begun puts of indexes below now.tags mine theirs

      begins : StandsBelow joined of indexes × StandsWell number (fileset_now joined number no_chains of)
      begins = empty_begins number entry d joined of indexes below joins

      abbrev CreatesIn : ℕ → List TagPlace → Type 0
      CreatesIn n ps = Creates n ps root_tag new.frame.version (new_file Directory 0 0 new.table.made) no_chains root.space new.cells root.cells (pages_of new.pages) (pages_of root.pages)

      abbrev TogetherIn : ℕ → List TagPlace → Type 0
      TogetherIn n ps = AreTogether n ps new.space new.cells (pages_of new.pages) no_chains

      was_together : TogetherIn files.fileset files.tags
      was_together = subst (λ (n : ℕ). TogetherIn n files.tags) (sym begun.of_slot) (subst (TogetherIn number) (sym mine_still) begins.1.together)

      creates : CreatesIn number (now.tags number)
      creates = subst (CreatesIn number) mine_still (subst (λ (n : ℕ). CreatesIn n files.tags) begun.of_slot (makes.creates was_together))

      abbrev chains_now : Chains
      chains_now = with_new root_tag (creates.first ∷ []) no_chains

      abbrev files_then : Files
      files_then = with_file creates.first.at (Some (creates.first ∷ [])) of

      abbrev was : FilesetNow
      was = fileset_now joined number no_chains of

      abbrev is : FilesetNow
      is = fileset_now now number chains_now files_then

      abbrev root_makes : Makes number joined.frame.version root_tag was is
      root_makes = record {
        what = new_file Directory 0 0 new.table.made;
        creates = creates;
        prefer = prefer;
        taken = inl (record { same = refl; cell = makes.taken });
        others = makes.others;
        elsewhere = subst (λ (ps : List TagPlace). LeavesBeside root.cells ps (pages_of new.pages) (pages_of root.pages)) mine_still makes.elsewhere;
        chains = refl;
        list = refl;
        files = refl;
      }

      early : new.table.made ≤ new.table.made
      early = omega arith

      after : StandsBelow now files_then indexes
      after = root_made number entry d joined now chains_now of files_then indexes below joins root_makes early refl refl (λ other differ. refl)

      leads : LeadsOn number root_tag joined now no_chains chains_now of files_then
      leads = root_leads number entry d joined now chains_now of files_then indexes below joins root_makes early refl refl (λ other differ. refl)

      bytes : (h : Home) → joined.pages h ≡ d.pages h → joined.contents h ≡ d.contents h
      bytes h same = ap (λ (o : Option (List ℕ)). unwrap_or o []) same

      stay : (at : CellAt) (page : ℕ) (h : Home) → place_in of at page ≡ At h → joined.contents h ≡ now.contents h
      stay at page h there = sym (ap (λ (o : Option (List ℕ)). unwrap_or o [])
          (page_stays number root_tag joined now no_chains chains_now of files_then indexes begins.0 leads (of_file at page) h there (λ e. cc) (λ e. cc)))

      alone_then : StandAlone d → StandAlone now
      alone_then alone = alone_by_files now files_then indexes after
          (λ at. sources_stay number joined.frame.version root_tag was is (one_more was is no_call (made root_makes)) begins.1 at ∙ files_alone d of indexes below alone at)

      sound_then : StandsSound d of indexes → IsSound now
      sound_then sound = record {
        files = files_then;
        indexes = indexes;
        below = after;
        sound = sound_called number root_tag joined now no_chains chains_now of files_then indexes begins.0 (sound_begun number entry d joined of indexes below sound joins) leads;
      }

      puts_it : PutsFileset number entry d now
      puts_it = record {
        has = now_item number entry d joined of indexes below joins;
        had = λ item at. subst (λ (x : SlotItem). IfSome (entry_of x) (λ (had : FilesetEntry). had.name ≡ entry.name)) (some_same slot.Free item (sym free_slot ∙ at)) tt;
        others = λ other differ. ap (λ (t : Table). slice_get t.slots other) joins.table ∙ get_other d.table.slots number other (slot.Original entry) (false_from_ne_true (other == number) (λ same. differ (eqb-true other number same)));
      }

    module _ (all : FilesetMap) (staged : IsStaged old all) where
      below : StandsBelow d staged.stands.files staged.stands.indexes
      below = record { tables = staged.stands.tables; chains = staged.stands.chains; owned = staged.stands.owned; rest = staged.stands.rest }

      abbrev of : Files
      of = staged.stands.files

      abbrev indexes : IndexesAt
      indexes = staged.stands.indexes

      end_staged : IsStaged end (insert all name empty_slot)
      end_staged = record {
        stands = domain_begun number entry d joined now (chains_now of indexes below) (files_then of indexes below) all staged.stands (joins of indexes below) (root_makes of indexes below) (early of indexes below) refl refl (λ other differ. refl) (refl, refl, refl) (refl, refl)
            (bytes of indexes below) (stay of indexes below);
        alone = alone_then of indexes below staged.alone;
        sound = sound_then staged.sound.files staged.sound.indexes staged.sound.below staged.sound.sound;
        marked = subst (λ (s : Spaces). IsMarkedBut (record now { space = s })) (sym kept_space)
            (bits_made number entry d joined now (chains_now of indexes below) of (files_then of indexes below) indexes below (joins of indexes below) (root_makes of indexes below) (early of indexes below) refl refl (λ other differ. refl) (kept_spaces old.space) staged.marked);
        once = subst (λ (m : DomainMemory). HaveOnce m.list.list.entries) (sym (puts.same ∙ ap (λ (m : DomainMemory). record m { pages = new.pages; table = new.table; was = new.was }) begun.same)) staged.once;
        room = subst (λ (m : DomainMemory). length m.listed.items ≤ m.list.room) (sym (puts.same ∙ ap (λ (m : DomainMemory). record m { pages = new.pages; table = new.table; was = new.was }) begun.same)) staged.room;
      }

      pub last_staged : IsStaged last (insert all name empty_slot)
      last_staged = subst (λ (m : DomainMemory). IsStaged m (insert all name empty_slot)) (sym is_end) end_staged

      pub last_parents : HaveParents d → HaveParents (staged_in last)
      last_parents parents = subst (λ (m : DomainMemory). HaveParents (staged_in m)) (sym is_end)
          (parents_made number entry d joined now (chains_now of indexes below) of (files_then of indexes below) indexes all below staged.stands.slots (joins of indexes below) (root_makes of indexes below) (early of indexes below) refl refl (λ other differ. refl) refl
          (bytes of indexes below) parents)

      pub last_books : AreBooksOf (staged_books old) d all → AreBooksOf (staged_books last) (staged_in last) (insert all name empty_slot)
      last_books are = subst (λ (m : DomainMemory). AreBooksOf (staged_books m) (staged_in m) (insert all name empty_slot)) (sym is_end)
          (books_begun number entry d now (after of indexes below).tables (puts_it of indexes below) (staged_books old) (staged_books end) (λ n differ. ap book_in (slot_was n differ)) (ap book_in slot_is) all are)
