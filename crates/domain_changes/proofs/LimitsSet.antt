-- A domain with the change by which the limits of a user or a group are set.
use Rattle.std.proofs.Common.{◌≡◌, ◌∙◌, ℕ, List, [], Option, Some, None, IsSomeAnd, Contains, length, refl, sym, ap, subst, arith, ⊎_elim}
use Rattle.std.specs.FinMap.{get}
use Rattle.std.specs.Option.{option_and_then, unwrap_or}
use Rattle.domain_memory.specs.domain_base.declared.place.CellAt.{CellAt}
use Rattle.domain_memory.specs.domain_base.declared.place.Home.{Home}
use Rattle.domain_memory.specs.page_store.Pages.{Pages}
use Rattle.domain_memory.specs.metadata_cells.Chain.{PlacedCell}
use Rattle.domain_memory.specs.free_cells.Cells.{Cells, is_closed, kept_of, table_of}
use Rattle.domain_memory.specs.free_space.Spaces.{Spaces, kept_spaces}
use Rattle.domain_memory.specs.fileset_model.Filesets.{FilesetMap}
use Rattle.domain_memory.specs.fileset_values.declared.command.Owner.{Owner}
use Rattle.domain_memory.specs.fileset_values.declared.command.Owner.TheVariants as owner
use Rattle.domain_memory.specs.fileset_model.declared.fileset.FilesetSlot.{FilesetSlot}
use Rattle.domain_memory.specs.fileset_model.declared.fileset.Limits.{Limits}
use Rattle.domain_memory.specs.fileset_table.Page.{IsTablePage}
use Rattle.domain_memory.specs.fileset_table.Table.{with_slot}
use Rattle.domain_memory.specs.fileset_table.declared.slot.FilesetEntry.{FilesetEntry}
use Rattle.domain_memory.specs.fileset_table.declared.slot.SlotItem.TheVariants as slot
use Rattle.domain_memory.specs.quota_book.QuotaCells.{touched}
use Rattle.domain_memory.specs.release_steps.QuotaChain.{IsQuotaChain, SetsLimits, TakesIfUntouched, said_in}
use Rattle.domain_memory.specs.release_steps.Setting.{IsChainIn, SetsIn}
use Rattle.domain_memory.proofs.OfReleaseSteps.PagesWritten.{still_set, still_starts}
use Rattle.domain_memory.specs.release_list.Standing.{Files, with_file}
use Rattle.domain_memory.specs.release_list.Steps.{Now}
use Rattle.domain_memory.specs.domain_layout.TagRules.{quota_of}
use Rattle.domain_memory.specs.domain_layout.Agreeing.{AgreeOn}
use Rattle.domain_memory.proofs.OfDomainLayout.Reached.{member_or_none}
use Rattle.domain_memory.specs.log_ring.Homes.{IsMember}
use Rattle.domain_memory.specs.staged_pages.Store.{pages_of}
use Rattle.domain_memory.specs.domain_standing.Chains.{AreQuotasOf, IndexesAt}
use Rattle.domain_memory.specs.domain_standing.Domain.{DomainNow, all_of}
use Rattle.domain_memory.specs.domain_standing.Holders.Holder.{of_cells, of_file, of_table}
use Rattle.domain_memory.specs.domain_standing.Standing.{IsMarkedBut}
use Rattle.domain_memory.specs.standing_laws.Leads.{StandsBelow}
use Rattle.domain_memory.specs.standing_laws.SetsQuota.{SetsQuota, entry_limited}
use Rattle.domain_memory.proofs.OfStandingLaws.BooksStay.{books_limited}
use Rattle.domain_memory.proofs.OfStandingLaws.HeldSpaces.{one_new}
use Rattle.domain_memory.proofs.OfStandingLaws.QuotaAlone.{alone_limited}
use Rattle.domain_memory.proofs.OfStandingLaws.QuotaBeside.{bits_limited, parents_limited}
use Rattle.domain_memory.proofs.OfStandingLaws.QuotaChains.{chains_stand}
use Rattle.domain_memory.proofs.OfStandingLaws.QuotaDomain.{domain_limited}
use Rattle.domain_memory.proofs.OfStandingLaws.QuotaHeld.{owned_still}
use Rattle.domain_memory.proofs.OfStandingLaws.QuotaRest.{rest_stands}
use Rattle.domain_memory.proofs.OfStandingLaws.QuotaSlots.{page_stays}
use Rattle.domain_memory.proofs.OfStandingLaws.QuotaTables.{tables_stand}
use Rattle.domain_memory.proofs.OfStandingLaws.SlotsKept.{agree}
use Rattle.domain_memory.proofs.OfStandingLaws.TablesTaken.{low_table, unheld_taken}
use Rattle.domain_memory.specs.standing_laws.Sound.{IsSound, StandsSound}
use Rattle.domain_memory.proofs.OfStandingLaws.SoundLimited.{sound_limited}
use Rattle.domain_memory.specs.Staged.{IsStaged, staged_books, staged_in}
use Rattle.domain_memory.specs.declared.memory.DomainMemory.{DomainMemory}
use Rattle.domain_changes.specs.Limits.{SetsInChain}
use Rattle.domain_changes.specs.Table.{HasOriginal, PutsSlot}
use Rattle.domain_changes.proofs.KeptTaken.{KeptOver, one_kept}
use Rattle.domain_changes.proofs.Limited.{IsLimited}

-- if no cell is taken nothing that was kept changes, nor if one is
pub untouched_kept : (o : Option ℕ) (prefer : ℕ) (space space_now : Spaces) (cells cells_now : Cells) (old : Pages) → TakesIfUntouched o prefer space space_now cells cells_now old → KeptOver space space_now cells cells_now
untouched_kept None prefer space space_now cells cells_now old takes = one_kept prefer space space_now cells cells_now old takes
untouched_kept (Some k) prefer space space_now cells cells_now old same = record {
  spaces = ap kept_spaces same.0;
  tables = λ vol. ap (λ (c : Cells). kept_of c vol) same.1;
  marks = λ vol. ap (λ (c : Cells). is_closed c vol) same.1;
}

-- the chain that a slot names is one of the domain's
pub record ChainOf (d : DomainNow) (files : Files) (quota : Option CellAt) : Type 0 where
  pub chain : List PlacedCell
  pub is : IsQuotaChain d.pages quota chain
  pub among : IsChainIn files quota chain

module _ (number prefer : ℕ) (who : Owner) (limits : Limits) (entry : FilesetEntry) (start : CellAt) (old mid new : DomainMemory) (named : ¬ who ≡ owner.Fileset) (has : HasOriginal old number entry)
    (sets : SetsInChain number prefer who limits entry start old mid) (puts : PutsSlot number (slot.Original (entry_limited start entry)) mid new)
  where
    abbrev d : DomainNow
    d = staged_in old

    abbrev end : DomainMemory
    end = record old { pages = new.pages; space = mid.space; cells = mid.cells; table = new.table; was = new.was }

    pub is_end : new ≡ end
    is_end = puts.same ∙ ap (λ (m : DomainMemory). record m { pages = new.pages; table = new.table; was = new.was }) sets.same

    abbrev now : DomainNow
    now = staged_in end

    same_anchor : mid.frame.anchor.table ≡ old.frame.anchor.table
    same_anchor = ap (λ (m : DomainMemory). m.frame.anchor.table) sets.same

    module _ (all : FilesetMap) (staged : IsStaged old all) where
      abbrev of : Files
      of = staged.stands.files

      abbrev indexes : IndexesAt
      indexes = staged.stands.indexes

      below : StandsBelow d of indexes
      below = record { tables = staged.stands.tables; chains = staged.stands.chains; owned = staged.stands.owned; rest = staged.stands.rest }

      found : ChainOf d of entry.quota
      found = by_first entry.quota refl
        where
          in_files : (at : CellAt) (o : Option (List PlacedCell)) → of at ≡ o → IsSomeAnd o (AreQuotasOf d number at) → ChainOf d of (Some at)
          in_files at None none are = absurd are
          in_files at (Some cs) some are = record { chain = cs; is = are.quotas; among = some }

          by_first : (o : Option CellAt) → entry.quota ≡ o → ChainOf d of o
          by_first None none = record { chain = []; is = refl; among = refl }
          by_first (Some at) is = in_files at (of at) refl (below.chains.quotas number at (ap (option_and_then quota_of) has ∙ is))

      abbrev chain : List PlacedCell
      chain = found.chain

      abbrev then_sets : SetsLimits number who limits start chain old.cells mid.cells (pages_of old.pages) (pages_of mid.pages)
      then_sets = sets.sets chain found.is

      abbrev files_now : Files
      files_now = with_file start (Some then_sets.after) of

      abbrev was_now : Now
      was_now = all_of d of

      abbrev mid_now : Now
      mid_now = record { list = d.list; files = files_now; space = mid.space; cells = mid.cells; pages = pages_of mid.pages }

      abbrev sets_mid : SetsIn number prefer who limits entry.quota was_now mid_now
      sets_mid = record {
        chain = chain;
        is = found.is;
        among = found.among;
        start = start;
        begins = sets.begins;
        sets = then_sets;
        taken = sets.taken chain found.is;
        others = sets.others chain found.is;
        allocated = sets.allocated;
        files = refl;
        list = refl;
      }

      -- the page of the table comes to be none of cells
      member_of_table : (vol p : ℕ) → Contains (table_of d.cells vol) p → IsMember d.frame.anchor vol
      member_of_table vol p on = ⊎_elim
          (λ member. member)
          (λ none. let e : length (table_of d.cells vol) ≡ 0 = ap length (below.tables.cells.others vol none) in absurd (omega (arith, e, on.1)))
          (member_or_none d.frame.anchor vol)

      off_table : (home : Home) → d.frame.anchor.table ≡ Some home → ¬ Contains (table_of mid.cells home.vol) home.page
      off_table home held on = by_touched (touched (said_in chain) who) (sets.taken chain found.is)
        where
          of_one : of_table ≡ of_cells → ⊥
          of_one e = cc

          on_cells : Contains (table_of d.cells home.vol) home.page → ⊥
          on_cells was = of_one (below.owned.once home of_table of_cells held (member_of_table home.vol home.page was, was))

          by_touched : (o : Option ℕ) → TakesIfUntouched o prefer d.space mid.space d.cells mid.cells d.pages → ⊥
          by_touched (Some k) same = on_cells (subst (λ (c : Cells). Contains (table_of c home.vol) home.page) same.1 on)
          by_touched None one = ⊎_elim on_cells
              (λ can. unheld_taken d of indexes below.owned home (low_table mid.cells home.vol home.page on) can of_table held)
              (one_new prefer d.space mid.space d.cells mid.cells d.pages one home.vol home.page on)

      cells_stay : (home : Home) → Contains (table_of mid.cells home.vol) home.page → pages_of new.pages home ≡ pages_of mid.pages home
      cells_stay home on = puts.others home (λ is. off_table home (sym same_anchor ∙ is) on)

      abbrev sets_now : SetsIn number prefer who limits entry.quota was_now (all_of now files_now)
      sets_now = still_set number prefer who limits entry.quota was_now mid_now (pages_of new.pages) sets_mid cells_stay

      starts_so : sets_now.start ≡ start
      starts_so = still_starts number prefer who limits entry.quota was_now mid_now (pages_of new.pages) sets_mid cells_stay

      says_now : IsSomeAnd d.frame.anchor.table (λ home. IsSomeAnd (now.pages home) (λ page. IsTablePage page now.table))
      says_now = by_home d.frame.anchor.table refl below.tables.laid.table
        where
          by_home : (o : Option Home) → d.frame.anchor.table ≡ o → IsSomeAnd o (λ home. IsSomeAnd (d.pages home) (λ page. IsTablePage page d.table)) → IsSomeAnd o (λ home. IsSomeAnd (now.pages home) (λ page. IsTablePage page now.table))
          by_home None at is = absurd is
          by_home (Some home) at is = puts.says home (same_anchor ∙ at)

      table_then : now.table ≡ with_slot number (slot.Original (record entry { quota = Some sets_now.start })) d.table
      table_then = puts.table ∙ ap (λ (m : DomainMemory). with_slot number (slot.Original (entry_limited start entry)) m.table) sets.same ∙ ap (λ (at : CellAt). with_slot number (slot.Original (entry_limited at entry)) d.table) (sym starts_so)

      abbrev quota : SetsQuota number d now of files_now
      quota = record {
        entry = entry;
        original = has;
        prefer = prefer;
        who = who;
        limits = limits;
        named = named;
        sets = sets_now;
        table = table_then;
        says = says_now;
        elsewhere = λ home off not_table. puts.others home (λ is. not_table (sym same_anchor ∙ is)) ∙ sets.elsewhere home off;
        frame = refl;
        tags = refl;
      }

      after : StandsBelow now files_now indexes
      after = record {
        tables = tables_stand number d now of files_now indexes below quota;
        chains = chains_stand number d now of files_now indexes below quota;
        owned = owned_still number d now of files_now indexes below quota;
        rest = rest_stands number d now of files_now indexes below quota;
      }

      sound_then : StandsSound d of indexes → IsSound now
      sound_then sound = record {
        files = files_now;
        indexes = indexes;
        below = after;
        sound = sound_limited number d now of files_now indexes below sound quota;
      }

      agreed : AgreeOn d.contents now.contents staged.stands.slots.shapes
      agreed = agree d of indexes below d.pages now.contents (λ holder home is held. refl)
          (λ at page home held. ap (λ (o : Option (List ℕ)). unwrap_or o []) (page_stays number d now of files_now indexes below quota (of_file at page) home held (λ e. cc) (λ e. cc))) all staged.stands.slots

      kept_space : kept_spaces mid.space ≡ kept_spaces old.space
      kept_space = (untouched_kept (touched (said_in chain) who) prefer old.space mid.space old.cells mid.cells (pages_of old.pages) (sets.taken chain found.is)).spaces

      module _ (fileset : FilesetSlot) (there : get all entry.name ≡ Some fileset) (sound : IsSound now) where
        end_limited : IsLimited number who limits entry all fileset old end
        end_limited = record {
          staged = record {
            stands = domain_limited number d now files_now all staged.stands quota agreed fileset there;
            alone = alone_limited number d now of files_now indexes below after quota staged.alone;
            sound = sound;
            marked = subst (λ (s : Spaces). IsMarkedBut (record now { space = s })) (sym kept_space) (bits_limited number d now of files_now indexes below quota (kept_spaces old.space) staged.marked);
            once = staged.once;
            room = staged.room;
          };
          parents = parents_limited number d now of files_now indexes below quota all staged.stands.slots;
          books = λ books others limited are. books_limited number d now of files_now indexes below after.tables quota (staged_books old) books others limited all fileset there are;
        }

        set_by : IsLimited number who limits entry all fileset old new
        set_by = subst (IsLimited number who limits entry all fileset old) (sym is_end) end_limited

    -- as rules of pages ask it is with the files and indexes with which it was so
    pub set_so : (all : FilesetMap) → IsStaged old all → (fileset : FilesetSlot) → get all entry.name ≡ Some fileset → IsLimited number who limits entry all fileset old new
    set_so all staged fileset there =
        let is = staged.sound in
        let so : IsStaged old all = record staged { stands = record staged.stands { files = is.files; indexes = is.indexes; tables = is.below.tables; chains = is.below.chains; owned = is.below.owned; rest = is.below.rest } } in
        set_by all staged fileset there (sound_then all so is.sound)
