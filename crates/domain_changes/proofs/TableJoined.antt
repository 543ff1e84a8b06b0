-- An original joins a domain's table with a new tag directory: what is asked for its root to be made.
use Rattle.std.proofs.Common.{◌≡◌, ◌∙◌, ◌<◌, ◌∷◌, ◌==◌, ℕ, Bool, cond, List, [], Some, IsSomeAnd, slice_get, refl, sym, ap, subst}
use Rattle.std.proofs.Math.Logic.{∥∥₁_map}
use Rattle.std.proofs.lemmas.Bool.{eq-eqb, eqb-true, false_from_ne_true}
use Rattle.std.specs.List.{IsDistinct-prop}
use Rattle.domain_memory.specs.domain_base.declared.place.CellAt.{CellAt}
use Rattle.domain_memory.specs.domain_base.declared.place.Home.{Home}
use Rattle.domain_memory.specs.page_store.Pages.{Pages}
use Rattle.domain_memory.specs.tag_dirs.TagPage.{IsNewPage}
use Rattle.domain_memory.specs.tag_dirs.declared.dir.TagPlace.{TagPlace}
use Rattle.domain_memory.specs.fileset_files.Creation.{IsNewDirectory}
use Rattle.domain_memory.specs.fileset_files.Together.{AreTogether}
use Rattle.domain_memory.specs.fileset_files.declared.bitfiles.Bitfiles.{Bitfiles}
use Rattle.domain_memory.specs.fileset_table.Table.{IsAllowed, IsTable, Table, share_name, share_original, with_slot}
use Rattle.domain_memory.specs.fileset_table.declared.slot.FilesetEntry.{FilesetEntry}
use Rattle.domain_memory.specs.fileset_table.declared.slot.SlotItem.{SlotItem}
use Rattle.domain_memory.specs.fileset_table.declared.slot.SlotItem.TheVariants as slot
use Rattle.domain_memory.proofs.OfStoredSet.Stable.{IsStable, all, both, if_some, less, not, one_bool, one_number, prop, unit}
use Rattle.domain_memory.proofs.OfStoredSet.StableFiles.{together}
use Rattle.domain_memory.specs.release_list.Standing.{Files}
use Rattle.domain_memory.specs.staged_pages.Store.{pages_of}
use Rattle.domain_memory.specs.domain_standing.Chains.{IndexesAt}
use Rattle.domain_memory.specs.domain_standing.Domain.{DomainNow}
use Rattle.domain_memory.specs.domain_standing.Holders.Holder.{of_table}
use Rattle.domain_memory.specs.Listing.{list_with}
use Rattle.domain_memory.specs.page_ways.Frame.{frame_in}
use Rattle.domain_memory.specs.standing_laws.Leads.{StandsBelow}
use Rattle.domain_memory.specs.standing_laws.NewFileset.{JoinsEmpty, no_chains}
use Rattle.domain_memory.proofs.OfStandingLaws.FilesetBegins.{empty_begins}
use Rattle.domain_memory.proofs.OfStandingLaws.TablesTaken.{unheld_taken}
use Rattle.domain_memory.specs.Staged.{IsStagedForSome, staged_in}
use Rattle.domain_memory.specs.declared.memory.DomainMemory.{DomainMemory}
use Rattle.domain_memory.proofs.GoingBack.{table_is}
use Rattle.domain_changes.specs.Beginning.{BeginsTags, new_entry}
use Rattle.domain_changes.specs.Table.{PutsSlot}

-- ---- the first page of a new tag directory

abbrev first_home : Home → List TagPlace → Home
first_home home [] = home
first_home home (p ∷ ps) = p.home

pub fresh_page : (pages : Pages) (home : Home) → IsNewDirectory pages (record { index = 0; home = home } ∷ []) → IsSomeAnd (pages home) (IsNewPage 0)
fresh_page pages home is = subst (λ (h : Home). IsSomeAnd (pages h) (IsNewPage 0)) (sym (ap (first_home home) is.one)) is.page

-- ---- it is enough to know that a table is one

allowed : (item : SlotItem) → IsStable (IsAllowed item)
allowed slot.Free = unit
allowed (slot.Original entry) = both (one_bool _ _) (if_some (λ (at : CellAt). at.cell < 28) (λ at. less _ _) entry.quota)
allowed (slot.Clone original number entry) = both (one_bool _ _) (if_some (λ (at : CellAt). at.cell < 28) (λ at. less _ _) entry.quota)
allowed (slot.Removed first_tag quota) = if_some (λ (at : CellAt). at.cell < 28) (λ at. less _ _) quota

table_good : (table : Table) → IsStable (IsTable table)
table_good table t = record {
  whole = one_number _ _ (∥∥₁_map t (λ x. x.whole));
  allowed = all IsAllowed allowed table.slots (∥∥₁_map t (λ x. x.allowed));
  together = record {
    few = less _ _ (∥∥₁_map t (λ x. x.together.few));
    names = prop (IsDistinct-prop share_name table.slots) (∥∥₁_map t (λ x. x.together.names));
    originals = one_bool _ _ (∥∥₁_map t (λ x. x.together.originals));
    clones = prop (IsDistinct-prop share_original table.slots) (∥∥₁_map t (λ x. x.together.clones));
  };
  count = less _ _ (∥∥₁_map t (λ x. x.count));
}

pub asks_table : (memory : DomainMemory) → ∥ IsStagedForSome memory ∥₁ → IsTable memory.table
asks_table memory staged = table_good memory.table (∥∥₁_map staged (λ s. table_is (staged_in memory) s.0 s.1.stands))

-- ---- tags of slots, one of which has others

abbrev pub with_tags : ℕ → List TagPlace → (ℕ → List TagPlace) → ℕ → List TagPlace
with_tags number places tags n = cond (n == number) places (tags n)

tags_here : (number : ℕ) (places : List TagPlace) (tags : ℕ → List TagPlace) → with_tags number places tags number ≡ places
tags_here number places tags = ap (λ (b : Bool). cond b places (tags number)) (eq-eqb number number refl)

tags_other : (number : ℕ) (places : List TagPlace) (tags : ℕ → List TagPlace) (n : ℕ) → ¬ n ≡ number → with_tags number places tags n ≡ tags n
tags_other number places tags n differ = ap (λ (b : Bool). cond b places (tags n)) (false_from_ne_true (n == number) (λ same. differ (eqb-true n number same)))

pub below_of : (memory : DomainMemory) (s : IsStagedForSome memory) → StandsBelow (staged_in memory) s.1.stands.files s.1.stands.indexes
below_of memory s = record { tables = s.1.stands.tables; chains = s.1.stands.chains; owned = s.1.stands.owned; rest = s.1.stands.rest }

module _ (number : ℕ) (name : List ℕ) (home : Home) (files : Bitfiles) (old mid new : DomainMemory) (free_slot : slice_get old.table.slots number ≡ Some slot.Free) (begun : BeginsTags number home files old mid)
    (puts : PutsSlot number (slot.Original (new_entry name home)) mid new)
  where
    abbrev pub entry : FilesetEntry
    entry = new_entry name home

    abbrev pub place : TagPlace
    place = record { index = 0; home = home }

    abbrev d : DomainNow
    d = staged_in old

    abbrev pub joined : (ℕ → List TagPlace) → DomainNow
    joined tags = record (staged_in new) { tags = tags }

    same_anchor : mid.frame.anchor.table ≡ old.frame.anchor.table
    same_anchor = ap (λ (m : DomainMemory). m.frame.anchor.table) begun.same

    module _ (of : Files) (indexes : IndexesAt) (below : StandsBelow d of indexes) where
      -- the page of the table was not free
      pub apart : ¬ old.frame.anchor.table ≡ Some home
      apart is = unheld_taken d of indexes below.owned home begun.low begun.free of_table is

      fresh_there : IsSomeAnd (pages_of new.pages home) (IsNewPage 0)
      fresh_there = subst (λ o. IsSomeAnd o (IsNewPage 0)) (sym (puts.others home (λ is. apart (sym same_anchor ∙ is)))) begun.fresh

      pub joins : (tags : ℕ → List TagPlace) → tags number ≡ place ∷ [] → ((n : ℕ) → ¬ n ≡ number → tags n ≡ d.tags n) → JoinsEmpty number entry d (joined tags)
      joins tags mine theirs = record {
        free_slot = free_slot;
        no_quota = refl;
        table = puts.table ∙ ap (λ (m : DomainMemory). with_slot number (slot.Original entry) m.table) begun.same;
        low = begun.low;
        free = begun.free;
        taken = ap (λ (m : DomainMemory). m.space) puts.same ∙ begun.space;
        tags = mine;
        other_tags = theirs;
        fresh = fresh_there;
        says = λ h is. puts.says h (same_anchor ∙ is);
        others = λ h off differs. puts.others h (λ is. off (sym same_anchor ∙ is)) ∙ begun.others h differs;
        frame = ap (λ (m : DomainMemory). frame_in m.frame) puts.same ∙ ap (λ (m : DomainMemory). frame_in m.frame) begun.same;
        cells = ap (λ (m : DomainMemory). m.cells) puts.same ∙ ap (λ (m : DomainMemory). m.cells) begun.same;
        list = ap (λ (m : DomainMemory). list_with m.listed.items m.list.list) puts.same ∙ ap (λ (m : DomainMemory). list_with m.listed.items m.list.list) begun.same;
      }

    module _ (staged : ∥ IsStagedForSome old ∥₁) where
      abbrev tags_now : ℕ → List TagPlace
      tags_now = with_tags number (place ∷ []) d.tags

      pub asks_together : AreTogether number (place ∷ []) new.space new.cells (pages_of new.pages) no_chains
      asks_together = together number (place ∷ []) new.space new.cells (pages_of new.pages) no_chains
          (∥∥₁_map staged (λ s.
          let below = below_of old s in
          let join = joins s.1.stands.files s.1.stands.indexes below tags_now (tags_here number (place ∷ []) d.tags) (tags_other number (place ∷ []) d.tags) in
          subst (λ (ps : List TagPlace). AreTogether number ps new.space new.cells (pages_of new.pages) no_chains) (tags_here number (place ∷ []) d.tags)
          (empty_begins number entry d (joined tags_now) s.1.stands.files s.1.stands.indexes below join).1.together))

      not_table : ¬ old.frame.anchor.table ≡ Some home
      not_table = not (∥∥₁_map staged (λ s. apart s.1.stands.files s.1.stands.indexes (below_of old s)))

      pub asks_fresh : IsNewDirectory (pages_of new.pages) files.tags
      asks_fresh = record {
        home = home;
        one = begun.tags;
        page = subst (λ o. IsSomeAnd o (IsNewPage 0)) (sym (puts.others home (λ is. not_table (sym same_anchor ∙ is)))) begun.fresh;
      }
