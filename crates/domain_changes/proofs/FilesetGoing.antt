-- A domain with the change by which a fileset begins to be removed.
use Rattle.std.proofs.Common.{◌≡◌, ◌∙◌, ◌≤◌, ℕ, Result, OnOk, List, [], Option, Some, None, Contains, length, sym, ap, subst}
use Rattle.std.specs.FinMap.{remove}
use Rattle.std.specs.Option.{unwrap_or}
use Rattle.domain_memory.specs.domain_base.declared.place.Home.{Home}
use Rattle.domain_memory.specs.free_cells.Cells.{table_of}
use Rattle.domain_memory.specs.free_space.Spaces.{Spaces, kept_spaces}
use Rattle.domain_memory.specs.fileset_model.Filesets.{FilesetMap}
use Rattle.domain_memory.specs.fileset_table.declared.slot.FilesetEntry.{FilesetEntry}
use Rattle.domain_memory.specs.fileset_table.declared.slot.SlotItem.TheVariants as slot
use Rattle.domain_memory.specs.quota_book.Book.{Book}
use Rattle.domain_memory.specs.log_ring.Homes.{IsMember}
use Rattle.domain_memory.specs.domain_standing.Domain.{DomainNow}
use Rattle.domain_memory.specs.domain_standing.Holders.Holder.{of_cells, of_table}
use Rattle.domain_memory.specs.domain_standing.Sources.{StandAlone}
use Rattle.domain_memory.specs.domain_standing.Standing.{AreBooksOf, HaveParents, IsMarkedBut}
use Rattle.domain_memory.proofs.OfDomainStanding.SourcesStay.{sources_stay}
use Rattle.domain_memory.specs.Listing.{HaveOnce}
use Rattle.domain_memory.specs.standing_laws.GoingFileset.{BeginsToGo}
use Rattle.domain_memory.specs.standing_laws.Leads.{StandsBelow}
use Rattle.domain_memory.proofs.OfStandingLaws.BitsStay.{bits_went}
use Rattle.domain_memory.proofs.OfStandingLaws.FilesetGoes.{books_went, domain_went, went}
use Rattle.domain_memory.proofs.OfStandingLaws.ParentsBegin.{parents_went}
use Rattle.domain_memory.specs.standing_laws.Sound.{IsSound}
use Rattle.domain_memory.proofs.OfStandingLaws.SoundInPlace.{sound_going}
use Rattle.domain_memory.specs.Staged.{IsStaged, staged_books, staged_in}
use Rattle.domain_memory.specs.declared.memory.DomainMemory.{DomainMemory}
use Rattle.domain_changes.specs.Table.{HasOriginal, PutsSlot}
use Rattle.domain_changes.proofs.SlotPut.{on_ok, one_entry, staged_put}

module _ (number : ℕ) (entry : FilesetEntry) (old new : DomainMemory) (fresh : old.was ≡ None) (has : HasOriginal old number entry)
    (puts : PutsSlot number (slot.Removed (Some entry.first_tag) entry.quota) old new) (all : FilesetMap) (is : IsStaged old all) where
  abbrev d : DomainNow
  d = staged_in old

  abbrev now : DomainNow
  now = staged_in new

  begins : BeginsToGo number entry d now
  begins = record {
    was = has;
    table = puts.table;
    says = puts.says;
    others = puts.others;
    same = staged_put number (slot.Removed (Some entry.first_tag) entry.quota) old new fresh puts;
  }

  bytes : (home : Home) → now.pages home ≡ d.pages home → now.contents home ≡ d.contents home
  bytes home same = ap (λ (o : Option (List ℕ)). unwrap_or o []) same

  below : StandsBelow d is.stands.files is.stands.indexes
  below = record { tables = is.stands.tables; chains = is.stands.chains; owned = is.stands.owned; rest = is.stands.rest }

  anchor_same : now.frame.anchor ≡ d.frame.anchor
  anchor_same = ap (λ (x : DomainNow). x.frame.anchor) begins.same

  -- pages of cells stay, as the table's is none
  cells_same : (home : Home) → IsMember d.frame.anchor home.vol → Contains (table_of d.cells home.vol) home.page → now.pages home ≡ d.pages home
  cells_same home member on = puts.others home (λ at. of_one (below.owned.once home of_table of_cells at (member, on)))
    where
      of_one : of_table ≡ of_cells → ⊥
      of_one e = cc

  alone_still : StandAlone now
  alone_still = sources_stay d now anchor_same (λ vol member. ap (λ (x : DomainNow). table_of x.cells vol) begins.same) cells_same is.alone

  sound_still : IsSound now
  sound_still = record {
    files = is.sound.files;
    indexes = is.sound.indexes;
    below = went number entry d now is.sound.files is.sound.indexes is.sound.below begins;
    sound = sound_going number entry d now is.sound.files is.sound.indexes is.sound.below is.sound.sound begins;
  }

  pub staged_went : IsStaged new (remove all entry.name)
  staged_went = record {
    stands = domain_went number entry d now begins bytes all is.stands;
    alone = alone_still;
    sound = sound_still;
    marked = subst (λ (s : Spaces). IsMarkedBut (record now { space = kept_spaces s })) (sym (ap (λ (m : DomainMemory). m.space) puts.same))
        (bits_went number entry d now is.stands.files is.stands.indexes below begins (kept_spaces old.space) is.marked);
    once = subst (λ (m : DomainMemory). HaveOnce m.list.list.entries) (sym puts.same) is.once;
    room = subst (λ (m : DomainMemory). length m.listed.items ≤ m.list.room) (sym puts.same) is.room;
  }

  pub parents_still : HaveParents d → HaveParents now
  parents_still = parents_went number entry d now is.stands.files is.stands.indexes all below is.stands.slots begins

  pub books_still : AreBooksOf (staged_books old) d all → AreBooksOf (staged_books new) now (remove all entry.name)
  books_still are = subst (λ (b : ℕ → Book). AreBooksOf b now (remove all entry.name)) (sym (ap staged_books puts.same)) (books_went number entry d now is.stands.files is.stands.indexes below begins (staged_books old) all are)

-- ---- whichever end the call has

module _ {X E : Type 0} (number : ℕ) (its : FilesetEntry) (old new : DomainMemory) (fresh : old.was ≡ None) (has_its : HasOriginal old number its) (r : Result X E) (ok : OnOk r (PutsSlot number (slot.Removed (Some its.first_tag) its.quota) old new)) where
  of_entry : (entry : FilesetEntry) → HasOriginal old number entry → PutsSlot number (slot.Removed (Some its.first_tag) its.quota) old new → PutsSlot number (slot.Removed (Some entry.first_tag) entry.quota) old new
  of_entry entry has = subst (λ (e : FilesetEntry). PutsSlot number (slot.Removed (Some e.first_tag) e.quota) old new) (one_entry its entry (sym has_its ∙ has))

  pub staged_end : (entry : FilesetEntry) → HasOriginal old number entry → (all : FilesetMap) → IsStaged old all → OnOk r (IsStaged new (remove all entry.name))
  staged_end entry has all is = on_ok r (λ puts. staged_went number entry old new fresh has (of_entry entry has puts) all is) ok

  pub parents_end : (all : FilesetMap) → IsStaged old all → HaveParents (staged_in old) → OnOk r (HaveParents (staged_in new))
  parents_end all is parents = on_ok r (λ puts. parents_still number its old new fresh has_its puts all is parents) ok

  pub books_end : (entry : FilesetEntry) → HasOriginal old number entry → (all : FilesetMap) → IsStaged old all → AreBooksOf (staged_books old) (staged_in old) all → OnOk r (AreBooksOf (staged_books new) (staged_in new) (remove all entry.name))
  books_end entry has all is are = on_ok r (λ puts. books_still number entry old new fresh has (of_entry entry has puts) all is are) ok
