-- Pages that are written in order: those of data, and then those of tables.
use Rattle.std.proofs.Common.{◌≡◌, ◌∙◌, ◌⊎◌, Bool, true, false, Result, Ok, Err, OnErr, OnOk, inl, subst, ⊎_elim}
use Rattle.std.proofs.lemmas.Bool.{both_ways, cases_Bool}
use Rattle.attached_domain.specs.domain_base.declared.place.Home.{Home}
use Rattle.attached_domain.specs.volume_disk.Disk.{Disk, IsSettled, Tells}
use Rattle.attached_domain.specs.volume_disk.Run.{Touches}
use Rattle.attached_domain.proofs.OfVolumeDisk.Laws.{touches-then, touches-wider}
use Rattle.attached_domain.specs.disk_label.declared.anchor.Anchor.{Anchor}
use Rattle.attached_domain.specs.domain_standing.Domain.{layout_of}
use Rattle.attached_domain.specs.staged_pages.Store.{pages_of}
use Rattle.attached_domain.specs.domain_memory.Staged.{staged_in}
use Rattle.attached_domain.specs.domain_memory.declared.memory.DomainMemory.{DomainMemory}
use Rattle.domain_attaching.specs.Tables.{AreTables, is_table}
use Rattle.domain_attaching.specs.Closing.{AreHome, AreTheseHome, IsChosen, IsData, IsInOrder, IsInOrderSoFar, IsOfTables, IsOnLoggable, IsOnThese, StayHome}
use Rattle.domain_attaching.specs.declared.tables.TablePages.{TablePages}
use Rattle.domain_attaching.proofs.HomeKept.{these_wider}

-- what is so in any case
pub if_ok : {T E : Type 0} (r : Result T E) (Q : Type 0) → Q → OnOk r Q
if_ok (Ok x) Q q = q
if_ok (Err e) Q q = tt

pub if_err : {T E : Type 0} (r : Result T E) (Q : Type 0) → Q → OnErr r Q
if_err (Ok x) Q q = tt
if_err (Err e) Q q = q

pub both_ok : {T E P Q S : Type 0} (r : Result T E) → (P → Q → S) → OnOk r P → OnOk r Q → OnOk r S
both_ok (Ok x) each p q = each p q
both_ok (Err e) each p q = tt

-- what is touched of either kind may be written
pub chosen_loggable : (old new : Disk) (anchor : Anchor) (tables : TablePages) (of_tables : Bool) → Touches old new (IsOnThese (IsChosen anchor tables of_tables)) → Touches old new (IsOnLoggable anchor)
chosen_loggable old new anchor tables of_tables touches =
    touches-wider old new (IsOnThese (IsChosen anchor tables of_tables)) (IsOnLoggable anchor) (λ v k on. (on.0, on.1.0, on.2)) touches

module _ (memory : DomainMemory) (tables : TablePages) (are : AreTables (layout_of (staged_in memory)) tables) where
  abbrev anchor : Anchor
  anchor = memory.frame.anchor

  -- those that are not marked are data, and those that are, of tables
  is_data : (home : Home) → IsChosen anchor tables false home → IsData memory home
  is_data home is = (is.0, λ there. both_ways (is_table tables home) is.1 ((are home is.0.first_volume is.0.last_volume is.0.within).1 there))

  is_of_tables : (home : Home) → IsChosen anchor tables true home → IsOfTables memory home
  is_of_tables home is = (is.0, (are home is.0.first_volume is.0.last_volume is.0.within).0 is.1)

  not_marked : (home : Home) → IsData memory home → IsChosen anchor tables false home
  not_marked home is = ⊎_elim
      (λ marked. absurd (is.1 ((are home is.0.first_volume is.0.last_volume is.0.within).0 marked)))
      (λ not. (is.0, not))
      (cases_Bool (is_table tables home))

  -- the first pass, if a call of it failed
  pub so_far : (old new : Disk) → Touches old new (IsOnThese (IsChosen anchor tables false)) → IsInOrderSoFar old new memory
  so_far old new touches = inl (these_wider old new (IsChosen anchor tables false) (IsData memory) is_data touches)

  module _ (old between new : Disk) (first : Touches old between (IsOnThese (IsChosen anchor tables false))) (home : Tells old → AreTheseHome (IsChosen anchor tables false) (pages_of memory.pages) anchor between.now.contents) (settled : Tells old → IsSettled between.now)
      (last : Touches between new (IsOnThese (IsChosen anchor tables true))) where
    -- and the second, whether it failed or not
    pub in_order : IsInOrder old new memory
    in_order = record {
      between = between;
      first = these_wider old between (IsChosen anchor tables false) (IsData memory) is_data first;
      home = λ told at is. home told at (not_marked at is);
      settled = settled;
      last = these_wider between new (IsChosen anchor tables true) (IsOfTables memory) is_of_tables last;
    }

    -- all that they touch may be written
    pub both_touch : Touches old new (IsOnLoggable anchor)
    both_touch = touches-then old between new (IsOnLoggable anchor) (chosen_loggable old between anchor tables false first) (chosen_loggable between new anchor tables true last)

    -- then each page is home
    pub both_home : Tells old → StayHome (pages_of memory.pages) anchor between new → (Tells between → AreTheseHome (IsChosen anchor tables true) (pages_of memory.pages) anchor new.now.contents) → AreHome (pages_of memory.pages) anchor new.now.contents
    both_home told stay others at loggable = ⊎_elim
        (λ marked. others told_too at (loggable, marked) loggable)
        (λ not. stay told_too at (home told at (loggable, not)) loggable)
        (cases_Bool (is_table tables at))
      where
        told_too : Tells between
        told_too = first.told ∙ told

-- of the domain that it was, where `same` and `kept` are what that was taken apart into
module _ (old same new : Disk) (memory kept : DomainMemory) (disk_is : same ≡ old) (memory_is : kept ≡ memory) where
  pub order_there : IsInOrder same new kept → IsInOrder old new memory
  order_there is = subst (λ (d : Disk). IsInOrder d new memory) disk_is (subst (IsInOrder same new) memory_is is)

  pub so_far_there : IsInOrderSoFar same new kept → IsInOrderSoFar old new memory
  so_far_there is = subst (λ (d : Disk). IsInOrderSoFar d new memory) disk_is (subst (IsInOrderSoFar same new) memory_is is)
