-- The second of quota cells that goes, which the first one leads past then.
use Rattle.std.proofs.Common.{◌≡◌, ◌||◌, false, ℕ, [], ◌∷◌, ◌++◌, None, Some, Contains, refl, sym, ap, subst}
use Rattle.std.specs.Option.{unwrap_or}
use Rattle.domain_changes.specs.domain_base.declared.place.CellAt.{CellAt}
use Rattle.domain_changes.specs.domain_base.declared.place.Home.{Home}
use Rattle.domain_changes.specs.page_store.Pages.{Pages, same_home}
use Rattle.domain_changes.specs.metadata_cells.Cell.{Cell}
use Rattle.domain_changes.specs.metadata_cells.CellPage.{IsUsedAt, KeepsHeaders, KeepsWellFormed, home_of}
use Rattle.domain_changes.specs.metadata_cells.Chain.{LeavesOthers, StandsAt, is_at}
use Rattle.domain_changes.specs.free_cells.Belong.{Belong}
use Rattle.domain_changes.specs.free_cells.Cells.{FreesCell, is_closed, kept_of, table_of}
use Rattle.domain_changes.specs.file_chains.Allocated.{AreAllocated}
use Rattle.domain_changes.specs.file_chains.Changes.{IsInUse}
use Rattle.domain_changes.proofs.OfFileChains.FewPages.{one_changes, then_changes}
use Rattle.domain_changes.specs.release_list.Listing.{Listing}
use Rattle.domain_changes.specs.release_list.Standing.{Files, with_file}
use Rattle.domain_changes.specs.release_list.Steps.{leads_to, now_of}
use Rattle.domain_changes.specs.release_list.declared.list.Entry.{Entry}
use Rattle.domain_changes.proofs.OfReleaseList.QuotaCells.{IsTwo, allocated, elsewhere, first_stands_there, first_used, is_two, mid_belong, mid_used, next_on as on_its_table, next_stands, next_used, others, quotas_after, stands_now}
use Rattle.domain_changes.specs.free_space.Spaces.{kept_spaces, volume_of}
use Rattle.domain_changes.specs.domain_memory.Slots.{kept_book, kept_places, slot_in}
use Rattle.domain_changes.specs.domain_memory.Kept.{KeepsKept}
use Rattle.domain_changes.specs.domain_memory.Memory.{with_was}
use Rattle.domain_changes.specs.staged_pages.Store.{before_of, pages_of}
use Rattle.domain_changes.specs.domain_memory.Staged.{staged_in}
use Rattle.domain_changes.specs.domain_memory.declared.memory.DomainMemory.{DomainMemory}
use Rattle.release_changes.specs.QuotaCells.{BeginsQuotas, LeadsOn, LosesSecond}

module _ (old : DomainMemory) (at next : CellAt) (files : Files) (has : BeginsQuotas old at files) (leads : LeadsOn old at next) where
  abbrev entry : Entry
  entry = record { at = at; clone = None }

  abbrev listing : Listing
  listing = record { entries = (staged_in old).list.entries ++ entry ∷ []; tag_pages = (staged_in old).list.tag_pages }

  pub two : IsTwo entry next (now_of listing files old.space old.cells (pages_of old.pages))
  two = is_two (staged_in old).list.entries entry next (now_of listing files old.space old.cells (pages_of old.pages)) has leads

  pub next_on : Contains (table_of old.cells next.vol) next.page
  next_on = on_its_table listing (staged_in old).list.entries files entry old.space old.cells (pages_of old.pages) next has two

  pub first_in_use : IsInUse (pages_of old.pages) at
  first_in_use = first_used listing (staged_in old).list.entries files entry old.space old.cells (pages_of old.pages) next has two

  pub next_in_use : IsInUse (pages_of old.pages) next
  next_in_use = next_used listing (staged_in old).list.entries files entry old.space old.cells (pages_of old.pages) next has two

  module _ (mid : Pages) (leaves : LeavesOthers (is_at at) (pages_of old.pages) mid) (good : KeepsWellFormed (pages_of old.pages) mid) (headers : KeepsHeaders (pages_of old.pages) mid) where
    pub belong_then : Belong old.cells mid
    belong_then = mid_belong listing (staged_in old).list.entries files entry old.space old.cells (pages_of old.pages) next has two mid leaves good headers

    pub used_then : IsUsedAt mid next
    used_then = mid_used listing (staged_in old).list.entries files entry old.space old.cells (pages_of old.pages) next has two mid leaves good headers

  module _ (new : DomainMemory) (same : new ≡ record old { pages = new.pages; cells = new.cells }) (mid : Pages) (leaves : LeavesOthers (is_at at) (pages_of old.pages) mid) (good : KeepsWellFormed (pages_of old.pages) mid) (headers : KeepsHeaders (pages_of old.pages) mid) (leads_past : (first gone : Cell) → StandsAt (pages_of old.pages) at first → StandsAt (pages_of old.pages) next gone → StandsAt mid at (record first { head = record first.head { next = gone.head.next } }))
      (leaves_off : (home : Home) → same_home home (home_of at) ≡ false → mid home ≡ pages_of old.pages home) (frees : FreesCell next old.cells new.cells) (clears : LeavesOthers (is_at next) mid (pages_of new.pages)) (belong : Belong new.cells (pages_of new.pages))
      (good_now : KeepsWellFormed mid (pages_of new.pages)) (headers_now : KeepsHeaders mid (pages_of new.pages)) (clears_off : (home : Home) → same_home home (home_of next) ≡ false → pages_of new.pages home ≡ mid home)
    where
      stands : StandsAt mid at (leads_to two.second.cell.head.next two.first).cell
      stands = leads_past two.first.cell two.second.cell
          (first_stands_there listing (staged_in old).list.entries files entry old.space old.cells (pages_of old.pages) next has two)
          (next_stands listing (staged_in old).list.entries files entry old.space old.cells (pages_of old.pages) next has two)

      others_stay : LeavesOthers (λ q. is_at two.first.at q || is_at two.second.at q) (pages_of old.pages) (pages_of new.pages)
      others_stay = others listing (staged_in old).list.entries files entry old.space old.cells (pages_of old.pages) next has two
          mid leaves good headers stands leaves_off new.cells (pages_of new.pages) frees clears belong good_now headers_now clears_off

      pub second_lost : (number : ℕ) → LosesSecond number at files old new
      second_lost number cells = (
        with_file at (Some (leads_to two.second.cell.head.next two.first ∷ two.rest)) files,
        record {
          at = at;
          quota = cells.quota;
          removed = cells.removed;
          unlisted = cells.unlisted;
          first = two.first;
          second = two.second;
          rest = two.rest;
          is = two.is;
          after = leads_to two.second.cell.head.next two.first ∷ two.rest;
          after_is = refl;
          stands = quotas_after (pages_of old.pages) (pages_of new.pages) at two.first two.second two.rest two.quotas
              (stands_now listing (staged_in old).list.entries files entry old.space old.cells (pages_of old.pages) next has two
              mid leaves good headers stands leaves_off new.cells (pages_of new.pages) frees clears belong good_now headers_now clears_off) others_stay;
          files_are = refl;
          frees = subst (λ (a : CellAt). FreesCell a old.cells new.cells) (sym two.at_next) frees;
          allocated = subst (λ (m : DomainMemory). AreAllocated m.space new.cells (pages_of new.pages)) (sym same)
              (allocated listing (staged_in old).list.entries files entry old.space old.cells (pages_of old.pages) next has two
              mid leaves good headers stands leaves_off new.cells (pages_of new.pages) frees clears belong good_now headers_now clears_off);
          others = others_stay;
          elsewhere = elsewhere listing (staged_in old).list.entries files entry old.space old.cells (pages_of old.pages) next has two
              mid leaves good headers stands leaves_off new.cells (pages_of new.pages) frees clears belong good_now headers_now clears_off;
          few = then_changes 1 1 (pages_of old.pages) mid (pages_of new.pages) (one_changes (pages_of old.pages) mid (home_of at) leaves_off) (one_changes mid (pages_of new.pages) (home_of next) clears_off);
          bytes = λ home still. ap (λ o. unwrap_or o []) still;
          same = ap staged_in same;
        },
      )

-- and nothing that was kept changes
pub kept_without : (old new : DomainMemory) → new ≡ record old { pages = new.pages; cells = new.cells } → before_of new.pages ≡ before_of old.pages → ((vol : ℕ) → kept_of new.cells vol ≡ kept_of old.cells vol) → ((vol : ℕ) → is_closed new.cells vol ≡ is_closed old.cells vol) → KeepsKept old new
kept_without old new same before cells marks = record {
  frame = ap (λ (m : DomainMemory). m.frame) same;
  table = ap (λ (m : DomainMemory). with_was m.was m.table) same;
  places = λ n. ap (λ (m : DomainMemory). kept_places (slot_in m.slots.items n)) same;
  books = λ n its there. ap (λ (m : DomainMemory). kept_book (slot_in m.slots.items n)) same;
  pages = before;
  spaces = λ vol. ap (λ (m : DomainMemory). volume_of (kept_spaces m.space) vol) same;
  cells = cells;
  marks = marks;
  list = ap (λ (m : DomainMemory). m.list.list) same;
}
