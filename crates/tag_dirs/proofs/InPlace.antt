-- Pages with eight bytes written in place.
use Rattle.std.proofs.Common.{◌≡◌, ◌∙◌, ℕ, ◌+◌, ◌*◌, ◌<◌, Bool, false, cond, Option, Some, None, IsSomeAnd, List, length, refl, ap}
use Rattle.metadata_cells.specs.domain_base.Page.{overwritten}
use Rattle.metadata_cells.specs.domain_base.declared.place.Home.{Home}
use Rattle.metadata_cells.specs.page_store.Pages.{Pages, same_home, with_page}
use Rattle.metadata_cells.proofs.Changed.{same_itself}
use Rattle.tag_dirs.specs.declared.page.TagEntry.{TagEntry}
use Rattle.metadata_cells.specs.cell_records.Fields.{number_at}
use Rattle.tag_dirs.specs.TagPage.{IsInFront, IsTagPage, SpellsEntry, SpellsNext}
use Rattle.tag_dirs.specs.Directory.{CanHave, ChangesAt, EndsAt, LinksAt}
use Rattle.tag_dirs.proofs.NewPage.{ended}

module _ (old new : Pages) (home : Home) where
  -- the page that was written is there, and all others are as they were
  abbrev Writes : ℕ → List ℕ → Type 0
  Writes at bytes = IsSomeAnd (old home) (λ page. new ≡ with_page home (overwritten page at bytes) old)

  there : (page : List ℕ) → new ≡ with_page home page old → new home ≡ Some page
  there page is = ap (λ (ps : Pages). ps home) is ∙ ap (λ (b : Bool). cond b (Some page) (old home)) (same_itself home)

  away : (page : List ℕ) → new ≡ with_page home page old → (h : Home) → same_home h home ≡ false → new h ≡ old h
  away page is h other = ap (λ (ps : Pages). ps h) is ∙ ap (λ (b : Bool). cond b (Some page) (old h)) other

  pub entry_set : (place : ℕ) (entry : TagEntry) (bytes : List ℕ) → place < 1022 → SpellsEntry entry bytes → IsSomeAnd (old home) (CanHave place entry) → Writes (16 + 8 * place) bytes → ChangesAt home place entry old new
  entry_set place entry bytes below spells can writes = by_page (old home) refl can writes
    where
      by_page : (o : Option (List ℕ)) → old home ≡ o → IsSomeAnd o (CanHave place entry) → IsSomeAnd o (λ page. new ≡ with_page home (overwritten page (16 + 8 * place) bytes) old) → ChangesAt home place entry old new
      by_page None at can writes = absurd can
      by_page (Some page) at can writes = record {
        page = page;
        changed = overwritten page (16 + 8 * place) bytes;
        was = at;
        is = there (overwritten page (16 + 8 * place) bytes) writes;
        change = spells page place below can.good can.allowed;
        elsewhere = away (overwritten page (16 + 8 * place) bytes) writes;
      }

  pub next_set : (next : Home) (bytes : List ℕ) → SpellsNext next bytes → IsSomeAnd (old home) IsTagPage → Writes 8 bytes → LinksAt home next old new
  next_set next bytes spells good writes = by_page (old home) refl good writes
    where
      by_page : (o : Option (List ℕ)) → old home ≡ o → IsSomeAnd o IsTagPage → IsSomeAnd o (λ page. new ≡ with_page home (overwritten page 8 bytes) old) → LinksAt home next old new
      by_page None at good writes = absurd good
      by_page (Some page) at good writes = record {
        page = page;
        changed = overwritten page 8 bytes;
        was = at;
        is = there (overwritten page 8 bytes) writes;
        change = spells page good;
        elsewhere = away (overwritten page 8 bytes) writes;
      }

  pub end_set : (next : Home) (bytes : List ℕ) → length bytes ≡ 8 → number_at 4 0 bytes ≡ 0 → IsSomeAnd (old home) (IsInFront next) → Writes 8 bytes → EndsAt home next old new
  end_set next bytes len none front writes = by_page (old home) refl front writes
    where
      by_page : (o : Option (List ℕ)) → old home ≡ o → IsSomeAnd o (IsInFront next) → IsSomeAnd o (λ page. new ≡ with_page home (overwritten page 8 bytes) old) → EndsAt home next old new
      by_page None at front writes = absurd front
      by_page (Some page) at front writes = record {
        page = page;
        changed = overwritten page 8 bytes;
        was = at;
        led = front.leads;
        is = there (overwritten page 8 bytes) writes;
        change = ended page bytes len front.whole none;
        elsewhere = away (overwritten page 8 bytes) writes;
      }
