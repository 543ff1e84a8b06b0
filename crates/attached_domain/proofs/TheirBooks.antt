-- Slots whose originals get their books, one after the other.
use Rattle.std.proofs.Common.{◌≡◌, ◌∙◌, ℕ, zero, suc, ◌+◌, ◌<◌, ◌≤◌, true, false, List, [], ◌∷◌, length, get_or, set, slice_get, Option, Some, None, refl, sym, subst, arith, ⊎_elim}
use Rattle.std.proofs.lemmas.Bool.{cases_eq, cases_lt}
use Rattle.std.proofs.lemmas.List.{length-set, get_or-set_same, get_or-set_other}
use Rattle.no_faults.specs.page_store.Pages.{Pages}
use Rattle.no_faults.specs.fileset_table.Table.{Table}
use Rattle.no_faults.specs.fileset_table.declared.slot.FilesetEntry.{FilesetEntry}
use Rattle.no_faults.specs.fileset_table.declared.slot.SlotItem.TheVariants as slot
use Rattle.no_faults.specs.quota_book.Book.{KeptBook}
use Rattle.no_faults.specs.domain_memory.Slots.{slot_in}
use Rattle.no_faults.specs.domain_memory.declared.slots.SlotFiles.{SlotFiles}
use Rattle.no_faults.proofs.OfDomainMemory.SlotsChanged.{slot_at}
use Rattle.attached_domain.specs.Books.{IsBookOfSlot}
use Rattle.attached_domain.specs.Parts.{GetTheirBooks, GetsItsBook}

same_entry : (a b : FilesetEntry) → Some (slot.Original a) ≡ Some (slot.Original b) → a ≡ b
same_entry a b is = cc

module _ (pages : Pages) (table : Table) (number : ℕ) where
  module _ (entry : FilesetEntry) (there : slice_get table.slots number ≡ Some (slot.Original entry)) (files : SlotFiles) (book : KeptBook) (kept : book.kept ≡ book.book) (is : IsBookOfSlot pages number entry book.book) where
    pub gets : GetsItsBook pages table number (Some files) (Some (record { files = files.files; book = book; tag_pages = files.tag_pages }))
    gets = record {
      there = λ is_there. is_there;
      places = refl;
      settled = λ settled. record { pages = settled.pages; book = kept };
      numbered = λ numbered. numbered;
      book = λ other also is_there. subst (λ e. IsBookOfSlot pages number e book.kept) (same_entry entry other (sym there ∙ also)) (subst (IsBookOfSlot pages number entry) (sym kept) is);
    }

-- the first i slots have their books, and the others are as they were
pub record GetPart (pages : Pages) (table : Table) (old new : List (Option SlotFiles)) (i : ℕ) : Type 0 where
  pub len : length new ≡ length old
  pub done : (k : ℕ) → k < i → GetsItsBook pages table k (get_or old k None) (get_or new k None)
  pub others : (k : ℕ) → i ≤ k → get_or new k None ≡ get_or old k None

module _ (pages : Pages) (table : Table) where
  pub none_get : (old : List (Option SlotFiles)) → GetPart pages table old old 0
  none_get old = record { len = refl; done = λ k below. absurd (omega (arith, below)); others = λ k from. refl }

  pub more_get : (old new : List (Option SlotFiles)) (i : ℕ) (files : Option SlotFiles) → GetPart pages table old new i → i < length new → GetsItsBook pages table i (get_or new i None) files → GetPart pages table old (set new i files) (i + 1)
  more_get old new i files part within is = record {
    len = length-set new i files ∙ part.len;
    done = λ k below. ⊎_elim
        (λ here. subst (λ x. GetsItsBook pages table x (get_or old x None) (get_or (set new i files) x None)) (sym here)
        (subst (GetsItsBook pages table i (get_or old i None)) (sym (get_or-set_same new i files None within)) (subst (λ o. GetsItsBook pages table i o files) (part.others i (omega arith)) is)))
        (λ apart. subst (GetsItsBook pages table k (get_or old k None)) (sym (get_or-set_other new i k files None apart)) (part.done k (omega (arith, below, apart))))
        (cases_eq k i);
    others = λ k after. get_or-set_other new i k files None (λ same. absurd (omega (arith, after, same))) ∙ part.others k (omega (arith, after));
  }

  -- nothing stays nothing
  nothing_gets : (number : ℕ) → GetsItsBook pages table number None None
  nothing_gets number = record {
    there = λ is_there. is_there;
    places = refl;
    settled = λ settled. settled;
    numbered = λ numbered. numbered;
    book = λ entry also is_there. absurd (let e : false ≡ true = is_there in cc);
  }

  past : (slots : List (Option SlotFiles)) (k : ℕ) → length slots ≤ k → get_or slots k None ≡ None
  past [] k far = refl
  past (s ∷ slots) zero far = absurd (omega (arith, far))
  past (s ∷ slots) (suc k) far = past slots k (omega (arith, far))

  pub all_get : (old new : List (Option SlotFiles)) (i : ℕ) → GetPart pages table old new i → length new ≤ i → GetTheirBooks pages table old new
  all_get old new i part far = record {
    count = part.len;
    each = λ k. subst (λ o. GetsItsBook pages table k o (slot_in new k)) (sym (slot_at old k)) (subst (GetsItsBook pages table k (get_or old k None)) (sym (slot_at new k)) (at k));
  }
    where
      at : (k : ℕ) → GetsItsBook pages table k (get_or old k None) (get_or new k None)
      at k = ⊎_elim
          (λ below. part.done k below)
          (λ from. subst (λ o. GetsItsBook pages table k o (get_or new k None)) (sym (past old k (omega (arith, from, far, part.len)))) (subst (GetsItsBook pages table k None) (sym (past new k (omega (arith, from, far)))) (nothing_gets k)))
          (cases_lt k i)
