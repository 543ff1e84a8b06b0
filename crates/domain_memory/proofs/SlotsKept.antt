-- Slots that were kept, or taken back.
use Rattle.std.proofs.Common.{◌≡◌, ◌∙◌, ℕ, List, [], ◌∷◌, Option, Some, None, IsSomeAnd, length, replicate, take, zero, suc, refl, sym, ap}
use Rattle.standing_laws.specs.tag_dirs.declared.dir.TagPlace.{TagPlace}
use Rattle.domain_memory.specs.Slots.{ChangesSlot, IsKept, IsTakenBack, book_in, kept_book, kept_places, places_in, slot_in}
use Rattle.domain_memory.specs.declared.slots.SlotFiles.{SlotFiles}
use Rattle.domain_memory.proofs.TagsForgotten.{take_length}

taken_whole : (xs : List TagPlace) (n : ℕ) → n ≡ length xs → take n xs ≡ xs
taken_whole xs n is = ap (λ (k : ℕ). take k xs) is ∙ take_length xs

kept_there : (old : SlotFiles) (o : Option SlotFiles) → IsSomeAnd o (IsKept old) → (kept_places o ≡ old.files.tags) × (kept_book o ≡ old.book.book) × (places_in o ≡ old.files.tags) × (book_in o ≡ old.book.book)
kept_there old None is = absurd is
kept_there old (Some new) is = (
  ap (λ (l : List TagPlace). take new.tag_pages l) (ap (λ f. f.tags) is.files) ∙ taken_whole old.files.tags new.tag_pages is.tag_pages,
  is.kept,
  ap (λ f. f.tags) is.files,
  is.book,
)

-- a slot that was kept: what it was when it was last kept is what it was before
pub places_kept : (old new : Option SlotFiles) → ChangesSlot IsKept old new → kept_places new ≡ places_in old
places_kept None new is = ap kept_places is
places_kept (Some old) new is = (kept_there old new is).0

pub book_kept : (old new : Option SlotFiles) → ChangesSlot IsKept old new → kept_book new ≡ book_in old
book_kept None new is = ap kept_book is
book_kept (Some old) new is = (kept_there old new is).1

pub places_same : (old new : Option SlotFiles) → ChangesSlot IsKept old new → places_in new ≡ kept_places new
places_same None new is = ap places_in is ∙ sym (ap kept_places is)
places_same (Some old) new is = (kept_there old new is).2 ∙ sym (kept_there old new is).0

pub book_same : (old new : Option SlotFiles) → ChangesSlot IsKept old new → book_in new ≡ kept_book new
book_same None new is = ap book_in is ∙ sym (ap kept_book is)
book_same (Some old) new is = (kept_there old new is).3 ∙ sym (kept_there old new is).1

back_there : (old : SlotFiles) (o : Option SlotFiles) → IsSomeAnd o (IsTakenBack old) → (kept_places o ≡ kept_places (Some old)) × (kept_book o ≡ kept_book (Some old)) × (places_in o ≡ kept_places (Some old)) × (book_in o ≡ kept_book (Some old))
back_there old None is = absurd is
back_there old (Some new) is = (
  (λ i. take (is.tag_pages i) (is.tags i)) ∙ twice old.tag_pages old.files.tags,
  is.kept,
  is.tags,
  is.book,
)
  where
    twice : (n : ℕ) (xs : List TagPlace) → take n (take n xs) ≡ take n xs
    twice zero [] = refl
    twice (suc n) [] = refl
    twice zero (x ∷ xs) = refl
    twice (suc n) (x ∷ xs) = ap (λ (l : List TagPlace). x ∷ l) (twice n xs)

-- a slot that was taken back: what it was when it was last kept stays, and it is that
pub places_stay : (old new : Option SlotFiles) → ChangesSlot IsTakenBack old new → kept_places new ≡ kept_places old
places_stay None new is = ap kept_places is
places_stay (Some old) new is = (back_there old new is).0

pub book_stays : (old new : Option SlotFiles) → ChangesSlot IsTakenBack old new → kept_book new ≡ kept_book old
book_stays None new is = ap kept_book is
book_stays (Some old) new is = (back_there old new is).1

pub places_back : (old new : Option SlotFiles) → ChangesSlot IsTakenBack old new → places_in new ≡ kept_places new
places_back None new is = ap places_in is ∙ sym (ap kept_places is)
places_back (Some old) new is = (back_there old new is).2 ∙ sym (back_there old new is).0

pub book_back : (old new : Option SlotFiles) → ChangesSlot IsTakenBack old new → book_in new ≡ kept_book new
book_back None new is = ap book_in is ∙ sym (ap kept_book is)
book_back (Some old) new is = (back_there old new is).3 ∙ sym (back_there old new is).1

-- in free slots is nothing
pub nothing_in : (n k : ℕ) → slot_in (replicate n None) k ≡ None
nothing_in zero k = refl
nothing_in (suc n) zero = refl
nothing_in (suc n) (suc k) = nothing_in n k
