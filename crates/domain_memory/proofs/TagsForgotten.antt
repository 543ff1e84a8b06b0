-- The last pages of a tag directory, forgotten one after the other.
use Rattle.std.proofs.Common.{◌≡◌, ◌∙◌, ℕ, zero, suc, ◌+◌, ◌-◌, ◌<◌, ◌≤◌, Bool, true, false, List, [], ◌∷◌, ◌++◌, length, get_or, take, slice_get, Option, Some, None, if◌then◌else◌, nat_eq, refl, sym, ap, arith}
use Rattle.std.proofs.lemmas.Bool.{eqb-true}
use Rattle.std.proofs.lemmas.List.{take_more}
use Rattle.standing_laws.specs.domain_base.declared.place.Home.{Home}
use Rattle.standing_laws.specs.tag_dirs.Directory.{home_with}
use Rattle.standing_laws.specs.tag_dirs.declared.dir.TagPlace.{TagPlace}
use Rattle.domain_memory.specs.declared.slots.SlotFiles.{SlotFiles}

by_index : (p : TagPlace) (index : ℕ) (rest : Option Home) (b : Bool) → nat_eq p.index index ≡ b → (p.index ≡ index → ⊥) → rest ≡ None → (if b then Some p.home else rest) ≡ None
by_index p index rest true is apart none = absurd (apart (eqb-true p.index index is))
by_index p index rest false is apart none = none

none_with : (places : List TagPlace) (index : ℕ) → ((k : ℕ) (p : TagPlace) → slice_get places k ≡ Some p → p.index ≡ index → ⊥) → home_with places index ≡ None
none_with [] index none = refl
none_with (p ∷ ps) index none =
    by_index p index (home_with ps index) (nat_eq p.index index) refl (none 0 p refl) (none_with ps index (λ k q there. none (suc k) q there))

in_front : (xs : List TagPlace) (y : TagPlace) (k : ℕ) (p : TagPlace) → slice_get xs k ≡ Some p → slice_get (xs ++ y ∷ []) k ≡ Some p
in_front [] y k p there = absurd (cc)
in_front (x ∷ xs) y zero p there = there
in_front (x ∷ xs) y (suc k) p there = in_front xs y k p there

last : (xs : List TagPlace) (y : TagPlace) → slice_get (xs ++ y ∷ []) (length xs) ≡ Some y
last [] y = refl
last (x ∷ xs) y = last xs y

below : (xs : List TagPlace) (k : ℕ) (p : TagPlace) → slice_get xs k ≡ Some p → k < length xs
below [] k p there = absurd (cc)
below (x ∷ xs) zero p there = omega arith
below (x ∷ xs) (suc k) p there = omega (arith, below xs k p there)

pub taken_was : (xs : List TagPlace) (n k : ℕ) (p : TagPlace) → slice_get (take n xs) k ≡ Some p → slice_get xs k ≡ Some p
taken_was [] zero k p there = there
taken_was [] (suc n) k p there = there
taken_was (x ∷ xs) zero k p there = absurd (cc)
taken_was (x ∷ xs) (suc n) zero p there = there
taken_was (x ∷ xs) (suc n) (suc k) p there = taken_was xs n k p there

-- the pages of the directory have each index once
abbrev pub HasOnce : List TagPlace → Type 0
HasOnce all = (j k : ℕ) (p q : TagPlace) → slice_get all j ≡ Some p → slice_get all k ≡ Some q → p.index ≡ q.index → j ≡ k

-- so no page before the last one of some first pages has its index
pub last_is_alone : (all : List TagPlace) (n : ℕ) → HasOnce all → (places : List TagPlace) (place : TagPlace) → take n all ≡ places ++ place ∷ [] → home_with places place.index ≡ None
last_is_alone all n once places place is = none_with places place.index (λ k p there same.
    let here = taken_was all n k p (ap (λ (l : List TagPlace). slice_get l k) is ∙ in_front places place k p there) in
    let end = taken_was all n (length places) place (ap (λ (l : List TagPlace). slice_get l (length places)) is ∙ last places place) in
    omega (arith, once k (length places) p place here end same, below places k p there))

-- some first pages and one more
pub one_more : (all : List TagPlace) (n : ℕ) → n < length all → (place : TagPlace) × (take (n + 1) all ≡ take n all ++ place ∷ [])
one_more [] n within = absurd (omega (arith, within))
one_more (x ∷ xs) n within = (get_or (x ∷ xs) n x, take_more (x ∷ xs) n x within)

pub take_length : (xs : List TagPlace) → take (length xs) xs ≡ xs
take_length [] = refl
take_length (x ∷ xs) = ap (λ (l : List TagPlace). x ∷ l) (take_length xs)

-- some of the pages are left, and all else is as it was
pub record TagsLeft (first now : SlotFiles) (counter last : ℕ) : Type 0 where
  pub left : ℕ
  pub sum : left + counter ≡ last + first.tag_pages
  pub whole : last ≡ length first.files.tags
  pub number : now.files.fileset ≡ first.files.fileset
  pub tags : now.files.tags ≡ take left first.files.tags
  pub book : now.book ≡ first.book
  pub tag_pages : now.tag_pages ≡ first.tag_pages

pub all_left : (slot : SlotFiles) (last : ℕ) → last ≡ length slot.files.tags → TagsLeft slot slot slot.tag_pages last
all_left slot last is = record {
  left = last;
  sum = refl;
  whole = is;
  number = refl;
  tags = sym (take_length slot.files.tags) ∙ ap (λ n. take n slot.files.tags) (sym is);
  book = refl;
  tag_pages = refl;
}

module _ (first now next : SlotFiles) (counter last : ℕ) (begun : TagsLeft first now counter last) (from : first.tag_pages ≤ counter) (to : counter < last) (enough : first.tag_pages ≤ length first.files.tags) where
  abbrev fewer : ℕ
  fewer = begun.left - 1

  some : fewer + 1 ≡ begun.left
  some = omega (arith, begun.sum, from, to)

  split : (place : TagPlace) × (now.files.tags ≡ take fewer first.files.tags ++ place ∷ [])
  split =
      let found = one_more first.files.tags fewer (omega (arith, some, begun.sum, begun.whole, from, to, enough)) in
      (found.0, begun.tags ∙ ap (λ n. take n first.files.tags) (sym some) ∙ found.1)

  pub one_fewer : next.files.fileset ≡ now.files.fileset → ((places : List TagPlace) (place : TagPlace) → now.files.tags ≡ places ++ place ∷ [] → next.files.tags ≡ places)
      → next.book ≡ now.book → next.tag_pages ≡ now.tag_pages → TagsLeft first next (counter + 1) last
  one_fewer number tags book tag_pages = record {
    left = fewer;
    sum = omega (arith, some, begun.sum);
    whole = begun.whole;
    number = number ∙ begun.number;
    tags = tags (take fewer first.files.tags) split.0 split.1;
    book = book ∙ begun.book;
    tag_pages = tag_pages ∙ begun.tag_pages;
  }

-- what is left at the end are the pages that were kept
pub kept_left : (first now : SlotFiles) (counter last : ℕ) → TagsLeft first now counter last → counter ≡ last → now.files.tags ≡ take first.tag_pages first.files.tags
kept_left first now counter last left end = left.tags ∙ ap (λ n. take n first.files.tags) (omega (arith, left.sum, end))
