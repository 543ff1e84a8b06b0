-- A tag directory of one page that was never used.
use Rattle.std.proofs.Common.{◌≡◌, ◌∙◌, ℕ, zero, suc, ◌/◌, ◌%◌, ◌<◌, Bool, true, false, cond, nat_eq, List, [], ◌∷◌, Option, Some, None, IfSome, IsSomeAnd, slice_get, refl, sym, ap, subst, arith}
use Rattle.std.proofs.lemmas.Bool.{eq-eqb}
use Rattle.std.specs.Option.{option_and_then, option_map}
use Rattle.file_chains.specs.domain_base.declared.place.CellAt.{CellAt}
use Rattle.file_chains.specs.domain_base.declared.place.Home.{Home}
use Rattle.file_chains.specs.domain_base.declared.place.Tag.{Tag}
use Rattle.file_chains.specs.page_store.Pages.{Pages}
use Rattle.tag_dirs.specs.declared.dir.TagPlace.{TagPlace}
use Rattle.tag_dirs.specs.TagPage.{IsNewPage, entry_of}
use Rattle.tag_dirs.specs.Directory.{AddsPage, CanTake as CanTakeTag, IsDirectory, IsPageOf, RisesTo, cell_for, cell_of, entry_at, home_behind}
use Rattle.tag_dirs.proofs.Slots.{same_some}
use Rattle.fileset_files.specs.Creation.{IsNewDirectory, root_tag}
use Rattle.fileset_files.specs.Files.{AreFiles}

module _ (pages : Pages) (home : Home) (new : IsSomeAnd (pages home) (IsNewPage 0)) where
  abbrev place : TagPlace
  place = record { index = 0; home = home }

  run_of : (k : ℕ) → IfSome (slice_get (place ∷ []) k) (λ (p : TagPlace). IsSomeAnd (pages p.home) (IsPageOf p (home_behind (place ∷ []) k)))
  run_of zero = by_page (pages home) new
    where
      by_page : (o : Option (List ℕ)) → IsSomeAnd o (IsNewPage 0) → IsSomeAnd o (IsPageOf place None)
      by_page None new = absurd new
      by_page (Some page) new = record { good = new.good; indexed = new.indexed; linked = new.last }
  run_of (suc k) = tt

  apart_of : (j k : ℕ) (p q : TagPlace) → slice_get (place ∷ []) j ≡ Some p → slice_get (place ∷ []) k ≡ Some q → p.index ≡ q.index → j ≡ k
  apart_of zero zero p q at_j at_k same = refl
  apart_of zero (suc k) p q at_j at_k same = cc
  apart_of (suc j) k p q at_j at_k same = cc

  directory_of : IsDirectory pages (place ∷ [])
  directory_of = record { run = run_of; apart = apart_of; first = refl }

  no_at : Option CellAt
  no_at = None

  both_none : (b : Bool) → cond b no_at no_at ≡ no_at
  both_none true = refl
  both_none false = refl

  no_cell : (t : Tag) → cell_of pages (place ∷ []) t ≡ None
  unfolding no_at
  no_cell t = by_index (nat_eq 0 (t.slot / 1022))
    where
      no_home : Option Home
      no_home = None

      by_page : (o : Option (List ℕ)) → IsSomeAnd o (IsNewPage 0) → option_and_then (cell_for t.seq) (option_map (λ page. entry_of page (t.slot % 1022)) o) ≡ None
      by_page None new = absurd new
      by_page (Some page) new = ap (cell_for t.seq) (new.fresh (t.slot % 1022) (omega arith)) ∙ both_none (nat_eq 0 t.seq)

      by_index : (b : Bool) → option_and_then (cell_for t.seq) (option_map (λ page. entry_of page (t.slot % 1022)) (option_and_then pages (cond b (Some home) None))) ≡ None
      by_index true = by_page (pages home) new
      by_index false = refl

  can_take_first : CanTakeTag pages (place ∷ []) root_tag
  can_take_first = (λ none. omega (arith, none), by_page (pages home) new)
    where
      by_page : (o : Option (List ℕ)) → IsSomeAnd o (IsNewPage 0) → IsSomeAnd (option_map (λ page. entry_of page (1 % 1022)) o) (RisesTo 1)
      by_page None new = absurd new
      by_page (Some page) new = subst (RisesTo 1) (sym (new.fresh 1 (omega arith))) (refl, refl)

  files_of : (fileset : ℕ) → AreFiles fileset (place ∷ []) pages (λ tag. None)
  files_of fileset = record { directory = directory_of; none = λ t is. no_cell t; some = λ t. tt; apart = λ s t other. tt }

-- such a directory leads to no file
pub new_names_none : (fileset : ℕ) (pages : Pages) (places : List TagPlace) → IsNewDirectory pages places → AreFiles fileset places pages (λ tag. None)
new_names_none fileset pages places is = subst (λ (p : List TagPlace). AreFiles fileset p pages (λ tag. None)) (sym is.one) (files_of pages is.home is.page fileset)

-- and the root's tag may be taken there
pub root_can : (pages : Pages) (places : List TagPlace) → IsNewDirectory pages places → CanTakeTag pages places root_tag
root_can pages places is = subst (λ (p : List TagPlace). CanTakeTag pages p root_tag) (sym is.one) (can_take_first pages is.home is.page)

-- the first page that was added
pub first_new : (home : Home) (old new : Pages) → AddsPage (record { index = 0; home = home }) [] old new → IsNewDirectory new (record { index = 0; home = home } ∷ [])
first_new home old new adds = record { home = home; one = refl; page = by_page (new home) (adds.directory.run 0) (λ e less. entry e less) }
  where
    entry : (e : ℕ) → e < 1022 → option_map (λ page. entry_of page e) (new home) ≡ Some (record { seq = 0; at = None })
    entry e less =
        let zero_of : e / 1022 ≡ 0 = omega (arith, less) in
        let same : e % 1022 ≡ e = omega (arith, less) in
        ap (λ i. option_map (λ page. entry_of page i) (new home)) (sym same)
        ∙ sym (ap (λ (b : Bool). option_map (λ page. entry_of page (e % 1022)) (option_and_then new (cond b (Some home) None))) (eq-eqb 0 (e / 1022) (sym zero_of)))
        ∙ adds.entries e
        ∙ ap (λ (b : Bool). cond b (Some (record { seq = 0; at = None })) (entry_at old [] e)) (eq-eqb (e / 1022) 0 zero_of)

    by_page : (o : Option (List ℕ)) → IsSomeAnd o (IsPageOf (record { index = 0; home = home }) None) → ((e : ℕ) → e < 1022 → option_map (λ page. entry_of page e) o ≡ Some (record { seq = 0; at = None })) → IsSomeAnd o (IsNewPage 0)
    by_page None is fresh = absurd is
    by_page (Some page) is fresh = record { good = is.good; indexed = is.indexed; last = is.linked; fresh = λ e less. same_some (entry_of page e) (record { seq = 0; at = None }) (fresh e less) }
