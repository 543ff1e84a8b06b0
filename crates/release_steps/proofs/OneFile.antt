-- Files stand together once one of them is another, or new.
use Rattle.std.proofs.Common.{◌≡◌, ◌∙◌, ℕ, List, Some, is_some, Contains, sym, ap, subst, ⊎_elim, ◌⊎◌, inl, inr, IsSome, None}
use Rattle.std.specs.Option.{option_and_then, option_map_or}
use Rattle.release_list.specs.domain_base.declared.place.CellAt.{CellAt}
use Rattle.release_list.specs.domain_base.declared.place.Home.{Home}
use Rattle.release_list.specs.page_store.Pages.{Pages}
use Rattle.release_list.specs.metadata_cells.Chain.{PlacedCell}
use Rattle.release_list.specs.extent_maps.declared.run.PagePlace.TheVariants.{Absent, At}
use Rattle.release_list.specs.free_cells.Cells.{Cells, table_of}
use Rattle.release_list.specs.free_space.Spaces.{Spaces}
use Rattle.release_list.specs.file_chains.Allocated.{AreAllocated}
use Rattle.release_list.specs.file_chains.Files.{places_of}
use Rattle.release_list.specs.fileset_files.Files.{AreApart, first_record}
use Rattle.release_list.specs.fileset_files.Together.{IsHeldApart}
use Rattle.release_list.proofs.OfFilesetFiles.Grown.{on_grown}
use Rattle.release_list.specs.Listed.{IsListed, SaysWhatGoes}
use Rattle.release_list.specs.Listing.{Listing}
use Rattle.release_list.specs.Standing.{Files, IsFileOrQuotas, IsStanding, StandTogether, place_in, source_at, source_of, with_file}
use Rattle.release_list.proofs.Spread.{some_same}
use Rattle.release_list.proofs.Standings.{apart_by, apart_from, each_from, file_other, file_there, place_by, reads_by, same_or_not, standing}
use Rattle.release_steps.specs.Waits.{IsNowhere}
use Rattle.release_list.specs.declared.list.Entry.{Entry}
use Rattle.release_list.proofs.Firsts.{says_same}

-- a first cell says what goes, or is one of quotas
abbrev pub SaysByFirst : List PlacedCell → Type 0
SaysByFirst cells = IsSome (first_record 6 cells) ⊎ (first_record 1 cells ≡ None)

-- what is to be known of the file, of what was left, and of pages that no file had
pub record IsPut (space space_now : Spaces) (cells cells_now : Cells) (new : Pages) (files : Files) (at : CellAt) (after : List PlacedCell) (more : ℕ → Home → Type 0) : Type 0 where
  pub allocated : AreAllocated space_now cells_now new
  pub stands : IsStanding cells_now new at after
  pub tables : (vol p : ℕ) → Contains (table_of cells vol) p → Contains (table_of cells_now vol) p
  pub held : (home : Home) → IsHeldApart space cells home → IsHeldApart space_now cells_now home
  pub leaves : (a : CellAt) (cs : List PlacedCell) → files a ≡ Some cs → ¬ a ≡ at → IsFileOrQuotas new a cs
  pub apart : (a : CellAt) (cs : List PlacedCell) → files a ≡ Some cs → ¬ a ≡ at → AreApart after cs
  pub pages : (p : ℕ) (home : Home) → places_of after p ≡ At home → (place_in files at p ≡ At home) ⊎ more p home
  pub nowhere : (p : ℕ) (home : Home) → more p home → IsNowhere files home
  pub held_more : (p : ℕ) (home : Home) → more p home → IsHeldApart space_now cells_now home
  pub only_more : (p q : ℕ) (home : Home) → more p home → more q home → p ≡ q
  pub source : source_of after ≡ source_at files at

module _ (space space_now : Spaces) (cells cells_now : Cells) (old new : Pages) (files : Files) (together : StandTogether space cells old files) (at : CellAt) (after : List PlacedCell) (more : ℕ → Home → Type 0) (put : IsPut space space_now cells cells_now new files at after more) where
  abbrev pub now : Files
  now = with_file at (Some after) files

  there : now at ≡ Some after
  there = file_there at (Some after) files

  other : (a : CellAt) → ¬ a ≡ at → now a ≡ files a
  other a not_at = file_other at (Some after) files a not_at

  after_is : (a : CellAt) (cs : List PlacedCell) → now a ≡ Some cs → a ≡ at → after ≡ cs
  after_is a cs is same = some_same after cs (sym there ∙ sym (ap now same) ∙ is)

  each_now : (a : CellAt) (cs : List PlacedCell) → now a ≡ Some cs → IsStanding cells_now new a cs
  each_now a cs is = ⊎_elim
      (λ same. subst (IsStanding cells_now new a) (after_is a cs is same) (subst (λ (b : CellAt). IsStanding cells_now new b after) (sym same) put.stands))
      (λ not_at.
      let was = sym (other a not_at) ∙ is in
      record {
        stands = put.leaves a cs was not_at;
        on_tables = on_grown cells cells_now put.tables cs (standing space cells old files together a cs was).on_tables;
      })
      (same_or_not a at)

  flip : (xs ys : List PlacedCell) → AreApart xs ys → AreApart ys xs
  flip xs ys apart q in_ys in_xs = apart q in_xs in_ys

  apart_now : (a b : CellAt) (xs ys : List PlacedCell) → now a ≡ Some xs → now b ≡ Some ys → ¬ a ≡ b → AreApart xs ys
  apart_now a b xs ys is_a is_b differs = ⊎_elim
      (λ a_at. ⊎_elim
      (λ b_at. absurd (differs (a_at ∙ sym b_at)))
      (λ b_not. subst (λ zs. AreApart zs ys) (after_is a xs is_a a_at) (put.apart b ys (sym (other b b_not) ∙ is_b) b_not))
      (same_or_not b at))
      (λ a_not. ⊎_elim
      (λ b_at. subst (AreApart xs) (after_is b ys is_b b_at) (flip after xs (put.apart a xs (sym (other a a_not) ∙ is_a) a_not)))
      (λ b_not. apart_by space cells old files together a b xs ys (sym (other a a_not) ∙ is_a) (sym (other b b_not) ∙ is_b) differs)
      (same_or_not b at))
      (same_or_not a at)

  -- a page was the file's that it is, or it is the new one
  pub was_there : (a : CellAt) (p : ℕ) (home : Home) → place_in now a p ≡ At home → (place_in files a p ≡ At home) ⊎ ((a ≡ at) × more p home)
  was_there a p home is = ⊎_elim
      (λ same. ⊎_elim
      (λ was. inl (ap (λ (b : CellAt). place_in files b p) same ∙ was))
      (λ fresh. inr (same, fresh))
      (put.pages p home (sym (place_by now a after p (ap now same ∙ there)) ∙ is)))
      (λ not_at. inl (sym (ap (λ o. option_map_or (λ cs. places_of cs p) o Absent) (other a not_at)) ∙ is))
      (same_or_not a at)

  once_now : (a b : CellAt) (p q : ℕ) (home : Home) → place_in now a p ≡ At home → place_in now b q ≡ At home → (a ≡ b) × (p ≡ q)
  once_now a b p q home x y = ⊎_elim
      (λ was_x. ⊎_elim
      (λ was_y. together.once a b p q home was_x was_y)
      (λ fresh. absurd (put.nowhere q home fresh.1 a p was_x))
      (was_there b q home y))
      (λ fresh. ⊎_elim
      (λ was_y. absurd (put.nowhere p home fresh.1 b q was_y))
      (λ again. (fresh.0 ∙ sym again.0, put.only_more p q home fresh.1 again.1))
      (was_there b q home y))
      (was_there a p home x)

  pub sources_now : (a : CellAt) → source_at now a ≡ source_at files a
  sources_now a = ⊎_elim
      (λ same. ap (option_and_then source_of) (ap now same ∙ there) ∙ put.source ∙ sym (ap (source_at files) same))
      (λ not_at. ap (option_and_then source_of) (other a not_at))
      (same_or_not a at)

  pub put_together : StandTogether space_now cells_now new now
  put_together = record {
    allocated = put.allocated;
    each = each_from cells_now new now each_now;
    apart = apart_from now apart_now;
    held = λ a p home is. ⊎_elim (λ was. put.held home (together.held a p home was)) (λ fresh. put.held_more p home fresh.1) (was_there a p home is);
    once = once_now;
    one_deep = λ a b c x y. together.one_deep a b c (reads_by files now a b (sources_now a) x) (reads_by files now b c (sources_now b) y);
  }

  -- what goes of the file is said by its first cell
  after_says : (a : CellAt) → a ≡ at → SaysByFirst after → SaysWhatGoes now a
  after_says a same says = subst (SaysWhatGoes now) (sym same) (⊎_elim
      (λ some. inl (ap (λ o. is_some (option_and_then (first_record 6) o)) there ∙ some))
      (λ none. inr (ap (option_and_then (first_record 1)) there ∙ none))
      says)

  pub put_listed : (list : Listing) → IsListed space cells files list → ((e : Entry) → Contains list.entries e → e.at ≡ at → SaysByFirst after) → ((home : Home) → Contains list.tag_pages home → (p : ℕ) → ¬ more p home)
      → IsListed space_now cells_now now list
  put_listed list listed says apart = record {
    each = λ e inside. let was = listed.each e inside in record {
      there = ⊎_elim
          (λ same. ap is_some (ap now same ∙ there))
          (λ not_at. ap is_some (other e.at not_at) ∙ was.there)
          (same_or_not e.at at);
      says = ⊎_elim
          (λ same. after_says e.at same (says e inside same))
          (λ not_at. says_same files now e.at (other e.at not_at) was.says)
          (same_or_not e.at at);
      given = λ c some. reads_by now files c e.at (sym (sources_now c)) (was.given c some);
      all = λ c reads. was.all c (reads_by files now c e.at (sources_now c) reads);
    };
    once = listed.once;
    order = listed.order;
    pages_once = listed.pages_once;
    pages_low = listed.pages_low;
    pages_held = λ home inside. put.held home (listed.pages_held home inside);
    pages_apart = λ home inside a p is. ⊎_elim
        (λ was. listed.pages_apart home inside a p was)
        (λ fresh. apart home inside p fresh.1)
        (was_there a p home is);
  }
