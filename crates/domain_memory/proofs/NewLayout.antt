-- Where the pages of metadata of a domain that was just made stand.
use Rattle.std.proofs.Common.{◌≡◌, ◌∙◌, ℕ, zero, suc, ◌<◌, List, [], ◌∷◌, Option, Some, None, IsSomeAnd, length, slice_index, refl, sym, subst, arith}
use Rattle.std.specs.List.{AllByRecursion}
use Rattle.standing_laws.specs.domain_base.Version.{number_of}
use Rattle.standing_laws.specs.page_store.Pages.{Pages}
use Rattle.standing_laws.specs.fileset_table.Page.{IsTablePage}
use Rattle.standing_laws.specs.fileset_table.Table.{IsNewTable, Table}
use Rattle.standing_laws.specs.fileset_table.declared.slot.SlotItem.{SlotItem}
use Rattle.standing_laws.specs.fileset_table.declared.slot.SlotItem.TheVariants.{Free}
use Rattle.standing_laws.specs.disk_label.FirstPages.{first_pages}
use Rattle.standing_laws.specs.log_ring.Homes.{member_of}
use Rattle.standing_laws.specs.domain_layout.Layout.{AreTagPlaces, IsCellTable, IsLayout, IsPageAt, Layout, first_tag_of}
use Rattle.standing_laws.specs.domain_layout.Reached.{Frame}
use Rattle.standing_laws.specs.domain_layout.NewDomain.{IsNew, IsNewCells, IsNewTablePage, firsts, on_first}
use Rattle.standing_laws.proofs.OfDomainLayout.NewTags.{all_free}

-- ---- one new table

same_slots : (slots others : List SlotItem) → AllByRecursion (λ item. item ≡ Free) slots → AllByRecursion (λ item. item ≡ Free) others → length slots ≡ length others → slots ≡ others
same_slots [] [] free also same = refl
same_slots [] (y ∷ ys) free also same = absurd (omega (arith, same))
same_slots (x ∷ xs) [] free also same = absurd (omega (arith, same))
same_slots (x ∷ xs) (y ∷ ys) free also same = λ i. (free.0 ∙ sym also.0) i ∷ same_slots xs ys free.1 also.1 (omega (arith, same)) i

pub one_new_table : (table other : Table) → IsNewTable table → IsNewTable other → table ≡ other
one_new_table table other new also =
    let slots = same_slots table.slots other.slots new.free also.free (new.good.whole ∙ sym also.good.whole) in
    let made = new.none_made ∙ sym also.none_made in
    λ i. record { slots = slots i; made = made i }

-- ---- its layout

pub map_some : {X : Type 0} (o : Option X) (P Q : X → Type 0) → ((x : X) → P x → Q x) → IsSomeAnd o P → IsSomeAnd o Q
map_some None P Q f is = is
map_some (Some x) P Q f is = f x is

abbrev pub layout_with : Frame → Table → (ℕ → List ℕ) → Layout
layout_with frame table cells = record { anchor = frame.anchor; version = frame.version; table = table; cells = cells; tags = λ number. [] }

module _ (pages : Pages) (frame : Frame) (new : IsNew pages frame) (version : frame.anchor.version ≡ number_of frame.version) (table : Table) (fresh : IsNewTable table) where
  cell_page : (page : List ℕ) → IsNewCells frame page → IsPageAt ((firsts frame).cells ∷ []) 0 page
  cell_page page is = record { good = is.good; indexed = is.indexed; linked = is.last }

  one_table : IsCellTable pages 1 (firsts frame).cells ((firsts frame).cells ∷ [])
  one_table = record { begins = refl; some = some; each = each }
    where
      some : (place : ℕ) → place < 1 → ¬ slice_index ((firsts frame).cells ∷ []) place ≡ 0
      some zero within none = omega (arith, none)
      some (suc k) within none = omega (arith, within)

      each : (place : ℕ) → place < 1 → IsSomeAnd (pages (record { vol = 1; page = slice_index ((firsts frame).cells ∷ []) place })) (IsPageAt ((firsts frame).cells ∷ []) place)
      each zero within = map_some (pages (on_first (firsts frame).cells)) (IsNewCells frame) (IsPageAt ((firsts frame).cells ∷ []) 0) cell_page new.cells
      each (suc k) within = absurd (omega (arith, within))

  says_table : (page : List ℕ) → IsNewTablePage page → IsTablePage page table
  says_table page is = subst (IsTablePage page) (one_new_table is.table table is.fresh fresh) is.says

  pub laid_with : (cells : ℕ → List ℕ) → cells 1 ≡ (firsts frame).cells ∷ [] → IsLayout pages (layout_with frame table cells)
  laid_with cells one = record {
    version = version;
    table = subst (λ o. IsSomeAnd o (λ home. IsSomeAnd (pages home) (λ page. IsTablePage page table))) (sym new.anchor.table)
        (map_some (pages (on_first (firsts frame).table)) IsNewTablePage (λ page. IsTablePage page table) says_table new.table);
    cells = λ vol member.
        subst (λ v. IsCellTable pages v (firsts_of v) (cells v)) (sym (new.anchor.alone vol member)) (subst (IsCellTable pages 1 (firsts frame).cells) (sym one) one_table);
    tags = λ number item there. subst (λ i. AreTagPlaces pages (first_tag_of i) []) (sym (all_free table fresh number item there)) refl;
  }
    where
      firsts_of : ℕ → ℕ
      firsts_of vol = (first_pages frame.version (member_of frame.anchor vol).pages).cells
