-- Where a domain stands, the pages of an index that a cell names are those of the file that begins there.
use Rattle.std.proofs.Common.{◌≡◌, ◌∙◌, ℕ, zero, suc, ◌≤◌, Bool, true, false, cond, nat_eq, ◌||◌, List, [], ◌∷◌, Option, Some, None, IsSomeAnd, slice_get, refl, sym, ap, subst, arith, ⊎_elim}
use Rattle.std.proofs.lemmas.Bool.{eq-eqb, eqb-true, true≢false}
use Rattle.std.specs.Option.{option_and_then}
use Rattle.domain_memory.specs.domain_base.declared.place.CellAt.{CellAt}
use Rattle.domain_memory.specs.domain_base.declared.place.Home.{Home}
use Rattle.domain_memory.specs.page_store.Pages.{Pages}
use Rattle.domain_memory.specs.cell_records.Fields.{number_at}
use Rattle.domain_memory.specs.cell_records.Records.{kind_of}
use Rattle.domain_memory.specs.cell_records.declared.record.Record.{Record}
use Rattle.domain_memory.specs.metadata_cells.Cell.{Cell, record_of}
use Rattle.domain_memory.specs.metadata_cells.declared.head.CellKind.{CellKind}
use Rattle.domain_memory.specs.metadata_cells.declared.head.CellKind.TheVariants as kinds
use Rattle.domain_memory.specs.tag_dirs.TagPage.{next_of}
use Rattle.domain_memory.specs.fileset_files.Shown.{index_in, index_of}
use Rattle.domain_memory.proofs.OfReleaseList.Standings.{no_record}
use Rattle.domain_memory.specs.directory_pages.Index.{IsIndexPage as IsGoodPage}
use Rattle.domain_memory.specs.index_pages.Homes.{AreIndexHomes, IsIndexPage, next_at}
use Rattle.domain_memory.specs.fileset_model.Filesets.{FilesetMap}
use Rattle.domain_memory.specs.domain_layout.CellRules.{is_chain_records}
use Rattle.domain_memory.specs.domain_layout.DirectoryRules.{IsGoodIndexPage}
use Rattle.domain_memory.specs.domain_layout.Owners.{IsOnTable}
use Rattle.domain_memory.specs.domain_layout.Reached.{index_way, on_volume}
use Rattle.domain_memory.proofs.OfDomainLayout.OnePage.{HasOne, one_of, some_same}
use Rattle.domain_memory.proofs.OfDomainLayout.OwnedOnce.{on_a_volume}
use Rattle.domain_memory.specs.domain_standing.Domain.{DomainNow, layout_of}
use Rattle.domain_memory.specs.domain_standing.Holders.{Holder}
use Rattle.domain_memory.specs.domain_standing.Standing.{StandsDomain}
use Rattle.domain_memory.specs.standing_laws.Sound.{StandsSound}
use Rattle.no_faults.proofs.InChains.{BeginsFile, begins_file, first_says, in_some_chain, is_found, no_volume}
use Rattle.no_faults.proofs.NoCells.{limits_of}
use Rattle.no_faults.proofs.FaultOnTables.{may_be}
use Rattle.no_faults.proofs.Ways.{AreWay, IsOnWay, contains_of, nothing}

primary_volume : ¬ kinds.Primary ≡ kinds.Volume
primary_volume same = cc

-- ---- a cell that names an index

chain_index : (rs : List Record) → is_chain_records rs ≡ true → record_of 9 rs ≡ None
chain_index [] is = absurd (true≢false (sym is))
chain_index (r ∷ []) is = by_test (nat_eq (kind_of r) 9) refl
  where
    by_test : (b : Bool) → nat_eq (kind_of r) 9 ≡ b → cond b (Some r) None ≡ None
    by_test true nine = absurd (true≢false (sym is ∙ ap (λ k. (nat_eq k 3 || nat_eq k 5) || nat_eq k 13) (eqb-true (kind_of r) 9 nine)))
    by_test false other = refl
chain_index (r ∷ s ∷ rs) is = absurd (true≢false (sym is))

-- ---- pages of an index

pub index_first : (pages : Pages) (o : Option Home) (homes : List Home) → AreIndexHomes pages o homes → slice_get homes 0 ≡ o
index_first pages None [] are = refl
index_first pages None (h ∷ hs) are = absurd are
index_first pages (Some first) [] are = absurd are
index_first pages (Some first) (h ∷ hs) are = ap Some (sym are.0)

-- each is one, and leads to the next
pub index_leads : (pages : Pages) (o : Option Home) (homes : List Home) → AreIndexHomes pages o homes → (k : ℕ) (home : Home) → slice_get homes k ≡ Some home
    → IsSomeAnd (pages home) IsIndexPage × (next_at pages home ≡ slice_get homes (suc k))
index_leads pages None [] are k home at = nothing home at
index_leads pages None (h ∷ hs) are k home at = absurd are
index_leads pages (Some first) [] are k home at = absurd are
index_leads pages (Some first) (h ∷ hs) are zero home at =
    let same : h ≡ home = some_same h home at in
    (subst (λ a. IsSomeAnd (pages a) IsIndexPage) same are.1, ap (next_at pages) (sym same) ∙ sym (index_first pages (next_at pages h) hs are.2))
index_leads pages (Some first) (h ∷ hs) are (suc k) home at = index_leads pages (next_at pages h) hs are.2 k home at

pub on_it : (page : List ℕ) → number_at 4 8 page ≤ 8 → (o : Option Home) → next_of page ≡ o → on_volume (next_of page) ≡ next_of page
on_it page small None none = ap on_volume none ∙ sym none
on_it page small (Some home) next = on_a_volume page home next small ∙ sym next

same_place : (at : CellAt) (j k : ℕ) → Holder.of_index at j ≡ Holder.of_index at k → j ≡ k
same_place at j k same = cc

module _ (d : DomainNow) (all : FilesetMap) (stands : StandsDomain d all) (sound : StandsSound d stands.files stands.indexes) where
  -- a cell names an index that begins there
  pub record NamesIndex (at : CellAt) (first : Home) : Type 0 where
    pub cell : Cell
    pub on : IsOnTable d.pages (layout_of d) at cell
    pub value : Record
    pub there : record_of 9 cell.records ≡ Some value
    pub begins : index_in value ≡ Some first

  -- it is the first of a file
  primary : (at : CellAt) (cell : Cell) → IsOnTable d.pages (layout_of d) at cell → (value : Record) → record_of 9 cell.records ≡ Some value → cell.head.kind ≡ kinds.Primary
  primary at cell on value there = by_kind cell.head.kind refl
    where
      by_kind : (kind : CellKind) → cell.head.kind ≡ kind → cell.head.kind ≡ kinds.Primary
      by_kind kinds.Primary kind = kind
      by_kind kinds.Chain kind = nothing value (sym (chain_index cell.records (sound.laters at cell on kind)) ∙ there)
      by_kind kinds.Quota kind = nothing value (sym (no_record 9 (λ e. omega (arith, e)) (λ e. omega (arith, e)) cell.records (limits_of d all stands sound at cell on kind)) ∙ there)
      by_kind kinds.Volume kind =
          ⊎_elim (λ first. nothing value (sym (ap (record_of 9) (first_says d all stands at cell on first).says) ∙ there))
          (λ x. absurd (no_volume d all stands at cell x kind)) (is_found d all stands at cell on)

  module _ (at : CellAt) (first : Home) (names : NamesIndex at first) where
    pub begun : BeginsFile d all stands at names.cell
    begun =
        let kind = primary at names.cell names.on names.value names.there in
        begins_file d all stands at names.cell (in_some_chain d all stands at names.cell names.on (λ volume. primary_volume (sym kind ∙ volume))) kind

    pub index_named : option_and_then index_of (stands.files at) ≡ Some first
    index_named = ap (option_and_then index_of) begun.there ∙ ap (λ (c : Cell). option_and_then index_in (record_of 9 c.records)) begun.same ∙ ap (option_and_then index_in) names.there ∙ names.begins

  -- ---- the pages of one that is named

  module _ (at : CellAt) (first : Home) (named : option_and_then index_of (stands.files at) ≡ Some first) where
    pub homes_are : AreIndexHomes d.pages (Some first) (stands.indexes at)
    homes_are = subst (λ o. AreIndexHomes d.pages o (stands.indexes at)) named (stands.chains.indexed at)

    on_way : (k : ℕ) (home : Home) → slice_get (stands.indexes at) k ≡ Some home → IsOnWay d.pages d.frame (index_way first) (stands.indexes at) k home
    on_way k home is =
        let leads = index_leads d.pages (Some first) (stands.indexes at) homes_are k home is in
        let one : HasOne (d.pages home) IsIndexPage = one_of (d.pages home) IsIndexPage leads.0 in
        let good : HasOne (d.pages home) IsGoodPage = one_of (d.pages home) IsGoodPage (sound.good at home (contains_of (stands.indexes at) k home is)) in
        let same : good.value ≡ one.value = some_same good.value one.value (sym good.there ∙ one.there) in
        record {
          page = one.value;
          there = one.there;
          so = eq-eqb (number_at 4 0 one.value) 0x58524944 (ap (number_at 4 0) (sym same) ∙ good.is.magic);
          next = on_it one.value one.is.next (next_of one.value) refl ∙ sym (ap (option_and_then next_of) one.there) ∙ leads.1;
          may = may_be d all stands sound (Holder.of_index at k) home is (λ same. cc) (λ same. cc);
        }

    pub index_is_way : AreWay d.pages d.frame (index_way first) (stands.indexes at)
    index_is_way = record {
      first = index_first d.pages (Some first) (stands.indexes at) homes_are;
      each = on_way;
      once = λ j k home one other. same_place at j k (stands.owned.once home (Holder.of_index at j) (Holder.of_index at k) one other);
    }

    -- each of them is a good one
    pub good_at : (k : ℕ) (home : Home) (page : List ℕ) → slice_get (stands.indexes at) k ≡ Some home → d.pages home ≡ Some page → IsGoodIndexPage page
    good_at k home page is there =
        let leads = index_leads d.pages (Some first) (stands.indexes at) homes_are k home is in (
          subst (λ o. IsSomeAnd o IsGoodPage) there (sound.good at home (contains_of (stands.indexes at) k home is)),
          (subst (λ o. IsSomeAnd o IsIndexPage) there leads.0).next,
        )
