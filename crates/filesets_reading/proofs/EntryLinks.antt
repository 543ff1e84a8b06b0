-- The chains to which the entries of pages of tags lead.
use Rattle.std.proofs.Common.{◌≡◌, ◌∙◌, ℕ, ◌+◌, ◌*◌, ◌/◌, ◌%◌, ◌<◌, List, Option, Some, None, IfSome, IsSome, IsSomeAnd, Ok, Err, Result, slice_get, refl, sym, ap, subst, arith}
use Rattle.std.specs.Result.{OnOk}
use Rattle.domain_layout.specs.domain_base.declared.place.CellAt.{CellAt}
use Rattle.domain_layout.specs.domain_base.declared.place.Tag.{Tag}
use Rattle.domain_layout.specs.page_store.Pages.{Pages}
use Rattle.domain_layout.specs.cell_records.Fields.{number_at}
use Rattle.domain_layout.specs.tag_dirs.declared.dir.TagPlace.{TagPlace}
use Rattle.domain_layout.specs.tag_dirs.declared.page.TagEntry.{TagEntry}
use Rattle.domain_layout.specs.tag_dirs.Directory.{IsDirectory, IsPageOf, cell_of, home_behind}
use Rattle.domain_layout.proofs.OfTagDirs.Slots.{found}
use Rattle.domain_layout.proofs.Named.{entry_by}
use Rattle.domain_layout.proofs.OnePage.{some_same}
use Rattle.filesets_reading.specs.Chains.{HasLinks, HasLinksAt, HaveLinks, HaveLinksOn}

-- what is so at Ok
pub at_ok : {E : Type 0} (r : Result (Unit {0}) E) (P Q : Type 0) → (P → Q) → OnOk r P → OnOk r Q
at_ok (Ok u) P Q f is = f is
at_ok (Err e) P Q f is = is

module _ (pages : Pages) (places : List TagPlace) (directory : IsDirectory pages places) where
  -- a tag of a page's entry is the one that the entry says
  pub entry_links : (k : ℕ) (place : TagPlace) → slice_get places k ≡ Some place → (entry : ℕ) → entry < 1022 → (page : List ℕ) → pages place.home ≡ Some page
      → (said : Tag) → said.slot ≡ 1022 * place.index + entry → said.seq ≡ number_at 2 (16 + 8 * entry) page → (at : Option CellAt) → at ≡ cell_of pages places said
      → IfSome at (HasLinks pages) → HasLinksAt pages places (1022 * place.index + entry)
  entry_links k place there entry within page stands said slot seq at is links tag onto in_slot leads =
      let e = entry_by pages places tag onto leads in
      let f = found places (tag.slot / 1022) e.home e.on in
      let index : tag.slot / 1022 ≡ place.index = omega (arith, in_slot, within) in
      let at_entry : tag.slot % 1022 ≡ entry = omega (arith, in_slot, within) in
      let number : f.k ≡ k = directory.apart f.k k f.p place f.there there (f.indexed ∙ index) in
      let place_same : f.p ≡ place = some_same f.p place (sym f.there ∙ ap (slice_get places) number ∙ there) in
      let home : e.home ≡ place.home = sym f.stands ∙ ap (λ (p : TagPlace). p.home) place_same in
      let page_same : e.page ≡ page = some_same e.page page (sym e.there ∙ ap pages home ∙ stands) in
      let its_seq : number_at 2 (16 + 8 * (tag.slot % 1022)) e.page ≡ tag.seq = ap (λ (t : TagEntry). t.seq) e.used in
      let seq_same : said.seq ≡ tag.seq = seq ∙ (λ i. number_at 2 (16 + 8 * sym at_entry i) (sym page_same i)) ∙ its_seq in
      let same : said ≡ tag = (λ i. record { slot = (slot ∙ sym in_slot) i; seq = seq_same i }) in
      subst (λ o. IfSome o (HasLinks pages)) (is ∙ ap (cell_of pages places) same ∙ leads) links

  -- a slot of a page is one of its entries
  pub page_links : (place : TagPlace) → ((entry : ℕ) → entry < 1022 → HasLinksAt pages places (1022 * place.index + entry)) → HaveLinksOn pages places place
  page_links place each tag at on leads = each (tag.slot % 1022) (omega arith) tag at (omega (arith, on)) leads

  -- a tag in use is on a page
  pub all_links : ((k : ℕ) (place : TagPlace) → slice_get places k ≡ Some place → HaveLinksOn pages places place) → HaveLinks pages places
  all_links each tag at leads =
      let e = entry_by pages places tag at leads in
      let f = found places (tag.slot / 1022) e.home e.on in
      each f.k f.p f.there tag at (sym f.indexed) leads

  -- the page of a place is there
  pub place_page : (k : ℕ) (place : TagPlace) → slice_get places k ≡ Some place → IsSome (pages place.home)
  place_page k place there = by_page (pages place.home) (subst (λ o. IfSome o (λ (p : TagPlace). IsSomeAnd (pages p.home) (IsPageOf p (home_behind places k)))) there (directory.run k))
    where
      by_page : (o : Option (List ℕ)) → IsSomeAnd o (IsPageOf place (home_behind places k)) → IsSome o
      by_page None is = absurd is
      by_page (Some page) is = refl

  pub small_index : (k : ℕ) (place : TagPlace) → slice_get places k ≡ Some place → place.index < 4202512
  small_index k place there = by_page (pages place.home) (subst (λ o. IfSome o (λ (p : TagPlace). IsSomeAnd (pages p.home) (IsPageOf p (home_behind places k)))) there (directory.run k))
    where
      by_page : (o : Option (List ℕ)) → IsSomeAnd o (IsPageOf place (home_behind places k)) → place.index < 4202512
      by_page None is = absurd is
      by_page (Some page) is = omega (arith, is.indexed, is.good.index)
