use Rattle.std.proofs.Common.{◌≡◌, ◌∙◌, ℕ, ◌-◌, Bool, cond, nat_eq, List, [], ◌∷◌, ◌++◌, length, slice_index, Option, Some, None, IsSomeAnd, ap, subst, sym, ⊎_elim}
use Rattle.std.proofs.lemmas.Bool.{cases_Bool, eqb-true}
use Rattle.index_pages.specs.domain_base.declared.place.Home.{Home}
use Rattle.index_pages.specs.page_store.Homes.{pages_of}
use Rattle.index_pages.specs.metadata_cells.CellPage.{next_of}
use Rattle.index_pages.specs.free_cells.Cells.{Cells, JoinsPage, is_closed, table_of, with_page_last}
use Rattle.index_pages.proofs.OfFreeCells.Belongs.{last_leads, some_and}
use Rattle.file_world.specs.First.{home_at}
use Rattle.file_world.proofs.world.first_cells.Goals as goal

-- the tables and the marks after a page has joined
joined : (o : Option (List ℕ)) (home : Home) (old new : Cells) → IsSomeAnd o (λ page. JoinsPage home page old new) → (vol : ℕ) → table_of new vol ≡ with_page_last home old vol
joined None home old new is vol = absurd is
joined (Some page) home old new is vol = is.tables vol

marked : (o : Option (List ℕ)) (home : Home) (old new : Cells) → IsSomeAnd o (λ page. JoinsPage home page old new) → (vol : ℕ) → is_closed new vol ≡ is_closed old vol
marked None home old new is vol = absurd is
marked (Some page) home old new is vol = is.marks vol

pub returns : goal.returns
returns c =
    let cells = c.in_ok-cells.cells in
    let pages = pages_of c.args.pages.now.entries.items in
    let home = c.home_at.result in
    let new = c.read_page.new.self in
    let table = (λ (vol : ℕ). joined (pages home) home cells new c.in_ok-read_page.ensures.ok vol ∙ ap (λ (h : Home). with_page_last h cells vol) c.home_at.ensures) in
    let one : table_of new 1 ≡ 1 ∷ [] = table 1 ∙ ap (λ (t : List ℕ). t ++ 1 ∷ []) (c.in_ok-cells.ensures.value.tables 1) in
    record {
      belong = c.read_page.ensures.belong;
      one = one;
      others = λ vol other. table vol ∙ ⊎_elim
          (λ same. absurd (other (eqb-true vol 1 same)))
          (λ apart. ap (λ (b : Bool). cond b (table_of cells vol ++ 1 ∷ []) (table_of cells vol)) apart ∙ c.in_ok-cells.ensures.value.tables vol)
          (cases_Bool (nat_eq vol 1));
      opened = λ vol. marked (pages home) home cells new c.in_ok-read_page.ensures.ok vol ∙ c.in_ok-cells.ensures.value.marks vol;
      ends = last_leads new 1 pages 0
          (subst (λ (t : List ℕ). IsSomeAnd (pages (record { vol = 1; page = slice_index t (length t - 1) })) (λ page. next_of page ≡ 0)) (sym one)
          (some_and (pages (home_at 1)) (λ page is. is.last) c.requires));
    }
