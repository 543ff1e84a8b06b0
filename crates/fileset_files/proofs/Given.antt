-- A page is given to the file of a live tag, or none is.
use Rattle.std.proofs.Common.{◌≡◌, ◌∙◌, ℕ, ◌<◌, List, [], ◌∷◌, Some, None, IfSome, IsSomeAnd, Result, Ok, Err, IfOk, IfErr, refl, sym, ap, subst, inr}
use Rattle.std.specs.Option.{option_map_or}
use Rattle.file_chains.specs.domain_base.declared.place.CellAt.{CellAt}
use Rattle.file_chains.specs.domain_base.declared.place.Home.{Home}
use Rattle.file_chains.specs.domain_base.declared.place.Tag.{Tag}
use Rattle.file_chains.specs.page_store.Pages.{Pages}
use Rattle.file_chains.specs.page_store.declared.fault.StoreFault.{StoreFault}
use Rattle.file_chains.specs.page_store.declared.fault.StoreFault.TheVariants.{NoPage, OutOfMemory}
use Rattle.file_chains.specs.metadata_cells.declared.head.CellHead.{CellHead}
use Rattle.file_chains.specs.metadata_cells.Cell.{Cell}
use Rattle.file_chains.specs.metadata_cells.Chain.{Follow, PlacedCell, StandsAt}
use Rattle.file_chains.proofs.OfMetadataCells.Unique.{one_stands}
use Rattle.file_chains.specs.extent_maps.declared.run.PagePlace.TheVariants.{Absent, At}
use Rattle.file_chains.specs.free_cells.Cells.{Cells}
use Rattle.file_chains.specs.free_space.VolumeSpace.{with_page, without_page}
use Rattle.file_chains.specs.free_space.Spaces.{CanTake, Spaces, change_volume, missed}
use Rattle.file_chains.specs.Allocated.{AreAllocated}
use Rattle.file_chains.specs.FileChanges.{AreOnTables}
use Rattle.file_chains.specs.Files.{IsFile, places_of}
use Rattle.file_chains.specs.MapChanges.{NoneTakes}
use Rattle.file_chains.proofs.Allocated.{allocated_missed, same_allocated}
use Rattle.file_chains.proofs.Spaces.{given_back}
use Rattle.fileset_files.specs.Files.{Chains, IsLiveCell, keep_of, place_at}
use Rattle.fileset_files.specs.Pages.{GetsNone, IsGivenBack, MayGrow}
use Rattle.fileset_files.proofs.Live.{live_none, live_some}

-- ---- a chain is one chain at most

none_is_some : (at : CellAt) → None ≡ Some at → ⊥
none_is_some at e = cc

same_at : (a b : CellAt) → Some a ≡ Some b → a ≡ b
same_at a b e = cc

abbrev placed : CellAt → Cell → PlacedCell
placed at cell = record { at = at; cell = cell }

pub one_follow : (pages : Pages) (head : CellHead) (xs ys : List PlacedCell) → Follow pages head xs → Follow pages head ys → xs ≡ ys
one_follow pages head [] [] f g = refl
one_follow pages head [] (y ∷ ys) f g = absurd (none_is_some y.at (sym f ∙ g.0))
one_follow pages head (x ∷ xs) [] f g = absurd (none_is_some x.at (sym g ∙ f.0))
one_follow pages head (x ∷ xs) (y ∷ ys) f g =
    let at = same_at x.at y.at (sym f.0 ∙ g.0) in
    let cell = one_stands pages y.at x.cell y.cell (subst (λ (a : CellAt). StandsAt pages a x.cell) at f.2) g.2 in
    let rest = one_follow pages y.cell.head xs ys (subst (λ (c : Cell). Follow pages c.head xs) cell f.3) g.3 in
    (λ i. placed (at i) (cell i) ∷ rest i)

pub one_file : (pages : Pages) (start : CellAt) (xs ys : List PlacedCell) → IsFile pages start xs → IsFile pages start ys → xs ≡ ys
one_file pages start [] ys f g = absurd f
one_file pages start (x ∷ xs) [] f g = absurd g
one_file pages start (x ∷ xs) (y ∷ ys) f g =
    let at : x.at ≡ y.at = f.0 ∙ sym g.0 in
    let cell = one_stands pages y.at x.cell y.cell (subst (λ (a : CellAt). StandsAt pages a x.cell) at f.1.links.stands) g.1.links.stands in
    let rest = one_follow pages y.cell.head xs ys (subst (λ (c : Cell). Follow pages c.head xs) cell f.1.links.follow) g.1.links.follow in
    (λ i. placed (at i) (cell i) ∷ rest i)

-- ---- the chain of a live tag

pub record LiveChain (pages : Pages) (tag : Tag) (chains : Chains) (at : CellAt) : Type 0 where
  pub chain : List PlacedCell
  pub is : chains tag ≡ Some chain
  pub is_file : IsFile pages at chain

pub live_chain : (pages : Pages) (tag : Tag) (chains : Chains) (at : CellAt) → IsLiveCell pages (chains tag) (Some at) → LiveChain pages tag chains at
live_chain pages tag chains at live = let l = live_some keep_of pages (chains tag) at live in record { chain = l.cells; is = l.is; is_file = l.is_file }

pub not_live : (pages : Pages) (tag : Tag) (chains : Chains) (page : ℕ) → MayGrow tag page chains → IsLiveCell pages (chains tag) None → ⊥
not_live pages tag chains page grows live = subst (λ o. IsSomeAnd o (λ keep. page < keep)) (sym (live_none keep_of pages (chains tag) live)) grows.kept

module _ (pages : Pages) (tag : Tag) (chains : Chains) (at : CellAt) (live : LiveChain pages tag chains at) where
  pub on_tables : (cells : Cells) → ((t : Tag) → IfSome (chains t) (AreOnTables cells)) → (chain : List PlacedCell) → IsFile pages at chain → AreOnTables cells chain
  on_tables cells on chain is = subst (AreOnTables cells) (one_file pages at live.chain chain live.is_file is) (subst (λ o. IfSome o (AreOnTables cells)) live.is (on tag))

  pub absent : (page : ℕ) → place_at chains tag page ≡ Absent → (chain : List PlacedCell) → IsFile pages at chain → places_of chain page ≡ Absent
  absent page none chain is =
      subst (λ cs. places_of cs page ≡ Absent) (one_file pages at live.chain chain live.is_file is)
      (sym (ap (λ o. option_map_or (λ cs. places_of cs page) o Absent) live.is) ∙ none)

  pub some_chain : (P : List PlacedCell → Type 0) → P live.chain → IsSomeAnd (chains tag) P
  some_chain P holds = subst (λ o. IsSomeAnd o P) (sym live.is) holds

  pub if_chain : (P : List PlacedCell → Type 0) → P live.chain → IfSome (chains tag) P
  if_chain P holds = subst (λ o. IfSome o P) (sym live.is) holds

-- ---- what a call answers

pub map_three : {A E : Type 0} {P Q R S : A → Type 0} (r : Result A E) → ((x : A) → P x → Q x → R x → S x) → IfOk r P → IfOk r Q → IfOk r R → IfOk r S
map_three (Ok x) f p q r = f x p q r
map_three (Err e) f p q r = tt

pub map_err : {A E : Type 0} {P Q : E → Type 0} (r : Result A E) → ((e : E) → P e → Q e) → IfErr r P → IfErr r Q
map_err (Ok x) f p = tt
map_err (Err e) f p = f e p

pub map_three_err : {A E : Type 0} {P Q R S : E → Type 0} (r : Result A E) → ((e : E) → P e → Q e → R e → S e) → IfErr r P → IfErr r Q → IfErr r R → IfErr r S
map_three_err (Ok x) f p q r = tt
map_three_err (Err e) f p q r = f e p q r

pub map_four_err : {A E : Type 0} {P Q R S T : E → Type 0} (r : Result A E) → ((e : E) → P e → Q e → R e → S e → T e) → IfErr r P → IfErr r Q → IfErr r R → IfErr r S → IfErr r T
map_four_err (Ok x) f p q r s = tt
map_four_err (Err e) f p q r s = f e p q r s

-- ---- the page is given back

pub not_given : (fault : StoreFault) (page : ℕ) (chain : List PlacedCell) (home : Home) (space taken space_now : Spaces) (cells : Cells) → CanTake space home.vol home.page → taken ≡ change_volume (with_page home.page) space home.vol
    → IsGivenBack home taken space_now cells fault → (fault ≡ NoPage → NoneTakes page (At home) chain) → GetsNone page chain space space_now cells fault
not_given NoPage page chain home space taken space_now cells can taken_is back full = (
  inr (record {
    home = home;
    free = can;
    none_takes = full refl;
    no_cell = back.none.0;
    no_other = subst (λ (s : Spaces). (vol p : ℕ) → ¬ CanTake s vol p) taken_is back.none.1;
  }),
  back.given ∙ ap (λ (s : Spaces). change_volume (without_page home.page) s home.vol) (back.none.2 ∙ ap missed taken_is) ∙ ap missed (given_back space home.vol home.page can),
)
not_given OutOfMemory page chain home space taken space_now cells can taken_is back full =
    back.given ∙ ap (λ (s : Spaces). change_volume (without_page home.page) s home.vol) (back.none ∙ taken_is) ∙ given_back space home.vol home.page can

pub allocated_kept : (fault : StoreFault) (page : ℕ) (chain : List PlacedCell) (space space_now : Spaces) (cells cells_now : Cells) (pages pages_now : Pages) → GetsNone page chain space space_now cells fault → cells_now ≡ cells → pages_now ≡ pages
    → AreAllocated space cells pages → AreAllocated space_now cells_now pages_now
allocated_kept NoPage page chain space space_now cells cells_now pages pages_now none cells_is pages_is allocated = same_allocated none.1 cells_is pages_is (allocated_missed space cells pages allocated)
allocated_kept OutOfMemory page chain space space_now cells cells_now pages pages_now none cells_is pages_is allocated = same_allocated none cells_is pages_is allocated
