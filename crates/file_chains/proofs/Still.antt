-- Free cells, free space and pages that belong together do so after a change of cells in use.
use Rattle.std.proofs.Common.{◌≡◌, ◌∙◌, ℕ, ◌||◌, not, Bool, true, false, Option, Some, None, IsSomeAnd, Result, Ok, Err, IfErr, List, [], ◌∷◌, get_or, drop, length, Contains, refl, sym, ap, subst, arith}
use Rattle.std.proofs.lemmas.Bool.{and_parts, not-true}
use Rattle.std.specs.List.{AllByRecursion}
use Rattle.std.specs.Option.{option_map}
use Rattle.free_cells.specs.domain_base.declared.place.CellAt.{CellAt}
use Rattle.free_cells.specs.page_store.Pages.{Pages}
use Rattle.free_cells.specs.metadata_cells.Cell.{Cell}
use Rattle.free_cells.specs.metadata_cells.CellPage.{KeepsHeaders, KeepsWellFormed, header, next_of}
use Rattle.free_cells.specs.metadata_cells.Chain.{LeavesOthers, PlacedCell, StandsAt, is_at, places}
use Rattle.free_cells.specs.Cells.{Cells, TakesCell, is_free, table_of}
use Rattle.free_cells.specs.Belong.{home_at}
use Rattle.free_cells.proofs.Belongs.{belong_still}
use Rattle.free_cells.specs.free_space.Spaces.{Spaces}
use Rattle.file_chains.specs.Allocated.{AreAllocated}
use Rattle.file_chains.specs.FileChanges.{AreOnTables, LeavesOtherCells}
use Rattle.file_chains.specs.Files.{IsFile}
use Rattle.file_chains.specs.MapChanges.{LeavesApart}
use Rattle.file_chains.proofs.Added.{not_zeros}
use Rattle.file_chains.proofs.ChainChanges.{at_apart, stand_file}
use Rattle.file_chains.proofs.Chosen.{all_at}

none_is_some : {X : Type 0} {x : X} → None ≡ Some x → ⊥
none_is_some e = cc

next_in : Option (ℕ × ℕ) → ℕ
next_in None = 0
next_in (Some h) = h.1

pub next_stays : (o n : Option (List ℕ)) → option_map header n ≡ option_map header o → IsSomeAnd o (λ page. next_of page ≡ 0) → IsSomeAnd n (λ page. next_of page ≡ 0)
unfolding next_in
next_stays None n same is = absurd is
next_stays (Some p) None same is = absurd (none_is_some same)
next_stays (Some p) (Some q) same is = ap next_in same ∙ is

module _ (space : Spaces) (cells : Cells) (old new : Pages) (allocated : AreAllocated space cells old) (good : KeepsWellFormed old new) (headers : KeepsHeaders old new) where
  pub allocated_still : (changed : CellAt → Bool) → LeavesOthers changed old new → ((at : CellAt) → is_free cells at ≡ true → changed at ≡ false) → AreAllocated space cells new
  allocated_still changed others apart = record {
    belong = belong_still cells old new changed others good headers apart allocated.belong;
    held = allocated.held;
    table = allocated.table;
    opened = allocated.opened;
    first = allocated.first;
    ends = λ vol place last. next_stays (old (home_at cells vol place)) (new (home_at cells vol place)) (headers (home_at cells vol place)) (allocated.ends vol place last);
  }

  -- a cell that was handed out, and one in use
  pub allocated_linked : (at start : CellAt) (before : Cells) (cell : Cell) → TakesCell at before cells → StandsAt old start cell → LeavesOthers (λ q. is_at at q || is_at start q) old new → AreAllocated space cells new
  allocated_linked at start before cell taken stands others = allocated_still (λ q. is_at at q || is_at start q) others apart
    where
      apart : (q : CellAt) → is_free cells q ≡ true → (is_at at q || is_at start q) ≡ false
      apart q free =
          ap (λ (b : Bool). b || is_at start q) (not-true (is_at at q) (and_parts (not (is_at at q)) (is_free before q) (sym (taken.cells q) ∙ free)).0)
          ∙ at_apart start q (λ same. not_zeros old q start cell (allocated.belong.zeros q free) stands (sym same))

  -- cells of a chain
  pub allocated_apart : (start : CellAt) (chain : List PlacedCell) → IsFile old start chain → LeavesApart chain old new → AreAllocated space cells new
  allocated_apart start chain is leaves = allocated_still (λ q. not (is_free cells q))
      (λ q used. leaves q (λ inside. apart q (free_of (is_free cells q) used) inside))
      (λ q free. ap not free)
    where
      free_of : (b : Bool) → not b ≡ false → b ≡ true
      free_of true is = refl
      free_of false is = sym is

      apart : (q : CellAt) → is_free cells q ≡ true → Contains (places chain) q → ⊥
      apart q free inside =
          all_at (λ (a : CellAt). ¬ q ≡ a) chain q (differ chain (stand_file old start chain is)) inside refl
        where
          differ : (cs : List PlacedCell) → AllByRecursion (λ (c : PlacedCell). StandsAt old c.at c.cell) cs → AllByRecursion (λ (c : PlacedCell). ¬ q ≡ c.at) cs
          differ [] stand = tt
          differ (c ∷ cs) stand = (not_zeros old q c.at c.cell (allocated.belong.zeros q free) stand.0, differ cs stand.1)

-- cells that stand where others do are on the tables where these are
pub on_by_places : (cells : Cells) (xs ys : List PlacedCell) → places xs ≡ places ys → AreOnTables cells ys → AreOnTables cells xs
on_by_places cells [] ys same on = tt
on_by_places cells (x ∷ xs) [] same on = absurd (omega (arith, ap length same))
on_by_places cells (x ∷ xs) (y ∷ ys) same on = (
  subst (λ (a : CellAt). Contains (table_of cells a.vol) a.page) (sym (ap (λ (ps : List CellAt). get_or ps 0 x.at) same)) on.0,
  on_by_places cells xs ys (ap (drop 1) same) on.1,
)

-- cells off a chain stay in use
pub others_stay : (cells : Cells) (chain : List PlacedCell) (old new : Pages) → LeavesApart chain old new → LeavesOtherCells cells chain old new
others_stay cells chain old new leaves q cell stands on apart = record { bytes = stands.bytes; there = leaves q apart ∙ stands.there; is = stands.is }

pub if_err : {A E : Type 0} {Q : E → Type 0} (r : Result A E) → ((x : E) → Q x) → IfErr r Q
if_err (Ok x) all = tt
if_err (Err e) all = all e
