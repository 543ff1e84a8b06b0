-- The cell of a chain that is touched, as it was read.
use Rattle.std.proofs.Common.{◌≡◌, ◌∙◌, ◌⊎◌, ⊎_elim, inl, inr, ℕ, zero, suc, ◌+◌, ◌<◌, ◌≤◌, true, List, [], ◌∷◌, ◌++◌, length, map, take, drop, get_or, Some, Contains, refl, sym, ap, subst, arith}
use Rattle.std.proofs.lemmas.List.{get_or-map, length-map, length-take-le}
use Rattle.std.specs.List.{AllByRecursion}
use Rattle.release_list.specs.domain_base.declared.place.CellAt.{CellAt}
use Rattle.release_list.specs.page_store.Pages.{Pages}
use Rattle.release_list.specs.metadata_cells.Cell.{Cell}
use Rattle.release_list.specs.metadata_cells.Chain.{PlacedCell, StandsAt, places}
use Rattle.release_list.specs.file_chains.FileChanges.{AreOnTables}
use Rattle.release_list.proofs.OfFileRelease.Chains.{all_back, in_middle}
use Rattle.release_list.specs.Standing.{IsQuotaCell, IsQuotas}
use Rattle.quota_book.specs.fileset_values.declared.command.Owner.{Owner}
use Rattle.release_list.specs.free_cells.Cells.{Cells, table_of}
use Rattle.quota_book.specs.QuotaCells.{Said, has_room, is_said, said_by, touched}
use Rattle.release_steps.specs.declared.cell.QuotaCell.{QuotaCell}
use Rattle.release_steps.specs.QuotaChain.{ReadCell, read_of, said_in, says_of, there_of}
use Rattle.release_steps.proofs.Chains.{all_quotas, quotas_stand}
use Rattle.release_steps.proofs.InPlace.{cut_at, touched_there}
use Rattle.release_steps.proofs.SaidRecords.{few_said}

-- what is said, by what was read
said_read : (chain : List PlacedCell) → map (λ (r : ReadCell). r.said) (map read_of chain) ≡ said_in chain
said_read [] = refl
said_read (c ∷ chain) = ap (λ (s : List Said). said_by c.cell.records ∷ s) (said_read chain)

said_there : (found : List QuotaCell) → map (λ (r : ReadCell). r.said) (map there_of found) ≡ map says_of found
said_there [] = refl
said_there (c ∷ found) = ap (λ (s : List Said). c.said.items ∷ s) (said_there found)

pub same_said : (found : List QuotaCell) (chain : List PlacedCell) → map there_of found ≡ map read_of chain → map says_of found ≡ said_in chain
same_said found chain same = sym (said_there found) ∙ ap (map (λ (r : ReadCell). r.said)) same ∙ said_read chain

pub record Picked (pages : Pages) (start : CellAt) (chain : List PlacedCell) (who : Owner) (cell : QuotaCell) (k : ℕ) : Type 0 where
  pub c : PlacedCell
  pub is : chain ≡ take k chain ++ c ∷ drop (k + 1) chain
  pub long : length (take k chain) ≡ k
  pub read : read_of c ≡ there_of cell
  pub touches : touched (said_in chain) who ≡ Some k
  pub room : (is_said who cell.said.items ≡ true) ⊎ (has_room cell.said.items ≡ true)
  pub stands : StandsAt pages cell.at c.cell
  pub quota : IsQuotaCell c.cell
  pub inside : Contains (places chain) cell.at

pub picked : (pages : Pages) (start : CellAt) (chain : List PlacedCell) (found : List QuotaCell) (who : Owner) (cell : QuotaCell) (k : ℕ) → IsQuotas pages start chain → map there_of found ≡ map read_of chain
    → touched (map says_of found) who ≡ Some k → cell ≡ get_or found k cell → Picked pages start chain who cell k
picked pages start chain found who cell k quotas same touches there =
    let t = touched_there (map says_of found) who k touches in
    let within : k < length found = omega (arith, t.0, length-map found says_of) in
    let within_chain : k < length chain = omega (arith, within, ap length same, length-map found there_of, length-map chain read_of) in
    let d : PlacedCell = record { at = cell.at; cell = record { head = cell.head; records = [] } } in
    let c = get_or chain k d in
    let read : read_of c ≡ there_of cell
    = sym (get_or-map read_of chain k d (there_of cell) within_chain) ∙ ap (λ (rs : List ReadCell). get_or rs k (there_of cell)) (sym same) ∙ get_or-map there_of found k cell (there_of cell) within ∙ ap there_of (sym there) in
    let is = cut_at chain k d within_chain in
    let said : get_or (map says_of found) k [] ≡ cell.said.items = get_or-map says_of found k cell [] within ∙ ap says_of (sym there) in
    let place : c.at ≡ cell.at = ap (λ (r : ReadCell). r.at) read in
    record {
      c = c;
      is = is;
      long = length-take-le k chain (omega (arith, within_chain));
      read = read;
      touches = ap (λ (s : List Said). touched s who) (sym (same_said found chain same)) ∙ touches;
      room = ⊎_elim (λ says. inl (ap (is_said who) (sym said) ∙ says)) (λ has. inr (ap has_room (sym said) ∙ has)) t.1;
      stands = subst (λ (a : CellAt). StandsAt pages a c.cell) place
          (all_back (λ (q : PlacedCell). StandsAt pages q.at q.cell) (take k chain) (c ∷ drop (k + 1) chain) (subst (λ (cs : List PlacedCell). AllByRecursion (λ (q : PlacedCell). StandsAt pages q.at q.cell) cs) is (quotas_stand pages start chain quotas))).0;
      quota = (all_back (λ (q : PlacedCell). IsQuotaCell q.cell) (take k chain) (c ∷ drop (k + 1) chain) (subst (λ (cs : List PlacedCell). AllByRecursion (λ (q : PlacedCell). IsQuotaCell q.cell) cs) is (all_quotas pages start chain quotas))).0;
      inside = subst (λ (cs : List PlacedCell). Contains (places cs) cell.at) (sym is) (subst (Contains (places (take k chain ++ c ∷ drop (k + 1) chain))) place (in_middle (take k chain) c (drop (k + 1) chain)));
    }

-- it says few enough
pub picked_few : (pages : Pages) (at : CellAt) (cell : Cell) (said : Said) → StandsAt pages at cell → IsQuotaCell cell → said_by cell.records ≡ said → length said ≤ 9
picked_few pages at cell said stands quota same =
    omega (arith, few_said cell.records quota.limits stands.is.well_formed.allowed stands.is.head.fits, ap length same)

-- a chain's cell is on its volume's table
pub place_on : (cells : Cells) (chain : List PlacedCell) (at : CellAt) → AreOnTables cells chain → Contains (places chain) at → Contains (table_of cells at.vol) at.page
place_on cells [] at on inside = absurd (omega (arith, inside.1))
place_on cells (x ∷ chain) at on (zero, within, is) = subst (λ (a : CellAt). Contains (table_of cells a.vol) a.page) is on.0
place_on cells (x ∷ chain) at on (suc k, within, is) = place_on cells chain at on.1 (k, omega (arith, within), is)
