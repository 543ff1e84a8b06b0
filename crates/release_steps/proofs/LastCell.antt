-- The last of the cells that were read is the last of the chain.
use Rattle.std.proofs.Common.{◌≡◌, ◌∙◌, ℕ, zero, suc, ◌+◌, ◌<◌, List, [], ◌∷◌, ◌++◌, length, map, get_or, Contains, refl, sym, ap, subst, arith}
use Rattle.std.proofs.lemmas.List.{get_or-map, length-map}
use Rattle.std.specs.List.{AllByRecursion}
use Rattle.release_list.specs.domain_base.declared.place.CellAt.{CellAt}
use Rattle.release_list.specs.page_store.Pages.{Pages}
use Rattle.release_list.specs.metadata_cells.Chain.{PlacedCell, StandsAt, places}
use Rattle.release_list.proofs.OfFileRelease.Chains.{all_back, in_middle}
use Rattle.release_list.specs.Standing.{IsQuotaCell, IsQuotas}
use Rattle.release_steps.specs.declared.cell.QuotaCell.{QuotaCell}
use Rattle.release_steps.specs.QuotaChain.{IsLast, ReadCell, read_of, there_of}
use Rattle.release_steps.proofs.Chains.{all_quotas, quotas_stand}

pub record EndsWith (chain : List PlacedCell) (r : ReadCell) : Type 0 where
  pub front : List PlacedCell
  pub c : PlacedCell
  pub is : chain ≡ front ++ c ∷ []
  pub read : read_of c ≡ r

pub ends_with : (chain : List PlacedCell) (r : ReadCell) → IsLast r (map read_of chain) → EndsWith chain r
ends_with [] r last = absurd last
ends_with (x ∷ []) r last = record { front = []; c = x; is = refl; read = last }
ends_with (x ∷ y ∷ chain) r last =
    let more = ends_with (y ∷ chain) r last in
    record { front = x ∷ more.front; c = more.c; is = ap (λ (cs : List PlacedCell). x ∷ cs) more.is; read = more.read }

last_is : (found : List ReadCell) (r : ReadCell) (i : ℕ) → i + 1 ≡ length found → get_or found i r ≡ r → IsLast r found
last_is [] r i end is = absurd (omega (arith, end))
last_is (x ∷ []) r zero end is = is
last_is (x ∷ []) r (suc i) end is = absurd (omega (arith, end))
last_is (x ∷ y ∷ found) r zero end is = absurd (omega (arith, end))
last_is (x ∷ y ∷ found) r (suc i) end is = last_is (y ∷ found) r i (omega (arith, end)) is

-- the chain's last cell, as it was read
pub record Ended (pages : Pages) (start : CellAt) (chain : List PlacedCell) (r : ReadCell) : Type 0 where
  pub front : List PlacedCell
  pub c : PlacedCell
  pub is : chain ≡ front ++ c ∷ []
  pub read : read_of c ≡ r
  pub stands : StandsAt pages r.at c.cell
  pub quota : IsQuotaCell c.cell
  pub inside : Contains (places chain) r.at

pub ended : (pages : Pages) (start : CellAt) (chain : List PlacedCell) (r : ReadCell) → IsQuotas pages start chain → IsLast r (map read_of chain) → Ended pages start chain r
ended pages start chain r quotas last =
    let e = ends_with chain r last in
    let place : e.c.at ≡ r.at = ap (λ (x : ReadCell). x.at) e.read in
    record {
      front = e.front;
      c = e.c;
      is = e.is;
      read = e.read;
      stands = subst (λ (a : CellAt). StandsAt pages a e.c.cell) place
          (all_back (λ (q : PlacedCell). StandsAt pages q.at q.cell) e.front (e.c ∷ []) (subst (λ (cs : List PlacedCell). AllByRecursion (λ (q : PlacedCell). StandsAt pages q.at q.cell) cs) e.is (quotas_stand pages start chain quotas))).0;
      quota = (all_back (λ (q : PlacedCell). IsQuotaCell q.cell) e.front (e.c ∷ []) (subst (λ (cs : List PlacedCell). AllByRecursion (λ (q : PlacedCell). IsQuotaCell q.cell) cs) e.is (all_quotas pages start chain quotas))).0;
      inside = subst (λ (cs : List PlacedCell). Contains (places cs) r.at) (sym e.is) (subst (Contains (places (e.front ++ e.c ∷ []))) place (in_middle e.front e.c []));
    }

-- some were read, and the last of them is the chain's
pub found_some : (pages : Pages) (start : CellAt) (chain : List PlacedCell) (found : List QuotaCell) → IsQuotas pages start chain → map there_of found ≡ map read_of chain → 0 < length found
found_some pages start [] found quotas same = absurd quotas
found_some pages start (x ∷ chain) found quotas same = omega (arith, length-map found there_of, length-map (x ∷ chain) read_of, ap length same)

pub last_there : (found : List QuotaCell) (last : QuotaCell) (chain : List PlacedCell) (i : ℕ) → map there_of found ≡ map read_of chain → i + 1 ≡ length found → last ≡ get_or found i last → IsLast (there_of last) (map read_of chain)
last_there found last chain i same end at =
    let within : i < length found = omega (arith, end) in
    subst (IsLast (there_of last)) same
    (last_is (map there_of found) (there_of last) i (omega (arith, length-map found there_of, end)) (get_or-map there_of found i last (there_of last) within ∙ ap there_of (sym at)))
