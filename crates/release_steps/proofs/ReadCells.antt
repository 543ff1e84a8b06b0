-- A chain of quota cells, read from one cell to the next.
use Rattle.std.proofs.Common.{◌≡◌, ◌∙◌, ℕ, ◌+◌, ◌≤◌, List, [], ◌∷◌, ◌++◌, length, map, Option, Some, None, refl, sym, ap, subst, arith, append_assoc, length-append}
use Rattle.std.proofs.lemmas.List.{append-nil}
use Rattle.std.specs.List.{AllByRecursion}
use Rattle.release_list.specs.domain_base.declared.place.CellAt.{CellAt}
use Rattle.release_list.specs.page_store.Pages.{Pages}
use Rattle.release_list.specs.cell_records.declared.record.Record.{Record}
use Rattle.release_list.specs.metadata_cells.declared.head.CellHead.{CellHead}
use Rattle.release_list.specs.metadata_cells.Cell.{Cell}
use Rattle.release_list.specs.metadata_cells.Chain.{AreDistinct, Follow, PlacedCell, StandsAt}
use Rattle.release_list.proofs.OfMetadataCells.Unique.{one_stands}
use Rattle.release_list.specs.file_chains.Files.{IsNumbered}
use Rattle.release_list.proofs.OfFileChains.Walks.{RestAt, all_push, rest_of, walk_short}
use Rattle.release_list.specs.Standing.{IsQuotas}
use Rattle.quota_book.specs.QuotaCells.{said_by}
use Rattle.release_steps.specs.QuotaChain.{ReadCell, read_of}

-- some cells were read, and the others begin at the next address
pub record IsRead (pages : Pages) (i : ℕ) (next : Option CellAt) (found : List ReadCell) (chain : List PlacedCell) : Type 0 where
  pub passed : List PlacedCell
  pub rest : List PlacedCell
  pub all : chain ≡ passed ++ rest
  pub read : found ≡ map read_of passed
  pub count : length passed ≡ i
  pub numbered : AllByRecursion (λ (c : PlacedCell). IsNumbered c.at) passed
  pub here : RestAt pages next rest

pub reading_begins : (pages : Pages) (start : CellAt) (found : List ReadCell) (chain : List PlacedCell) → IsQuotas pages start chain → found ≡ [] → IsRead pages 0 (Some start) found chain
reading_begins pages start found [] is none = absurd is
reading_begins pages start found (first ∷ rest) is none = record {
  passed = [];
  rest = first ∷ rest;
  all = refl;
  read = none;
  count = refl;
  numbered = tt;
  here = (is.0, is.1.links.stands, is.1.links.follow);
}

-- the cell that stands at the next address
pub record Here (pages : Pages) (at : CellAt) (rest : List PlacedCell) : Type 0 where
  pub c : PlacedCell
  pub cs : List PlacedCell
  pub all : rest ≡ c ∷ cs
  pub is_at : c.at ≡ at
  pub stands : StandsAt pages at c.cell
  pub follow : Follow pages c.cell.head cs

pub here_at : (pages : Pages) (at : CellAt) (rest : List PlacedCell) → RestAt pages (Some at) rest → Here pages at rest
here_at pages at [] here = absurd here
here_at pages at (c ∷ cs) here = record { c = c; cs = cs; all = refl; is_at = here.0; stands = subst (λ (a : CellAt). StandsAt pages a c.cell) here.0 here.1; follow = here.2 }

map_push : (cs : List PlacedCell) (c : PlacedCell) → map read_of (cs ++ c ∷ []) ≡ map read_of cs ++ read_of c ∷ []
map_push [] c = refl
map_push (x ∷ cs) c = ap (λ (rs : List ReadCell). read_of x ∷ rs) (map_push cs c)

module _ (pages : Pages) (i : ℕ) (at : CellAt) (found : List ReadCell) (chain : List PlacedCell) (is : IsRead pages i (Some at) found chain) where
  pub here : Here pages at is.rest
  here = here_at pages at is.rest is.here

  pub read_more : IsNumbered at → (head : CellHead) (records : List Record) → StandsAt pages at (record { head = head; records = records }) → (now : List ReadCell) → now ≡ found ++ (record { at = at; head = head; said = said_by records }) ∷ []
      → (next : Option CellAt) → next ≡ here.c.cell.head.next → IsRead pages (i + 1) next now chain
  read_more numbered head records stands now pushed next leads =
      let same : here.c.cell ≡ record { head = head; records = records } = one_stands pages at here.c.cell (record { head = head; records = records }) here.stands stands in
      record {
        passed = is.passed ++ here.c ∷ [];
        rest = here.cs;
        all = is.all ∙ ap (λ (cs : List PlacedCell). is.passed ++ cs) here.all ∙ sym (append_assoc is.passed (here.c ∷ []) here.cs);
        read = pushed ∙ ap (λ (rs : List ReadCell). rs ++ (record { at = at; head = head; said = said_by records }) ∷ []) is.read
            ∙ ap (λ (r : ReadCell). map read_of is.passed ++ r ∷ []) (sym (ap (λ (cell : Cell). record { at = at; head = cell.head; said = said_by cell.records }) same)
            ∙ sym (ap (λ (a : CellAt). record { at = a; head = here.c.cell.head; said = said_by here.c.cell.records }) here.is_at))
            ∙ sym (map_push is.passed here.c);
        count = omega (arith, length-append is.passed (here.c ∷ []), is.count);
        numbered = all_push is.passed here.c is.numbered (subst IsNumbered (sym here.is_at) numbered);
        here = subst (λ n. RestAt pages n here.cs) (sym leads) (rest_of pages here.c.cell.head here.cs here.follow);
      }

pub all_read : (pages : Pages) (i : ℕ) (found : List ReadCell) (chain : List PlacedCell) → IsRead pages i None found chain → found ≡ map read_of chain
all_read pages i found chain is =
    is.read ∙ ap (map read_of) (sym (append-nil is.passed) ∙ ap (λ (cs : List PlacedCell). is.passed ++ cs) (sym is.here) ∙ sym is.all)

pub distinct_quotas : (pages : Pages) (start : CellAt) (chain : List PlacedCell) → IsQuotas pages start chain → AreDistinct chain
distinct_quotas pages start [] is = tt
distinct_quotas pages start (first ∷ rest) is = is.1.links.distinct

pub read_short : (pages : Pages) (i : ℕ) (next : Option CellAt) (found : List ReadCell) (start : CellAt) (chain : List PlacedCell) → IsQuotas pages start chain → IsRead pages i next found chain → i ≤ 9895604649984
read_short pages i next found start chain quotas is = omega (arith, is.count, walk_short is.passed is.rest (subst AreDistinct is.all (distinct_quotas pages start chain quotas)) is.numbered)
