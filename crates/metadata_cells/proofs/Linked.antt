-- A chain, cell by cell.
use Rattle.std.proofs.Common.{◌≡◌, ◌∙◌, zero, suc, List, [], ◌∷◌, ◌++◌, Contains, refl, sym, subst, arith, append_assoc}
use Rattle.std.proofs.lemmas.List.{append-nil}
use Rattle.page_store.specs.domain_base.declared.place.CellAt.{CellAt}
use Rattle.page_store.specs.Pages.{Pages}
use Rattle.metadata_cells.specs.Chain.{AreDistinct, AreLinked, Follow, IsChain, LinksFrom, Path, PlacedCell, StandsAt, begins, goes_on, places}

pushed : (xs : List PlacedCell) (c : PlacedCell) (ys : List PlacedCell) → (xs ++ c ∷ []) ++ ys ≡ xs ++ c ∷ ys
pushed xs c ys = append_assoc xs (c ∷ []) ys

-- ---- from a path to cells one by one

abbrev Row : Pages → CellAt → List PlacedCell → Type 0
Row pages start [] = ⊥
Row pages start (c ∷ cs) = (c.at ≡ start) × StandsAt pages c.at c.cell × Follow pages c.cell.head cs

row_of : (pages : Pages) (start : CellAt) (passed : List PlacedCell) (last : PlacedCell) → Path pages start passed last → (rest : List PlacedCell) → Follow pages last.cell.head rest → Row pages start ((passed ++ last ∷ []) ++ rest)
row_of pages start passed last path =
    elim path as (λ passed last path. (rest : List PlacedCell) → Follow pages last.cell.head rest → Row pages start ((passed ++ last ∷ []) ++ rest)) [
      | begins cell stands ↦ λ rest follow. (refl, stands, follow)
      | goes_on passed last at cell (path → earlier) next fresh stands follows ↦ λ rest follow.
          subst (Row pages start) (sym (pushed (passed ++ last ∷ []) (record { at = at; cell = cell }) rest))
          (earlier (record { at = at; cell = cell } ∷ rest) (next, follows, stands, follow))
    ]

-- what stands in the list stands in it after others too
later : (a : CellAt) (c : PlacedCell) (cs : List PlacedCell) → Contains (places cs) a → Contains (places (c ∷ cs)) a
later a c cs (k, within, is) = (suc k, omega (arith, within), is)

push_apart : (xs : List PlacedCell) (c d : PlacedCell) → ¬ Contains (places xs) d.at → ¬ d.at ≡ c.at → ¬ Contains (places (xs ++ c ∷ [])) d.at
push_apart [] c d none other (zero, within, is) = other (sym is)
push_apart [] c d none other (suc k, within, is) = omega (arith, within)
push_apart (x ∷ xs) c d none other (zero, within, is) = none (0, omega arith, is)
push_apart (x ∷ xs) c d none other (suc k, within, is) =
    push_apart xs c d (λ there. none (later d.at x xs there)) other (k, omega (arith, within), is)

push_distinct : (xs : List PlacedCell) (c : PlacedCell) → AreDistinct xs → ¬ Contains (places xs) c.at → AreDistinct (xs ++ c ∷ [])
push_distinct [] c distinct fresh = ((λ there. omega (arith, there.1)), tt)
push_distinct (x ∷ xs) c distinct fresh = (
  push_apart xs c x distinct.0 (λ same. fresh (0, omega arith, same)),
  push_distinct xs c distinct.1 (λ there. fresh (later c.at x xs there)),
)

distinct_of : (pages : Pages) (start : CellAt) (passed : List PlacedCell) (last : PlacedCell) → Path pages start passed last → AreDistinct (passed ++ last ∷ [])
distinct_of pages start passed last path =
    elim path as (λ passed last path. AreDistinct (passed ++ last ∷ [])) [
      | begins cell stands ↦ ((λ there. omega (arith, there.1)), tt)
      | goes_on passed last at cell (path → earlier) next fresh stands follows ↦
          push_distinct (passed ++ last ∷ []) (record { at = at; cell = cell }) earlier fresh
    ]

pub linked : (pages : Pages) (start : CellAt) (cells : List PlacedCell) → IsChain pages start cells → LinksFrom pages start cells
linked pages start cells chain =
    let row = row_of pages start chain.passed chain.last chain.path [] chain.ends in
    let all : (chain.passed ++ chain.last ∷ []) ++ [] ≡ cells = append-nil (chain.passed ++ chain.last ∷ []) ∙ sym chain.all in
    from cells (subst (Row pages start) all row) (subst AreDistinct (sym chain.all) (distinct_of pages start chain.passed chain.last chain.path))
  where
    from : (cells : List PlacedCell) → Row pages start cells → AreDistinct cells → LinksFrom pages start cells
    from [] row distinct = row
    from (c ∷ cs) row distinct = (row.0, record { stands = row.1; follow = row.2; distinct = distinct })

-- ---- and back

middle_fresh : (xs : List PlacedCell) (c : PlacedCell) (ys : List PlacedCell) → AreDistinct (xs ++ c ∷ ys) → ¬ Contains (places xs) c.at
middle_fresh [] c ys distinct there = omega (arith, there.1)
middle_fresh (x ∷ xs) c ys distinct (zero, within, is) = distinct.0 (at_middle xs is)
  where
    at_middle : (xs : List PlacedCell) → x.at ≡ c.at → Contains (places (xs ++ c ∷ ys)) x.at
    at_middle [] is = (0, omega arith, sym is)
    at_middle (y ∷ xs) is = later x.at y (xs ++ c ∷ ys) (at_middle xs is)
middle_fresh (x ∷ xs) c ys distinct (suc k, within, is) = middle_fresh xs c ys distinct.1 (k, omega (arith, within), is)

chain_from : (pages : Pages) (start : CellAt) (passed : List PlacedCell) (last : PlacedCell) (rest : List PlacedCell) → Path pages start passed last → Follow pages last.cell.head rest → AreDistinct ((passed ++ last ∷ []) ++ rest)
    → IsChain pages start ((passed ++ last ∷ []) ++ rest)
chain_from pages start passed last [] path follow distinct = record {
  passed = passed;
  last = last;
  path = path;
  ends = follow;
  all = append-nil (passed ++ last ∷ []);
}
chain_from pages start passed last (c ∷ cs) path follow distinct =
    let shape = pushed (passed ++ last ∷ []) c cs in
    subst (IsChain pages start) shape
    (chain_from pages start (passed ++ last ∷ []) c cs
    (goes_on passed last c.at c.cell path follow.0 (middle_fresh (passed ++ last ∷ []) c cs distinct) follow.2 follow.1)
    follow.3 (subst AreDistinct (sym shape) distinct))

pub chain_of : (pages : Pages) (first : PlacedCell) (rest : List PlacedCell) → AreLinked pages first rest → IsChain pages first.at (first ∷ rest)
chain_of pages first rest links = chain_from pages first.at [] first rest (begins first.cell links.stands) links.follow links.distinct
