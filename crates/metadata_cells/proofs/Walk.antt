-- The walk along a chain.
use Rattle.std.proofs.Common.{◌≡◌, inl, inr, ⊎_elim, ℕ, zero, suc, ◌^◌, ◌<◌, cond, Bool, true, false, ◌||◌, nat_eq, List, [], ◌∷◌, ◌++◌, Option, Some, None, Contains, refl, sym, ap, ◌∙◌, arith}
use Rattle.std.proofs.lemmas.Bool.{both_ways, eqb-true, eq-eqb, or_cases, or_parts, true≢false}
use Rattle.std.proofs.lemmas.List.{append_assoc, append-nil}
use Rattle.std.specs.List.{list_any, AllByRecursion}
use Rattle.page_store.specs.domain_base.declared.place.CellAt.{CellAt}
use Rattle.page_store.specs.Pages.{Pages}
use Rattle.cell_records.specs.declared.record.Record.{Record}
use Rattle.metadata_cells.specs.declared.head.CellHead.{CellHead}
use Rattle.metadata_cells.specs.declared.head.CellKind.{CellKind}
use Rattle.metadata_cells.specs.declared.head.CellKind.TheVariants.{Primary, Chain, Quota, Volume}
use Rattle.cell_records.specs.Fields.{number_at}
use Rattle.metadata_cells.specs.Reading.{LeadsOn, ReadsChain}
use Rattle.metadata_cells.specs.Cell.{Cell, kind_number}
use Rattle.metadata_cells.specs.Chain.{StandsAt, HasHeadAt, PlacedCell, Path, begins, goes_on, IsBroken, astray, bad_cell, places, records_of, key_of, may_follow}

-- an address whose numbers have the widths of their fields
pub record IsKeyed (at : CellAt) : Type 0 where
  pub page : at.page < 2 ^ 32
  pub cell : at.cell < 256

same_address : (a b : CellAt) → a.vol ≡ b.vol → a.page ≡ b.page → a.cell ≡ b.cell → a ≡ b
same_address a b vol page cell = ap (λ (n : ℕ). record a { vol = n }) vol ∙ ap (λ (n : ℕ). record b { page = n; cell = a.cell }) page ∙ ap (λ (n : ℕ). record b { cell = n }) cell

-- two addresses with one number are one
pub same_key : (a b : CellAt) → IsKeyed a → IsKeyed b → key_of a ≡ key_of b → a ≡ b
same_key a b ka kb same =
    let a_page = ka.page in
    let a_cell = ka.cell in
    let b_page = kb.page in
    let b_cell = kb.cell in
    let cell : a.cell ≡ b.cell = omega arith in
    let page : a.page ≡ b.page = omega arith in
    let vol : a.vol ≡ b.vol = omega arith in
    same_address a b vol page cell

pub record IsWalk (pages : Pages) (start : CellAt) (records : List Record) (seen : ℕ → Bool) (last : CellAt) (kind : CellKind) (next : Option CellAt) : Type 0 where
  pub passed : List PlacedCell
  pub cell : Cell
  pub path : Path pages start passed (record { at = last; cell = cell })
  pub of_kind : cell.head.kind ≡ kind
  pub leads : cell.head.next ≡ next
  pub read : records ≡ records_of (passed ++ record { at = last; cell = cell } ∷ [])
  pub known : (q : ℕ) → seen q ≡ list_any (λ (c : PlacedCell). nat_eq (key_of c.at) q) (passed ++ record { at = last; cell = cell } ∷ [])
  pub keyed : AllByRecursion (λ (c : PlacedCell). IsKeyed c.at) (passed ++ record { at = last; cell = cell } ∷ [])

abbrev passed_key : ℕ → List PlacedCell → Bool
passed_key q cells = list_any (λ (c : PlacedCell). nat_eq (key_of c.at) q) cells

-- a number that was seen is that of a cell that was passed, and one that was not seen is none's
seen_is : (cells : List PlacedCell) (at : CellAt) → AllByRecursion (λ (c : PlacedCell). IsKeyed c.at) cells → IsKeyed at → passed_key (key_of at) cells ≡ true → Contains (places cells) at
seen_is [] at keyed own any = absurd (true≢false (sym any))
seen_is (c ∷ cs) at keyed own any = ⊎_elim
    (λ here. (0, omega arith, same_key c.at at keyed.0 own (eqb-true (key_of c.at) (key_of at) here)))
    (λ later. let there = seen_is cs at keyed.1 own later in (suc there.0, omega (arith, there.1), there.2))
    (or_cases (nat_eq (key_of c.at) (key_of at)) (passed_key (key_of at) cs) any)

unseen : (cells : List PlacedCell) (at : CellAt) → passed_key (key_of at) cells ≡ false → Contains (places cells) at → ⊥
unseen [] at none there = absurd (omega (arith, there.1))
unseen (c ∷ cs) at none (zero, within, is) =
    both_ways (nat_eq (key_of c.at) (key_of at)) (or_parts (nat_eq (key_of c.at) (key_of at)) (passed_key (key_of at) cs) none).0 (eq-eqb (key_of c.at) (key_of at) (ap key_of is))
unseen (c ∷ cs) at none (suc k, within, is) =
    unseen cs at (or_parts (nat_eq (key_of c.at) (key_of at)) (passed_key (key_of at) cs) none).1 (k, omega (arith, within), is)

-- a cell has one kind
kind_from : ℕ → CellKind
kind_from n = cond (nat_eq n 1) Primary (cond (nat_eq n 2) Chain (cond (nat_eq n 3) Quota Volume))

kind_back : (k : CellKind) → kind_from (kind_number k) ≡ k
unfolding kind_from
kind_back Primary = refl
kind_back Chain = refl
kind_back Quota = refl
kind_back Volume = refl

pub one_kind : (a b : CellKind) → kind_number a ≡ kind_number b → a ≡ b
one_kind a b same = sym (kind_back a) ∙ ap kind_from same ∙ kind_back b

some_is : (a b : List ℕ) → Some a ≡ Some b → a ≡ b
some_is a b same = cc

kinds_same : (pages : Pages) (at : CellAt) (head : CellHead) (cell : Cell) → HasHeadAt pages at head → StandsAt pages at cell → head.kind ≡ cell.head.kind
kinds_same pages at head cell has stands =
    let bytes : has.bytes ≡ stands.bytes = some_is has.bytes stands.bytes (sym has.there ∙ stands.there) in
    one_kind head.kind cell.head.kind (sym has.is.kind ∙ ap (number_at 1 15) bytes ∙ stands.is.head.kind)

all_push : (cells : List PlacedCell) (c : PlacedCell) → AllByRecursion (λ (c : PlacedCell). IsKeyed c.at) cells → IsKeyed c.at → AllByRecursion (λ (c : PlacedCell). IsKeyed c.at) (cells ++ c ∷ [])
all_push [] c all new = (new, tt)
all_push (x ∷ cells) c all new = (all.0, all_push cells c all.1 new)

records-push : (cells : List PlacedCell) (c : PlacedCell) → records_of (cells ++ c ∷ []) ≡ records_of cells ++ c.cell.records
records-push [] c = append-nil c.cell.records
records-push (x ∷ cells) c = ap (λ (rs : List Record). x.cell.records ++ rs) (records-push cells c) ∙ sym (append_assoc x.cell.records (records_of cells) c.cell.records)

-- what a set has after one number more was put into it
one_more_seen : (q key : ℕ) (had : Bool) → cond (nat_eq key q) true had ≡ (had || nat_eq key q)
one_more_seen q key had = either (nat_eq key q) had
  where
    either : (b had : Bool) → cond b true had ≡ (had || b)
    either true true = refl
    either true false = refl
    either false true = refl
    either false false = refl

pub walk_begins : (pages : Pages) (start : CellAt) (head : CellHead) (records : List Record) (seen : ℕ → Bool) → IsKeyed start → StandsAt pages start (record { head = head; records = records })
    → ((q : ℕ) → seen q ≡ cond (nat_eq (key_of start) q) true false) → IsWalk pages start records seen start head.kind head.next
walk_begins pages start head records seen keyed stands known = record {
  passed = [];
  cell = record { head = head; records = records };
  path = begins (record { head = head; records = records }) stands;
  of_kind = refl;
  leads = refl;
  read = sym (append-nil records);
  known = λ q. known q ∙ one_more_seen q (key_of start) false ∙ or_last (nat_eq (key_of start) q);
  keyed = (keyed, tt);
}
  where
    or_last : (b : Bool) → (false || b) ≡ (b || false)
    or_last true = refl
    or_last false = refl

module _ (pages : Pages) (start : CellAt) (records : List Record) (seen : ℕ → Bool) (last : CellAt) (kind : CellKind) where
  pub walk_ends : IsWalk pages start records seen last kind None → ReadsChain pages start records
  walk_ends walk = (
    walk.passed ++ record { at = last; cell = walk.cell } ∷ [],
    record { passed = walk.passed; last = record { at = last; cell = walk.cell }; path = walk.path; ends = walk.leads; all = refl },
    walk.read,
  )

  module _ (at : CellAt) (walk : IsWalk pages start records seen last kind (Some at)) (keyed : IsKeyed at) where
    there : seen (key_of at) ≡ true → Contains (places (walk.passed ++ record { at = last; cell = walk.cell } ∷ [])) at
    there is = seen_is (walk.passed ++ record { at = last; cell = walk.cell } ∷ []) at walk.keyed keyed (sym (walk.known (key_of at)) ∙ is)

    fresh : seen (key_of at) ≡ false → ¬ Contains (places (walk.passed ++ record { at = last; cell = walk.cell } ∷ [])) at
    fresh none = unseen (walk.passed ++ record { at = last; cell = walk.cell } ∷ []) at (sym (walk.known (key_of at)) ∙ none)

    pub walk_astray : LeadsOn pages (seen (key_of at)) kind at false → IsBroken pages start last
    walk_astray wrong = astray walk.passed (record { at = last; cell = walk.cell }) at walk.path walk.leads
        (⊎_elim (λ back. inl (there back)) (λ none. inr (λ head has. ap (λ k. may_follow k head.kind) walk.of_kind ∙ none head has)) wrong)

    pub walk_bad : LeadsOn pages (seen (key_of at)) kind at true → ((cell : Cell) → ¬ StandsAt pages at cell) → IsBroken pages start at
    walk_bad right none = bad_cell walk.passed (record { at = last; cell = walk.cell }) at right.1.0 walk.path walk.leads (fresh right.0) right.1.1
        (ap (λ k. may_follow k right.1.0.kind) walk.of_kind ∙ right.1.2) none

    pub walk_on : (head : CellHead) (more new : List Record) (seen' : ℕ → Bool) → LeadsOn pages (seen (key_of at)) kind at true → StandsAt pages at (record { head = head; records = more })
        → new ≡ records ++ more → ((q : ℕ) → seen' q ≡ cond (nat_eq (key_of at) q) true (seen q)) → IsWalk pages start new seen' at head.kind head.next
    walk_on head more new seen' right stands read known =
        let cell : Cell = record { head = head; records = more } in
        let cells = walk.passed ++ record { at = last; cell = walk.cell } ∷ [] in
        let placed : PlacedCell = record { at = at; cell = cell } in
        record {
          passed = cells;
          cell = cell;
          path = goes_on walk.passed (record { at = last; cell = walk.cell }) at cell walk.path walk.leads (fresh right.0) stands
              (ap (λ k. may_follow k head.kind) walk.of_kind ∙ ap (may_follow kind) (sym (kinds_same pages at right.1.0 cell right.1.1 stands)) ∙ right.1.2);
          of_kind = refl;
          leads = refl;
          read = read ∙ ap (λ (rs : List Record). rs ++ more) walk.read ∙ sym (records-push cells placed);
          known = λ q. known q ∙ one_more_seen q (key_of at) (seen q) ∙ ap (λ b. b || nat_eq (key_of at) q) (walk.known q) ∙ one_more cells placed q;
          keyed = all_push cells placed walk.keyed keyed;
        }
      where
        or_last : (b : Bool) → (false || b) ≡ (b || false)
        or_last true = refl
        or_last false = refl

        or_assoc : (a b d : Bool) → ((a || b) || d) ≡ (a || (b || d))
        or_assoc true b d = refl
        or_assoc false b d = refl

        one_more : (cells : List PlacedCell) (c : PlacedCell) (q : ℕ) → (passed_key q cells || nat_eq (key_of c.at) q) ≡ passed_key q (cells ++ c ∷ [])
        one_more [] c q = or_last (nat_eq (key_of c.at) q)
        one_more (x ∷ cells) c q = or_assoc (nat_eq (key_of x.at) q) (passed_key q cells) (nat_eq (key_of c.at) q) ∙ ap (λ b. nat_eq (key_of x.at) q || b) (one_more cells c q)
