-- Rows that have the name of an earlier one, by their list.
use Rattle.std.proofs.Common.{◌≡◌, ◌∙◌, ◌⊎◌, ◌↔◌, inl, inr, ℕ, ◌+◌, ◌<◌, ◌≤◌, List, length, Some, slice_get, refl, sym, ap, subst, arith, ⊎_elim}
use Rattle.std.proofs.lemmas.Bool.{cases_lt, cases_order}
use Rattle.std.proofs.lemmas.Option.{slice_get_within}
use Rattle.fileset_shapes.specs.domain_base.declared.place.Home.{Home}
use Rattle.fileset_shapes.specs.page_store.Pages.{Pages}
use Rattle.fileset_shapes.specs.directory_pages.declared.row.Row.{Row}
use Rattle.fileset_shapes.specs.fileset_table.Table.{Table}
use Rattle.fileset_shapes.specs.domain_layout.DirectoryRules.{IsEarlier, IsRow, RowPlace}
use Rattle.fileset_shapes.specs.domain_layout.Reached.{Frame}
use Rattle.directory_faults.specs.Names.{HasNameTwice, IsNamedBefore}
use Rattle.directory_faults.specs.Rows.{AreRowsIn, place_of}
use Rattle.directory_faults.specs.declared.rows.RowThere.{RowThere}
use Rattle.directory_faults.proofs.Inserted.{among_at, at_among}

-- a row at a place of a list has the name of one in front of it, and stands on the page at a home
abbrev pub IsLater : List RowThere → ℕ → RowThere → Home → Type 0
IsLater rows number r home = IsNamedBefore rows number r × (home ≡ r.at.home)

-- ---- homes that are put into a set, row by row

abbrev pub IsLaterBelow : List RowThere → ℕ → Home → Type 0
IsLaterBelow rows number home = (k : ℕ) × (r : RowThere) × (k < number) × (slice_get rows k ≡ Some r) × IsLater rows k r home

abbrev pub AreLaterIn : List RowThere → (Home → Type 0) → (Home → Type 0) → ℕ → Type 0
AreLaterIn rows old new number = (home : Home) → new home ↔ (old home ⊎ IsLaterBelow rows number home)

pub none_later : (rows : List RowThere) (old : Home → Type 0) → AreLaterIn rows old old 0
none_later rows old home = ((λ is. inl is), (λ which. ⊎_elim (λ is. is) (λ (k, r, below, at, later). absurd (omega (arith, below))) which))

pub same_row : (a b : RowThere) → Some a ≡ Some b → a ≡ b
same_row a b e = cc

module _ (rows : List RowThere) (old new : Home → Type 0) (number : ℕ) (r : RowThere) (at : slice_get rows number ≡ Some r) (are : AreLaterIn rows old new number) where
  pub one_later : (more : Home → Type 0) → IsNamedBefore rows number r → ((home : Home) → more home ↔ (new home ⊎ (home ≡ r.at.home))) → AreLaterIn rows old more (number + 1)
  one_later more before put home = (
    λ is. ⊎_elim (λ earlier. ⊎_elim (λ first. inl first) (λ (k, one, below, there, later). inr (k, one, omega (arith, below), there, later)) ((are home).0 earlier))
        (λ same. inr (number, r, omega arith, at, (before, same))) ((put home).0 is),
    λ which. (put home).1 (⊎_elim (λ first. inl ((are home).1 (inl first))) (λ said. last said) which),
  )
    where
      last : IsLaterBelow rows (number + 1) home → new home ⊎ (home ≡ r.at.home)
      last (k, one, below, there, (named, same)) =
          ⊎_elim (λ low. inl ((are home).1 (inr (k, one, low, there, (named, same)))))
          (λ high.
          let here : k ≡ number = omega (arith, below, high) in
          let alike : one ≡ r = same_row one r (sym there ∙ ap (slice_get rows) here ∙ at) in
          inr (same ∙ ap (λ (t : RowThere). t.at.home) alike))
          (cases_lt k number)

  pub one_right : ¬ IsNamedBefore rows number r → AreLaterIn rows old new (number + 1)
  one_right right home = (
    λ is. ⊎_elim (λ first. inl first) (λ (k, one, below, there, later). inr (k, one, omega (arith, below), there, later)) ((are home).0 is),
    λ which. (are home).1 (⊎_elim (λ first. inl first) (λ said. inr (last said)) which),
  )
    where
      last : IsLaterBelow rows (number + 1) home → IsLaterBelow rows number home
      last (k, one, below, there, (named, same)) =
          ⊎_elim (λ low. (k, one, low, there, (named, same)))
          (λ high.
          let here : k ≡ number = omega (arith, below, high) in
          let alike : one ≡ r = same_row one r (sym there ∙ ap (slice_get rows) here ∙ at) in
          absurd (right (subst (λ n. IsNamedBefore rows n r) here (subst (IsNamedBefore rows k) alike named))))
          (cases_lt k number)

not_earlier : (a b : RowPlace) → IsEarlier a b → ¬ IsEarlier b a
not_earlier a b (inl less) (inl more) = omega (arith, less, more)
not_earlier a b (inl less) (inr (same, low)) = omega (arith, less, same)
not_earlier a b (inr (same, low)) (inl more) = omega (arith, same, more)
not_earlier a b (inr (same, low)) (inr (also, high)) = omega (arith, low, high)

not_itself : (a : RowPlace) → ¬ IsEarlier a a
not_itself a (inl less) = omega (arith, less)
not_itself a (inr (same, low)) = omega (arith, low)

module _ (pages : Pages) (frame : Frame) (table : Table) (number : ℕ) (rows : List RowThere) (are : AreRowsIn pages frame table number rows) (home : Home) where
  -- a row of the list at some place is so
  abbrev pub IsSomeLater : Type 0
  IsSomeLater = (k : ℕ) × (r : RowThere) × (slice_get rows k ≡ Some r) × IsLater rows k r home

  to_rule : IsSomeLater → HasNameTwice pages frame table number home
  to_rule (k, r, at, (before, same)) = record {
    early = place_of before.1;
    late = place_of r;
    one = before.1.row;
    other = r.row;
    first_home = before.1.at.home;
    is_early = (are.each before.1).0 (at_among rows before.0 before.1 before.3);
    is_late = subst (IsRow pages frame table number (place_of r) r.row) (sym same) ((are.each r).0 (at_among rows k r at));
    same = before.4.0;
    order = are.order before.0 k before.1 r before.3 at before.2 before.4.0;
    names = before.4.1;
  }

  abbrev as_read : RowPlace → Home → Row → RowThere
  as_read at there row = record { at = record { dir = at.dir; page = at.page; home = there }; place = at.place; row = row }

  abbrev first_of : HasNameTwice pages frame table number home → RowThere
  first_of twice = as_read twice.early twice.first_home twice.one

  abbrev second_of : HasNameTwice pages frame table number home → RowThere
  second_of twice = as_read twice.late home twice.other

  from_rule : HasNameTwice pages frame table number home → IsSomeLater
  from_rule twice = by_order (cases_order a.0 b.0)
    where
      a : (k : ℕ) × (slice_get rows k ≡ Some (first_of twice))
      a = among_at rows (first_of twice) ((are.each (first_of twice)).1 twice.is_early)

      b : (k : ℕ) × (slice_get rows k ≡ Some (second_of twice))
      b = among_at rows (second_of twice) ((are.each (second_of twice)).1 twice.is_late)

      some_same : (x y : RowThere) → Some x ≡ Some y → x ≡ y
      some_same x y e = cc

      by_order : (a.0 ≡ b.0) ⊎ ((a.0 < b.0) ⊎ (b.0 < a.0)) → IsSomeLater
      by_order (inl same) =
          let alike : (first_of twice) ≡ (second_of twice) = some_same (first_of twice) (second_of twice) (sym a.1 ∙ ap (slice_get rows) same ∙ b.1) in
          absurd (not_itself twice.late (subst (λ (p : RowPlace). IsEarlier p twice.late) (ap place_of alike) twice.order))
      by_order (inr (inl less)) = (b.0, (second_of twice), b.1, ((a.0, (first_of twice), less, a.1, (twice.same, twice.names)), refl))
      by_order (inr (inr more)) =
          absurd (not_earlier twice.early twice.late twice.order (are.order b.0 a.0 (second_of twice) (first_of twice) b.1 a.1 more (sym twice.same)))

  pub all_names : (old new : Home → Type 0) (count : ℕ) → length rows ≤ count → AreLaterIn rows old new count → new home ↔ (old home ⊎ HasNameTwice pages frame table number home)
  all_names old new count whole said = (
    λ is. ⊎_elim (λ first. inl first) (λ (k, r, below, at, later). inr (to_rule (k, r, at, later))) ((said home).0 is),
    λ which. (said home).1 (⊎_elim (λ first. inl first) (λ twice. inr (below_all (from_rule twice))) which),
  )
    where
      below_all : IsSomeLater → IsLaterBelow rows count home
      below_all (k, r, at, later) = let within = slice_get_within rows k r at in (k, r, omega (arith, within, whole), at, later)
