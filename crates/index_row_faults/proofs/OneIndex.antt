-- What is put into a set of one index is what is wrong with it.
use Rattle.std.proofs.Common.{◌≡◌, ◌∙◌, ◌⊎◌, ◌↔◌, inl, inr, ℕ, ◌+◌, ◌<◌, ◌≤◌, ◌==◌, Bool, true, List, length, Option, Some, None, Contains, IsTrue, map, slice_get, refl, sym, ap, subst, arith, ⊎_elim}
use Rattle.std.specs.BTreeMap.{BTreeMap}
use Rattle.std.specs.List.{count_by}
use Rattle.std.proofs.lemmas.Bool.{and_parts, eqb-true}
use Rattle.page_faults.specs.domain_base.declared.place.Home.{Home}
use Rattle.page_faults.specs.page_store.Pages.{Pages}
use Rattle.page_faults.specs.domain_layout.Reached.{Frame, index_way}
use Rattle.page_faults.specs.page_ways.Walk.{AreRead}
use Rattle.directory_faults.proofs.Counted.{counted_some}
use Rattle.directory_faults.proofs.Inserted.{at_among}
use Rattle.index_row_faults.specs.Counts.{AreCounts, count_in, is_key}
use Rattle.index_row_faults.specs.Entries.{IsLateBefore, entries_on}
use Rattle.index_row_faults.specs.Totals.{AreGoodPages, HasSurplus, IsLacking, IsShort, IsSurplusAt, IsWrongBy, key_of}
use Rattle.index_row_faults.specs.declared.entries.EntryAt.{EntryAt}
use Rattle.index_row_faults.specs.declared.there.IndexThere.{IndexThere}
use Rattle.index_row_faults.proofs.Flat.{same_lists}

none_some : {X : Type 0} (x : X) → None ≡ Some x → ⊥
none_some x e = cc

-- options that have the same are the same
same_options : {X : Type 0} (a b : Option X) → ((x : X) → a ≡ Some x → b ≡ Some x) → ((x : X) → b ≡ Some x → a ≡ Some x) → a ≡ b
same_options None None to from = refl
same_options None (Some y) to from = absurd (none_some y (from y refl))
same_options (Some x) b to from = sym (to x refl)

module _ (pages : Pages) (frame : Frame) (keys : List (ℕ × ℕ)) (index : IndexThere) where
  -- by the pages of the index
  abbrev pub IsWrongOf : List Home → Option Home → Home → Type 0
  IsWrongOf homes unread home = IsLateBefore (entries_on pages homes) (length (entries_on pages homes)) home
      ⊎ HasSurplus keys (entries_on pages homes) home
      ⊎ ((home ≡ index.first) × (unread ≡ None) × AreGoodPages pages homes × IsShort keys (entries_on pages homes) index.total)

  pub by_read : (homes : List Home) (unread : Option Home) → AreRead pages frame (index_way index.first) homes unread → (home : Home) → IsWrongOf homes unread home ↔ IsWrongBy pages frame keys index home
  by_read homes unread read home = (
    λ wrong. record { homes = homes; unread = unread; read = read; wrong = wrong },
    λ by.
        let same = same_lists by.homes homes (λ k h at. (read.each k h).1 ((by.read.each k h).0 at)) (λ k h at. (by.read.each k h).1 ((read.each k h).0 at)) in
        let also = same_options by.unread unread (λ h is. (read.wrong h).1 ((by.read.wrong h).0 is)) (λ h is. (by.read.wrong h).1 ((read.wrong h).0 is)) in
        subst (λ (u : Option Home). IsWrongOf homes u home) also (subst (λ (hs : List Home). IsWrongOf hs by.unread home) same by.wrong),
  )

module _ (keys : List (ℕ × ℕ)) (entries : List EntryAt) (in_rows in_entries : BTreeMap (ℕ × ℕ) ℕ) (of_rows : AreCounts keys in_rows) (of_entries : AreCounts (map key_of entries) in_entries) where
  more_rows : (hash page : ℕ) → (count_in in_rows hash page < count_in in_entries hash page) ↔ (count_by (is_key hash page) keys < count_by (is_key hash page) (map key_of entries))
  more_rows hash page =
      let rows = of_rows hash page in
      let its = of_entries hash page in
      ((λ less. omega (arith, less, rows, its)), (λ less. omega (arith, less, rows, its)))

  by_surplus : (home : Home) → ((at : EntryAt) × Contains entries at × IsSurplusAt in_rows in_entries at home) ↔ HasSurplus keys entries home
  by_surplus home = (
    λ (at, among, (less, same)). (at, among, (more_rows at.entry.hash at.entry.page).0 less, same),
    λ (at, among, less, same). (at, among, ((more_rows at.entry.hash at.entry.page).1 less, same)),
  )

  abbrev HasLacking : Type 0
  HasLacking = (key : ℕ × ℕ) × Contains keys key × IsLacking in_rows in_entries key

  abbrev IsShortOf : Type 0
  IsShortOf = (hash : ℕ) × (page : ℕ) × (count_by (is_key hash page) (map key_of entries) < count_by (is_key hash page) keys)

  by_lacking : HasLacking ↔ IsShortOf
  by_lacking = (
    λ (key, among, less).
        let rows = of_rows key.0 key.1 in
        let its = of_entries key.0 key.1 in
        (key.0, key.1, omega (arith, less, rows, its)),
    λ (hash, page, less).
        let rows = of_rows hash page in
        let its = of_entries hash page in
        let (k, key, there, passes) = counted_some (is_key hash page) keys (omega (arith, less)) in
        let both = and_parts (key.0 == hash) (key.1 == page) passes in
        let lacks : count_in in_entries hash page < count_in in_rows hash page = omega (arith, less, rows, its) in (
          key,
          at_among keys k key there,
          subst (λ n. count_in in_entries key.0 n < count_in in_rows key.0 n) (sym (eqb-true key.1 page both.1))
              (subst (λ n. count_in in_entries n page < count_in in_rows n page) (sym (eqb-true key.0 hash both.0)) lacks),
        ),
  )

  -- the total is not the number of entries, or else a row lacks one
  pub other_total : (total : ℕ) → ¬ total ≡ length entries → IsShort keys entries total
  other_total total other = inl other

  pub is_lacking : (total : ℕ) (lacks : Bool) → total ≡ length entries → IsTrue lacks ↔ HasLacking → IsTrue lacks ↔ IsShort keys entries total
  is_lacking total lacks same says = (
    λ is. inr (by_lacking.0 (says.0 is)),
    λ short. says.1 (by_lacking.1 (⊎_elim (λ other. absurd (other same)) (λ less. less) short)),
  )

  -- what is put into the set, one after the other
  pub surplus_put : (old mid new : Home → Type 0) → ((home : Home) → mid home ↔ (old home ⊎ IsLateBefore entries (length entries) home))
      → ((home : Home) → new home ↔ (mid home ⊎ ((at : EntryAt) × Contains entries at × IsSurplusAt in_rows in_entries at home)))
      → (home : Home) → new home ↔ (old home ⊎ IsLateBefore entries (length entries) home ⊎ HasSurplus keys entries home)
  surplus_put old mid new late more home = (
    λ is. ⊎_elim (λ first. ⊎_elim (λ before. inl before) (λ low. inr (inl low)) ((late home).0 first)) (λ many. inr (inr ((by_surplus home).0 many))) ((more home).0 is),
    λ which. (more home).1 (⊎_elim (λ before. inl ((late home).1 (inl before))) (λ some. ⊎_elim (λ low. inl ((late home).1 (inr low))) (λ many. inr ((by_surplus home).1 many)) some) which),
  )

module _ (pages : Pages) (frame : Frame) (keys : List (ℕ × ℕ)) (index : IndexThere) (homes : List Home) (unread : Option Home) (read : AreRead pages frame (index_way index.first) homes unread) (old mid new : Home → Type 0)
    (put : (home : Home) → mid home ↔ (old home ⊎ IsLateBefore (entries_on pages homes) (length (entries_on pages homes)) home ⊎ HasSurplus keys (entries_on pages homes) home)) where
  abbrev IsBadTotal : Type 0
  IsBadTotal = (unread ≡ None) × AreGoodPages pages homes × IsShort keys (entries_on pages homes) index.total

  abbrev AllIn : Type 0
  AllIn = (home : Home) → new home ↔ (old home ⊎ IsWrongBy pages frame keys index home)

  -- the first page is put
  pub first_put : IsBadTotal → ((home : Home) → new home ↔ (mid home ⊎ (home ≡ index.first))) → AllIn
  first_put bad last home =
      let by = by_read pages frame keys index homes unread read home in (
        λ is. ⊎_elim
            (λ before. ⊎_elim (λ first. inl first) (λ some. inr (by.0 (⊎_elim (λ low. inl low) (λ many. inr (inl many)) some))) ((put home).0 before))
            (λ same. let (none, good, short) = bad in inr (by.0 (inr (inr (same, none, good, short)))))
            ((last home).0 is),
        λ which. (last home).1 (⊎_elim (λ first. inl ((put home).1 (inl first)))
            (λ wrong. ⊎_elim (λ low. inl ((put home).1 (inr (inl low)))) (λ some. ⊎_elim (λ many. inl ((put home).1 (inr (inr many)))) (λ total. inr total.0) some) (by.1 wrong))
            which),
      )

  -- or it is not, as all is well there
  pub none_put : ¬ IsBadTotal → ((home : Home) → new home ↔ mid home) → AllIn
  none_put good last home =
      let by = by_read pages frame keys index homes unread read home in (
        λ is. ⊎_elim (λ first. inl first) (λ some. inr (by.0 (⊎_elim (λ low. inl low) (λ many. inr (inl many)) some))) ((put home).0 ((last home).0 is)),
        λ which. (last home).1 (⊎_elim (λ first. (put home).1 (inl first))
            (λ wrong. ⊎_elim (λ low. (put home).1 (inr (inl low))) (λ some. ⊎_elim (λ many. (put home).1 (inr (inr many))) (λ (same, none, its, short). absurd (good (none, its, short))) some) (by.1 wrong))
            which),
      )
