-- What pages are held for once pages of an index come or go.
use Rattle.std.proofs.Common.{◌≡◌, ◌∙◌, ⊎_elim, ℕ, ◌≤◌, ◌<◌, Bool, true, false, cond, List, Option, Some, None, IsSomeAnd, Contains, slice_get, refl, sym, ap, subst, arith}
use Rattle.std.proofs.lemmas.Bool.{both_ways, cases_Bool, false_from_ne_true, true≢false}
use Rattle.std.specs.FinSet.{contains}
use Rattle.domain_standing.specs.domain_base.declared.place.CellAt.{CellAt}
use Rattle.domain_standing.specs.domain_base.declared.place.Home.{Home}
use Rattle.domain_standing.specs.page_store.Pages.{Pages}
use Rattle.domain_standing.specs.metadata_cells.Chain.{is_at}
use Rattle.domain_standing.specs.free_space.Spaces.{Spaces, volume_of}
use Rattle.domain_standing.specs.free_space.VolumeSpace.{IsFreePage, VolumeSpace, is_waiting}
use Rattle.domain_standing.proofs.OfFileChains.ChainChanges.{at_same}
use Rattle.domain_standing.specs.release_list.Standing.{Files}
use Rattle.domain_standing.proofs.OfReleaseList.Standings.{at_itself}
use Rattle.domain_standing.specs.domain_layout.Filled.{Contents}
use Rattle.domain_standing.specs.Chains.{IndexesAt}
use Rattle.domain_standing.specs.Domain.{DomainNow}
use Rattle.domain_standing.specs.Holders.{AreHeldAt, AreHeldOn, Holder, Holds, HoldsOwned, IsUnheld}
use Rattle.domain_standing.specs.Holders.Holder.{of_cells, of_file, of_index, of_log, of_table, of_tags, of_volume}
use Rattle.standing_laws.specs.Leads.{StandsBelow}
use Rattle.standing_laws.proofs.IndexSpaces.{ThereMoves, VolumeMoves}
use Rattle.standing_laws.proofs.HomeLists.{get_in, in_get}
use Rattle.standing_laws.proofs.IndexTold.{Told, files_now, fresh, indexes_now, led, of_it, same_places}

module _ (d : DomainNow) (files : Files) (indexes : IndexesAt) (below : StandsBelow d files indexes) (pages : Pages) (contents : Contents) (space : Spaces) (homes : List Home) (t : Told d files indexes pages space homes) where
  abbrev start : CellAt
  start = t.first.at

  abbrev now : DomainNow
  now = led d files indexes below pages contents space homes t

  abbrev files_then : Files
  files_then = files_now d files indexes below pages contents space homes t

  abbrev indexes_then : IndexesAt
  indexes_then = indexes_now d files indexes below pages contents space homes t

  abbrev Was : Holder → Home → Type 0
  Was = Holds d files indexes

  abbrev Is : Holder → Home → Type 0
  Is = Holds now files_then indexes_then

  -- the index
  abbrev is_it : Holder → Bool
  is_it (of_index at k) = is_at at start
  is_it h = false

  its_homes : (at : CellAt) → is_at at start ≡ true → indexes_then at ≡ homes
  its_homes at same = ap (λ (b : Bool). cond b homes (indexes at)) same

  other_homes : (at : CellAt) → is_at at start ≡ false → indexes_then at ≡ indexes at
  other_homes at other = ap (λ (b : Bool). cond b homes (indexes at)) other

  -- what is held for something else is so as before
  other_back : (h : Holder) (home : Home) → is_it h ≡ false → Is h home → Was h home
  other_back of_volume home other is = is
  other_back of_log home other is = is
  other_back of_table home other is = is
  other_back of_cells home other is = is
  other_back (of_tags n) home other is = is
  other_back (of_index at k) home other is = subst (λ (hs : List Home). slice_get hs k ≡ Some home) (other_homes at other) is
  other_back (of_file at page) home other is = sym (same_places d files indexes below pages contents space homes t at page) ∙ is

  other_on : (h : Holder) (home : Home) → is_it h ≡ false → Was h home → Is h home
  other_on of_volume home other was = was
  other_on of_log home other was = was
  other_on of_table home other was = was
  other_on of_cells home other was = was
  other_on (of_tags n) home other was = was
  other_on (of_index at k) home other was = subst (λ (hs : List Home). slice_get hs k ≡ Some home) (sym (other_homes at other)) was
  other_on (of_file at page) home other was = same_places d files indexes below pages contents space homes t at page ∙ was

  -- the holder that is the index
  data Its : Holder → Type 0 where
    its : (k : ℕ) → Its (of_index start k)

  of_its : (h : Holder) → is_it h ≡ true → Its h
  of_its of_volume same = absurd (true≢false (sym same))
  of_its of_log same = absurd (true≢false (sym same))
  of_its of_table same = absurd (true≢false (sym same))
  of_its of_cells same = absurd (true≢false (sym same))
  of_its (of_tags n) same = absurd (true≢false (sym same))
  of_its (of_index at k) same = subst (λ (a : CellAt). Its (of_index a k)) (sym (at_same at start same)) (its k)
  of_its (of_file at page) same = absurd (true≢false (sym same))

  it_is : (k : ℕ) → is_it (of_index start k) ≡ true
  it_is k = at_itself start

  its_now : (k : ℕ) (home : Home) → Is (of_index start k) home → slice_get homes k ≡ Some home
  its_now k home is = subst (λ (hs : List Home). slice_get hs k ≡ Some home) (its_homes start (at_itself start)) is

  its_on : (k : ℕ) (home : Home) → slice_get homes k ≡ Some home → Is (of_index start k) home
  its_on k home is = subst (λ (hs : List Home). slice_get hs k ≡ Some home) (sym (its_homes start (at_itself start))) is

  in_homes : (h : Holder) (home : Home) → Its h → Is h home → Contains homes home
  in_homes _ home (its k) is = get_in homes k home (its_now k home is)

  in_indexes : (h : Holder) (home : Home) → Its h → Was h home → Contains (indexes start) home
  in_indexes _ home (its k) was = get_in (indexes start) k home was

  -- a page of the index is held for nothing else
  not_both : (one other : Holder) (home : Home) → is_it one ≡ true → is_it other ≡ false → Is one home → Is other home → ⊥
  not_both one other home same apart a b = ⊎_elim
      (λ inside.
      let it = of_it d files indexes below pages contents space homes t home inside in
      both_ways (is_it other) apart (ap is_it (below.owned.once home other (of_index start it.0) (other_back other home apart b) it.1) ∙ it_is it.0))
      (λ comes. fresh d files indexes below pages contents space homes t home comes other (other_back other home apart b))
      (t.back home (in_homes one home (of_its one same) a))

  its_once : (one other : Holder) (home : Home) → Its one → Its other → Is one home → Is other home → one ≡ other
  its_once _ _ home (its j) (its k) a b = ap (of_index start) (t.once j k home (its_now j home a) (its_now k home b))

  once : (home : Home) (one other : Holder) → Is one home → Is other home → one ≡ other
  once home one other a b = by_tests (is_it one) (is_it other) refl refl
    where
      by_tests : (x y : Bool) → is_it one ≡ x → is_it other ≡ y → one ≡ other
      by_tests true true x y = its_once one other home (of_its one x) (of_its other y) a b
      by_tests true false x y = absurd (not_both one other home x y a b)
      by_tests false true x y = absurd (not_both other one home y x b a)
      by_tests false false x y = below.owned.once home one other (other_back one home x a) (other_back other home y b)

  -- ---- what is held for nothing

  -- it was so, but where it goes
  unheld_was : (home : Home) → IsUnheld now files_then indexes_then home → ¬ t.goes home → IsUnheld d files indexes home
  unheld_was home unheld stays h was = by_test (is_it h) refl
    where
      by_test : (x : Bool) → is_it h ≡ x → ⊥
      by_test true x = ⊎_elim
          (λ inside. let k = in_get homes home inside in unheld (of_index start k.0) (its_on k.0 home k.1))
          stays
          (t.on home (in_indexes h home (of_its h x) was))
      by_test false x = unheld h (other_on h home x was)

  -- what was held for nothing is so, but where it comes
  unheld_now : (home : Home) → IsUnheld d files indexes home → ¬ t.comes home → IsUnheld now files_then indexes_then home
  unheld_now home unheld stays h is = by_test (is_it h) refl
    where
      by_test : (x : Bool) → is_it h ≡ x → ⊥
      by_test true x = ⊎_elim
          (λ inside. let it = of_it d files indexes below pages contents space homes t home inside in unheld (of_index start it.0) it.1)
          stays
          (t.back home (in_homes h home (of_its h x) is))
      by_test false x = unheld h (other_back h home x is)

  -- what comes is held for the index
  comes_held : (home : Home) → t.comes home → IsUnheld now files_then indexes_then home → ⊥
  comes_held home comes unheld = let k = in_get homes home (t.came home comes).0 in unheld (of_index start k.0) (its_on k.0 home k.1)

  -- what goes is held for nothing
  goes_unheld : (home : Home) → t.goes home → IsUnheld now files_then indexes_then home
  goes_unheld home goes h is = by_test (is_it h) refl
    where
      by_test : (x : Bool) → is_it h ≡ x → ⊥
      by_test true x = (t.gone home goes).1 (in_homes h home (of_its h x) is)
      by_test false x =
          let it = of_it d files indexes below pages contents space homes t home (t.gone home goes).0 in
          both_ways (is_it h) x (ap is_it (below.owned.once home h (of_index start it.0) (other_back h home x is) it.1) ∙ it_is it.0)

  -- ---- free space

  module _ (vol : ℕ) (low : 1 ≤ vol) (v w : VolumeSpace) (there : volume_of d.space vol ≡ Some v) (held : AreHeldOn d files indexes vol v) (moves : VolumeMoves vol t.comes t.goes v w) where
    abbrev at : ℕ → Home
    at page = record { vol = vol; page = page }

    -- a page that comes was free
    came_free : (page : ℕ) → t.comes (at page) → (contains v.used page ≡ false) × (is_waiting v page ≡ false)
    came_free page comes = let free = subst (λ (o : Option VolumeSpace). IsSomeAnd o (λ x. (x.is_open ≡ true) × IsFreePage x page)) there (t.came (at page) comes).1.1 in (free.1.unused, free.1.settled)

    -- a page that goes was used
    gone_used : (page : ℕ) → page < v.pages → t.goes (at page) → contains v.used page ≡ true
    gone_used page within goes = ⊎_elim
        (λ used. used)
        (λ unused.
        let it = of_it d files indexes below pages contents space homes t (at page) (t.gone (at page) goes).0 in
        absurd (((held.free page within).0 unused).0 (of_index start it.0) it.1))
        (cases_Bool (contains v.used page))

    free_then : (page : ℕ) → page < w.pages → contains w.used page ≡ false → IsUnheld now files_then indexes_then (at page) × (is_waiting w page ≡ false)
    free_then page within unused =
        let before : page < v.pages = (let p = moves.pages in omega (arith, within, p)) in
        let no_come : ¬ t.comes (at page) = λ comes. both_ways (contains w.used page) unused (moves.used_more page comes) in
        let was_unused : contains v.used page ≡ false = false_from_ne_true (contains v.used page) (λ used. both_ways (contains w.used page) unused (moves.used_on page used)) in
        let was = (held.free page before).0 was_unused in (
          unheld_now (at page) was.0 no_come,
          false_from_ne_true (is_waiting w page) (λ waits. ⊎_elim (λ did. both_ways (is_waiting v page) was.1 did) (λ goes. both_ways (contains v.used page) was_unused (gone_used page before goes)) (moves.waits_back page waits)),
        )

    then_free : (page : ℕ) → page < w.pages → IsUnheld now files_then indexes_then (at page) × (is_waiting w page ≡ false) → contains w.used page ≡ false
    then_free page within is =
        let before : page < v.pages = (let p = moves.pages in omega (arith, within, p)) in
        let no_go : ¬ t.goes (at page) = λ goes. both_ways (is_waiting w page) is.1 (moves.waits_more page goes) in
        let settled : is_waiting v page ≡ false = false_from_ne_true (is_waiting v page) (λ waits. both_ways (is_waiting w page) is.1 (moves.waits_on page waits)) in
        let unused = (held.free page before).1 (unheld_was (at page) is.0 no_go, settled) in
        false_from_ne_true (contains w.used page) (λ used. ⊎_elim (λ was. both_ways (contains v.used page) unused was) (λ comes. comes_held (at page) comes is.0) (moves.used_back page used))

    still_held : AreHeldOn now files_then indexes_then vol w
    still_held = record {
      count = moves.pages ∙ held.count;
      opened = ((λ is. held.opened.0 (sym moves.opened ∙ is)), (λ is. moves.opened ∙ held.opened.1 is));
      free = λ page within. (free_then page within, then_free page within);
      waits = λ page waiting. ⊎_elim
          (λ did. unheld_now (at page) (held.waits page did) (λ comes. both_ways (is_waiting v page) (came_free page comes).1 did))
          (goes_unheld (at page))
          (moves.waits_back page waiting);
    }

  spaces : (vol : ℕ) → 1 ≤ vol → AreHeldAt now files_then indexes_then vol (volume_of space vol)
  spaces vol low = by_volumes (volume_of d.space vol) (volume_of space vol) refl (below.owned.spaces vol low) (t.spaces vol low)
    where
      by_volumes : (a b : Option VolumeSpace) → volume_of d.space vol ≡ a → AreHeldAt d files indexes vol a → ThereMoves vol t.comes t.goes a b
          → AreHeldAt now files_then indexes_then vol b
      by_volumes None None there none moves = none
      by_volumes None (Some w) there none moves = absurd moves
      by_volumes (Some v) None there held moves = absurd moves
      by_volumes (Some v) (Some w) there held moves = (held.0, still_held vol low v w there held.1 moves)

  pub owned_told : HoldsOwned now files_then indexes_then
  owned_told = record { once = once; spaces = spaces }
