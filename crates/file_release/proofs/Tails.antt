-- The tail of a map by its runs.
use Rattle.std.proofs.Common.{◌≡◌, ◌∙◌, ℕ, suc, ◌+◌, ◌-◌, ◌<◌, ◌≤◌, Bool, true, false, cond, List, [], ◌∷◌, Option, Some, None, IfSome, IfNone, length, get_or, drop, refl, sym, ap, subst, arith, ⊎_elim}
use Rattle.std.proofs.lemmas.Bool.{cases_lt}
use Rattle.std.proofs.lemmas.List.{drop_more}
use Rattle.fileset_files.specs.domain_base.declared.place.Home.{Home}
use Rattle.fileset_files.specs.extent_maps.declared.run.PagePlace.{PagePlace}
use Rattle.fileset_files.specs.extent_maps.declared.run.PagePlace.TheVariants.{Absent, At, Hole}
use Rattle.fileset_files.specs.extent_maps.declared.run.Run.{Run}
use Rattle.fileset_files.specs.extent_maps.declared.run.RunPlace.TheVariants as place
use Rattle.fileset_files.specs.extent_maps.Runs.{AreRuns, Places, covers, end_of, home_at, behind, place_of, placed}
use Rattle.fileset_files.proofs.OfExtentMaps.RunLemmas.{covers_not_before, covers_not_behind, place_from}
use Rattle.fileset_files.proofs.OfExtentMaps.EditLemmas.{over, place_append}
use Rattle.file_release.specs.declared.tail.ReadPage.{ReadPage}
use Rattle.file_release.specs.declared.tail.Tail.{Tail}
use Rattle.file_release.specs.Reading.{HasPageFrom}
use Rattle.file_release.specs.Steps.{AreUnread, IsReadIn, IsReadLast, IsTail, through}
use Rattle.file_release.proofs.Given.{absent_home}
use Rattle.file_release.proofs.Walks.{in_map, in_run}

-- ---- what is not read through the file

unread_own : (own map : PagePlace) → ¬ own ≡ Absent → through own map ≡ None
unread_own Absent map own = absurd (own refl)
unread_own (At home) map own = refl
unread_own Hole map own = refl

unread_none : (own map : PagePlace) → home_at map ≡ None → through own map ≡ None
unread_none Absent map none = none
unread_none (At home) map none = refl
unread_none Hole map none = refl

unread_over : (own a b : PagePlace) → through own a ≡ None → through own b ≡ None → through own (over a b) ≡ None
unread_over own Absent b first second = second
unread_over own (At home) b first second = first
unread_over own Hole b first second = first

-- a page that a run does not have
none_outside : (run : Run) (page : ℕ) → covers run page ≡ false → home_at (place_of (run ∷ []) page) ≡ None
none_outside run page lacks = ap (λ b. home_at (cond b (placed (behind (page - run.page) run.first)) Absent)) lacks

-- holes
pub unread_holes : (run : Run) (from frozen : ℕ) (own : Places) → run.first ≡ place.Holes → AreUnread from frozen own (place_of (run ∷ []))
unread_holes run from frozen own holes page begins is_frozen = unread_none (own page) (place_of (run ∷ []) page) (by_cover (covers run page))
  where
    by_cover : (b : Bool) → home_at (cond b (placed (behind (page - run.page) run.first)) Absent) ≡ None
    by_cover true = ap (λ x. home_at (placed (behind (page - run.page) x))) holes
    by_cover false = refl

-- from a page on the reader has all that are frozen, up to the run's end
pub unread_from : (run : Run) (from frozen end to : ℕ) (own : Places) → end ≤ from → ((page : ℕ) → page < end_of run → page < frozen → page < to) → ((page : ℕ) → end ≤ page → page < to → ¬ own page ≡ Absent) → AreUnread from frozen own (place_of (run ∷ []))
unread_from run from frozen end to own less most there page begins is_frozen = ⊎_elim
    (λ before. unread_own (own page) (place_of (run ∷ []) page) (there page (omega (arith, less, begins)) (most page before is_frozen)))
    (λ past. unread_none (own page) (place_of (run ∷ []) page) (none_outside run page (covers_not_behind run page past)))
    (cases_lt page (end_of run))

-- the same from a page on that may be before the run
pub unread_run : (run : Run) (from frozen begin end to : ℕ) (own : Places) → end ≤ begin → ((page : ℕ) → run.page ≤ page → from ≤ page → begin ≤ page) → ((page : ℕ) → page < end_of run → page < frozen → page < to) → ((page : ℕ) → end ≤ page → page < to → ¬ own page ≡ Absent) → AreUnread from frozen own (place_of (run ∷ []))
unread_run run from frozen begin end to own less least most there page begins is_frozen = ⊎_elim
    (λ before. unread_none (own page) (place_of (run ∷ []) page) (none_outside run page (covers_not_before run page before)))
    (λ past. unread_from run begin frozen end to own less most there page (least page past begins) is_frozen)
    (cases_lt page run.page)

-- ---- run by run

module _ (runs : List Run) (are : AreRuns runs) (i : ℕ) (run : Run) (within : i < length runs) (is : run ≡ get_or runs i run) (from frozen : ℕ) (own : Places) where
  rest_place : (p : ℕ) → place_of (drop i runs) p ≡ over (place_of (run ∷ []) p) (place_of (drop (i + 1) runs) p)
  rest_place p =
      ap (λ (rs : List Run). place_of rs p) (drop_more runs i run within ∙ ap (λ (r : Run). r ∷ drop (i + 1) runs) (sym is))
      ∙ place_append (run ∷ []) (drop (i + 1) runs) p

  pub unread_next : AreUnread from frozen own (place_of (run ∷ [])) → AreUnread from frozen own (place_of (drop (i + 1) runs)) → AreUnread from frozen own (place_of (drop i runs))
  unread_next here later page begins is_frozen =
      ap (through (own page)) (rest_place page)
      ∙ unread_over (own page) (place_of (run ∷ []) page) (place_of (drop (i + 1) runs) page) (here page begins is_frozen) (later page begins is_frozen)

  module _ (read : ReadPage) (end : ℕ) (some : IsReadIn from frozen own (place_of (run ∷ [])) read) (past : AreUnread (read.page + 1) frozen own (place_of (run ∷ [])))
      (later : AreUnread from frozen own (place_of (drop (i + 1) runs))) (end_last : 0 < end → ¬ place_of runs (end - 1) ≡ Absent) (end_behind : (page : ℕ) → end ≤ page → place_of runs page ≡ Absent) where
    there : place_of runs read.page ≡ At read.home
    there = in_map runs are i run within is read.page read.home some.there

    pub read_below : read.page < end
    read_below = ⊎_elim (λ less. less) (λ far. absurd (absent_home read.home (end_behind read.page far) there)) (cases_lt read.page end)

    next : suc i ≡ i + 1
    next = omega arith

    place_here : (p : ℕ) → run.page ≤ p → place_of runs p ≡ over (place_of (run ∷ []) p) (place_of (drop (i + 1) runs) p)
    place_here p begins =
        place_from runs i run p are within (subst (λ (r : Run). r.page ≤ p) is begins)
        ∙ ap (λ (rs : List Run). place_of rs p) (ap (λ (r : Run). r ∷ drop (suc i) runs) (sym is) ∙ ap (λ n. run ∷ drop n runs) next)
        ∙ place_append (run ∷ []) (drop (i + 1) runs) p

    unread : AreUnread (read.page + 1) frozen own (place_of runs)
    unread p begins is_frozen =
        ap (through (own p)) (place_here p (omega (arith, begins, (in_run run read.page read.home some.there).begins)))
        ∙ unread_over (own p) (place_of (run ∷ []) p) (place_of (drop (i + 1) runs) p) (past p begins is_frozen) (later p (omega (arith, some.begins, begins)) is_frozen)

    is_last : read.page + 1 ≡ end → IsReadLast read.page frozen own (place_of runs) read.home
    is_last same = record {
      there = there;
      absent = some.absent;
      is_frozen = some.is_frozen;
      last = λ p more. end_behind p (omega (arith, more, same));
    }

    pub read_tail : (t : Tail) → (read.page + 1 ≡ end → (t.from ≡ read.page) × (t.home ≡ Some read.home)) → (read.page + 1 < end → (t.from ≡ read.page + 1) × (t.home ≡ None)) → IsTail from frozen own (place_of runs) t
    read_tail t at_end before = ⊎_elim
        (λ less.
        let e = before less in
        record {
          begins = omega (arith, e.0, some.begins);
          read = subst (λ (h : Option Home). IfSome h (IsReadLast t.from frozen own (place_of runs))) (sym e.1) tt;
          unread = subst (λ (h : Option Home). IfNone h (AreUnread t.from frozen own (place_of runs))) (sym e.1) (subst (λ f. AreUnread f frozen own (place_of runs)) (sym e.0) unread);
          some = λ _. subst (λ f. HasPageFrom f (place_of runs)) (sym e.0) (record { page = end - 1; begins = omega (arith, less); there = end_last (omega (arith, less)) });
        })
        (λ reached.
        let same : read.page + 1 ≡ end = omega (arith, reached, read_below) in
        let e = at_end same in
        record {
          begins = omega (arith, e.0, some.begins);
          read = subst (λ (h : Option Home). IfSome h (IsReadLast t.from frozen own (place_of runs))) (sym e.1) (subst (λ f. IsReadLast f frozen own (place_of runs) read.home) (sym e.0) (is_last same));
          unread = subst (λ (h : Option Home). IfNone h (AreUnread t.from frozen own (place_of runs))) (sym e.1) tt;
          some = λ _. subst (λ f. HasPageFrom f (place_of runs)) (sym e.0) (record { page = read.page; begins = omega arith; there = λ none. absent_home read.home none there });
        })
        (cases_lt (read.page + 1) end)

-- where none is read
pub whole_tail : (from frozen : ℕ) (own map : Places) → AreUnread from frozen own map → IsTail from frozen own map (record { from = from; home = None })
whole_tail from frozen own map unread = record {
  begins = omega arith;
  read = tt;
  unread = unread;
  some = λ some. some;
}
