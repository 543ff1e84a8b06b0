-- Copies stand at the new homes as at the old ones, whatever is done.
use Rattle.std.proofs.Common.{◌≡◌, ◌||◌, true, false, Bool, cond, ℕ, List, [], ◌∷◌, Option, Some, refl, sym, ◌∙◌, ap, subst, ⊎_elim}
use Rattle.std.proofs.lemmas.Bool.{cases_Bool, or_left, or_parts, or_right}
use Rattle.std.specs.List.{find, list_any}
use Rattle.std.specs.Prelude.{filter}
use Rattle.std.specs.Option.{option_map}
use Rattle.log_recovery.specs.domain_base.declared.place.Home.{Home}
use Rattle.log_recovery.specs.page_store.Pages.{Pages, same_home, with_page}
use Rattle.member_moves.specs.declared.page_move.Move.{Move}
use Rattle.member_moves.specs.declared.page_move.Phase.{Phase}
use Rattle.member_moves.specs.declared.page_move.Phase.TheVariants.{Copied, Reserved, Switched}
use Rattle.member_moves.specs.Copies.{AreAlike, IsAlike, with_copy, written}
use Rattle.member_moves.specs.Moves.{AreApart, IsInNone, has_home, is_from, move_of, other_home, phase_of, started, with_phase, writes_of}
use Rattle.member_moves.proofs.HomeTests.{beside, has_from, has_to, homes_same, not_the_home, other_swapped, same_itself}

pub alike_found : (pages : Pages) (moves : List Move) (from : Home) (move : Move) → AreAlike pages moves → move_of moves from ≡ Some move → IsAlike pages move
alike_found pages [] from move alike found = absurd (cc)
alike_found pages (first ∷ moves) from move alike found =
    ⊎_elim
    (λ is. let same : first ≡ move = let e = sym (ap (λ b. cond b (Some first) (move_of moves from)) is) ∙ found in cc in subst (IsAlike pages) same alike.0)
    (λ other. alike_found pages moves from move alike.1 (sym (ap (λ b. cond b (Some first) (move_of moves from)) other) ∙ found))
    (cases_Bool (is_from from first))

-- other pages may change
alike_elsewhere : (old new : Pages) (moves : List Move) → ((home : Home) → list_any (has_home home) moves ≡ true → new home ≡ old home) → AreAlike old moves → AreAlike new moves
alike_elsewhere old new [] kept alike = tt
alike_elsewhere old new (move ∷ moves) kept alike = (
  (λ phase.
      kept move.to (or_left (has_home move.to move) (list_any (has_home move.to) moves) (has_to move)) ∙ alike.0 phase
      ∙ sym (kept move.from (or_left (has_home move.from move) (list_any (has_home move.from) moves) (has_from move)))),
  alike_elsewhere old new moves (λ home there. kept home (or_right (has_home home move) (list_any (has_home home) moves) there)) alike.1,
)

pub alike_started : (pages : Pages) (moves : List Move) (from to : Home) → AreAlike pages moves → AreAlike pages (started from to moves)
alike_started pages [] from to alike = ((λ copied. absurd (copied refl)), tt)
alike_started pages (move ∷ moves) from to alike = (alike.0, alike_started pages moves from to alike.1)

pub alike_left : (keep : Move → Bool) (pages : Pages) (moves : List Move) → AreAlike pages moves → AreAlike pages (filter keep moves)
alike_left keep pages [] alike = tt
alike_left keep pages (move ∷ moves) alike =
    let rest = alike_left keep pages moves alike.1 in
    elim (keep move) as (λ b. AreAlike pages (cond b (move ∷ filter keep moves) (filter keep moves))) [
      | true ↦ (alike.0, rest)
      | false ↦ rest
    ]

-- moves from other homes keep their phase
phases_kept : (moves : List Move) (phase : Phase) (from : Home) → IsInNone moves from → with_phase phase from moves ≡ moves
phases_kept [] phase from none = refl
phases_kept (move ∷ moves) phase from none =
    let by = beside from move moves none in
    ap (λ b. cond b (record move { phase = phase }) move ∷ with_phase phase from moves) by.from
    ∙ ap (λ rest. move ∷ rest) (phases_kept moves phase from by.rest)

-- the move from that home is the first one, or one after it
first_rephased : (move : Move) (moves : List Move) (phase : Phase) (from : Home) → is_from from move ≡ true → IsInNone moves move.from
    → with_phase phase from (move ∷ moves) ≡ record move { phase = phase } ∷ moves
first_rephased move moves phase from is none =
    ap (λ b. cond b (record move { phase = phase }) move ∷ with_phase phase from moves) is
    ∙ ap (λ rest. record move { phase = phase } ∷ rest) (phases_kept moves phase from (subst (IsInNone moves) (homes_same move.from from is) none))

later_rephased : (move : Move) (moves : List Move) (phase : Phase) (from : Home) → is_from from move ≡ false
    → with_phase phase from (move ∷ moves) ≡ move ∷ with_phase phase from moves
later_rephased move moves phase from other = ap (λ b. cond b (record move { phase = phase }) move ∷ with_phase phase from moves) other

pub alike_switched : (pages : Pages) (moves : List Move) (from : Home) → AreApart moves → phase_of moves from ≡ Some Copied → AreAlike pages moves → AreAlike pages (with_phase Switched from moves)
alike_switched pages [] from apart copied alike = tt
alike_switched pages (move ∷ moves) from apart copied alike =
    let at : Bool → Type 0 = λ b. option_map (λ (m : Move). m.phase) (cond b (Some move) (move_of moves from)) ≡ Some Copied in
    ⊎_elim
    (λ is.
    let phase : Some move.phase ≡ Some Copied = subst at is copied in
    let changed : ¬ move.phase ≡ Reserved = λ same. let clash : Some Copied ≡ Some Reserved = sym phase ∙ ap Some same in cc in
    subst (AreAlike pages) (sym (first_rephased move moves Switched from is apart.0)) ((λ _. alike.0 changed), alike.1))
    (λ other.
    subst (AreAlike pages) (sym (later_rephased move moves Switched from other))
    (alike.0, alike_switched pages moves from apart.2 (subst at other copied) alike.1))
    (cases_Bool (is_from from move))

-- a page that was written at a home stands there, and all others stand where they stood
page_there : (home : Home) (page : List ℕ) (pages : Pages) → with_page home page pages home ≡ Some page
page_there home page pages = ap (λ b. cond b (Some page) (pages home)) (same_itself home)

page_kept : (at home : Home) (page : List ℕ) (pages : Pages) → same_home at home ≡ false → with_page home page pages at ≡ pages at
page_kept at home page pages other = ap (λ b. cond b (Some page) (pages at)) other

-- the same page written at two homes stands at the first too
page_at_both : (a b : Home) (page : List ℕ) (pages : Pages) → with_page b page (with_page a page pages) a ≡ Some page
page_at_both a b page pages =
    ap (cond (same_home a b) (Some page)) (page_there a page pages)
    ∙ elim (same_home a b) as (λ c. cond c (Some page) (Some page) ≡ Some page) [ true ↦ refl | false ↦ refl ]

pages_kept : (at a b : Home) (page : List ℕ) (pages : Pages) → same_home at a ≡ false → same_home at b ≡ false → with_page b page (with_page a page pages) at ≡ pages at
pages_kept at a b page pages by_a by_b = page_kept at b page (with_page a page pages) by_b ∙ page_kept at a page pages by_a

-- where the home's move is the first one, and where it is not
writes_first : (move : Move) (moves : List Move) (home : Home) → has_home home move ≡ true → writes_of (move ∷ moves) home ≡ (home, Some (other_home home move))
writes_first move moves home is = ap (λ b. (home, option_map (other_home home) (cond b (Some move) (find (has_home home) moves)))) is

writes_later : (move : Move) (moves : List Move) (home : Home) → has_home home move ≡ false → writes_of (move ∷ moves) home ≡ writes_of moves home
writes_later move moves home other = ap (λ b. (home, option_map (other_home home) (cond b (Some move) (find (has_home home) moves)))) other

-- the moves after the first one have none of its homes
alike_behind : (a b : Home) (page : List ℕ) (pages : Pages) (moves : List Move) → IsInNone moves a → IsInNone moves b → AreAlike pages moves → AreAlike (with_page b page (with_page a page pages)) moves
alike_behind a b page pages moves none_a none_b alike =
    alike_elsewhere pages (with_page b page (with_page a page pages)) moves
    (λ home there. pages_kept home a b page pages (not_the_home moves a home none_a there) (not_the_home moves b home none_b there)) alike

abbrev both_written : Home → Home → List ℕ → Pages → Pages
both_written home other page pages = written (home, Some other) page pages

-- the first move has the home that is written
alike_first : (pages : Pages) (move : Move) (moves : List Move) (home : Home) (page : List ℕ) → has_home home move ≡ true
    → IsInNone moves move.from → IsInNone moves move.to → AreAlike pages moves → AreAlike (both_written home (other_home home move) page pages) (move ∷ moves)
alike_first pages move moves home page has none_from none_to alike = ⊎_elim from_old from_new (cases_Bool (is_from home move))
  where
    from_old : is_from home move ≡ true → AreAlike (both_written home (other_home home move) page pages) (move ∷ moves)
    from_old is =
        let here = homes_same move.from home is in
        let there : move.to ≡ other_home home move = sym (ap (λ b. cond b move.to move.from) is) in
        let new = both_written move.from move.to page pages in
        let all : AreAlike new (move ∷ moves) =
        ((λ _. page_there move.to page (with_page move.from page pages) ∙ sym (page_at_both move.from move.to page pages)), alike_behind move.from move.to page pages moves none_from none_to alike) in
        subst (λ (o : Home). AreAlike (both_written home o page pages) (move ∷ moves)) there
        (subst (λ (h : Home). AreAlike (both_written h move.to page pages) (move ∷ moves)) here all)

    from_new : is_from home move ≡ false → AreAlike (both_written home (other_home home move) page pages) (move ∷ moves)
    from_new not_is =
        let here = homes_same move.to home (sym (ap (λ b. b || same_home move.to home) not_is) ∙ has) in
        let there : move.from ≡ other_home home move = sym (ap (λ b. cond b move.to move.from) not_is) in
        let new = both_written move.to move.from page pages in
        let all : AreAlike new (move ∷ moves) =
        ((λ _. page_at_both move.to move.from page pages ∙ sym (page_there move.from page (with_page move.to page pages))), alike_behind move.to move.from page pages moves none_to none_from alike) in
        subst (λ (o : Home). AreAlike (both_written home o page pages) (move ∷ moves)) there
        (subst (λ (h : Home). AreAlike (both_written h move.from page pages) (move ∷ moves)) here all)

-- a home that is none of a move's is not the other one of its homes
other_beside : (move : Move) (home at : Home) → same_home move.from at ≡ false → same_home move.to at ≡ false → same_home at (other_home home move) ≡ false
other_beside move home at by_from by_to =
    other_swapped (other_home home move) at
    (elim (is_from home move) as (λ b. same_home (cond b move.to move.from) at ≡ false) [
      | true ↦ by_to
      | false ↦ by_from
    ])

-- a home that is in none of the moves, and is not the one that is written, has the page that it had
written_elsewhere : (moves : List Move) (home at : Home) (page : List ℕ) (pages : Pages) → same_home at home ≡ false → IsInNone moves at → written (writes_of moves home) page pages at ≡ pages at
written_elsewhere [] home at page pages apart none = page_kept at home page pages apart
written_elsewhere (move ∷ moves) home at page pages apart none =
    let by = beside at move moves none in
    ⊎_elim
    (λ has.
    ap (λ (w : Home × Option Home). written w page pages at) (writes_first move moves home has)
    ∙ pages_kept at home (other_home home move) page pages apart (other_beside move home at by.from by.to))
    (λ other.
    ap (λ (w : Home × Option Home). written w page pages at) (writes_later move moves home other)
    ∙ written_elsewhere moves home at page pages apart by.rest)
    (cases_Bool (has_home home move))

-- the first move has none of the homes that are written
alike_later : (pages : Pages) (move : Move) (moves : List Move) (home : Home) (page : List ℕ) → has_home home move ≡ false → IsInNone moves move.from → IsInNone moves move.to
    → IsAlike pages move → IsAlike (written (writes_of moves home) page pages) move
alike_later pages move moves home page other none_from none_to alike phase =
    let by = or_parts (is_from home move) (same_home move.to home) other in
    written_elsewhere moves home move.to page pages by.1 none_to ∙ alike phase ∙ sym (written_elsewhere moves home move.from page pages by.0 none_from)

pub alike_written : (pages : Pages) (moves : List Move) (home : Home) (page : List ℕ) → AreApart moves → AreAlike pages moves → AreAlike (written (writes_of moves home) page pages) moves
alike_written pages [] home page apart alike = tt
alike_written pages (move ∷ moves) home page apart alike =
    let rest = alike_written pages moves home page apart.2 alike.1 in
    let goal : Home × Option Home → Type 0 = λ homes. AreAlike (written homes page pages) (move ∷ moves) in
    ⊎_elim
    (λ has. subst goal (sym (writes_first move moves home has)) (alike_first pages move moves home page has apart.0 apart.1 alike.1))
    (λ other. subst goal (sym (writes_later move moves home other)) (alike_later pages move moves home page other apart.0 apart.1 alike.0, rest))
    (cases_Bool (has_home home move))

-- a home that is in none of the moves is not where one of them leads
not_its_target : (moves : List Move) (from at : Home) (move : Move) → move_of moves from ≡ Some move → IsInNone moves at → same_home at move.to ≡ false
not_its_target [] from at move found none = absurd (cc)
not_its_target (first ∷ moves) from at move found none =
    let by = beside at first moves none in
    ⊎_elim
    (λ is.
    let same : first ≡ move = let e = sym (ap (λ b. cond b (Some first) (move_of moves from)) is) ∙ found in cc in
    other_swapped move.to at (subst (λ (m : Move). same_home m.to at ≡ false) same by.to))
    (λ other. not_its_target moves from at move (sym (ap (λ b. cond b (Some first) (move_of moves from)) other) ∙ found) by.rest)
    (cases_Bool (is_from from first))

copy_kept : (from to at : Home) (pages : Pages) → same_home at to ≡ false → with_copy from to pages at ≡ pages at
copy_kept from to at pages other = ap (λ b. cond b (pages from) (pages at)) other

copy_there : (from to : Home) (pages : Pages) → with_copy from to pages to ≡ pages from
copy_there from to pages = ap (λ b. cond b (pages from) (pages to)) (same_itself to)

copy_from : (from to : Home) (pages : Pages) → with_copy from to pages from ≡ pages from
copy_from from to pages = elim (same_home from to) as (λ b. cond b (pages from) (pages from) ≡ pages from) [ true ↦ refl | false ↦ refl ]

-- the first move is the one whose page is copied
alike_copied_first : (pages : Pages) (first : Move) (moves : List Move) (from : Home) → is_from from first ≡ true → IsInNone moves first.from → IsInNone moves first.to → AreAlike pages moves
    → AreAlike (with_copy from first.to pages) (with_phase Copied from (first ∷ moves))
alike_copied_first pages first moves from is none_from none_to alike =
    let new = with_copy from first.to pages in
    let same : new first.to ≡ new first.from = copy_there from first.to pages ∙ sym (copy_from from first.to pages) ∙ ap new (sym (homes_same first.from from is)) in
    let rest = alike_elsewhere pages new moves (λ home there. copy_kept from first.to home pages (not_the_home moves first.to home none_to there)) alike in
    subst (AreAlike new) (sym (first_rephased first moves Copied from is none_from)) ((λ _. same), rest)

-- it is one after it
alike_copied_later : (pages : Pages) (first : Move) (moves : List Move) (from : Home) (move : Move) → move_of moves from ≡ Some move → IsInNone moves first.from → IsInNone moves first.to
    → IsAlike pages first → IsAlike (with_copy from move.to pages) first
alike_copied_later pages first moves from move found none_from none_to alike phase =
    copy_kept from move.to first.to pages (not_its_target moves from first.to move found none_to) ∙ alike phase
    ∙ sym (copy_kept from move.to first.from pages (not_its_target moves from first.from move found none_from))

pub alike_copied : (pages : Pages) (moves : List Move) (from : Home) (move : Move) → AreApart moves → move_of moves from ≡ Some move → AreAlike pages moves
    → AreAlike (with_copy from move.to pages) (with_phase Copied from moves)
alike_copied pages [] from move apart found alike = absurd (cc)
alike_copied pages (first ∷ moves) from move apart found alike =
    let rest = λ (behind : move_of moves from ≡ Some move). alike_copied pages moves from move apart.2 behind alike.1 in
    let seen : Bool → Option Move = λ b. cond b (Some first) (move_of moves from) in
    ⊎_elim
    (λ is.
    let same : first ≡ move = let e = sym (ap seen is) ∙ found in cc in
    subst (λ (m : Move). AreAlike (with_copy from m.to pages) (with_phase Copied from (first ∷ moves))) same
    (alike_copied_first pages first moves from is apart.0 apart.1 alike.1))
    (λ other.
    let behind = sym (ap seen other) ∙ found in
    subst (AreAlike (with_copy from move.to pages)) (sym (later_rephased first moves Copied from other))
    (alike_copied_later pages first moves from move behind apart.0 apart.1 alike.0, rest behind))
    (cases_Bool (is_from from first))
