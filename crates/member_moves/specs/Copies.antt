-- What stands at homes while pages move: each write of a page goes to all its homes.
use Rattle.std.specs.Prelude.{◌≡◌, ◌∷◌, [], false, List, Option, Some, if◌then◌else◌, ℕ}
use Rattle.std.specs.Option.{option_map_or}
use Rattle.log_recovery.specs.domain_base.declared.place.Home.{Home}
use Rattle.log_recovery.specs.page_store.Pages.{Pages, same_home, with_page}
use Rattle.member_moves.specs.declared.page_move.Move.{Move}
use Rattle.member_moves.specs.declared.page_move.Phase.TheVariants.{Copied, Reserved, Switched}
use Rattle.member_moves.specs.Moves.{AreApart, IsInNone, IsNotSwitched, move_of, phase_of, started, unswitched, with_phase, without, writes_of}

-- the pages on the volumes, and the moves in flight
pub record Now : Type 0 where
  pub pages : Pages
  pub moves : List Move

-- the same page at each of these homes
abbrev pub written : Home × Option Home → List ℕ → Pages → Pages
written homes page pages =
    option_map_or (λ other. with_page other page (with_page homes.0 page pages)) homes.1
    (with_page homes.0 page pages)

-- what stands at one home stands at the other too
abbrev pub with_copy : Home → Home → Pages → Pages
with_copy from to pages = λ home. if same_home home to then pages from else pages home

-- what may be done, one thing at a time
pub data Step (old : Now) : Now → Type 0 where
  start : (from to : Home) → IsInNone old.moves from → IsInNone old.moves to
      → same_home from to ≡ false → Step old (record old { moves = started from to old.moves })
  copy : (from : Home) (move : Move) → move_of old.moves from ≡ Some move
      → ¬ move.phase ≡ Switched → Step old (record {
        pages = with_copy from move.to old.pages;
        moves = with_phase Copied from old.moves;
      })
  write : (home : Home) (page : List ℕ)
      → Step old (record old { pages = written (writes_of old.moves home) page old.pages })
  switch : (from : Home) → phase_of old.moves from ≡ Some Copied
      → Step old (record old { moves = with_phase Switched from old.moves })
  finish : (from : Home) → phase_of old.moves from ≡ Some Switched
      → Step old (record old { moves = without from old.moves })
  finish_switched : Step old (record old { moves = unswitched old.moves })
  abandon : (from : Home) → IsNotSwitched old.moves from
      → Step old (record old { moves = without from old.moves })

-- any number of steps, one after the other
pub data Steps (first : Now) : Now → Type 0 where
  none : Steps first first
  one_more : (between last : Now) → Steps first between → Step between last → Steps first last

-- a page that was copied stands at both homes of its move
abbrev pub IsAlike : Pages → Move → Type 0
IsAlike pages move = ¬ move.phase ≡ Reserved → pages move.to ≡ pages move.from

-- each of these moves whose page was copied has it at both homes
abbrev pub AreAlike : Pages → List Move → Type 0
AreAlike pages [] = Unit {0}
AreAlike pages (move ∷ moves) = IsAlike pages move × AreAlike pages moves

-- what each step keeps: no home is in two moves or is a move's old and new home at once, and pages
-- that were copied stand at both homes
pub record Holds (now : Now) : Type 0 where
  pub apart : AreApart now.moves
  pub alike : AreAlike now.pages now.moves
