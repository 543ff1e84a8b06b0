-- Moves of pages, each known by its old home.
use Rattle.std.specs.Prelude.{◌≡◌, ◌||◌, ◌++◌, ◌∷◌, [], Bool, false, true, not, List, Option, IsSomeAnd, map, filter, if◌then◌else◌}
use Rattle.std.specs.List.{find, list_any}
use Rattle.std.specs.Option.{option_map}
use Rattle.log_recovery.specs.domain_base.declared.place.Home.{Home}
use Rattle.log_recovery.specs.page_store.Pages.{same_home}
use Rattle.member_moves.specs.declared.page_move.Move.{Move}
use Rattle.member_moves.specs.declared.page_move.Phase.{Phase}
use Rattle.member_moves.specs.declared.page_move.Phase.TheVariants.{Copied, Reserved, Switched}

-- a move is from that home
abbrev pub is_from : Home → Move → Bool
is_from home move = same_home move.from home

-- one of its two homes is that home
abbrev pub has_home : Home → Move → Bool
has_home home move = is_from home move || same_home move.to home

-- the other one of them
abbrev pub other_home : Home → Move → Home
other_home home move = if is_from home move then move.to else move.from

-- the move from a home, if one is in flight
abbrev pub move_of : List Move → Home → Option Move
move_of moves home = find (is_from home) moves

-- how far it is
abbrev pub phase_of : List Move → Home → Option Phase
phase_of moves home = option_map (λ (move : Move). move.phase) (move_of moves home)

-- it is in flight, and the page's place was not changed yet
abbrev pub IsNotSwitched : List Move → Home → Type 0
IsNotSwitched moves from = IsSomeAnd (phase_of moves from) (λ phase. ¬ phase ≡ Switched)

-- the home is in none of the moves
abbrev pub IsInNone : List Move → Home → Type 0
IsInNone moves home = list_any (has_home home) moves ≡ false

-- no home is in two of them, and none of them is from a home to itself
abbrev pub AreApart : List Move → Type 0
AreApart [] = Unit {0}
AreApart (move ∷ moves) = IsInNone moves move.from × IsInNone moves move.to × AreApart moves
    × (same_home move.from move.to ≡ false)

-- where a page that stands at a home is written: there, and at the other home of its move
abbrev pub writes_of : List Move → Home → Home × Option Home
writes_of moves home = (home, option_map (other_home home) (find (has_home home) moves))

-- a new move
abbrev pub reserved : Home → Home → Move
reserved from to = record { from = from; to = to; phase = Reserved }

-- the moves with one more
abbrev pub started : Home → Home → List Move → List Move
started from to moves = moves ++ reserved from to ∷ []

-- a move in that phase, if it is the one from that home
abbrev pub rephased : Phase → Home → Move → Move
rephased phase from move = if is_from from move then record move { phase = phase } else move

-- the moves, with the one from that home in that phase
abbrev pub with_phase : Phase → Home → List Move → List Move
with_phase phase from moves = map (rephased phase from) moves

-- the moves but for the one from that home
abbrev pub without : Home → List Move → List Move
without from moves = filter (λ move. not (is_from from move)) moves

-- the page's place was not changed yet
abbrev pub is_unswitched : Move → Bool
is_unswitched move = elim move.phase [ Reserved ↦ true | Copied ↦ true | Switched ↦ false ]

-- the moves of pages whose place was not changed yet
abbrev pub unswitched : List Move → List Move
unswitched moves = filter is_unswitched moves
