-- The room of the state in which a history began is within what may be needed at each point to
-- which it comes.
use Rattle.std.proofs.Common.{◌≡◌, ◌∙◌, ◌≤◌, ℕ, List, Option, length, max, sym, ap, arith}
use Rattle.std.proofs.lemmas.List.{length-map}
use Rattle.no_faults.specs.fileset_model.Filesets.{FilesetMap}
use Rattle.no_faults.specs.fileset_values.declared.command.Command.{Command}
use Rattle.no_faults.specs.fileset_values.declared.entry.Entry.{Entry}
use Rattle.no_faults.specs.legal_histories.Legal.{Chain}
use Rattle.no_faults.specs.legal_histories.Legal.Chain.{stays, begin, silent, entry}
use Rattle.no_faults.specs.legal_histories.Point.{Answered, Point, start_point}
use Rattle.no_faults.specs.legal_histories.Room.{room}
use Rattle.no_faults.specs.legal_histories.State.{State}
use Rattle.no_faults.specs.legal_histories.GoingOn.{ComesTo}

more : (least most other : ℕ) → least ≤ most → least ≤ max most other
more least most other is = omega (arith, is)

-- the greatest room only grows
most_grows : (start point : Point) → Chain start point → start.most ≤ point.most
most_grows start _ stays = omega arith
most_grows start _ (begin chain none command movers) = most_grows start _ chain
most_grows start _ (silent {point} chain new happens) = most_grows start point chain
most_grows start _ (entry {point} chain e new follows step) = more start.most point.most (room new) (most_grows start point chain)

-- what a point has of the state in which the history began: its room, its old pages, and an entry
-- for each of the history
pub record HasStart (start : State) (history : List Entry) (point : Point) : Type 0 where
  pub least : room start ≤ point.most
  pub old : point.state.old_pages ≡ start.old_pages
  pub many : length point.past ≡ length history

pub start_room : (start : State) (history : List Entry) (job : Option Command) (point : Point) (all : FilesetMap) → ComesTo start history job point → point.state ≡ record start { filesets = all } → HasStart start history point
start_room start history job point all comes now = record {
  least = most_grows (start_point start) point comes.chain;
  old = ap (λ (s : State). s.old_pages) now;
  many = sym (length-map point.past (λ (a : Answered). a.entry)) ∙ ap length comes.answered;
}
