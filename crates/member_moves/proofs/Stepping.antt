-- What holds of moves and pages, over any number of steps.
use Rattle.std.proofs.Common.{◌≡◌, [], not, sym, subst, Some}
use Rattle.log_recovery.specs.domain_base.declared.place.Home.{Home}
use Rattle.member_moves.specs.declared.page_move.Move.{Move}
use Rattle.member_moves.specs.declared.page_move.Phase.TheVariants.{Copied, Reserved, Switched}
use Rattle.member_moves.specs.Copies.{AreAlike, Holds, Now, Step, Steps, abandon, copy, finish, finish_switched, none, one_more, start, switch, write}
use Rattle.member_moves.specs.Moves.{AreApart, is_from, is_unswitched, move_of}
use Rattle.member_moves.proofs.Alike.{alike_copied, alike_found, alike_left, alike_started, alike_switched, alike_written}
use Rattle.member_moves.proofs.StayApart.{apart_left, apart_rephased, apart_started}

pub holds_on : (old new : Now) → Holds old → Step old new → Holds new
holds_on old new was step =
    elim step as (λ new step. Holds new) [
      | start from to free_from free_to other ↦ record {
        apart = apart_started old.moves from to was.apart free_from free_to other;
        alike = alike_started old.pages old.moves from to was.alike;
      }
      | copy from move found not_switched ↦ record {
        apart = apart_rephased old.moves Copied from was.apart;
        alike = alike_copied old.pages old.moves from move was.apart found was.alike;
      }
      | write home page ↦ record {
        apart = was.apart;
        alike = alike_written old.pages old.moves home page was.apart was.alike;
      }
      | switch from copied ↦ record {
        apart = apart_rephased old.moves Switched from was.apart;
        alike = alike_switched old.pages old.moves from was.apart copied was.alike;
      }
      | finish from switched ↦ record {
        apart = apart_left (λ move. not (is_from from move)) old.moves was.apart;
        alike = alike_left (λ move. not (is_from from move)) old.pages old.moves was.alike;
      }
      | finish_switched ↦ record {
        apart = apart_left is_unswitched old.moves was.apart;
        alike = alike_left is_unswitched old.pages old.moves was.alike;
      }
      | abandon from not_switched ↦ record {
        apart = apart_left (λ move. not (is_from from move)) old.moves was.apart;
        alike = alike_left (λ move. not (is_from from move)) old.pages old.moves was.alike;
      }
    ]

pub nothing_moves : (first : Now) → first.moves ≡ [] → Holds first
nothing_moves first empty = record {
  apart = subst AreApart (sym empty) tt;
  alike = subst (AreAlike first.pages) (sym empty) tt;
}

pub holds_always : (first last : Now) → first.moves ≡ [] → Steps first last → Holds last
holds_always first last empty steps =
    elim steps as (λ last steps. Holds last) [
      | none ↦ nothing_moves first empty
      | one_more between last (steps → held) step ↦ holds_on between last held step
    ]

pub apart_always : (first last : Now) → first.moves ≡ [] → Steps first last → AreApart last.moves
apart_always first last empty steps = (holds_always first last empty steps).apart

pub alike_now : (now : Now) → Holds now → (from : Home) (move : Move) → move_of now.moves from ≡ Some move → ¬ move.phase ≡ Reserved → now.pages move.to ≡ now.pages move.from
alike_now now held from move found = alike_found now.pages now.moves from move held.alike found

pub alike_always : (first last : Now) → first.moves ≡ [] → Steps first last → (from : Home) (move : Move) → move_of last.moves from ≡ Some move
    → ¬ move.phase ≡ Reserved → last.pages move.to ≡ last.pages move.from
alike_always first last empty steps = alike_now last (holds_always first last empty steps)
