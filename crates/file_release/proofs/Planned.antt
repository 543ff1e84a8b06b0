-- What is planned of a cell that has something to let go of.
use Rattle.std.proofs.Common.{◌≡◌, ◌∙◌, ℕ, List, [], ◌∷◌, ◌++◌, Option, Some, None, IfNone, IfSome, refl, sym, ap, subst}
use Rattle.fileset_files.specs.domain_base.declared.place.CellAt.{CellAt}
use Rattle.fileset_files.specs.domain_base.declared.place.Home.{Home}
use Rattle.fileset_files.specs.page_store.Pages.{Pages}
use Rattle.fileset_files.specs.metadata_cells.Chain.{PlacedCell, StandsAt}
use Rattle.fileset_files.specs.extent_maps.declared.run.PagePlace.{PagePlace}
use Rattle.fileset_files.specs.extent_maps.Runs.{Places}
use Rattle.fileset_files.specs.file_chains.Changes.{IsInUse}
use Rattle.fileset_files.specs.file_chains.Files.{HasMapAt}
use Rattle.fileset_files.proofs.OfFileChains.ChainChanges.{stand_file}
use Rattle.file_release.specs.declared.reader.Reader.{Reader}
use Rattle.file_release.specs.declared.releasing.Plan.{Plan}
use Rattle.file_release.specs.declared.stale.Stale.{Stale}
use Rattle.file_release.specs.Sharing.{AreSharing, frozen_of}
use Rattle.fileset_files.specs.free_cells.Cells.{Cells}
use Rattle.fileset_files.specs.free_space.Spaces.{Spaces}
use Rattle.file_release.specs.declared.tail.Tail.{Tail}
use Rattle.file_release.specs.Steps.{AllStand, AreUnread, IsPlan, IsPlanned, IsReadLast, IsStaleCell, IsTail, MayPlan, through}
use Rattle.file_release.proofs.Chains.{all_back, all_front}
use Rattle.file_release.proofs.Edited.{last_of}

if_some : {X : Type 0} {P : X → Type 0} (o : Option X) → ((x : X) → o ≡ Some x → P x) → IfSome o P
if_some None f = tt
if_some (Some x) f = f x refl

module _ (from : ℕ) (reader : Option Reader) (stale : Stale) (pages : Pages) (chain own : List PlacedCell) (may : MayPlan from reader stale pages chain own) where
  all_stand : AllStand pages (may.spot.front ++ may.spot.c ∷ may.spot.rest)
  all_stand = subst (AllStand pages) may.spot.all (stand_file pages may.start chain may.file)

  pub front_stand : AllStand pages may.spot.front
  front_stand = all_front (λ (c : PlacedCell). StandsAt pages c.at c.cell) may.spot.front (may.spot.c ∷ may.spot.rest) all_stand

  pub cell_stands : StandsAt pages may.spot.c.at may.spot.c.cell
  cell_stands = (all_back (λ (c : PlacedCell). StandsAt pages c.at c.cell) may.spot.front (may.spot.c ∷ may.spot.rest) all_stand).0

  pub stands_there : StandsAt pages stale.at may.spot.c.cell
  stands_there = subst (λ (a : CellAt). StandsAt pages a may.spot.c.cell) may.spot.is_at cell_stands

  pub has_map : HasMapAt pages stale.at
  has_map = record { cell = may.spot.c.cell; value = may.spot.value; stands = stands_there; map = may.spot.map }

  pub before_used : IfSome stale.before (IsInUse pages)
  before_used = if_some stale.before (λ at is.
      let l = last_of may.spot.front at (sym may.spot.before ∙ is) in
      let stand = (all_back (λ (c : PlacedCell). StandsAt pages c.at c.cell) l.earlier (l.c ∷ []) (subst (AllStand pages) l.all front_stand)).0 in
      (l.c.cell, subst (λ (a : CellAt). StandsAt pages a l.c.cell) l.place stand))

-- a tail by maps that have each page at its place
pub tail_by : (from frozen : ℕ) (own own_too map map_too : Places) (tail : Tail) → ((p : ℕ) → own p ≡ own_too p) → ((p : ℕ) → map p ≡ map_too p) → IsTail from frozen own map tail → IsTail from frozen own_too map_too tail
tail_by from frozen own own_too map map_too tail same_own same_map is = record {
  begins = is.begins;
  read = by_some tail.home is.read;
  unread = by_none tail.home is.unread;
  some = λ has. let at = is.some (record { page = has.page; begins = has.begins; there = λ none. has.there (sym (same_map has.page) ∙ none) }) in
      record { page = at.page; begins = at.begins; there = λ none. at.there (same_map at.page ∙ none) };
}
  where
    by_some : (o : Option Home) → IfSome o (IsReadLast tail.from frozen own map) → IfSome o (IsReadLast tail.from frozen own_too map_too)
    by_some None read = tt
    by_some (Some home) read = record {
      there = sym (same_map tail.from) ∙ read.there;
      absent = sym (same_own tail.from) ∙ read.absent;
      is_frozen = read.is_frozen;
      last = λ p less. sym (same_map p) ∙ read.last p less;
    }

    by_none : (o : Option Home) → IfNone o (AreUnread tail.from frozen own map) → IfNone o (AreUnread tail.from frozen own_too map_too)
    by_none None unread = λ p less below. ap (λ (x : PagePlace). through x (map_too p)) (sym (same_own p)) ∙ ap (λ (x : PagePlace). through (own p) x) (sym (same_map p)) ∙ unread p less below
    by_none (Some home) unread = tt

-- of a file that shares nothing but what it should with its reader
module _ (from : ℕ) (start : CellAt) (reader : Option Reader) (stale : Stale) (space : Spaces) (cells : Cells) (pages : Pages) (chain own : List PlacedCell) (sharing : AreSharing start reader space cells pages chain own) where
  pub may_plan : IsStaleCell from chain stale → MayPlan from reader stale pages chain own
  may_plan spot = record { start = start; file = sharing.file; reads = sharing.reads; spot = spot }

pub planned : (from : ℕ) (start : CellAt) (reader : Option Reader) (plan : Plan) (stale : Stale) (space : Spaces) (cells : Cells) (pages : Pages) (chain own : List PlacedCell) → AreSharing start reader space cells pages chain own → IsPlan from (frozen_of reader) chain own stale plan
    → IsPlanned from start reader plan space cells pages chain own
planned from start reader plan stale space cells pages chain own sharing is = record { sharing = sharing; stale = stale; planned = is }
