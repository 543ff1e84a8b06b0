-- The cell before one that has something to let go of, after which the next step begins.
use Rattle.std.proofs.Common.{◌≡◌, ◌∙◌, ℕ, List, [], ◌∷◌, Option, Some, None, Result, Ok, Err, IfSome, OnErr, OnOk, Contains, refl, sym, ap, subst, unwrap_or, ⊎_elim}
use Rattle.fileset_files.specs.domain_base.declared.place.CellAt.{CellAt}
use Rattle.fileset_files.specs.page_store.Pages.{Pages}
use Rattle.fileset_files.specs.metadata_cells.Chain.{AreDistinct, PlacedCell, places}
use Rattle.fileset_files.specs.file_chains.Files.{IsFile}
use Rattle.fileset_files.proofs.OfFileChains.ChainChanges.{in_first, in_later}
use Rattle.fileset_files.proofs.OfFileChains.Walks.{distinct_file}
use Rattle.fileset_files.proofs.Given.{one_file}
use Rattle.file_release.specs.declared.released.Released.{Released}
use Rattle.file_release.specs.declared.releasing.Plan.{Plan}
use Rattle.file_release.specs.declared.stale.Stale.{Stale}
use Rattle.file_release.specs.Sharing.{IsWithin}
use Rattle.file_release.specs.Steps.{IsPlan, IsStaleCell, KeepsCells, last_place}
use Rattle.file_release.proofs.Chains.{fresh_front, in_front}

last_inside : (cs : List PlacedCell) → IfSome (last_place cs) (Contains (places cs))
last_inside [] = tt
last_inside (c ∷ []) = in_first c.at c [] refl
last_inside (c ∷ d ∷ cs) = later (last_place (d ∷ cs)) (last_inside (d ∷ cs))
  where
    later : (o : Option CellAt) → IfSome o (Contains (places (d ∷ cs))) → IfSome o (Contains (places (c ∷ d ∷ cs)))
    later None inside = tt
    later (Some at) inside = in_later at c (d ∷ cs) inside

each : {P Q : CellAt → Type 0} (o : Option CellAt) → ((at : CellAt) → P at → Q at) → IfSome o P → IfSome o Q
each None to has = tt
each (Some at) to has = to at has

module _ (from : ℕ) (chain : List PlacedCell) (stale : Stale) (spot : IsStaleCell from chain stale) where
  -- it is one of the cells in front
  in_row : IfSome stale.before (Contains (places spot.front))
  in_row = subst (λ (o : Option CellAt). IfSome o (Contains (places spot.front))) (sym spot.before) (last_inside spot.front)

  before_inside : IfSome stale.before (Contains (places chain))
  before_inside = each stale.before (λ at inside. subst (λ (cs : List PlacedCell). Contains (places cs) at) (sym spot.all) (in_front spot.front (spot.c ∷ spot.rest) at inside)) in_row

-- it is not the one that is freed
not_freed : (from frozen : ℕ) (start : CellAt) (pages : Pages) (chain own : List PlacedCell) (stale : Stale) (plan : Plan) → IsFile pages start chain → IsPlan from frozen chain own stale plan → IfSome stale.before (λ at. ¬ plan.edit.freed ≡ Some at)
not_freed from frozen start pages chain own stale plan file planned = ⊎_elim
    (λ r. each stale.before (λ at inside is. none_some at (sym r.0.none ∙ is)) (in_row from chain stale planned.spot))
    (λ u. each stale.before
    (λ at inside is.
    let same : planned.spot.c.at ≡ at = ap (λ (o : Option CellAt). unwrap_or o at) (sym u.0.freed ∙ is) in
    fresh_front planned.spot.front planned.spot.c planned.spot.rest (subst AreDistinct planned.spot.all (distinct_file pages start chain file)) (subst (Contains (places planned.spot.front)) (sym same) inside))
    (in_row from chain stale planned.spot))
    planned.edit.how
  where
    none_some : (at : CellAt) → None ≡ Some at → ⊥
    none_some at is = cc

-- so it is a cell of the file after the step
pub goes_on : {E : Type 0} (from frozen : ℕ) (start : CellAt) (old new : Pages) (chain own : List PlacedCell) (stale : Stale) (plan : Plan) (r : Result Released E) → IsFile old start chain → IsPlan from frozen chain own stale plan
    → OnOk r (KeepsCells plan.edit.freed start chain new) → OnErr r (new ≡ old) → IsWithin new start stale.before
goes_on from frozen start old new chain own stale plan (Ok what) file planned stay same after after_file =
    both stale.before (before_inside from chain stale planned.spot) (not_freed from frozen start old chain own stale plan file planned)
  where
    both : (o : Option CellAt) → IfSome o (Contains (places chain)) → IfSome o (λ at. ¬ plan.edit.freed ≡ Some at) → IfSome o (Contains (places after))
    both None inside other = tt
    both (Some at) inside other = stay after after_file at inside other
goes_on from frozen start old new chain own stale plan (Err e) file planned stay same after after_file =
    subst (λ (cs : List PlacedCell). IfSome stale.before (Contains (places cs))) (one_file old start chain after file (subst (λ (p : Pages). IsFile p start after) same after_file)) (before_inside from chain stale planned.spot)
