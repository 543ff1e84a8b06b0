-- Where rows lead from earlier directories to later ones none is below itself.
use Rattle.std.proofs.Common.{◌≡◌, ◌∙◌, ℕ, ◌<◌, true, List, Option, None, Some, Vec, IsTrue, sym, ap, arith}
use Rattle.std.specs.BTreeMap.{BTreeMap}
use Rattle.std.specs.Option.{is_some}
use mathlib.Core.Bool.{false≢true}
use Rattle.fileset_shapes.specs.domain_base.declared.place.Tag.{Tag}
use Rattle.directory_faults.specs.declared.rows.RowThere.{RowThere}
use Rattle.directory_faults.specs.Children.{AreChildren}
use Rattle.directory_faults.specs.Misplaced.{Rises}
use Rattle.directory_faults.specs.Order.{IsOrderOf, place_in}
use Rattle.directory_faults.specs.Walk.{IsBelow}
use Rattle.directory_faults.specs.Walk.Leads.{one as leads_one, more as leads_more}
use Rattle.directory_faults.specs.declared.order.Order.{Order}

some_same : {X : Type 0} (a b : X) → Some a ≡ Some b → a ≡ b
some_same a b e = cc

module _ {Z : Type 0} (children : BTreeMap Tag (Vec Tag Z)) where
  -- the place of a tag is later than this one
  abbrev IsLater : BTreeMap Tag ℕ → ℕ → Tag → Type 0
  IsLater places place tag = (later : ℕ) × (place_in places tag ≡ Some later) × (place < later)

  later_below : (order : Order) → Rises children order → IsTrue order.rises → (dir tag : Tag) (place : ℕ) → place_in order.places dir ≡ Some place → IsBelow children dir tag
      → IsLater order.places place tag
  later_below order rises true_is dir tag place at way = elim way as (λ tag way. IsLater order.places place tag) [
    | leads_one to child ↦ rises true_is dir to child place at
    | leads_more middle to (before → there) child ↦
        let next = rises true_is middle to child there.0 there.1 in
        (next.0, next.1, omega (arith, there.2, next.2))
  ]

  never_below : (order : Order) → Rises children order → IsTrue order.rises → (tag : Tag) (place : ℕ) → place_in order.places tag ≡ Some place → ¬ IsBelow children tag tag
  never_below order rises true_is tag place at way =
      let (later, there, less) = later_below order rises true_is tag tag place at way in
      let same : later ≡ place = some_same later place (sym there ∙ at) in
      omega (arith, same, less)

  pub never_there : (order : Order) → Rises children order → IsTrue order.rises → (tag : Tag) (place : Option ℕ) → place ≡ place_in order.places tag → is_some place ≡ true → ¬ IsBelow children tag tag
  never_there order rises true_is tag None is some way = false≢true some
  never_there order rises true_is tag (Some place) is some way = never_below order rises true_is tag place (sym is) way

  pub rises_by : (rows : List RowThere) (order : Order) → AreChildren rows children → (IsTrue order.rises → IsOrderOf rows order.places) → Rises children order
  rises_by rows order are up true_is dir tag child place at =
      let (r, among, (from, kind, to)) = (are dir tag).0 child in
      let next = up true_is r among kind place (ap (place_in order.places) from ∙ at) in
      (next.0, ap (place_in order.places) (sym to) ∙ next.1, next.2)
