-- The order of owners tells all of them apart.
use Rattle.std.proofs.Common.{◌≡◌, ap, refl, arith}
use Rattle.std.specs.declared.cmp.Ordering.{Ordering}
use Rattle.std.specs.declared.cmp.Ordering.TheVariants.{Less, Equal, Greater}
use Rattle.std.specs.Ordering.{nat_cmp, ordering_then}
use Rattle.std.specs.FinMap.{IsAntisymmetric, nat_cmp-IsAntisymmetric}
use Rattle.fileset_values.specs.Orders.{owner_cmp, owner_id, owner_kind}
use Rattle.fileset_values.specs.declared.command.Owner.{Owner}
use Rattle.fileset_values.specs.declared.command.Owner.TheVariants.{User, Group, Fileset}

both_equal : (a b : Ordering) → ordering_then a b ≡ Equal → (a ≡ Equal) × (b ≡ Equal)
both_equal Less b e = absurd (cc)
both_equal Equal b e = (refl, e)
both_equal Greater b e = absurd (cc)

same_owner : (x y : Owner) → owner_kind x ≡ owner_kind y → owner_id x ≡ owner_id y → x ≡ y
same_owner (User m) (User n) kind id = ap User id
same_owner (User m) (Group n) kind id = absurd (omega (arith, kind))
same_owner (User m) Fileset kind id = absurd (omega (arith, kind))
same_owner (Group m) (User n) kind id = absurd (omega (arith, kind))
same_owner (Group m) (Group n) kind id = ap Group id
same_owner (Group m) Fileset kind id = absurd (omega (arith, kind))
same_owner Fileset (User n) kind id = absurd (omega (arith, kind))
same_owner Fileset (Group n) kind id = absurd (omega (arith, kind))
same_owner Fileset Fileset kind id = refl

pub owner_cmp-IsAntisymmetric : IsAntisymmetric owner_cmp
owner_cmp-IsAntisymmetric x y e =
    let both = both_equal (nat_cmp (owner_kind x) (owner_kind y)) (nat_cmp (owner_id x) (owner_id y)) e in
    same_owner x y (nat_cmp-IsAntisymmetric (owner_kind x) (owner_kind y) both.0) (nat_cmp-IsAntisymmetric (owner_id x) (owner_id y) both.1)
