-- A domain that stands has no clone among its filesets.
use Rattle.std.proofs.Common.{◌≡◌, ◌∙◌, ℕ, Option, Some, None, IfSome, IsSome, IsSomeAnd, slice_get, refl, sym, ap, subst, true≢false}
use Rattle.std.specs.FinMap as map
use Rattle.no_faults.specs.fileset_model.Apply.{original_of}
use Rattle.no_faults.specs.fileset_model.Filesets.{FilesetMap}
use Rattle.no_faults.specs.fileset_model.LooksLike.{LooksLike, LooksLikeThere}
use Rattle.no_faults.specs.fileset_values.Orders.{Name, name_cmp-IsAntisymmetric, name_cmp-total}
use Rattle.no_faults.specs.fileset_model.declared.fileset.FilesetSlot.{FilesetSlot}
use Rattle.no_faults.specs.fileset_model.declared.fileset.Role.{Role}
use Rattle.no_faults.specs.fileset_model.declared.fileset.Role.TheVariants as role
use Rattle.no_faults.specs.fileset_table.Table.{entry_of}
use Rattle.no_faults.specs.fileset_table.declared.slot.SlotItem.{SlotItem}
use Rattle.no_faults.specs.fileset_table.declared.slot.SlotItem.TheVariants as slot
use Rattle.no_faults.specs.legal_histories.GoingOn.{HaveNoClone}
use Rattle.no_faults.specs.domain_layout.CellRules.{of_clone}
use Rattle.no_faults.specs.domain_layout.Filled.{FillsThere, IsRole}
use Rattle.no_faults.specs.domain_layout.Shape.{FilesetShape, IsOriginal, IsShapeOf}
use Rattle.no_faults.specs.domain_standing.Domain.{DomainNow}
use Rattle.no_faults.specs.domain_standing.Slots.{StandSlots}

is_original : (name : Option Name) (r : Role) → IsRole name r → name ≡ None → r ≡ role.Original
is_original None r is none = is
is_original (Some name) r is none = absurd (cc)

original_role : (r : Role) → original_of r ≡ None → r ≡ role.Original
original_role role.Original none = refl
original_role (role.CloneOf name out) none = absurd (cc)

-- what looks like filesets without a clone is the same
pub same_filesets : (one other : FilesetMap) → HaveNoClone other → LooksLike one other → one ≡ other
same_filesets one other none alike = map.same_map name_cmp-total name_cmp-IsAntisymmetric one other (λ name. by_there name (map.get one name) (map.get other name) refl (alike name))
  where
    by_there : (name : Name) (a b : Option FilesetSlot) → map.get other name ≡ b → LooksLikeThere a b → a ≡ b
    by_there name None b is looks = sym looks
    by_there name (Some slot) None is looks = absurd looks
    by_there name (Some slot) (Some now) is looks = ap Some (sym (looks.original (original_role slot.role (sym looks.of ∙ ap original_of (none name now is)))))

module _ (d : DomainNow) (all : FilesetMap) (stand : StandSlots d all) where
  of_item : (name : Name) (shape : FilesetShape) (number : ℕ) (item : SlotItem) → stand.shapes name ≡ Some shape → slice_get d.table.slots number ≡ Some item → IsSomeAnd (entry_of item) (λ entry. entry.name ≡ name)
      → IfSome (entry_of item) (λ entry. IsShapeOf d.pages d.table number item (stand.shapes entry.name)) → shape.original ≡ None
  of_item name shape number slot.Free has there named is = absurd named
  of_item name shape number (slot.Removed first_tag quota) has there named is = absurd named
  of_item name shape number (slot.Original entry) has there named is =
      (subst (λ o. IsSomeAnd o (IsOriginal d.pages number entry)) (ap stand.shapes named ∙ has) is).none
  of_item name shape number (slot.Clone of clone entry) has there named is =
      absurd (true≢false (sym (ap of_clone there) ∙ stand.no_clone number))

  no_original : (name : Name) (shape : FilesetShape) → stand.shapes name ≡ Some shape → shape.original ≡ None
  no_original name shape has =
      let found = stand.are.only name (subst IsSome (sym has) refl) in
      of_item name shape found.number found.item has found.there found.named (stand.are.each found.number found.item found.there)

  pub have_no_clone : HaveNoClone all
  have_no_clone name fileset there = by_shape (stand.shapes name) refl (subst (FillsThere d.contents (stand.shapes name)) there (stand.filled name))
    where
      by_shape : (o : Option FilesetShape) → stand.shapes name ≡ o → FillsThere d.contents o (Some fileset) → fileset.role ≡ role.Original
      by_shape None is fills = absurd (cc)
      by_shape (Some shape) is fills = is_original shape.original fileset.role fills.role (no_original name shape is)
