-- Labels of members, one volume after the other.
use Rattle.std.proofs.Common.{◌≡◌, ℕ, zero, suc, ◌+◌, ◌-◌, ◌<◌, ◌≤◌, List, Option, Some, None, IfSome, length, get_or, get_or-set_other, get_or-set_same, set, sym, ◌∙◌, ap, subst, inl, inr, arith}
use Rattle.std.proofs.Math.ListN.{get_or-eq_default}
use Rattle.std.proofs.lemmas.Bool.{cases_eq, cases_lt}
use Rattle.log_ring.specs.domain_base.declared.version.Version.{Version}
use Rattle.log_ring.specs.domain_base.declared.version.Version.TheVariants.{Three}
use Rattle.log_ring.specs.volume_disk.Disk.{volume_pages}
use Rattle.log_ring.specs.volume_disk.Image.{Image}
use Rattle.log_ring.specs.disk_label.declared.anchor.Anchor.{Anchor}
use Rattle.log_ring.specs.Homes.{IsMember}
use Rattle.log_recovery.specs.Members.{AreLabelledBelow, AreThereBelow, AreVersionsBelow, IsLabelled, IsThere, label_version}

-- a volume that has a page is one of the rack
pub volume_there : (sizes : List ℕ) (vol : ℕ) → 1 ≤ volume_pages sizes vol → vol ≤ length sizes
volume_there sizes zero some = omega arith
volume_there sizes (suc v) some = elim (cases_lt v (length sizes)) [
  | inl lt ↦ omega (arith, lt)
  | inr past ↦ absurd (omega (arith, some, get_or-eq_default sizes 0 past))
]

module _ (sizes : List ℕ) (image : Image) (anchor : Anchor) (vol : ℕ) where
  pub labelled_more : AreLabelledBelow vol sizes image anchor → (IsMember anchor vol → IsLabelled sizes image anchor vol) → AreLabelledBelow (vol + 1) sizes image anchor
  labelled_more below here v lt member = elim (cases_eq v vol) [
    | inl is ↦ subst (IsLabelled sizes image anchor) (sym is) (here (subst (IsMember anchor) is member))
    | inr other ↦ below v (omega (arith, lt, other)) member
  ]

module _ (sizes : List ℕ) (anchor : Anchor) (vol : ℕ) where
  pub there_more : AreThereBelow vol sizes anchor → (IsMember anchor vol → IsThere sizes anchor vol) → AreThereBelow (vol + 1) sizes anchor
  there_more below here v lt member = elim (cases_eq v vol) [
    | inl is ↦ subst (IsThere sizes anchor) (sym is) (here (subst (IsMember anchor) is member))
    | inr other ↦ below v (omega (arith, lt, other)) member
  ]

module _ (image : Image) (anchor : Anchor) (vol : ℕ) where
  pub versions_more : (versions : List Version) (at : ℕ) (version : Version) → at + 1 ≡ vol → at < length versions → AreVersionsBelow vol image anchor versions → (IsMember anchor vol → version ≡ label_version image vol) → AreVersionsBelow (vol + 1) image anchor (set versions at version)
  versions_more versions at version is_at within below here v lt member = elim (cases_eq v vol) [
    | inl is ↦
        let place : v - 1 ≡ at = omega (arith, is, is_at) in
        ap (λ (i : ℕ). get_or (set versions at version) i Three) place ∙ get_or-set_same versions at version Three within ∙ here (subst (IsMember anchor) is member) ∙ ap (label_version image) (sym is)
    | inr other ↦
        let first = member.first in
        let elsewhere : (v - 1) ≡ at → ⊥ = λ same. other (omega (arith, same, is_at, first)) in
        get_or-set_other versions at (v - 1) version Three elsewhere ∙ below v (omega (arith, lt, other)) member
  ]

-- a fact of each value that may be there
pub in_either : {X : Type 0} (o : Option X) (P : Type 0) → P → IfSome o (λ _. P)
in_either None P holds = tt
in_either (Some x) P holds = holds
