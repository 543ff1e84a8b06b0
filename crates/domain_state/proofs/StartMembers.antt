-- The members of a state as an anchor has them.
use Rattle.std.proofs.Common.{◌≡◌, ◌∙◌, inl, inr, ℕ, zero, suc, ◌≤◌, ◌↔◌, ◌==◌, Some, None, refl, sym, ap, subst, arith, eqb-true, eq-eqb, ⊎_elim}
use Rattle.std.proofs.lemmas.Bool.{cases_Bool, cases_order, true≢false}
use Rattle.std.specs.Ordering.{nat_cmp}
use Rattle.std.specs.Cmp.{nat_cmp_total}
use Rattle.std.specs.FinMap as map
use Rattle.std.specs.FinMap.{get, nat_cmp-IsAntisymmetric}
use Rattle.no_faults.specs.disk_label.declared.anchor.Anchor.{Anchor}
use Rattle.no_faults.specs.log_ring.Homes.{IsMember, member_of}
use Rattle.no_faults.proofs.OfFilesetValues.MapLemmas.{get-insert_other, get-insert_same, got-insert}
use Rattle.no_faults.proofs.OfDomainLayout.OnePage.{some_same}
use Rattle.no_faults.specs.legal_histories.State.{Member, MemberMap}
use Rattle.domain_state.specs.Opening.{IsMemberAs}
use Rattle.domain_state.proofs.Decided.{Decided}
use Rattle.domain_state.proofs.OldPages.{member_decided}

-- a member as the anchor has it
abbrev as_member : Anchor → ℕ → Member
as_member anchor vol = record { pages = (member_of anchor vol).pages; is_open = (member_of anchor vol).state == 1 }

is_as : (anchor : Anchor) (vol : ℕ) → IsMember anchor vol → IsMemberAs anchor vol (as_member anchor vol)
is_as anchor vol there = record {
  there = there;
  pages = refl;
  opened = (eqb-true (member_of anchor vol).state 1, eq-eqb (member_of anchor vol).state 1);
}

one_member : (anchor : Anchor) (vol : ℕ) (member : Member) → IsMemberAs anchor vol member → as_member anchor vol ≡ member
one_member anchor vol member is =
    let opened : ((member_of anchor vol).state == 1) ≡ member.is_open =
    ⊎_elim (λ open_now. eq-eqb (member_of anchor vol).state 1 (is.opened.0 open_now) ∙ sym open_now)
    (λ closed. ⊎_elim (λ one. absurd (true≢false (sym (is.opened.1 (eqb-true (member_of anchor vol).state 1 one)) ∙ closed))) (λ other. other ∙ sym closed) (cases_Bool ((member_of anchor vol).state == 1)))
    (cases_Bool member.is_open) in
    λ i. record { pages = sym is.pages i; is_open = opened i }

module _ (anchor : Anchor) where
  with_one : (vol : ℕ) → Decided (IsMember anchor vol) → MemberMap → MemberMap
  with_one vol (inl there) rest = map.insert rest vol (as_member anchor vol)
  with_one vol (inr none) rest = rest

  -- those of the first volumes
  first_members : ℕ → MemberMap
  first_members zero = map.empty
  first_members (suc v) = with_one (suc v) (member_decided anchor (suc v)) (first_members v)

  -- one of them
  IsFirst : ℕ → ℕ → Member → Type 0
  IsFirst v vol member = (vol ≤ v) × IsMemberAs anchor vol member

  none_in : (vol : ℕ) (member : Member) → ¬ get (map.empty {R = nat_cmp}) vol ≡ Some member
  none_in vol member at = let e : None ≡ Some member = sym (map.get-empty nat_cmp vol) ∙ at in absurd (cc)

  in_one : (v : ℕ) (p : Decided (IsMember anchor (suc v))) (rest : MemberMap) → ((vol : ℕ) (member : Member) → get rest vol ≡ Some member → IsFirst v vol member)
      → (vol : ℕ) (member : Member) → get (with_one (suc v) p rest) vol ≡ Some member → IsFirst (suc v) vol member
  unfolding with_one IsFirst
  in_one v (inl there) rest each vol member at =
      ⊎_elim (λ here.
      let same : as_member anchor (suc v) ≡ member = some_same (as_member anchor (suc v)) member (sym here.1) in
      (omega (arith, here.0), subst (λ n. IsMemberAs anchor n member) (sym here.0) (subst (IsMemberAs anchor (suc v)) same (is_as anchor (suc v) there))))
      (λ other. let is = each vol member other.1 in (omega (arith, is.0), is.1))
      (got-insert nat_cmp_total nat_cmp-IsAntisymmetric rest (suc v) (as_member anchor (suc v)) vol (Some member) at)
  in_one v (inr none) rest each vol member at = let is = each vol member at in (omega (arith, is.0), is.1)

  to_one : (v : ℕ) (p : Decided (IsMember anchor (suc v))) (rest : MemberMap) → ((vol : ℕ) (member : Member) → IsFirst v vol member → get rest vol ≡ Some member)
      → (vol : ℕ) (member : Member) → IsFirst (suc v) vol member → get (with_one (suc v) p rest) vol ≡ Some member
  unfolding with_one IsFirst
  to_one v (inl there) rest each vol member is =
      ⊎_elim (λ last.
      subst (λ n. get (map.insert rest (suc v) (as_member anchor (suc v))) n ≡ Some member) (sym last)
      (get-insert_same nat_cmp_total nat_cmp-IsAntisymmetric rest (suc v) (as_member anchor (suc v)) ∙ ap Some (one_member anchor (suc v) member (subst (λ n. IsMemberAs anchor n member) last is.1))))
      (λ apart.
      let low : vol ≤ v = ⊎_elim (λ less. omega (arith, less)) (λ more. absurd (omega (arith, more, is.0))) apart in
      let other : ¬ vol ≡ suc v = λ same. absurd (omega (arith, same, low)) in
      get-insert_other nat_cmp_total nat_cmp-IsAntisymmetric rest (suc v) (as_member anchor (suc v)) vol other ∙ each vol member (low, is.1))
      (cases_order vol (suc v))
  to_one v (inr none) rest each vol member is =
      ⊎_elim (λ last. absurd (none (subst (IsMember anchor) last is.1.there)))
      (λ apart. each vol member (⊎_elim (λ less. omega (arith, less)) (λ more. absurd (omega (arith, more, is.0))) apart, is.1))
      (cases_order vol (suc v))

  in_first : (v : ℕ) (vol : ℕ) (member : Member) → get (first_members v) vol ≡ Some member → IsFirst v vol member
  unfolding first_members
  in_first zero vol member at = absurd (none_in vol member at)
  in_first (suc v) vol member at = in_one v (member_decided anchor (suc v)) (first_members v) (in_first v) vol member at

  to_first : (v : ℕ) (vol : ℕ) (member : Member) → IsFirst v vol member → get (first_members v) vol ≡ Some member
  unfolding first_members IsFirst
  to_first zero vol member is = absurd (omega (arith, is.0, is.1.there.first))
  to_first (suc v) vol member is = to_one v (member_decided anchor (suc v)) (first_members v) (to_first v) vol member is

  pub members_of : MemberMap
  members_of = first_members 8

  pub are_members : (vol : ℕ) (member : Member) → (get members_of vol ≡ Some member) ↔ IsMemberAs anchor vol member
  unfolding members_of IsFirst
  are_members vol member = ((λ at. (in_first 8 vol member at).1), (λ is. to_first 8 vol member (is.there.last, is)))
