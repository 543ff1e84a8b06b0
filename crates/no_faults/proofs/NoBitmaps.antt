-- Where a domain stands and its bits are kept, no bit of a bitmap is wrong.
use Rattle.std.proofs.Common.{◌≡◌, ◌∙◌, ◌⊎◌, inl, inr, ℕ, ◌+◌, ◌*◌, ◌/◌, ◌%◌, ◌<◌, ◌≤◌, true, false, Option, Some, None, IsSomeAnd, refl, sym, ap, subst, arith, ⊎_elim}
use Rattle.std.proofs.lemmas.Bool.{cases_Bool, cases_lt, true≢false}
use Rattle.std.specs.FinSet.{contains}
use Rattle.std.specs.Option.{option_map_or}
use Rattle.domain_memory.specs.domain_base.declared.place.Home.{Home}
use Rattle.domain_memory.specs.free_space.Bits.{is_set}
use Rattle.domain_memory.specs.log_ring.Homes.{IsMember, member_of}
use Rattle.domain_memory.specs.free_space.Spaces.{volume_of}
use Rattle.domain_memory.specs.free_space.VolumeSpace.{VolumeSpace, is_waiting}
use Rattle.domain_memory.specs.free_cells.Marks.{bitmap_home, is_marked}
use Rattle.domain_memory.specs.fileset_model.Filesets.{FilesetMap}
use Rattle.domain_memory.specs.domain_layout.Layout.{IsLayout, Layout}
use Rattle.domain_memory.specs.domain_layout.Owners.{IsOwned, frame_of}
use Rattle.domain_memory.specs.domain_layout.PageRules.{IsBitmapFault}
use Rattle.domain_memory.specs.domain_standing.Domain.{DomainNow, layout_of}
use Rattle.domain_memory.specs.domain_standing.Holders.{AreHeldAt, IsUnheld}
use Rattle.domain_memory.specs.domain_standing.Standing.{IsMarkedBut, StandsDomain}
use Rattle.domain_memory.specs.standing_laws.Sound.{StandsSound}
use Rattle.no_faults.proofs.OneLayout.{bitmap_here}
use Rattle.no_faults.proofs.Owners.{held_for, owned_as}

module _ (d : DomainNow) (all : FilesetMap) (stands : StandsDomain d all) (sound : StandsSound d stands.files stands.indexes) (marked : IsMarkedBut d) where
  -- what is held for something is used and does not wait, and what is used and does not wait is held
  held_by : (vol page : ℕ) → IsMember d.frame.anchor vol → page < (member_of d.frame.anchor vol).pages → (o : Option VolumeSpace) → AreHeldAt d stands.files stands.indexes vol o
      → ¬ IsUnheld d stands.files stands.indexes (record { vol = vol; page = page }) → IsSomeAnd o (λ v. (contains v.used page ≡ true) × (is_waiting v page ≡ false))
  held_by vol page member within None away some = absurd (away member)
  held_by vol page member within (Some v) of some =
      let low : page < v.pages = subst (λ n. page < n) (sym of.1.count) within in (
        ⊎_elim (λ used. used) (λ unused. absurd (some ((of.1.free page low).0 unused).0)) (cases_Bool (contains v.used page)),
        ⊎_elim (λ waits. absurd (some (of.1.waits page waits))) (λ settled. settled) (cases_Bool (is_waiting v page)),
      )

  unheld_not : (vol page : ℕ) → page < (member_of d.frame.anchor vol).pages → (o : Option VolumeSpace) → AreHeldAt d stands.files stands.indexes vol o
      → IsUnheld d stands.files stands.indexes (record { vol = vol; page = page }) → ¬ IsSomeAnd o (λ v. (contains v.used page ≡ true) × (is_waiting v page ≡ false))
  unheld_not vol page within None away none held = held
  unheld_not vol page within (Some v) of none held =
      let low : page < v.pages = subst (λ n. page < n) (sym of.1.count) within in
      true≢false (sym held.0 ∙ (of.1.free page low).1 (none, held.1))

  unowned : (home : Home) → ¬ IsOwned d.pages (layout_of d) home → IsUnheld d stands.files stands.indexes home
  unowned home none holder held = none (owned_as d all stands sound holder home held)

  -- a page has an owner, or is none of its volume's
  abbrev IsMarkedSo : ℕ → ℕ → Type 0
  IsMarkedSo vol page = IsOwned d.pages (layout_of d) (record { vol = vol; page = page }) ⊎ ((member_of d.frame.anchor vol).pages ≤ page)

  no_wrong : (home : Home) → ¬ IsBitmapFault d.pages (layout_of d) home
  no_wrong home w = ⊎_elim by_set by_clear (cases_Bool (is_set w.bytes w.bit))
    where
      marked_is : is_marked d.pages home.vol (65536 * w.number + w.bit) ≡ is_set w.bytes w.bit
      marked_is = at_page (65536 * w.number + w.bit) refl
        where
          at_page : (n : ℕ) → n ≡ 65536 * w.number + w.bit → option_map_or (λ bytes. is_set bytes (n % 65536)) (d.pages (bitmap_home home.vol n)) false ≡ is_set w.bytes w.bit
          at_page n is =
              let place : bitmap_home home.vol n ≡ home = (let quotient : 2 + n / 65536 ≡ home.page = omega (arith, is, w.some, w.at) in λ i. record { vol = home.vol; page = quotient i }) in
              let bit : n % 65536 ≡ w.bit = omega (arith, is, w.some) in
              (λ i. option_map_or (λ bytes. is_set bytes (bit i)) (d.pages (place i)) false) ∙ ap (λ o. option_map_or (λ bytes. is_set bytes w.bit) o false) w.there

      space : AreHeldAt d stands.files stands.indexes home.vol (volume_of d.space home.vol)
      space = stands.owned.spaces home.vol w.member.first

      by_set : is_set w.bytes w.bit ≡ true → ⊥
      by_set set = w.wrong ((λ _. right), (λ _. set))
        where
          none : ¬ IsMarkedSo home.vol (65536 * w.number + w.bit) → ⊥
          none not_right =
              ⊎_elim (λ low. unheld_not home.vol (65536 * w.number + w.bit) low (volume_of d.space home.vol) space
              (unowned (record { vol = home.vol; page = 65536 * w.number + w.bit }) (λ owned. not_right (inl owned)))
              ((marked.bits home.vol (65536 * w.number + w.bit) w.member low).0 (marked_is ∙ set)))
              (λ past. not_right (inr past)) (cases_lt (65536 * w.number + w.bit) (member_of d.frame.anchor home.vol).pages)

          right : IsMarkedSo home.vol (65536 * w.number + w.bit)
          right = absurd (none (λ right. w.wrong ((λ _. right), (λ _. set))))

      by_clear : is_set w.bytes w.bit ≡ false → ⊥
      by_clear clear = w.wrong ((λ set. absurd (true≢false (sym set ∙ clear))), (λ right. absurd (⊎_elim of_owner past right)))
        where
          past : ¬ (member_of d.frame.anchor home.vol).pages ≤ 65536 * w.number + w.bit
          past far = true≢false (sym (marked.behind home.vol (65536 * w.number + w.bit) w.member far (omega (arith, w.within, w.some))) ∙ marked_is ∙ clear)

          of_owner : ¬ IsOwned d.pages (layout_of d) (record { vol = home.vol; page = 65536 * w.number + w.bit })
          of_owner owned =
              ⊎_elim (λ low.
              let held = held_for d all stands sound owned.0 (record { vol = home.vol; page = 65536 * w.number + w.bit }) owned.1 in
              true≢false (sym ((marked.bits home.vol (65536 * w.number + w.bit) w.member low).1
              (held_by home.vol (65536 * w.number + w.bit) w.member low (volume_of d.space home.vol) space (λ none. none held.0 held.1))) ∙ marked_is ∙ clear))
              past (cases_lt (65536 * w.number + w.bit) (member_of d.frame.anchor home.vol).pages)

  pub no_bitmaps : (layout : Layout) → frame_of layout ≡ d.frame → IsLayout d.pages layout → (home : Home) → ¬ IsBitmapFault d.pages layout home
  no_bitmaps layout same laid home fault = no_wrong home (bitmap_here d stands.tables layout same laid home fault)
