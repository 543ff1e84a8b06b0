-- One bit of a page of a bitmap, set or cleared.
use Rattle.std.proofs.Common.{◌≡◌, ◌∙◌, ℕ, zero, suc, ◌+◌, ◌/◌, ◌%◌, ◌<◌, Bool, true, false, ◌&&◌, List, [], ◌∷◌, ◌++◌, length, take, drop, set, slice_index, Some, IsSomeAnd, if◌then◌else◌, nat_eq, refl, sym, ap, subst, arith, ⊎_elim, true≢false}
use Rattle.std.proofs.lemmas.List.{append_assoc}
use Rattle.std.proofs.lemmas.Bool.{cases_eq, eq-eqb, ne_eqb, eqb-true, and_parts}
use Rattle.std.specs.Int.{bit_at}
use Rattle.std.specs.Option.{is_some, option_map_or}
use Rattle.metadata_cells.specs.domain_base.Page.{overwritten}
use Rattle.metadata_cells.specs.domain_base.declared.place.Home.{Home}
use Rattle.metadata_cells.specs.page_store.Pages.{Pages, same_home, with_page}
use Rattle.free_space.specs.Bits.{is_set}
use Rattle.free_space.proofs.Used.{Writes, writes}
use Rattle.metadata_cells.proofs.Changed.{homes_same, same_itself}
use Rattle.free_cells.specs.Marks.{bitmap_home, is_marked}
use Rattle.free_cells.specs.Marking.{MarksAll}

set_over : (bytes : List ℕ) (at n v : ℕ) → n ≡ at + 1 → at < length bytes → take at bytes ++ v ∷ drop n bytes ≡ set bytes at v
set_over [] at n v e within = absurd (omega (arith, within))
set_over (x ∷ xs) zero n v e within = subst (λ m. v ∷ drop m (x ∷ xs) ≡ v ∷ xs) (sym e) refl
set_over (x ∷ xs) (suc k) n v e within =
    let is : n ≡ suc (k + 1) = omega (arith, e) in
    subst (λ m. x ∷ (take k xs ++ v ∷ drop m (x ∷ xs)) ≡ x ∷ set xs k v) (sym is) (ap (λ (l : List ℕ). x ∷ l) (set_over xs k (k + 1) v refl (omega (arith, within))))

-- a byte that is written is a place that is set
pub one_written : (bytes : List ℕ) (at v : ℕ) → at < length bytes → overwritten bytes at (v ∷ []) ≡ set bytes at v
one_written bytes at v within = append_assoc (take at bytes) (v ∷ []) (drop (at + 1) bytes) ∙ set_over bytes at (at + 1) v refl within

module _ (old new : Pages) (vol page v : ℕ) (is_used : Bool) (bytes : List ℕ) (was : old (bitmap_home vol page) ≡ Some bytes) (whole : length bytes ≡ 8192)
    (here : nat_eq (bit_at v (page % 65536 % 8)) 1 ≡ is_used)
    (others : (i : ℕ) → i < 8 → (i ≡ page % 65536 % 8 → ⊥) → bit_at v i ≡ bit_at (slice_index bytes (page % 65536 / 8)) i)
    (value : new ≡ with_page (bitmap_home vol page) (overwritten bytes (page % 65536 / 8) (v ∷ [])) old) where
  abbrev home : Home
  home = bitmap_home vol page

  abbrev after : List ℕ
  after = overwritten bytes (page % 65536 / 8) (v ∷ [])

  written : Writes bytes after (page % 65536) is_used
  written = subst (λ (l : List ℕ). Writes bytes l (page % 65536) is_used) (sym (one_written bytes (page % 65536 / 8) v (omega (arith, whole))))
      (writes bytes (page % 65536) v is_used (omega (arith, whole)) here others)

  at_home : (h : Home) (b : Bool) → same_home h home ≡ b → new h ≡ (if b then Some after else old h)
  at_home h b is = ap (λ (pages : Pages). pages h) value ∙ ap (λ c. if c then Some after else old h) is

  -- a bit of that page
  bit_there : (u q : ℕ) → bitmap_home u q ≡ home → is_marked new u q ≡ is_set after (q % 65536)
  bit_there u q same = ap (λ o. option_map_or (λ (l : List ℕ). is_set l (q % 65536)) o false) (ap new same ∙ at_home home true (same_itself home))

  bit_was : (u q : ℕ) → bitmap_home u q ≡ home → is_marked old u q ≡ is_set bytes (q % 65536)
  bit_was u q same = ap (λ o. option_map_or (λ (l : List ℕ). is_set l (q % 65536)) o false) (ap old same ∙ was)

  abbrev this : ℕ → ℕ → Bool
  this u q = nat_eq u vol && nat_eq q page

  is_this : (u q : ℕ) → u ≡ vol → q ≡ page → this u q ≡ true
  is_this u q a b = (λ i. eq-eqb u vol a i && nat_eq q page) ∙ eq-eqb q page b

  on_page : (u q : ℕ) → bitmap_home u q ≡ home → is_marked new u q ≡ (if this u q then is_used else is_marked old u q)
  on_page u q same =
      let vols : u ≡ vol = ap (λ (h : Home). h.vol) same in
      let numbers : 2 + q / 65536 ≡ 2 + page / 65536 = ap (λ (h : Home). h.page) same in
      ⊎_elim
      (λ bit. bit_there u q same ∙ ap (is_set after) bit ∙ written.same ∙ sym (ap (λ b. if b then is_used else is_marked old u q) (is_this u q vols (omega (arith, numbers, bit)))))
      (λ other. bit_there u q same ∙ written.others (q % 65536) other ∙ sym (bit_was u q same)
      ∙ sym (ap (λ b. if b then is_used else is_marked old u q) (ap (λ b. nat_eq u vol && b) (ne_eqb q page (λ e. other (ap (λ n. n % 65536) e))) ∙ and_none (nat_eq u vol))))
      (cases_eq (q % 65536) (page % 65536))
    where
      and_none : (b : Bool) → (b && false) ≡ false
      and_none true = refl
      and_none false = refl

  off_page : (u q : ℕ) → same_home (bitmap_home u q) home ≡ false → is_marked new u q ≡ (if this u q then is_used else is_marked old u q)
  off_page u q apart = by_this (this u q) refl
    where
      still : is_marked new u q ≡ is_marked old u q
      still = ap (λ o. option_map_or (λ (l : List ℕ). is_set l (q % 65536)) o false) (at_home (bitmap_home u q) false apart)

      by_this : (b : Bool) → this u q ≡ b → is_marked new u q ≡ (if b then is_used else is_marked old u q)
      by_this true is =
          let both = and_parts (nat_eq u vol) (nat_eq q page) is in
          let same : bitmap_home u q ≡ home = λ i. bitmap_home (eqb-true u vol both.0 i) (eqb-true q page both.1 i) in
          absurd (true≢false (sym (same_itself home) ∙ sym (ap (λ h. same_home h home) same) ∙ apart))
      by_this false is = still

  pub marks_one : MarksAll vol (λ p. nat_eq p page) is_used old new
  marks_one = record {
    bits = λ u q. by_home u q (same_home (bitmap_home u q) home) refl;
    there = λ h. by_there h (same_home h home) refl;
    elsewhere = λ h apart. at_home h false (apart page (eq-eqb page page refl));
  }
    where
      by_home : (u q : ℕ) (b : Bool) → same_home (bitmap_home u q) home ≡ b → is_marked new u q ≡ (if this u q then is_used else is_marked old u q)
      by_home u q true is = on_page u q (homes_same (bitmap_home u q) home is)
      by_home u q false is = off_page u q is

      by_there : (h : Home) (b : Bool) → same_home h home ≡ b → is_some (new h) ≡ is_some (old h)
      by_there h true is = ap is_some (at_home h true is) ∙ sym (ap is_some (ap old (homes_same h home is) ∙ was))
      by_there h false is = ap is_some (at_home h false is)

-- the same where the page that was written is known as one that stood there
pub mark_is : (old new : Pages) (vol page v : ℕ) (is_used : Bool) (bytes : List ℕ) → old (bitmap_home vol page) ≡ Some bytes → length bytes ≡ 8192
    → (nat_eq (bit_at v (page % 65536 % 8)) 1 ≡ is_used) → ((i : ℕ) → i < 8 → (i ≡ page % 65536 % 8 → ⊥) → bit_at v i ≡ bit_at (slice_index bytes (page % 65536 / 8)) i)
    → IsSomeAnd (old (bitmap_home vol page)) (λ l. new ≡ with_page (bitmap_home vol page) (overwritten l (page % 65536 / 8) (v ∷ [])) old)
    → MarksAll vol (λ p. nat_eq p page) is_used old new
mark_is old new vol page v is_used bytes was whole here others value =
    marks_one old new vol page v is_used bytes was whole here others
    (subst (λ o. IsSomeAnd o (λ l. new ≡ with_page (bitmap_home vol page) (overwritten l (page % 65536 / 8) (v ∷ [])) old)) was value)
