-- Pages of bitmaps that are found to have wrong bits.
use Rattle.std.proofs.Common.{◌≡◌, ◌∙◌, ◌↔◌, ◌*◌, inl, inr, ℕ, ◌+◌, ◌≤◌, Bool, IsTrue, List, Some, None, sym, ap, subst, arith, ⊎_elim}
use Rattle.tag_faults.specs.domain_base.declared.place.Home.{Home}
use Rattle.tag_faults.specs.page_store.Pages.{Pages}
use Rattle.tag_faults.specs.log_ring.Homes.{IsMember, member_of}
use Rattle.tag_faults.specs.domain_layout.Reached.{Frame}
use Rattle.tag_faults.specs.free_space.CheckBits.{IsWrongPage}
use Rattle.tag_faults.specs.cell_chains.Runs.{on}
use Rattle.tag_faults.specs.cell_chains.declared.run.FileRun.{FileRun}
use Rattle.tag_faults.proofs.Counted.{IsBelow}
use Rattle.page_faults.specs.Wrong.{HasWrongBitmap, HasWrongBits, IsOwnedBy, IsWrongBitmap, IsWrongBitmapOf}

some_same : {X : Type 0} (a b : X) → Some a ≡ Some b → a ≡ b
some_same a b e = cc

none_some : {X : Type 0} (x : X) → None ≡ Some x → ⊥
none_some x e = cc

module _ (pages : Pages) (frame : Frame) where
  module _ (Owned : ℕ → Type 0) (vol number : ℕ) (here : Home) (same : here ≡ on vol (2 + number)) where
    here_at : (home : Home) → HasWrongBits pages frame Owned vol home number → here ≡ home
    here_at home wrong = same ∙ sym wrong.at

    pub no_page : None ≡ pages here → (home : Home) → ¬ HasWrongBits pages frame Owned vol home number
    no_page none home wrong = none_some wrong.page (none ∙ ap pages (here_at home wrong) ∙ wrong.there)

    pub page_wrong : (page : List ℕ) → pages here ≡ Some page → (wrong : Bool) → IsTrue wrong ↔ IsWrongPage page Owned (member_of frame.anchor vol).pages (65536 * number)
        → (home : Home) → ((home ≡ here) × IsTrue wrong) ↔ HasWrongBits pages frame Owned vol home number
    page_wrong page there wrong told home = (
      λ (is, bad). record { at = is ∙ same; page = page; there = ap pages is ∙ there; wrong = told.0 bad },
      λ has. (
        sym (here_at home has),
        told.1 (subst (λ (p : List ℕ). IsWrongPage p Owned (member_of frame.anchor vol).pages (65536 * number)) (some_same has.page page (sym has.there ∙ sym (ap pages (here_at home has)) ∙ there)) has.wrong),
      ),
    )

-- by the pages that are owned otherwise
pub same_bits : (pages : Pages) (frame : Frame) (One Other : ℕ → Type 0) → ((n : ℕ) → One n ↔ Other n) → (vol : ℕ) (home : Home) → HasWrongBitmap pages frame One vol home → HasWrongBitmap pages frame Other vol home
same_bits pages frame One Other same vol home (number, within, wrong) = (
  number,
  within,
  record {
    at = wrong.at;
    page = wrong.page;
    there = wrong.there;
    wrong = let (bit, some, bad) = wrong.wrong in (
      bit,
      some,
      (λ right. bad (
        (λ set. ⊎_elim (λ owned. inl ((same (65536 * number + bit)).1 owned)) (λ past. inr past) (right.0 set)),
        (λ which. right.1 (⊎_elim (λ owned. inl ((same (65536 * number + bit)).0 owned)) (λ past. inr past) which)),
      )),
    );
  },
)

pub bitmaps_by : (pages : Pages) (frame : Frame) (homes : List Home) (runs : List FileRun) (vol : ℕ) → IsMember frame.anchor vol → (Found : ℕ → Type 0) → ((n : ℕ) → Found n ↔ IsOwnedBy frame homes runs (on vol n))
    → (home : Home) → HasWrongBitmap pages frame Found vol home ↔ IsWrongBitmapOf pages frame homes runs home vol
bitmaps_by pages frame homes runs vol member Found same home = (
  λ wrong. (member, same_bits pages frame Found (λ n. IsOwnedBy frame homes runs (on vol n)) same vol home wrong),
  λ (also, wrong). same_bits pages frame (λ n. IsOwnedBy frame homes runs (on vol n)) Found (λ n. ((same n).1, (same n).0)) vol home wrong,
)

-- of all members
pub bitmaps_all : (pages : Pages) (frame : Frame) (homes : List Home) (runs : List FileRun) (home : Home) (number : ℕ) → 9 ≤ number → IsBelow (IsWrongBitmapOf pages frame homes runs home) number ↔ IsWrongBitmap pages frame homes runs home
bitmaps_all pages frame homes runs home number whole = (
  λ (vol, below, wrong). (vol, wrong),
  λ (vol, wrong). (vol, omega (arith, whole, wrong.0.last), wrong),
)
