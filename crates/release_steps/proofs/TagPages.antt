-- Pages of tag directories that are on the list no more wait.
use Rattle.std.proofs.Common.{◌≡◌, ◌⊎◌, inl, inr, ℕ, zero, suc, List, [], ◌∷◌, ◌++◌, Contains, sym, subst, arith, ⊎_elim}
use Rattle.release_list.specs.domain_base.declared.place.Home.{Home}
use Rattle.release_list.specs.domain_base.declared.version.Version.{Version}
use Rattle.release_list.specs.free_space.declared.waiting.PageUse.TheVariants.{Metadata}
use Rattle.release_list.specs.free_space.VolumeSpace.{with_waiting}
use Rattle.release_list.specs.free_space.Spaces.{Spaces, change_volume}
use Rattle.release_list.specs.Listing.{Listing, without_clone}
use Rattle.release_list.specs.Steps.{GivesTagPage, IsWell, Now, Step, Steps, file_ends, more, none, pages_go, quota_goes, reading_ends, tag_page_goes, trim_ends}
use Rattle.release_list.proofs.Lists.{in_start, last_in}
use Rattle.release_steps.specs.Waits.{Waits, waiting_at}
use Rattle.release_steps.proofs.Gone.{there_held, waits_now}
use Rattle.release_steps.proofs.WaitOn.{step_keeps}
use Rattle.release_steps.proofs.Wells.{well_step}

in_or_last : (front : List Home) (last h : Home) → Contains (front ++ last ∷ []) h → Contains front h ⊎ (last ≡ h)
in_or_last [] last h (zero, within, is) = inr is
in_or_last [] last h (suc k, within, is) = absurd (omega (arith, within))
in_or_last (x ∷ front) last h (zero, within, is) = inl (zero, omega arith, is)
in_or_last (x ∷ front) last h (suc k, within, is) =
    ⊎_elim (λ inside. inl (suc inside.0, omega (arith, inside.1), inside.2)) (λ same. inr same) (in_or_last front last h (k, omega (arith, within), is))

abbrev IsListedOrWaits : ℕ → Now → Home → Type 0
IsListedOrWaits group now home = Contains now.list.tag_pages home ⊎ Waits now.space home.vol (waiting_at home Metadata group)

module _ (group : ℕ) (version : Version) (old new : Now) (well : IsWell old) (home : Home) where
  by_list : (list : Listing) → new.list ≡ list → Contains list.tag_pages home → IsListedOrWaits group new home
  by_list list same inside = inl (subst (λ (l : Listing). Contains l.tag_pages home) (sym same) inside)

  tag_goes : GivesTagPage group old new → Contains old.list.tag_pages home → IsListedOrWaits group new home
  tag_goes s inside = ⊎_elim
      (λ front. by_list (record { entries = old.list.entries; tag_pages = s.takes.front }) s.takes.is front)
      (λ same. inr (subst (λ (x : Spaces). Waits x home.vol (waiting_at home Metadata group)) (sym s.takes.waits)
      (subst (λ (h : Home). Waits (change_volume (with_waiting (waiting_at s.takes.home Metadata group)) old.space s.takes.home.vol) h.vol (waiting_at h Metadata group)) same
      (waits_now old.space s.takes.home.vol (waiting_at s.takes.home Metadata group) (there_held old.space s.takes.home.vol s.takes.home.page (well.listed.pages_held s.takes.home there).held)))))
      (in_or_last s.takes.front s.takes.home home (subst (λ (hs : List Home). Contains hs home) s.takes.last inside))
    where
      there : Contains old.list.tag_pages s.takes.home
      there = subst (λ (hs : List Home). Contains hs s.takes.home) (sym s.takes.last) (last_in s.takes.front s.takes.home)

  listed_step : Step group version old new → Contains old.list.tag_pages home → IsListedOrWaits group new home
  listed_step (pages_go s) inside = by_list old.list s.same_list inside
  listed_step (quota_goes s) inside = by_list old.list s.same_list inside
  listed_step (trim_ends s) inside = by_list (record { entries = s.front; tag_pages = old.list.tag_pages }) s.list inside
  listed_step (reading_ends s) inside = inl (subst (λ (l : Listing). Contains l.tag_pages home) (sym s.list) inside)
  listed_step (file_ends s) inside = by_list (record { entries = without_clone s.entry.at s.front; tag_pages = old.list.tag_pages }) s.list inside
  listed_step (tag_page_goes s) inside = tag_goes s inside

  tag_step : Step group version old new → IsListedOrWaits group old home → IsListedOrWaits group new home
  tag_step step is = ⊎_elim
      (λ inside. listed_step step inside)
      (λ waits. inr (step_keeps (λ v. Contains v.waiting (waiting_at home Metadata group)) (λ q v inside. inside) (λ w v inside. in_start v.waiting (w ∷ []) (waiting_at home Metadata group) inside) group version old new step home.vol waits))
      is

record TagStill (group : ℕ) (now : Now) (home : Home) : Type 0 where
  well : IsWell now
  is : IsListedOrWaits group now home

tag_still : (group : ℕ) (version : Version) (first : Now) (count : ℕ) (last : Now) → IsWell first → Steps group version first count last → (home : Home) → Contains first.list.tag_pages home → TagStill group last home
tag_still group version first count last well steps home inside =
    elim steps as (λ count last steps. TagStill group last home) [
      | none ↦ record { well = well; is = inl inside }
      | more n between last (steps → was) step ↦ record {
        well = well_step group version between last was.well step;
        is = tag_step group version between last was.well home step was.is;
      }
    ]

pub tag_pages_wait : (group : ℕ) (version : Version) (first : Now) (count : ℕ) (last : Now) → IsWell first → Steps group version first count last → (home : Home) → Contains first.list.tag_pages home → ¬ Contains last.list.tag_pages home
    → Waits last.space home.vol (waiting_at home Metadata group)
tag_pages_wait group version first count last well steps home inside gone = ⊎_elim (λ listed. absurd (gone listed)) (λ waits. waits) (tag_still group version first count last well steps home inside).is
