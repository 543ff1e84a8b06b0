-- Free space of which some pages wait, and nothing else is changed.
use Rattle.std.proofs.Common.{◌≡◌, ◌∙◌, ℕ, ◌-◌, Bool, true, false, nat_eq, List, [], ◌∷◌, Option, Some, None, get_or, refl, sym, ap, subst}
use Rattle.std.proofs.lemmas.Bool.{both_ways, eq-eqb, eqb-true}
use Rattle.std.specs.Option.{option_map}
use Rattle.standing_laws.specs.domain_base.declared.place.Home.{Home}
use Rattle.standing_laws.specs.free_space.declared.waiting.PageUse.{PageUse}
use Rattle.standing_laws.specs.free_space.declared.waiting.Waiting.{Waiting}
use Rattle.standing_laws.specs.free_space.Spaces.{Spaces, change_volume, volume_of}
use Rattle.standing_laws.specs.free_space.VolumeSpace.{VolumeSpace, with_waiting}
use Rattle.standing_laws.proofs.OfFreeSpace.Places.{volume_of-change_other, volume_of-change_same}
use Rattle.standing_laws.specs.file_release.Releases.{with_given}

-- a volume has the pages that it had, and those that were used
pub record KeepsUsed (v w : VolumeSpace) : Type 0 where
  pub pages : w.pages ≡ v.pages
  pub opened : w.is_open ≡ v.is_open
  pub used : w.used ≡ v.used

abbrev pub ThereKeeps : Option VolumeSpace → Option VolumeSpace → Type 0
ThereKeeps None None = Unit {0}
ThereKeeps None (Some w) = ⊥
ThereKeeps (Some v) None = ⊥
ThereKeeps (Some v) (Some w) = KeepsUsed v w

abbrev pub SpacesKeep : Spaces → Spaces → Type 0
SpacesKeep s t = (vol : ℕ) → ThereKeeps (volume_of s vol) (volume_of t vol)

there_itself : (o : Option VolumeSpace) → ThereKeeps o o
there_itself None = tt
there_itself (Some v) = record { pages = refl; opened = refl; used = refl }

pub spaces_itself : (s t : Spaces) → t ≡ s → SpacesKeep s t
spaces_itself s t same vol = subst (λ (x : Spaces). ThereKeeps (volume_of s vol) (volume_of x vol)) (sym same) (there_itself (volume_of s vol))

there_joined : (a b c : Option VolumeSpace) → ThereKeeps a b → ThereKeeps b c → ThereKeeps a c
there_joined None None None one two = tt
there_joined None None (Some w) one two = absurd two
there_joined None (Some v) c one two = absurd one
there_joined (Some u) None c one two = absurd one
there_joined (Some u) (Some v) None one two = absurd two
there_joined (Some u) (Some v) (Some w) one two = record { pages = two.pages ∙ one.pages; opened = two.opened ∙ one.opened; used = two.used ∙ one.used }

pub spaces_joined : (a b c : Spaces) → SpacesKeep a b → SpacesKeep b c → SpacesKeep a c
spaces_joined a b c one two vol = there_joined (volume_of a vol) (volume_of b vol) (volume_of c vol) (one vol) (two vol)

there_waits : (w : Waiting) (o : Option VolumeSpace) → ThereKeeps o (option_map (with_waiting w) o)
there_waits w None = tt
there_waits w (Some v) = record { pages = refl; opened = refl; used = refl }

pub spaces_waits : (w : Waiting) (s : Spaces) (vol : ℕ) → SpacesKeep s (change_volume (with_waiting w) s vol)
spaces_waits w s vol other = by_test (nat_eq (other - 1) (vol - 1)) refl
  where
    by_test : (b : Bool) → nat_eq (other - 1) (vol - 1) ≡ b → ThereKeeps (volume_of s other) (volume_of (change_volume (with_waiting w) s vol) other)
    by_test true is =
        let same = eqb-true (other - 1) (vol - 1) is in
        let there : volume_of (change_volume (with_waiting w) s vol) other ≡ option_map (with_waiting w) (volume_of s other) =
        ap (λ i. get_or (change_volume (with_waiting w) s vol).volumes i None) same ∙ volume_of-change_same (with_waiting w) s vol ∙ ap (λ i. option_map (with_waiting w) (get_or s.volumes i None)) (sym same) in
        subst (ThereKeeps (volume_of s other)) (sym there) (there_waits w (volume_of s other))
    by_test false differ =
        subst (ThereKeeps (volume_of s other)) (sym (volume_of-change_other (with_waiting w) s vol other (λ same. both_ways (nat_eq (other - 1) (vol - 1)) differ (eq-eqb (other - 1) (vol - 1) same)))) (there_itself (volume_of s other))

pub spaces_given : (kind : PageUse) (group : ℕ) (homes : List Home) (s : Spaces) → SpacesKeep s (with_given kind group homes s)
spaces_given kind group [] s = spaces_itself s s refl
spaces_given kind group (x ∷ xs) s = spaces_joined s (with_given kind group xs s) (change_volume (with_waiting (record { page = x.page; kind = kind; group = group })) (with_given kind group xs s) x.vol)
    (spaces_given kind group xs s) (spaces_waits (record { page = x.page; kind = kind; group = group }) (with_given kind group xs s) x.vol)
