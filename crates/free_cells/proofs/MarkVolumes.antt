-- The bitmaps of all volumes, one after the other.
use Rattle.std.proofs.Common.{◌≡◌, ◌∙◌, ℕ, zero, suc, ◌+◌, ◌-◌, ◌<◌, ◌≤◌, List, [], ◌∷◌, Option, None, IfSome, map, slice_index_or, refl, sym, subst, arith, ⊎_elim}
use Rattle.std.proofs.lemmas.Bool.{cases_eq}
use Rattle.std.specs.Option.{option_map}
use Rattle.metadata_cells.specs.page_store.Pages.{Pages}
use Rattle.free_space.specs.Sound.{AreSoundVolumes, IsSoundVolume}
use Rattle.free_space.specs.Spaces.{Spaces, change_volumes, kept_spaces, volume_of}
use Rattle.free_space.specs.VolumeSpace.{VolumeSpace}
use Rattle.free_cells.specs.Marks.{is_marked}
use Rattle.free_cells.specs.Marking.{ChangeBits, ChangesBits, IsPageIn, SayHeld, SaysHeld}

index_changed : (change : VolumeSpace → VolumeSpace) (volumes : List (Option VolumeSpace)) (k : ℕ) → slice_index_or (map (option_map change) volumes) k None ≡ option_map change (slice_index_or volumes k None)
index_changed change [] k = refl
index_changed change (v ∷ vs) zero = refl
index_changed change (v ∷ vs) (suc k) = index_changed change vs k

-- each volume is changed, so this one is
pub volume_changed : (change : VolumeSpace → VolumeSpace) (space : Spaces) (vol : ℕ) → volume_of (change_volumes change space) vol ≡ option_map change (volume_of space vol)
volume_changed change space vol = index_changed change space.volumes (vol - 1)

sound_in : (volumes : List (Option VolumeSpace)) (k : ℕ) → AreSoundVolumes volumes → IfSome (slice_index_or volumes k None) IsSoundVolume
sound_in [] k sound = tt
sound_in (v ∷ vs) zero sound = sound.0
sound_in (v ∷ vs) (suc k) sound = sound_in vs k sound.1

pub sound_at : (space : Spaces) (vol : ℕ) → AreSoundVolumes space.volumes → IfSome (volume_of space vol) IsSoundVolume
sound_at space vol sound = sound_in space.volumes (vol - 1) sound

-- the bits of volumes below a number are marked, and those of the others are as they were kept
pub record MarkedBelow (space : Spaces) (number : ℕ) (old new : Pages) : Type 0 where
  pub done : (vol : ℕ) → 1 ≤ vol → vol < number → SaysHeld new vol (volume_of space vol)
  pub ahead : (vol : ℕ) → number ≤ vol → vol ≤ 8 → SaysHeld new vol (volume_of (kept_spaces space) vol)
  pub change : ChangeBits space old new

pub none_marked : (space : Spaces) (pages : Pages) → SayHeld pages (kept_spaces space) → MarkedBelow space 1 pages pages
none_marked space pages said = record {
  done = λ vol first below. absurd (omega (arith, first, below));
  ahead = λ vol from to. said vol from to;
  change = record { there = λ home. refl; elsewhere = λ home apart. refl; behind = λ vol page far. refl };
}

module _ (space : Spaces) (number : ℕ) (old mid new : Pages) (first : 1 ≤ number) (below : MarkedBelow space number old mid) (says : SaysHeld new number (volume_of space number)) (changes : ChangesBits number (volume_of space number) mid new) where
  says_other : (vol : ℕ) (o : Option VolumeSpace) → (vol ≡ number → ⊥) → SaysHeld mid vol o → SaysHeld new vol o
  says_other vol o other said page within =
      let same = changes.others vol page other in
      (λ marked. (said page within).0 (sym same ∙ marked), λ held. same ∙ (said page within).1 held)

  pub one_more_marked : MarkedBelow space (number + 1) old new
  one_more_marked = record {
    done = λ vol from low. ⊎_elim
        (λ same. subst (λ n. SaysHeld new n (volume_of space n)) (sym same) says)
        (λ other. says_other vol (volume_of space vol) other (below.done vol from (omega (arith, low, other))))
        (cases_eq vol number);
    ahead = λ vol from to. says_other vol (volume_of (kept_spaces space) vol) (λ same. omega (arith, from, same)) (below.ahead vol (omega (arith, from)) to);
    change = record {
      there = λ home. changes.there home ∙ below.change.there home;
      elsewhere = λ home apart. changes.elsewhere home (apart number first) ∙ below.change.elsewhere home apart;
      behind = λ vol page far. ⊎_elim
          (λ same. subst (λ n. is_marked new n page ≡ is_marked mid n page) (sym same) (changes.behind page (subst (λ n. IsPageIn (volume_of space n) page → ⊥) same far)) ∙ below.change.behind vol page far)
          (λ other. changes.others vol page other ∙ below.change.behind vol page far)
          (cases_eq vol number);
    };
  }

-- what is said of it and of a store's room and old pages
pub record MarksOn (space : Spaces) (number : ℕ) (old new : Pages) (room room_now : ℕ) (before before_now : Pages) : Type 0 where
  pub below : MarkedBelow space number old new
  pub first : 1 ≤ number
  pub same_room : room_now ≡ room
  pub same_before : before_now ≡ before

pub all_say : (space : Spaces) (number : ℕ) (old new : Pages) → 9 ≤ number → MarkedBelow space number old new → SayHeld new space
all_say space number old new far below vol first last = below.done vol first (omega (arith, far, last))
