-- The free space of all volumes, when each was read.
use Rattle.std.proofs.Common.{◌≡◌, ℕ, ◌≤◌, None, length, sym, ap, subst, arith, ⊎_elim}
use Rattle.std.proofs.lemmas.Bool.{cases_lt}
use Rattle.standing_laws.specs.page_store.Pages.{Pages}
use Rattle.standing_laws.specs.free_space.Spaces.{Spaces, no_spaces, volume_of}
use Rattle.standing_laws.specs.domain_layout.Reached.{Frame}
use Rattle.standing_laws.specs.domain_standing.Marks.{IsMarked, IsMarkedAt}
use Rattle.domain_memory.specs.Maps.{IsMarkedBelow}

pub none_read : (pages : Pages) (frame : Frame) (space : Spaces) → space ≡ no_spaces → ((vol : ℕ) → volume_of space vol ≡ None) → IsMarkedBelow pages frame 1 space
none_read pages frame space is absent = record {
  places = ap (λ (s : Spaces). length s.volumes) is;
  read = λ vol first below. absurd (omega (arith, first, below));
  later = λ vol past. absent vol;
}

pub all_read : (pages : Pages) (frame : Frame) (number : ℕ) (space : Spaces) → 9 ≤ number → IsMarkedBelow pages frame number space → IsMarked pages frame space
all_read pages frame number space far read vol first =
    ⊎_elim (λ below. read.read vol first below)
    (λ past. subst (IsMarkedAt pages frame vol) (sym (read.later vol past)) (λ is. omega (arith, past, far, is.last)))
    (cases_lt vol number)
