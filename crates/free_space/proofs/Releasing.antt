-- The loop that frees what is due.
use Rattle.std.proofs.Common.{◌≡◌, ℕ, ◌+◌, ◌<◌, true, false, List, [], length, take, get_or, sym, ◌∙◌, ap}
use Rattle.std.proofs.lemmas.List.{take_more}
use Rattle.std.specs.FinSet.{remove}
use Rattle.free_space.specs.VolumePages.{VolumePages}
use Rattle.free_space.proofs.Used.{with_used}
use Rattle.free_space.specs.declared.waiting.Waiting.{Waiting}
use Rattle.free_space.specs.declared.waiting.PageUse.{PageUse}
use Rattle.free_space.specs.VolumeSpace.{is_due, without_due}
use Rattle.free_space.proofs.Due.{without_none, without_more, without_later}

pub release_none : (m : VolumePages) (kind : PageUse) (group : ℕ) → m ≡ with_used m (without_due m.used [] kind group)
release_none m kind group = ap (λ s. with_used m s) (sym (without_none kind group m.used))

module _ (first m : VolumePages) (ws : List Waiting) (i : ℕ) (d : Waiting) (kind : PageUse) (group : ℕ) (within : i < length ws)
    (is : m ≡ with_used first (without_due first.used (take i ws) kind group)) where
  pub release_more : is_due kind group (get_or ws i d) ≡ true →
      with_used m (remove m.used (get_or ws i d).page) ≡ with_used first (without_due first.used (take (i + 1) ws) kind group)
  release_more due =
      ap (λ (n : VolumePages). with_used n (remove n.used (get_or ws i d).page)) is
      ∙ ap (λ s. with_used first s)
      (sym (ap (λ l. without_due first.used l kind group) (take_more ws i d within) ∙ without_more kind group first.used (take i ws) (get_or ws i d) due))

  pub release_less : is_due kind group (get_or ws i d) ≡ false → m ≡ with_used first (without_due first.used (take (i + 1) ws) kind group)
  release_less later =
      is
      ∙ ap (λ s. with_used first s)
      (sym (ap (λ l. without_due first.used l kind group) (take_more ws i d within) ∙ without_later kind group first.used (take i ws) (get_or ws i d) later))
