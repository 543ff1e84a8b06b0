-- What a home shows that was given a frame.
use Rattle.std.proofs.Common.{◌≡◌, ◌∙◌, ℕ, true, List, Option, Some, refl, ap, arith}
use Rattle.std.specs.Option.{option_map}
use Rattle.page_cache.specs.domain_base.declared.place.Home.{Home}
use Rattle.page_cache.specs.page_store.Pages.{same_home}
use Rattle.page_cache.specs.declared.frame.Frame.{Frame}
use Rattle.page_cache.specs.Frames.{Frames, with_frame}

same : (home : Home) → same_home home home ≡ true
same home = grind arith

pub shown : (home : Home) (page : List ℕ) (waits : Option ℕ) (old new : Frames) → new ≡ with_frame home (Some (record { page = page; waits = waits })) old → option_map (λ (f : Frame). f.page) (new home) ≡ Some page
shown home page waits old new is = ap (λ (f : Frames). option_map (λ (f : Frame). f.page) (f home)) is ∙ rw (same home) refl
