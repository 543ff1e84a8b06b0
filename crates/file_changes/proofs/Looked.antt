-- What there is at a page of a file, by what is told of it.
use Rattle.std.proofs.Common.{◌≡◌, ◌∙◌, ◌<◌, ◌≤◌, ℕ, Some, IsSomeAnd, sym, subst, arith}
use Rattle.std.specs.Option.{option_and_then}
use Rattle.domain_memory.specs.domain_base.declared.place.Home.{Home}
use Rattle.domain_memory.specs.domain_base.declared.place.Tag.{Tag}
use Rattle.domain_memory.specs.extent_maps.declared.run.PagePlace.TheVariants.{Absent, At, Hole}
use Rattle.domain_memory.specs.fileset_files.Files.{Chains, keep_of, of_live, place_at}
use Rattle.domain_memory.specs.fileset_files.Pages.{MayGrow}
use Rattle.file_changes.specs.Stages.{IsPageOf}

module _ (chains : Chains) (tag : Tag) (page keep : ℕ) (kept : option_and_then (of_live keep_of) (chains tag) ≡ Some keep) where
  low : IsSomeAnd (option_and_then (of_live keep_of) (chains tag)) (λ k. page < k) → page < keep
  low is = subst (λ o. IsSomeAnd o (λ k. page < k)) kept is

  high : page < keep → IsSomeAnd (option_and_then (of_live keep_of) (chains tag)) (λ k. page < k)
  high is = subst (λ o. IsSomeAnd o (λ k. page < k)) (sym kept) is

  pub far : keep ≤ page → (¬ MayGrow tag page chains) × (¬ IsPageOf tag page chains)
  far past = ((λ grow. omega (arith, past, low grow.kept)), (λ has. omega (arith, past, low has.kept)))

  pub lacking : page < keep → place_at chains tag page ≡ Absent → MayGrow tag page chains
  lacking within is = record { kept = high within; absent = is }

  pub there : page < keep → (home : Home) → place_at chains tag page ≡ At home → IsPageOf tag page chains
  there within home is = record { kept = high within; home = home; there = is }

-- a hole is neither
pub closed : (chains : Chains) (tag : Tag) (page : ℕ) → place_at chains tag page ≡ Hole → (¬ MayGrow tag page chains) × (¬ IsPageOf tag page chains)
closed chains tag page is = ((λ grow. not_absent (sym is ∙ grow.absent)), (λ has. not_home has.home (sym is ∙ has.there)))
  where
    not_absent : Hole ≡ Absent → ⊥
    not_absent e = cc

    not_home : (home : Home) → Hole ≡ At home → ⊥
    not_home home e = cc
